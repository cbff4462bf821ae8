use Rattle.std.proofs.Common.{◌∙◌, arith, rules}
use Rattle.std.proofs.lemmas.List.{set-get_or}
use Rattle.book.specs.Fills.{waits}
use Rattle.book.specs.Orders.{told_apart}
use Rattle.book.proofs.Orderings.{Ordering}
use Rattle.book.proofs.Filling.{filling_more, filled_dealt, filled_none}
use Rattle.book.proofs.Standing.{book_stands}
use Rattle.book.proofs.fill.Deal.fill_side.Given as given
use Rattle.book.proofs.fill.Deal.fill_side.Goals as goal

ranks : (g : given.Over) (merit : g.row.M.Denot) → Ordering (g.M.Merit.before merit) told_apart
ranks g merit = record { never_itself = g.met.M.Merit.never_itself merit; one_first = g.met.M.Merit.one_first merit; carries = g.met.M.Merit.carries merit }

pub returns-then-rest-eq0 : goal.returns-then-rest-eq0
returns-then-rest-eq0 g c =
    let done = filled_dealt c.loop-count.invariant c.requires c.if-rest-eq0.true in
    record { within = omega arith; count = done.count_is; written = set-get_or _ _ _ ∙ done.fills_are }

pub returns-in_default : goal.returns-in_default
returns-in_default g c =
    let nobody = c.in_default.ensures.first (waits (g.M.Merit.before c.args.self.now.merit.now) c.args.side c.args.self.now.price c.loop-count.last) (λ order answer k. search rules) in
    let done = filled_none c.loop-count.invariant c.requires nobody in
    record { within = omega arith; count = done.count_is; written = set-get_or _ _ _ ∙ done.fills_are }

pub loop-count-preserved : goal.loop-count-preserved
loop-count-preserved g c =
    let book = c.args.self.now.book in
    let first = c.in-Some.ensures.first (waits (g.M.Merit.before c.args.self.now.merit.now) c.args.side c.args.self.now.price c.loop-count.last) (λ order answer k. search rules) in
    rw c.gets-shares.ensures (filling_more c.loop-count.invariant c.requires (ranks g _) (book_stands book.next book.lines.now book.sound).apart _ first (omega arith))
