use Rattle.std.proofs.Common.{◌≡◌, true, false, sym, ◌∙◌}
use Rattle.book.specs.Sounds.{standing}
use Rattle.book.proofs.Standing.{standing_on, standing_stops, standing_all, book_is}
use Rattle.book.proofs.sound.stand.Goals as goal

pub returns-then-not-follows : goal.returns-then-not-follows
returns-then-not-follows c =
    let test : false ≡ standing 0 c.args.next c.args.lines.now = sym (standing_stops c.loop-line.last c.args.next c.args.lines.now c.loop-line.line-index c.loop-line-test.true (sym c.if-not-follows.ensures)) ∙ c.loop-line.invariant in
    record { test = test; book = λ few. test ∙ book_is c.args.next c.args.lines.now few }

pub loop-line-preserved : goal.loop-line-preserved
loop-line-preserved c = sym (standing_on c.loop-line.last c.args.next c.args.lines.now c.loop-line.line-index c.loop-line-test.true (sym c.if-not-follows.ensures)) ∙ c.loop-line.invariant

pub returns : goal.returns
returns c =
    let test : true ≡ standing 0 c.args.next c.args.lines.now = sym (standing_all c.loop-line.last c.args.next c.args.lines.now c.loop-line.line-index c.loop-line-test.false) ∙ c.loop-line.invariant in
    record { test = test; book = λ few. test ∙ book_is c.args.next c.args.lines.now few }
