use Rattle.book.specs.Orders.{told_apart}
use Rattle.book.proofs.Fairness.{fills_fair}
use Rattle.book.proofs.Orderings.{Ordering}
use Rattle.book.proofs.Standing.{book_stands}
use Rattle.book.proofs.fill.Deal.fill_both.Goals as goal

pub returns-clause-fair : goal.returns-clause-fair
returns-clause-fair g c =
    let deal = c.args.self.now in
    let merit = deal.merit.now in
    let laws = g.met.M.Merit in
    let ranks : Ordering (g.M.Merit.before merit) told_apart = record { never_itself = laws.never_itself merit; one_first = laws.one_first merit; carries = laws.carries merit } in
    fills_fair ranks deal.price deal.trading deal.book.lines.now (book_stands deal.book.next deal.book.lines.now deal.book.sound)
