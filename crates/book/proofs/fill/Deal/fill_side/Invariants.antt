use Rattle.book.proofs.Filling.{Filling}
use Rattle.book.proofs.fill.Deal.fill_side.Given as goal

abbrev pub invariant-loop-count : goal.invariant-loop-count
invariant-loop-count g l = Filling (g.M.Merit.before l.self.merit.now) l.self.book.lines.now l.side l.self.price l.initial.fills l.fills l.self.trading l.last l.rest l.count
