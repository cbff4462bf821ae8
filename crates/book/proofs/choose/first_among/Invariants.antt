use Rattle.std.proofs.Common.{◌<◌, Bool}
use Rattle.std.specs.Option.{IfSome}
use Rattle.book.specs.Merits.{Chosen, Tests}
use Rattle.book.proofs.choose.first_among.Given as goal

abbrev pub invariant-loop-i : goal.invariant-loop-i
invariant-loop-i g l = IfSome l.first (λ best. best < l.i) × ((test : g.row.T.Denot → Bool) → Tests g.E.Fn test l.eligible → Chosen test (g.M.Merit.before l.merit) l.items l.i l.first)
