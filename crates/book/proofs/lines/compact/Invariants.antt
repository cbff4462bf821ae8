use Rattle.std.proofs.Common.{◌≡◌, ◌≤◌, Bool, length}
use Rattle.std.proofs.lemmas.List.Filters.{FiltersInPlace}
use Rattle.book.specs.Merits.{Tests}
use Rattle.book.proofs.lines.compact.Given as goal

abbrev pub invariant-loop-i : goal.invariant-loop-i
invariant-loop-i g l = (l.count ≤ l.i) × (length l.items ≡ length l.initial.items) × ((p : g.row.T.Denot → Bool) → Tests g.P.Fn p l.test → FiltersInPlace p l.initial.items l.items l.count l.i)
