use Rattle.std.proofs.Common.{sym, arith}
use Rattle.std.proofs.lemmas.List.Filters.{FiltersInPlace-more_set, FiltersInPlace-more_no}
use Rattle.book.proofs.lines.compact.Goals as goal
use Rattle.book.proofs.lines.compact.Goals.{then-test, else-test}

pub loop-i-preserved : goal.loop-i-preserved
loop-i-preserved g c = (
  grind arith,
  grind arith,
  λ passed tells.
      elim c.if-test.branch [
        | then-test w ↦ rw (w.items-is, w.count-is, w.keep-count.ensures.kept, w.keep-count.ensures.next) (FiltersInPlace-more_set {x = c.index-items-i.result} (c.loop-i.invariant.2 passed tells) (omega arith) (sym (tells _ _ w.if-test.ensures)) c.index-items-i.is)
        | else-test w ↦ rw (w.items-is, w.count-is) (FiltersInPlace-more_no {x = c.index-items-i.result} (c.loop-i.invariant.2 passed tells) (omega arith) (sym (tells _ _ w.if-test.ensures)) c.index-items-i.is)
      ],
)
