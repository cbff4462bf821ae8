use Rattle.std.proofs.Common.{◌≡◌, ◌-◌, take}
use Rattle.book.specs.Fills.{gained}
use Rattle.book.proofs.lines.less_fills.Given as goal

abbrev pub invariant-loop-fill : goal.invariant-loop-fill
invariant-loop-fill l = l.rest ≡ l.left - gained l.number (take l.fill-index l.fills)
