use Rattle.std.proofs.Common.{◌≡◌, drop}
use Rattle.book.specs.Sounds.{standing}
use Rattle.book.proofs.sound.stand.Given as goal

abbrev pub invariant-loop-line : goal.invariant-loop-line
invariant-loop-line l = standing l.last l.next (drop l.line-index l.lines) ≡ standing 0 l.next l.lines
