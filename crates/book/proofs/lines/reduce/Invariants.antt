use Rattle.std.proofs.Common.{◌≡◌, ◌++◌, map, take, drop}
use Rattle.book.specs.Edits.{less_fills}
use Rattle.book.proofs.lines.reduce.Given as goal

abbrev pub invariant-loop-line : goal.invariant-loop-line
invariant-loop-line l = l.lines ≡ map (less_fills l.fills) (take l.line-index l.initial.lines) ++ drop l.line-index l.initial.lines
