use Rattle.std.proofs.Common.{arith, rules}
use Rattle.book.specs.Edits.{is_unfilled}
use Rattle.book.proofs.lines.Lines.settle.Goals as goal

pub returns-clause-settled : goal.returns-clause-settled
returns-clause-settled c = let kept = c.retain.ensures.kept is_unfilled (λ order answer k. search rules) in grind arith
