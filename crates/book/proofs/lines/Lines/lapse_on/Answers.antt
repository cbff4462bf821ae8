use Rattle.std.proofs.Common.{rules}
use Rattle.book.proofs.lines.Lines.lapse_on.Goals as goal

pub returns-clause-ended : goal.returns-clause-ended
returns-clause-ended c = c.retain.ensures.kept _ (λ order answer k. search rules)
