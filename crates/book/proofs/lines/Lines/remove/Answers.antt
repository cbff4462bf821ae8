use Rattle.std.proofs.Common.{rules}
use Rattle.book.proofs.lines.Lines.remove.Goals as goal

pub returns-clause-removed : goal.returns-clause-removed
returns-clause-removed c = c.retain.ensures.kept _ (λ order answer k. search rules)
