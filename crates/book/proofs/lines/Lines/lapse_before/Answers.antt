use Rattle.std.proofs.Common.{rules}
use Rattle.book.proofs.lines.Lines.lapse_before.Goals as goal

pub returns-clause-lapsed : goal.returns-clause-lapsed
returns-clause-lapsed c = c.retain.ensures.kept _ (λ order answer k. search rules)
