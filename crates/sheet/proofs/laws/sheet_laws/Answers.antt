use Rattle.sheet.proofs.Summing.{average_of_period}
use Rattle.sheet.proofs.laws.sheet_laws.Goals as goal

pub returns-clause-between : goal.returns-clause-between
returns-clause-between c = average_of_period
