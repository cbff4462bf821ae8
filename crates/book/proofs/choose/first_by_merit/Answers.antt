use Rattle.std.proofs.Common.{rules}
use Rattle.book.proofs.choose.first_by_merit.Goals as goal

pub returns : goal.returns
returns g c = c.first_among.ensures.first (g.E.Test.passed c.args.eligible.now) (λ item answer k. search rules)
