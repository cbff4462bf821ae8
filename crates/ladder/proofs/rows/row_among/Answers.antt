use Rattle.std.proofs.Common.{rules}
use Rattle.ladder.proofs.TickRows.{Found, there}
use Rattle.ladder.proofs.rows.row_among.Goals as goal

pub returns : goal.returns
returns c =
    let found : Found c.args.rows.now c.requires c.args.p c.rposition.result = search rules in
    rw c.unwrap_or.ensures (there c.args.rows.now c.requires c.args.p c.rposition.result _ found)
