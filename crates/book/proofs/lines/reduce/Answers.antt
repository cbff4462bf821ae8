use Rattle.std.proofs.Common.{get_or, arith}
use Rattle.std.proofs.lemmas.List.Edits.{map_over_more}
use Rattle.std.proofs.lemmas.List.{get_or_default}
use Rattle.book.specs.Edits.{less_fills}
use Rattle.book.specs.Orders.{free}
use Rattle.book.proofs.lines.reduce.Goals as goal

pub loop-line-preserved : goal.loop-line-preserved
loop-line-preserved c =
    let i = c.loop-line.line-index in
    let ys = c.loop-line.lines in
    let x = get_or ys i free in
    rw c.less_fills-line.ensures (map_over_more (less_fills c.args.fills.now) c.args.lines.now ys i x (omega arith) c.loop-line.invariant (get_or_default ys i free x (omega arith)))
