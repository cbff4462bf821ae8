use Rattle.std.proofs.Common.{arith}
use Rattle.book.specs.declared.order.Side.TheVariants.{Buy, Sell}
use Rattle.book.proofs.Depths.{depth_fits}
use Rattle.book.proofs.Standing.{book_stands}
use Rattle.book.proofs.sound.Book.depth.Goals as goal

pub overflow_add-bid : goal.overflow_add-bid
overflow_add-bid c =
    let book = c.args.self.now in
    let le = depth_fits Buy c.args.price book.lines.now c.loop-line.line-index c.loop-line.bid c.shares_at-bid.result c.loop-line-test.true c.loop-line.invariant.0 c.shares_at-bid.ensures (book_stands book.next book.lines.now book.sound) in
    omega arith

pub overflow_add-offered : goal.overflow_add-offered
overflow_add-offered c =
    let book = c.args.self.now in
    let le = depth_fits Sell c.args.price book.lines.now c.loop-line.line-index c.loop-line.offered c.shares_at-offered.result c.loop-line-test.true c.loop-line.invariant.1 c.shares_at-offered.ensures (book_stands book.next book.lines.now book.sound) in
    omega arith
