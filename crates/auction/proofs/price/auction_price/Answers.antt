use Rattle.book.specs.Orders.{free}
use Rattle.book.proofs.Standing.{book_stands}
use Rattle.auction.proofs.Answering.{answers, is_marked, is_from_best}
use Rattle.auction.proofs.Improving.{one_searched, all_searched}
use Rattle.auction.proofs.Passing.{best_trades_most, best_tied, best_can_trade}
use Rattle.auction.proofs.price.auction_price.Goals as goal

pub around_turn-best-requires : goal.around_turn-best-requires
around_turn-best-requires g c =
    let book = c.args.book.now in
    ((book_stands book.next book.lines.now book.sound).each c.loop-line.line-index free c.loop-line-test.true).priced

pub loop-line-preserved : goal.loop-line-preserved
loop-line-preserved g c = one_searched _ _ _ _ _ _ c.loop-line-test.true c.loop-line.invariant c.around_turn-best.ensures

pub returns : goal.returns
returns g c =
    let rungs = g.L.Ladder.rungs c.args.ladder.now in
    let lines = c.args.book.now.lines.now in
    let r = c.args.reference in
    let found = c.loop-line.best in
    let right = c.loop-line.invariant.rightly in
    let behind = all_searched rungs lines r c.loop-line.line-index found c.loop-line-test.false c.loop-line.invariant in
    record {
      searched = answers rungs lines r found right behind;
      promised = record {
        mark = is_marked rungs lines r found right;
        first = is_from_best rungs lines r found right behind;
        most = best_trades_most rungs lines r found behind;
        tied = best_tied rungs lines r found behind;
        can = best_can_trade rungs lines r found right;
      };
    }
