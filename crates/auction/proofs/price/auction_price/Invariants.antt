use Rattle.auction.proofs.Improving.{Searched}
use Rattle.auction.proofs.price.auction_price.Given as goal

abbrev pub invariant-loop-line : goal.invariant-loop-line
invariant-loop-line g l = Searched (g.L.Ladder.rungs l.ladder) l.fn.book.lines.now l.reference l.line-index l.best
