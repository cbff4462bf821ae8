use Rattle.auction.proofs.Improving.{improves}
use Rattle.auction.proofs.price.Search.improved.Goals as goal

pub returns : goal.returns
returns g c = improves _ _ _ _ _ _ _ _ c.next_to-below.ensures.below c.next_to-below.ensures.above _ (rw (c.weighed.ensures, c.weighed-2.ensures) at c.foremost_of.ensures)
