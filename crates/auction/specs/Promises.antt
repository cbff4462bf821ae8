-- What holds of the answer to an auction. Assumes nothing.
use Rattle.std.specs.Prelude.{◌≡◌, ℕ, List, Option}
use Rattle.ladder.specs.Rungs.{Rungs}
use Rattle.book.specs.declared.order.Order.{Order}
use Rattle.auction.specs.Auctions.{IsAuction}
use Rattle.auction.specs.Marks.{marked, price_of}
use Rattle.auction.specs.Passages.{MostTrades, LeastSurplus, CanTrade}
use Rattle.auction.specs.declared.mark.RungMark.{RungMark}

pub record Promised (rungs : Rungs) (lines : List Order) (reference : ℕ) (answer : Option RungMark) : Type 0 where
  -- it is the mark of its price
  pub mark : answer ≡ marked lines reference (price_of answer)
  -- its price is the one that the statement determines
  pub first : IsAuction rungs lines reference (price_of answer)
  -- no trades at a rung move more shares; those that move as many leave no smaller surplus
  pub most : MostTrades rungs lines answer
  pub tied : LeastSurplus rungs lines answer
  -- its shares can be traded
  pub can : CanTrade lines answer
