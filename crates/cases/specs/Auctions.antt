-- Worked cases of auctions. Assumes nothing.
use Rattle.std.specs.Prelude.{◌≡◌, ℕ, ◌+◌, List, [], ◌∷◌, Some, None}
use Rattle.ladder.specs.Bands.{banded}
use Rattle.book.specs.Depths.{trading}
use Rattle.book.specs.Fills.{all_fills}
use Rattle.book.specs.Orders.{side_number}
use Rattle.book.specs.PriceTimes.{ahead}
use Rattle.book.specs.declared.fill.Fill.{Fill}
use Rattle.book.specs.declared.order.Order.{Order}
use Rattle.book.specs.declared.order.Side.{Side}
use Rattle.book.specs.declared.order.Side.TheVariants.{Buy, Sell}
use Rattle.auction.specs.Auctions.{auction_price}

abbrev pub order : ℕ → Side → ℕ → ℕ → Order
order number side limit shares = record { number = number; member = 10 + number; side = side_number side; limit = limit; entered = shares; left = shares; last_day = 20240105 }

abbrev pub fill : ℕ → ℕ → Fill
fill number shares = record { number = number; shares = shares }

-- a buy and a sell of 100 shares that meet at all rungs from 99,000 to 101,000
abbrev pub crossed : List Order
crossed = order 1 Buy 101000 100 ∷ order 2 Sell 99000 100 ∷ []

-- the four orders of the rules' example
abbrev pub four : List Order
four = order 1 Buy 102000 100 ∷ order 2 Buy 100000 50 ∷ order 3 Sell 99800 80 ∷ order 4 Sell 101000 120 ∷ []

pub record AuctionCases : Type 0 where
  -- 100,000 and 100,500 are equally near to 100,250, and no order has either as its limit
  pub tie : auction_price (banded 2) crossed 100250 8 ≡ Some 100500
  -- buys alone
  pub buys : auction_price (banded 2) (order 1 Buy 101000 100 ∷ order 2 Buy 102000 50 ∷ []) 100000 8 ≡ None
  -- four orders, 8 percent about 100,000
  pub price : auction_price (banded 2) four 100000 8 ≡ Some 101000
  pub shares : trading four 101000 ≡ 100
  pub fills : all_fills ahead 101000 100 four ≡ fill 1 100 ∷ fill 3 80 ∷ fill 4 20 ∷ []
