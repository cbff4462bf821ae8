-- Depth: what would trade at a price. Assumes nothing.
use Rattle.std.specs.Prelude.{ℕ, min, List, sum_by}
use Rattle.terms.specs.Prices.{distance}
use Rattle.book.specs.Orders.{shares_at}
use Rattle.book.specs.declared.order.Order.{Order}
use Rattle.book.specs.declared.order.Side.{Side}
use Rattle.book.specs.declared.order.Side.TheVariants.{Buy, Sell}

-- the shares left of all orders of a side that accept a price
abbrev pub depth_on : Side → List Order → ℕ → ℕ
depth_on side lines price = sum_by (shares_at side price) lines

abbrev pub bid : List Order → ℕ → ℕ
bid lines price = depth_on Buy lines price

abbrev pub offered : List Order → ℕ → ℕ
offered lines price = depth_on Sell lines price

-- the shares that trade
abbrev pub trading : List Order → ℕ → ℕ
trading lines price = min (bid lines price) (offered lines price)

-- the size of the surplus
abbrev pub surplus : List Order → ℕ → ℕ
surplus lines price = distance (bid lines price) (offered lines price)
