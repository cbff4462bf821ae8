-- Orders: which prices they accept, and how many shares they bring there. Assumes nothing.
use Rattle.std.specs.Prelude.{ℕ, Bool, cond, not, ◌&&◌, ◌==◌, nat_le}
use Rattle.book.specs.declared.order.Order.{Order}
use Rattle.book.specs.declared.order.Side.{Side}
use Rattle.book.specs.declared.order.Side.TheVariants.{Buy, Sell}

-- the number that stands for a side in an order line
abbrev pub side_number : Side → ℕ
side_number Buy = 1
side_number Sell = 2

abbrev pub on_side : Side → Order → Bool
on_side side x = x.side == side_number side

-- a buy goes up to its limit, a sell down to it
abbrev pub within_limit : Side → ℕ → ℕ → Bool
within_limit Buy limit price = nat_le price limit
within_limit Sell limit price = nat_le limit price

-- an order of the side that accepts the price
abbrev pub accepts : Side → ℕ → Order → Bool
accepts side price x = on_side side x && within_limit side x.limit price

-- the shares that an order brings to a side at a price
abbrev pub shares_at : Side → ℕ → Order → ℕ
shares_at side price x = cond (accepts side price x) x.left 0

-- orders of one side are told apart by their numbers
abbrev pub told_apart : Order → Order → Bool
told_apart x y = x.side == y.side && not (x.number == y.number)

-- a line that is not in use
abbrev pub free : Order
free = record { number = 0; member = 0; side = 0; limit = 0; entered = 0; left = 0; last_day = 0 }
