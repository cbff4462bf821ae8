-- The turn of an order. Assumes nothing.
use Rattle.std.specs.Prelude.{ℕ, ◌+◌, cond}
use Rattle.book.specs.Orders.{on_side}
use Rattle.book.specs.declared.order.Order.{Order}
use Rattle.book.specs.declared.order.Side.TheVariants.{Buy}

-- our word for the lowest price at which an order stops or starts to accept; it brings the same shares at all prices
-- below its turn, and the same at all others
abbrev pub turn : Order → ℕ
turn x = cond (on_side Buy x) (x.limit + 1) x.limit
