-- The merit of orders by limit and number. Assumes nothing.
use Rattle.std.specs.Prelude.{Bool, cond, ◌&&◌, ◌==◌, nat_lt}
use Rattle.book.specs.Orders.{on_side}
use Rattle.book.specs.declared.order.Order.{Order}
use Rattle.book.specs.declared.order.Side.TheVariants.{Buy}

-- on one side the better limit, which for a buy is the higher and for a sell the lower; of equal limits the lower number
abbrev pub ahead : Order → Order → Bool
ahead a b =
    (a.side == b.side)
    && cond (a.limit == b.limit) (nat_lt a.number b.number) (cond (on_side Buy a) (nat_lt b.limit a.limit) (nat_lt a.limit b.limit))
