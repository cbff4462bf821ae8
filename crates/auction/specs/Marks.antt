-- The merit of rungs. Assumes nothing.
use Rattle.std.specs.Prelude.{ℕ, Bool, false, cond, not, List, Some, None, Option, ◌==◌, nat_lt}
use Rattle.terms.specs.Prices.{distance}
use Rattle.book.specs.Depths.{trading, surplus}
use Rattle.book.specs.declared.order.Order.{Order}
use Rattle.auction.specs.declared.mark.RungMark.{RungMark}

-- more shares trade; of equal ones the smaller surplus, then the nearer to the reference, then the higher price
abbrev pub ahead : RungMark → RungMark → Bool
ahead a b =
    cond (a.shares == b.shares)
    (cond (a.surplus == b.surplus)
    (cond (a.distance == b.distance) (nat_lt b.price a.price) (nat_lt a.distance b.distance))
    (nat_lt a.surplus b.surplus))
    (nat_lt b.shares a.shares)

-- the mark of a rung (our word): what would trade there
abbrev pub mark : List Order → ℕ → ℕ → RungMark
mark lines reference price = record { price = price; shares = trading lines price; surplus = surplus lines price; distance = distance price reference }

-- the rung p comes before the rung q
abbrev pub before : List Order → ℕ → ℕ → ℕ → Bool
before lines reference p q = ahead (mark lines reference p) (mark lines reference q)

-- ---- rungs and marks that may be missing
abbrev pub marked : List Order → ℕ → Option ℕ → Option RungMark
marked lines reference None = None
marked lines reference (Some p) = Some (mark lines reference p)

abbrev pub price_of : Option RungMark → Option ℕ
price_of None = None
price_of (Some m) = Some m.price

abbrev pub shares_of : Option RungMark → ℕ
shares_of None = 0
shares_of (Some m) = m.shares

-- there is a mark, and a share trades
abbrev pub trades : Option RungMark → Bool
trades None = false
trades (Some a) = nat_lt 0 a.shares

abbrev pub leads : Option RungMark → Option RungMark → Bool
leads (Some a) (Some b) = ahead a b
leads (Some a) None = false
leads None b = false

-- two marks are told apart by their prices
abbrev pub mark_apart : RungMark → RungMark → Bool
mark_apart a b = not (a.price == b.price)
