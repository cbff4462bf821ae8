-- Fills: how the trading shares are dealt out. Assumes nothing.
use Rattle.std.specs.Prelude.{◌≡◌, ℕ, ◌-◌, ◌<◌, ◌≤◌, min, Bool, true, cond, not, ◌&&◌, List, [], ◌∷◌, ◌++◌, drop, Some, None, Ok, Err, sum_by, filter, Option, Result, ◌==◌}
use Rattle.std.specs.List.{All, Contains}
use Rattle.terms.specs.declared.refusal.Refusal.{Refusal}
use Rattle.book.specs.Depths.{trading as trading_at}
use Rattle.book.specs.Orders.{accepts}
use Rattle.book.specs.Ranked.{ranked}
use Rattle.book.specs.declared.fill.Fill.{Fill}
use Rattle.book.specs.declared.order.Order.{Order}
use Rattle.book.specs.declared.order.Side.{Side}
use Rattle.book.specs.declared.order.Side.TheVariants.{Buy, Sell}

-- the orders of a side that accept a price
abbrev pub accepting : Side → ℕ → List Order → List Order
accepting side price lines = filter (accepts side price) lines

-- shares dealt out to orders one after the other: each gets as many as it has left, until none are left to deal
abbrev pub dealt : ℕ → List Order → List Fill
dealt shares [] = []
dealt shares (x ∷ xs) = cond (shares == 0) [] (record { number = x.number; shares = min shares x.left } ∷ dealt (shares - x.left) xs)

-- the fills of a side, under any merit
abbrev pub fills_of : (Order → Order → Bool) → Side → ℕ → ℕ → List Order → List Fill
fills_of before side price trading lines = dealt trading (ranked before (accepting side price lines))

-- those of the buys, then those of the sells
abbrev pub all_fills : (Order → Order → Bool) → ℕ → ℕ → List Order → List Fill
all_fills before price trading lines = fills_of before Buy price trading lines ++ fills_of before Sell price trading lines

-- the records after fills were written, or refused; those behind them are as they were
abbrev pub recorded : Result ℕ Refusal → List Fill → List Fill → List Fill
recorded (Ok n) fills records = fills ++ drop n records
recorded (Err why) fills records = records

abbrev pub shares_in : List Fill → ℕ
shares_in fills = sum_by (λ f. f.shares) fills

-- the shares that the order of a number gains
abbrev pub gained : ℕ → List Fill → ℕ
gained number fills = sum_by (λ f. cond (f.number == number) f.shares 0) fills

-- what is true of the fills of a book, whatever the merit
pub record Fair (before : Order → Order → Bool) (price trading : ℕ) (lines : List Order) : Type 0 where
  -- where as many shares trade at the price, each side is filled by exactly these
  pub exact : trading ≤ trading_at lines price → (side : Side) → shares_in (fills_of before side price trading lines) ≡ trading
  -- nobody behind an order gains unless the order is filled whole
  pub in_turn : (side : Side) (a b : Order) → Contains (accepting side price lines) a → Contains (accepting side price lines) b → before a b ≡ true → 0 < gained b.number (all_fills before price trading lines) → gained a.number (all_fills before price trading lines) ≡ a.left
  -- no order gains more than it has left
  pub most : (x : Order) → Contains lines x → gained x.number (all_fills before price trading lines) ≤ x.left
  -- only orders that gain a share have a record
  pub some : All (λ f. 0 < f.shares) (all_fills before price trading lines)

-- ---- for the code
-- x comes after the last order served, if one was
abbrev pub after : (Order → Order → Bool) → Option Order → Order → Bool
after before None x = true
after before (Some last) x = before last x

abbrev pub waits : (Order → Order → Bool) → Side → ℕ → Option Order → Order → Bool
waits before side price last x = after before last x && accepts side price x
