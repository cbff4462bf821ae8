-- Priority by price and time is kept among all orders of a side. Assumes nothing.
use Rattle.std.proofs.Common.{◌≡◌, ℕ, ◌<◌, true, false, List, ⊎_elim, arith, rules}
use Rattle.std.specs.List.{Contains}
use Rattle.std.proofs.lemmas.Bool.{cases_Bool}
use Rattle.book.specs.Fills.{all_fills, gained}
use Rattle.book.specs.Laws.{PriorityKept}
use Rattle.book.specs.Orders.{accepts, told_apart}
use Rattle.book.specs.PriceTimes.{ahead}
use Rattle.book.specs.declared.order.Order.{Order}
use Rattle.book.specs.declared.order.Side.{Side}
use Rattle.book.specs.declared.order.Side.TheVariants.{Buy, Sell}
use Rattle.book.proofs.Fairness.{fills_fair, gained_all}
use Rattle.book.proofs.Orderings.{Ordering}
use Rattle.book.proofs.Rankings.{Contains-filter}
use Rattle.book.proofs.Sides.{fills_held, held_lost}
use Rattle.book.proofs.Standing.{Standing, book_stands}

price_time : Ordering ahead told_apart
price_time = record { never_itself = λ x. search rules; one_first = λ x y h. search rules; carries = λ x y z h k. search rules }

-- the better limit accepts what the other accepts
better_accepts : (side : Side) (price : ℕ) (a b : Order) → ahead a b ≡ true → accepts side price b ≡ true → accepts side price a ≡ true
better_accepts Buy price a b h k = search rules
better_accepts Sell price a b h k = search rules

module _ (price trading : ℕ) (lines : List Order) (stand : Standing lines) (a b : Order) (ia : Contains lines a) (ib : Contains lines b) (front : ahead a b ≡ true) (gains : 0 < gained b.number (all_fills ahead price trading lines)) where
  on_side_lem : (side : Side) → accepts side price b ≡ true → gained a.number (all_fills ahead price trading lines) ≡ a.left
  on_side_lem side h =
      (fills_fair price_time price trading lines stand).in_turn side a b
      (Contains-filter (accepts side price) lines a (better_accepts side price a b front h) ia) (Contains-filter (accepts side price) lines b h ib) front gains

  filled_whole : gained a.number (all_fills ahead price trading lines) ≡ a.left
  filled_whole =
      ⊎_elim
      (on_side_lem Buy)
      (λ (not-buy : accepts Buy price b ≡ false). ⊎_elim
      (on_side_lem Sell)
      (λ (not-sell : accepts Sell price b ≡ false). absurd (omega (
        arith,
        gains,
        gained_all price_time price trading lines stand b.number,
        fills_held ahead Buy price trading b.number lines,
        fills_held ahead Sell price trading b.number lines,
        held_lost (accepts Buy price) b lines stand.apart ib not-buy,
        held_lost (accepts Sell price) b lines stand.apart ib not-sell,
      )))
      (cases_Bool (accepts Sell price b)))
      (cases_Bool (accepts Buy price b))

pub priority_kept : PriorityKept
priority_kept next price trading lines book a b ia ib front gains = filled_whole price trading lines (book_stands next lines book) a b ia ib front gains
