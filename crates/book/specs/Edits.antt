-- Edits of the order lines. Assumes nothing.
use Rattle.std.specs.Prelude.{◌≡◌, ℕ, ◌-◌, ◌≤◌, Bool, not, List, [], ◌∷◌, ◌++◌, map, length, take, drop, replicate, Ok, Err, filter, Result, ◌==◌, nat_le, nat_lt}
use Rattle.terms.specs.declared.refusal.Refusal.{Refusal}
use Rattle.book.specs.Fills.{gained}
use Rattle.book.specs.declared.fill.Fill.{Fill}
use Rattle.book.specs.declared.order.Order.{Order}

-- of items of which the first `used` were in use, `count` are now: `standing`, in their order; the places freed are blank, and the rest is as it was
pub record Leaves {X : Type 0} (blank : X) (used : ℕ) (entry standing : List X) (count : ℕ) (exit : List X) : Type 0 where
  pub count_is : count ≡ length standing
  pub within : count ≤ used
  pub stands : take count exit ≡ standing
  pub freed : drop count exit ≡ replicate (length (take used entry) - count) blank ++ drop used entry

-- ---- what stands after an edit
-- the last day is not before a day
abbrev pub lasts_to : ℕ → Order → Bool
lasts_to day x = nat_le day x.last_day

abbrev pub lapsed : ℕ → List Order → List Order
lapsed day xs = filter (lasts_to day) xs

-- the last day is that day
abbrev pub ends_on : ℕ → Order → Bool
ends_on day x = x.last_day == day

abbrev pub ended : ℕ → List Order → List Order
ended day xs = filter (λ x. not (ends_on day x)) xs

abbrev pub other_than : ℕ → Order → Bool
other_than number x = not (x.number == number)

abbrev pub without : ℕ → List Order → List Order
without number xs = filter (other_than number) xs

-- an order with its fills taken off
abbrev pub less_fills : List Fill → Order → Order
less_fills fills x = record { number = x.number; member = x.member; side = x.side; limit = x.limit; entered = x.entered; left = x.left - gained x.number fills; last_day = x.last_day }

abbrev pub is_unfilled : Order → Bool
is_unfilled x = nat_lt 0 x.left

-- fills taken off, and orders that are filled whole gone
abbrev pub posted : List Fill → List Order → List Order
posted fills xs = filter is_unfilled (map (less_fills fills) xs)

-- an order behind those that stood; a refusal leaves all as it was
abbrev pub Entered : ℕ → Order → List Order → Result ℕ Refusal → List Order → Type 0
Entered used order entry (Ok n) exit = (take n exit ≡ take used entry ++ (order ∷ [])) × (drop n exit ≡ drop n entry)
Entered used order entry (Err why) exit = exit ≡ entry
