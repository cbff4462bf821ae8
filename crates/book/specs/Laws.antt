-- What the definitions amount to. Assumes nothing.
use Rattle.std.specs.Prelude.{◌≡◌, ℕ, ◌+◌, ◌<◌, Bool, true, List, length, take, Ok, filter}
use Rattle.std.specs.List.{Contains}
use Rattle.book.specs.Edits.{Entered, Leaves, posted}
use Rattle.book.specs.Fills.{all_fills, gained}
use Rattle.book.specs.Orders.{free}
use Rattle.book.specs.PriceTimes.{ahead}
use Rattle.book.specs.Sounds.{in_range, is_book, is_sound}
use Rattle.book.specs.declared.fill.Fill.{Fill}
use Rattle.book.specs.declared.order.Order.{Order}

-- whatever orders are taken out, sound lines stay sound
abbrev pub RemovalSound : Type 0
RemovalSound = (p : Order → Bool) (used next count : ℕ) (entry exit : List Order) → is_sound used next entry ≡ true → Leaves free used entry (filter p (take used entry)) count exit → is_sound count next exit ≡ true

-- and so they do whatever fills are taken off
abbrev pub PostingSound : Type 0
PostingSound = (fills : List Fill) (used next count : ℕ) (entry exit : List Order) → is_sound used next entry ≡ true → Leaves free used entry (posted fills (take used entry)) count exit → is_sound count next exit ≡ true

-- and where an order in range is entered under the next number, not 0, and the number after it comes next
abbrev pub EntrySound : Type 0
EntrySound = (order : Order) (used next : ℕ) (entry exit : List Order) → is_sound used next entry ≡ true → used < length entry → 0 < next → order.number ≡ next → in_range order ≡ true → Entered used order entry (Ok (used + 1)) exit → is_sound (used + 1) (next + 1) exit ≡ true

-- by price and time, whatever an order accepts: if one behind it gains a share, it is filled whole
abbrev pub PriorityKept : Type 0
PriorityKept = (next price trading : ℕ) (lines : List Order) → is_book next lines ≡ true → (a b : Order) → Contains lines a → Contains lines b → ahead a b ≡ true → 0 < gained b.number (all_fills ahead price trading lines) → gained a.number (all_fills ahead price trading lines) ≡ a.left
