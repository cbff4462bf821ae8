-- Edits of lines that say how many are in use. Assumes nothing.
use Rattle.std.specs.Prelude.{◌≡◌, ◌+◌, List, take, Ok, Err, Result}
use Rattle.terms.specs.declared.refusal.Refusal.{Refusal}
use Rattle.book.specs.Edits.{Entered, Leaves}
use Rattle.book.specs.Orders.{free}
use Rattle.book.specs.declared.lines.Lines.{Lines}
use Rattle.book.specs.declared.order.Order.{Order}

abbrev pub in_use : Lines → List Order
in_use lines = take lines.used lines.slots.now

-- `standing` are in use, in their order; the lines freed are blank, and the rest is as it was
abbrev pub Left : Lines → List Order → Lines → Type 0
Left entry standing exit = Leaves free entry.used entry.slots.now standing exit.used exit.slots.now

-- an order behind those in use, which are one more; a refusal leaves all as it was
abbrev pub Appended : Order → Lines → Result (Unit {0}) Refusal → Lines → Type 0
Appended order entry (Ok _) exit = (exit.used ≡ entry.used + 1) × Entered entry.used order entry.slots.now (Ok exit.used) exit.slots.now
Appended order entry (Err why) exit = (exit.used ≡ entry.used) × Entered entry.used order entry.slots.now (Err why) exit.slots.now
