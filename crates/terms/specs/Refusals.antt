-- Refusals: their numbers, and what a refused value means. Assumes nothing.
use Rattle.std.specs.Prelude.{◌≡◌, ℕ, Bool, true, false, Ok, Err, Result}
use Rattle.terms.specs.declared.refusal.Refusal.{Refusal}
use Rattle.terms.specs.declared.refusal.Refusal.TheVariants.{Parameter, InvalidDate, UnsoundLines, TooFewRecords, NotLater, NoFreeLine}

-- the number that a caller receives
abbrev pub number_of : Refusal → ℕ
number_of Parameter = 2
number_of InvalidDate = 3
number_of UnsoundLines = 4
number_of TooFewRecords = 7
number_of NotLater = 11
number_of NoFreeLine = 14

-- what passes the test is answered as P says; what does not, and nothing else, is refused for the reason given
abbrev pub Passed : {X : Type 0} → Refusal → Bool → Result X Refusal → (X → Type 0) → Type 0
Passed reason test (Ok x) P = (test ≡ true) × P x
Passed reason test (Err why) P = (test ≡ false) × (why ≡ reason)

-- the same of values that are to be in range
abbrev pub Admitted : {X : Type 0} → Bool → Result X Refusal → (X → Type 0) → Type 0
Admitted in-range r P = Passed Parameter in-range r P
