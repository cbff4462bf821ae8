-- What the definitions amount to. Assumes nothing.
use Rattle.std.specs.Prelude.{◌≡◌, ℕ, ◌*◌, Option}
use Rattle.terms.specs.Prices.{IsPrice}
use Rattle.ladder.specs.Rungs.{Rungs, In, Lowest, Highest}
use Rattle.ladder.specs.Multiples.{multiples}
use Rattle.ladder.specs.Bands.{row_of}
use Rattle.ladder.specs.Rows.{InRow}

-- each question has one answer, whatever the set
abbrev pub OneLowest : Type 0
OneLowest = (rungs : Rungs) (p : ℕ) (a b : Option ℕ) → Lowest rungs p a → Lowest rungs p b → a ≡ b

abbrev pub OneHighest : Type 0
OneHighest = (rungs : Rungs) (p : ℕ) (a b : Option ℕ) → Highest rungs p a → Highest rungs p b → a ≡ b

-- the multiples of a step are the prices that some number of whole steps makes, and no others
abbrev pub WholeSteps : Type 0
WholeSteps = (step p : ℕ) → (In (multiples step) p → IsPrice p × ((m : ℕ) × (p ≡ m * step))) × (IsPrice p → (m : ℕ) → p ≡ m * step → In (multiples step) p)

-- each number is in one row of the tick table
abbrev pub OneRow : Type 0
OneRow = (p : ℕ) → InRow p (row_of p) × ((r : ℕ) → InRow p r → row_of p ≡ r)
