-- The first by merit. Assumes nothing.
use denote.Param.Members.{Shared}
use denote.Ref.{Bor}
use Rattle.std.specs.Prelude.{◌≡◌, ℕ, ◌<◌, Bool, true, false, List, Some, None, Option, slice_index_or}

-- each call of f, at a `&` to an item, answers what the test says of the item
abbrev pub Tests : {F X : Type 0} → Shared F (Bor X × Unit {0}) Bool → (X → Bool) → F → Type 0
Tests {F} {X} g test f = (item : Bor X) (answer : Bool) → g.post f (item, tt) answer → answer ≡ test item.now

-- none of the first n items is eligible
abbrev pub NoneEligible : {X : Type 0} → (X → Bool) → List X → ℕ → Type 0
NoneEligible {X} eligible xs n = (k : ℕ) → k < n → (d : X) → eligible (slice_index_or xs k d) ≡ false

-- at i stands an eligible item, and no eligible one among the first n comes before it
abbrev pub FirstEligible : {X : Type 0} → (X → Bool) → (X → X → Bool) → List X → ℕ → ℕ → Type 0
FirstEligible {X} eligible before xs n i = (i < n) × ((d : X) → eligible (slice_index_or xs i d) ≡ true) × ((k : ℕ) → k < n → (d : X) → eligible (slice_index_or xs k d) ≡ true → before (slice_index_or xs k d) (slice_index_or xs i d) ≡ false)

-- what the choice among the first n items answers
abbrev pub Chosen : {X : Type 0} → (X → Bool) → (X → X → Bool) → List X → ℕ → Option ℕ → Type 0
Chosen eligible before xs n None = NoneEligible eligible xs n
Chosen eligible before xs n (Some i) = FirstEligible eligible before xs n i

-- ---- items that may be missing
-- two that are there are told apart as such; one that is missing is told apart from nothing
abbrev pub both_apart : {X : Type 0} → (X → X → Bool) → Option X → Option X → Bool
both_apart apart (Some a) (Some b) = apart a b
both_apart apart (Some a) None = false
both_apart apart None b = false
