-- Ladders: sets of prices, and what the questions about any set answer. Assumes nothing.
use Rattle.std.specs.Prelude.{◌≡◌, ℕ, ◌≤◌, Bool, true, Some, None, Option}

-- the rungs of a ladder, as the test whether a number is one
abbrev pub Rungs : Type 0
Rungs = ℕ → Bool

-- p is a rung
abbrev pub In : Rungs → ℕ → Type 0
In rungs p = rungs p ≡ true

-- the first rung from p on, in the direction in which `ahead a b` says that b is at a or farther on; or none
abbrev pub Nearest : (ℕ → ℕ → Type 0) → Rungs → ℕ → Option ℕ → Type 0
Nearest ahead rungs p None = (k : ℕ) → ahead p k → In rungs k → ⊥
Nearest ahead rungs p (Some q) = In rungs q × ahead p q × ((k : ℕ) → ahead p k → In rungs k → ahead q k)

-- upward: the lowest rung that is not below p, or that there is none
abbrev pub Lowest : Rungs → ℕ → Option ℕ → Type 0
Lowest rungs p r = Nearest (λ a b. a ≤ b) rungs p r

-- downward: the highest rung that is not above p, or that there is none
abbrev pub Highest : Rungs → ℕ → Option ℕ → Type 0
Highest rungs p r = Nearest (λ a b. b ≤ a) rungs p r
