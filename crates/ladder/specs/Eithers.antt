-- A ladder of either of two kinds. Assumes nothing.
use Rattle.std.specs.Prelude.{ℕ}
use Rattle.terms.specs.Prices.{IsPrice}
use Rattle.ladder.specs.Rungs.{Rungs, In}
use Rattle.ladder.specs.declared.either.Either.{Either}
use Rattle.ladder.specs.declared.either.Either.TheVariants.{Left, Right}

-- the rungs of the one that it is
abbrev pub either : {A B : Type 0} → (A → Rungs) → (B → Rungs) → Either A B → Rungs
either left right (Left a) = left a
either left right (Right b) = right b

-- each is a price where both kinds have prices alone
pub either_priced : {A B : Type 0} (left : A → Rungs) (right : B → Rungs) → ((a : A) (p : ℕ) → In (left a) p → IsPrice p) → ((b : B) (p : ℕ) → In (right b) p → IsPrice p) → (e : Either A B) (p : ℕ) → In (either left right e) p → IsPrice p
either_priced left right on-left on-right (Left a) = on-left a
either_priced left right on-left on-right (Right b) = on-right b
