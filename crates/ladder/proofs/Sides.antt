-- The nearest rung of an `Either` is that of the side that is there. Assumes nothing.
use Rattle.std.proofs.Common.{◌≡◌, ℕ, Option}
use Rattle.ladder.specs.Rungs.{Rungs, Lowest, Highest}
use Rattle.ladder.specs.Eithers.{either}
use Rattle.ladder.specs.declared.either.Either.{Either}
use Rattle.ladder.specs.declared.either.Either.TheVariants.{Left, Right}

module _ {A B : Type 0} (left : A → Rungs) (right : B → Rungs) (e : Either A B) (p : ℕ) (r : Option ℕ) where
  pub lowest_left : (a : A) → e ≡ Left a → Lowest (left a) p r → Lowest (either left right e) p r
  lowest_left a is found = rw is found

  pub lowest_right : (b : B) → e ≡ Right b → Lowest (right b) p r → Lowest (either left right e) p r
  lowest_right b is found = rw is found

  pub highest_left : (a : A) → e ≡ Left a → Highest (left a) p r → Highest (either left right e) p r
  highest_left a is found = rw is found

  pub highest_right : (b : B) → e ≡ Right b → Highest (right b) p r → Highest (either left right e) p r
  highest_right b is found = rw is found

pub ruleset sides = (lowest_left, lowest_right, highest_left, highest_right)
