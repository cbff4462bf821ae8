-- The laws of a merit, as one fact. Assumes nothing.
use Rattle.std.proofs.Common.{◌≡◌, Bool, true, false, not}

pub record Ordering {X : Type 0} (before apart : X → X → Bool) : Type 0 where
  pub never_itself : (x : X) → before x x ≡ false
  pub one_first : (x y : X) → apart x y ≡ true → before x y ≡ not (before y x)
  pub carries : (x y z : X) → before x y ≡ true → before y z ≡ true → before x z ≡ true
