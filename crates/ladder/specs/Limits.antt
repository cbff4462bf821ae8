-- A limit: the rungs of a ladder that are near a centre. Assumes nothing.
use Rattle.std.specs.Prelude.{ℕ, ◌*◌, Bool, ◌&&◌, nat_le}
use Rattle.std.proofs.lemmas.Bool.{and_parts}
use Rattle.terms.specs.Prices.{distance}
use Rattle.ladder.specs.Rungs.{Rungs, In}

-- p is at most `percent` hundredths of the centre away from it
abbrev pub near : ℕ → ℕ → ℕ → Bool
near centre percent p = nat_le (100 * distance p centre) (percent * centre)

abbrev pub limited : Rungs → ℕ → ℕ → Rungs
limited rungs centre percent p = rungs p && near centre percent p

-- each is a rung below the limit, so a price where those are
pub limited_in : (rungs : Rungs) (centre percent p : ℕ) → In (limited rungs centre percent) p → In rungs p
limited_in rungs centre percent p h = (and_parts (rungs p) (near centre percent p) h).0
