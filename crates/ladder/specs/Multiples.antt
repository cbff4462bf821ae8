-- The prices that are a multiple of a step. Assumes nothing.
use Rattle.std.specs.Prelude.{ℕ, ◌%◌, ◌&&◌, ◌==◌}
use Rattle.std.proofs.lemmas.Bool.{and_parts}
use Rattle.terms.specs.Prices.{within_ends, is_price, IsPrice}
use Rattle.ladder.specs.Rungs.{Rungs, In}

abbrev pub multiples : ℕ → Rungs
multiples step p = is_price p && p % step == 0

-- each is a price
pub multiples_priced : (step p : ℕ) → In (multiples step) p → IsPrice p
multiples_priced step p h = within_ends 1 1000000000 p (and_parts (is_price p) (p % step == 0) h).0
