-- The tick table: rows of prices, and for each row a step in each of six liquidity bands. Assumes nothing.
use Rattle.std.specs.Prelude.{ℕ, zero, suc, ◌+◌, ◌-◌, ◌*◌, ◌/◌, ◌%◌, ◌^◌, cond, [], ◌∷◌, ◌==◌, nat_le, slice_index}
use Rattle.terms.specs.Prices.{IsPrice}
use Rattle.ladder.specs.Rungs.{Rungs, In}
use Rattle.ladder.specs.Multiples.{multiples, multiples_priced}

-- 1, 2, 5, 10, 20, 50, 100, ..: the n-th of them, counted from 0
unfoldable pub series : ℕ → ℕ
series n = slice_index (1 ∷ 2 ∷ 5 ∷ []) (n % 3) * 10 ^ (n / 3)

-- where row r starts: row 0 at 0, row 1 at 1,000, row 2 at 2,000, row 3 at 5,000, ..
unfoldable pub start : ℕ → ℕ
start r = cond (r == 0) 0 (series (r + 8))

-- how far apart the rungs of a row are in a band: a row on, the next of the series; a band on, the one before, and 1 where there is none before (- stops at 0)
unfoldable pub step_of : ℕ → ℕ → ℕ
step_of r c = series (r + 3 - c)

-- the last of rows 0 to n that starts at or below p
unfoldable pub row_to : ℕ → ℕ → ℕ
row_to zero p = 0
row_to (suc n) p = cond (nat_le (start (suc n)) p) (suc n) (row_to n p)

-- the row that p is in, of rows 0 to 18
unfoldable pub row_of : ℕ → ℕ
row_of p = row_to 18 p

-- the rungs of band c: the prices that are a multiple of their row's step
abbrev pub banded : ℕ → Rungs
banded c p = multiples (step_of (row_of p) c) p

-- each is a price
pub banded_priced : (c p : ℕ) → In (banded c) p → IsPrice p
banded_priced c p = multiples_priced (step_of (row_of p) c) p
