-- What the rows of the tick table mean. Assumes nothing.
use Rattle.std.specs.Prelude.{ℕ, suc, ◌<◌, ◌≤◌}
use Rattle.ladder.specs.Bands.{start}

-- p is in row r: at or above where it starts and, but in the last row, below where the next starts
pub record InRow (p r : ℕ) : Type 0 where
  pub row : r < 19
  pub low : start r ≤ p
  pub high : r < 18 → p < start (suc r)
