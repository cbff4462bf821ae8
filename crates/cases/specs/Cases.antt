-- Worked cases. Assumes nothing.
use Rattle.std.specs.Prelude.{◌≡◌, true, false, Some}
use Rattle.ladder.specs.Rungs.{Lowest}
use Rattle.ladder.specs.Multiples.{multiples}
use Rattle.ladder.specs.Bands.{banded}
use Rattle.ladder.specs.Limits.{limited}
use Rattle.cases.specs.Auctions.{AuctionCases}
use Rattle.cases.specs.Periods.{PeriodCases}

pub record WorkedCases : Type 0 where
  -- going up from 99,801 band 2 meets 100,000 first
  pub next_rung : Lowest (banded 2) 99801 (Some 100000)
  -- of the flat ladder of step 1, 8 percent about 100,000 keeps 92,000 and not 91,999
  pub edge_inside : limited (multiples 1) 100000 8 92000 ≡ true
  pub edge_outside : limited (multiples 1) 100000 8 91999 ≡ false
  -- a bank's first period
  pub periods : PeriodCases
  -- calls
  pub auctions : AuctionCases
