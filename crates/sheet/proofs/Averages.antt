-- The average of prices lies between them. Assumes nothing.
use Rattle.std.proofs.Common.{ℕ, ◌+◌, ◌*◌, ◌<◌, ◌≤◌, Some, None, Option, mul-le-mul_right, div-lt_iff_lt-mul, add-mul, le-div_iff_mul-le, mul-add, mul_left_comm, arith}
use Rattle.terms.specs.declared.trade.Trade.{Trade}
use Rattle.terms.specs.Prices.{within_ends}
use Rattle.terms.specs.Trades.{shares_of, turnover_of}
use Rattle.sheet.specs.Periods.{PricedIn}
use Rattle.sheet.specs.Sheets.{average}

pub record Between (low high n : ℕ) : Type 0 where
  pub least : low ≤ n
  pub most : n ≤ high

pub average_between : (low high turnover shares : ℕ) → 0 < shares → low * shares ≤ turnover → turnover ≤ high * shares → Between low high (average turnover shares)
average_between low high turnover shares some least most =
    let twice : 0 < 2 * shares = omega arith in
    let at_low = mul_left_comm low 2 shares in
    let at_high = mul_left_comm high 2 shares in
    let below : average turnover shares < high + 1 = (div-lt_iff_lt-mul twice).1 (omega (arith, add-mul high 1 (2 * shares))) in
    record { least = (le-div_iff_mul-le twice).1 (omega arith); most = omega arith }

-- trades from low to high keep the turnover between so much a share
pub record Bounded (low high volume turnover : ℕ) : Type 0 where
  pub least : low * volume ≤ turnover
  pub most : turnover ≤ high * volume

pub trade_bounded : (low high volume turnover : ℕ) (trade : Option Trade) → PricedIn low high trade → Bounded low high volume turnover → Bounded low high (volume + shares_of trade) (turnover + turnover_of trade)
trade_bounded low high volume turnover None priced b =
    record { least = omega (arith, mul-add low volume 0, b.least); most = omega (arith, mul-add high volume 0, b.most) }
trade_bounded low high volume turnover (Some trade) priced b =
    let least = mul-le-mul_right trade.shares priced.0 in
    let most = mul-le-mul_right trade.shares priced.1 in
    record {
      least = omega (arith, mul-add low volume trade.shares, b.least);
      most = omega (arith, mul-add high volume trade.shares, b.most);
    }

-- every trade is at a price
pub trade_priced : (trade : Option Trade) → PricedIn 1 1000000000 trade
trade_priced None = tt
trade_priced (Some trade) = within_ends 1 1000000000 trade.price trade.valid

-- so no share costs more than the highest
pub turnover_most : (t : Trade) → t.price * t.shares ≤ 1000000000 * t.shares
turnover_most t = mul-le-mul_right t.shares (trade_priced (Some t)).1
