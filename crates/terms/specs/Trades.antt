-- What an auction trades, or that it trades nothing. Assumes nothing.
use Rattle.std.specs.Prelude.{ℕ, ◌*◌, Some, None, Option}
use Rattle.terms.specs.declared.trade.Trade.{Trade}

abbrev pub shares_of : Option Trade → ℕ
shares_of None = 0
shares_of (Some t) = t.shares

abbrev pub turnover_of : Option Trade → ℕ
turnover_of None = 0
turnover_of (Some t) = t.price * t.shares
