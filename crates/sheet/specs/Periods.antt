-- A period as the list of its events. Assumes nothing.
use Rattle.std.specs.Prelude.{◌≡◌, ℕ, ◌+◌, ◌≤◌, Bool, true, false, ◌&&◌, ◌||◌, List, [], ◌∷◌, Some, None, Option, nat_le}
use Rattle.terms.specs.declared.date.Date.{Date}
use Rattle.terms.specs.declared.trade.Trade.{Trade}
use Rattle.terms.specs.Trades.{shares_of}
use Rattle.sheet.specs.declared.thresholds.Terms.{Terms}
use Rattle.sheet.specs.declared.sheet.Sheet.{Sheet}
use Rattle.sheet.specs.declared.event.Event.{Event}
use Rattle.sheet.specs.declared.event.Event.TheVariants.{Opening, TimeEnd, IntermediateClose, Posting}
use Rattle.sheet.specs.Sheets.{added, is_over, next, after, opened}

-- whether an event ends the period
abbrev pub ends : Terms → Sheet → Event → Bool
ends terms s (Opening date) = false
ends terms s (TimeEnd date) = true
ends terms s IntermediateClose = false
ends terms s (Posting trade) = is_over terms (added s trade)

-- whether one of some events does
abbrev pub ends_in : Terms → Sheet → List Event → Bool
ends_in terms s [] = false
ends_in terms s (e ∷ es) = ends terms s e || ends_in terms (next terms s e) es

-- a period from its first event to the one that ends it
pub record Period (terms : Terms) (s : Sheet) (events : List Event) (last : Event) : Type 0 where
  pub no_shares : s.volume ≡ 0
  pub no_turnover : s.turnover ≡ 0
  pub running : ends_in terms s events ≡ false
  pub over : ends terms (after terms s events) last ≡ true

-- the shares that an event brings
abbrev pub shares_in : Event → ℕ
shares_in (Opening date) = 0
shares_in (TimeEnd date) = 0
shares_in IntermediateClose = 0
shares_in (Posting trade) = shares_of trade

abbrev pub traded : List Event → ℕ
traded [] = 0
traded (e ∷ es) = shares_in e + traded es

-- whether one of some events closes an intermediate period
abbrev pub is_close : Event → Bool
is_close (Opening date) = false
is_close (TimeEnd date) = false
is_close IntermediateClose = true
is_close (Posting trade) = false

abbrev pub closes_in : List Event → Bool
closes_in [] = false
closes_in (e ∷ es) = is_close e || closes_in es

-- what was traded, if anything, was from low to high
abbrev pub PricedIn : ℕ → ℕ → Option Trade → Type 0
PricedIn low high None = Unit {0}
PricedIn low high (Some trade) = (low ≤ trade.price) × (trade.price ≤ high)

abbrev pub Priced : ℕ → ℕ → Event → Type 0
Priced low high (Opening date) = Unit {0}
Priced low high (TimeEnd date) = Unit {0}
Priced low high IntermediateClose = Unit {0}
Priced low high (Posting trade) = PricedIn low high trade

-- openings one after the other, with nothing posted in between
abbrev pub openings : Terms → Sheet → List Date → Sheet
openings terms s [] = s
openings terms s (date ∷ dates) = openings terms (opened terms s date) dates

-- dates that do not go back, up to a last one
abbrev pub ascend_to : List Date → Date → Bool
ascend_to [] last = true
ascend_to (date ∷ []) last = nat_le date.number last.number
ascend_to (date ∷ then ∷ dates) last = nat_le date.number then.number && ascend_to (then ∷ dates) last
