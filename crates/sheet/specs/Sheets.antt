-- The period sheet: what becomes of it. Assumes nothing.
use Rattle.std.specs.Prelude.{ℕ, ◌+◌, ◌-◌, ◌*◌, ◌/◌, Bool, cond, List, [], ◌∷◌, replicate, Some, None, Option, ◌==◌, nat_le}
use Rattle.terms.specs.declared.date.Date.{Date}
use Rattle.terms.specs.declared.trade.Trade.{Trade}
use Rattle.terms.specs.Dates.{whole_months}
use Rattle.terms.specs.Trades.{shares_of, turnover_of}
use Rattle.sheet.specs.declared.gate.Gate.{Gate}
use Rattle.sheet.specs.declared.gate.Gate.TheVariants.{One, Two, Three}
use Rattle.sheet.specs.declared.thresholds.Terms.{Terms}
use Rattle.sheet.specs.declared.sheet.Sheet.{Sheet}
use Rattle.sheet.specs.declared.event.Event.{Event}
use Rattle.sheet.specs.declared.event.Event.TheVariants.{Opening, TimeEnd, IntermediateClose, Posting}
use Rattle.sheet.specs.Gates.{lasts}
use Rattle.sheet.specs.Thresholds.{reference_in, minimum_in, reached}

-- turnover ÷ shares to the nearest whole number, halves up
abbrev pub average : ℕ → ℕ → ℕ
average turnover shares = (2 * turnover + shares) / (2 * shares)

-- the Reference Price after a period: the average price of its shares, or the old one where there were none
abbrev pub averaged : Sheet → ℕ
averaged s = cond (s.volume == 0) s.reference (average s.turnover s.volume)

-- the gate and Limit 1 that the shares traded in a period lead to
abbrev pub earned : Terms → ℕ → Gate × ℕ
earned terms volume =
    cond (reached terms 1200 volume) (Two, 4) (cond (reached terms 1000 volume) (Two, 6) (cond (reached terms 800 volume) (Two, 8) (One, 8)))

-- Gate 3 stays
abbrev pub grade_after : Gate → Terms → ℕ → Gate × ℕ
grade_after One terms volume = earned terms volume
grade_after Two terms volume = earned terms volume
grade_after Three terms volume = (Three, 8)

-- a sheet with nothing traded yet
abbrev pub fresh : Gate → ℕ → ℕ → Option Date → Sheet
fresh gate limit reference start =
    record {
      gate = gate;
      limit = limit;
      reference = reference;
      start = start;
      volume = 0;
      turnover = 0;
      intermediate = 1;
      recent = 0;
    }

-- a period ends; the next one has started or not
abbrev pub ended : Terms → Sheet → Option Date → Sheet
ended terms s start = fresh (grade_after s.gate terms s.volume).0 (grade_after s.gate terms s.volume).1 (averaged s) start

-- a period starts where none runs
abbrev pub started : Sheet → Date → Sheet
started s date =
    record {
      gate = s.gate;
      limit = s.limit;
      reference = s.reference;
      start = Some date;
      volume = s.volume;
      turnover = s.turnover;
      intermediate = 1;
      recent = s.recent;
    }

-- an intermediate period closes: the limit is 4 wider if too little was traded in it, and the next one begins
abbrev pub closed : Terms → Sheet → Sheet
closed terms s =
    record {
      gate = s.gate;
      limit = s.limit + cond (reached terms (minimum_in s.gate terms) s.recent) 0 4;
      reference = s.reference;
      start = s.start;
      volume = s.volume;
      turnover = s.turnover;
      intermediate = s.intermediate + 1;
      recent = 0;
    }

-- a trade is added to the sums
abbrev pub added : Sheet → Option Trade → Sheet
added s trade =
    record {
      gate = s.gate;
      limit = s.limit;
      reference = s.reference;
      start = s.start;
      volume = s.volume + shares_of trade;
      turnover = s.turnover + turnover_of trade;
      intermediate = s.intermediate;
      recent = s.recent + shares_of trade;
    }

-- the shares traded reach the reference threshold
abbrev pub is_over : Terms → Sheet → Bool
is_over terms s = reached terms (reference_in s.gate terms) s.volume

-- which ends the period
abbrev pub settled : Terms → Sheet → Sheet
settled terms s = cond (is_over terms s) (ended terms s None) s

-- gate and event decide
abbrev pub next_in : Gate → Event → Terms → Sheet → Sheet
next_in gate (Opening date) terms s = started s date
next_in gate (TimeEnd date) terms s = ended terms s (Some date)
next_in One IntermediateClose terms s = closed terms s
next_in Two IntermediateClose terms s = closed terms s
next_in Three IntermediateClose terms s = s
next_in gate (Posting trade) terms s = settled terms (added s trade)

abbrev pub next : Terms → Sheet → Event → Sheet
next terms s event = next_in s.gate event terms s

-- the sheet after some events
abbrev pub after : Terms → Sheet → List Event → Sheet
after terms s [] = s
after terms s (e ∷ es) = after terms (next terms s e) es

-- the intermediate period of a date that is m whole months after the start
abbrev pub intermediate_at : ℕ → ℕ
intermediate_at m = m / 2 + 1

-- the events that an opening brings then: the period has lasted its time, or each intermediate period before that one closes
abbrev pub events_after : ℕ → Sheet → Date → List Event
events_after m s date = cond (nat_le (lasts s.gate) m) (TimeEnd date ∷ []) (replicate (intermediate_at m - s.intermediate) IntermediateClose)

abbrev pub events_from : Option Date → Sheet → Date → List Event
events_from None s date = Opening date ∷ []
events_from (Some start) s date = events_after (whole_months start.number date.number) s date

-- an opening does what its events do
abbrev pub opened : Terms → Sheet → Date → Sheet
opened terms s date = after terms s (events_from s.start s date)

-- and a posting is an event itself
abbrev pub posted : Terms → Sheet → Option Trade → Sheet
posted terms s trade = next terms s (Posting trade)
