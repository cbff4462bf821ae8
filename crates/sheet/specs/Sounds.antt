-- What is true of every listed share: of its terms, its sheet and the last date opened. Assumes nothing.
use Rattle.std.specs.Prelude.{◌≡◌, ℕ, ◌-◌, ◌*◌, ◌/◌, ◌%◌, ◌<◌, Bool, true, false, not, ◌&&◌, ◌||◌, is_some, Some, None, Option, ◌==◌, nat_le, nat_lt}
use Rattle.terms.specs.declared.date.Date.{Date}
use Rattle.terms.specs.Prices.{within, is_price}
use Rattle.terms.specs.Dates.{whole_months}
use Rattle.sheet.specs.declared.gate.Gate.{Gate}
use Rattle.sheet.specs.declared.gate.Gate.TheVariants.{One, Two, Three}
use Rattle.sheet.specs.declared.thresholds.Terms.{Terms}
use Rattle.sheet.specs.declared.sheet.Sheet.{Sheet}
use Rattle.sheet.specs.declared.event.Event.{Event}
use Rattle.sheet.specs.declared.event.Event.TheVariants.{Opening, TimeEnd, IntermediateClose, Posting}
use Rattle.sheet.specs.Gates.{lasts}
use Rattle.sheet.specs.Sheets.{is_over, intermediate_at}

-- the thresholds that a bank may choose for Gate 2
abbrev pub is_choice : ℕ → Bool
is_choice n = n == 1000 || n == 1200 || n == 1500 || n == 2000 || n == 2500 || n == 3000

abbrev pub fits : Terms → Bool
fits terms = is_choice terms.choice && within 1 1000000000 terms.circulation && within 1 100 terms.«cap» && within 1 4294967295 terms.first

-- the shares traded have not ended the period, each cost a price, and the intermediate period's are some of them
abbrev pub sums : Terms → Sheet → Bool
sums terms s = not (is_over terms s) && within s.volume (1000000000 * s.volume) s.turnover && nat_le s.recent s.volume && is_price s.reference

-- a limit that began at `first`, with 4 more for some of the intermediate periods closed since
abbrev pub widened_from : ℕ → ℕ → ℕ → Bool
widened_from first limit intermediate = nat_le first limit && (limit - first) % 4 == 0 && nat_lt ((limit - first) / 4) intermediate

-- Limit 1 in an intermediate period; Gate 3 is always in the first, and does not widen
abbrev pub limits : Gate → ℕ → ℕ → Bool
limits One limit intermediate = within 1 6 intermediate && widened_from 8 limit intermediate
limits Two limit intermediate = within 1 6 intermediate && (widened_from 8 limit intermediate || widened_from 6 limit intermediate || widened_from 4 limit intermediate)
limits Three limit intermediate = intermediate == 1 && limit == 8

-- without a running period it is the first
abbrev pub begins : Option Date → ℕ → Bool
begins None intermediate = intermediate == 1
begins (Some start) intermediate = true

unfoldable pub is_sound : Terms → Sheet → Bool
is_sound terms s = fits terms && sums terms s && limits s.gate s.limit s.intermediate && begins s.start s.intermediate

-- of a running period: the last date opened is no earlier than the start and still within it, and gives the intermediate period
abbrev pub current_from : Option Date → Option Date → Gate → ℕ → Bool
current_from None last gate intermediate = true
current_from (Some start) None gate intermediate = false
current_from (Some start) (Some last) gate intermediate =
    nat_le start.number last.number && nat_lt (whole_months start.number last.number) (lasts gate) && intermediate == intermediate_at (whole_months start.number last.number)

unfoldable pub is_current : Sheet → Option Date → Bool
is_current s last = current_from s.start last s.gate s.intermediate

-- a date is later than the last one opened
abbrev pub is_later : Option Date → Date → Bool
is_later None date = true
is_later (Some last) date = nat_lt last.number date.number

-- when an event may come: a period starts where none runs, and while one runs it may end, or an intermediate period before the sixth close
abbrev pub Due : Sheet → Event → Type 0
Due s (Opening date) = is_some s.start ≡ false
Due s (TimeEnd date) = is_some s.start ≡ true
Due s IntermediateClose = (is_some s.start ≡ true) × (s.intermediate < 6)
Due s (Posting trade) = Unit {0}
