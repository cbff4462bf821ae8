-- What the definitions of the sheet amount to. Assumes nothing.
use Rattle.std.specs.Prelude.{◌≡◌, ℕ, zero, suc, ◌+◌, ◌-◌, ◌*◌, ◌<◌, ◌≤◌, true, false, cond, List, [], ◌∷◌, ◌++◌, Some}
use Rattle.std.specs.List.{All}
use Rattle.terms.specs.declared.date.Date.{Date}
use Rattle.terms.specs.Prices.{distance}
use Rattle.terms.specs.Dates.{whole_months}
use Rattle.sheet.specs.declared.gate.Gate.TheVariants.{Three}
use Rattle.sheet.specs.declared.thresholds.Terms.{Terms}
use Rattle.sheet.specs.declared.sheet.Sheet.{Sheet}
use Rattle.sheet.specs.declared.event.Event.{Event}
use Rattle.sheet.specs.declared.event.Event.TheVariants.{IntermediateClose}
use Rattle.sheet.specs.Gates.{lasts}
use Rattle.sheet.specs.Thresholds.{minimum_in, reached}
use Rattle.sheet.specs.Sheets.{average, next, after, intermediate_at, opened}
use Rattle.sheet.specs.Sounds.{is_sound, Due}
use Rattle.sheet.specs.Periods.{ends_in, Period, traded, closes_in, Priced, openings, ascend_to}

-- no whole number is nearer to turnover ÷ shares than the average, and one as near is not higher
abbrev pub NearestAverage : Type 0
NearestAverage =
    (turnover shares k : ℕ) → 0 < shares → (distance (average turnover shares * shares) turnover ≤ distance (k * shares) turnover) × (distance (k * shares) turnover ≡ distance (average turnover shares * shares) turnover → k ≤ average turnover shares)

-- the Reference Price after a period with shares lies between any two prices that all of its trades lie between
abbrev pub AverageBetween : Type 0
AverageBetween =
    (terms : Terms) (s : Sheet) (events : List Event) (last : Event) (low high : ℕ) → Period terms s events last → All (Priced low high) (events ++ last ∷ []) → 0 < traded (events ++ last ∷ []) → (low ≤ (after terms s (events ++ last ∷ [])).reference) × ((after terms s (events ++ last ∷ [])).reference ≤ high)

-- where nothing is traded in a period, the Reference Price stays
abbrev pub EmptyKeeps : Type 0
EmptyKeeps =
    (terms : Terms) (s : Sheet) (events : List Event) (last : Event) → Period terms s events last → traded (events ++ last ∷ []) ≡ 0 → (after terms s (events ++ last ∷ [])).reference ≡ s.reference

-- an intermediate period, from its first event to its close, widens the limit by 4 if the shares traded in it miss the minimum, and otherwise not at all
abbrev pub TooFewWiden : Type 0
TooFewWiden =
    (terms : Terms) (s : Sheet) (events : List Event) → s.recent ≡ 0 → ends_in terms s events ≡ false → closes_in events ≡ false → (after terms s (events ++ IntermediateClose ∷ [])).limit ≡ s.limit + cond (reached terms (minimum_in s.gate terms) (traded events)) 0 4

-- of n intermediate periods closed at once, those that widen: the first if its shares are too few, and each that was skipped
abbrev pub widenings : Terms → Sheet → ℕ → ℕ
widenings terms s zero = 0
widenings terms s (suc n) = cond (reached terms (minimum_in s.gate terms) s.recent) 0 1 + n

-- an opening within a period closes the intermediate periods before its date's, and each of them that widens does so by 4
abbrev pub WidensOnce : Type 0
WidensOnce =
    (terms : Terms) (s : Sheet) (start date : Date) → is_sound terms s ≡ true → s.start ≡ Some start → whole_months start.number date.number < lasts s.gate → (opened terms s date).limit ≡ s.limit + 4 * widenings terms s (intermediate_at (whole_months start.number date.number) - s.intermediate)

-- an opening goes by the sheet and the date, under the float and the circulation that thresholds are reckoned from; no other term counts
abbrev pub SheetAndDate : Type 0
SheetAndDate = (a b : Terms) (s : Sheet) (date : Date) → a.float ≡ b.float → a.circulation ≡ b.circulation → opened a s date ≡ opened b s date

-- within a period, openings on several dates with nothing posted in between come to the opening on the last
abbrev pub OneOrSeveral : Type 0
OneOrSeveral =
    (terms : Terms) (s : Sheet) (start : Date) (dates : List Date) (last : Date) → s.start ≡ Some start → ascend_to dates last ≡ true → whole_months start.number last.number < lasts s.gate → openings terms s (dates ++ last ∷ []) ≡ opened terms s last

-- every event leaves a sound sheet sound
abbrev pub Kept : Type 0
Kept = (terms : Terms) (s : Sheet) (event : Event) → is_sound terms s ≡ true → Due s event → is_sound terms (next terms s event) ≡ true

-- Limit 1 is at most 28 percent, and 8 in Gate 3
abbrev pub AtMost28 : Type 0
AtMost28 = (terms : Terms) (s : Sheet) → is_sound terms s ≡ true → (s.limit ≤ 28) × (s.gate ≡ Three → s.limit ≡ 8)
