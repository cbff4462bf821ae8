-- Which terms an opening goes by. Assumes nothing.
use Rattle.std.proofs.Common.{◌≡◌, ℕ, zero, suc, ◌+◌, ◌-◌, Bool, true, false, cond, leb, [], ◌∷◌, replicate, Some, None, Option, sym, refl, ap, ◌∙◌}
use Rattle.terms.specs.declared.date.Date.{Date}
use Rattle.terms.specs.Dates.{whole_months}
use Rattle.sheet.specs.declared.gate.Gate.{Gate}
use Rattle.sheet.specs.declared.gate.Gate.TheVariants.{One, Two, Three}
use Rattle.sheet.specs.declared.thresholds.Terms.{Terms}
use Rattle.sheet.specs.declared.sheet.Sheet.{Sheet}
use Rattle.sheet.specs.declared.event.Event.TheVariants.{TimeEnd, IntermediateClose}
use Rattle.sheet.specs.Thresholds.{minimum_in, reached}
use Rattle.sheet.specs.Sheets.{averaged, grade_after, fresh, ended, closed, next_in, next, after, intermediate_at, opened}
use Rattle.sheet.specs.Gates.{lasts}
use Rattle.sheet.specs.Laws.{SheetAndDate}
use Rattle.sheet.proofs.Closing.{closes}
use Rattle.sheet.proofs.Opening.{opened_from}

-- the same float and circulation, with the other terms of another share
abbrev with : Terms → Terms → Terms
with terms other = record { float = terms.float; choice = other.choice; circulation = terms.circulation; «cap» = other.«cap»; first = other.first }

minimum_with : (gate : Gate) (terms : Terms) (other : Terms) → minimum_in gate (with terms other) ≡ minimum_in gate terms
minimum_with One terms other = refl
minimum_with Two terms other = refl
minimum_with Three terms other = refl

grade_with : (gate : Gate) (terms : Terms) (other : Terms) (volume : ℕ) → grade_after gate (with terms other) volume ≡ grade_after gate terms volume
grade_with One terms other volume = refl
grade_with Two terms other volume = refl
grade_with Three terms other volume = refl

closed_with : (terms : Terms) (other : Terms) (s : Sheet) → closed (with terms other) s ≡ closed terms s
closed_with terms other s =
    ap (λ (t : ℕ). record { gate = s.gate; limit = s.limit + cond (reached terms t s.recent) 0 4; reference = s.reference; start = s.start; volume = s.volume; turnover = s.turnover; intermediate = s.intermediate + 1; recent = 0 })
    (minimum_with s.gate terms other)

close_with : (gate : Gate) (terms : Terms) (other : Terms) (s : Sheet) → next_in gate IntermediateClose (with terms other) s ≡ next_in gate IntermediateClose terms s
close_with One terms other s = closed_with terms other s
close_with Two terms other s = closed_with terms other s
close_with Three terms other s = refl

ended_with : (terms : Terms) (other : Terms) (s : Sheet) (start : Option Date) → ended (with terms other) s start ≡ ended terms s start
ended_with terms other s start =
    ap (λ (grade : Gate × ℕ). fresh grade.0 grade.1 (averaged s) start)
    (grade_with s.gate terms other s.volume)

closes_with : (n : ℕ) (terms : Terms) (other : Terms) (s : Sheet) → closes n (with terms other) s ≡ closes n terms s
closes_with zero terms other s = refl
closes_with (suc n) terms other s =
    closes_with n terms other (next (with terms other) s IntermediateClose) ∙ ap (closes n terms) (close_with s.gate terms other s)

either_with : (late : Bool) (n : ℕ) (terms : Terms) (other : Terms) (s : Sheet) (date : Date) → after (with terms other) s (cond late (TimeEnd date ∷ []) (replicate n IntermediateClose)) ≡ after terms s (cond late (TimeEnd date ∷ []) (replicate n IntermediateClose))
either_with true n terms other s date = ended_with terms other s (Some date)
either_with false n terms other s date = closes_with n terms other s

opened_with : (start : Option Date) (terms : Terms) (other : Terms) (s : Sheet) (date : Date) → opened_from start (with terms other) s date ≡ opened_from start terms s date
opened_with None terms other s date = refl
opened_with (Some start) terms other s date =
    let m = whole_months start.number date.number in
    either_with (leb (lasts s.gate) m) (intermediate_at m - s.intermediate) terms other s date

pub sheet_and_date : SheetAndDate
sheet_and_date a b s date float circulation =
    sym (opened_with s.start a b s date) ∙ (λ i. opened (record { float = float i; choice = b.choice; circulation = circulation i; «cap» = b.«cap»; first = b.first }) s date)
