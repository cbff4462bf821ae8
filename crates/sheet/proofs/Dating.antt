-- The intermediate period stays the one of the last date opened. Assumes nothing.
use Rattle.std.proofs.Common.{◌≡◌, ℕ, ◌+◌, ◌-◌, ◌/◌, ◌<◌, ◌≤◌, true, Some, None, Option, refl, ap, ◌∙◌, ⊎_elim, arith}
use Rattle.std.proofs.lemmas.Bool.{cond_both, ltb-true, false≢true, cases_lt}
use Rattle.std.proofs.lemmas.Bool.Decides.{nat_tests}
use Rattle.terms.specs.declared.date.Date.{Date}
use Rattle.terms.specs.declared.trade.Trade.{Trade}
use Rattle.terms.specs.Dates.{whole_months}
use Rattle.terms.proofs.Months.{months_none, months_grow}
use Rattle.sheet.specs.declared.gate.Gate.{Gate}
use Rattle.sheet.specs.declared.gate.Gate.TheVariants.{One, Two, Three}
use Rattle.sheet.specs.declared.thresholds.Terms.{Terms}
use Rattle.sheet.specs.declared.sheet.Sheet.{Sheet}
use Rattle.sheet.specs.declared.event.Event.TheVariants.{TimeEnd}
use Rattle.sheet.specs.Gates.{lasts}
use Rattle.sheet.specs.Sheets.{is_over, ended, added, next, opened, posted}
use Rattle.sheet.specs.Sounds.{current_from, is_current, is_later}
use Rattle.sheet.proofs.Closing.{closes, closes_move}
use Rattle.sheet.proofs.Opening.{opened_late, opened_early}

-- a period that starts today is in its first
at_least : (gate : Gate) → 2 ≤ lasts gate
at_least One = omega arith
at_least Two = omega arith
at_least Three = omega arith

today : (date : Date) (gate : Gate) → current_from (Some date) (Some date) gate 1 ≡ true
today date gate =
    let none = months_none date.number in
    let some = at_least gate in
    grind (arith, nat_tests)

pub posted_current : (terms : Terms) (s : Sheet) (trade : Option Trade) (last : Option Date) → is_current s last ≡ true → is_current (posted terms s trade) last ≡ true
unfolding is_current
posted_current terms s trade last h =
    cond_both (is_over terms (added s trade)) (ended terms (added s trade) None) (added s trade) (λ t. current_from t.start last t.gate t.intermediate ≡ true)
    (λ e. refl)
    (λ e. h)

-- the sheet that an opening within the period leaves, in intermediate period `to`
record Reached (to : ℕ) (s t : Sheet) : Type 0 where
  gate : t.gate ≡ s.gate
  start : t.start ≡ s.start
  intermediate : t.intermediate ≡ to

reaches : (gate : Gate) (terms : Terms) (s : Sheet) (m was : ℕ) → s.gate ≡ gate → m < lasts gate → was ≤ m → s.intermediate ≡ was / 2 + 1 → Reached (m / 2 + 1) s (closes (m / 2 + 1 - s.intermediate) terms s)
reaches One terms s m was is early grown at =
    let moved = closes_move (m / 2 + 1 - s.intermediate) terms s One is (λ e. cc) in
    record { gate = moved.gate; start = moved.start; intermediate = moved.intermediate ∙ omega arith }
reaches Two terms s m was is early grown at =
    let moved = closes_move (m / 2 + 1 - s.intermediate) terms s Two is (λ e. cc) in
    record { gate = moved.gate; start = moved.start; intermediate = moved.intermediate ∙ omega arith }
reaches Three terms s m was is early grown at =
    let none : m / 2 + 1 - s.intermediate ≡ 0 = omega arith in
    let stays : closes (m / 2 + 1 - s.intermediate) terms s ≡ s = ap (λ n. closes n terms s) none in
    record {
      gate = ap (λ (t : Sheet). t.gate) stays;
      start = ap (λ (t : Sheet). t.start) stays;
      intermediate = ap (λ (t : Sheet). t.intermediate) stays ∙ omega arith;
    }

-- what the test says of a period that runs
record Running (start last : Date) (gate : Gate) (intermediate : ℕ) : Type 0 where
  order : start.number ≤ last.number
  early : whole_months start.number last.number < lasts gate
  at : intermediate ≡ whole_months start.number last.number / 2 + 1

running : (start last : Date) (gate : Gate) (intermediate : ℕ) → current_from (Some start) (Some last) gate intermediate ≡ true → Running start last gate intermediate
running start last gate intermediate h = record { order = grind (arith, nat_tests); early = grind (arith, nat_tests); at = grind (arith, nat_tests) }

runs : (start last : Date) (gate : Gate) (intermediate : ℕ) → Running start last gate intermediate → current_from (Some start) (Some last) gate intermediate ≡ true
runs start last gate intermediate run = grind (arith, nat_tests)

opened_running : (terms : Terms) (s : Sheet) (start last date : Date) → s.start ≡ Some start → Running start last s.gate s.intermediate → last.number < date.number → is_current (opened terms s date) (Some date) ≡ true
unfolding is_current
opened_running terms s start last date is run later =
    let m = whole_months start.number date.number in
    ⊎_elim
    (λ (early : m < lasts s.gate).
    let grown = months_grow start.number last.number date.number last.valid date.valid (omega arith) in
    let r = reaches s.gate terms s m (whole_months start.number last.number) refl early grown run.at in
    rw (opened_early terms s start date is early, r.start, r.gate, r.intermediate, is) (runs start date s.gate (m / 2 + 1) (record { order = omega arith; early = early; at = refl })))
    (λ (late : lasts s.gate ≤ m). rw (opened_late terms s start date is late) (today date (next terms s (TimeEnd date)).gate))
    (cases_lt m (lasts s.gate))

opened_from_lem : (start last : Option Date) (terms : Terms) (s : Sheet) (date : Date) → s.start ≡ start → current_from start last s.gate s.intermediate ≡ true → is_later last date ≡ true → is_current (opened terms s date) (Some date) ≡ true
unfolding is_current
opened_from_lem None last terms s date is h later = rw is (today date s.gate)
opened_from_lem (Some start) None terms s date is h later = absurd (false≢true h)
opened_from_lem (Some start) (Some last) terms s date is h later =
    opened_running terms s start last date is (running start last s.gate s.intermediate h) (ltb-true last.number date.number later)

pub opened_current : (terms : Terms) (s : Sheet) (last : Option Date) (date : Date) → is_current s last ≡ true → is_later last date ≡ true → is_current (opened terms s date) (Some date) ≡ true
unfolding is_current
opened_current terms s last date h later = opened_from_lem s.start last terms s date refl h later
