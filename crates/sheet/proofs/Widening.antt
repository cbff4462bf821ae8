-- How far openings widen the limit. Assumes nothing.
use Rattle.std.proofs.Common.{◌≡◌, ℕ, zero, suc, ◌+◌, ◌-◌, ◌*◌, ◌/◌, ◌<◌, Bool, true, false, cond, List, [], ◌∷◌, sym, refl, ap, ◌∙◌, arith}
use Rattle.std.proofs.lemmas.Bool.Decides.{nat_tests}
use Rattle.std.proofs.lemmas.Bool.{or_parts, true≢false}
use Rattle.terms.specs.Dates.{whole_months}
use Rattle.sheet.specs.declared.gate.Gate.{Gate}
use Rattle.sheet.specs.declared.gate.Gate.TheVariants.{One, Two, Three}
use Rattle.sheet.specs.declared.thresholds.Terms.{Terms}
use Rattle.sheet.specs.declared.sheet.Sheet.{Sheet}
use Rattle.sheet.specs.declared.event.Event.{Event}
use Rattle.sheet.specs.declared.event.Event.TheVariants.{Opening, TimeEnd, IntermediateClose, Posting}
use Rattle.sheet.specs.Gates.{lasts}
use Rattle.sheet.specs.Thresholds.{minimum_in, reached}
use Rattle.sheet.specs.Sheets.{closed, next_in, next, after}
use Rattle.sheet.specs.Periods.{ends, ends_in, shares_in, traded, is_close, closes_in}
use Rattle.sheet.specs.Sounds.{fits, is_sound}
use Rattle.sheet.specs.Laws.{TooFewWiden, widenings, WidensOnce}
use Rattle.sheet.proofs.Closing.{closes, close_is}
use Rattle.sheet.proofs.Keeping.{no_minimum, first_only, sound_fits}
use Rattle.sheet.proofs.Summing.{after_last}
use Rattle.sheet.proofs.Opening.{opened_early}

-- events that neither end the period nor close an intermediate period
record Quiet (s t : Sheet) (shares : ℕ) : Type 0 where
  gate : t.gate ≡ s.gate
  limit : t.limit ≡ s.limit
  recent : t.recent ≡ s.recent + shares

quiet_event : (terms : Terms) (s : Sheet) (e : Event) → ends terms s e ≡ false → is_close e ≡ false → Quiet s (next terms s e) (shares_in e)
quiet_event terms s (Opening date) runs h = record { gate = refl; limit = refl; recent = omega arith }
quiet_event terms s (TimeEnd date) runs h = absurd (true≢false runs)
quiet_event terms s IntermediateClose runs h = absurd (true≢false h)
quiet_event terms s (Posting trade) runs h = rw runs (record { gate = refl; limit = refl; recent = refl })

quiet_run : (terms : Terms) (s : Sheet) (es : List Event) → ends_in terms s es ≡ false → closes_in es ≡ false → Quiet s (after terms s es) (traded es)
quiet_run terms s [] runs h = record { gate = refl; limit = refl; recent = omega arith }
quiet_run terms s (e ∷ es) runs h =
    let on = or_parts (ends terms s e) (ends_in terms (next terms s e) es) runs in
    let none = or_parts (is_close e) (closes_in es) h in
    let one = quiet_event terms s e on.0 none.0 in
    let more = quiet_run terms (next terms s e) es on.1 none.1 in
    record { gate = more.gate ∙ one.gate; limit = more.limit ∙ one.limit; recent = omega (arith, one.recent, more.recent) }

-- a close, whatever the gate: Gate 3 has a minimum of 0
close_limit : (gate : Gate) (terms : Terms) (s : Sheet) → s.gate ≡ gate → (next_in gate IntermediateClose terms s).limit ≡ s.limit + cond (reached terms (minimum_in s.gate terms) s.recent) 0 4
close_limit One terms s is = refl
close_limit Two terms s is = refl
close_limit Three terms s is = rw is (grind (arith, nat_tests))

pub too_few_widen : TooFewWiden
too_few_widen terms s es none runs h =
    let t = after terms s es in
    let ran = quiet_run terms s es runs h in
    let counted : (after terms s es).recent ≡ traded es = omega (arith, ran.recent) in
    ap (λ (u : Sheet). u.limit) (after_last terms s es IntermediateClose) ∙ close_limit t.gate terms t refl ∙ (λ i. ran.limit i + cond (reached terms (minimum_in (ran.gate i) terms) (counted i)) 0 4)

-- an intermediate period without shares widens
skipped : (terms : Terms) (s : Sheet) (n : ℕ) → reached terms (minimum_in s.gate terms) s.recent ≡ false → widenings terms s n ≡ n
skipped terms s zero none = refl
skipped terms s (suc n) none = rw none (omega arith)

four : (b : Bool) → cond b 0 4 ≡ 4 * cond b 0 1
four true = refl
four false = refl

-- n closes outside Gate 3
closes_widen : (n : ℕ) (terms : Terms) (s : Sheet) (gate : Gate) → fits terms ≡ true → s.gate ≡ gate → (gate ≡ Three → ⊥) → (closes n terms s).limit ≡ s.limit + 4 * widenings terms s n
closes_widen zero terms s gate all is other = omega arith
closes_widen (suc n) terms s gate all is other =
    let rest = closes_widen n terms (closed terms s) gate all is other in
    let none = no_minimum terms s.gate all (λ e. other (sym is ∙ e)) in
    let each = skipped terms (closed terms s) n none in
    let first = four (reached terms (minimum_in s.gate terms) s.recent) in
    ap (λ (t : Sheet). (closes n terms t).limit) (close_is gate terms s is other) ∙ rest ∙ omega (arith, each, first)

widens_in : (gate : Gate) (terms : Terms) (s : Sheet) (m : ℕ) → is_sound terms s ≡ true → s.gate ≡ gate → m < lasts gate → (closes (m / 2 + 1 - s.intermediate) terms s).limit ≡ s.limit + 4 * widenings terms s (m / 2 + 1 - s.intermediate)
widens_in One terms s m sound is early = closes_widen (m / 2 + 1 - s.intermediate) terms s One (sound_fits terms s sound) is (λ e. cc)
widens_in Two terms s m sound is early = closes_widen (m / 2 + 1 - s.intermediate) terms s Two (sound_fits terms s sound) is (λ e. cc)
widens_in Three terms s m sound is early =
    let first = first_only terms s sound is in
    let none : m / 2 + 1 - s.intermediate ≡ 0 = omega arith in
    rw none (omega arith)

pub widens_once : WidensOnce
widens_once terms s start date sound is early =
    rw (opened_early terms s start date is early) (widens_in s.gate terms s (whole_months start.number date.number) sound refl early)
