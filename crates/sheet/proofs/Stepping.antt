-- Openings on several dates of a period, and on the last alone. Assumes nothing.
use Rattle.std.proofs.Common.{◌≡◌, ℕ, zero, suc, ◌+◌, ◌-◌, ◌/◌, ◌<◌, ◌≤◌, true, leb, List, [], ◌∷◌, Some, sym, refl, ap, ◌∙◌, zero-add, arith}
use Rattle.std.proofs.lemmas.Bool.Decides.{nat_tests}
use Rattle.std.proofs.lemmas.Bool.{and_parts, leb-true}
use Rattle.terms.specs.declared.date.Date.{Date}
use Rattle.terms.specs.Dates.{whole_months}
use Rattle.terms.proofs.Months.{months_grow}
use Rattle.sheet.specs.declared.gate.Gate.{Gate}
use Rattle.sheet.specs.declared.gate.Gate.TheVariants.{One, Two, Three}
use Rattle.sheet.specs.declared.thresholds.Terms.{Terms}
use Rattle.sheet.specs.declared.sheet.Sheet.{Sheet}
use Rattle.sheet.specs.declared.event.Event.TheVariants.{IntermediateClose}
use Rattle.sheet.specs.Gates.{lasts}
use Rattle.sheet.specs.Sheets.{next_in, next, opened}
use Rattle.sheet.specs.Periods.{ascend_to}
use Rattle.sheet.specs.Laws.{OneOrSeveral}
use Rattle.sheet.proofs.Closing.{closes, closes_move}
use Rattle.sheet.proofs.Opening.{opened_early}

-- closes add up
closes_add : (m n : ℕ) (terms : Terms) (s : Sheet) → closes n terms (closes m terms s) ≡ closes (m + n) terms s
closes_add zero n terms s = ap (λ k. closes k terms s) (sym (zero-add n))
closes_add (suc m) n terms s =
    let more : suc m + n ≡ suc (m + n) = omega arith in
    closes_add m n terms (next terms s IntermediateClose) ∙ sym (ap (λ k. closes k terms s) more)

-- Gate 3 has nothing to close
closes_none : (n : ℕ) (terms : Terms) (s : Sheet) → s.gate ≡ Three → closes n terms s ≡ s
closes_none zero terms s is = refl
closes_none (suc n) terms s is = ap (closes n terms) (ap (λ g. next_in g IntermediateClose terms s) is) ∙ closes_none n terms s is

-- what closes leave as it was
record Stays (s t : Sheet) : Type 0 where
  gate : t.gate ≡ s.gate
  start : t.start ≡ s.start

-- closes up to one intermediate period and then up to another that is no earlier
record Twice (i j : ℕ) (terms : Terms) (s : Sheet) : Type 0 where
  stays : Stays s (closes (i - s.intermediate) terms s)
  sum : closes (j - (closes (i - s.intermediate) terms s).intermediate) terms (closes (i - s.intermediate) terms s) ≡ closes (j - s.intermediate) terms s

moving : (gate : Gate) (i j : ℕ) (terms : Terms) (s : Sheet) → s.gate ≡ gate → (gate ≡ Three → ⊥) → i ≤ j → Twice i j terms s
moving gate i j terms s is other le =
    let moved = closes_move (i - s.intermediate) terms s gate is other in
    let at = moved.intermediate in
    let left : (i - s.intermediate) + (j - (closes (i - s.intermediate) terms s).intermediate) ≡ j - s.intermediate = omega arith in
    record {
      stays = record { gate = moved.gate; start = moved.start };
      sum = closes_add (i - s.intermediate) (j - (closes (i - s.intermediate) terms s).intermediate) terms s ∙ ap (λ k. closes k terms s) left;
    }

twice : (gate : Gate) (i j : ℕ) (terms : Terms) (s : Sheet) → s.gate ≡ gate → i ≤ j → Twice i j terms s
twice One i j terms s is le = moving One i j terms s is (λ e. cc) le
twice Two i j terms s is le = moving Two i j terms s is (λ e. cc) le
twice Three i j terms s is le =
    let same = closes_none (i - s.intermediate) terms s is in
    record {
      stays = record { gate = ap (λ (t : Sheet). t.gate) same; start = ap (λ (t : Sheet). t.start) same };
      sum = ap (λ (t : Sheet). closes (j - t.intermediate) terms t) same;
    }

-- an opening on the way to another
record Midway (terms : Terms) (s : Sheet) (date last : Date) : Type 0 where
  stays : Stays s (opened terms s date)
  sum : opened terms (opened terms s date) last ≡ opened terms s last

midway : (terms : Terms) (s : Sheet) (start date last : Date) → s.start ≡ Some start → date.number ≤ last.number → whole_months start.number last.number < lasts s.gate → Midway terms s date last
midway terms s start date last is order early =
    let m = whole_months start.number date.number in
    let n = whole_months start.number last.number in
    let grown = months_grow start.number date.number last.number date.valid last.valid order in
    let soon : whole_months start.number date.number < lasts s.gate = omega arith in
    let both = twice s.gate (m / 2 + 1) (n / 2 + 1) terms s refl (omega arith) in
    let e = opened_early terms s start date is soon in
    let t = closes (m / 2 + 1 - s.intermediate) terms s in
    let stays = both.stays in
    let then = opened_early terms t start last (stays.start ∙ is) (rw stays.gate early) in
    record {
      stays = record { gate = ap (λ (u : Sheet). u.gate) e ∙ stays.gate; start = ap (λ (u : Sheet). u.start) e ∙ stays.start };
      sum = ap (λ (u : Sheet). opened terms u last) e ∙ then ∙ both.sum ∙ sym (opened_early terms s start last is early);
    }

-- the first of some dates is no later than the last
first_order : (date : Date) (dates : List Date) (last : Date) → ascend_to (date ∷ dates) last ≡ true → (date.number ≤ last.number) × (ascend_to dates last ≡ true)
first_order date [] last h = (leb-true date.number last.number h, refl)
first_order date (then ∷ dates) last h =
    let parts = and_parts (leb date.number then.number) (ascend_to (then ∷ dates) last) h in
    let more = (first_order then dates last parts.1).0 in
    (grind (arith, nat_tests), parts.1)

pub one_or_several : OneOrSeveral
one_or_several terms s start [] last is order early = refl
one_or_several terms s start (date ∷ dates) last is order early =
    let first = first_order date dates last order in
    let mid = midway terms s start date last is first.0 early in
    let stays = mid.stays in
    one_or_several terms (opened terms s date) start dates last (stays.start ∙ is) first.1 (rw stays.gate early) ∙ mid.sum
