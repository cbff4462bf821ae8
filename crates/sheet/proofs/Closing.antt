-- The close of intermediate periods, one after the other. Assumes nothing.
use Rattle.std.proofs.Common.{◌≡◌, ℕ, zero, suc, ◌+◌, ◌-◌, ◌<◌, ◌≤◌, replicate, refl, ap, ◌∙◌, arith}
use Rattle.sheet.specs.declared.gate.Gate.{Gate}
use Rattle.sheet.specs.declared.gate.Gate.TheVariants.{One, Two, Three}
use Rattle.sheet.specs.declared.thresholds.Terms.{Terms}
use Rattle.sheet.specs.declared.sheet.Sheet.{Sheet}
use Rattle.sheet.specs.declared.event.Event.TheVariants.{IntermediateClose}
use Rattle.sheet.specs.Sheets.{closed, next_in, next, after}

-- n closes
abbrev pub closes : ℕ → Terms → Sheet → Sheet
closes n terms s = after terms s (replicate n IntermediateClose)

-- one close leads at most one further
pub one_further : (gate : Gate) (terms : Terms) (s : Sheet) → (next_in gate IntermediateClose terms s).intermediate ≤ s.intermediate + 1
one_further One terms s = omega arith
one_further Two terms s = omega arith
one_further Three terms s = omega arith

-- and the start stays
pub start_stays : (gate : Gate) (terms : Terms) (s : Sheet) → (next_in gate IntermediateClose terms s).start ≡ s.start
start_stays One terms s = refl
start_stays Two terms s = refl
start_stays Three terms s = refl

-- of the closes up to an intermediate period, the first and then the others
pub first_close : (terms : Terms) (s t : Sheet) (to at : ℕ) → at < to → t ≡ next terms s IntermediateClose → closes (to - (at + 1)) terms t ≡ closes (to - at) terms s
first_close terms s t to at lt is =
    let one : to - at ≡ suc (to - (at + 1)) = omega arith in
    rw (one, is)

-- a close outside Gate 3
pub close_is : (gate : Gate) (terms : Terms) (s : Sheet) → s.gate ≡ gate → (gate ≡ Three → ⊥) → next terms s IntermediateClose ≡ closed terms s
close_is One terms s is other = rw is
close_is Two terms s is other = rw is
close_is Three terms s is other = absurd (other refl)

-- n closes outside Gate 3 lead n further, and gate and start stay
pub record Moved (n : ℕ) (s t : Sheet) : Type 0 where
  pub gate : t.gate ≡ s.gate
  pub start : t.start ≡ s.start
  pub intermediate : t.intermediate ≡ s.intermediate + n

pub closes_move : (n : ℕ) (terms : Terms) (s : Sheet) (gate : Gate) → s.gate ≡ gate → (gate ≡ Three → ⊥) → Moved n s (closes n terms s)
closes_move zero terms s gate is other = record { gate = refl; start = refl; intermediate = omega arith }
closes_move (suc n) terms s gate is other =
    let e : closes n terms (next terms s IntermediateClose) ≡ closes n terms (closed terms s) = ap (closes n terms) (close_is gate terms s is other) in
    let more = closes_move n terms (closed terms s) gate is other in
    record {
      gate = ap (λ (t : Sheet). t.gate) e ∙ more.gate;
      start = ap (λ (t : Sheet). t.start) e ∙ more.start;
      intermediate = ap (λ (t : Sheet). t.intermediate) e ∙ more.intermediate ∙ omega arith;
    }
