-- The nearest rung in either direction: it is one, and when it is that of another set too. Assumes nothing.
use Rattle.std.proofs.Common.{◌≡◌, ℕ, ◌≤◌, ◌⊎◌, Some, None, Option, sym, ap, ◌∙◌, ⊎_elim, arith}
use Rattle.ladder.specs.Rungs.{Rungs, In, Nearest}

-- a direction: what is ahead of what follows is ahead, and two numbers are not each ahead of the other
pub record Direction (ahead : ℕ → ℕ → Type 0) : Type 0 where
  pub joins : (a b c : ℕ) → ahead a b → ahead b c → ahead a c
  pub meets : (a b : ℕ) → ahead a b → ahead b a → a ≡ b

pub upward : Direction (λ a b. a ≤ b)
upward = record { joins = λ a b c x y. omega arith; meets = λ a b x y. omega arith }

pub downward : Direction (λ a b. b ≤ a)
downward = record { joins = λ a b c x y. omega arith; meets = λ a b x y. omega arith }

-- from p on two sets agree at k, or have both a rung e before it
pub record Detour (ahead : ℕ → ℕ → Type 0) (these those : Rungs) (p k : ℕ) : Type 0 where
  pub edge : ℕ
  pub from : ahead p edge
  pub to : ahead edge k
  pub this : In these edge
  pub that : In those edge

-- sets that are alike so have the same nearest rung
pub nearest_moves : (ahead : ℕ → ℕ → Type 0) → Direction ahead → (these those : Rungs) (p : ℕ) → ((k : ℕ) → ahead p k → (these k ≡ those k) ⊎ Detour ahead these those p k) → (r : Option ℕ) → Nearest ahead these p r → Nearest ahead those p r
nearest_moves ahead d these those p alike None none = λ k far on.
    ⊎_elim
    (λ (e : these k ≡ those k). none k far (e ∙ on))
    (λ (t : Detour ahead these those p k). none t.edge t.from t.this)
    (alike k far)
nearest_moves ahead d these those p alike (Some q) found =
    let first : (k : ℕ) → ahead p k → In those k → ahead q k =
    λ k far on.
    ⊎_elim
    (λ (e : these k ≡ those k). found.2 k far (e ∙ on))
    (λ (t : Detour ahead these those p k). d.joins q t.edge k (found.2 t.edge t.from t.this) t.to)
    (alike k far) in
    let on : In those q =
    ⊎_elim
    (λ (e : these q ≡ those q). sym e ∙ found.0)
    (λ (t : Detour ahead these those p q).
    ap those (d.meets q t.edge (found.2 t.edge t.from t.this) t.to) ∙ t.that)
    (alike q found.1) in
    (on, found.1, first)
