-- Multiples of a step: the nearest at or below a number, and at or above it. Assumes nothing.
use Rattle.std.proofs.Common.{◌≡◌, ltb, leb, max, Option, ℕ, ◌+◌, ◌*◌, ◌/◌, ◌%◌, ◌<◌, ◌≤◌, min, ⊎_elim, mod-lt, add-mul, div-add-mod', arith}
use Rattle.std.proofs.Math.Nat.{mul-mod_left, dvd-sub}
use Rattle.std.proofs.lemmas.Nat.Gcd.{le_of_dvd, dvd_of_mod-eq-zero}
use Rattle.std.specs.Bool.{then_some}
use Rattle.std.proofs.lemmas.Bool.{cases_lt, lt-ltb, le-ltb, le-leb, lt-leb}
use Rattle.ladder.specs.Rungs.{Lowest, Highest}
use Rattle.std.proofs.lemmas.Bool.Decides.{nat_tests}
use Rattle.ladder.specs.Multiples.{multiples, multiples_priced}
use Rattle.ladder.specs.Laws.{WholeSteps}

-- a multiple less than a step away is at least as far as no other
nearest : (s a b : ℕ) → a % s ≡ 0 → b % s ≡ 0 → a < b + s → a ≤ b
nearest s a b ha hb h =
    ⊎_elim
    (λ (lt : b < a). omega (arith, le_of_dvd (omega arith) (dvd-sub s (dvd_of_mod-eq-zero s ha) (dvd_of_mod-eq-zero s hb))))
    (λ (le : a ≤ b). le)
    (cases_lt b a)

-- the multiple of s at or below x
abbrev down : ℕ → ℕ → ℕ
down s x = x / s * s

record Down (s x : ℕ) : Type 0 where
  on : down s x % s ≡ 0
  at : down s x ≤ x
  best : (k : ℕ) → k ≤ x → k % s ≡ 0 → k ≤ down s x

goes_down : (s x : ℕ) → 0 < s → Down s x
goes_down s x h =
    let e = div-add-mod' x s in
    let m = mod-lt x h in
    record {
      on = mul-mod_left (x / s) s;
      at = omega arith;
      best = λ k le hk. nearest s k (down s x) hk (mul-mod_left (x / s) s) (omega arith);
    }

-- the whole steps that go into x, and one more where they fall short
abbrev pub up : ℕ → ℕ → ℕ
up s x = (x / s + min 1 (x % s)) * s

record Up (s x : ℕ) : Type 0 where
  on : up s x % s ≡ 0
  at : x ≤ up s x
  close : up s x < x + s
  best : (k : ℕ) → x ≤ k → k % s ≡ 0 → up s x ≤ k

-- a number is up to a step below the multiple
goes_up : (s x : ℕ) → 0 < s → Up s x
goes_up s x h =
    let e = div-add-mod' x s in
    let m = mod-lt x h in
    let on = mul-mod_left (x / s + min 1 (x % s)) s in
    let ends : (x ≤ up s x) × (up s x < x + s) =
    ⊎_elim
    (λ (lt : x % s < 1).
    let none : min 1 (x % s) ≡ 0 = omega arith in
    rw none (omega (arith, add-mul (x / s) 0 s), omega (arith, add-mul (x / s) 0 s)))
    (λ (ge : 1 ≤ x % s).
    let one : min 1 (x % s) ≡ 1 = omega arith in
    rw one (omega (arith, add-mul (x / s) 1 s), omega (arith, add-mul (x / s) 1 s)))
    (cases_lt (x % s) 1) in
    record {
      on = on;
      at = ends.0;
      close = ends.1;
      best = λ k le hk. nearest s (up s x) k on hk (omega arith);
    }

-- rounding down, then dropping 0, which is no price
pub rounds_down : (s p m : ℕ) (r : Option ℕ) → 0 < s → m ≡ min p 1000000000 → r ≡ then_some (ltb 0 (down s m)) (down s m) → Highest (multiples s) p r
rounds_down s p m r low last is =
    let d = goes_down s m low in
    let on = d.on in
    let at = d.at in
    ⊎_elim
    (λ (lt : 0 < down s m).
    rw (is, lt-ltb 0 _ lt) (grind (arith, nat_tests), omega arith, λ k h hk. d.best k (grind (arith, nat_tests)) (grind (arith, nat_tests))))
    (λ (le : down s m ≤ 0).
    rw (is, le-ltb 0 _ le) (λ k h hk. let best = d.best k (grind (arith, nat_tests)) (grind (arith, nat_tests)) in grind (arith, nat_tests)))
    (cases_lt 0 (down s m))

-- rounding up from no farther than behind the last price, then dropping what is above it
pub rounds_up : (s p m : ℕ) (r : Option ℕ) → 0 < s → m ≡ min (max p 1) 1000000001 → r ≡ then_some (leb (up s m) 1000000000) (up s m) → Lowest (multiples s) p r
rounds_up s p m r low first is =
    let u = goes_up s m low in
    let on = u.on in
    let at = u.at in
    ⊎_elim
    (λ (lt : 1000000000 < up s m).
    rw (is, lt-leb _ _ lt) (λ k le hk. let best = u.best k (grind (arith, nat_tests)) (grind (arith, nat_tests)) in grind (arith, nat_tests)))
    (λ (le : up s m ≤ 1000000000).
    rw (is, le-leb _ _ le) (grind (arith, nat_tests), omega arith, λ k le hk. u.best k (grind (arith, nat_tests)) (grind (arith, nat_tests))))
    (cases_lt 1000000000 (up s m))

-- a price is a multiple when whole steps make it
pub whole_steps : WholeSteps
whole_steps step p = (
  λ h.
      let zero : p % step ≡ 0 = grind (arith, nat_tests) in
      (multiples_priced step p h, (p / step, omega (arith, div-add-mod' p step))),
  λ price m is.
      let zero : p % step ≡ 0 = rw is (mul-mod_left m step) in
      grind (arith, nat_tests),
)
