-- The nearest rung of a band is the nearest multiple of the step that holds there. Assumes nothing.
use Rattle.std.proofs.Common.{◌≡◌, ℕ, suc, ◌%◌, ◌<◌, ◌≤◌, ◌⊎◌, Option, sym, ap, inl, inr, ⊎_elim, arith}
use Rattle.std.proofs.lemmas.Bool.{cases_order}
use Rattle.std.proofs.lemmas.Bool.Decides.{nat_tests}
use Rattle.ladder.specs.Rungs.{In, Lowest, Highest}
use Rattle.ladder.specs.Multiples.{multiples}
use Rattle.ladder.specs.Bands.{start, step_of, row_of, banded}
use Rattle.ladder.proofs.Nearests.{upward, downward, Detour, nearest_moves}
use Rattle.ladder.proofs.Starts.{start_mono, first_start, last_start, fits_at, row_in, row_below, row_of_start}

-- where a row starts is a rung of each step that divides it
start_on : (r s : ℕ) → 0 < r → r < 19 → start r % s ≡ 0 → In (multiples s) (start r)
start_on r s low high m =
    let above = first_start r low (omega arith) in
    let below = last_start r (omega arith) in
    grind (arith, nat_tests)

module _ (c : ℕ) (low : 0 < c) (high : c ≤ 6) where
  start_in : (r : ℕ) → 0 < r → r < 19 → In (banded c) (start r)
  start_in r some last =
      let e = row_of_start r last in
      let m : start r % step_of (row_of (start r)) c ≡ 0 = rw e (fits_at r c last low high).at_start in
      start_on r (step_of (row_of (start r)) c) some last m

  -- in the row of p the rungs are the multiples of its step
  same_row : (p k : ℕ) → row_of k ≡ row_of p → multiples (step_of (row_of p) c) k ≡ banded c k
  same_row p k e = ap (λ (r : ℕ). multiples (step_of r c) k) (sym e)

  -- past its ends, the way leads over where a row starts
  alike_above : (p k : ℕ) → p ≤ k → (multiples (step_of (row_of p) c) k ≡ banded c k) ⊎ Detour (λ a b. a ≤ b) (multiples (step_of (row_of p) c)) (banded c) p k
  alike_above p k le =
      let a = row_in p in
      let b = row_in k in
      ⊎_elim
      (λ (e : row_of k ≡ row_of p). inl (same_row p k e))
      (⊎_elim
      (λ (lt : row_of k < row_of p). absurd (omega (arith, row_below k p (row_of k) (row_of p) b a lt, a.low)))
      (λ (gt : row_of p < row_of k).
      let more : suc (row_of p) < 19 = omega (arith, b.row) in
      inr (record {
        edge = start (suc (row_of p));
        from = omega (arith, a.high (omega arith));
        to = omega (arith, start_mono (suc (row_of p)) (row_of k) gt (omega (arith, b.row)), b.low);
        this = start_on (suc (row_of p)) (step_of (row_of p) c) (omega arith) more (fits_at (row_of p) c a.row low high).at_end;
        that = start_in (suc (row_of p)) (omega arith) more;
      })))
      (cases_order (row_of k) (row_of p))

  alike_below : (p k : ℕ) → k ≤ p → (multiples (step_of (row_of p) c) k ≡ banded c k) ⊎ Detour (λ a b. b ≤ a) (multiples (step_of (row_of p) c)) (banded c) p k
  alike_below p k le =
      let a = row_in p in
      let b = row_in k in
      ⊎_elim
      (λ (e : row_of k ≡ row_of p). inl (same_row p k e))
      (⊎_elim
      (λ (lt : row_of k < row_of p).
      inr (record {
        edge = start (row_of p);
        from = a.low;
        to = omega (arith, row_below k p (row_of k) (row_of p) b a lt);
        this = start_on (row_of p) (step_of (row_of p) c) (omega arith) a.row (fits_at (row_of p) c a.row low high).at_start;
        that = start_in (row_of p) (omega arith) a.row;
      }))
      (λ (gt : row_of p < row_of k). absurd (omega (arith, row_below p k (row_of p) (row_of k) a b gt, b.low))))
      (cases_order (row_of k) (row_of p))

pub lowest_moves : (c step p : ℕ) (r : Option ℕ) → 0 < c → c ≤ 6 → step ≡ step_of (row_of p) c → Lowest (multiples step) p r → Lowest (banded c) p r
lowest_moves c step p r low high is found = nearest_moves (λ a b. a ≤ b) upward (multiples (step_of (row_of p) c)) (banded c) p (alike_above c low high p) r (rw is at found)

pub highest_moves : (c step p : ℕ) (r : Option ℕ) → 0 < c → c ≤ 6 → step ≡ step_of (row_of p) c → Highest (multiples step) p r → Highest (banded c) p r
highest_moves c step p r low high is found = nearest_moves (λ a b. b ≤ a) downward (multiples (step_of (row_of p) c)) (banded c) p (alike_below c low high p) r (rw is at found)
