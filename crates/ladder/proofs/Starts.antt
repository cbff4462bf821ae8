-- The rows of the tick table: they rise, each number is in one, and a row's step divides both its ends. Assumes nothing.
use Rattle.std.proofs.Common.{◌≡◌, ℕ, zero, suc, ◌+◌, ◌-◌, ◌%◌, ◌<◌, ◌≤◌, Bool, true, ◌&&◌, eqb, ltb, leb, refl, ⊎_elim, arith}
use Rattle.std.proofs.lemmas.Bool.{le-leb, lt-leb, cases_lt, ltb-true}
use Rattle.std.proofs.lemmas.Bool.Decides.{Decides-below_and, nat_tests}
use Rattle.ladder.specs.Bands.{series, start, step_of, row_to, row_of}
use Rattle.ladder.specs.Rows.{InRow}
use Rattle.ladder.specs.Laws.{OneRow}

-- a test that passes at each number below n
abbrev all : (ℕ → Bool) → ℕ → Bool
all f zero = true
all f (suc n) = f n && all f n

all_at : (f : ℕ → Bool) (n : ℕ) → all f n ≡ true → (k : ℕ) → k < n → f k ≡ true
all_at f n = (Decides-below_and f (λ k. f k ≡ true) (all f) (λ k. (λ e. e, λ e. e)) refl (λ k. refl) n).0

-- each row starts above the one before it
rising : (r : ℕ) → r < 18 → start r < start (suc r)
unfolding start series
rising r h = ltb-true (start r) (start (suc r)) (all_at (λ r. ltb (start r) (start (suc r))) 18 refl r h)

pub start_mono : (r s : ℕ) → r ≤ s → s ≤ 18 → start r ≤ start s
start_mono r zero le h = let e : r ≡ zero = omega arith in rw e (omega arith)
start_mono r (suc s) le h =
    ⊎_elim
    (λ (lt : r < suc s). omega (arith, start_mono r s (omega arith) (omega arith), rising s (omega arith)))
    (λ (ge : suc s ≤ r). let e : r ≡ suc s = omega arith in rw e (omega arith))
    (cases_lt r (suc s))

pub start_zero : start 0 ≡ 0
unfolding start
start_zero = refl

pub first_start : (r : ℕ) → 0 < r → r ≤ 18 → 1 ≤ start r
unfolding start series
first_start r low high = omega (arith, start_mono 1 r low high)

pub last_start : (r : ℕ) → r ≤ 18 → start r ≤ 500000000
unfolding start series
last_start r high = start_mono r 18 high (omega arith)

-- a row's step is a step, and divides where the row starts and where it ends
pub record Fits (r c : ℕ) : Type 0 where
  pub some : 0 < step_of r c
  pub small : step_of r c ≤ 1000000000
  pub at_start : start r % step_of r c ≡ 0
  pub at_end : start (suc r) % step_of r c ≡ 0

abbrev fits : ℕ → ℕ → Bool
fits r c = ltb 0 (step_of r c) && (leb (step_of r c) 1000000000 && (eqb (start r % step_of r c) 0 && eqb (start (suc r) % step_of r c) 0))

fits_from : (r c : ℕ) → fits r c ≡ true → Fits r c
fits_from r c t =
    record {
      some = grind (arith, nat_tests);
      small = grind (arith, nat_tests);
      at_start = grind (arith, nat_tests);
      at_end = grind (arith, nat_tests);
    }

-- one test of the whole table
fits_all : (r : ℕ) → r < 19 → all (λ c. fits r (c + 1)) 6 ≡ true
unfolding step_of start series
fits_all = all_at (λ r. all (λ c. fits r (c + 1)) 6) 19 refl

pub fits_at : (r c : ℕ) → r < 19 → 0 < c → c ≤ 6 → Fits r c
fits_at r c hr low high =
    let e : c - 1 + 1 ≡ c = omega arith in
    fits_from r c (rw e at (all_at (λ c. fits r (c + 1)) 6 (fits_all r hr) (c - 1) (omega arith)))

-- p is in row r of rows 0 to n
record InTo (n p r : ℕ) : Type 0 where
  row : r ≤ n
  low : start r ≤ p
  high : r < n → p < start (suc r)

row_ends : (n p r : ℕ) → InTo n p r → p < start (suc n) → p < start (suc r)
row_ends n p r t lt =
    ⊎_elim
    t.high
    (λ (ge : n ≤ r). let e : r ≡ n = omega (arith, t.row) in rw e lt)
    (cases_lt r n)

row_to_lem : (n p : ℕ) → InTo n p (row_to n p)
unfolding row_to start
row_to_lem zero p = record { row = omega arith; low = omega arith; high = λ h. omega arith }
row_to_lem (suc n) p =
    ⊎_elim
    (λ (lt : p < start (suc n)).
    let t = row_to_lem n p in
    rw (lt-leb (start (suc n)) p lt) (record { row = omega arith; low = t.low; high = λ h. row_ends n p (row_to n p) t lt }))
    (λ (le : start (suc n) ≤ p).
    rw (le-leb (start (suc n)) p le) (record { row = omega arith; low = le; high = λ h. omega arith }))
    (cases_lt p (start (suc n)))

pub row_in : (p : ℕ) → InRow p (row_of p)
unfolding row_of
row_in p = let t = row_to_lem 18 p in record { row = omega arith; low = t.low; high = t.high }

-- a lower row is of lower numbers
pub row_below : (p q r s : ℕ) → InRow p r → InRow q s → r < s → p < start s
row_below p q r s a b lt = omega (arith, a.high (omega (arith, b.row)), start_mono (suc r) s lt (omega (arith, b.row)))

pub row_is : (p r : ℕ) → InRow p r → row_of p ≡ r
row_is p r h =
    let t = row_in p in
    ⊎_elim
    (λ (lt : row_of p < r). omega (arith, row_below p p (row_of p) r t h lt, h.low))
    (λ (ge : r ≤ row_of p).
    ⊎_elim
    (λ (lt : r < row_of p). omega (arith, row_below p p r (row_of p) h t lt, t.low))
    (λ (le : row_of p ≤ r). omega arith)
    (cases_lt r (row_of p)))
    (cases_lt (row_of p) r)

pub one_row : OneRow
one_row p = (row_in p, row_is p)

pub row_of_start : (r : ℕ) → r < 19 → row_of (start r) ≡ r
row_of_start r h = row_is (start r) r (record { row = h; low = omega arith; high = λ lt. rising r lt })

pub step_fits : (p c : ℕ) → 0 < c → c ≤ 6 → (0 < step_of (row_of p) c) × (step_of (row_of p) c ≤ 1000000000)
step_fits p c low high = let f = fits_at (row_of p) c (row_in p).row low high in (f.some, f.small)
