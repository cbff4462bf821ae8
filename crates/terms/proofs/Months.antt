-- Whole months: they grow with the later date. Assumes nothing.
use Rattle.std.proofs.Common.{◌≡◌, ℕ, ◌≤◌, true, ◌&&◌, arith}
use Rattle.std.proofs.lemmas.Bool.{and_parts}
use Rattle.std.proofs.lemmas.Bool.Decides.{nat_tests}
use Rattle.terms.specs.Prices.{within, within_ends}
use Rattle.terms.specs.Dates.{year_of, month_of, day_of, days_in, is_date, month_count, whole_months}

-- a date's month is one of twelve
month : (n : ℕ) → is_date n ≡ true → (1 ≤ month_of n) × (month_of n ≤ 12)
month n date =
    let parts = (and_parts (within 2000 2099 (year_of n)) (within 1 12 (month_of n)) (and_parts (within 2000 2099 (year_of n) && within 1 12 (month_of n)) (within 1 (days_in (year_of n) (month_of n)) (day_of n)) date).0).1 in
    within_ends 1 12 (month_of n) parts

pub months_none : (n : ℕ) → whole_months n n ≡ 0
months_none n = omega arith

-- of two numbers in their order, the months are in order, and in one month the days
pub record Ordered (b c : ℕ) : Type 0 where
  pub months : month_count b ≤ month_count c
  pub days : month_count b ≡ month_count c → day_of b ≤ day_of c

pub ordered : (b c : ℕ) → is_date b ≡ true → is_date c ≡ true → b ≤ c → Ordered b c
ordered b c date-b date-c le =
    let hb = month b date-b in
    let hc = month c date-c in
    record { months = omega arith; days = λ e. omega arith }

pub months_grow : (a b c : ℕ) → is_date b ≡ true → is_date c ≡ true → b ≤ c → whole_months a b ≤ whole_months a c
months_grow a b c date-b date-c le =
    let o = ordered b c date-b date-c le in
    grind (arith, nat_tests)
