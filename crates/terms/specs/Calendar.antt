-- What the definitions of dates amount to. Assumes nothing.
use Rattle.std.specs.Prelude.{◌≡◌, ℕ, zero, suc, ◌+◌, ◌-◌, ◌*◌, ◌/◌, ◌%◌, ◌<◌, ◌≤◌, true, ◌&&◌}
use Rattle.terms.specs.Prices.{within}
use Rattle.terms.specs.Dates.{day_of, days_in, is_date, month_count, whole_months}

-- a date is written as its year, two digits of its month and two of its day
abbrev pub Written : Type 0
Written = (year month day : ℕ) → month < 100 → day < 100 → is_date (10000 * year + 100 * month + day) ≡ (within 2000 2099 year && within 1 12 month && within 1 (days_in year month) day)

-- the days of the first n months from January 2000 on
abbrev pub days_of : ℕ → ℕ
days_of zero = 0
days_of (suc n) = days_in (2000 + n / 12) (n % 12 + 1) + days_of n

-- the hundred years from 2000 on have 36,525 days
abbrev pub Century : Type 0
Century = days_of 1200 ≡ 36525

-- the number that says the same day m months on; where that month is too short, it is above all dates of the month and below those of the next
abbrev pub months_on : ℕ → ℕ → ℕ
months_on n m = 10000 * ((month_count n + m - 1) / 12) + 100 * ((month_count n + m - 1) % 12 + 1) + day_of n

-- the day so many whole months on has come, and the one a month later has not
abbrev pub MonthsPassed : Type 0
MonthsPassed = (from to : ℕ) → is_date from ≡ true → is_date to ≡ true → from ≤ to → (months_on from (whole_months from to) ≤ to) × (to < months_on from (whole_months from to + 1))
