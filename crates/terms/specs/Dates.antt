-- Dates: days of the Gregorian calendar in the years 2000 to 2099, written as one number, 20240105. Assumes nothing.
use Rattle.std.specs.Prelude.{ℕ, ◌+◌, ◌-◌, ◌*◌, ◌/◌, ◌%◌, Bool, cond, not, ◌&&◌, ◌||◌, ◌==◌, nat_lt}
use Rattle.terms.specs.Prices.{within}

-- the last four digits are two of the month and two of the day
abbrev pub year_of : ℕ → ℕ
year_of n = n / 10000

abbrev pub month_of : ℕ → ℕ
month_of n = n / 100 % 100

abbrev pub day_of : ℕ → ℕ
day_of n = n % 100

-- every fourth year has a 29th of February, but of the years that end a century only every fourth
abbrev pub leap : ℕ → Bool
leap year = year % 4 == 0 && (not (year % 100 == 0) || year % 400 == 0)

-- 30 days has September, April, June and November
abbrev pub thirty : ℕ → Bool
thirty month = month == 4 || month == 6 || month == 9 || month == 11

abbrev pub days_in : ℕ → ℕ → ℕ
days_in year month = cond (month == 2) (cond (leap year) 29 28) (cond (thirty month) 30 31)

abbrev pub is_date : ℕ → Bool
is_date n = within 2000 2099 (year_of n) && within 1 12 (month_of n) && within 1 (days_in (year_of n) (month_of n)) (day_of n)

-- the month of a date, counted through the years
abbrev pub month_count : ℕ → ℕ
month_count n = 12 * year_of n + month_of n

-- the whole months from a date to one that is not earlier (- stops at 0): the last is not whole before the day comes round
abbrev pub whole_months : ℕ → ℕ → ℕ
whole_months from to = month_count to - month_count from - cond (nat_lt (day_of to) (day_of from)) 1 0
