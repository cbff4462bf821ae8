-- The worked cases of the period sheet: the shares of one bank from 5 January 2024 on. Assumes nothing.
use Rattle.std.specs.Prelude.{◌≡◌, ℕ, true, Some, None, Option, refl}
use Rattle.terms.specs.declared.date.Date.{Date}
use Rattle.terms.specs.declared.trade.Trade.{Trade}
use Rattle.terms.specs.Prices.{is_price}
use Rattle.terms.specs.Dates.{is_date}
use Rattle.sheet.specs.declared.gate.Gate.{Gate}
use Rattle.sheet.specs.declared.gate.Gate.TheVariants.{One, Two}
use Rattle.sheet.specs.declared.founding.FoundingSheet.{FoundingSheet}
use Rattle.sheet.specs.declared.sheet.Sheet.{Sheet}
use Rattle.sheet.specs.Foundings.{founded, terms_of}
use Rattle.sheet.specs.Sheets.{opened, posted}

-- a date, and a trade, by their numbers
abbrev pub day : (n : ℕ) → is_date n ≡ true → Date
day n valid = record { number = n; valid = valid }

abbrev pub trade : (price shares : ℕ) → is_price price ≡ true → Option Trade
trade price shares valid = Some (record { price = price; shares = shares; valid = valid })

-- shares at 10 euros, at a ten-thousandth more, and at 10.10
abbrev pub at_ten : ℕ → Option Trade
at_ten shares = trade 100000 shares refl

abbrev pub just_above : ℕ → Option Trade
just_above shares = trade 100001 shares refl

abbrev pub at_ten_ten : ℕ → Option Trade
at_ten_ten shares = trade 101000 shares refl

-- a million shares with a large float, in Gate 1 at 10 euros
abbrev pub bank : FoundingSheet
bank = record { gate = 1; float = 1; choice = 1000; circulation = 1000000; reference = 100000; «cap» = 100; first = 1 }

abbrev pub january : Date
january = day 20240105 refl

abbrev pub started : Sheet
started = opened (terms_of bank) (founded bank) january

abbrev pub traded : Option Trade → Sheet
traded t = posted (terms_of bank) started t

abbrev pub traded_twice : Option Trade → Option Trade → Sheet
traded_twice t u = posted (terms_of bank) (traded t) u

-- a call on 8 March, when the first intermediate period is over
abbrev pub march : Sheet → Sheet
march s = opened (terms_of bank) s (day 20240308 refl)

-- a call on 10 January 2025, when the period is
abbrev pub next_year : Sheet → Sheet
next_year s = opened (terms_of bank) s (day 20250110 refl)

-- the example of docs/RULES.md: what stands on the sheet, line by line
abbrev pub IsLine : Gate → ℕ → ℕ → ℕ → ℕ → ℕ → Sheet → Type 0
IsLine gate limit reference volume intermediate recent s =
    (s.gate ≡ gate) × (s.limit ≡ limit) × (s.reference ≡ reference) × (s.volume ≡ volume) × (s.intermediate ≡ intermediate) × (s.recent ≡ recent)

abbrev pub first_trade : Sheet
first_trade = traded (at_ten 999)

abbrev pub second_trade : Sheet
second_trade = posted (terms_of bank) (march first_trade) (at_ten_ten 1000)

abbrev pub in_may : Sheet
in_may = opened (terms_of bank) second_trade (day 20240510 refl)

abbrev pub third_trade : Sheet
third_trade = posted (terms_of bank) in_may (trade 102000 8001 refl)

abbrev pub afterwards : Sheet
afterwards = opened (terms_of bank) third_trade (day 20240517 refl)

pub record Example : Type 0 where
  pub opens : IsLine One 8 100000 0 1 0 started
  pub little : IsLine One 8 100000 999 1 999 first_trade
  pub widens : IsLine One 12 100000 999 2 0 (march first_trade)
  pub enough : IsLine One 12 100000 1999 2 1000 second_trade
  pub stays : IsLine One 12 100000 1999 3 0 in_may
  pub ends : IsLine Two 6 101700 0 1 0 third_trade
  pub starts : IsLine Two 6 101700 0 1 0 afterwards
  pub from : afterwards.start ≡ Some (day 20240517 refl)

pub record PeriodCases : Type 0 where
  -- 9,999 shares leave the period running, 10,000 end it
  pub short : ((traded (at_ten 9999)).start ≡ Some january) × ((traded (at_ten 9999)).volume ≡ 9999)
  pub full : ((traded (at_ten 10000)).start ≡ None) × ((traded (at_ten 10000)).volume ≡ 0)
  -- 4,000 shares at 10 euros and 6,000 at 10.10 end it at 10.06, in Gate 2 with 6 percent
  pub mixed : ((traded_twice (at_ten 4000) (at_ten_ten 6000)).reference ≡ 100600) × ((traded_twice (at_ten 4000) (at_ten_ten 6000)).gate ≡ Two) × ((traded_twice (at_ten 4000) (at_ten_ten 6000)).limit ≡ 6)
  -- two shares, one a ten-thousandth dearer: halves go up
  pub half : (next_year (traded_twice (at_ten 1) (just_above 1))).reference ≡ 100001
  -- one share short of the minimum the limit widens, at the minimum it does not
  pub thin : (march (traded (at_ten 999))).limit ≡ 12
  pub enough : (march (traded (at_ten 1000))).limit ≡ 8
  -- which intermediate period dates are in
  pub first : (opened (terms_of bank) started (day 20240301 refl)).intermediate ≡ 1
  pub second : (march started).intermediate ≡ 2
  pub sixth : (opened (terms_of bank) started (day 20250103 refl)).intermediate ≡ 6
  pub anew : ((next_year started).start ≡ Some (day 20250110 refl)) × ((next_year started).intermediate ≡ 1)
  -- a period without shares, widened on the way, keeps its Reference Price and goes back to 8 percent
  pub empty : ((next_year (march started)).reference ≡ 100000) × ((next_year (march started)).limit ≡ 8) × ((next_year (march started)).gate ≡ One)
  pub example : Example
