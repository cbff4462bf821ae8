-- Euros: amounts as decimal text, in ten-thousandths of a euro. Assumes nothing.
use Rattle.std.specs.Prelude.{◌≡◌, ℕ, ◌+◌, ◌-◌, ◌*◌, ◌^◌, ◌≤◌, true, cond, ◌&&◌, List, [], ◌∷◌, ◌++◌, length, Some, None, Option, nat_le}
use Rattle.std.specs.Option.{option_map, option_and_then}
use Rattle.std.specs.Str.Parse.{digits_value}
use Rattle.std.specs.Str.{all_ascii_digits}
use Rattle.text.specs.Splits.{split_once}

-- the number that from one to `most` digits write
abbrev pub digits : ℕ → List ℕ → Option ℕ
digits most ds = cond (nat_le 1 (length ds) && nat_le (length ds) most && all_ascii_digits ds) (Some (digits_value 10 ds)) None

-- whole euros alone, or whole euros and decimals
abbrev pub euros_of : List ℕ → Option (List ℕ × List ℕ) → Option ℕ
euros_of text None = option_map (λ whole. whole * 10000) (digits 6 text)
euros_of text (Some p) = option_and_then (λ whole. option_map (λ part. whole * 10000 + part * 10 ^ (4 - length p.1)) (digits 4 p.1)) (digits 6 p.0)

-- the ten-thousandths of a euro that a text says
abbrev pub euros : List ℕ → Option ℕ
euros text = euros_of text (split_once 46 text)

-- decimals stand after a point
abbrev pub pointed : List ℕ → List ℕ
pointed [] = []
pointed (d ∷ ds) = 46 ∷ d ∷ ds

-- the text says n: one to six digits, and after them nothing or a point and one to four digits
pub record InEuros (text : List ℕ) (n : ℕ) : Type 0 where
  pub whole : List ℕ
  pub decimals : List ℕ
  pub is : text ≡ whole ++ pointed decimals
  pub whole_digits : all_ascii_digits whole ≡ true
  pub whole_some : 1 ≤ length whole
  pub whole_few : length whole ≤ 6
  pub decimal_digits : all_ascii_digits decimals ≡ true
  pub decimals_few : length decimals ≤ 4
  pub worth : n ≡ digits_value 10 whole * 10000 + digits_value 10 decimals * 10 ^ (4 - length decimals)
