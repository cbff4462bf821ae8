-- Rows: a row of the tick table as text. Assumes nothing.
use Rattle.std.specs.Prelude.{◌≡◌, ℕ, zero, suc, List, [], ◌∷◌, length, Some, None, Option}
use Rattle.std.specs.Option.{option_map, option_and_then}
use Rattle.std.specs.List.{join_with_byte}
use Rattle.text.specs.Euros.{euros, InEuros}
use Rattle.text.specs.Splits.{split_once}
use Rattle.annex.specs.declared.row.Row.{Row}

-- the amount before the first semicolon, and what stands after it
abbrev pub amount : List ℕ → Option (ℕ × List ℕ)
amount text = option_and_then (λ p. option_map (λ n. (n, p.1)) (euros p.0)) (split_once 59 text)

-- so many amounts, each before a semicolon, and one more that ends the text
abbrev pub amounts : ℕ → List ℕ → Option (List ℕ)
amounts zero text = option_map (λ n. n ∷ []) (euros text)
amounts (suc more) text = option_and_then (λ p. option_map (λ ns. p.0 ∷ ns) (amounts more p.1)) (amount text)

-- the start and the steps
abbrev pub row_from : List ℕ → Option Row
row_from [] = None
row_from (n ∷ ns) = Some (record { start = n; steps = ns })

-- the row that a text of seven amounts says
abbrev pub read_row : List ℕ → Option Row
read_row line = option_and_then row_from (amounts 6 line)

-- each text says its amount
abbrev pub EachSays : List (List ℕ) → List ℕ → Type 0
EachSays [] [] = Unit {0}
EachSays [] (n ∷ ns) = ⊥
EachSays (text ∷ texts) [] = ⊥
EachSays (text ∷ texts) (n ∷ ns) = InEuros text n × EachSays texts ns

-- the line says the row: seven texts with a semicolon between each two, each of which says its amount
pub record SaysRow (line : List ℕ) (row : Row) : Type 0 where
  pub texts : List (List ℕ)
  pub seven : length texts ≡ 7
  pub is : line ≡ join_with_byte 59 texts
  pub says : EachSays texts (row.start ∷ row.steps)
