-- Splits: a text cut in two at a byte. Assumes nothing.
use Rattle.std.specs.Prelude.{ℕ, ◌+◌, List, take, drop, Option, ◌==◌, position}
use Rattle.std.specs.Option.{option_map}

-- what stands before the first mark, and what stands after it
abbrev pub split_once : ℕ → List ℕ → Option (List ℕ × List ℕ)
split_once mark text = option_map (λ i. (take i text, drop (i + 1) text)) (position (λ b. b == mark) text)
