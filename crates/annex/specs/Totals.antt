-- Totals: what is said of one line after another, and in the end. Assumes nothing.
use Rattle.std.specs.Prelude.{ℕ, ◌+◌, min, List, ◌++◌, Some, None, codes, decimal, Option}
use Rattle.annex.specs.Trials.{agreed, shown_trial}
use Rattle.annex.specs.declared.totals.Totals.{Totals}
use Rattle.annex.specs.declared.totals.Outcome.{Outcome}
use Rattle.annex.specs.declared.totals.Outcome.TheVariants.{Row, NotARow}
use Rattle.annex.specs.declared.trial.Trial.{Trial}

-- a count stops at the largest u64
abbrev pub up_to : ℕ → ℕ
up_to n = min n 18446744073709551615

-- the totals with one line more
abbrev pub counted : Option Trial → Totals → Totals
counted None t = record { lines = up_to (t.lines + 1); tried = t.tried; agreed = t.agreed }
counted (Some x) t = record { lines = up_to (t.lines + 1); tried = up_to (t.tried + 6); agreed = up_to (t.agreed + agreed x) }

-- what is said of the line that makes the n-th
abbrev pub shown_line : ℕ → Option Trial → List ℕ
shown_line n None = codes "line " ++ (decimal n ++ codes " is not a row")
shown_line n (Some x) = shown_trial x

-- what is found of the line that makes the n-th
abbrev pub outcome : ℕ → Option Trial → Outcome
outcome n None = NotARow n
outcome n (Some x) = Row x

-- what is said of what was found
abbrev pub shown_outcome : Outcome → List ℕ
shown_outcome (Row x) = shown_trial x
shown_outcome (NotARow n) = shown_line n None

-- what is said in the end
abbrev pub shown_totals : Totals → List ℕ
shown_totals t = decimal t.tried ++ (codes " steps tried, " ++ (decimal t.agreed ++ codes " agree"))
