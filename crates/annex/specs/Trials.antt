-- Trials: a row that is given beside the row that the table ladders have. Assumes nothing.
use Rattle.std.specs.Prelude.{ℕ, ◌+◌, min, Bool, cond, ◌&&◌, List, [], ◌++◌, map, codes, decimal, Option, ◌==◌, count_by, flat_map, zip}
use Rattle.std.specs.List.{range_with_len}
use Rattle.std.specs.Option.{option_map}
use Rattle.ladder.specs.Bands.{start, step_of, row_of}
use Rattle.annex.specs.Rows.{read_row}
use Rattle.annex.specs.declared.row.Row.{Row}
use Rattle.annex.specs.declared.trial.Trial.{Trial}

-- the row that p is in, with the steps of bands 1 to 6
abbrev pub table_row : ℕ → Row
table_row p = record { start = start (row_of p); steps = map (λ i. step_of (row_of p) (i + 1)) (range_with_len 0 6) }

-- a row beside the table's row where it starts; a start past every u32 is in the last row too
abbrev pub try_row : Row → Trial
try_row row = record { given = row; held = table_row (min row.start 4294967295) }

-- the trial of a line that is a row
abbrev pub tried : List ℕ → Option Trial
tried line = option_map try_row (read_row line)

-- how many steps agree
abbrev pub agreed : Trial → ℕ
agreed t = count_by (λ p. p.0 == p.1) (zip t.given.steps t.held.steps)

-- the start and the six steps agree
abbrev pub all_agree : Trial → Bool
all_agree t = t.given.start == t.held.start && agreed t == 6

-- an amount that is given, and the table's where that is another
abbrev pub beside : ℕ → ℕ → List ℕ
beside given held = codes " " ++ (decimal given ++ cond (given == held) [] (codes " (the table has " ++ (decimal held ++ codes ")")))

-- the same of each pair from two lists
abbrev pub besides : List ℕ → List ℕ → List ℕ
besides given held = flat_map (λ p. beside p.0 p.1) (zip given held)

abbrev pub verdict : Trial → List ℕ
verdict t = cond (all_agree t) (codes " agree") []

-- a trial as a line of text
abbrev pub shown_trial : Trial → List ℕ
shown_trial t =
    codes "from" ++ (beside t.given.start t.held.start ++ (codes ":" ++ (besides t.given.steps t.held.steps ++ verdict t)))
