-- The rows of the tick table by the rule. Assumes nothing.
use Rattle.std.specs.Prelude.{ℕ, ◌+◌, List, map}
use Rattle.std.specs.List.{range_with_len}
use Rattle.ladder.specs.Bands.{start, step_of}
use Rattle.ladder.specs.declared.rows.TickRow.{TickRow}

-- row r: where it starts, and its steps in bands 1 to 6
abbrev pub rule : ℕ → TickRow
rule r = record { start = start r; steps = map (λ c. step_of r (c + 1)) (range_with_len 0 6) }

-- rows 0 to 18
abbrev pub ticks : List TickRow
ticks = map rule (range_with_len 0 19)
