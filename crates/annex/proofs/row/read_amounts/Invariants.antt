use Rattle.std.proofs.Common.{◌≡◌, ◌-◌, ◌≤◌, true, length}
use Rattle.std.specs.Slice.Iter.{split_rest, split_done, splitn_count, splitn_parts}
use Rattle.annex.specs.Rows.{amounts}
use Rattle.annex.proofs.Reading.{seven}
use Rattle.annex.proofs.row.read_amounts.Given as goal

-- so many pieces are to follow as amounts are to be read; the seventh piece ends the text
abbrev pub invariant-loop-amount : goal.invariant-loop-amount
invariant-loop-amount l =
    (length l.amount-items ≡ 7) × (splitn_count l.fields ≡ 7 - l.amount-index) × (7 ≤ l.amount-index → split_done (splitn_parts l.fields) ≡ true) × (seven l.amount-index l.amount-items (split_done (splitn_parts l.fields)) (split_rest (splitn_parts l.fields)) ≡ amounts 6 l.line)
