-- The tick table as a list of rows by the rule, and which of them a number is in. Assumes nothing.
use Rattle.std.proofs.Common.{◌≡◌, ℕ, suc, ◌+◌, ◌-◌, ◌<◌, ◌≤◌, true, false, List, length, Option, Some, None, get_or, leb, leb-true, leb-false, sym, ap, ◌∙◌, arith}
use Rattle.std.specs.Prelude.{slice_index, unwrap_or, MatchOption}
use Rattle.std.proofs.lemmas.List.FromFn.{get_or-map-range_with_len}
use Rattle.ladder.specs.Bands.{start, step_of, row_of}
use Rattle.ladder.specs.TickRows.{rule, ticks}
use Rattle.ladder.specs.declared.rows.TickRow.{TickRow}
use Rattle.ladder.proofs.Starts.{start_zero, row_is}

module _ (rows : List TickRow) (by_rule : rows ≡ ticks) where
  many : length rows ≡ 19
  many = ap length by_rule

  entry : (r : ℕ) (d : TickRow) → r < 19 → get_or rows r d ≡ rule r
  entry r d lt = rw by_rule (get_or-map-range_with_len rule 0 19 r r d lt (omega arith))

  -- what the search from the last row on says: no row, or one that starts at or below p and none behind it that does
  abbrev pub Found : ℕ → Option ℕ → Type 0
  Found p found =
      MatchOption found
      ((k : ℕ) (d : TickRow) → k < length rows → leb (get_or rows k d).start p ≡ false)
      (λ i. (i < length rows) × ((d : TickRow) → leb (get_or rows i d).start p ≡ true) × ((k : ℕ) (d : TickRow) → i + 1 ≤ k → k < length rows → leb (get_or rows k d).start p ≡ false))

  above : (p r : ℕ) → r < 19 → leb (get_or rows r (rule 0)).start p ≡ false → p < start r
  above p r lt t = leb-false _ _ (sym (ap (λ (t : TickRow). leb t.start p) (entry r (rule 0) lt)) ∙ t)

  -- row 0 starts at 0, so there is one
  pub there : (p : ℕ) (found : Option ℕ) (d : TickRow) → Found p found → get_or rows (unwrap_or found 0) d ≡ rule (row_of p)
  there p None d none =
      let n = many in
      absurd (omega (arith, above p 0 (omega arith) (none 0 (rule 0) (omega arith)), start_zero))
  there p (Some i) d last =
      let n = many in
      let lt = last.0 in
      let low : start i ≤ p = leb-true _ _ (sym (ap (λ (t : TickRow). leb t.start p) (entry i (rule 0) (omega arith))) ∙ last.1 (rule 0)) in
      let is : row_of p ≡ i = row_is p i (record {
        row = omega arith;
        low = low;
        high = λ h. above p (suc i) (omega arith) (last.2 (suc i) (rule 0) (omega arith) (omega arith));
      }) in
      rw is (entry i d (omega arith))

pub step_by_rule : (r band : ℕ) → 0 < band → band ≤ 6 → slice_index (rule r).steps (band - 1) ≡ step_of r band
step_by_rule r band low high =
    let e : band - 1 + 1 ≡ band = omega arith in
    get_or-map-range_with_len (λ c. step_of r (c + 1)) 0 6 (band - 1) (band - 1) 0 (omega arith) (omega arith) ∙ rw e
