use Rattle.std.proofs.Common.{◌≡◌, ℕ, ◌+◌, ◌<◌, get_or, ◌∙◌, rules}
use Rattle.std.proofs.lemmas.List.FromFn.{fill_by_all}
use Rattle.ladder.specs.Bands.{step_of, row_of}
use Rattle.annex.proofs.trial.table_row.Goals as goal

pub returns : goal.returns
returns c =
    let each : (k : ℕ) → k < 6 → get_or c.from_fn.result k 0 ≡ step_of (row_of c.args.p) (k + 1) = λ k h. let call = c.from_fn.ensures.items.at k 0 h in search rules in
    λ j. record { start = (c.from.ensures ∙ c.band_row.ensures.start) j; steps = fill_by_all (λ i. step_of (row_of c.args.p) (i + 1)) c.from_fn.result 6 0 c.from_fn.ensures.items.long each j }
