-- The steps of a trial as text, one after another. Assumes nothing.
use Rattle.std.proofs.Common.{◌≡◌, ℕ, List, map, Bor, ap}
use Rattle.std.specs.List.{flat_map, zip}
use Rattle.annex.specs.Trials.{beside, besides}

-- what is written of the pairs that were gone over
abbrev pub shown : List (Bor ℕ × Bor ℕ) → List ℕ
shown ps = flat_map (λ (p : ℕ × ℕ). beside p.0 p.1) (map (λ (p : Bor ℕ × Bor ℕ). (p.0.now, p.1.now)) ps)

pub shown_all : (ps : List (Bor ℕ × Bor ℕ)) (given held : List ℕ) → map (λ (p : Bor ℕ × Bor ℕ). (p.0.now, p.1.now)) ps ≡ zip given held → shown ps ≡ besides given held
shown_all ps given held all = ap (flat_map (λ (p : ℕ × ℕ). beside p.0 p.1)) all
