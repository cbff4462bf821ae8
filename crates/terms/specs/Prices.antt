-- Prices: whole numbers of ten-thousandths of a euro. Assumes nothing.
use Rattle.std.specs.Prelude.{◌≡◌, ℕ, ◌+◌, ◌-◌, ◌≤◌, Bool, true, ◌&&◌, nat_le}
use Rattle.std.proofs.lemmas.Bool.{and_parts, leb-true}

-- n is from low to high, both counted
abbrev pub within : ℕ → ℕ → ℕ → Bool
within low high n = nat_le low n && nat_le n high

-- the same as two facts
pub within_ends : (low high n : ℕ) → within low high n ≡ true → (low ≤ n) × (n ≤ high)
within_ends low high n h =
    let ends = and_parts (nat_le low n) (nat_le n high) h in
    (leb-true low n ends.0, leb-true n high ends.1)

-- a price: from one ten-thousandth of a euro to 100,000 euros
abbrev pub is_price : ℕ → Bool
is_price n = within 1 1000000000 n

-- the same as a fact
abbrev pub IsPrice : ℕ → Type 0
IsPrice n = (1 ≤ n) × (n ≤ 1000000000)

-- how far apart two numbers are
abbrev pub distance : ℕ → ℕ → ℕ
distance a b = (a - b) + (b - a)
