-- The auction price, by a search of the numbers one by one. Assumes nothing.
use Rattle.std.specs.Prelude.{◌≡◌, ℕ, zero, suc, ◌+◌, ◌-◌, ◌*◌, ◌/◌, ◌<◌, ◌≤◌, false, cond, List, Some, None, Option, ◌==◌}
use Rattle.ladder.specs.Limits.{limited}
use Rattle.ladder.specs.Rungs.{Rungs, In}
use Rattle.book.specs.Depths.{trading}
use Rattle.book.specs.declared.order.Order.{Order}
use Rattle.auction.specs.Marks.{before, marked}
use Rattle.auction.specs.declared.mark.RungMark.{RungMark}

-- of p and the first so far, the one that comes first
abbrev pub first_of : List Order → ℕ → ℕ → Option ℕ → Option ℕ
first_of lines reference p None = Some p
first_of lines reference p (Some b) = cond (before lines reference p b) (Some p) (Some b)

-- the first by merit of the rungs among the n numbers from lo on
unfoldable pub best : Rungs → List Order → ℕ → ℕ → ℕ → Option ℕ
best rungs lines reference lo zero = None
best rungs lines reference lo (suc n) =
    cond (rungs (lo + n)) (first_of lines reference (lo + n) (best rungs lines reference lo n)) (best rungs lines reference lo n)

-- a rung at which no share trades is none
abbrev pub if_trading : List Order → Option ℕ → Option ℕ
if_trading lines None = None
if_trading lines (Some p) = cond (trading lines p == 0) None (Some p)

-- the auction price among the n numbers from lo on
abbrev pub auction : Rungs → List Order → ℕ → ℕ → ℕ → Option ℕ
auction rungs lines reference lo n = if_trading lines (best rungs lines reference lo n)

-- the auction price among the rungs at most `percent` per cent of the reference away: all numbers from
-- the lower end of that part to the upper end are searched
abbrev pub auction_price : Rungs → List Order → ℕ → ℕ → Option ℕ
auction_price rungs lines reference percent =
    auction (limited rungs reference percent) lines reference (reference - percent * reference / 100) (2 * (percent * reference / 100) + 1)

-- all rungs are among the n numbers from lo on
abbrev pub Within : Rungs → ℕ → ℕ → Type 0
Within rungs lo n = (q : ℕ) → In rungs q → (lo ≤ q) × (q < lo + n)

-- the answer is the mark of what the search finds, whichever numbers are searched, if all rungs are among them
abbrev pub AnySearch : Rungs → List Order → ℕ → Option RungMark → Type 0
AnySearch rungs lines reference answer = (lo n : ℕ) → Within rungs lo n → answer ≡ marked lines reference (auction rungs lines reference lo n)

-- the statement: a rung at which a share trades and that no rung comes before; none only where a share trades at no rung
abbrev pub IsAuction : Rungs → List Order → ℕ → Option ℕ → Type 0
IsAuction rungs lines reference None = (q : ℕ) → In rungs q → trading lines q ≡ 0
IsAuction rungs lines reference (Some p) = In rungs p × (0 < trading lines p) × ((q : ℕ) → In rungs q → before lines reference q p ≡ false)
