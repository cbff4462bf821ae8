-- What the definitions amount to. Assumes nothing.
use Rattle.std.specs.Prelude.{◌≡◌, ℕ, List, Option}
use Rattle.ladder.specs.Rungs.{Rungs}
use Rattle.book.specs.declared.order.Order.{Order}
use Rattle.auction.specs.Auctions.{auction, IsAuction, Within}

-- the search meets the statement
abbrev pub SearchIs : Type 0
SearchIs = (rungs : Rungs) (lines : List Order) (reference lo n : ℕ) → Within rungs lo n → IsAuction rungs lines reference (auction rungs lines reference lo n)

-- the statement leaves one answer
abbrev pub OneAnswer : Type 0
OneAnswer = (rungs : Rungs) (lines : List Order) (reference : ℕ) (a b : Option ℕ) → IsAuction rungs lines reference a → IsAuction rungs lines reference b → a ≡ b

-- any two searches that reach all rungs answer the same
abbrev pub AnyRange : Type 0
AnyRange = (rungs : Rungs) (lines : List Order) (reference lo n lo' n' : ℕ) → Within rungs lo n → Within rungs lo' n' → auction rungs lines reference lo n ≡ auction rungs lines reference lo' n'
