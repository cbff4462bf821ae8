-- Trades at a price, whoever trades with whom. Assumes nothing.
use Rattle.std.specs.Prelude.{◌≡◌, ℕ, ◌<◌, ◌≤◌, true, cond, List, length, Some, None, sum_by, Option, ◌==◌, slice_index_or}
use Rattle.std.specs.List.{All}
use Rattle.ladder.specs.Rungs.{Rungs, In}
use Rattle.book.specs.Depths.{surplus}
use Rattle.book.specs.Orders.{accepts, free}
use Rattle.book.specs.declared.order.Order.{Order}
use Rattle.book.specs.declared.order.Side.TheVariants.{Buy, Sell}
use Rattle.auction.specs.Marks.{shares_of}
use Rattle.auction.specs.declared.mark.RungMark.{RungMark}

-- a passage (our word): shares that go from the line of a seller to the line of a buyer, named by their places
pub record Passage : Type 0 where
  pub seller : ℕ
  pub buyer : ℕ
  pub shares : ℕ

-- the shares that they move
abbrev pub passed : List Passage → ℕ
passed ps = sum_by (λ p. p.shares) ps

-- the shares that the line i buys, and those that it sells
abbrev pub bought : ℕ → List Passage → ℕ
bought i ps = sum_by (λ p. cond (p.buyer == i) p.shares 0) ps

abbrev pub sold : ℕ → List Passage → ℕ
sold i ps = sum_by (λ p. cond (p.seller == i) p.shares 0) ps

-- possible trades at a price: each between orders that accept it, and no order trades more than it has left
pub record Possible (lines : List Order) (price : ℕ) (ps : List Passage) : Type 0 where
  pub buyers : All (λ p. (p.buyer < length lines) × (accepts Buy price (slice_index_or lines p.buyer free) ≡ true)) ps
  pub sellers : All (λ p. (p.seller < length lines) × (accepts Sell price (slice_index_or lines p.seller free) ≡ true)) ps
  pub buys : (i : ℕ) → bought i ps ≤ (slice_index_or lines i free).left
  pub sells : (i : ℕ) → sold i ps ≤ (slice_index_or lines i free).left

-- at no rung do any trades move more shares than the answer's
abbrev pub MostTrades : Rungs → List Order → Option RungMark → Type 0
MostTrades rungs lines answer = (q : ℕ) (ps : List Passage) → In rungs q → Possible lines q ps → passed ps ≤ shares_of answer

-- a rung at which some trades move as many has no smaller surplus
abbrev pub LeastSurplus : Rungs → List Order → Option RungMark → Type 0
LeastSurplus rungs lines None = Unit {0}
LeastSurplus rungs lines (Some m) = (q : ℕ) (ps : List Passage) → In rungs q → Possible lines q ps → passed ps ≡ m.shares → m.surplus ≤ surplus lines q

-- some trades at the answer's price move its shares
abbrev pub CanTrade : List Order → Option RungMark → Type 0
CanTrade lines None = Unit {0}
CanTrade lines (Some m) = (ps : List Passage) × Possible lines m.price ps × (passed ps ≡ m.shares)
