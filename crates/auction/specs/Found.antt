-- The steps of the search by candidates. Assumes nothing.
use Rattle.std.specs.Prelude.{◌≡◌, ℕ, ◌<◌, ◌≤◌, false, List, [], ◌∷◌, Some, None, Option}
use Rattle.std.specs.List.{All, Contains}
use Rattle.ladder.specs.Rungs.{Rungs, In}
use Rattle.book.specs.declared.order.Order.{Order}
use Rattle.auction.specs.Marks.{mark, trades, leads}
use Rattle.auction.specs.declared.mark.RungMark.{RungMark}

-- x does not come before the best; where there is no best, no share trades at x
abbrev pub Behind : Option RungMark → Option RungMark → Type 0
Behind None x = trades x ≡ false
Behind (Some m) x = leads x (Some m) ≡ false

-- the candidates of one step
abbrev pub three : Option RungMark → Option RungMark → Option RungMark → List (Option RungMark)
three a b c = a ∷ b ∷ c ∷ []

-- a best is the mark of one of the candidates, and a share trades at it
abbrev pub Taken : List (Option RungMark) → Option RungMark → Type 0
Taken candidates None = Unit {0}
Taken candidates (Some m) = Contains candidates (Some m) × (0 < m.shares)

-- the first of the candidates at which a share trades
pub record Foremost (candidates : List (Option RungMark)) (best : Option RungMark) : Type 0 where
  pub behind : All (Behind best) candidates
  pub taken : Taken candidates best

-- a best is the mark of a rung at which a share trades
abbrev pub Rightly : Rungs → List Order → ℕ → Option RungMark → Type 0
Rightly rungs lines reference None = Unit {0}
Rightly rungs lines reference (Some m) = (m ≡ mark lines reference m.price) × In rungs m.price × (0 < m.shares)

-- from each rung q that is p or farther on in a direction (as `Nearest` has it) there is one on the way from p to q that is behind the best
abbrev pub Reached : (ℕ → ℕ → Type 0) → Rungs → List Order → ℕ → ℕ → Option RungMark → Type 0
Reached ahead rungs lines reference p best = (q : ℕ) → In rungs q → ahead p q → (c : ℕ) × In rungs c × ahead p c × ahead c q × Behind best (Some (mark lines reference c))

-- so it is downward from low and upward from high
pub record Tried (rungs : Rungs) (lines : List Order) (reference low high : ℕ) (best : Option RungMark) : Type 0 where
  pub below : Reached (λ a b. b ≤ a) rungs lines reference low best
  pub above : Reached (λ a b. a ≤ b) rungs lines reference high best

-- one step of the search, from the old best to the new
pub record Improves (rungs : Rungs) (lines : List Order) (reference low high : ℕ) (old best : Option RungMark) : Type 0 where
  pub rightly : Rightly rungs lines reference old → Rightly rungs lines reference best
  pub keeps : (x : Option RungMark) → Behind old x → Behind best x
  pub tried : Tried rungs lines reference low high best
