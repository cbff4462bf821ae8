-- Each rung is behind one of the candidates. Assumes nothing.
use Rattle.std.proofs.Common.{◌≡◌, ℕ, ◌-◌, ◌<◌, ◌≤◌, false, ◌⊎◌, List, [], ◌∷◌, Some, None, sum_by, Option, refl, inl, inr, ⊎_elim, arith}
use Rattle.std.specs.List.{All}
use Rattle.std.proofs.lemmas.List.Elements.{All-nil, All-cons, All-head, All-tail, All-weaker}
use Rattle.std.proofs.lemmas.List.Sums.{sum_by-cons}
use Rattle.std.proofs.lemmas.Bool.{cases_lt}
use Rattle.std.proofs.lemmas.Bool.Decides.{nat_tests}
use Rattle.terms.specs.Prices.{distance}
use Rattle.ladder.specs.Rungs.{Rungs, In}
use Rattle.book.specs.Depths.{trading, surplus}
use Rattle.book.specs.Orders.{shares_at}
use Rattle.book.specs.declared.order.Order.{Order}
use Rattle.book.specs.declared.order.Side.{Side}
use Rattle.book.specs.declared.order.Side.TheVariants.{Buy, Sell}
use Rattle.auction.specs.Found.{Behind, Reached, Tried}
use Rattle.auction.specs.Marks.{mark, ahead}
use Rattle.auction.specs.Turns.{turn}
use Rattle.auction.specs.declared.mark.RungMark.{RungMark}
use Rattle.auction.specs.Ranks.{ahead_carries}

-- ---- `ahead` is the direction in which q lies, and `beyond x n` says that n is on the far side of the turn of x.
-- Of the numbers c with P c the walk over the turns keeps one that no turn parts from q
module _ {X : Type 0} (ahead : ℕ → ℕ → Type 0) (beyond : X → ℕ → Type 0) (chain : (a b c : ℕ) → ahead a b → ahead b c → ahead a c) (decide : (x : X) (n : ℕ) → beyond x n ⊎ (beyond x n → ⊥)) (closer : (x : X) (c d : ℕ) → (beyond x c → ⊥) → beyond x d → ahead c d) (stays : (x : X) (c d : ℕ) → beyond x c → ahead c d → beyond x d) (P : ℕ → Type 0) (q : ℕ) where
  abbrev Start : X → Type 0
  Start x = beyond x q → (c : ℕ) × P c × beyond x c × ahead c q

  pub walk : (start : ℕ) (xs : List X) → ((c : ℕ) × P c × ahead start c × ahead c q) → All Start xs → (c : ℕ) × P c × ahead start c × ahead c q × All (λ x. beyond x q → beyond x c) xs
  walk start [] h each = (h.0, h.1, h.2, h.3, All-nil (λ x. beyond x q → beyond x h.0))
  walk start (x ∷ xs) h each =
      let rest = walk start xs h (All-tail Start x xs each) in
      let c = rest.0 in
      let Kept : ℕ → X → Type 0 = λ n y. beyond y q → beyond y n in
      ⊎_elim
      (λ (on : beyond x c). (c, rest.1, rest.2, rest.3, All-cons (Kept c) x xs (λ _. on) rest.4))
      (λ (off : beyond x c → ⊥). ⊎_elim
      (λ (turns : beyond x q).
      let new = All-head Start x xs each turns in
      let nearer = closer x c new.0 off new.2 in
      (new.0, new.1, chain start c new.0 rest.2 nearer, new.3, All-cons (Kept new.0) x xs (λ _. new.2) (All-weaker (Kept c) (Kept new.0) (λ y f on. stays y c new.0 (f on) nearer) xs rest.4)))
      (λ (not_yet : beyond x q → ⊥). (c, rest.1, rest.2, rest.3, All-cons (Kept c) x xs (λ on. absurd (not_yet on)) rest.4))
      (decide x q))
      (decide x c)

decide_lt : (m n : ℕ) → (m < n) ⊎ (m < n → ⊥)
decide_lt m n = grind arith

decide_le : (m n : ℕ) → (m ≤ n) ⊎ (m ≤ n → ⊥)
decide_le m n = grind arith

-- ---- two prices that no turn parts have the same depth
same_shares : (side : Side) (x : Order) (p q : ℕ) → (p < turn x → q < turn x) → (q < turn x → p < turn x) → shares_at side p x ≡ shares_at side q x
same_shares Buy x p q f g = grind (arith, nat_tests)
same_shares Sell x p q f g = grind (arith, nat_tests)

sum_same : {X : Type 0} (f g : X → ℕ) (xs : List X) → All (λ x. f x ≡ g x) xs → sum_by f xs ≡ sum_by g xs
sum_same f g [] h = refl
sum_same f g (x ∷ xs) h = omega (arith, sum_by-cons f x xs, sum_by-cons g x xs, All-head (λ y. f y ≡ g y) x xs h, sum_same f g xs (All-tail (λ y. f y ≡ g y) x xs h))

-- no turn parts p from q
abbrev Alike : List Order → ℕ → ℕ → Type 0
Alike lines p q = All (λ x. (p < turn x → q < turn x) × (q < turn x → p < turn x)) lines

same_depth : (side : Side) (lines : List Order) (p q : ℕ) → Alike lines p q → sum_by (shares_at side p) lines ≡ sum_by (shares_at side q) lines
same_depth side lines p q alike =
    sum_same (shares_at side p) (shares_at side q) lines
    (All-weaker (λ x. (p < turn x → q < turn x) × (q < turn x → p < turn x)) (λ x. shares_at side p x ≡ shares_at side q x) (λ x h. same_shares side x p q h.0 h.1) lines alike)

-- at the same depth the nearer price is first, and at the same distance the higher
nearer_first : (a b : RungMark) → a.shares ≡ b.shares → a.surplus ≡ b.surplus → b.distance ≤ a.distance → (a.distance ≡ b.distance → a.price ≤ b.price) → ahead a b ≡ false
nearer_first a b s u le h = grind (arith, nat_tests)

-- c is on the way from q to the reference r
abbrev Between : ℕ → ℕ → ℕ → Type 0
Between q c r = ((q ≤ c) × (c ≤ r)) ⊎ ((r ≤ c) × (c ≤ q))

between_distance : (q c r : ℕ) → Between q c r → (distance c r ≤ distance q r) × (distance q r ≡ distance c r → q ≤ c)
between_distance q c r h = grind arith

-- a is behind the best where b is, if a does not come before b
behind_on : (best : Option RungMark) (a b : RungMark) → ahead a b ≡ false → a.shares ≡ b.shares → Behind best (Some b) → Behind best (Some a)
behind_on None a b h e behind = rw e behind
behind_on (Some m) a b h e behind = ahead_carries false a b m h behind

behind_alike : (lines : List Order) (r q c : ℕ) (best : Option RungMark) → Alike lines q c → Between q c r → Behind best (Some (mark lines r c)) → Behind best (Some (mark lines r q))
behind_alike lines r q c best alike between behind =
    let b = same_depth Buy lines q c alike in
    let o = same_depth Sell lines q c alike in
    let s : trading lines q ≡ trading lines c = rw (b, o) in
    let u : surplus lines q ≡ surplus lines c = rw (b, o) in
    let g = between_distance q c r between in
    behind_on best (mark lines r q) (mark lines r c) (nearer_first (mark lines r q) (mark lines r c) s u g.0 g.1) s behind

-- ---- all rungs are behind the best of the candidates
module _ (rungs : Rungs) (lines : List Order) (r : ℕ) (best : Option RungMark) where
  abbrev Yields : ℕ → Type 0
  Yields c = In rungs c × Behind best (Some (mark lines r c))

  abbrev Turned : Order → Type 0
  Turned x = Tried rungs lines r (turn x - 1) (turn x) best

  -- one that no turn parts from q, of the rungs above it that were tried, and of those below it
  from_above : (q : ℕ) → In rungs q → q ≤ r → Reached (λ a b. b ≤ a) rungs lines r r best → All Turned lines → (c : ℕ) × Yields c × (c ≤ r) × (q ≤ c) × All (λ x. q < turn x → c < turn x) lines
  from_above q on le here each =
      let h = here q on le in
      walk (λ a b. b ≤ a) (λ (x : Order) n. n < turn x) (λ a b c h k. omega arith) (λ x n. decide_lt n (turn x)) (λ x c d off on. omega arith) (λ x c d on h. omega arith) Yields q r lines (h.0, (h.1, h.4), h.2, h.3)
      (All-weaker Turned (λ x. q < turn x → (c : ℕ) × Yields c × (c < turn x) × (q ≤ c)) (λ x t l. let k = t.below q on (omega arith) in (k.0, (k.1, k.4), omega (arith, k.2), k.3)) lines each)

  from_below : (q : ℕ) → In rungs q → r ≤ q → Reached (λ a b. a ≤ b) rungs lines r r best → All Turned lines → (c : ℕ) × Yields c × (r ≤ c) × (c ≤ q) × All (λ x. turn x ≤ q → turn x ≤ c) lines
  from_below q on le here each =
      let h = here q on le in
      walk (λ a b. a ≤ b) (λ (x : Order) n. turn x ≤ n) (λ a b c h k. omega arith) (λ x n. decide_le (turn x) n) (λ x c d off on. omega arith) (λ x c d on h. omega arith) Yields q r lines (h.0, (h.1, h.4), h.2, h.3)
      (All-weaker Turned (λ x. turn x ≤ q → (c : ℕ) × Yields c × (turn x ≤ c) × (c ≤ q)) (λ x t l. let k = t.above q on l in (k.0, (k.1, k.4), k.2, k.3)) lines each)

  pub covers : Tried rungs lines r r r best → All Turned lines → (q : ℕ) → In rungs q → Behind best (Some (mark lines r q))
  covers here each q on =
      ⊎_elim
      (λ (lt : q < r).
      let found = from_above q on (omega arith) here.below each in
      behind_alike lines r q found.0 best
      (All-weaker (λ x. q < turn x → found.0 < turn x) (λ x. (q < turn x → found.0 < turn x) × (found.0 < turn x → q < turn x)) (λ x f. (f, λ l. omega (arith, found.3))) lines found.4)
      (inl (found.3, found.2)) found.1.1)
      (λ (ge : r ≤ q).
      let found = from_below q on ge here.above each in
      behind_alike lines r q found.0 best
      (All-weaker (λ x. turn x ≤ q → turn x ≤ found.0) (λ x. (q < turn x → found.0 < turn x) × (found.0 < turn x → q < turn x)) (λ x f. (λ l. omega (arith, found.3), λ l. ⊎_elim (λ (k : q < turn x). k) (λ (k : turn x ≤ q). absurd (omega (arith, f k))) (cases_lt q (turn x)))) lines found.4)
      (inr (found.2, found.3)) found.1.1)
      (cases_lt q r)
