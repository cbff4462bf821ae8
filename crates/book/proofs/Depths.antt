-- A sum over the lines of a book fits. Assumes nothing.
use Rattle.std.proofs.Common.{◌≡◌, ℕ, ◌+◌, ◌<◌, ◌≤◌, List, length, get_or, take, arith}
use Rattle.std.proofs.lemmas.List.Elements.{All-weaker}
use Rattle.std.proofs.lemmas.List.Sums.{sum_by-le, sum_by_more, sum_by-take-le}
use Rattle.std.proofs.lemmas.Bool.{cond_both}
use Rattle.book.specs.Depths.{depth_on}
use Rattle.book.specs.Orders.{accepts, shares_at, free}
use Rattle.book.specs.declared.order.Order.{Order}
use Rattle.book.specs.declared.order.Side.{Side}
use Rattle.book.proofs.Standing.{Line, Standing}

shares_le : (side : Side) (price : ℕ) (x : Order) → Line x → shares_at side price x ≤ 100000
shares_le side price x line = cond_both (accepts side price x) x.left 0 (λ n. n ≤ 100000) (λ _. line.small) (λ _. omega arith)

-- 1,024 lines have at most 102,400,000 shares
pub depth_le : (side : Side) (price : ℕ) (lines : List Order) → Standing lines → depth_on side lines price ≤ 102400000
depth_le side price lines stand =
    let most = sum_by-le (shares_at side price) 100000 lines (All-weaker Line (λ x. shares_at side price x ≤ 100000) (shares_le side price) lines stand.each) in
    let few = stand.few in
    omega arith

-- one line more: `sum` is what the lines before it come to, and `more` what it adds
module _ (side : Side) (price : ℕ) (lines : List Order) (i sum more : ℕ) (lt : i < length lines) (is : sum ≡ depth_on side (take i lines) price) (adds : more ≡ shares_at side price (get_or lines i free)) where
  pub depth_more : sum + more ≡ depth_on side (take (i + 1) lines) price
  depth_more = omega (arith, sum_by_more (shares_at side price) lines i free lt)

  pub depth_fits : Standing lines → sum + more ≤ 102400000
  depth_fits stand = omega (arith, depth_more, sum_by-take-le (shares_at side price) lines (i + 1), depth_le side price lines stand)
