-- The search of the numbers one by one meets the statement, which leaves one answer. Assumes nothing.
use Rattle.std.proofs.Common.{◌≡◌, ℕ, zero, suc, ◌+◌, ◌<◌, ◌≤◌, true, false, not, eqb, ◌⊎◌, List, Some, None, Option, refl, ap, ◌∙◌, subst, ⊎_elim, arith}
use Rattle.std.proofs.lemmas.Bool.{cases_eq, cond_both, eqb-true, eqb-false, ne_eqb}
use Rattle.std.proofs.lemmas.Bool.Decides.{nat_tests}
use Rattle.ladder.specs.Rungs.{Rungs, In}
use Rattle.book.specs.Depths.{trading}
use Rattle.book.specs.declared.order.Order.{Order}
use Rattle.auction.specs.Auctions.{first_of, best, if_trading, auction, IsAuction, Within}
use Rattle.auction.specs.Found.{Behind, Rightly}
use Rattle.auction.specs.Marks.{mark, marked, price_of, shares_of, ahead, before}
use Rattle.auction.specs.declared.mark.RungMark.{RungMark}
use Rattle.auction.specs.Ranks.{ahead_itself, ahead_one, ahead_carries}

-- no more shares trade at what is behind the best
pub behind_shares : (best : Option RungMark) (a : RungMark) → Behind best (Some a) → a.shares ≤ shares_of best
behind_shares None a h = grind (arith, nat_tests)
behind_shares (Some m) a h = grind (arith, nat_tests)

module _ (rungs : Rungs) (lines : List Order) (r : ℕ) where
  -- the first by merit of the rungs in a part
  abbrev FirstIn : (ℕ → Type 0) → Option ℕ → Type 0
  FirstIn Part None = (q : ℕ) → Part q → In rungs q → ⊥
  FirstIn Part (Some p) = In rungs p × ((q : ℕ) → Part q → In rungs q → before lines r q p ≡ false)

  abbrev Part : ℕ → ℕ → ℕ → Type 0
  Part lo n q = (lo ≤ q) × (q < lo + n)

  part_cases : (lo n q : ℕ) → Part lo (suc n) q → Part lo n q ⊎ (q ≡ lo + n)
  part_cases lo n q h = grind arith

  takes : (lo n : ℕ) (b : Option ℕ) → In rungs (lo + n) → FirstIn (Part lo n) b → FirstIn (Part lo (suc n)) (first_of lines r (lo + n) b)
  takes lo n None on h = (on, λ q part in-q. ⊎_elim (λ (p : Part lo n q). absurd (h q p in-q)) (λ (e : q ≡ lo + n). rw e (ahead_itself (mark lines r (lo + n)))) (part_cases lo n q part))
  takes lo n (Some b) on h =
      cond_both (before lines r (lo + n) b) (Some (lo + n)) (Some b) (FirstIn (Part lo (suc n)))
      (λ t. (on, λ q part in-q. grind (arith, part_cases lo n q part, h.1 q, ahead_itself (mark lines r (lo + n)), ahead_carries true (mark lines r q) (mark lines r (lo + n)) (mark lines r b))))
      (λ f. (h.0, λ q part in-q. grind (arith, part_cases lo n q part, h.1 q)))

  passes : (lo n : ℕ) (b : Option ℕ) → rungs (lo + n) ≡ false → FirstIn (Part lo n) b → FirstIn (Part lo (suc n)) b
  passes lo n None off h = λ q part in-q. grind (arith, part_cases lo n q part, h q)
  passes lo n (Some b) off h = (h.0, λ q part in-q. grind (arith, part_cases lo n q part, h.1 q))

  pub best_first : (lo n : ℕ) → FirstIn (Part lo n) (best rungs lines r lo n)
  unfolding best
  best_first lo zero = λ q part in-q. omega arith
  best_first lo (suc n) =
      cond_both (rungs (lo + n)) (first_of lines r (lo + n) (best rungs lines r lo n)) (best rungs lines r lo n) (FirstIn (Part lo (suc n)))
      (λ on. takes lo n (best rungs lines r lo n) on (best_first lo n))
      (λ off. passes lo n (best rungs lines r lo n) off (best_first lo n))

  is_from_first : (lo n : ℕ) → Within rungs lo n → (b : Option ℕ) → FirstIn (Part lo n) b → IsAuction rungs lines r (if_trading lines b)
  is_from_first lo n within None h = λ q in-q. absurd (h q (within q in-q) in-q)
  is_from_first lo n within (Some p) h =
      cond_both (eqb (trading lines p) 0) None (Some p) (IsAuction rungs lines r)
      (λ t. λ q in-q. omega (arith, behind_shares (Some (mark lines r p)) (mark lines r q) (h.1 q (within q in-q) in-q), eqb-true (trading lines p) 0 t))
      (λ f. (h.0, omega (arith, eqb-false (trading lines p) 0 f), λ q in-q. h.1 q (within q in-q) in-q))

  -- the search meets the statement
  pub auction_is : (lo n : ℕ) → Within rungs lo n → IsAuction rungs lines r (auction rungs lines r lo n)
  auction_is lo n within = is_from_first lo n within (best rungs lines r lo n) (best_first lo n)

  -- the statement leaves one answer
  pub one_auction : (a b : Option ℕ) → IsAuction rungs lines r a → IsAuction rungs lines r b → a ≡ b
  one_auction None None h k = refl
  one_auction None (Some q) h k = absurd (omega (arith, h q k.0, k.1))
  one_auction (Some p) None h k = absurd (omega (arith, k p h.0, h.1))
  one_auction (Some p) (Some q) h k =
      ⊎_elim (ap Some)
      (λ (s : p ≡ q → ⊥). grind (arith, h.2 q k.0, k.2 p h.0, ahead_one (mark lines r p) (mark lines r q) (ap not (ne_eqb p q s))))
      (cases_eq p q)

  -- a mark of a rung that all rungs are behind is the answer
  pub is_from_best : (found : Option RungMark) → Rightly rungs lines r found → ((q : ℕ) → In rungs q → Behind found (Some (mark lines r q))) → IsAuction rungs lines r (price_of found)
  is_from_best None right behind = λ q in-q. omega (arith, behind_shares None (mark lines r q) (behind q in-q))
  is_from_best (Some m) right behind =
      (right.1, subst (λ (k : RungMark). 0 < k.shares) right.0 right.2, λ q in-q. subst (λ (k : RungMark). ahead (mark lines r q) k ≡ false) right.0 (behind q in-q))

  pub is_marked : (found : Option RungMark) → Rightly rungs lines r found → found ≡ marked lines r (price_of found)
  is_marked None right = refl
  is_marked (Some m) right = ap Some right.0

  pub answers : (found : Option RungMark) → Rightly rungs lines r found → ((q : ℕ) → In rungs q → Behind found (Some (mark lines r q))) → (lo n : ℕ) → Within rungs lo n → found ≡ marked lines r (auction rungs lines r lo n)
  answers found right behind lo n within =
      is_marked found right ∙ ap (marked lines r) (one_auction (price_of found) (auction rungs lines r lo n) (is_from_best found right behind) (auction_is lo n within))
