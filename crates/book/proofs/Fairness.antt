-- What is true of the fills of a book. Assumes nothing.
use Rattle.std.proofs.Common.{◌≡◌, ℕ, zero, suc, ◌+◌, ◌-◌, ◌<◌, ◌≤◌, min, Bool, true, false, cond, eqb, List, [], ◌∷◌, sum_by, sym, refl, ap, ◌∙◌, subst, ⊎_elim, arith, rules}
use Rattle.std.specs.List.{All, Contains}
use Rattle.std.proofs.lemmas.List.Elements.{All-append, All-nil, All-cons, All-head, All-tail, All-weaker, All-contains, All-filter}
use Rattle.std.proofs.lemmas.List.Kept.{AllPairs-filter}
use Rattle.std.proofs.lemmas.List.Sorted.{Contains-permutation, sum_by-IsPermutation}
use Rattle.std.proofs.lemmas.List.Sums.{sum_by-append, sum_by-cons}
use Rattle.std.proofs.lemmas.Bool.{cases_eq, eq-eqb, ne_eqb}
use Rattle.std.proofs.lemmas.Bool.Decides.{nat_tests}
use Rattle.book.specs.Depths.{depth_on, trading as trading_at}
use Rattle.book.specs.Fills.{accepting, all_fills, dealt, Fair, fills_of, gained, shares_in}
use Rattle.book.specs.Orders.{accepts, shares_at, told_apart}
use Rattle.book.specs.Ranked.{ranked}
use Rattle.book.specs.declared.fill.Fill.{Fill}
use Rattle.book.specs.declared.order.Order.{Order}
use Rattle.book.specs.declared.order.Side.{Side}
use Rattle.book.specs.declared.order.Side.TheVariants.{Buy, Sell}
use Rattle.book.proofs.Filling.{kept_told}
use Rattle.book.proofs.Orderings.{Ordering}
use Rattle.book.proofs.Rankings.{ranked_by_merit, ranked_apart, IsPermutation-ranked, Contains-from_filter, all_ranked, apart_head, apart_tail, sum_by_kept, Apart}
use Rattle.book.proofs.Sides.{held_own, held_both, fills_held}
use Rattle.book.proofs.Standing.{other_number, Line, Standing}

abbrev fill_of : ℕ → Order → Fill
fill_of n x = record { number = x.number; shares = min n x.left }

-- ---- all that trades is dealt out
dealt_spends : (n : ℕ) (xs : List Order) → shares_in (dealt n xs) ≡ min n (sum_by (λ x. x.left) xs)
dealt_spends n [] = omega arith
dealt_spends n (x ∷ xs) =
    let total = sum_by-cons (λ (y : Order). y.left) x xs in
    ⊎_elim
    (λ (z : n ≡ 0). rw z (omega arith))
    (λ (s : n ≡ 0 → ⊥). rw (ne_eqb n 0 s) (omega (arith, sum_by-cons (λ (f : Fill). f.shares) (fill_of n x) (dealt (n - x.left) xs), dealt_spends (n - x.left) xs)))
    (cases_eq n 0)

fills_spend : (before : Order → Order → Bool) (side : Side) (price trading : ℕ) (lines : List Order) → shares_in (fills_of before side price trading lines) ≡ min trading (depth_on side lines price)
fills_spend before side price trading lines =
    let all : List Order = accepting side price lines in
    dealt_spends trading (ranked before all)
    ∙ ap (min trading) (sum_by-IsPermutation (λ (x : Order). x.left) _ _ (IsPermutation-ranked before all) ∙ sum_by_kept (accepts side price) (λ x. x.left) (shares_at side price) (λ x. refl) lines)

exactly : (before : Order → Order → Bool) (price trading : ℕ) (lines : List Order) → trading ≤ trading_at lines price → (side : Side) → shares_in (fills_of before side price trading lines) ≡ trading
exactly before price trading lines enough Buy = omega (arith, fills_spend before Buy price trading lines)
exactly before price trading lines enough Sell = omega (arith, fills_spend before Sell price trading lines)

-- ---- every record has a share
some_dealt : (n : ℕ) (xs : List Order) → All Line xs → All (λ f. 0 < f.shares) (dealt n xs)
some_dealt n [] h = All-nil (λ f. 0 < f.shares)
some_dealt n (x ∷ xs) h =
    let Shares : Fill → Type 0 = λ f. 0 < f.shares in
    let some = (All-head Line x xs h).some in
    ⊎_elim
    (λ (z : n ≡ 0). rw (eq-eqb n 0 z) (All-nil Shares))
    (λ (s : n ≡ 0 → ⊥). rw (ne_eqb n 0 s) (All-cons Shares (fill_of n x) (dealt (n - x.left) xs) (omega arith) (some_dealt (n - x.left) xs (All-tail Line x xs h))))
    (cases_eq n 0)

-- ---- in turn
gained_cons : (k n : ℕ) (x : Order) (xs : List Order) → gained k (fill_of n x ∷ dealt (n - x.left) xs) ≡ cond (eqb x.number k) (min n x.left) 0 + gained k (dealt (n - x.left) xs)
gained_cons k n x xs = sum_by-cons (λ (f : Fill). cond (eqb f.number k) f.shares 0) (fill_of n x) (dealt (n - x.left) xs)

gained_zero : (k : ℕ) (xs : List Order) → gained k (dealt 0 xs) ≡ 0
gained_zero k [] = refl
gained_zero k (x ∷ xs) = refl

gained_none : (k n : ℕ) (xs : List Order) → All (λ x. eqb x.number k ≡ false) xs → gained k (dealt n xs) ≡ 0
gained_none k n [] h = refl
gained_none k n (x ∷ xs) h =
    let Other : Order → Type 0 = λ y. eqb y.number k ≡ false in
    ⊎_elim
    (λ (z : n ≡ 0). rw z)
    (λ (s : n ≡ 0 → ⊥). rw (ne_eqb n 0 s) (gained_cons k n x xs ∙ rw (All-head Other x xs h) (omega (arith, gained_none k (n - x.left) xs (All-tail Other x xs h)))))
    (cases_eq n 0)

told_number : (x y : Order) → told_apart x y ≡ true → eqb x.number y.number ≡ false
told_number x y h = search rules

told_back : (x y : Order) → told_apart x y ≡ true → eqb y.number x.number ≡ false
told_back x y h = search rules

both_told : (x y : Order) → told_apart x y ≡ true → told_apart y x ≡ true
both_told x y h = grind (arith, nat_tests)

module _ {before : Order → Order → Bool} (ranks : Ordering before told_apart) (a b : Order) (front : before a b ≡ true) where
  never : (x : Order) → before x x ≡ true → ⊥
  never x h = search rules

  -- what a side's fills owe a and b
  abbrev Whole : List Fill → Type 0
  Whole fills = 0 < gained b.number fills → gained a.number fills ≡ a.left

  -- a stands first
  whole_here : (n : ℕ) (xs : List Order) → All (λ x. told_apart a x ≡ true) xs → Contains xs b → Whole (fill_of n a ∷ dealt (n - a.left) xs)
  whole_here n xs told ib h =
      let other : eqb a.number b.number ≡ false = told_number a b (All-contains (λ x. told_apart a x ≡ true) xs b told ib) in
      let gb = gained_cons b.number n a xs ∙ ap (λ t. cond t (min n a.left) 0 + gained b.number (dealt (n - a.left) xs)) other in
      let ga = gained_cons a.number n a xs ∙ ap (λ t. cond t (min n a.left) 0 + gained a.number (dealt (n - a.left) xs)) (eq-eqb a.number a.number refl) in
      let absent = gained_none a.number (n - a.left) xs (All-weaker (λ x. told_apart a x ≡ true) (λ x. eqb x.number a.number ≡ false) (told_back a) xs told) in
      ⊎_elim
      (λ (z : n - a.left ≡ 0). absurd (omega (arith, h, gb, ap (λ m. gained b.number (dealt m xs)) z, gained_zero b.number xs)))
      (λ (s : n - a.left ≡ 0 → ⊥). omega (arith, ga, absent))
      (cases_eq (n - a.left) 0)

  -- x, which stands first, is another
  passed : (n : ℕ) (x : Order) (xs : List Order) (c : Order) → All (λ y. told_apart x y ≡ true) xs → Contains xs c → gained c.number (fill_of n x ∷ dealt (n - x.left) xs) ≡ gained c.number (dealt (n - x.left) xs)
  passed n x xs c told ic =
      let other : eqb x.number c.number ≡ false = told_number x c (All-contains (λ y. told_apart x y ≡ true) xs c told ic) in
      omega (arith, gained_cons c.number n x xs ∙ ap (λ t. cond t (min n x.left) 0 + gained c.number (dealt (n - x.left) xs)) other)

  whole_next : (n : ℕ) (x : Order) (xs : List Order) → Apart before (x ∷ xs) → Apart told_apart (x ∷ xs) → (Contains xs a → Contains xs b → Whole (dealt (n - x.left) xs)) → Contains (x ∷ xs) a → Contains (x ∷ xs) b → Whole (fill_of n x ∷ dealt (n - x.left) xs)
  whole_next n x xs sorted told on (zero, la, ea) (zero, lb, eb) h = absurd (never x (ap (before x) eb ∙ ap (λ v. before v b) ea ∙ front))
  whole_next n x xs sorted told on (zero, la, ea) (suc j, lb, eb) h =
      let ib : Contains xs b = (j, omega arith, eb) in
      let P : Order → Type 0 = λ v. All (λ z. told_apart v z ≡ true) xs → Whole (fill_of n v ∷ dealt (n - v.left) xs) in
      subst P (sym ea) (λ away. whole_here n xs away ib) (apart_head told_apart x xs told) h
  whole_next n x xs sorted told on (suc i, la, ea) (zero, lb, eb) h =
      let ia : Contains xs a = (i, omega arith, ea) in
      absurd (never x (ranks.carries x a x (All-contains (λ y. before x y ≡ true) xs a (apart_head before x xs sorted) ia) (ap (before a) eb ∙ front)))
  whole_next n x xs sorted told on (suc i, la, ea) (suc j, lb, eb) h =
      let ia : Contains xs a = (i, omega arith, ea) in
      let ib : Contains xs b = (j, omega arith, eb) in
      let others = apart_head told_apart x xs told in
      passed n x xs a others ia ∙ on ia ib (omega (arith, h, passed n x xs b others ib))

  whole : (n : ℕ) (xs : List Order) → Apart before xs → Apart told_apart xs → Contains xs a → Contains xs b → Whole (dealt n xs)
  whole n [] sorted told ia ib = absurd (omega (arith, ia.1))
  whole n (x ∷ xs) sorted told ia ib =
      ⊎_elim
      (λ (z : n ≡ 0). λ h. absurd (omega (arith, h, ap (λ m. gained b.number (dealt m (x ∷ xs))) z, gained_zero b.number (x ∷ xs))))
      (λ (s : n ≡ 0 → ⊥). rw (ne_eqb n 0 s) (whole_next n x xs sorted told (whole (n - x.left) xs (apart_tail before x xs sorted) (apart_tail told_apart x xs told)) ia ib))
      (cases_eq n 0)

module _ {before : Order → Order → Bool} (ranks : Ordering before told_apart) (price trading : ℕ) (lines : List Order) (stand : Standing lines) where
  side_turn : (side : Side) (a b : Order) → Contains (accepting side price lines) a → Contains (accepting side price lines) b → before a b ≡ true → 0 < gained b.number (fills_of before side price trading lines) → gained a.number (fills_of before side price trading lines) ≡ a.left
  side_turn side a b ia ib front =
      let all : List Order = accepting side price lines in
      let told : Apart told_apart all = kept_told side price (accepts side price) (λ x h. h) lines stand.apart in
      let moves = IsPermutation-ranked before all in
      whole ranks a b front trading (ranked before all) (ranked_by_merit ranks all told) (ranked_apart before told_apart both_told all told) (Contains-permutation _ _ a moves ia) (Contains-permutation _ _ b moves ib)

  -- an order of one side gains nothing on the other
  abbrev across : Side → Side
  across Buy = Sell
  across Sell = Buy

  only_own : (side : Side) (x : Order) → Contains (accepting side price lines) x → gained x.number (fills_of before (across side) price trading lines) ≡ 0
  only_own Buy x i =
      let own = held_own x (accepting Buy price lines) (AllPairs-filter (λ v w. other_number v w ≡ true) (accepts Buy price) lines stand.apart) i in
      let all = held_own x lines stand.apart (Contains-from_filter (accepts Buy price) lines x i) in
      omega (arith, own, all, held_both x.number price lines, fills_held before Sell price trading x.number lines)
  only_own Sell x i =
      let own = held_own x (accepting Sell price lines) (AllPairs-filter (λ v w. other_number v w ≡ true) (accepts Sell price) lines stand.apart) i in
      let all = held_own x lines stand.apart (Contains-from_filter (accepts Sell price) lines x i) in
      omega (arith, own, all, held_both x.number price lines, fills_held before Buy price trading x.number lines)

  pub gained_all : (k : ℕ) → gained k (all_fills before price trading lines) ≡ gained k (fills_of before Buy price trading lines) + gained k (fills_of before Sell price trading lines)
  gained_all k = sum_by-append (λ (f : Fill). cond (eqb f.number k) f.shares 0) (fills_of before Buy price trading lines) (fills_of before Sell price trading lines)

  gained_own : (side : Side) (x : Order) → Contains (accepting side price lines) x → gained x.number (all_fills before price trading lines) ≡ gained x.number (fills_of before side price trading lines)
  gained_own Buy x i = omega (arith, gained_all x.number, only_own Buy x i)
  gained_own Sell x i = omega (arith, gained_all x.number, only_own Sell x i)

  some_fills : (side : Side) → All (λ f. 0 < f.shares) (fills_of before side price trading lines)
  some_fills side =
      some_dealt trading (ranked before (accepting side price lines)) (all_ranked before Line (accepting side price lines) (All-filter (accepts side price) Line lines stand.each))

  pub fills_fair : Fair before price trading lines
  fills_fair = record {
    exact = exactly before price trading lines;
    in_turn = λ side a b ia ib front h. gained_own side a ia ∙ side_turn side a b ia ib front (omega (arith, h, gained_own side b ib));
    most = λ x i. omega (arith, gained_all x.number, fills_held before Buy price trading x.number lines, fills_held before Sell price trading x.number lines, held_both x.number price lines, held_own x lines stand.apart i);
    some = All-append (λ f. 0 < f.shares) (fills_of before Buy price trading lines) (fills_of before Sell price trading lines) (some_fills Buy) (some_fills Sell);
  }
