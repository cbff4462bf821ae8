-- What the two sides of a book have together. Assumes nothing.
use Rattle.std.proofs.Common.{◌≡◌, ℕ, zero, suc, ◌+◌, ◌-◌, ◌≤◌, min, Bool, true, false, cond, eqb, List, [], ◌∷◌, length, sum_by, filter, refl, ap, ◌∙◌, subst, ⊎_elim, arith, rules}
use Rattle.std.specs.List.{All, Contains}
use Rattle.std.proofs.lemmas.List.Elements.{All-contains, All-filter, All-head, All-tail, All-weaker}
use Rattle.std.proofs.lemmas.List.Sorted.{length_permutation, sum_by-IsPermutation}
use Rattle.std.proofs.lemmas.List.Sums.{sum_by-cons}
use Rattle.std.proofs.lemmas.Bool.{cases_Bool, cond_both, eq-eqb, not-true}
use Rattle.book.specs.Fills.{accepting, dealt, fills_of, gained}
use Rattle.book.specs.Orders.{accepts}
use Rattle.book.specs.Ranked.{ranked}
use Rattle.book.specs.declared.fill.Fill.{Fill}
use Rattle.book.specs.declared.order.Order.{Order}
use Rattle.book.specs.declared.order.Side.{Side}
use Rattle.book.specs.declared.order.Side.TheVariants.{Buy, Sell}
use Rattle.book.proofs.Rankings.{apart_head, apart_tail, IsPermutation-ranked, Apart}
use Rattle.book.proofs.Standing.{other_number}

-- ---- two filters of which no item passes both
module _ {X : Type 0} (p q : X → Bool) (apart : (x : X) → p x ≡ true → q x ≡ true → ⊥) (f : X → ℕ) where
  pub both_kept : (xs : List X) → sum_by f (filter p xs) + sum_by f (filter q xs) ≤ sum_by f xs
  both_kept [] = omega arith
  both_kept (x ∷ xs) =
      let rest = both_kept xs in
      let total = sum_by-cons f x xs in
      ⊎_elim
      (λ (yp : p x ≡ true). ⊎_elim
      (λ (yq : q x ≡ true). absurd (apart x yp yq))
      (λ (nq : q x ≡ false). rw (yp, nq) (omega (arith, sum_by-cons f x (filter p xs))))
      (cases_Bool (q x)))
      (λ (np : p x ≡ false). ⊎_elim
      (λ (yq : q x ≡ true). rw (np, yq) (omega (arith, sum_by-cons f x (filter q xs))))
      (λ (nq : q x ≡ false). rw (np, nq) (omega arith))
      (cases_Bool (q x)))
      (cases_Bool (p x))

length_sum : {X : Type 0} (xs : List X) → length xs ≡ sum_by (λ _. 1) xs
length_sum [] = refl
length_sum {X} (x ∷ xs) = omega (arith, sum_by-cons (λ (_ : X). 1) x xs, length_sum xs)

-- no order buys and sells
one_side : (price : ℕ) (x : Order) → accepts Buy price x ≡ true → accepts Sell price x ≡ true → ⊥
one_side price x b s = search rules

pub accepting_length : (price : ℕ) (lines : List Order) → length (accepting Buy price lines) + length (accepting Sell price lines) ≤ length lines
accepting_length price lines =
    omega (arith, length_sum lines, length_sum (accepting Buy price lines), length_sum (accepting Sell price lines), both_kept (accepts Buy price) (accepts Sell price) (one_side price) (λ _. 1) lines)

dealt_length : (n : ℕ) (xs : List Order) → length (dealt n xs) ≤ length xs
dealt_length n [] = omega arith
dealt_length n (x ∷ xs) =
    cond_both (eqb n 0) [] (record { number = x.number; shares = min n x.left } ∷ dealt (n - x.left) xs) (λ fs. length fs ≤ suc (length xs)) (λ _. omega arith) (λ _. omega (arith, dealt_length (n - x.left) xs))

pub fills_length : (before : Order → Order → Bool) (side : Side) (price trading : ℕ) (lines : List Order) → length (fills_of before side price trading lines) ≤ length (accepting side price lines)
fills_length before side price trading lines =
    let all : List Order = accepting side price lines in
    omega (arith, dealt_length trading (ranked before all), length_permutation _ _ (IsPermutation-ranked before all))

-- ---- the shares left of the orders of a number
abbrev pub held : ℕ → List Order → ℕ
held number xs = sum_by (λ x. cond (eqb x.number number) x.left 0) xs

held_cons : (k : ℕ) (x : Order) (xs : List Order) → held k (x ∷ xs) ≡ cond (eqb x.number k) x.left 0 + held k xs
held_cons k x xs = sum_by-cons (λ (y : Order). cond (eqb y.number k) y.left 0) x xs

-- an order's number is its own
held_none : (k : ℕ) (xs : List Order) → All (λ x. eqb x.number k ≡ false) xs → held k xs ≡ 0
held_none k [] h = refl
held_none k (x ∷ xs) h =
    let Other : Order → Type 0 = λ y. eqb y.number k ≡ false in
    held_cons k x xs ∙ rw (All-head Other x xs h) (omega (arith, held_none k xs (All-tail Other x xs h)))

other_back : (x y : Order) → other_number x y ≡ true → eqb y.number x.number ≡ false
other_back x y h = search rules

held_here : (x : Order) (xs : List Order) → All (λ y. other_number x y ≡ true) xs → held x.number (x ∷ xs) ≡ x.left
held_here x xs told =
    held_cons x.number x xs
    ∙ rw (eq-eqb x.number x.number refl) (omega (arith, held_none x.number xs (All-weaker (λ y. other_number x y ≡ true) (λ y. eqb y.number x.number ≡ false) (other_back x) xs told)))

pub held_own : (x : Order) (lines : List Order) → Apart other_number lines → Contains lines x → held x.number lines ≡ x.left
held_own x [] told i = absurd (omega (arith, i.1))
held_own x (y ∷ ys) told (zero, lt, e) = subst (λ (v : Order). held v.number (y ∷ ys) ≡ v.left) e (held_here y ys (apart_head other_number y ys told))
held_own x (y ∷ ys) told (suc k, lt, e) =
    let i : Contains ys x = (k, omega arith, e) in
    held_cons x.number y ys
    ∙ rw (not-true (eqb y.number x.number) (All-contains (λ z. other_number y z ≡ true) ys x (apart_head other_number y ys told) i)) (omega (arith, held_own x ys (apart_tail other_number y ys told) i))

-- and where a filter takes the order out, none is left of its number
pub held_lost : (p : Order → Bool) (x : Order) (lines : List Order) → Apart other_number lines → Contains lines x → p x ≡ false → held x.number (filter p lines) ≡ 0
held_lost p x [] told i off = absurd (omega (arith, i.1))
held_lost p x (y ∷ ys) told (zero, lt, e) off =
    let gone : All (λ (z : Order). eqb z.number x.number ≡ false) ys = subst (λ (v : Order). All (λ (z : Order). eqb z.number v.number ≡ false) ys) e (All-weaker (λ z. other_number y z ≡ true) (λ z. eqb z.number y.number ≡ false) (other_back y) ys (apart_head other_number y ys told)) in
    rw (ap p e ∙ off) (held_none x.number (filter p ys) (All-filter p (λ z. eqb z.number x.number ≡ false) ys gone))
held_lost p x (y ∷ ys) told (suc k, lt, e) off =
    let i : Contains ys x = (k, omega arith, e) in
    let rest = held_lost p x ys (apart_tail other_number y ys told) i off in
    let other = not-true (eqb y.number x.number) (All-contains (λ z. other_number y z ≡ true) ys x (apart_head other_number y ys told) i) in
    cond_both (p y) (y ∷ filter p ys) (filter p ys) (λ zs. held x.number zs ≡ 0) (λ _. held_cons x.number y (filter p ys) ∙ rw other (omega arith)) (λ _. rest)

pub held_both : (k price : ℕ) (lines : List Order) → held k (accepting Buy price lines) + held k (accepting Sell price lines) ≤ held k lines
held_both k price lines = both_kept (accepts Buy price) (accepts Sell price) (one_side price) (λ x. cond (eqb x.number k) x.left 0) lines

-- no more is dealt to the orders of a number than they have left
dealt_held : (k n : ℕ) (xs : List Order) → gained k (dealt n xs) ≤ held k xs
dealt_held k n [] = omega arith
dealt_held k n (x ∷ xs) =
    let f : Fill = record { number = x.number; shares = min n x.left } in
    let least : cond (eqb x.number k) (min n x.left) 0 ≤ cond (eqb x.number k) x.left 0 =
    ⊎_elim (λ (t : eqb x.number k ≡ true). rw t (omega arith)) (λ (s : eqb x.number k ≡ false). rw s (omega arith)) (cases_Bool (eqb x.number k)) in
    cond_both (eqb n 0) [] (f ∷ dealt (n - x.left) xs) (λ fs. gained k fs ≤ held k (x ∷ xs))
    (λ _. omega arith)
    (λ _. omega (arith, sum_by-cons (λ (y : Fill). cond (eqb y.number k) y.shares 0) f (dealt (n - x.left) xs), held_cons k x xs, dealt_held k (n - x.left) xs, least))

pub fills_held : (before : Order → Order → Bool) (side : Side) (price trading k : ℕ) (lines : List Order) → gained k (fills_of before side price trading lines) ≤ held k (accepting side price lines)
fills_held before side price trading k lines =
    let all : List Order = accepting side price lines in
    omega (arith, dealt_held k trading (ranked before all), sum_by-IsPermutation (λ (x : Order). cond (eqb x.number k) x.left 0) _ _ (IsPermutation-ranked before all))
