-- One turn of the walk through a side, and its end. Assumes nothing.
use Rattle.std.proofs.Common.{◌≡◌, ℕ, suc, ◌+◌, ◌-◌, ◌<◌, ◌≤◌, min, Bool, true, false, ◌&&◌, List, [], ◌∷◌, ◌++◌, length, get_or, take, drop, set, Some, None, filter, Option, sym, refl, ap, ◌∙◌, arith, rules}
use Rattle.std.specs.List.{All, Contains}
use Rattle.std.proofs.lemmas.List.Elements.{filter_passes, Contains-get_or}
use Rattle.std.proofs.lemmas.List.Kept.{AllPairs-filter}
use Rattle.std.proofs.lemmas.List.{append_assoc, get_or_default, append-nil, drop-set-lt, length-set, length-take-le, take-append-drop, take_more_set, drop-drop}
use Rattle.std.proofs.lemmas.List.Sorted.{length_permutation}
use Rattle.std.proofs.lemmas.Bool.{and_parts, both_ways, ne_eqb}
use Rattle.book.specs.Fills.{accepting, after, dealt, fills_of, waits}
use Rattle.book.specs.Merits.{FirstEligible, NoneEligible}
use Rattle.book.specs.Orders.{accepts, free, told_apart}
use Rattle.book.specs.Ranked.{ranked}
use Rattle.book.specs.declared.fill.Fill.{Fill}
use Rattle.book.specs.declared.order.Order.{Order}
use Rattle.book.specs.declared.order.Side.{Side}
use Rattle.book.proofs.Orderings.{Ordering}
use Rattle.book.proofs.Standing.{other_number}
use Rattle.book.proofs.Rankings.{Contains-filter, all_kept, kept_none, kept_twice, IsPermutation-ranked, ranked_first, Apart}

-- the orders that wait to be served
abbrev waiting : (Order → Order → Bool) → Side → ℕ → Option Order → List Order → List Order
waiting before side price last lines = filter (waits before side price last) lines

-- ---- orders of a side are told apart
both_told : (side : Side) (price : ℕ) (x y : Order) → accepts side price x ≡ true → accepts side price y ≡ true → other_number x y ≡ true → told_apart x y ≡ true
both_told side price x y ax ay other = search rules

-- any that pass a test that only orders of the side that accept the price pass
pub kept_told : (side : Side) (price : ℕ) (p : Order → Bool) → ((x : Order) → p x ≡ true → accepts side price x ≡ true) → (lines : List Order) → Apart other_number lines → Apart told_apart (filter p lines)
kept_told side price p only lines told i j d lt within =
    let x : Order = get_or (filter p lines) i d in
    let y : Order = get_or (filter p lines) j d in
    both_told side price x y (only x (filter_passes p lines i d (omega arith))) (only y (filter_passes p lines j d within)) (AllPairs-filter (λ v w. other_number v w ≡ true) p lines told i j d lt within)

and_then : (a b c : Bool) → (c ≡ true → a ≡ true) → ((a && b) && c) ≡ (c && b)
and_then true true true h = refl
and_then true true false h = refl
and_then true false true h = refl
and_then true false false h = refl
and_then false b true h = absurd (both_ways false refl (h refl))
and_then false b false h = refl

module _ (before : Order → Order → Bool) (lines : List Order) (side : Side) (price : ℕ) where
  -- `fills` began as `entry`; the fills so far and what is yet to be dealt are the side's
  pub record Filling (entry fills : List Fill) (trading : ℕ) (last : Option Order) (rest count : ℕ) : Type 0 where
    pub deals : take count fills ++ dealt rest (ranked before (waiting before side price last lines)) ≡ fills_of before side price trading lines
    pub beyond : drop count fills ≡ drop count entry
    pub room : count + length (waiting before side price last lines) ≤ length (accepting side price lines)
    pub long : length fills ≡ length entry

-- the end, where nothing is left to deal or nobody waits
pub record Filled (entry fills all : List Fill) (count : ℕ) : Type 0 where
  pub count_is : count ≡ length all
  pub fills_are : fills ≡ all ++ drop count entry

dealt_none : (xs : List Order) → dealt 0 xs ≡ []
dealt_none [] = refl
dealt_none (y ∷ ys) = refl

module _ {before : Order → Order → Bool} (ranks : Ordering before told_apart) (lines : List Order) (side : Side) (price : ℕ) where
  after_on : (last : Option Order) (x y : Order) → after before last x ≡ true → before x y ≡ true → after before last y ≡ true
  after_on None x y h k = refl
  after_on (Some z) x y h k = ranks.carries z x y h k

  -- behind x, those wait that waited before and come after x
  waits_on : (last : Option Order) (x : Order) → waits before side price last x ≡ true → (y : Order) → (waits before side price last y && before x y) ≡ waits before side price (Some x) y
  waits_on last x h y = and_then (after before last y) (accepts side price y) (before x y) (after_on last x y (and_parts (after before last x) (accepts side price x) h).0)

  module _ (told : Apart other_number lines) (last : Option Order) (next : ℕ) (first : FirstEligible (waits before side price last) before lines (length lines) next) where
    x : Order
    x = get_or lines next free

    -- the next in the queue, and those behind it
    queue_next : ranked before (waiting before side price last lines) ≡ x ∷ ranked before (waiting before side price (Some x) lines)
    unfolding x
    queue_next =
        let p : Order → Bool = waits before side price last in
        let among : Contains (filter p lines) x = Contains-filter p lines x (first.1 free) (Contains-get_or lines next free first.0) in
        let none : All (λ y. before y x ≡ false) (filter p lines) = all_kept p (λ y. before y x ≡ false) lines (λ k d lt. rw (get_or_default lines next free d first.0) (first.2 k lt d)) in
        ranked_first ranks x (filter p lines) (kept_told side price p (λ y h. (and_parts (after before last y) (accepts side price y) h).1) lines told) among none
        ∙ ap (λ zs. x ∷ ranked before zs) (kept_twice (before x) p (waits before side price (Some x)) (waits_on last x (first.1 free)) lines)

    queue_shorter : length (waiting before side price last lines) ≡ suc (length (waiting before side price (Some (get_or lines next free)) lines))
    unfolding x
    queue_shorter =
        sym (length_permutation _ _ (IsPermutation-ranked before (waiting before side price last lines))) ∙ ap length queue_next
        ∙ ap suc (length_permutation _ _ (IsPermutation-ranked before (waiting before side price (Some x) lines)))

    more : (entry fills : List Fill) (trading rest count : ℕ) → Filling before lines side price entry fills trading last rest count → length (accepting side price lines) ≤ length entry → 0 < rest → Filling before lines side price entry (set fills count (record { number = (get_or lines next free).number; shares = min rest (get_or lines next free).left })) trading (Some (get_or lines next free)) (rest - min rest (get_or lines next free).left) (count + 1)
    unfolding x
    more entry fills trading rest count h short some =
        let f : Fill = record { number = x.number; shares = min rest x.left } in
        let shorter = queue_shorter in
        let room = h.room in
        let long = h.long in
        let inside : count < length fills = omega arith in
        let left : rest - min rest x.left ≡ rest - x.left = omega arith in
        let behind : List Order = ranked before (waiting before side price (Some x) lines) in
        let deal : dealt rest (ranked before (waiting before side price last lines)) ≡ f ∷ dealt (rest - x.left) behind =
        ap (dealt rest) queue_next ∙ rw (ne_eqb rest 0 (omega arith)) in
        record {
          deals = rw left (rw (take_more_set fills count f inside) (append_assoc (take count fills) (f ∷ []) (dealt (rest - x.left) behind) ∙ ap (λ zs. take count fills ++ zs) (sym deal) ∙ h.deals));
          beyond = drop-set-lt (count + 1) fills count f (omega arith) ∙ sym (drop-drop 1 count fills) ∙ ap (drop 1) h.beyond ∙ drop-drop 1 count entry;
          room = omega arith;
          long = length-set fills count f ∙ long;
        }

module _ {before : Order → Order → Bool} {lines : List Order} {side : Side} {price : ℕ} {entry fills : List Fill} {trading : ℕ} {last : Option Order} {rest count : ℕ} (h : Filling before lines side price entry fills trading last rest count) (short : length (accepting side price lines) ≤ length entry) where
  filled : dealt rest (ranked before (waiting before side price last lines)) ≡ [] → Filled entry fills (fills_of before side price trading lines) count
  filled over =
      let room = h.room in
      let long = h.long in
      let all : take count fills ≡ fills_of before side price trading lines = sym (append-nil (take count fills)) ∙ ap (λ zs. take count fills ++ zs) (sym over) ∙ h.deals in
      record {
        count_is = sym (length-take-le count fills (omega arith)) ∙ ap length all;
        fills_are = sym (take-append-drop count fills) ∙ ap (λ zs. zs ++ drop count fills) all ∙ ap (λ zs. fills_of before side price trading lines ++ zs) h.beyond;
      }

  pub filled_dealt : rest ≡ 0 → Filled entry fills (fills_of before side price trading lines) count
  filled_dealt z = filled (rw z (dealt_none (ranked before (waiting before side price last lines))))

  pub filled_none : NoneEligible (waits before side price last) lines (length lines) → Filled entry fills (fills_of before side price trading lines) count
  filled_none nobody =
      let p : Order → Bool = waits before side price last in
      let empty : filter p lines ≡ [] = kept_none p lines (λ k d lt. nobody k lt d) in
      filled (ap (λ zs. dealt rest (ranked before zs)) empty)

  pub filling_more : Ordering before told_apart → Apart other_number lines → (next : ℕ) → FirstEligible (waits before side price last) before lines (length lines) next → 0 < rest → Filling before lines side price entry (set fills count (record { number = (get_or lines next free).number; shares = min rest (get_or lines next free).left })) trading (Some (get_or lines next free)) (rest - min rest (get_or lines next free).left) (count + 1)
  filling_more ranks told next first some = more ranks lines side price told last next first entry fills trading rest count h short some
