-- The first by merit stands first in the ranked list, and the rest behind it. Assumes nothing.
use Rattle.std.proofs.Common.{◌≡◌, ℕ, zero, suc, Bool, true, false, cond, not, ◌&&◌, List, [], ◌∷◌, sum_by, filter, sym, refl, ap, ◌∙◌, subst, ⊎_elim, arith}
use Rattle.std.specs.List.{All, AllPairs, Contains}
use Rattle.std.specs.List.Sorted.{IsPermutation}
use Rattle.std.proofs.lemmas.List.Elements.{All-nil, All-cons, All-head, All-tail, All-weaker, All-contains, All-contains_itself, All-filter, filter_passes, Contains-append_right}
use Rattle.std.proofs.lemmas.List.Kept.{AllPairs-cons}
use Rattle.std.proofs.lemmas.List.Sorted.{All-permutation, IsPermutation-refl, IsPermutation-cons, IsPermutation-swap, IsPermutation-trans}
use Rattle.std.proofs.lemmas.List.Sums.{sum_by-cons}
use Rattle.std.proofs.lemmas.Bool.{cases_Bool, cond_both, cond-true, cond-false, not-false}
use Rattle.book.proofs.Orderings.{Ordering}
use Rattle.book.specs.Ranked.{placed, ranked}

-- any two of the items are told apart
abbrev pub Apart : {X : Type 0} → (X → X → Bool) → List X → Type 0
Apart apart xs = AllPairs (λ x y. apart x y ≡ true) xs

pub apart_none : {X : Type 0} (apart : X → X → Bool) → Apart apart []
apart_none apart i j d lt within = absurd (omega arith)

pub apart_head : {X : Type 0} (apart : X → X → Bool) (x : X) (xs : List X) → Apart apart (x ∷ xs) → All (λ y. apart x y ≡ true) xs
apart_head apart x xs h k d lt = h 0 (suc k) d (omega arith) (omega arith)

pub apart_tail : {X : Type 0} (apart : X → X → Bool) (x : X) (xs : List X) → Apart apart (x ∷ xs) → Apart apart xs
apart_tail apart x xs h i j d lt within = h (suc i) (suc j) d (omega arith) (omega arith)

-- ---- what a filter keeps
pub Contains-filter : {X : Type 0} (p : X → Bool) (xs : List X) (x : X) → p x ≡ true → Contains xs x → Contains (filter p xs) x
Contains-filter p [] x px i = i
Contains-filter p (y ∷ ys) x px (zero, lt, e) = rw (ap p e ∙ px) (zero, omega arith, e)
Contains-filter {X} p (y ∷ ys) x px (suc k, lt, e) =
    let rest = Contains-filter p ys x px (k, omega arith, e) in
    cond_both (p y) (y ∷ filter p ys) (filter p ys) (λ (zs : List X). Contains zs x) (λ _. Contains-append_right (y ∷ []) (filter p ys) x rest) (λ _. rest)

-- what a filter keeps was there
pub Contains-from_filter : {X : Type 0} (p : X → Bool) (xs : List X) (x : X) → Contains (filter p xs) x → Contains xs x
Contains-from_filter p xs x = All-contains (Contains xs) (filter p xs) x (All-filter p (Contains xs) xs (All-contains_itself xs))

pub all_kept : {X : Type 0} (p : X → Bool) (P : X → Type 0) (xs : List X) → All (λ x. p x ≡ true → P x) xs → All P (filter p xs)
all_kept p P xs h k d lt = All-filter p (λ x. p x ≡ true → P x) xs h k d lt (filter_passes p xs k d lt)

pub kept_whole : {X : Type 0} (p : X → Bool) (xs : List X) → All (λ x. p x ≡ true) xs → filter p xs ≡ xs
kept_whole p [] h = refl
kept_whole p (y ∷ ys) h = rw (All-head (λ x. p x ≡ true) y ys h) (ap (λ zs. y ∷ zs) (kept_whole p ys (All-tail (λ x. p x ≡ true) y ys h)))

pub kept_none : {X : Type 0} (p : X → Bool) (xs : List X) → All (λ x. p x ≡ false) xs → filter p xs ≡ []
kept_none p [] h = refl
kept_none p (y ∷ ys) h = rw (All-head (λ x. p x ≡ false) y ys h) (kept_none p ys (All-tail (λ x. p x ≡ false) y ys h))

-- two filters one after the other, where they come to a third
pub kept_twice : {X : Type 0} (p q r : X → Bool) → ((x : X) → (q x && p x) ≡ r x) → (xs : List X) → filter p (filter q xs) ≡ filter r xs
kept_twice p q r same [] = refl
kept_twice {X} p q r same (y ∷ ys) =
    let rest = kept_twice p q r same ys in
    ⊎_elim
    (λ (t : q y ≡ true). rw (sym (same y), t) (cond_both (p y) (y ∷ filter p (filter q ys)) (filter p (filter q ys)) (λ zs. zs ≡ cond (p y) (y ∷ filter r ys) (filter r ys)) (λ e. rw e (ap (λ zs. y ∷ zs) rest)) (λ e. rw e rest)))
    (λ (f : q y ≡ false). rw (sym (same y), f) rest)
    (cases_Bool (q y))

-- ---- ranked lists
IsPermutation-placed : {X : Type 0} (before : X → X → Bool) (x : X) (ys : List X) → IsPermutation (x ∷ ys) (placed before x ys)
IsPermutation-placed before x [] = IsPermutation-refl (x ∷ [])
IsPermutation-placed before x (y ∷ ys) =
    cond_both (before x y) (x ∷ y ∷ ys) (y ∷ placed before x ys) (IsPermutation (x ∷ y ∷ ys))
    (λ _. IsPermutation-refl (x ∷ y ∷ ys))
    (λ _. IsPermutation-trans _ _ _
    (IsPermutation-swap (x ∷ y ∷ ys) (y ∷ x ∷ ys) 0 1 (omega arith) (omega arith) refl)
    (IsPermutation-cons y _ _ (IsPermutation-placed before x ys)))

-- the ranked list has the same items
pub IsPermutation-ranked : {X : Type 0} (before : X → X → Bool) (xs : List X) → IsPermutation xs (ranked before xs)
IsPermutation-ranked before [] = IsPermutation-refl []
IsPermutation-ranked before (x ∷ xs) =
    IsPermutation-trans _ _ _ (IsPermutation-cons x _ _ (IsPermutation-ranked before xs)) (IsPermutation-placed before x (ranked before xs))

all_placed : {X : Type 0} (before : X → X → Bool) (P : X → Type 0) (x : X) (ys : List X) → P x → All P ys → All P (placed before x ys)
all_placed before P x ys px h = All-permutation P _ _ (IsPermutation-placed before x ys) (All-cons P x ys px h)

pub all_ranked : {X : Type 0} (before : X → X → Bool) (P : X → Type 0) (xs : List X) → All P xs → All P (ranked before xs)
all_ranked before P xs h = All-permutation P _ _ (IsPermutation-ranked before xs) h

placed_first : {X : Type 0} (before : X → X → Bool) (x : X) (ys : List X) → All (λ y. before x y ≡ true) ys → placed before x ys ≡ x ∷ ys
placed_first before x [] h = refl
placed_first before x (y ∷ ys) h = rw (All-head (λ z. before x z ≡ true) y ys h)

-- of two items told apart, the one that the other does not come before comes first
pub comes_first : {X : Type 0} {before apart : X → X → Bool} (ranks : Ordering before apart) (x y : X) → apart y x ≡ true → before y x ≡ false → before x y ≡ true
comes_first ranks x y apart behind = not-false _ (sym (ranks.one_first y x apart) ∙ behind)

first_here : {X : Type 0} {before apart : X → X → Bool} (ranks : Ordering before apart) (y : X) (ys : List X) → All (λ z. apart y z ≡ true) ys → All (λ z. before z y ≡ false) ys → ranked before (y ∷ ys) ≡ y ∷ ranked before (filter (before y) (y ∷ ys))
first_here {X} {before} ranks y ys told none =
    let lead : All (λ z. before y z ≡ true) ys = λ k d lt. ranks.one_first y _ (told k d lt) ∙ ap not (none k d lt) in
    rw (ranks.never_itself y, kept_whole (before y) ys lead) (placed_first before y (ranked before ys) (all_ranked before (λ z. before y z ≡ true) ys lead))

pub ranked_first : {X : Type 0} {before apart : X → X → Bool} (ranks : Ordering before apart) (x : X) (xs : List X) → Apart apart xs → Contains xs x → All (λ y. before y x ≡ false) xs → ranked before xs ≡ x ∷ ranked before (filter (before x) xs)
ranked_first ranks x [] told here none = absurd (omega (arith, here.1))
ranked_first {X} {before} {apart} ranks x (y ∷ ys) told (zero, lt, e) none =
    let P : X → Type 0 = λ v. All (λ z. before z v ≡ false) ys → ranked before (y ∷ ys) ≡ v ∷ ranked before (filter (before v) (y ∷ ys)) in
    subst P e (first_here ranks y ys (apart_head apart y ys told)) (All-tail (λ z. before z x ≡ false) y ys none)
ranked_first {X} {before} {apart} ranks x (y ∷ ys) told (suc k, lt, e) none =
    let i : Contains ys x = (k, omega arith, e) in
    let behind : before y x ≡ false = All-head (λ z. before z x ≡ false) y ys none in
    let rest = ranked_first ranks x ys (apart_tail apart y ys told) i (All-tail (λ z. before z x ≡ false) y ys none) in
    let lead : before x y ≡ true = comes_first ranks x y (All-contains (λ z. apart y z ≡ true) ys x (apart_head apart y ys told) i) behind in
    rw (rest, behind, lead)

-- ---- the ranked list stands by merit: each item comes before all that stand behind it, so any two are told apart by `before`
placed_by_merit : {X : Type 0} {before apart : X → X → Bool} (ranks : Ordering before apart) (x : X) (ys : List X) → All (λ y. apart x y ≡ true) ys → Apart before ys → Apart before (placed before x ys)
placed_by_merit {X} {before} ranks x [] told h = AllPairs-cons (λ v w. before v w ≡ true) x [] (All-nil (λ w. before x w ≡ true)) h
placed_by_merit {X} {before} {apart} ranks x (y ∷ ys) told h =
    let Before : X → X → Type 0 = λ v w. before v w ≡ true in
    let behind = apart_head before y ys h in
    cond_both (before x y) (x ∷ y ∷ ys) (y ∷ placed before x ys) (Apart before)
    (λ t. AllPairs-cons Before x (y ∷ ys) (All-cons (Before x) y ys t (All-weaker (Before y) (Before x) (λ z. ranks.carries x y z t) ys behind)) h)
    (λ f. AllPairs-cons Before y (placed before x ys)
    (all_placed before (Before y) x ys (comes_first ranks y x (All-head (λ z. apart x z ≡ true) y ys told) f) behind)
    (placed_by_merit ranks x ys (All-tail (λ z. apart x z ≡ true) y ys told) (apart_tail before y ys h)))

pub ranked_by_merit : {X : Type 0} {before apart : X → X → Bool} (ranks : Ordering before apart) (xs : List X) → Apart apart xs → Apart before (ranked before xs)
ranked_by_merit {X} {before} ranks [] told = apart_none before
ranked_by_merit {X} {before} {apart} ranks (x ∷ xs) told =
    placed_by_merit ranks x (ranked before xs) (all_ranked before (λ y. apart x y ≡ true) xs (apart_head apart x xs told)) (ranked_by_merit ranks xs (apart_tail apart x xs told))

placed_apart : {X : Type 0} (before apart : X → X → Bool) → ((x y : X) → apart x y ≡ true → apart y x ≡ true) → (x : X) (ys : List X) → All (λ y. apart x y ≡ true) ys → Apart apart ys → Apart apart (placed before x ys)
placed_apart before apart both x [] told h = AllPairs-cons (λ v w. apart v w ≡ true) x [] told h
placed_apart {X} before apart both x (y ∷ ys) told h =
    let Told : X → X → Type 0 = λ v w. apart v w ≡ true in
    cond_both (before x y) (x ∷ y ∷ ys) (y ∷ placed before x ys) (Apart apart)
    (λ _. AllPairs-cons Told x (y ∷ ys) told h)
    (λ _. AllPairs-cons Told y (placed before x ys)
    (all_placed before (Told y) x ys (both x y (All-head (Told x) y ys told)) (apart_head apart y ys h))
    (placed_apart before apart both x ys (All-tail (Told x) y ys told) (apart_tail apart y ys h)))

pub ranked_apart : {X : Type 0} (before apart : X → X → Bool) → ((x y : X) → apart x y ≡ true → apart y x ≡ true) → (xs : List X) → Apart apart xs → Apart apart (ranked before xs)
ranked_apart before apart both [] told = told
ranked_apart before apart both (x ∷ xs) told =
    placed_apart before apart both x (ranked before xs) (all_ranked before (λ y. apart x y ≡ true) xs (apart_head apart x xs told)) (ranked_apart before apart both xs (apart_tail apart x xs told))

pub sum_by_kept : {X : Type 0} (p : X → Bool) (f g : X → ℕ) → ((x : X) → g x ≡ cond (p x) (f x) 0) → (xs : List X) → sum_by f (filter p xs) ≡ sum_by g xs
sum_by_kept p f g same [] = refl
sum_by_kept p f g same (x ∷ xs) =
    let rest = sum_by_kept p f g same xs in
    ⊎_elim
    (λ (t : p x ≡ true). rw t (omega (arith, sum_by-cons f x (filter p xs), sum_by-cons g x xs, rest, same x ∙ cond-true (p x) (f x) 0 t)))
    (λ (n : p x ≡ false). rw n (omega (arith, sum_by-cons g x xs, rest, same x ∙ cond-false (p x) (f x) 0 n)))
    (cases_Bool (p x))
