-- What is known of lines that stand in a book. Assumes nothing.
use Rattle.std.proofs.Common.{◌≡◌, ℕ, ◌+◌, ◌<◌, ◌≤◌, Bool, true, false, not, ◌&&◌, eqb, leb, List, [], ◌∷◌, length, get_or, drop, ap, ◌∙◌, arith, rules}
use Rattle.std.specs.List.{All}
use Rattle.std.proofs.lemmas.List.{at_drop_more, at_drop_all}
use Rattle.std.proofs.lemmas.List.Elements.{All-nil, All-cons, All-weaker}
use Rattle.std.proofs.lemmas.List.Kept.{AllPairs-cons}
use Rattle.std.proofs.lemmas.Bool.{and_parts, leb-true, ne_eqb}
use Rattle.book.specs.Orders.{free}
use Rattle.book.specs.Sounds.{in_range, may_follow, standing, is_book}
use Rattle.book.specs.declared.order.Order.{Order}
use Rattle.book.proofs.Rankings.{apart_none, Apart}

-- orders of different numbers
abbrev pub other_number : Order → Order → Bool
other_number x y = not (eqb x.number y.number)

-- ---- the loop over the lines
module _ (last next : ℕ) (lines : List Order) (i : ℕ) where
  standing_more : i < length lines → standing last next (drop i lines) ≡ (may_follow last next (get_or lines i free) && standing (get_or lines i free).number next (drop (i + 1) lines))
  unfolding standing
  standing_more lt = at_drop_more (standing last next) lines i free lt

  pub standing_on : i < length lines → may_follow last next (get_or lines i free) ≡ true → standing last next (drop i lines) ≡ standing (get_or lines i free).number next (drop (i + 1) lines)
  standing_on lt h = standing_more lt ∙ ap (λ t. t && standing (get_or lines i free).number next (drop (i + 1) lines)) h

  pub standing_stops : i < length lines → may_follow last next (get_or lines i free) ≡ false → standing last next (drop i lines) ≡ false
  standing_stops lt h = standing_more lt ∙ ap (λ t. t && standing (get_or lines i free).number next (drop (i + 1) lines)) h

  pub standing_all : length lines ≤ i → standing last next (drop i lines) ≡ true
  unfolding standing
  standing_all past = at_drop_all (standing last next) lines i past

-- ---- what a book's lines are
pub record Line (x : Order) : Type 0 where
  pub some : 1 ≤ x.left
  pub small : x.left ≤ 100000
  pub priced : x.limit ≤ 1000000000

range_line : (x : Order) → in_range x ≡ true → Line x
unfolding in_range
range_line x h = record { some = search rules; small = search rules; priced = search rules }

pub follow_parts : (last next : ℕ) (x : Order) → may_follow last next x ≡ true → (last < x.number) × (x.number < next) × Line x
follow_parts last next x h = (search rules, search rules, range_line x (search rules))

pub record Standing (lines : List Order) : Type 0 where
  pub few : length lines ≤ 1024
  pub each : All Line lines
  pub apart : Apart other_number lines

pub standing_parts : (last next : ℕ) (x : Order) (xs : List Order) → standing last next (x ∷ xs) ≡ true → (may_follow last next x ≡ true) × (standing x.number next xs ≡ true)
unfolding standing
standing_parts last next x xs h = search rules

above_last : (last next : ℕ) (lines : List Order) → standing last next lines ≡ true → All (λ y. last < y.number) lines
above_last last next [] h = All-nil (λ y. last < y.number)
above_last last next (x ∷ xs) h =
    let parts = standing_parts last next x xs h in
    let up = (follow_parts last next x parts.0).0 in
    All-cons (λ y. last < y.number) x xs up (All-weaker (λ y. x.number < y.number) (λ y. last < y.number) (λ y k. omega arith) xs (above_last x.number next xs parts.1))

each_line : (last next : ℕ) (lines : List Order) → standing last next lines ≡ true → All Line lines
each_line last next [] h = All-nil Line
each_line last next (x ∷ xs) h =
    let parts = standing_parts last next x xs h in
    All-cons Line x xs (follow_parts last next x parts.0).2 (each_line x.number next xs parts.1)

all_apart : (last next : ℕ) (lines : List Order) → standing last next lines ≡ true → Apart other_number lines
all_apart last next [] h = apart_none other_number
all_apart last next (x ∷ xs) h =
    let parts = standing_parts last next x xs h in
    let others = All-weaker (λ y. x.number < y.number) (λ y. other_number x y ≡ true) (λ y k. ap not (ne_eqb x.number y.number (λ e. omega arith))) xs (above_last x.number next xs parts.1) in
    AllPairs-cons (λ v w. other_number v w ≡ true) x xs others (all_apart x.number next xs parts.1)

pub book_stands : (next : ℕ) (lines : List Order) → is_book next lines ≡ true → Standing lines
unfolding is_book
book_stands next lines h =
    let parts = and_parts (leb (length lines) 1024) (standing 0 next lines) h in
    record { few = leb-true (length lines) 1024 parts.0; each = each_line 0 next lines parts.1; apart = all_apart 0 next lines parts.1 }

pub book_is : (next : ℕ) (lines : List Order) → length lines ≤ 1024 → standing 0 next lines ≡ is_book next lines
unfolding is_book
book_is next lines few = search rules
