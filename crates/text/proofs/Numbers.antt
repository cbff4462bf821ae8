-- The numbers that digits write. Assumes nothing.
use Rattle.std.proofs.Common.{◌≡◌, ℕ, ◌^◌, ◌<◌, ◌≤◌, true, leb, List, length, get_or, take, IfSome, Some, None, refl, inl, inr, arith}
use Rattle.std.specs.Str.Parse.{AllDigits, digits_value}
use Rattle.std.specs.Int.{IsInRange}
use Rattle.std.specs.Str.{all_ascii_digits}
use Rattle.std.proofs.lemmas.List.{length-take-le}
use Rattle.std.proofs.lemmas.Str.Parse.{IsNumeralModel, numerals_by_value, tells_all_ascii_digits, digits_value_short, not_in_digits}
use Rattle.std.proofs.lemmas.Bool.{le-leb, and_from, and_right, and_parts, leb-true, cond-true, cond-false, cond_both, cases_Bool}
use Rattle.text.specs.Euros.{digits}

-- what std says of digits, and of their value
pub own : IsNumeralModel (λ ds. all_ascii_digits ds ≡ true) (digits_value 10)
own = numerals_by_value _ tells_all_ascii_digits

-- digits, not too many, are read
pub digits_read : (most : ℕ) (ds : List ℕ) → 1 ≤ length ds → length ds ≤ most → all_ascii_digits ds ≡ true → digits most ds ≡ Some (digits_value 10 ds)
digits_read most ds some few all = cond-true _ _ _ (and_from _ _ (and_from _ _ (le-leb _ _ some) (le-leb _ _ few)) all)

-- a byte that is no digit is not read
pub other_byte : (most : ℕ) (ds : List ℕ) (i : ℕ) → i < length ds → (IsInRange 48 57 (get_or ds i 0) → ⊥) → digits most ds ≡ None
other_byte most ds i short out =
    elim (cases_Bool (all_ascii_digits ds)) [ inl all ↦ absurd (not_in_digits own ds (get_or ds i 0) all out i short refl) | inr bad ↦ cond-false _ _ _ (and_right _ _ bad) ]

-- a number of fewer than six digits is below 100,000
pub front_small : (ds : List ℕ) (i : ℕ) → i ≤ length ds → i < 6 → AllDigits 10 (take i ds) → digits_value 10 (take i ds) < 10 ^ 5
front_small ds i short few all =
    let long : length (take i ds) ≡ i = length-take-le i ds (omega arith) in
    digits_value_short own (take i ds) 5 (own.from (take i ds) all) (omega arith)

-- n is what one to `most` digits write
pub record Written (most : ℕ) (ds : List ℕ) (n : ℕ) : Type 0 where
  pub some : 1 ≤ length ds
  pub few : length ds ≤ most
  pub all : all_ascii_digits ds ≡ true
  pub is : n ≡ digits_value 10 ds

pub digits_say : (most : ℕ) (ds : List ℕ) → IfSome (digits most ds) (Written most ds)
digits_say most ds =
    cond_both _ (Some (digits_value 10 ds)) None (λ o. IfSome o (Written most ds))
    (λ passed.
    let parts = and_parts _ (all_ascii_digits ds) passed in
    let sizes = and_parts (leb 1 (length ds)) (leb (length ds) most) parts.0 in
    record { some = leb-true _ _ sizes.0; few = leb-true _ _ sizes.1; all = parts.1; is = refl })
    (λ _. tt)
