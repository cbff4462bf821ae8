-- What a text cut at a byte is made of. Assumes nothing.
use Rattle.std.proofs.Common.{◌≡◌, ℕ, zero, suc, ◌+◌, ◌<◌, Bool, cond, ◌==◌, ltb, List, ◌∷◌, ◌++◌, length, take, drop, IfSome, Some, None, Option, ap, ◌∙◌, arith}
use Rattle.std.proofs.Math.Seq.{take-append_seam, drop-append-add}
use Rattle.std.specs.List.{position_or_len, before_first, after_first}
use Rattle.std.specs.Option.{option_map}
use Rattle.std.specs.Str.Iter.{LacksByte}
use Rattle.std.proofs.lemmas.Grind.{common_steps}
use Rattle.std.proofs.lemmas.List.Sums.{position_or_len_is, passes_at_first, split_at_first}
use Rattle.std.proofs.lemmas.Bool.{eq-eqb, ne_eqb, cond_both, cond-true, eqb-true, ltb-true, lt-ltb}
use Rattle.text.specs.Splits.{split_once}

pub lacks_more : (mark b : ℕ) (bs : List ℕ) → (b ≡ mark → ⊥) → LacksByte mark bs → LacksByte mark (b ∷ bs)
lacks_more mark b bs apart lacks zero h e = apart e
lacks_more mark b bs apart lacks (suc k) h e = lacks k (omega arith) e

pub lacks_append : (mark : ℕ) (xs ys : List ℕ) → LacksByte mark xs → LacksByte mark ys → LacksByte mark (xs ++ ys)
lacks_append mark xs ys left right = λ k h e. grind (arith, common_steps)

first_at : (mark i : ℕ) (text : List ℕ) → position_or_len (λ b. b == mark) text ≡ i → i < length text → split_once mark text ≡ Some (take i text, drop (i + 1) text)
first_at mark i text here inside =
    ap (option_map (λ i. (take i text, drop (i + 1) text))) (ap (λ i. cond (ltb i (length text)) (Some i) None) here ∙ cond-true _ _ _ (lt-ltb _ _ inside))

-- the first mark is where the text is cut
pub split_at : (mark : ℕ) (front back : List ℕ) → LacksByte mark front → split_once mark (front ++ mark ∷ back) ≡ Some (front, back)
split_at mark front back lacks =
    let here =
    position_or_len_is (λ b. b == mark) (front ++ mark ∷ back) (length front) 0 (grind (arith, common_steps)) (λ k h. ne_eqb _ _ (λ e. lacks k h (grind (arith, common_steps)))) (λ _. eq-eqb _ _ (grind (arith, common_steps))) in
    first_at mark (length front) (front ++ mark ∷ back) here (grind (arith, common_steps)) ∙ λ j. Some (take-append_seam front (mark ∷ back) j, drop-append-add front (mark ∷ back) 1 j)

-- a text with no mark is not cut
pub split_none : (mark : ℕ) (text : List ℕ) → LacksByte mark text → split_once mark text ≡ None
split_none mark text lacks =
    let here : position_or_len (λ b. b == mark) text ≡ length text =
    position_or_len_is (λ b. b == mark) text (length text) 0 (omega arith) (λ k h. ne_eqb _ _ (lacks k h)) (λ h. absurd (omega arith)) in
    grind (arith, common_steps)

-- a text is its two parts with the mark between them
abbrev pub Parts : ℕ → List ℕ → Option (List ℕ × List ℕ) → Type 0
Parts mark text o = IfSome o (λ p. text ≡ p.0 ++ mark ∷ p.1)

pub split_parts : (mark : ℕ) (text : List ℕ) → Parts mark text (split_once mark text)
split_parts mark text =
    let p : ℕ → Bool = λ b. b == mark in
    cond_both (ltb (position_or_len p text) (length text)) (Some (position_or_len p text)) None (λ o. Parts mark text (option_map (λ i. (take i text, drop (i + 1) text)) o))
    (λ inside.
    let short = ltb-true _ _ inside in
    split_at_first p text 0 short ∙ ap (λ b. before_first p text ++ b ∷ after_first p text) (eqb-true _ _ (passes_at_first p text 0 short)))
    (λ _. tt)
