-- A row read field by field. Assumes nothing.
use Rattle.std.proofs.Common.{◌≡◌, ℕ, zero, suc, ◌+◌, ◌-◌, ◌<◌, ◌≤◌, Bool, true, false, List, [], ◌∷◌, ◌++◌, length, get_or, take, set, Some, None, Option, sym, refl, ap, ◌∙◌, arith, ◌==◌, append_assoc, append-nil, length-append}
use Rattle.std.specs.Bool.{MatchBool}
use Rattle.std.specs.List.{IsFirstMatchOrLen}
use Rattle.std.specs.Option.{option_map, option_and_then}
use Rattle.std.specs.Str.Iter.{LacksByte}
use Rattle.std.proofs.Math.ListN.{get_or-append}
use Rattle.std.proofs.Math.Seq.{get_or-append_seam}
use Rattle.std.proofs.lemmas.Bool.{eqb-true, eqb-false, false≢true}
use Rattle.std.proofs.lemmas.List.{take_more_set, take_all}
use Rattle.std.proofs.lemmas.Grind.{common_steps}
use Rattle.text.specs.Euros.{euros}
use Rattle.text.proofs.Splitting.{split_at, split_none}
use Rattle.annex.specs.Rows.{amount, amounts}

-- the amounts that are left, where the text has ended or goes on with `rest`
abbrev pub left : ℕ → Bool → List ℕ → Option (List ℕ)
left zero true rest = Some []
left zero false rest = None
left (suc more) true rest = None
left (suc more) false rest = amounts more rest

-- the seven amounts, of which i were read
unfoldable pub seven : ℕ → List ℕ → Bool → List ℕ → Option (List ℕ)
seven i items done rest = option_map (λ ns. take i items ++ ns) (left (7 - i) done rest)

-- `field` is what stands before the first semicolon of `rest`, and `after` what stands after it, unless the text ends
abbrev pub Cut : List ℕ → List ℕ → Bool → List ℕ → Type 0
Cut rest field done after = LacksByte 59 field × MatchBool done (rest ≡ field) (rest ≡ field ++ 59 ∷ after)

amount_cut : (field after : List ℕ) → LacksByte 59 field → amount (field ++ 59 ∷ after) ≡ option_map (λ n. (n, after)) (euros field)
amount_cut field after lacks = ap (option_and_then (λ p. option_map (λ n. (n, p.1)) (euros p.0))) (split_at 59 field after lacks)

amount_last : (field : List ℕ) → LacksByte 59 field → amount field ≡ None
amount_last field lacks = ap (option_and_then (λ p. option_map (λ n. (n, p.1)) (euros p.0))) (split_none 59 field lacks)

no_next : (o : Option ℕ) → ◌≡◌ {A = Option (List ℕ)} None (option_and_then (λ n. None) o)
no_next None = refl
no_next (Some n) = refl

last_next : (o : Option ℕ) → option_map (λ n. n ∷ []) o ≡ option_and_then (λ n. Some (n ∷ [])) o
last_next None = refl
last_next (Some n) = refl

more_next : (m : ℕ) (after : List ℕ) (o : Option ℕ) → option_and_then (λ (p : ℕ × List ℕ). option_map (λ ns. p.0 ∷ ns) (amounts m p.1)) (option_map (λ n. (n, after)) o) ≡ option_and_then (λ n. option_map (λ ns. n ∷ ns) (amounts m after)) o
more_next m after None = refl
more_next m after (Some n) = refl

-- what `next` gives of a text that is split at semicolons
cut_of : (rest field : List ℕ) (done : Bool) (after : List ℕ) → MatchBool done (rest ≡ field) ((y : ℕ) × (rest ≡ field ++ (y ∷ after))) → IsFirstMatchOrLen (λ b. b == 59) rest (length field) → Cut rest field done after
cut_of rest field true after whole first = (λ k h e. grind (arith, common_steps), whole)
cut_of rest field false after goes first =
    let text : rest ≡ field ++ goes.0 ∷ after = goes.1 in
    let seam : get_or rest (length field) 0 ≡ goes.0 = ap (λ l. get_or l (length field) 0) text ∙ get_or-append_seam field goes.0 after 0 in
    let inside : length field < length rest = omega (arith, ap length text, length-append field (goes.0 ∷ after)) in
    let mark : goes.0 ≡ 59 = sym seam ∙ eqb-true _ _ (first.1 inside 0) in (
      λ k h e.
          let low : get_or rest k 0 ≡ 59 = ap (λ l. get_or l k 0) text ∙ get_or-append field (goes.0 ∷ after) 0 k h ∙ e in
          eqb-false _ _ (first.0 k 0 (omega arith) h) low,
      text ∙ ap (λ y. field ++ y ∷ after) mark,
    )

-- what `next` gives of fields parted by semicolons, of which so many are to follow; the last is all that is left
pub record Next (more : ℕ) (rest field : List ℕ) (done : Bool) (after : List ℕ) : Type 0 where
  pub goes : MatchBool done (rest ≡ field) ((y : ℕ) × (rest ≡ field ++ (y ∷ after)))
  pub last : more ≡ 0 → done ≡ true
  pub first : 0 < more → IsFirstMatchOrLen (λ b. b == 59) rest (length field)

left_field : (more : ℕ) (rest field : List ℕ) (done : Bool) (after : List ℕ) → Next more rest field done after
    → left (suc more) false rest ≡ option_and_then (λ n. option_map (λ ns. n ∷ ns) (left more done after)) (euros field)
left_field zero rest field true after next = ap (λ l. option_map (λ n. n ∷ []) (euros l)) next.goes ∙ last_next (euros field)
left_field zero rest field false after next = absurd (false≢true (next.last refl))
left_field (suc m) rest field true after next =
    let cut = cut_of rest field true after next.goes (next.first (omega arith)) in
    ap (λ l. amounts (suc m) l) cut.1 ∙ ap (option_and_then (λ p. option_map (λ ns. p.0 ∷ ns) (amounts m p.1))) (amount_last field cut.0) ∙ no_next (euros field)
left_field (suc m) rest field false after next =
    let cut = cut_of rest field false after next.goes (next.first (omega arith)) in
    ap (λ l. amounts (suc m) l) cut.1 ∙ ap (option_and_then (λ p. option_map (λ ns. p.0 ∷ ns) (amounts m p.1))) (amount_cut field after cut.0) ∙ more_next m after (euros field)

same : (o : Option (List ℕ)) → option_map (λ ns. ns) o ≡ o
same None = refl
same (Some ns) = refl

pub seven_start : (items line : List ℕ) → seven 0 items false line ≡ amounts 6 line
unfolding seven
seven_start items line = same (amounts 6 line)

onto : (front : List ℕ) (n : ℕ) (o : Option (List ℕ)) → option_map (λ ns. front ++ ns) (option_map (λ ns. n ∷ ns) o) ≡ option_map (λ ns. (front ++ n ∷ []) ++ ns) o
onto front n None = refl
onto front n (Some ns) = ap Some (sym (append_assoc front (n ∷ []) ns))

seven_field : (i : ℕ) (items rest field : List ℕ) (done : Bool) (after : List ℕ) → i < 7 → Next (6 - i) rest field done after
    → seven i items false rest ≡ option_map (λ ns. take i items ++ ns) (option_and_then (λ n. option_map (λ ns. n ∷ ns) (left (6 - i) done after)) (euros field))
unfolding seven
seven_field i items rest field done after short next =
    let e : 7 - i ≡ suc (6 - i) = omega arith in
    ap (λ k. option_map (λ ns. take i items ++ ns) (left k false rest)) e ∙ ap (option_map (λ ns. take i items ++ ns)) (left_field (6 - i) rest field done after next)

seven_next : (i : ℕ) (items : List ℕ) (was : Bool) (rest field : List ℕ) (done : Bool) (after : List ℕ) (o : Option ℕ) → i < 7 → was ≡ false → Next (6 - i) rest field done after → o ≡ euros field
    → seven i items was rest ≡ option_map (λ ns. take i items ++ ns) (option_and_then (λ n. option_map (λ ns. n ∷ ns) (left (6 - i) done after)) o)
seven_next i items was rest field done after o short on next read =
    ap (λ d. seven i items d rest) on ∙ seven_field i items rest field done after short next
    ∙ ap (λ o. option_map (λ ns. take i items ++ ns) (option_and_then (λ n. option_map (λ ns. n ∷ ns) (left (6 - i) done after)) o)) (sym read)

-- one field more
pub seven_more : (i : ℕ) (items : List ℕ) (was : Bool) (rest field : List ℕ) (done : Bool) (after : List ℕ) (n : ℕ) → i < 7 → length items ≡ 7 → was ≡ false → Next (6 - i) rest field done after → Some n ≡ euros field
    → seven (i + 1) (set items i n) done after ≡ seven i items was rest
unfolding seven
seven_more i items was rest field done after n short long on next read =
    let e : 7 - (i + 1) ≡ 6 - i = omega arith in
    ap (λ k. option_map (λ ns. take (i + 1) (set items i n) ++ ns) (left k done after)) e
    ∙ sym (seven_next i items was rest field done after (Some n) short on next read
    ∙ onto (take i items) n (left (6 - i) done after) ∙ ap (λ l. option_map (λ ns. l ++ ns) (left (6 - i) done after)) (sym (take_more_set items i n (omega arith))))

-- a field that is no amount
pub seven_bad : (i : ℕ) (items : List ℕ) (was : Bool) (rest field : List ℕ) (done : Bool) (after : List ℕ) → i < 7 → was ≡ false → Next (6 - i) rest field done after → None ≡ euros field → seven i items was rest ≡ None
seven_bad i items was rest field done after short on next read = seven_next i items was rest field done after None short on next read

-- too few fields
pub seven_ended : (i : ℕ) (items rest : List ℕ) → i < 7 → seven i items true rest ≡ None
unfolding seven
seven_ended i items rest short =
    let e : 7 - i ≡ suc (6 - i) = omega arith in
    ap (λ k. option_map (λ ns. take i items ++ ns) (left k true rest)) e

-- all seven
pub seven_done : (i : ℕ) (items rest : List ℕ) → 7 ≤ i → length items ≡ 7 → seven i items true rest ≡ Some items
unfolding seven
seven_done i items rest all long =
    let e : 7 - i ≡ 0 = omega arith in
    ap (λ k. option_map (λ ns. take i items ++ ns) (left k true rest)) e ∙ ap Some (append-nil (take i items) ∙ take_all i items (omega arith))
