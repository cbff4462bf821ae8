-- The reader of amounts and what a text says. Assumes nothing.
use Rattle.std.proofs.Common.{◌≡◌, ℕ, ◌+◌, ◌-◌, ◌*◌, ◌^◌, ◌<◌, ◌≤◌, true, List, [], ◌∷◌, ◌++◌, length, IfSome, Some, None, Option, sym, refl, ap, ◌∙◌, subst, arith, MatchOption}
use Rattle.std.specs.Option.{option_map, option_and_then}
use Rattle.std.specs.Str.Iter.{LacksByte}
use Rattle.std.specs.Str.Parse.{digits_value}
use Rattle.std.specs.Str.{all_ascii_digits}
use Rattle.std.proofs.lemmas.List.{append-nil}
use Rattle.std.proofs.lemmas.Str.Parse.{not_in_digits}
use Rattle.text.specs.Euros.{digits, euros, euros_of, pointed, InEuros}
use Rattle.text.specs.Splits.{split_once}
use Rattle.text.proofs.Numbers.{Written, own, digits_read, digits_say}
use Rattle.text.proofs.Splitting.{Parts, lacks_more, lacks_append, split_at, split_none, split_parts}

-- there is no byte above nine among decimals and their point
pointed_lacks : (mark : ℕ) (ds : List ℕ) → 57 < mark → all_ascii_digits ds ≡ true → LacksByte mark (pointed ds)
pointed_lacks mark [] later all = λ i none e. omega arith
pointed_lacks mark (d ∷ ds) later all = lacks_more mark 46 (d ∷ ds) (λ e. omega arith) (not_in_digits own (d ∷ ds) mark all (λ digit. omega arith))

-- nor in an amount
pub said_lacks : (mark : ℕ) (text : List ℕ) (n : ℕ) → 57 < mark → InEuros text n → LacksByte mark text
said_lacks mark text n later says =
    let whole = not_in_digits own says.whole mark says.whole_digits (λ digit. omega arith) in
    let decimals = pointed_lacks mark says.decimals later says.decimal_digits in
    subst (LacksByte mark) (sym says.is) (lacks_append mark says.whole (pointed says.decimals) whole decimals)

worth_read : (whole decimals : List ℕ) → digits 6 whole ≡ Some (digits_value 10 whole) → LacksByte 46 whole → all_ascii_digits decimals ≡ true → length decimals ≤ 4 → euros (whole ++ pointed decimals) ≡ Some (digits_value 10 whole * 10000 + digits_value 10 decimals * 10 ^ (4 - length decimals))
worth_read whole [] euro lacks all few =
    let worth : digits_value 10 whole * 10000 ≡ digits_value 10 whole * 10000 + 0 * 10 ^ 4 = omega arith in
    ap euros (append-nil whole) ∙ ap (euros_of whole) (split_none 46 whole lacks) ∙ ap (option_map (λ n. n * 10000)) euro ∙ ap Some worth
worth_read whole (d ∷ ds) euro lacks all few =
    ap (euros_of (whole ++ 46 ∷ d ∷ ds)) (split_at 46 whole (d ∷ ds) lacks)
    ∙ ap (option_and_then (λ n. option_map (λ m. n * 10000 + m * 10 ^ (4 - length (d ∷ ds))) (digits 4 (d ∷ ds)))) euro
    ∙ ap (option_map (λ m. digits_value 10 whole * 10000 + m * 10 ^ (4 - length (d ∷ ds)))) (digits_read 4 (d ∷ ds) (omega arith) few all)

-- a text that says an amount is read
pub said_is_read : (text : List ℕ) (n : ℕ) → InEuros text n → euros text ≡ Some n
said_is_read text n says =
    let euro = digits_read 6 says.whole says.whole_some says.whole_few says.whole_digits in
    let lacks = not_in_digits own says.whole 46 says.whole_digits (λ digit. omega arith) in
    ap euros says.is ∙ worth_read says.whole says.decimals euro lacks says.decimal_digits says.decimals_few ∙ ap Some (sym says.worth)

whole_says : (text : List ℕ) (o : Option ℕ) → IfSome o (Written 6 text) → IfSome (option_map (λ n. n * 10000) o) (InEuros text)
whole_says text None w = tt
whole_says text (Some n) w =
    record {
      whole = text;
      decimals = [];
      is = sym (append-nil text);
      whole_digits = w.all;
      whole_some = w.some;
      whole_few = w.few;
      decimal_digits = refl;
      decimals_few = omega arith;
      worth = omega (arith, w.is);
    }

-- some decimals stand after a point
after_point : (ds : List ℕ) → 1 ≤ length ds → 46 ∷ ds ≡ pointed ds
after_point [] some = absurd (omega arith)
after_point (d ∷ ds) some = refl

parts_say : (text whole decimals : List ℕ) (o p : Option ℕ) → text ≡ whole ++ 46 ∷ decimals → IfSome o (Written 6 whole) → IfSome p (Written 4 decimals) → IfSome (option_and_then (λ n. option_map (λ m. n * 10000 + m * 10 ^ (4 - length decimals)) p) o) (InEuros text)
parts_say text whole decimals None p cut w d = tt
parts_say text whole decimals (Some n) None cut w d = tt
parts_say text whole decimals (Some n) (Some m) cut w d =
    record {
      whole = whole;
      decimals = decimals;
      is = cut ∙ ap (λ l. whole ++ l) (after_point decimals d.some);
      whole_digits = w.all;
      whole_some = w.some;
      whole_few = w.few;
      decimal_digits = d.all;
      decimals_few = d.few;
      worth = λ j. w.is j * 10000 + d.is j * 10 ^ (4 - length decimals);
    }

read_at : (text : List ℕ) (o : Option (List ℕ × List ℕ)) → Parts 46 text o → IfSome (euros_of text o) (InEuros text)
read_at text None cut = whole_says text (digits 6 text) (digits_say 6 text)
read_at text (Some p) cut = parts_say text p.0 p.1 (digits 6 p.0) (digits 4 p.1) cut (digits_say 6 p.0) (digits_say 4 p.1)

-- what is read is what the text says
pub read_is_said : (text : List ℕ) → IfSome (euros text) (InEuros text)
read_is_said text = read_at text (split_once 46 text) (split_parts 46 text)

pub amount_said : (text : List ℕ) (n : ℕ) → Some n ≡ euros text → InEuros text n
amount_said text n e = subst (λ o. IfSome o (InEuros text)) (sym e) (read_is_said text)

-- both ways
pub amount_reads : (text : List ℕ) (r : Option ℕ) → r ≡ euros text → MatchOption r ((n : ℕ) → InEuros text n → ⊥) (InEuros text)
amount_reads text None e = λ n says. let z : ◌≡◌ {A = ℕ} 0 1 = cc (e, said_is_read text n says) in omega arith
amount_reads text (Some n) e = amount_said text n e
