-- The reader of rows and what a line says. Assumes nothing.
use Rattle.std.proofs.Common.{◌≡◌, ℕ, zero, suc, ◌<◌, List, [], ◌∷◌, ◌++◌, length, IfSome, Some, None, Option, sym, refl, ap, ◌∙◌, subst, arith, slice_index_or, MatchOption}
use Rattle.std.specs.Option.{option_map, option_and_then}
use Rattle.std.specs.List.{join_with_byte}
use Rattle.text.specs.Euros.{euros, InEuros}
use Rattle.text.specs.Splits.{split_once}
use Rattle.text.proofs.Amounts.{said_is_read, said_lacks, read_is_said}
use Rattle.text.proofs.Splitting.{Parts, split_at, split_parts}
use Rattle.annex.specs.Rows.{amount, amounts, row_from, read_row, EachSays, SaysRow}
use Rattle.annex.specs.declared.row.Row.{Row}

-- an amount before a semicolon is read
amount_read : (text rest : List ℕ) (n : ℕ) → InEuros text n → amount (text ++ 59 ∷ rest) ≡ Some (n, rest)
amount_read text rest n says =
    ap (option_and_then (λ p. option_map (λ m. (m, p.1)) (euros p.0))) (split_at 59 text rest (said_lacks 59 text n (omega arith) says))
    ∙ ap (option_map (λ m. (m, rest))) (said_is_read text n says)

-- texts that say amounts are read
texts_read : (text : List ℕ) (texts : List (List ℕ)) (ns : List ℕ) → EachSays (text ∷ texts) ns → amounts (length texts) (join_with_byte 59 (text ∷ texts)) ≡ Some ns
texts_read text [] [] says = absurd says
texts_read text [] (n ∷ []) says = ap (option_map (λ m. m ∷ [])) (said_is_read text n says.0)
texts_read text [] (n ∷ m ∷ ns) says = absurd says.1
texts_read text (next ∷ texts) [] says = absurd says
texts_read text (next ∷ texts) (n ∷ ns) says =
    ap (option_and_then (λ p. option_map (λ ms. p.0 ∷ ms) (amounts (length texts) p.1))) (amount_read text (join_with_byte 59 (next ∷ texts)) n says.0)
    ∙ ap (option_map (λ ms. n ∷ ms)) (texts_read next texts ns says.1)

row_read : (texts : List (List ℕ)) (row : Row) → length texts ≡ 7 → EachSays texts (row.start ∷ row.steps) → read_row (join_with_byte 59 texts) ≡ Some row
row_read [] row seven says = absurd (omega arith)
row_read (text ∷ texts) row seven says =
    let six : 6 ≡ length texts = omega arith in
    ap (λ k. option_and_then row_from (amounts k (join_with_byte 59 (text ∷ texts)))) six ∙ ap (option_and_then row_from) (texts_read text texts (row.start ∷ row.steps) says)

-- what is read, if anything, is an amount, a semicolon and the rest
abbrev Ahead : List ℕ → Option (ℕ × List ℕ) → Type 0
Ahead text o = IfSome o (λ p. (field : List ℕ) × (text ≡ field ++ 59 ∷ p.1) × InEuros field p.0)

ahead_of : (text : List ℕ) (field rest : List ℕ) (o : Option ℕ) → text ≡ field ++ 59 ∷ rest → IfSome o (InEuros field) → Ahead text (option_map (λ n. (n, rest)) o)
ahead_of text field rest None cut says = tt
ahead_of text field rest (Some n) cut says = (field, cut, says)

ahead_at : (text : List ℕ) (o : Option (List ℕ × List ℕ)) → Parts 59 text o → Ahead text (option_and_then (λ p. option_map (λ n. (n, p.1)) (euros p.0)) o)
ahead_at text None cut = tt
ahead_at text (Some p) cut = ahead_of text p.0 p.1 (euros p.0) cut (read_is_said p.0)

-- texts with a semicolon between each two, one more than `more`, that say the amounts
record Fields (more : ℕ) (line : List ℕ) (ns : List ℕ) : Type 0 where
  texts : List (List ℕ)
  count : length texts ≡ suc more
  is : line ≡ join_with_byte 59 texts
  says : EachSays texts ns

abbrev Told : ℕ → List ℕ → Option (List ℕ) → Type 0
Told more line o = IfSome o (Fields more line)

last_told : (text : List ℕ) (o : Option ℕ) → IfSome o (InEuros text) → Told 0 text (option_map (λ n. n ∷ []) o)
last_told text None says = tt
last_told text (Some n) says = record { texts = text ∷ []; count = refl; is = refl; says = (says, tt) }

rejoin : (field : List ℕ) (texts : List (List ℕ)) → 0 < length texts → field ++ 59 ∷ join_with_byte 59 texts ≡ join_with_byte 59 (field ∷ texts)
rejoin field [] some = absurd (omega arith)
rejoin field (text ∷ texts) some = refl

one_more : (more n : ℕ) (line field rest : List ℕ) (o : Option (List ℕ)) → line ≡ field ++ 59 ∷ rest → InEuros field n → Told more rest o → Told (suc more) line (option_map (λ ns. n ∷ ns) o)
one_more more n line field rest None cut says told = tt
one_more more n line field rest (Some ns) cut says told =
    record {
      texts = field ∷ told.texts;
      count = ap suc told.count;
      is = cut ∙ ap (λ l. field ++ 59 ∷ l) told.is ∙ rejoin field told.texts (omega (arith, told.count));
      says = (says, told.says);
    }

more_told : (more : ℕ) (line : List ℕ) (o : Option (ℕ × List ℕ)) → Ahead line o → ((rest : List ℕ) → Told more rest (amounts more rest)) → Told (suc more) line (option_and_then (λ p. option_map (λ ns. p.0 ∷ ns) (amounts more p.1)) o)
more_told more line None ahead rest = tt
more_told more line (Some p) ahead rest = one_more more p.0 line ahead.0 p.1 (amounts more p.1) ahead.1 ahead.2 (rest p.1)

-- amounts that are read are what the line says
told : (more : ℕ) (line : List ℕ) → Told more line (amounts more line)
told zero line = last_told line (euros line) (read_is_said line)
told (suc more) line = more_told more line (amount line) (ahead_at line (split_once 59 line) (split_parts 59 line)) (told more)

row_told : (line : List ℕ) (o : Option (List ℕ)) → Told 6 line o → IfSome (option_and_then row_from o) (SaysRow line)
row_told line None fields = tt
row_told line (Some []) fields = tt
row_told line (Some (n ∷ ns)) fields = record { texts = fields.texts; seven = fields.count; is = fields.is; says = fields.says }

-- a row that is read is what the line says
row_said : (line : List ℕ) (row : Row) → Some row ≡ read_row line → SaysRow line row
row_said line row e = subst (λ o. IfSome o (SaysRow line)) (sym e) (row_told line (amounts 6 line) (told 6 line))

-- both ways
pub row_reads : (line : List ℕ) (r : Option Row) → r ≡ read_row line → MatchOption r ((row : Row) → SaysRow line row → ⊥) (SaysRow line)
row_reads line None e = λ row says.
    let whole : read_row line ≡ Some row = ap read_row says.is ∙ row_read says.texts row says.seven says.says in
    let z : ◌≡◌ {A = ℕ} 0 1 = cc in
    omega arith
row_reads line (Some row) e = row_said line row e

-- a list of seven, number by number
spelled : (ns : List ℕ) → length ns ≡ 7
    → ns ≡ slice_index_or ns 0 0 ∷ slice_index_or ns 1 0 ∷ slice_index_or ns 2 0 ∷ slice_index_or ns 3 0 ∷ slice_index_or ns 4 0 ∷ slice_index_or ns 5 0 ∷ slice_index_or ns 6 0 ∷ []
spelled [] long = absurd (omega arith)
spelled (a ∷ []) long = absurd (omega arith)
spelled (a ∷ b ∷ []) long = absurd (omega arith)
spelled (a ∷ b ∷ c ∷ []) long = absurd (omega arith)
spelled (a ∷ b ∷ c ∷ d ∷ []) long = absurd (omega arith)
spelled (a ∷ b ∷ c ∷ d ∷ e ∷ []) long = absurd (omega arith)
spelled (a ∷ b ∷ c ∷ d ∷ e ∷ f ∷ []) long = absurd (omega arith)
spelled (a ∷ b ∷ c ∷ d ∷ e ∷ f ∷ g ∷ []) long = refl
spelled (a ∷ b ∷ c ∷ d ∷ e ∷ f ∷ g ∷ h ∷ ns) long = absurd (omega arith)

-- a row of seven amounts that are read is what the line says
pub row_of_seven : (line ns : List ℕ) → Some ns ≡ amounts 6 line → length ns ≡ 7
    → SaysRow line (record { start = slice_index_or ns 0 0; steps = slice_index_or ns 1 0 ∷ slice_index_or ns 2 0 ∷ slice_index_or ns 3 0 ∷ slice_index_or ns 4 0 ∷ slice_index_or ns 5 0 ∷ slice_index_or ns 6 0 ∷ [] })
row_of_seven line ns read long = row_said line _ (ap (option_and_then row_from) (ap Some (sym (spelled ns long)) ∙ read))
