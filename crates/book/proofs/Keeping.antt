-- Edits keep lines sound. Assumes nothing.
use Rattle.std.proofs.Common.{◌≡◌, ℕ, ◌+◌, ◌-◌, ◌<◌, ◌≤◌, Bool, true, false, List, [], ◌∷◌, ◌++◌, map, length, take, drop, replicate, filter, sym, refl, ap, ◌∙◌, ⊎_elim, arith, rules}
use Rattle.std.proofs.lemmas.List.{length-append, length-drop, length-replicate, length-take, map-id, take-append-drop}
use Rattle.std.proofs.lemmas.Bool.{cases_Bool}
use Rattle.book.specs.Edits.{is_unfilled, Leaves, less_fills, posted}
use Rattle.book.specs.Laws.{EntrySound, PostingSound, RemovalSound}
use Rattle.book.specs.Orders.{free}
use Rattle.book.specs.Sounds.{in_range, is_sound, may_follow, standing}
use Rattle.book.specs.declared.fill.Fill.{Fill}
use Rattle.book.specs.declared.order.Order.{Order}
use Rattle.book.proofs.Standing.{follow_parts, standing_parts}

-- ---- may_follow and standing, put together
follow_from : (last next : ℕ) (x : Order) → last < x.number → x.number < next → in_range x ≡ true → may_follow last next x ≡ true
follow_from last next x above below range = search rules

follow_range : (last next : ℕ) (x : Order) → may_follow last next x ≡ true → in_range x ≡ true
follow_range last next x h = search rules

standing_nil : (last next : ℕ) → standing last next [] ≡ true
unfolding standing
standing_nil last next = refl

standing_cons : (last next : ℕ) (x : Order) (xs : List Order) → may_follow last next x ≡ true → standing x.number next xs ≡ true → standing last next (x ∷ xs) ≡ true
unfolding standing
standing_cons last next x xs h k = search rules

standing_lower : (low last next : ℕ) (xs : List Order) → low ≤ last → standing last next xs ≡ true → standing low next xs ≡ true
standing_lower low last next [] le h = standing_nil low next
standing_lower low last next (x ∷ xs) le h =
    let parts = standing_parts last next x xs h in
    let f = follow_parts last next x parts.0 in
    standing_cons low next x xs (follow_from low next x (omega (arith, f.0)) f.1 (follow_range last next x parts.0)) parts.1

-- orders that keep their numbers, of which those that pass a test are in range
standing_changed : (p : Order → Bool) (f : Order → Order) → ((x : Order) → (f x).number ≡ x.number) → ((x : Order) → in_range x ≡ true → p (f x) ≡ true → in_range (f x) ≡ true) → (last next : ℕ) (xs : List Order) → standing last next xs ≡ true → standing last next (filter p (map f xs)) ≡ true
standing_changed p f number range last next [] h = standing_nil last next
standing_changed p f number range last next (x ∷ xs) h =
    let parts = standing_parts last next x xs h in
    let at = follow_parts last next x parts.0 in
    let rest = standing_changed p f number range x.number next xs parts.1 in
    ⊎_elim
    (λ (yes : p (f x) ≡ true).
    rw yes (standing_cons last next (f x) (filter p (map f xs)) (follow_from last next (f x) (omega (arith, at.0, number x)) (omega (arith, at.1, number x)) (range x (follow_range last next x parts.0) yes)) (rw (number x) rest)))
    (λ (gone : p (f x) ≡ false). rw gone (standing_lower last x.number next (filter p (map f xs)) (omega (arith, at.0)) rest))
    (cases_Bool (p (f x)))

standing_push : (last next : ℕ) (x : Order) (xs : List Order) → standing last next xs ≡ true → last < next → x.number ≡ next → in_range x ≡ true → standing last (next + 1) (xs ++ (x ∷ [])) ≡ true
standing_push last next x [] h lt number range = standing_cons last (next + 1) x [] (follow_from last (next + 1) x (omega arith) (omega arith) range) (standing_nil x.number (next + 1))
standing_push last next x (y ∷ ys) h lt number range =
    let parts = standing_parts last next y ys h in
    let at = follow_parts last next y parts.0 in
    standing_cons last (next + 1) y (ys ++ (x ∷ [])) (follow_from last (next + 1) y at.0 (omega (arith, at.1)) (follow_range last next y parts.0)) (standing_push y.number next x ys parts.1 at.1 number range)

-- ---- sound lines
sound_parts : (used next : ℕ) (lines : List Order) → is_sound used next lines ≡ true → (length lines ≤ 1024) × (used ≤ length lines) × (standing 0 next (take used lines) ≡ true)
sound_parts used next lines h = search rules

sound_from : (used next : ℕ) (lines : List Order) → length lines ≤ 1024 → used ≤ length lines → standing 0 next (take used lines) ≡ true → is_sound used next lines ≡ true
sound_from used next lines few fits h = search rules

-- an edit leaves as many places
leaves_length : (used count : ℕ) (entry stay exit : List Order) → Leaves free used entry stay count exit → length exit ≡ length stay + (length (take used entry) - count) + length (drop used entry)
leaves_length used count entry stay exit h =
    sym (ap length (take-append-drop count exit)) ∙ length-append (take count exit) (drop count exit)
    ∙ omega (arith, ap length h.stands, ap length h.freed, length-append (replicate (length (take used entry) - count) free) (drop used entry), length-replicate (length (take used entry) - count) free)

leaves_sound : (used next count : ℕ) (entry stay exit : List Order) → is_sound used next entry ≡ true → Leaves free used entry stay count exit → standing 0 next stay ≡ true → is_sound count next exit ≡ true
leaves_sound used next count entry stay exit sound h stands =
    let parts = sound_parts used next entry sound in
    let long = leaves_length used count entry stay exit h in
    let within = h.within in
    let is = h.count_is in
    let same : length exit ≡ length entry = omega (arith, long, length-take used entry, length-drop used entry, parts.1) in
    sound_from count next exit (omega (arith, parts.0)) (omega (arith, parts.1)) (ap (standing 0 next) h.stands ∙ stands)

-- ---- the laws
pub removal_sound : RemovalSound
removal_sound p used next count entry exit sound h =
    let stay = standing_changed p (λ x. x) (λ x. refl) (λ x range _. range) 0 next (take used entry) (sound_parts used next entry sound).2 in
    leaves_sound used next count entry (filter p (take used entry)) exit sound h (ap (λ xs. standing 0 next (filter p xs)) (sym (map-id (take used entry))) ∙ stay)

less_range : (fills : List Fill) (x : Order) → in_range x ≡ true → is_unfilled (less_fills fills x) ≡ true → in_range (less_fills fills x) ≡ true
unfolding in_range
less_range fills x h some = search rules

pub posting_sound : PostingSound
posting_sound fills used next count entry exit sound h =
    leaves_sound used next count entry (posted fills (take used entry)) exit sound h
    (standing_changed is_unfilled (less_fills fills) (λ x. refl) (less_range fills) 0 next (take used entry) (sound_parts used next entry sound).2)

pub entry_sound : EntrySound
entry_sound order used next entry exit sound room some number range h =
    let parts = sound_parts used next entry sound in
    let n : ℕ = used + 1 in
    let long : length exit ≡ length (take n exit) + length (drop n exit) = sym (ap length (take-append-drop n exit)) ∙ length-append (take n exit) (drop n exit) in
    let front : length (take n exit) ≡ n = ap length h.0 ∙ length-append (take used entry) (order ∷ []) ∙ omega (arith, length-take used entry) in
    let back : length (drop n exit) ≡ length entry - n = ap length h.1 ∙ length-drop n entry in
    sound_from n (next + 1) exit (omega (arith, parts.0)) (omega arith)
    (ap (standing 0 (next + 1)) h.0 ∙ standing_push 0 next order (take used entry) parts.2 some number range)
