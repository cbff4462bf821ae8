-- What a period's sums come to, and its Reference Price. Assumes nothing.
use Rattle.std.proofs.Common.{◌≡◌, ℕ, ◌+◌, ◌<◌, true, false, cond, eqb, List, [], ◌∷◌, ◌++◌, Some, None, refl, ap, ◌∙◌, arith}
use Rattle.std.specs.List.{All}
use Rattle.std.proofs.lemmas.List.Elements.{All-head, All-tail, All-pop}
use Rattle.std.proofs.lemmas.Bool.{cond-false, ne_eqb, or_parts, true≢false, false≢true}
use Rattle.terms.specs.Trades.{turnover_of}
use Rattle.sheet.specs.declared.gate.Gate.{Gate}
use Rattle.sheet.specs.declared.gate.Gate.TheVariants.{One, Two, Three}
use Rattle.sheet.specs.declared.thresholds.Terms.{Terms}
use Rattle.sheet.specs.declared.sheet.Sheet.{Sheet}
use Rattle.sheet.specs.declared.event.Event.{Event}
use Rattle.sheet.specs.declared.event.Event.TheVariants.{Opening, TimeEnd, IntermediateClose, Posting}
use Rattle.sheet.specs.Sheets.{average, next_in, next, after}
use Rattle.sheet.specs.Periods.{ends, ends_in, shares_in, traded, Priced}
use Rattle.sheet.specs.Laws.{AverageBetween, EmptyKeeps}
use Rattle.sheet.proofs.Averages.{Bounded, trade_bounded, average_between}

-- the turnover that an event brings
abbrev turnover_in : Event → ℕ
turnover_in (Opening date) = 0
turnover_in (TimeEnd date) = 0
turnover_in IntermediateClose = 0
turnover_in (Posting trade) = turnover_of trade

-- an event that leaves the period running adds to its sums
record Adds (e : Event) (s t : Sheet) : Type 0 where
  volume : t.volume ≡ s.volume + shares_in e
  turnover : t.turnover ≡ s.turnover + turnover_in e
  reference : t.reference ≡ s.reference

close_adds : (gate : Gate) (terms : Terms) (s : Sheet) → Adds IntermediateClose s (next_in gate IntermediateClose terms s)
close_adds One terms s = record { volume = omega arith; turnover = omega arith; reference = refl }
close_adds Two terms s = record { volume = omega arith; turnover = omega arith; reference = refl }
close_adds Three terms s = record { volume = omega arith; turnover = omega arith; reference = refl }

adds : (terms : Terms) (s : Sheet) (e : Event) → ends terms s e ≡ false → Adds e s (next terms s e)
adds terms s (Opening date) h = record { volume = omega arith; turnover = omega arith; reference = refl }
adds terms s (TimeEnd date) h = absurd (true≢false h)
adds terms s IntermediateClose h = close_adds s.gate terms s
adds terms s (Posting trade) h = rw h (record { volume = refl; turnover = refl; reference = refl })

-- one that ends it takes the average of the sums
averages : (terms : Terms) (s : Sheet) (e : Event) → ends terms s e ≡ true → (next terms s e).reference ≡ cond (eqb (s.volume + shares_in e) 0) s.reference (average (s.turnover + turnover_in e) (s.volume + shares_in e))
averages terms s (Opening date) h = absurd (false≢true h)
averages terms s (TimeEnd date) h =
    let v : s.volume ≡ s.volume + 0 = omega arith in
    let t : s.turnover ≡ s.turnover + 0 = omega arith in
    λ i. cond (eqb (v i) 0) s.reference (average (t i) (v i))
averages terms s IntermediateClose h = absurd (false≢true h)
averages terms s (Posting trade) h = rw h

event_bounded : (low high volume turnover : ℕ) (e : Event) → Priced low high e → Bounded low high volume turnover → Bounded low high (volume + shares_in e) (turnover + turnover_in e)
event_bounded low high volume turnover (Opening date) priced b = trade_bounded low high volume turnover None tt b
event_bounded low high volume turnover (TimeEnd date) priced b = trade_bounded low high volume turnover None tt b
event_bounded low high volume turnover IntermediateClose priced b = trade_bounded low high volume turnover None tt b
event_bounded low high volume turnover (Posting trade) priced b = trade_bounded low high volume turnover trade priced b

-- the whole run
record Run (s t : Sheet) (shares : ℕ) : Type 0 where
  volume : t.volume ≡ s.volume + shares
  reference : t.reference ≡ s.reference

run : (terms : Terms) (s : Sheet) (es : List Event) → ends_in terms s es ≡ false → Run s (after terms s es) (traded es)
run terms s [] h = record { volume = omega arith; reference = refl }
run terms s (e ∷ es) h =
    let parts = or_parts (ends terms s e) (ends_in terms (next terms s e) es) h in
    let one = adds terms s e parts.0 in
    let more = run terms (next terms s e) es parts.1 in
    record { volume = omega (arith, one.volume, more.volume); reference = more.reference ∙ one.reference }

run_bounded : (terms : Terms) (s : Sheet) (es : List Event) (low high : ℕ) → ends_in terms s es ≡ false → All (Priced low high) es → Bounded low high s.volume s.turnover → Bounded low high (after terms s es).volume (after terms s es).turnover
run_bounded terms s [] low high h priced b = b
run_bounded terms s (e ∷ es) low high h priced b =
    let parts = or_parts (ends terms s e) (ends_in terms (next terms s e) es) h in
    let one = adds terms s e parts.0 in
    let all = event_bounded low high s.volume s.turnover e (All-head (Priced low high) e es priced) b in
    run_bounded terms (next terms s e) es low high parts.1 (All-tail (Priced low high) e es priced) (rw (one.volume, one.turnover) all)

-- an event more
pub after_last : (terms : Terms) (s : Sheet) (es : List Event) (last : Event) → after terms s (es ++ last ∷ []) ≡ next terms (after terms s es) last
after_last terms s [] last = refl
after_last terms s (e ∷ es) last = after_last terms (next terms s e) es last

traded_last : (es : List Event) (last : Event) → traded (es ++ last ∷ []) ≡ traded es + shares_in last
traded_last [] last = omega arith
traded_last (e ∷ es) last = let more = traded_last es last in omega arith

pub average_of_period : AverageBetween
average_of_period terms s es last low high period priced some =
    let t = after terms s es in
    let ran = run terms s es period.running in
    let prices = All-pop (Priced low high) (es ++ last ∷ []) es (Some last) refl priced in
    let start : Bounded low high s.volume s.turnover = rw (period.no_shares, period.no_turnover) (record { least = omega arith; most = omega arith }) in
    let b = event_bounded low high t.volume t.turnover last prices.1 (run_bounded terms s es low high period.running prices.0 start) in
    let shares : 0 < (after terms s es).volume + shares_in last = omega (arith, traded_last es last, ran.volume) in
    let is = ap (λ (u : Sheet). u.reference) (after_last terms s es last) ∙ averages terms t last period.over ∙ cond-false (eqb (t.volume + shares_in last) 0) t.reference (average (t.turnover + turnover_in last) (t.volume + shares_in last)) (ne_eqb (t.volume + shares_in last) 0 (λ e. omega arith)) in
    let between = average_between low high (t.turnover + turnover_in last) (t.volume + shares_in last) shares b.least b.most in
    (rw is between.least, rw is between.most)

pub empty_keeps : EmptyKeeps
empty_keeps terms s es last period none =
    let t = after terms s es in
    let ran = run terms s es period.running in
    let no_shares : (after terms s es).volume + shares_in last ≡ 0 = omega (arith, traded_last es last, ran.volume, period.no_shares) in
    rw (after_last terms s es last, averages terms t last period.over, no_shares, ran.reference)
