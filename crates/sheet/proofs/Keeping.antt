-- Every event keeps what is true of a sheet. Assumes nothing.
use Rattle.std.proofs.Common.{◌≡◌, ℕ, ◌+◌, ◌*◌, ◌<◌, ◌≤◌, Bool, true, false, cond, ◌&&◌, ◌||◌, eqb, ◌⊎◌, is_some, Some, None, Option, sym, refl, ap, ◌∙◌, inl, inr, mul-le-mul_right, arith}
use Rattle.std.proofs.lemmas.Bool.{cond_both, leb-false, lt-leb, eqb-false, and_parts, and_from, eqb-true, true≢false, false≢true}
use Rattle.std.proofs.lemmas.Bool.Decides.{nat_tests}
use Rattle.terms.specs.declared.date.Date.{Date}
use Rattle.terms.specs.declared.trade.Trade.{Trade}
use Rattle.terms.specs.Prices.{within, within_ends, is_price, IsPrice}
use Rattle.terms.specs.Trades.{shares_of, turnover_of}
use Rattle.sheet.specs.declared.float.Float.{Float}
use Rattle.sheet.specs.declared.float.Float.TheVariants.{AboveQuarter, AtMostQuarter, AtMostTenth}
use Rattle.sheet.specs.declared.gate.Gate.{Gate}
use Rattle.sheet.specs.declared.gate.Gate.TheVariants.{One, Two, Three}
use Rattle.sheet.specs.declared.thresholds.Terms.{Terms}
use Rattle.sheet.specs.declared.sheet.Sheet.{Sheet}
use Rattle.sheet.specs.declared.event.Event.{Event}
use Rattle.sheet.specs.declared.event.Event.TheVariants.{Opening, TimeEnd, IntermediateClose, Posting}
use Rattle.sheet.specs.Thresholds.{eased, reference_in, minimum_in, reached}
use Rattle.sheet.specs.Sheets.{average, averaged, earned, grade_after, ended, closed, added, is_over, settled, next_in, next}
use Rattle.sheet.specs.declared.founding.FoundingSheet.{FoundingSheet}
use Rattle.sheet.specs.Foundings.{terms_in_range, sheet_in_range, terms_of, founded}
use Rattle.sheet.specs.Laws.{AtMost28}
use Rattle.sheet.specs.Sounds.{is_choice, fits, sums, widened_from, limits, begins, is_sound, Due}
use Rattle.sheet.proofs.Averages.{average_between, trade_bounded, trade_priced}

-- what the test says, as facts
pub record Fit (terms : Terms) : Type 0 where
  pub choice : is_choice terms.choice ≡ true
  pub some : 1 ≤ terms.circulation
  pub most : terms.circulation ≤ 1000000000

pub record Sums (ends : Bool) (volume turnover recent reference : ℕ) : Type 0 where
  pub running : ends ≡ false
  pub cheapest : volume ≤ turnover
  pub dearest : turnover ≤ 1000000000 * volume
  pub part : recent ≤ volume
  pub price : IsPrice reference

pub record Sound (terms : Terms) (s : Sheet) : Type 0 where
  pub fits : fits terms ≡ true
  pub sums : Sums (is_over terms s) s.volume s.turnover s.recent s.reference
  pub limits : limits s.gate s.limit s.intermediate ≡ true
  pub begins : begins s.start s.intermediate ≡ true

fit : (terms : Terms) → fits terms ≡ true → Fit terms
fit terms h = record { choice = grind (arith, nat_tests); some = grind (arith, nat_tests); most = grind (arith, nat_tests) }

facts : (terms : Terms) (s : Sheet) → is_sound terms s ≡ true → Sound terms s
unfolding is_sound
facts terms s h =
    let parts = and_parts (fits terms && sums terms s && limits s.gate s.limit s.intermediate) (begins s.start s.intermediate) h in
    record {
      fits = grind (arith, nat_tests);
      sums = record {
        running = grind (arith, nat_tests);
        cheapest = grind (arith, nat_tests);
        dearest = grind (arith, nat_tests);
        part = grind (arith, nat_tests);
        price = (grind (arith, nat_tests), grind (arith, nat_tests));
      };
      limits = (and_parts (fits terms && sums terms s) (limits s.gate s.limit s.intermediate) parts.0).1;
      begins = parts.1;
    }

tested : (terms : Terms) (s : Sheet) → Sound terms s → is_sound terms s ≡ true
unfolding is_sound
tested terms s sound = grind (arith, nat_tests)

-- reference thresholds, whatever the gate
pub record Threshold (t : ℕ) : Type 0 where
  pub some : 1 ≤ t
  pub most : t ≤ 3000

eased_threshold : (float : Float) → Threshold (eased float 1000)
eased_threshold AboveQuarter = record { some = omega arith; most = omega arith }
eased_threshold AtMostQuarter = record { some = omega arith; most = omega arith }
eased_threshold AtMostTenth = record { some = omega arith; most = omega arith }

threshold : (terms : Terms) (gate : Gate) → Fit terms → Threshold (reference_in gate terms)
threshold terms One fit = eased_threshold terms.float
threshold terms Two fit =
    let choice = fit.choice in
    record { some = grind (arith, nat_tests); most = grind (arith, nat_tests) }
threshold terms Three fit = record { some = omega arith; most = omega arith }

-- shares that have not reached the threshold are few
few : (terms : Terms) (gate : Gate) (shares : ℕ) → Fit terms → reached terms (reference_in gate terms) shares ≡ false → shares < 30000000
few terms gate shares fit not-reached =
    let t = threshold terms gate fit in
    let under = leb-false (reference_in gate terms * terms.circulation) (100000 * shares) not-reached in
    omega (arith, mul-le-mul_right terms.circulation t.most, fit.most)

-- and no shares reach none
unreached : (terms : Terms) (t : ℕ) → Fit terms → 1 ≤ t → reached terms t 0 ≡ false
unreached terms t fit some = lt-leb (t * terms.circulation) (100000 * 0) (omega (arith, mul-le-mul_right terms.circulation some, fit.some))

none : (terms : Terms) (gate : Gate) → Fit terms → reached terms (reference_in gate terms) 0 ≡ false
none terms gate fit = unreached terms (reference_in gate terms) fit (threshold terms gate fit).some

-- a widened limit: how wide at most, and as wide or 4 wider in the next intermediate period
limit_most : (gate : Gate) (limit intermediate : ℕ) → limits gate limit intermediate ≡ true → limit ≤ 28
limit_most One limit intermediate h = grind (arith, nat_tests)
limit_most Two limit intermediate h = grind (arith, nat_tests)
limit_most Three limit intermediate h = grind (arith, nat_tests)

from_wider : (first limit intermediate wider : ℕ) → (wider ≡ 0) ⊎ (wider ≡ 4) → widened_from first limit intermediate ≡ true → widened_from first (limit + wider) (intermediate + 1) ≡ true
from_wider first limit intermediate wider by h = grind (arith, nat_tests)

-- any of the three beginnings
abbrev widened : ℕ → ℕ → Bool
widened limit intermediate = widened_from 8 limit intermediate || widened_from 6 limit intermediate || widened_from 4 limit intermediate

-- what follows from each of three tests, of the next three
any_of_three : (a b c a' b' c' : Bool) → (a ≡ true → a' ≡ true) → (b ≡ true → b' ≡ true) → (c ≡ true → c' ≡ true) → (a || b || c) ≡ true → (a' || b' || c') ≡ true
any_of_three a b c a' b' c' on-a on-b on-c h = grind arith

-- a close in Gate 1 or 2
closed_limits : (gate : Gate) (limit intermediate wider : ℕ) → (gate ≡ Three → ⊥) → limits gate limit intermediate ≡ true → intermediate < 6 → (wider ≡ 0) ⊎ (wider ≡ 4) → limits gate (limit + wider) (intermediate + 1) ≡ true
closed_limits One limit intermediate wider other h due by = grind (arith, nat_tests, from_wider)
closed_limits Two limit intermediate wider other h due by =
    let next = intermediate + 1 in
    and_from (within 1 6 next) (widened (limit + wider) next) (grind (arith, nat_tests))
    (any_of_three (widened_from 8 limit intermediate) (widened_from 6 limit intermediate) (widened_from 4 limit intermediate) (widened_from 8 (limit + wider) next) (widened_from 6 (limit + wider) next) (widened_from 4 (limit + wider) next)
    (from_wider 8 limit intermediate wider by) (from_wider 6 limit intermediate wider by) (from_wider 4 limit intermediate wider by)
    (and_parts (within 1 6 intermediate) (widened limit intermediate) h).1)
closed_limits Three limit intermediate wider other h due by = absurd (other refl)

-- what the code asks of a sheet, so that its numbers fit
pub record Bounds (s : Sheet) : Type 0 where
  pub volume : s.volume < 30000000
  pub recent : s.recent ≤ s.volume
  pub turnover : s.turnover ≤ 1000000000 * s.volume
  pub limit : s.limit ≤ 28

pub bounds : (terms : Terms) (s : Sheet) → is_sound terms s ≡ true → Bounds s
bounds terms s h =
    let sound = facts terms s h in
    let sums = sound.sums in
    record {
      volume = few terms s.gate s.volume (fit terms sound.fits) sums.running;
      recent = sums.part;
      turnover = sums.dearest;
      limit = limit_most s.gate s.limit s.intermediate sound.limits;
    }

averaged_price : (s : Sheet) → IsPrice s.reference → s.volume ≤ s.turnover → s.turnover ≤ 1000000000 * s.volume → IsPrice (averaged s)
averaged_price s price cheap dear =
    cond_both (eqb s.volume 0) s.reference (average s.turnover s.volume) (λ n. IsPrice n)
    (λ e. price)
    (λ e.
    let some = eqb-false s.volume 0 e in
    let b = average_between 1 1000000000 s.turnover s.volume (omega arith) (omega arith) dear in
    (b.least, b.most))

-- where a period begins
abbrev Fresh : Gate × ℕ → Type 0
Fresh grade = limits grade.0 grade.1 1 ≡ true

earned_fresh : (terms : Terms) (volume : ℕ) → Fresh (earned terms volume)
earned_fresh terms volume = grind (arith, nat_tests)

grade_fresh : (gate : Gate) (terms : Terms) (volume : ℕ) → Fresh (grade_after gate terms volume)
grade_fresh One terms volume = earned_fresh terms volume
grade_fresh Two terms volume = earned_fresh terms volume
grade_fresh Three terms volume = refl

first_begins : (start : Option Date) → begins start 1 ≡ true
first_begins None = refl
first_begins (Some start) = refl

ended_sound : (terms : Terms) (s : Sheet) (start : Option Date) → fits terms ≡ true → IsPrice s.reference → s.volume ≤ s.turnover → s.turnover ≤ 1000000000 * s.volume → Sound terms (ended terms s start)
ended_sound terms s start fits price cheap dear =
    record {
      fits = fits;
      sums = record {
        running = none terms (grade_after s.gate terms s.volume).0 (fit terms fits);
        cheapest = omega arith;
        dearest = omega arith;
        part = omega arith;
        price = averaged_price s price cheap dear;
      };
      limits = grade_fresh s.gate terms s.volume;
      begins = first_begins start;
    }

posted_sound : (terms : Terms) (s : Sheet) (trade : Option Trade) → Sound terms s → Sound terms (settled terms (added s trade))
posted_sound terms s trade sound =
    let sums = sound.sums in
    let b = trade_bounded 1 1000000000 s.volume s.turnover trade (trade_priced trade) (record { least = omega arith; most = sums.dearest }) in
    let cheapest : s.volume + shares_of trade ≤ s.turnover + turnover_of trade = omega (arith, b.least) in
    cond_both (is_over terms (added s trade)) (ended terms (added s trade) None) (added s trade) (Sound terms)
    (λ e. ended_sound terms (added s trade) None sound.fits sums.price cheapest b.most)
    (λ e.
    record {
      fits = sound.fits;
      sums = record {
        running = e;
        cheapest = cheapest;
        dearest = b.most;
        part = omega arith;
        price = sums.price;
      };
      limits = sound.limits;
      begins = sound.begins;
    })

runs_begins : (start : Option Date) (intermediate : ℕ) → is_some start ≡ true → begins start intermediate ≡ true
runs_begins None intermediate h = absurd (false≢true h)
runs_begins (Some start) intermediate h = refl

rests_begins : (start : Option Date) (intermediate : ℕ) → is_some start ≡ false → begins start intermediate ≡ true → intermediate ≡ 1
rests_begins None intermediate h at = eqb-true intermediate 1 at
rests_begins (Some start) intermediate h at = absurd (true≢false h)

closed_sound : (terms : Terms) (s : Sheet) → Sound terms s → (s.gate ≡ Three → ⊥) → is_some s.start ≡ true → s.intermediate < 6 → Sound terms (closed terms s)
closed_sound terms s sound other runs due =
    let sums = sound.sums in
    let wider = cond {A = ℕ} (reached terms (minimum_in s.gate terms) s.recent) 0 4 in
    let by = cond_both {A = ℕ} (reached terms (minimum_in s.gate terms) s.recent) 0 4 (λ (n : ℕ). (n ≡ 0) ⊎ (n ≡ 4)) (λ e. inl refl) (λ e. inr refl) in
    record {
      fits = sound.fits;
      sums = record {
        running = sums.running;
        cheapest = sums.cheapest;
        dearest = sums.dearest;
        part = omega arith;
        price = sums.price;
      };
      limits = closed_limits s.gate s.limit s.intermediate wider other sound.limits due by;
      begins = runs_begins s.start (s.intermediate + 1) runs;
    }

close_sound : (gate : Gate) (terms : Terms) (s : Sheet) → s.gate ≡ gate → Sound terms s → is_some s.start ≡ true → s.intermediate < 6 → Sound terms (next_in gate IntermediateClose terms s)
close_sound One terms s is sound runs due = closed_sound terms s sound (λ e. cc) runs due
close_sound Two terms s is sound runs due = closed_sound terms s sound (λ e. cc) runs due
close_sound Three terms s is sound runs due = sound

next_keeps : (terms : Terms) (s : Sheet) (event : Event) → Sound terms s → Due s event → Sound terms (next terms s event)
next_keeps terms s (Opening date) sound due =
    let at = rests_begins s.start s.intermediate due sound.begins in
    record {
      fits = sound.fits;
      sums = sound.sums;
      limits = sym (ap (λ n. limits s.gate s.limit n) at) ∙ sound.limits;
      begins = refl;
    }
next_keeps terms s (TimeEnd date) sound due =
    let sums = sound.sums in
    ended_sound terms s (Some date) sound.fits sums.price sums.cheapest sums.dearest
next_keeps terms s IntermediateClose sound due = close_sound s.gate terms s refl sound due.0 due.1
next_keeps terms s (Posting trade) sound due = posted_sound terms s trade sound

-- every event leaves a sound sheet sound
pub next_sound : (terms : Terms) (s : Sheet) (event : Event) → is_sound terms s ≡ true → Due s event → is_sound terms (next terms s event) ≡ true
next_sound terms s event sound due = tested terms (next terms s event) (next_keeps terms s event (facts terms s sound) due)

eight : (gate : Gate) → limits gate 8 1 ≡ true
eight One = refl
eight Two = refl
eight Three = refl

-- a share that is newly listed
pub founded_sound : (f : FoundingSheet) → terms_in_range f ≡ true → sheet_in_range f ≡ true → is_sound (terms_of f) (founded f) ≡ true
founded_sound f on-terms on-sheet =
    let fits_all = (and_parts (within 1 3 f.float) (fits (terms_of f)) on-terms).1 in
    let price = (and_parts (within 1 3 f.gate) (is_price f.reference) on-sheet).1 in
    tested (terms_of f) (founded f)
    (record {
      fits = fits_all;
      sums = record {
        running = none (terms_of f) (founded f).gate (fit (terms_of f) fits_all);
        cheapest = omega arith;
        dearest = omega arith;
        part = omega arith;
        price = within_ends 1 1000000000 f.reference price;
      };
      limits = eight (founded f).gate;
      begins = refl;
    })

-- outside Gate 3 no shares do not reach the minimum
eased_minimum : (float : Float) → 1 ≤ eased float 100
eased_minimum AboveQuarter = omega arith
eased_minimum AtMostQuarter = omega arith
eased_minimum AtMostTenth = omega arith

minimum : (gate : Gate) (terms : Terms) → (gate ≡ Three → ⊥) → 1 ≤ minimum_in gate terms
minimum One terms other = eased_minimum terms.float
minimum Two terms other = omega arith
minimum Three terms other = absurd (other refl)

pub no_minimum : (terms : Terms) (gate : Gate) → fits terms ≡ true → (gate ≡ Three → ⊥) → reached terms (minimum_in gate terms) 0 ≡ false
no_minimum terms gate fits_all other = unreached terms (minimum_in gate terms) (fit terms fits_all) (minimum gate terms other)

-- Gate 3 is in the first intermediate period, at 8 percent
record Third (percent at : ℕ) : Type 0 where
  limit : percent ≡ 8
  intermediate : at ≡ 1

third : (gate : Gate) (limit intermediate : ℕ) → gate ≡ Three → limits gate limit intermediate ≡ true → Third limit intermediate
third gate limit intermediate is h =
    let parts = and_parts (eqb intermediate 1) (eqb limit 8) (sym (ap (λ g. limits g limit intermediate) is) ∙ h) in
    record { limit = eqb-true limit 8 parts.1; intermediate = eqb-true intermediate 1 parts.0 }

pub first_only : (terms : Terms) (s : Sheet) → is_sound terms s ≡ true → s.gate ≡ Three → s.intermediate ≡ 1
first_only terms s sound is = (third s.gate s.limit s.intermediate is (facts terms s sound).limits).intermediate

pub sound_fits : (terms : Terms) (s : Sheet) → is_sound terms s ≡ true → fits terms ≡ true
sound_fits terms s sound = (facts terms s sound).fits

pub at_most_28 : AtMost28
at_most_28 terms s sound =
    let known = (facts terms s sound).limits in
    (limit_most s.gate s.limit s.intermediate known, λ is. (third s.gate s.limit s.intermediate is known).limit)

pub reference_price : (terms : Terms) (s : Sheet) → is_sound terms s ≡ true → is_price s.reference ≡ true
reference_price terms s sound = let sums = (facts terms s sound).sums in grind (arith, nat_tests)
