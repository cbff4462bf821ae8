-- One step of the search by candidates. Assumes nothing.
use Rattle.std.proofs.Common.{◌≡◌, ℕ, zero, suc, ◌+◌, ◌-◌, ◌<◌, ◌≤◌, false, List, length, get_or, take, Some, None, Option, refl, subst, arith}
use Rattle.std.specs.List.{All, Contains}
use Rattle.std.proofs.lemmas.List.{take_all}
use Rattle.std.proofs.lemmas.List.Elements.{All-nil, All-more, All-weaker}
use Rattle.std.proofs.lemmas.Bool.Decides.{nat_tests}
use Rattle.ladder.specs.Rungs.{Rungs, In, Nearest, Lowest, Highest}
use Rattle.book.specs.Orders.{free}
use Rattle.book.specs.declared.order.Order.{Order}
use Rattle.auction.specs.Found.{Behind, three, Taken, Foremost, Rightly, Reached, Tried, Improves}
use Rattle.auction.specs.Marks.{mark, marked, ahead, trades}
use Rattle.auction.specs.Turns.{turn}
use Rattle.auction.specs.declared.mark.RungMark.{RungMark}
use Rattle.auction.proofs.Candidates.{covers}
use Rattle.auction.specs.Ranks.{ahead_carries}

-- the best once the reference and the turns of the first n lines were tried
pub record Searched (rungs : Rungs) (lines : List Order) (reference n : ℕ) (best : Option RungMark) : Type 0 where
  pub rightly : Rightly rungs lines reference best
  pub here : Tried rungs lines reference reference reference best
  pub each : All (λ x. Tried rungs lines reference (turn x - 1) (turn x) best) (take n lines)

-- ---- one step
nothing_behind : (a m : RungMark) → trades (Some a) ≡ false → 0 < m.shares → ahead a m ≡ false
nothing_behind a m h k = grind (arith, nat_tests)

trades_less : (a m : RungMark) → ahead a m ≡ false → trades (Some m) ≡ false → trades (Some a) ≡ false
trades_less a m h k = grind (arith, nat_tests)

-- a new best that the old one is behind has behind it all that the old one had
keeps_behind : (old best : Option RungMark) (xs : List (Option RungMark)) → Taken xs best → Behind best old → (x : Option RungMark) → Behind old x → Behind best x
keeps_behind None None xs t h x k = k
keeps_behind (Some m) None xs t h None k = refl
keeps_behind (Some m) None xs t h (Some a) k = trades_less a m k h
keeps_behind old (Some n) xs t h None k = refl
keeps_behind None (Some n) xs t h (Some a) k = nothing_behind a n k t.1
keeps_behind (Some m) (Some n) xs t h (Some a) k = ahead_carries false a m n k h

module _ (rungs : Rungs) (lines : List Order) (r : ℕ) where
  -- a mark at which a share trades, of the rung next to a price
  rightly_next : (ahead : ℕ → ℕ → Type 0) (p : ℕ) (o : Option ℕ) (m : RungMark) → Nearest ahead rungs p o → marked lines r o ≡ Some m → 0 < m.shares → Rightly rungs lines r (Some m)
  rightly_next ahead p None m next e s = absurd (let z : ◌≡◌ {A = ℕ} 0 1 = cc in omega arith)
  rightly_next ahead p (Some q) m next e s =
      let same : mark lines r q ≡ m = cc in
      subst (λ (k : RungMark). 0 < k.shares → Rightly rungs lines r (Some k)) same (λ t. (refl, next.0, t)) s

  -- that rung is on the way to all that are farther on
  reached_next : (ahead : ℕ → ℕ → Type 0) (p : ℕ) (best : Option RungMark) (o : Option ℕ) → Nearest ahead rungs p o → Behind best (marked lines r o) → Reached ahead rungs lines r p best
  reached_next ahead p best None next b q on far = absurd (next q far on)
  reached_next ahead p best (Some c) next b q on far = (c, next.0, next.1, next.2 q far on, b)

  module _ (low high : ℕ) (old : Option RungMark) (down up : Option ℕ) (is_down : Highest rungs low down) (is_up : Lowest rungs high up) where
    abbrev candidates : List (Option RungMark)
    candidates = three old (marked lines r down) (marked lines r up)

    rightly_one : (m : RungMark) → Rightly rungs lines r old → Contains candidates (Some m) → 0 < m.shares → Rightly rungs lines r (Some m)
    rightly_one m right (zero, lt, e) s = subst (Rightly rungs lines r) e right
    rightly_one m right (suc zero, lt, e) s = rightly_next (λ a b. b ≤ a) low down m is_down e s
    rightly_one m right (suc (suc zero), lt, e) s = rightly_next (λ a b. a ≤ b) high up m is_up e s
    rightly_one m right (suc (suc (suc k)), lt, e) s = absurd (omega arith)

    rightly_new : (best : Option RungMark) → Taken candidates best → Rightly rungs lines r old → Rightly rungs lines r best
    rightly_new None t right = tt
    rightly_new (Some m) t right = rightly_one m right t.0 t.1

    pub improves : (best : Option RungMark) → Foremost candidates best → Improves rungs lines r low high old best
    improves best f = record {
      rightly = rightly_new best f.taken;
      keeps = keeps_behind old best candidates f.taken (f.behind 0 None (omega arith));
      tried = record {
        below = reached_next (λ a b. b ≤ a) low best down is_down (f.behind 1 None (omega arith));
        above = reached_next (λ a b. a ≤ b) high best up is_up (f.behind 2 None (omega arith));
      };
    }

  -- a new best loses nothing that was tried
  still_reached : (ahead : ℕ → ℕ → Type 0) (p : ℕ) (old best : Option RungMark) → ((x : Option RungMark) → Behind old x → Behind best x) → Reached ahead rungs lines r p old → Reached ahead rungs lines r p best
  still_reached ahead p old best keeps t q on far = let h = t q on far in (h.0, h.1, h.2, h.3, keeps (Some (mark lines r h.0)) h.4)

  still_tried : (low high : ℕ) (old best : Option RungMark) → ((x : Option RungMark) → Behind old x → Behind best x) → Tried rungs lines r low high old → Tried rungs lines r low high best
  still_tried low high old best keeps t = record {
    below = still_reached (λ a b. b ≤ a) low old best keeps t.below;
    above = still_reached (λ a b. a ≤ b) high old best keeps t.above;
  }

  pub none_searched : (best : Option RungMark) → Improves rungs lines r r r None best → Searched rungs lines r 0 best
  none_searched best new = record { rightly = new.rightly tt; here = new.tried; each = All-nil (λ x. Tried rungs lines r (turn x - 1) (turn x) best) }

  pub one_searched : (n : ℕ) (old best : Option RungMark) → n < length lines → Searched rungs lines r n old → Improves rungs lines r (turn (get_or lines n free) - 1) (turn (get_or lines n free)) old best → Searched rungs lines r (n + 1) best
  one_searched n old best within before new =
      let Turned : Option RungMark → Order → Type 0 = λ b x. Tried rungs lines r (turn x - 1) (turn x) b in
      record {
        rightly = new.rightly before.rightly;
        here = still_tried r r old best new.keeps before.here;
        each = All-more (Turned best) lines n free within
            (All-weaker (Turned old) (Turned best) (λ x. still_tried (turn x - 1) (turn x) old best new.keeps) (take n lines) before.each)
            new.tried;
      }

  pub all_searched : (n : ℕ) (best : Option RungMark) → length lines ≤ n → Searched rungs lines r n best → (q : ℕ) → In rungs q → Behind best (Some (mark lines r q))
  all_searched n best past s =
      covers rungs lines r best s.here (subst (All (λ (x : Order). Tried rungs lines r (turn x - 1) (turn x) best)) (take_all n lines past) s.each)
