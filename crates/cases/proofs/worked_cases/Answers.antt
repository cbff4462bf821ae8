use Rattle.std.proofs.Common.{◌≡◌, ℕ, zero, suc, ◌+◌, ◌-◌, ◌<◌, ◌≤◌, Bool, true, not, ◌&&◌, refl, ⊎_elim, arith}
use Rattle.std.proofs.lemmas.Bool.{cases_lt, not-true, both_ways}
use Rattle.std.proofs.lemmas.Bool.Decides.{Decides-below_and}
use Rattle.ladder.specs.Rungs.{In}
use Rattle.ladder.specs.Bands.{banded, series, start, step_of, row_to, row_of}
use Rattle.auction.specs.Auctions.{best}
use Rattle.cases.proofs.worked_cases.Goals as goal

-- none of the n numbers from p is a rung of band 2
abbrev none : ℕ → ℕ → Bool
none p zero = true
none p (suc n) = not (banded 2 (p + n)) && none p n

none_at : (p n : ℕ) → none p n ≡ true → (k : ℕ) → p ≤ k → k < p + n → In (banded 2) k → ⊥
none_at p n h k low high on =
    let at = (Decides-below_and (λ i. not (banded 2 (p + i))) (λ i. not (banded 2 (p + i)) ≡ true) (none p) (λ i. (λ e. e, λ e. e)) refl (λ i. refl) n).0 h (k - p) (omega arith) in
    let is : p + (k - p) ≡ k = omega arith in
    both_ways (banded 2 k) (not-true (banded 2 k) (rw is at at)) on

pub returns : goal.returns
unfolding series start step_of row_to row_of best
returns c =
    record {
      next_rung = (
        refl,
        omega arith,
        λ k low on.
            ⊎_elim
            (λ (lt : k < 100000). absurd (none_at 99801 199 refl k low lt on))
            (λ (ge : 100000 ≤ k). ge)
            (cases_lt k 100000),
      );
      edge_inside = refl;
      edge_outside = refl;
      periods = record {
        short = (refl, refl);
        full = (refl, refl);
        mixed = (refl, refl, refl);
        half = refl;
        thin = refl;
        enough = refl;
        first = refl;
        second = refl;
        sixth = refl;
        anew = (refl, refl);
        empty = (refl, refl, refl);
        example = record {
          opens = (refl, refl, refl, refl, refl, refl);
          little = (refl, refl, refl, refl, refl, refl);
          widens = (refl, refl, refl, refl, refl, refl);
          enough = (refl, refl, refl, refl, refl, refl);
          stays = (refl, refl, refl, refl, refl, refl);
          ends = (refl, refl, refl, refl, refl, refl);
          starts = (refl, refl, refl, refl, refl, refl);
          from = refl;
        };
      };
      auctions = record { tie = refl; buys = refl; price = refl; shares = refl; fills = refl };
    }
