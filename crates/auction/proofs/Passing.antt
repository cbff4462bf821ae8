-- Trades at a price move up to the smaller depth, and no more. Assumes nothing.
use Rattle.std.proofs.Common.{◌≡◌, ℕ, zero, suc, ◌+◌, ◌<◌, ◌≤◌, Bool, true, false, cond, eqb, ltb, List, [], ◌∷◌, length, get_or, take, Some, None, sum_by, Option, sym, refl, ap, ◌∙◌, arith}
use Rattle.std.specs.List.{All}
use Rattle.std.proofs.lemmas.List.{take_all}
use Rattle.std.proofs.lemmas.List.Elements.{All-nil, All-cons, All-head, All-tail, All-weaker}
use Rattle.std.proofs.lemmas.List.Sums.{sum_by-cons, sum_by_more}
use Rattle.std.proofs.lemmas.Bool.{cond_both}
use Rattle.std.proofs.lemmas.Bool.Decides.{nat_tests}
use Rattle.ladder.specs.Rungs.{Rungs, In}
use Rattle.book.specs.Depths.{trading}
use Rattle.book.specs.Orders.{shares_at, accepts, free}
use Rattle.book.specs.declared.order.Order.{Order}
use Rattle.book.specs.declared.order.Side.{Side}
use Rattle.book.specs.declared.order.Side.TheVariants.{Buy, Sell}
use Rattle.auction.specs.Found.{Behind, Rightly}
use Rattle.auction.specs.Marks.{mark, ahead}
use Rattle.auction.specs.Passages.{Passage, passed, Possible, MostTrades, LeastSurplus, CanTrade}
use Rattle.auction.specs.declared.mark.RungMark.{RungMark}
use Rattle.auction.proofs.Answering.{behind_shares}

-- ---- the sum of f over the first n numbers
abbrev sum_to : (ℕ → ℕ) → ℕ → ℕ
sum_to f zero = 0
sum_to f (suc n) = sum_to f n + f n

sum_none : (f : ℕ → ℕ) (n : ℕ) → ((i : ℕ) → f i ≡ 0) → sum_to f n ≡ 0
sum_none f zero h = refl
sum_none f (suc n) h = omega (arith, h n, sum_none f n h)

sum_both : (f g h : ℕ → ℕ) (n : ℕ) → ((i : ℕ) → h i ≡ f i + g i) → sum_to h n ≡ sum_to f n + sum_to g n
sum_both f g h zero e = refl
sum_both f g h (suc n) e = omega (arith, e n, sum_both f g h n e)

sum_most : (f g : ℕ → ℕ) (n : ℕ) → ((i : ℕ) → i < n → f i ≤ g i) → sum_to f n ≤ sum_to g n
sum_most f g zero h = omega arith
sum_most f g (suc n) h = omega (arith, h n (omega arith), sum_most f g n (λ i lt. h i (omega arith)))

-- a sum with s at the place b and nothing elsewhere
sum_one : (b s n : ℕ) → sum_to (λ i. cond (eqb b i) s 0) n ≡ cond (ltb b n) s 0
sum_one b s zero = grind (arith, nat_tests)
sum_one b s (suc n) = grind (arith, nat_tests, sum_one b s n)

sum_lines : {X : Type 0} (f : X → ℕ) (xs : List X) (d : X) (n : ℕ) → n ≤ length xs → sum_by f (take n xs) ≡ sum_to (λ i. f (get_or xs i d)) n
sum_lines f xs d zero h = refl
sum_lines f xs d (suc n) h =
    let m : suc n ≡ n + 1 = omega arith in
    rw m (omega (arith, sum_by_more f xs n d (omega arith), sum_lines f xs d n (omega arith)))

depth_by_line : (side : Side) (lines : List Order) (q : ℕ) → sum_by (shares_at side q) lines ≡ sum_to (λ i. shares_at side q (get_or lines i free)) (length lines)
depth_by_line side lines q =
    ap (sum_by (shares_at side q)) (sym (take_all (length lines) lines (omega arith))) ∙ sum_lines (shares_at side q) lines free (length lines) (omega arith)

-- ---- what passes on one side, line by line
module _ (at : Passage → ℕ) where
  abbrev by_line : ℕ → List Passage → ℕ
  by_line i ps = sum_by (λ p. cond (eqb (at p) i) p.shares 0) ps

  by_cons : (i : ℕ) (p : Passage) (ps : List Passage) → by_line i (p ∷ ps) ≡ cond (eqb (at p) i) p.shares 0 + by_line i ps
  by_cons i p ps = sum_by-cons (λ (x : Passage). cond (eqb (at x) i) x.shares 0) p ps

  -- what passes is the sum of what passes at each line
  all_by_line : (n : ℕ) (ps : List Passage) → All (λ p. at p < n) ps → passed ps ≡ sum_to (λ i. by_line i ps) n
  all_by_line n [] h = sym (sum_none (λ i. by_line i []) n (λ i. refl))
  all_by_line n (p ∷ ps) h =
      grind (
        arith,
        nat_tests,
        sum_by-cons (λ (x : Passage). x.shares) p ps,
        all_by_line n ps (All-tail (λ x. at x < n) p ps h),
        All-head (λ x. at x < n) p ps h,
        sum_one (at p) p.shares n,
        sum_both (λ i. cond (eqb (at p) i) p.shares 0) (λ i. by_line i ps) (λ i. by_line i (p ∷ ps)) n (λ i. by_cons i p ps),
      )

  module _ (side : Side) (lines : List Order) (q : ℕ) where
    -- the line of p is there and accepts the price
    abbrev Taken : Passage → Type 0
    Taken p = (at p < length lines) × (accepts side q (get_or lines (at p) free) ≡ true)

    sum_of_lines : (ps : List Passage) → All Taken ps → passed ps ≡ sum_to (λ i. by_line i ps) (length lines)
    sum_of_lines ps h = all_by_line (length lines) ps (All-weaker Taken (λ p. at p < length lines) (λ p k. k.0) ps h)

    -- none passes at a line that does not accept the price
    none_by_line : (i : ℕ) (ps : List Passage) → accepts side q (get_or lines i free) ≡ false → All Taken ps → by_line i ps ≡ 0
    none_by_line i [] off h = refl
    none_by_line i (p ∷ ps) off h = grind (arith, nat_tests, by_cons i p ps, All-head Taken p ps h, none_by_line i ps off (All-tail Taken p ps h))

    pub side_passed : (ps : List Passage) → All Taken ps → ((i : ℕ) → by_line i ps ≤ (get_or lines i free).left) → passed ps ≤ sum_by (shares_at side q) lines
    side_passed ps h cap =
        let each : (i : ℕ) → i < length lines → by_line i ps ≤ shares_at side q (get_or lines i free) =
        λ i lt. cond_both (accepts side q (get_or lines i free)) (get_or lines i free).left 0 (λ m. by_line i ps ≤ m) (λ _. cap i) (λ off. omega (arith, none_by_line i ps off h)) in
        omega (arith, sum_of_lines ps h, sum_most (λ i. by_line i ps) (λ i. shares_at side q (get_or lines i free)) (length lines) each, depth_by_line side lines q)

-- ---- while less has passed than the depth of a side, some line of that side has a share left
room : (f g : ℕ → ℕ) (n : ℕ) → sum_to f n < sum_to g n → (i : ℕ) × (i < n) × (f i < g i)
room f g zero h = absurd (omega arith)
room f g (suc n) h = grind (arith, room f g n)

shares_taken : (b : Bool) (left k : ℕ) → k < cond b left 0 → (b ≡ true) × (k < left)
shares_taken b left k h = grind arith

module _ (at : Passage → ℕ) (side : Side) (lines : List Order) (q : ℕ) where
  abbrev Fair : List Passage → Type 0
  Fair ps = All (Taken at side lines q) ps × ((i : ℕ) → by_line at i ps ≤ (get_or lines i free).left)

  free_line : (ps : List Passage) → Fair ps → passed ps < sum_by (shares_at side q) lines → (i : ℕ) × (i < length lines) × (accepts side q (get_or lines i free) ≡ true) × (by_line at i ps < (get_or lines i free).left)
  free_line ps fair less =
      let found = room (λ i. by_line at i ps) (λ i. shares_at side q (get_or lines i free)) (length lines) (omega (arith, sum_of_lines at side lines q ps fair.0, depth_by_line side lines q)) in
      let line = get_or lines found.0 free in
      let taken = shares_taken (accepts side q line) line.left (by_line at found.0 ps) found.2 in
      (found.0, found.1, taken.0, taken.1)

  one_more : (p : Passage) (ps : List Passage) → Fair ps → p.shares ≡ 1 → Taken at side lines q p → by_line at (at p) ps < (get_or lines (at p) free).left → Fair (p ∷ ps)
  one_more p ps fair one taken less = (
    All-cons (Taken at side lines q) p ps taken fair.0,
    λ i. grind (arith, nat_tests, by_cons at i p ps, fair.1 i),
  )

can_pass : (lines : List Order) (q n : ℕ) → n ≤ trading lines q → (ps : List Passage) × Possible lines q ps × (passed ps ≡ n)
can_pass lines q zero h = ([], record { buyers = All-nil (Taken (λ p. p.buyer) Buy lines q); sellers = All-nil (Taken (λ p. p.seller) Sell lines q); buys = λ i. omega arith; sells = λ i. omega arith }, refl)
can_pass lines q (suc n) h =
    let rest = can_pass lines q n (omega arith) in
    let ps = rest.0 in
    let fair-buys : Fair (λ p. p.buyer) Buy lines q ps = (rest.1.buyers, rest.1.buys) in
    let fair-sells : Fair (λ p. p.seller) Sell lines q ps = (rest.1.sellers, rest.1.sells) in
    let b = free_line (λ p. p.buyer) Buy lines q ps fair-buys (omega (arith, rest.2)) in
    let s = free_line (λ p. p.seller) Sell lines q ps fair-sells (omega (arith, rest.2)) in
    let p : Passage = record { seller = s.0; buyer = b.0; shares = 1 } in
    let more-buys = one_more (λ p. p.buyer) Buy lines q p ps fair-buys refl (b.1, b.2) b.3 in
    let more-sells = one_more (λ p. p.seller) Sell lines q p ps fair-sells refl (s.1, s.2) s.3 in
    (p ∷ ps, record { buyers = more-buys.0; sellers = more-sells.0; buys = more-buys.1; sells = more-sells.1 }, omega (arith, sum_by-cons (λ (x : Passage). x.shares) p ps, rest.2))

pub best_can_trade : (rungs : Rungs) (lines : List Order) (r : ℕ) (found : Option RungMark) → Rightly rungs lines r found → CanTrade lines found
best_can_trade rungs lines r None right = tt
best_can_trade rungs lines r (Some m) right =
    let same : trading lines m.price ≡ m.shares = ap (λ (k : RungMark). k.shares) (sym right.0) in
    let h = can_pass lines m.price (trading lines m.price) (omega arith) in
    (h.0, h.1, h.2 ∙ same)

-- ---- no trades at a rung move more than the best, and those that move as many leave no smaller surplus
pub trades_most : (lines : List Order) (q : ℕ) (ps : List Passage) → Possible lines q ps → passed ps ≤ trading lines q
trades_most lines q ps h =
    omega (arith, side_passed (λ p. p.buyer) Buy lines q ps h.buyers h.buys, side_passed (λ p. p.seller) Sell lines q ps h.sellers h.sells)

pub best_trades_most : (rungs : Rungs) (lines : List Order) (r : ℕ) (found : Option RungMark) → ((q : ℕ) → In rungs q → Behind found (Some (mark lines r q))) → MostTrades rungs lines found
best_trades_most rungs lines r found behind = λ q ps on h. omega (arith, trades_most lines q ps h, behind_shares found (mark lines r q) (behind q on))

surplus_behind : (a m : RungMark) → ahead a m ≡ false → m.shares ≤ a.shares → m.surplus ≤ a.surplus
surplus_behind a m h le = grind (arith, nat_tests)

pub best_tied : (rungs : Rungs) (lines : List Order) (r : ℕ) (found : Option RungMark) → ((q : ℕ) → In rungs q → Behind found (Some (mark lines r q))) → LeastSurplus rungs lines found
best_tied rungs lines r None behind = tt
best_tied rungs lines r (Some m) behind = λ q ps on h same. surplus_behind (mark lines r q) m (behind q on) (omega (arith, trades_most lines q ps h))
