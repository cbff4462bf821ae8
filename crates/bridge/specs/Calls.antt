-- What the exported functions answer. Assumes nothing.
use Rattle.std.specs.Prelude.{ℕ, Bool, cond, ◌&&◌, List, length, take, Some, None, Ok, Err, Option, Result, ◌==◌, nat_le}
use Rattle.terms.specs.Prices.{is_price, within}
use Rattle.terms.specs.Refusals.{number_of}
use Rattle.terms.specs.declared.refusal.Refusal.{Refusal}
use Rattle.terms.specs.declared.refusal.Refusal.TheVariants.{Parameter, UnsoundLines, TooFewRecords}
use Rattle.ladder.specs.Bands.{banded}
use Rattle.ladder.specs.Multiples.{multiples}
use Rattle.ladder.specs.Rungs.{Rungs}
use Rattle.book.specs.Fills.{all_fills}
use Rattle.book.specs.PriceTimes.{ahead}
use Rattle.book.specs.Sounds.{is_sound}
use Rattle.book.specs.declared.fill.Fill.{Fill}
use Rattle.book.specs.declared.order.Order.{Order}
use Rattle.auction.specs.Auctions.{auction_price}
use Rattle.auction.specs.Marks.{marked}
use Rattle.auction.specs.declared.mark.RungMark.{RungMark}
use Rattle.bridge.specs.declared.types.Auction.{Auction}
use Rattle.bridge.specs.declared.types.Found.{Found}

-- whether there is such a ladder, and its rungs
abbrev pub is_ladder : ℕ → ℕ → Bool
is_ladder band step = cond (band == 0) (within 1 1000000 step) (within 1 6 band)

abbrev pub rungs_of : ℕ → ℕ → Rungs
rungs_of band step = cond (band == 0) (multiples step) (banded band)

abbrev pub is_auction : Auction → Bool
is_auction a = is_ladder a.band a.step && (is_price a.reference && nat_le a.percent 100)

-- the auction price of sound lines, or why there is no answer
abbrev pub priced : ℕ → ℕ → Auction → List Order → Result (Option RungMark) Refusal
priced used next a lines =
    cond (is_sound used next lines)
    (cond (is_auction a) (Ok (marked (take used lines) a.reference (auction_price (rungs_of a.band a.step) (take used lines) a.reference a.percent))) (Err Parameter))
    (Err UnsoundLines)

-- the fills of sound lines by price and time, or why there are none
abbrev pub filled : ℕ → ℕ → ℕ → ℕ → List Order → List Fill → Result ℕ Refusal
filled used next price trading lines records =
    cond (is_sound used next lines)
    (cond (nat_le (length (take used lines)) (length records)) (Ok (length (all_fills ahead price trading (take used lines)))) (Err TooFewRecords))
    (Err UnsoundLines)

-- ---- as numbers
-- 0, or the number of the refusal
abbrev pub code_of : {X : Type 0} → Result X Refusal → ℕ
code_of (Ok x) = 0
code_of (Err why) = number_of why

abbrev pub found_of : Option RungMark → Found
found_of None = record { price = 0; shares = 0; surplus = 0 }
found_of (Some m) = record { price = m.price; shares = m.shares; surplus = m.surplus }

-- what is answered, or what stood there before a refusal
abbrev pub answered : {X Y : Type 0} → (X → Y) → Result X Refusal → Y → Y
answered f (Ok x) old = f x
answered f (Err why) old = old
