-- Sound order lines. Assumes nothing.
use Rattle.std.specs.Prelude.{ℕ, Bool, true, ◌&&◌, List, [], ◌∷◌, length, take, nat_le, nat_lt}
use Rattle.terms.specs.Prices.{within, is_price}
use Rattle.terms.specs.Dates.{is_date}
use Rattle.book.specs.declared.order.Order.{Order}

-- the ranges of the fields of a used line
unfoldable pub in_range : Order → Bool
in_range x =
    within 1 65535 x.member && within 1 2 x.side && is_price x.limit && within 1 100000 x.entered
    && within 1 x.entered x.left
    && is_date x.last_day

-- a line that may stand behind one with the number `last`, where `next` has not been given yet
abbrev pub may_follow : ℕ → ℕ → Order → Bool
may_follow last next x = nat_lt last x.number && nat_lt x.number next && in_range x

-- lines that may stand one behind the other, the first behind one with the number `last`
unfoldable pub standing : ℕ → ℕ → List Order → Bool
standing last next [] = true
standing last next (x ∷ xs) = may_follow last next x && standing x.number next xs

-- the used lines of a book
unfoldable pub is_book : ℕ → List Order → Bool
is_book next lines = nat_le (length lines) 1024 && standing 0 next lines

-- lines of which `used` are in use
abbrev pub is_sound : ℕ → ℕ → List Order → Bool
is_sound used next lines = nat_le (length lines) 1024 && nat_le used (length lines) && standing 0 next (take used lines)
