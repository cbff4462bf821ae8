-- The merit of rungs is an order. Assumes nothing.
use Rattle.std.specs.Prelude.{◌≡◌, Bool, true, false, not, Some, None, Option}
use Rattle.std.proofs.Common.{rules}
use Rattle.std.proofs.lemmas.Bool.{false≢true}
use Rattle.book.specs.Merits.{both_apart}
use Rattle.auction.specs.Marks.{ahead, leads, mark_apart}
use Rattle.auction.specs.declared.mark.RungMark.{RungMark}

pub ahead_itself : (a : RungMark) → ahead a a ≡ false
ahead_itself a = search rules

-- of two rungs one comes first
pub ahead_one : (a b : RungMark) → mark_apart a b ≡ true → ahead a b ≡ not (ahead b a)
ahead_one a b h = search rules

-- a before b and b before c give a before c; and so with "not before" in all three places
pub ahead_carries : (t : Bool) (a b c : RungMark) → ahead a b ≡ t → ahead b c ≡ t → ahead a c ≡ t
ahead_carries true a b c h k = search rules
ahead_carries false a b c h k = search rules

pub leads_one : (x y : Option RungMark) → both_apart mark_apart x y ≡ true → leads x y ≡ not (leads y x)
leads_one (Some a) (Some b) h = ahead_one a b h
leads_one (Some a) None h = absurd (false≢true h)
leads_one None y h = absurd (false≢true h)

pub leads_carries : (x y z : Option RungMark) → leads x y ≡ true → leads y z ≡ true → leads x z ≡ true
leads_carries (Some a) (Some b) (Some c) h k = ahead_carries true a b c h k
leads_carries (Some a) (Some b) None h k = absurd (false≢true k)
leads_carries (Some a) None z h k = absurd (false≢true h)
leads_carries None y z h k = absurd (false≢true h)
