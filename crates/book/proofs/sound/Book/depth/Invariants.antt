use Rattle.std.proofs.Common.{◌≡◌, take}
use Rattle.book.specs.Depths.{bid, offered}
use Rattle.book.proofs.sound.Book.depth.Given as goal

abbrev pub invariant-loop-line : goal.invariant-loop-line
invariant-loop-line l = (l.bid ≡ bid (take l.line-index l.self.lines.now) l.price) × (l.offered ≡ offered (take l.line-index l.self.lines.now) l.price)
