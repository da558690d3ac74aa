-- The invariant: from the place on, the end is the same.
use mathlib.Core.Path.{◌≡◌}
use Prim.Native.Nat.{◌+◌, ◌-◌, ◌≤◌}
use lib.ListN.{length, drop}
use Rattle.book.specs.Book.{sheets, joined}
use Rattle.book.proofs.walk.book_end.Given as goal

abbrev pub invariant-loop-n : goal.invariant-loop-n
invariant-loop-n l = (l.at + length (joined (sheets (drop l.at l.s))) ≡ length (joined (sheets l.s))) × (l.at ≤ length l.s)

abbrev pub decreases-loop-n : goal.decreases-loop-n
decreases-loop-n l = length l.s - l.at
