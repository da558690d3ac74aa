-- The invariant: what is left is as good as the whole.
use mathlib.Core.Path.{◌≡◌}
use Prim.Native.Nat.{◌-◌, ◌≤◌}
use lib.ListN.{length, drop}
use Rattle.book.specs.Book.{good_book}
use Rattle.book.proofs.framing.good_book.Given as goal

abbrev pub invariant-loop-n : goal.invariant-loop-n
invariant-loop-n l = (good_book (drop l.at l.s) ≡ good_book l.s) × (l.at ≤ length l.s)

abbrev pub decreases-loop-n : goal.decreases-loop-n
decreases-loop-n l = length l.s - l.at
