-- `scan` meets its contract: what the file answers from record r on is what it answers. Assumes nothing.
use mathlib.Core.Path.{◌≡◌}
use Prim.Native.Nat.{◌*◌}
use lib.ListN.{drop}
use Rattle.dst_read.specs.Reading.{verdict}
use Rattle.dst_read.proofs.scan.scan.Given as goal

abbrev pub invariant-loop-r : goal.invariant-loop-r
invariant-loop-r l = verdict l.r (drop (3 * l.r) l.bytes) ≡ verdict 0 l.bytes
