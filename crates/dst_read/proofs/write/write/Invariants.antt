-- `write` meets its contract: the points of the records from r on are to be written from 2·r on, their marks from r on. Assumes nothing.
use Prim.Native.Nat.{◌+◌, ◌-◌, ◌*◌, ◌≤◌}
use lib.ListN.{drop}
use Rattle.seqs.specs.Front.{Front}
use Rattle.dst.specs.Thread.{origin}
use Rattle.dst_read.specs.Reading.{points_from, coordinates, marks_of}
use Rattle.dst_read.specs.Lifted.{whole_at}
use Rattle.dst_read.proofs.write.write.Given as goal

abbrev pub invariant-loop-r : goal.invariant-loop-r
invariant-loop-r l = (121000000 ≤ l.x + 121 * l.r) × (l.x ≤ 121000000 + 121 * l.r) × (121000000 ≤ l.y + 121 * l.r) × (l.y ≤ 121000000 + 121 * l.r) × Front l.initial.points l.points (2 * l.r) (coordinates (points_from (whole_at l.x l.y) (l.n - l.r) (drop (3 * l.r) l.bytes))) (coordinates (points_from origin l.n l.bytes)) × Front l.initial.marks l.marks l.r (marks_of (points_from (whole_at l.x l.y) (l.n - l.r) (drop (3 * l.r) l.bytes))) (marks_of (points_from origin l.n l.bytes))
