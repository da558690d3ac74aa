-- `count_line` meets its contract: the points so far and those of the corners that are left are all. Assumes nothing.
use mathlib.Core.Path.{◌≡◌}
use Prim.Native.Nat.{◌+◌, ◌≤◌}
use lib.ListN.{length}
use Rattle.geom.specs.Outline.{points}
use Rattle.polyline.specs.Line.{pieces_from, resample_keep_corners}
use Rattle.polyline.specs.Cuts.{Told}
use Rattle.polyline.proofs.count_line.Given as goal

abbrev pub invariant-loop-q : goal.invariant-loop-q
invariant-loop-q l = (l.c ≤ l.room) × (l.c + length (pieces_from l.p l.q-iterator l.len) ≡ length (resample_keep_corners (points l.line) l.len)) × Told l.len l.s
