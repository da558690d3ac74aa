use mathlib.Core.Path.{◌≡◌}
use mathlib.Core.Bool.{true}
use Prim.Native.Nat.{◌/◌}
use lib.ListN.{length, drop}
use Rattle.geom.specs.Outline.{points, rising}
use Rattle.outlines.specs.Heights.{Heights, start_of}
use Rattle.outlines.proofs.Blocks.{KnownRings}
use Rattle.outlines.proofs.heights.ring_heights.Given as goal

abbrev pub invariant-loop-k : goal.invariant-loop-k
invariant-loop-k l = (l.a ≡ start_of l.o.ends.now l.k) × (rising l.a (drop l.k l.o.ends.now) (length l.o.corners.now / 2) ≡ true) × (length l.t ≡ length l.initial.t) × Heights 0 (points l.o.corners.now) l.t × KnownRings l.k (points l.o.corners.now) l.o.ends.now l.t
