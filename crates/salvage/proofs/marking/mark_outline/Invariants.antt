use mathlib.Core.Path.{◌≡◌}
use mathlib.Core.Bool.{true}
use Prim.Native.Nat.{◌/◌}
use lib.ListN.{length, drop}
use Rattle.seqs.specs.Lists.{each}
use Rattle.seqs.specs.Front.{Front}
use Rattle.geom.specs.Outline.{points, cut, rising}
use Rattle.salvage.specs.Ring.{ring_marks}
use Rattle.salvage.specs.Salvage.{marks as marks_of}
use Rattle.salvage.proofs.marking.mark_outline.Given as goal

abbrev pub invariant-loop-e : goal.invariant-loop-e
invariant-loop-e l = (rising l.a (drop l.e-index l.o.ends.now) (length l.o.corners.now / 2) ≡ true) × Front l.initial.marks l.marks l.a (each ring_marks (cut l.a (drop l.e-index l.o.ends.now) (points l.o.corners.now))) (marks_of l.o.corners.now l.o.ends.now)
