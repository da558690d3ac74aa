use Rattle.std.proofs.Common.{◌≡◌}
use Rattle.seqs.specs.Lists.{each, fold}
use Rattle.geom.specs.Rings.{rings_of}
use Rattle.rules.specs.Fill.{kept_side, edges}
use Rattle.edges.specs.Span.{widen, nowhere}
use Rattle.edges.proofs.rows.extent_of.Given as goal

abbrev pub invariant-loop-a : goal.invariant-loop-a
invariant-loop-a l =
    (goal.iterator-loop-a).can_next l.a-iterator × (goal.iterator-loop-a).is_finite l.a-iterator
    × (fold widen l.x (each kept_side l.a-iterator) ≡ fold widen nowhere (edges l.fn.g (rings_of l.fn.o)))
