use Rattle.seqs.specs.Lists.{each}
use Rattle.seqs.specs.Adding.{Adding}
use Rattle.geom.specs.Rings.{rings_of}
use Rattle.rules.specs.Fill.{kept_side, edges}
use Rattle.edges.specs.Table.{edge_block, edge_place}
use Rattle.edges.proofs.table.build.Given as goal

abbrev pub invariant-loop-a : goal.invariant-loop-a
invariant-loop-a l =
    (goal.iterator-loop-a).can_next l.a-iterator × (goal.iterator-loop-a).is_finite l.a-iterator
    × Adding edge_place edge_block l.initial.floats l.floats 0 l.n (each kept_side l.a-iterator) (edges l.fn.g (rings_of l.fn.o))
