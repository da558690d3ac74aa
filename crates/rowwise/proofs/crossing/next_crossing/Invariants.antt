use Rattle.std.specs.Prelude.{◌≡◌, ◌≤◌, ◌+◌, length, nat_abs}
use Rattle.seqs.specs.Lists.{each, fold}
use Rattle.geom.specs.Rings.{rings_of}
use Rattle.rules.specs.Fill.{kept_side, edges}
use Rattle.rowwise.specs.Nearest.{none_yet, meet}
use Rattle.rowwise.proofs.crossing.next_crossing.Given as goal

abbrev pub invariant-loop-a : goal.invariant-loop-a
invariant-loop-a l =
    (goal.iterator-loop-a).can_next l.a-iterator × (goal.iterator-loop-a).is_finite l.a-iterator
    × (nat_abs l.m.dir + l.q.at ≤ l.m.next)
    × (l.m.next + length (each kept_side l.a-iterator) ≤ l.q.at + length (edges l.fn.g (rings_of l.fn.o)))
    × (fold (meet l.q) l.m (each kept_side l.a-iterator) ≡ fold (meet l.q) (none_yet l.q.at) (edges l.fn.g (rings_of l.fn.o)))
