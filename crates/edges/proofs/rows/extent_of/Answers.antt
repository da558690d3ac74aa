use Rattle.std.specs.Float.Ieee.{of_bits}
use Rattle.geom.specs.Rings.{rings_of}
use Rattle.edges.specs.SidesLaws.{edges_kept}
use Rattle.edges.proofs.rows.extent_of.Goals as goal

pub loop-a-init : goal.loop-a-init
unfolding of_bits
loop-a-init c = (tt, tt, rw (c.into_iter-a-iterator.ensures.into_iter_gives, c.of-a-items.ensures, edges_kept c.args.g (rings_of c.args.o)))
