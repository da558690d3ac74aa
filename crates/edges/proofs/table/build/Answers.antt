use Rattle.std.proofs.Common.{refl, arith}
use Rattle.seqs.specs.Lists.{each}
use Rattle.seqs.specs.Adding.{adding_start, adding_step}
use Rattle.geom.specs.Rings.{rings_of}
use Rattle.rules.specs.Fill.{kept_side}
use Rattle.edges.specs.Table.{edge_block, edge_place}
use Rattle.edges.specs.EdgeCount.{outline_few}
use Rattle.edges.specs.SidesLaws.{edges_kept}
use Rattle.edges.proofs.table.build.Goals as goal

pub loop-a-init : goal.loop-a-init
loop-a-init c = (tt, tt, rw (c.into_iter-a-iterator.ensures.into_iter_gives, c.of-a-items.ensures, edges_kept c.args.g (rings_of c.args.o)) (adding_start edge_place edge_block _ _ _))

pub put_side-n-requires : goal.put_side-n-requires
put_side-n-requires c = let o = c.args.o in omega (arith, c.loop-a.invariant.2.count, outline_few c.args.g o.corners.now o.ends.now o.laid)

pub loop-a-preserved : goal.loop-a-preserved
loop-a-preserved c =
    let r = rw c.in-Some.ensures.steps at c.loop-a.invariant.2 in
    (tt, tt, adding_step edge_place edge_block 5 (λ e. refl) (λ n m. omega arith) (kept_side (c.in-Some.a, c.in-Some.b)) (each kept_side c.next.new.self) r (rw c.kept_side.ensures at c.put_side-n.ensures))
