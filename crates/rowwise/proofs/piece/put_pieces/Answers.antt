use Rattle.std.proofs.Common.{refl, arith, rules}
use Rattle.seqs.specs.Adding.{adding_start, adding_at, adding_step, adding_end, added_one}
use Rattle.geom.specs.Rings.{rings_of}
use Rattle.rules.specs.Fill.{edges}
use Rattle.sweep.specs.Swept.{span_block}
use Rattle.rowwise.specs.Rows.{place}
use Rattle.rowwise.specs.RowLaws.{row_few}
use Rattle.rowwise.proofs.piece.put_pieces.Goals as goal

pub new-p-items-requires : goal.new-p-items-requires
new-p-items-requires c = (c.requires.0, c.requires.1, c.requires.2)

pub loop-p-init : goal.loop-p-init
loop-p-init c = (search rules, search rules, rw (c.into_iter-p-iterator.ensures.into_iter_gives, c.new-p-items.ensures) (adding_start place (span_block c.args.c.y) _ _ _))

pub loop-p-preserved : goal.loop-p-preserved
loop-p-preserved c =
    let enc = span_block c.args.c.y in
    (search rules, search rules, adding_step place enc 3 (λ p. refl) (λ n m. omega arith) _ _ (adding_at place enc c.in-Some.ensures.steps c.loop-p.invariant.2) (added_one place enc 3 (λ p. refl) (λ n m. omega arith) c.put_piece.ensures))

pub overflow_mul-n : goal.overflow_mul-n
overflow_mul-n c = omega (arith, c.loop-p.invariant.2.count, row_few c.args.c (edges c.args.g (rings_of c.args.o)), c.requires.2, c.requires.3)

pub put_piece-requires : goal.put_piece-requires
put_piece-requires c = omega (arith, c.loop-p.invariant.2.count, row_few c.args.c (edges c.args.g (rings_of c.args.o)), c.requires.2, c.requires.3)

pub overflow_add-n : goal.overflow_add-n
overflow_add-n c = omega (arith, c.loop-p.invariant.2.count, row_few c.args.c (edges c.args.g (rings_of c.args.o)), c.requires.2, c.requires.3)

pub returns : goal.returns
returns c =
    let enc = span_block c.args.c.y in
    let added = adding_end place enc (adding_at place enc c.in-None.ensures.steps.0 c.loop-p.invariant.2) in
    record { added = added; few = omega (arith, added.count, row_few c.args.c (edges c.args.g (rings_of c.args.o)), c.requires.2) }
