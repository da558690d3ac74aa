use Rattle.std.proofs.Common.{refl, arith}
use Rattle.seqs.specs.Adding.{adding_at, adding_step, added_one}
use Rattle.sweep.specs.Swept.{span_block, block_place}
use borrow.Author.Rules.{rules}
use Rattle.sweep.specs.SweptLaws.{cuts_few}
use Rattle.sweep.proofs.piece.put_pieces.Goals as goal

pub loop-p-preserved : goal.loop-p-preserved
loop-p-preserved c =
    let enc = span_block c.args.c.y in
    (search rules, search rules, adding_step block_place enc 3 (λ p. refl) (λ n m. omega arith) _ _ (adding_at block_place enc c.in-Some.ensures.steps c.loop-p.invariant.2) (added_one block_place enc 3 (λ p. refl) (λ n m. omega arith) c.put_piece.ensures))

pub overflow_mul-n : goal.overflow_mul-n
overflow_mul-n c = omega (arith, c.loop-p.invariant.2.count, cuts_few c.args.c c.args.table.now c.args.places.now)

pub put_piece-requires : goal.put_piece-requires
put_piece-requires c = omega (arith, c.loop-p.invariant.2.count, cuts_few c.args.c c.args.table.now c.args.places.now)

pub overflow_add-n : goal.overflow_add-n
overflow_add-n c = omega (arith, c.loop-p.invariant.2.count, cuts_few c.args.c c.args.table.now c.args.places.now)
