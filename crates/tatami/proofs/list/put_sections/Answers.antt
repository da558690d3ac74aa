-- The section numbers, one by one. Assumes nothing.
use mathlib.Core.Path.{◌≡◌, ap, ◌∙◌}
use mathlib.Core.List.{◌++◌, map}
use native.Mathlib.Omega.{arith}
use Prim.Native.Nat.{◌+◌, ◌-◌, ◌*◌}
use lib.ListN.{drop, get_or}
use Rattle.seqs.specs.Front.{front_start, front_at, front_push, front_end}
use Rattle.seqs.specs.Upto.{upto_next, upto_none}
use Rattle.sewing.specs.Sewing.{numbers_in}
use Rattle.sewing.specs.LinkedLaws.{numbers_length}
use borrow.Author.Rules.{rules}
use Rattle.tatami.proofs.list.put_sections.Goals as goal

pub loop-i-init : goal.loop-i-init
loop-i-init c = let e : c.args.n - 0 ≡ c.args.n = omega arith in rw e (front_start _ _)

pub loop-i-preserved : goal.loop-i-preserved
loop-i-preserved c = (front_push (front_at (ap (map (λ j. get_or c.args.numbers.now (c.args.n + 2 * j) 0)) (upto_next c.args.n c.loop-i.i (search rules))) c.loop-i.invariant) (omega (arith, c.loop-i.invariant.len, c.requires.0)))

pub shape_of-out : goal.shape_of-out
shape_of-out c = c.loop-i.invariant.len

pub returns : goal.returns
unfolding numbers_in
returns c = front_end (front_at (ap (map (λ j. get_or c.args.numbers.now (c.args.n + 2 * j) 0)) (upto_none c.args.n c.loop-i.i (search rules))) c.loop-i.invariant) ∙ ap (λ k. numbers_in c.args.n c.args.numbers.now ++ drop k c.args.out.now) (numbers_length c.args.n c.args.numbers.now)
