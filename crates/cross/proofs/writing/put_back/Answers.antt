-- `put_back` meets its contract: the cells from t on are still to be written. Assumes nothing.
use native.Mathlib.Omega.{arith}
use mathlib.Core.Path.{◌≡◌, ap}
use mathlib.Core.List.{reverse}
use Prim.Native.Nat.{◌+◌, ◌-◌, ◌*◌}
use lib.ListN.{drop, length-reverse}
use Rattle.seqs.specs.Lists.{upto, each}
use Rattle.seqs.specs.Upto.{upto_length}
use Rattle.seqs.specs.Front.{front_from, front_at}
use Rattle.seqs.specs.Wrote.{put_end}
use Rattle.geom.specs.Sewing.{flat}
use Rattle.geom.specs.SewingLaws.{flat_length, flat_none}
use Rattle.patterns_rules.specs.Patterns.{back_over}
use Rattle.cross.specs.RowLaws.{back_two, half_back, back_next, back_none}
use Rattle.cross.proofs.Turns.{stitch_room, stitch_put}
use borrow.Author.Rules.{rules}
use Rattle.cross.proofs.writing.put_back.Goals as goal

pub loop-t-init : goal.loop-t-init
loop-t-init c = let a = c.args in let e : a.k + 4 * 0 ≡ a.k = omega arith in rw e (front_from a.out.now (flat (each (back_over a.badge.grid a.y) (reverse (upto a.run.first a.run.many)))) a.k (omega (arith, c.requires.1)))

pub x_at-x-requires : goal.x_at-x-requires
x_at-x-requires c = omega (arith, c.requires.0, c.loop-t-test.true)

pub put_stitch-requires : goal.put_stitch-requires
put_stitch-requires c = let a = c.args in let l = c.loop-t in
    stitch_room a.k l.t (each (back_over a.badge.grid a.y) (reverse (upto a.run.first a.run.many))) (back_over a.badge.grid a.y (a.run.first + (a.run.many - 1 - l.t))) (each (back_over a.badge.grid a.y) (drop (l.t + 1) (reverse (upto a.run.first a.run.many)))) (back_two a.badge.grid a.y (a.run.first + (a.run.many - 1 - l.t))) (front_at (ap flat (back_next a.badge.grid a.y a.run.first a.run.many l.t (search rules))) l.invariant) (omega (arith, c.requires.1, flat_length (each (back_over a.badge.grid a.y) (reverse (upto a.run.first a.run.many))), half_back a.badge.grid a.y (reverse (upto a.run.first a.run.many)), length-reverse (upto a.run.first a.run.many), upto_length a.run.first a.run.many))

pub loop-t-preserved : goal.loop-t-preserved
unfolding back_over
loop-t-preserved c = let a = c.args in let l = c.loop-t in
    let e = rw c.x_at-x.ensures at c.put_stitch.ensures in
    stitch_put a.k l.t (each (back_over a.badge.grid a.y) (reverse (upto a.run.first a.run.many))) (back_over a.badge.grid a.y (a.run.first + (a.run.many - 1 - l.t))) (each (back_over a.badge.grid a.y) (drop (l.t + 1) (reverse (upto a.run.first a.run.many)))) (back_two a.badge.grid a.y (a.run.first + (a.run.many - 1 - l.t))) (front_at (ap flat (back_next a.badge.grid a.y a.run.first a.run.many l.t (search rules))) l.invariant) (omega (arith, c.requires.1, flat_length (each (back_over a.badge.grid a.y) (reverse (upto a.run.first a.run.many))), half_back a.badge.grid a.y (reverse (upto a.run.first a.run.many)), length-reverse (upto a.run.first a.run.many), upto_length a.run.first a.run.many)) _ e

pub shape_of-out : goal.shape_of-out
shape_of-out c = c.loop-t.invariant.len

pub returns : goal.returns
returns c = let a = c.args in let l = c.loop-t in
    (put_end (flat (each (back_over a.badge.grid a.y) (reverse (upto a.run.first a.run.many)))) a.k (omega (arith, c.requires.1)) (front_at (flat_none (back_none a.badge.grid a.y a.run.first a.run.many l.t (search rules))) l.invariant)).0
