-- `put_steps` meets its contract: the ends of the steps from i on are to be written from `at` on, and then the corner. Assumes nothing.
use Prim.Native.Nat.{◌-◌}
use native.Mathlib.Omega.{arith}
use Rattle.seqs.specs.Front.{front_at}
use Rattle.seqs.specs.Wrote.{put_end}
use Rattle.polyline.specs.Line.{steps_from}
use Rattle.geom.specs.Sewing.{flat}
use Rattle.geom.specs.SewingLaws.{flat_none}
use Rattle.polyline.proofs.LineLaws.{steps_size, steps_none}
use Rattle.polyline.proofs.LineSteps.{step_put, last_put}
use borrow.Author.Rules.{rules}
use Rattle.polyline.proofs.put_steps.Goals as goal

pub loop-i-preserved : goal.loop-i-preserved
loop-i-preserved c =
    let a = c.args in
    let l = c.loop-i in
    let e = rw c.along.ensures at c.put_point.ensures in
    (omega arith, step_put a.k a.a a.b a.n l.i l.invariant.1 c.requires.1 (search rules) _ e)

pub returns : goal.returns
returns c =
    let a = c.args in
    let l = c.loop-i in
    let e = put_end (flat (steps_from a.a a.b a.n 1 (a.n - 1))) a.k (omega (arith, c.requires.1)) (front_at (flat_none (steps_none a.a a.b a.n l.i (search rules))) l.invariant.1) in
    (last_put a.a a.b a.n c.requires.0 a.out.now _ _ a.k l.at c.requires.1 e.0 (omega (arith, e.1, steps_size a.a a.b a.n 1 (a.n - 1))) c.put_point-2.ensures, omega (arith, e.1, steps_size a.a a.b a.n 1 (a.n - 1)))
