-- `put_passes` meets its contract: the passes from t on are to be written from `at` on. Assumes nothing.
use Prim.Native.Nat.{◌-◌, ◌*◌}
use native.Mathlib.Omega.{arith}
use Rattle.seqs.specs.Front.{front_from, front_at}
use Rattle.seqs.specs.Wrote.{put_end}
use Rattle.geom.specs.Sewing.{flat}
use Rattle.geom.specs.SewingLaws.{flat_none}
use Rattle.stroke.specs.Running.{passes_from, standing}
use Rattle.stroke.specs.RunningLaws.{passes_none}
use Rattle.stroke.proofs.PassSteps.{run_room, run_step}
use borrow.Author.Rules.{rules}
use Rattle.stroke.proofs.passes.put_passes.Goals as goal

pub loop-pass-init : goal.loop-pass-init
loop-pass-init c =
    let a = c.args in
    (search rules, front_from a.out.now (flat (passes_from (standing a.out.now a.n) 1 (a.passes - 1))) (2 * a.n) (omega (arith, c.requires)))

pub put_pass-at-requires : goal.put_pass-at-requires
put_pass-at-requires c =
    let a = c.args in
    let l = c.loop-pass in
    (l.invariant.0, run_room a.n l.pass a.passes l.invariant.1 c.requires l.invariant.0 (search rules))

pub loop-pass-preserved : goal.loop-pass-preserved
loop-pass-preserved c =
    let a = c.args in
    let l = c.loop-pass in
    (omega (arith, l.invariant.0, c.put_pass-at.ensures.1), rw c.put_pass-at.ensures.1 (run_step a.n l.pass a.passes l.invariant.1 c.requires l.invariant.0 (search rules) _ c.put_pass-at.ensures.0))

pub shape_of-out : goal.shape_of-out
shape_of-out c = c.loop-pass.invariant.1.len

pub returns : goal.returns
returns c =
    let a = c.args in
    let l = c.loop-pass in
    let one = standing a.out.now a.n in
    (put_end (flat (passes_from one 1 (a.passes - 1))) (2 * a.n) (omega (arith, c.requires)) (front_at (flat_none (passes_none one l.pass a.passes (search rules))) l.invariant.1)).0
