-- `put_pass` meets its contract: the points of the pass from r on are to be written from `at` on. Assumes nothing.
use native.Mathlib.Omega.{arith}
use Rattle.seqs.specs.Front.{front_from, front_at}
use Rattle.seqs.specs.Wrote.{put_end}
use Rattle.geom.specs.Sewing.{flat}
use Rattle.geom.specs.SewingLaws.{flat_none, flat_length}
use Rattle.stroke.specs.Running.{pass, standing}
use Rattle.stroke.specs.RunningLaws.{pass_length, pass_none, standing_length}
use Rattle.stroke.proofs.PassSteps.{pass_room, pass_step}
use borrow.Author.Rules.{rules}
use Rattle.stroke.proofs.passes.put_pass.Goals as goal

pub loop-r-init : goal.loop-r-init
unfolding pass
loop-r-init c =
    let a = c.args in
    (search rules, front_from a.out.now (flat (pass (standing a.out.now a.n) a.back)) a.k (omega (arith, c.requires)))

pub put_point-requires : goal.put_point-requires
put_point-requires c =
    let a = c.args in
    let l = c.loop-r in
    omega (arith, pass_room a.k a.n a.back l.r l.invariant.1 c.requires.0 c.requires.1 l.invariant.0 (search rules))

pub loop-r-preserved : goal.loop-r-preserved
loop-r-preserved c =
    let a = c.args in
    let l = c.loop-r in
    let e = rw (c.corner-p.ensures, c.place.ensures) at c.put_point.ensures in
    (search rules, pass_step a.k a.n a.back l.r l.invariant.1 c.requires.0 c.requires.1 l.invariant.0 (search rules) _ e)

pub returns : goal.returns
returns c =
    let a = c.args in
    let l = c.loop-r in
    let one = standing a.out.now a.n in
    let f = put_end (flat (pass one a.back)) a.k (omega (arith, c.requires)) (front_at (flat_none (pass_none a.out.now a.n (omega (arith, c.requires)) a.back l.r (search rules))) l.invariant.1) in
    (f.0, omega (arith, f.1, flat_length (pass one a.back), pass_length one a.back, standing_length a.out.now a.n (omega (arith, c.requires))))
