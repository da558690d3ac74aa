-- `put_piece` meets its contract: nothing, one step or two by the half-way point and the corner, or all in turn. Assumes nothing.
use mathlib.Core.Path.{◌≡◌, refl}
use native.Mathlib.Omega.{arith}
use Rattle.seqs.specs.Put.{put_none}
use Rattle.geom.specs.Sewing.{flat}
use Rattle.polyline.specs.Line.{step_ends}
use Rattle.polyline.proofs.LineSteps.{short_put}
use borrow.Author.Rules.{rules}
use Rattle.polyline.proofs.put_piece.Goals as goal

pub returns-then-n-eq0 : goal.returns-then-n-eq0
unfolding flat step_ends
returns-then-n-eq0 c =
    let a = c.args in
    let e : a.n ≡ 0 = c.if-n-eq0.true in
    rw e (put_none a.out.now a.k (omega (arith, c.requires)), omega arith)

pub returns : goal.returns
returns c =
    let a = c.args in
    (short_put _ _ _ a.a a.b a.n a.k _ (search rules) (search rules) c.requires (rw c.lerp.ensures at c.put_point.ensures) refl c.put_point-2.ensures, omega arith)
