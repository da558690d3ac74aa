use mathlib.Core.Path.{ap, ◌∙◌}
use mathlib.Core.List.{[], ◌∷◌}
use Prim.Native.Nat.{◌+◌, ◌*◌}
use native.Mathlib.Omega.{arith}
use lib.ListN.{drop}
use Rattle.seqs.specs.Front.{front_start, front_at, front_end}
use Rattle.geom.specs.Outline.{points}
use Rattle.geom.specs.OutlineLaws.{corner_at}
use Rattle.geom.specs.Sewing.{flat}
use Rattle.geom.specs.SewingLaws.{flat_none, points_room, points_put}
use Rattle.salvage.specs.Ring.{left}
use Rattle.salvage.proofs.Turns.{left_kept, left_dropped, left_end}
use borrow.Author.Rules.{rules}
use Rattle.salvage.proofs.writing.put_corners.Goals as goal
use Rattle.salvage.proofs.writing.put_corners.Goals.{then-m-eq-KEPT, else-m-eq-KEPT}

pub loop-i-init : goal.loop-i-init
loop-i-init c = front_start _ _

pub put_point-requires : goal.put_point-requires
put_point-requires c =
    let l = c.loop-i in
    let cs = c.args.corners.now in
    let ms = c.args.marks.now in
    let f = front_at (ap flat (left_kept cs l.i (omega (arith, c.requires.0, c.loop-i-test.true)) ms (search rules) c.if-m-eq-KEPT.true)) l.invariant in
    omega (arith, points_room (corner_at cs (2 * l.i) ∷ []) (left (drop (l.i + 1) ms) (points (drop (2 * (l.i + 1)) cs))) f c.requires.1)

pub loop-i-preserved : goal.loop-i-preserved
loop-i-preserved c =
    let l = c.loop-i in
    let cs = c.args.corners.now in
    let ms = c.args.marks.now in
    elim c.if-m-eq-KEPT.branch [
      | then-m-eq-KEPT w ↦
          let f = front_at (ap flat (left_kept cs l.i (omega (arith, c.requires.0, c.loop-i-test.true)) ms (search rules) w.if-m-eq-KEPT.true)) l.invariant in
          rw (w.out-is, w.k-is) (points_put (corner_at cs (2 * l.i) ∷ []) (left (drop (l.i + 1) ms) (points (drop (2 * (l.i + 1)) cs))) f c.requires.1 _ (w.put_point.ensures ∙ rw w.corner.ensures))
      | else-m-eq-KEPT w ↦ rw (w.out-is, w.k-is) (front_at (ap flat (left_dropped cs l.i (omega (arith, c.requires.0, c.loop-i-test.true)) ms (search rules) w.if-m-eq-KEPT.false)) l.invariant)
    ]

pub returns : goal.returns
returns c =
    let l = c.loop-i in
    front_end (front_at (flat_none (left_end c.args.corners.now c.args.marks.now l.i (search rules))) l.invariant)
