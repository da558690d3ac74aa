-- `resample_keep_corners` meets its contract: what is counted up to the room is what the room is compared with. Assumes nothing.
use mathlib.Core.Path.{refl, ap}
use Prim.Native.Nat.{ℕ}
use Rattle.refusal.specs.Refusal.{DONE}
use native.Mathlib.Omega.{arith}
use lib.ListN.{length}
use Rattle.geom.specs.Outline.{points}
use Rattle.polyline.specs.Line.{resample_keep_corners}
use Rattle.geom.specs.SewingLaws.{not_fitted, counted, fits, is_fitted}
use Rattle.polyline.proofs.resample_keep_corners.Goals as goal

pub returns-then-points-room : goal.returns-then-points-room
returns-then-points-room c =
    let a = c.args in
    rw (not_fitted (resample_keep_corners (points a.line.now) a.len) (length a.out.now) c.count_line-points.ensures c.if-points-room.true) (refl, refl)

pub put_line-requires : goal.put_line-requires
put_line-requires c =
    let a = c.args in
    omega (arith, fits (resample_keep_corners (points a.line.now) a.len) (length a.out.now) c.count_line-points.ensures c.if-points-room.false)

pub returns : goal.returns
returns c =
    let a = c.args in
    let m = resample_keep_corners (points a.line.now) a.len in
    rw (is_fitted m (length a.out.now) c.count_line-points.ensures c.if-points-room.false) (ap (λ (n : ℕ). record { answer = DONE; points = n }) (counted m (length a.out.now) c.count_line-points.ensures c.if-points-room.false), c.put_line.ensures.0)
