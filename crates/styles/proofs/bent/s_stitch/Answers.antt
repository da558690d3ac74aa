-- `s_stitch` meets its contract: three points a side and one more have room, or what is counted up to the room is what the room is compared with. Assumes nothing.
use Rattle.std.proofs.Common.{ℕ, ap}
use Rattle.refusal.specs.Refusal.{DONE}
use mathlib.Core.Path.{◌≡◌, refl, sym}
use Prim.Native.Nat.{ℕ, ◌/◌, ◌+◌, ◌≤◌}
use native.Mathlib.Omega.{arith}
use mathlib.Core.List.{List}
use lib.ListN.{length}
use lib.Ieee.{Float}
use Rattle.seqs.specs.Capped.{capped_in}
use Rattle.geom.specs.Outline.{points}
use Rattle.geom.specs.OutlineLaws.{points_length}
use Rattle.geom.specs.SewingLaws.{flat_length, not_fitted, counted, fits, is_fitted}
use Rattle.satinrules.specs.Column.{s_stitch}
use Rattle.styles.specs.SidesLaws.{bent_most}
use Rattle.styles.proofs.bent.s_stitch.Goals as goal

within : (l : List Float) (room : ℕ) → length l / 2 ≤ (room / 2 + 2) / 3 → length (s_stitch (points l)) ≤ room / 2
within l room h = omega (arith, bent_most (points l), points_length l)

pub put_bent-end-requires : goal.put_bent-end-requires
put_bent-end-requires c =
    let a = c.args in
    let m = s_stitch (points a.line.now) in omega (arith, within a.line.now (length a.out.now) c.if-line-out.true, flat_length m)

pub returns-then-line-out : goal.returns-then-line-out
returns-then-line-out c =
    let a = c.args in
    let m = s_stitch (points a.line.now) in
    let h = within a.line.now (length a.out.now) c.if-line-out.true in
    let n : c.put_bent-end.result / 2 ≡ length m = omega (arith, c.put_bent-end.ensures.1, flat_length m) in
    rw (is_fitted m (length a.out.now) (sym (capped_in (length a.out.now / 2) (length m) h)) h) (ap (λ (n : ℕ). record { answer = DONE; points = n }) n, c.put_bent-end.ensures.0)

pub returns-then-points-room : goal.returns-then-points-room
returns-then-points-room c =
    let a = c.args in
    rw (not_fitted (s_stitch (points a.line.now)) (length a.out.now) c.count_bent-points.ensures c.if-points-room.true) (refl, refl)

pub put_bent-requires : goal.put_bent-requires
put_bent-requires c =
    let a = c.args in
    omega (arith, fits (s_stitch (points a.line.now)) (length a.out.now) c.count_bent-points.ensures c.if-points-room.false)

pub returns : goal.returns
returns c =
    let a = c.args in
    let m = s_stitch (points a.line.now) in
    rw (is_fitted m (length a.out.now) c.count_bent-points.ensures c.if-points-room.false) (ap (λ (n : ℕ). record { answer = DONE; points = n }) (counted m (length a.out.now) c.count_bent-points.ensures c.if-points-room.false), c.put_bent.ensures.0)
