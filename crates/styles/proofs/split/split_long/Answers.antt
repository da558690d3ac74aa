-- `split_long` meets its contract: what is counted up to the room is what the room is compared with. Assumes nothing.
use Rattle.std.proofs.Common.{ℕ, ap}
use Rattle.refusal.specs.Refusal.{DONE}
use mathlib.Core.Path.{refl}
use native.Mathlib.Omega.{arith}
use lib.ListN.{length}
use Rattle.geom.specs.Outline.{points}
use Rattle.geom.specs.SewingLaws.{not_fitted, counted, fits, is_fitted}
use Rattle.satinrules.specs.Column.{split_long}
use Rattle.styles.proofs.split.split_long.Goals as goal

pub returns-then-points-room : goal.returns-then-points-room
returns-then-points-room c =
    let a = c.args in
    rw (not_fitted (split_long (points a.line.now) a.max) (length a.out.now) c.count_split-points.ensures c.if-points-room.true) (refl, refl)

pub put_split-requires : goal.put_split-requires
put_split-requires c =
    let a = c.args in
    omega (arith, fits (split_long (points a.line.now) a.max) (length a.out.now) c.count_split-points.ensures c.if-points-room.false)

pub returns : goal.returns
returns c =
    let a = c.args in
    let m = split_long (points a.line.now) a.max in
    rw (is_fitted m (length a.out.now) c.count_split-points.ensures c.if-points-room.false) (ap (λ (n : ℕ). record { answer = DONE; points = n }) (counted m (length a.out.now) c.count_split-points.ensures c.if-points-room.false), c.put_split.ensures.0)
