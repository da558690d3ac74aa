-- `sew_halves` meets its contract: what is counted up to the room is what the room is compared with. Assumes nothing.
use Rattle.std.proofs.Common.{ℕ, ap}
use Rattle.refusal.specs.Refusal.{DONE}
use mathlib.Core.Path.{refl, ◌∙◌}
use native.Mathlib.Omega.{arith}
use lib.ListN.{length}
use Rattle.geom.specs.SewingLaws.{not_fitted, counted, fits, is_fitted, flat_length}
use Rattle.satinrules.specs.Column.{column}
use Rattle.satinrules.specs.Calls.{rails_of}
use Rattle.column.specs.HalvesLaws.{ready_same}
use Rattle.column.proofs.halves.sew_halves.Goals as goal

pub returns-then-points-room : goal.returns-then-points-room
returns-then-points-room c =
    let a = c.args in
    rw (not_fitted (column (rails_of a.rails.a.now a.rails.b.now a.rails.course.sync.now) a.g) (length a.out.now) c.count_halves-points.ensures.0 c.if-points-room.true) (refl, refl, c.count_halves-points.ensures.1)

pub put_halves-requires : goal.put_halves-requires
put_halves-requires c =
    let a = c.args in
    let m = column (rails_of a.rails.a.now a.rails.b.now a.rails.course.sync.now) a.g in
    (ready_same c.requires.0 c.count_halves-points.ensures.1, c.count_halves-points.ensures.2, omega (arith, fits m (length a.out.now) c.count_halves-points.ensures.0 c.if-points-room.false, flat_length m))

pub returns : goal.returns
returns c =
    let a = c.args in
    let m = column (rails_of a.rails.a.now a.rails.b.now a.rails.course.sync.now) a.g in
    rw (is_fitted m (length a.out.now) c.count_halves-points.ensures.0 c.if-points-room.false) (ap (λ (n : ℕ). record { answer = DONE; points = n }) (counted m (length a.out.now) c.count_halves-points.ensures.0 c.if-points-room.false), c.put_halves.ensures.0, c.put_halves.ensures.1 ∙ c.count_halves-points.ensures.1)
