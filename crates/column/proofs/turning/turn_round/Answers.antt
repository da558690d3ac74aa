-- `turn_round` meets its contract: at each turn the ends of what is left are exchanged. Assumes nothing.
use mathlib.Core.Path.{◌≡◌, refl, ◌∙◌}
use Prim.Native.Nat.{◌-◌, ◌*◌, ◌/◌, ◌+◌, ◌<◌}
use native.Mathlib.Omega.{arith}
use lib.ListN.{length}
use Rattle.geom.specs.Outline.{points}
use Rattle.geom.specs.OutlineLaws.{points_length}
use Rattle.column.specs.TurnedLaws.{mid_start, mid_turn, mid_end, turn_size}
use Rattle.column.proofs.turning.turn_round.Goals as goal

pub loop-i-init : goal.loop-i-init
loop-i-init c =
    let a = c.args in
    let e : length (points a.s.now) ≡ length a.s.now / 2 - 2 * 0 = omega (arith, points_length a.s.now) in
    (refl, rw e at (mid_start (points a.s.now)))

pub swap_points-requires : goal.swap_points-requires
swap_points-requires c =
    let l = c.loop-i in
    (rw l.invariant.0 c.requires, omega (arith, c.loop-i-test.true, l.invariant.0), omega (arith, c.loop-i-test.true, l.invariant.0))

pub loop-i-preserved : goal.loop-i-preserved
loop-i-preserved c =
    let l = c.loop-i in
    let a = c.args in
    let more : 2 * l.i + 1 < length a.s.now / 2 = omega (arith, c.loop-i-test.true) in (
      turn_size _ _ l.i (length a.s.now / 2 - 1 - l.i) (rw l.invariant.0 c.requires) c.swap_points.ensures ∙ l.invariant.0,
      mid_turn _ _ l.i (length a.s.now / 2) l.invariant.1 more c.swap_points.ensures,
    )

pub shape_of-s : goal.shape_of-s
shape_of-s c = c.loop-i.invariant.0

pub returns : goal.returns
returns c =
    let l = c.loop-i in
    mid_end _ (rw l.invariant.0 c.requires) l.invariant.1 (omega (arith, c.loop-i-test.false))
