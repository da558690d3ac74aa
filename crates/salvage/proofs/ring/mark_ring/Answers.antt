use mathlib.Core.Path.{ap, ◌∙◌}
use native.Mathlib.Omega.{arith}
use lib.ListN.{length}
use Rattle.geom.specs.Outline.{points}
use Rattle.geom.specs.OutlineLaws.{points_length}
use Rattle.std.specs.Prelude.{None}
use Rattle.salvage.specs.RingLaws.{strays_length, marks_length}
use Rattle.salvage.proofs.Rings.{ring_few, ring_enough}
use Rattle.salvage.proofs.ring.mark_ring.Goals as goal

pub mark_closing-requires : goal.mark_closing-requires
mark_closing-requires c = omega (arith, c.requires, ap length c.mark_strays.ensures, strays_length None (points c.args.ring.now), points_length c.args.ring.now)

pub shape_of-marks-then-count_kept-lt3 : goal.shape_of-marks-then-count_kept-lt3
shape_of-marks-then-count_kept-lt3 c = ap length (ring_few (points c.args.ring.now) _ _ c.mark_strays.ensures c.mark_closing.ensures _ c.mark_all.ensures (omega (arith, c.count_kept.ensures, c.if-count_kept-lt3.true))) ∙ marks_length (points c.args.ring.now) ∙ omega (arith, c.requires, points_length c.args.ring.now)

pub returns-then-count_kept-lt3 : goal.returns-then-count_kept-lt3
returns-then-count_kept-lt3 c = ring_few (points c.args.ring.now) _ _ c.mark_strays.ensures c.mark_closing.ensures _ c.mark_all.ensures (omega (arith, c.count_kept.ensures, c.if-count_kept-lt3.true))

pub shape_of-marks-else-count_kept-lt3 : goal.shape_of-marks-else-count_kept-lt3
shape_of-marks-else-count_kept-lt3 c = ap length (ring_enough (points c.args.ring.now) _ _ c.mark_strays.ensures c.mark_closing.ensures (omega (arith, c.count_kept.ensures, c.if-count_kept-lt3.false))) ∙ marks_length (points c.args.ring.now) ∙ omega (arith, c.requires, points_length c.args.ring.now)

pub returns-else-count_kept-lt3 : goal.returns-else-count_kept-lt3
returns-else-count_kept-lt3 c = ring_enough (points c.args.ring.now) _ _ c.mark_strays.ensures c.mark_closing.ensures (omega (arith, c.count_kept.ensures, c.if-count_kept-lt3.false))
