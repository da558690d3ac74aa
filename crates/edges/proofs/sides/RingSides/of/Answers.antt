use Rattle.std.proofs.Common.{length, ap, sym, ◌∙◌, arith}
use Rattle.geom.specs.OutlineLaws.{points_length}
use Rattle.edges.specs.SidesLaws.{ring_first, ring_none}
use Rattle.edges.proofs.sides.RingSides.of.Goals as goal
use Rattle.edges.proofs.sides.RingSides.of.Goals.{in-Some, in_default-2, in_default}

pub returns : goal.returns
returns c =
    let a = c.args in
    let p = sym c.of-rest.ensures in
    elim c.match-next.branch [
      | in-Some w ↦ rw w.from-is (ring_first a.g a.ring.now (p ∙ w.in-Some.ensures.steps) w.if-ring-ge6.true w.turned-first.ensures)
      | in_default-2 w ↦ rw w.from-is (ring_none a.g a.ring.now w.if-ring-ge6.false)
      | in_default w ↦ rw w.from-is (ring_none a.g a.ring.now (omega (arith, points_length a.ring.now, ap length (p ∙ w.in_default.ensures.steps.0))))
    ]
