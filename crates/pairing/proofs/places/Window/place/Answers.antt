use Rattle.std.specs.Float.Ieee.{of_bits, round}
use Rattle.numbers.specs.Num.{literal}
use Rattle.geom.specs.Point.{tiny}
use Rattle.satinrules.specs.Pairs.{place_at}
use Rattle.pairing.proofs.places.Window.place.Goals as goal
use Rattle.pairing.proofs.places.Window.place.Goals.{then-c, else-c}

pub returns : goal.returns
unfolding literal of_bits place_at round tiny
returns c =
    elim c.if-c.branch [
      | then-c w ↦ rw (← c.centre-c.ensures, w.if-c.true, w.t-is)
      | else-c w ↦ rw (← c.centre-c.ensures, w.if-c.false, w.t-is)
    ]
