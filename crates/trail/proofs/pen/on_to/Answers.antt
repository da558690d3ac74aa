-- `on_to` meets its contract. Assumes nothing.
use Rattle.trail.specs.Trail.{on_to}
use Rattle.trail.proofs.pen.on_to.Goals as goal

pub returns : goal.returns
unfolding on_to
returns c =
    let k = c.piece_inside-kept.ensures in
    record { pen = rw (c.has-is.ensures, c.end-lines.ensures.1, c.add-points.ensures.1, k); lines = rw k at c.end-lines.ensures.1; count = rw k at c.add-points.ensures.1; points = rw k at c.add-points.ensures.0; stops = rw k at c.end-lines.ensures.0 }
