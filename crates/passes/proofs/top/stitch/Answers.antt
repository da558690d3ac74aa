-- `stitch` meets its contract: both points moved out by the pull, and in again where the stitch is short. Assumes nothing.
use Rattle.std.proofs.Common.{sym, inl, inr}
use Rattle.passes.specs.TopLaws.{stitch_short, stitch_first, stitch_long}
use Rattle.passes.proofs.top.stitch.Goals as goal

pub returns-then-second : goal.returns-then-second
returns-then-second c =
    let a = c.args in
    rw (stitch_short a.g a.second a.o a.q c.if-g.true c.if-second.true, c.shortened.ensures, c.crowded.ensures, c.crowded-then-second.ensures, c.widened-w.ensures)

pub returns-else-g : goal.returns-else-g
returns-else-g c =
    let a = c.args in
    elim c.else-g.either [
      | inl e ↦ rw c.widened-w.ensures (sym (stitch_first a.g a.second a.o a.q e.0 e.1))
      | inr e ↦ rw c.widened-w.ensures (sym (stitch_long a.g a.second a.o a.q e))
    ]
