-- `end` meets its contract. Assumes nothing.
use mathlib.Core.Path.{ap, ◌∙◌}
use native.Mathlib.Omega.{arith}
use Rattle.clip.specs.Clip.{ended}
use Rattle.trail.specs.Trail.{held}
use Rattle.trail.specs.Parts.{held_min, wrote_past, put_wrote}
use borrow.Author.Rules.{rules}
use Rattle.trail.proofs.pen.end.Goals as goal

pub returns-then-s-stops : goal.returns-then-s-stops
returns-then-s-stops c =
    let a = c.args in
    (wrote_past a.stops.now (ended a.kept a.on a.n) a.s (search rules), c.saturating_add-to.ensures ∙ held_min a.s c.ended.result ∙ ap (held a.s) c.ended.ensures.0)

pub put_ended-requires : goal.put_ended-requires
put_ended-requires c = omega (arith, c.ended.ensures)

pub returns : goal.returns
returns c =
    let a = c.args in
    (put_wrote a.stops.now (ended a.kept a.on a.n) a.s (omega (arith, c.ended.ensures)) c.put_ended.ensures, c.saturating_add-to.ensures ∙ held_min a.s c.ended.result ∙ ap (held a.s) c.ended.ensures.0)
