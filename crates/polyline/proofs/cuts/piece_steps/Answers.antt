-- `piece_steps` meets its contract: the squared length under the root of `dist`. Assumes nothing.
use mathlib.Core.Path.{◌∙◌}
use Rattle.polyline.specs.AlikeLaws.{squared}
use Rattle.polyline.proofs.cuts.piece_steps.Goals as goal

pub returns : goal.returns
returns c =
    let a = c.args in
    c.square_steps.ensures ∙ squared a.a a.b _ _ a.len c.minus-v.ensures c.dot.ensures
