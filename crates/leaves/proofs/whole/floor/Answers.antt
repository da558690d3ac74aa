use Rattle.std.proofs.Common.{Bool, ap, ◌∙◌}
use Rattle.numbers.specs.Whole.{floor, whole_of}
use Rattle.leaves.proofs.whole.floor.Goals as goal

pub returns : goal.returns
unfolding floor
returns c = c.whole.ensures ∙ ap (λ (t : Bool). whole_of t c.args.x) c.is_negative.ensures
