use Rattle.std.proofs.Common.{Bool, not, ap, ◌∙◌}
use Rattle.numbers.specs.Whole.{ceil, whole_of}
use Rattle.leaves.proofs.whole.ceil.Goals as goal

pub returns : goal.returns
unfolding ceil
returns c = c.whole.ensures ∙ ap (λ (t : Bool). whole_of t c.args.x) (ap not c.is_negative.ensures)
