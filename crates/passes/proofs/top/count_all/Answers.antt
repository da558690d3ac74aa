use mathlib.Core.Path.{ap, ◌∙◌}
use native.Mathlib.Omega.{arith}
use Rattle.seqs.specs.Slices.{capped}
use Rattle.geom.specs.OutlineLaws.{points_length}
use Rattle.passes.proofs.top.count_all.Goals as goal

pub returns : goal.returns
returns c = c.add_within.ensures ∙ ap (capped c.args.room) (omega (arith, points_length c.args.line.now))
