use mathlib.Core.Path.{ap, ◌∙◌}
use native.Mathlib.Omega.{arith}
use lib.Ieee.{neg}
use Rattle.dst_read.specs.LiftedLaws.{real_up, real_down}
use Rattle.dst_read.proofs.write.back.Goals as goal

pub returns-then-x-lt-LIFT : goal.returns-then-x-lt-LIFT
returns-then-x-lt-LIFT c = ap neg c.of_u64.ensures ∙ real_down c.args.x (omega arith)

pub returns : goal.returns
returns c = c.of_u64-2.ensures ∙ real_up c.args.x (omega arith)
