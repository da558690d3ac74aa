use mathlib.Core.Path.{refl}
use Rattle.rules.specs.Fill.{edge_of}
use Rattle.edges.proofs.side.edge_of.Goals as goal

pub returns : goal.returns
unfolding edge_of
returns c = refl
