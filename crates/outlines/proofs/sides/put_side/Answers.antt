use mathlib.Core.Path.{refl}
use Rattle.seqs.specs.Wrote.{wrote_stores}
use Rattle.outlines.specs.Sides.{side}
use Rattle.outlines.proofs.sides.put_side.Goals as goal

pub returns : goal.returns
returns c = (wrote_stores _ _ (side c.args.a c.args.b), refl)
