use Rattle.dst.specs.LiftedLaws.{lifted_origin}
use Rattle.dst.proofs.place.Place.origin.Goals as goal

pub returns : goal.returns
returns c = lifted_origin
