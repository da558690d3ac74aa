use Rattle.std.proofs.Common.{◌∙◌}
use Rattle.geom.specs.Outline.{points}
use Rattle.pairing.specs.WalkLaws.{pass_by}
use Rattle.pairing.proofs.places.Course.pass.Goals as goal

pub returns : goal.returns
returns c = c.pass_along.ensures ∙ pass_by c.args.self.ends (points c.args.self.sync.now) c.args.step c.total.ensures
