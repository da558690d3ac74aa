use Rattle.std.proofs.Common.{◌≡◌}
use Rattle.geom.specs.Outline.{points}
use Rattle.satinrules.specs.Pairs.{centres_from, total_of}
use Rattle.pairing.proofs.places.Course.total.Given as goal

abbrev pub invariant-loop-w : goal.invariant-loop-w
invariant-loop-w l = centres_from l.sum l.w-iterator.0 l.w-iterator.1 ≡ total_of l.fn.self.ends (points l.fn.self.sync.now)
