use mathlib.Core.Path.{refl}
use native.Mathlib.Omega.{arith}
use Rattle.seqs.specs.Tests.{clash}
use Rattle.satin.proofs.underlay.lay_if.Goals as goal

pub lay_pairs-requires : goal.lay_pairs-requires
lay_pairs-requires c = omega (arith, (c.requires c.if-sewn.true).0)

pub returns-then-sewn : goal.returns-then-sewn
returns-then-sewn c =
    let r = c.lay_pairs.ensures in
    (r.1, λ t. rw r.0 at (r.2 (rw r.0 (c.requires t).1)))

pub returns-else-sewn : goal.returns-else-sewn
returns-else-sewn c = (refl, λ t. clash t c.if-sewn.false)
