-- `alike` meets its contract: both ends tell as many, and so all between. Assumes nothing.
use mathlib.Core.Path.{sym, subst}
use lib.Dec.{T}
use lib.Ieee.{of_bits}
use Rattle.numbers.specs.Order.{finite}
use Rattle.numbers.specs.Laws.{holds}
use Rattle.polyline.proofs.LineLaws.{shortest_bits}
use Rattle.polyline.specs.CutsLaws.{alike_steps}
use Rattle.polyline.proofs.cuts.alike.Goals as goal

pub returns-then-of_u64-lo : goal.returns-then-of_u64-lo
unfolding of_bits finite
returns-then-of_u64-lo c = λ _.
    let a = c.args in
    let g = c.well_formed in
    alike_steps a.lo a.hi a.len _ tt (subst T (sym g.0.1) tt) (subst T (sym g.1.0.1) tt)
    (rw shortest_bits (holds c.if-lo.true)) (holds c.if-lo-hi.true) (holds c.if-hi.true) (holds c.if-len.true) (holds c.if-len-2.true) _ c.if-n-lt4503599627370496.true c.to_u64-n.ensures (holds (rw c.of_u64.ensures at c.if-of_u64-lo.true))
