use mathlib.Core.Path.{◌≡◌}
use mathlib.Core.Bool.{true, false}
use lib.Ieee.{of_bits, lt}
use Rattle.numbers.specs.Num.{zero64}
use Rattle.geom.specs.Point.{minus, cross}
use Rattle.outlines.specs.Winding.{edge}
use Rattle.outlines.proofs.winding.edge.Goals as goal

pub returns-then-cross : goal.returns-then-cross
unfolding edge of_bits
returns-then-cross c =
    let s = c.args in
    let q : lt zero64 (cross (minus s.b s.a) (minus s.p s.a)) ≡ true = cc in
    rw (c.if-a-p.true, c.if-b-p.true, q)

pub returns-else-cross : goal.returns-else-cross
unfolding edge of_bits
returns-else-cross c =
    let s = c.args in
    let q : lt zero64 (cross (minus s.b s.a) (minus s.p s.a)) ≡ false = cc in
    rw (c.if-a-p.true, c.if-b-p.true, q)

pub returns-else-b-p : goal.returns-else-b-p
unfolding edge
returns-else-b-p c =
    let s = c.args in
    let below : lt s.p.y s.b.y ≡ false = c.if-b-p.false in
    rw (c.if-a-p.true, below)

pub returns-then-cross-2 : goal.returns-then-cross-2
unfolding edge of_bits
returns-then-cross-2 c =
    let s = c.args in
    let q : lt (cross (minus s.b s.a) (minus s.p s.a)) zero64 ≡ true = cc in
    rw (c.if-a-p.false, c.if-b-p-2.true, q)

pub returns-else-cross-2 : goal.returns-else-cross-2
unfolding edge of_bits
returns-else-cross-2 c =
    let s = c.args in
    let q : lt (cross (minus s.b s.a) (minus s.p s.a)) zero64 ≡ false = cc in
    rw (c.if-a-p.false, c.if-b-p-2.true, q)

pub returns-else-b-p-2 : goal.returns-else-b-p-2
unfolding edge
returns-else-b-p-2 c = rw (c.if-a-p.false, c.if-b-p-2.false)
