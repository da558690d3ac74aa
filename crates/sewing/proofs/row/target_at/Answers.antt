-- A target, by its index. Assumes nothing.
use Rattle.std.proofs.Common.{arith, ap, ◌<◌, lt-ltb, le-ltb, eq-eqb, ne_eqb}
use Rattle.geom.specs.Point.{point}
use Rattle.sewing.specs.Sewing.{target}
use Rattle.sewing.proofs.Signs.{read, first_fits}
use Rattle.sewing.proofs.row.target_at.Goals as goal
use Rattle.sewing.proofs.row.target_at.Goals.{then-w, else-w}

pub returns-then-r-eq0 : goal.returns-then-r-eq0
unfolding target
returns-then-r-eq0 c = rw (eq-eqb _ _ c.if-r-eq0.true)

pub returns-then-r-w : goal.returns-then-r-w
unfolding target
returns-then-r-w c = rw (ne_eqb _ _ c.if-r-eq0.false, lt-ltb _ _ c.if-r-w.true)

pub needle_at-requires : goal.needle_at-requires
needle_at-requires c =
    let w = c.args.l.row in
    let h : c.if-w.i < w.n = elim c.if-w.branch [ then-w v ↦ omega arith | else-w v ↦ omega arith ] in
    let z = read w.m0 (first_fits w (omega arith) c.args.l.near) in
    rw z (c.args.l.near c.if-w.i h, omega (arith, c.requires))

pub returns-after-w : goal.returns-after-w
unfolding target
returns-after-w c =
    let w = c.args.l.row in
    let z = read w.m0 (first_fits w (omega arith) c.args.l.near) in
    let e = ap (λ x. point x w.y) (rw z at c.needle_at.ensures) in
    rw (ne_eqb _ _ c.if-r-eq0.false, le-ltb _ _ c.if-r-w.false) (elim c.if-w.branch [
      | then-w v ↦ rw (v.if-w.true, ← v.i-is) e
      | else-w v ↦ rw (v.if-w.false, ← v.i-is) e
    ])
