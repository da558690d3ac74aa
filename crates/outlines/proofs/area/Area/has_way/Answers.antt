use mathlib.Core.Path.{sym, ◌∙◌, ap}
use Prim.Native.Nat.{ℕ, ◌-◌}
use Rattle.geom.specs.Rings.{rings_of}
use Rattle.outlines.specs.Inside.{steps_inside, segment_inside}
use Rattle.outlines.proofs.Loops.{steps_on, steps_out, steps_end}
use borrow.Author.Rules.{rules}
use Rattle.outlines.proofs.area.Area.has_way.Goals as goal

pub loop-i-init : goal.loop-i-init
unfolding segment_inside
loop-i-init c =
    let a = c.args in
    let e = rw c.dist.ensures at c.steps-n.ensures in
    ap (λ (m : ℕ). steps_inside (rings_of a.self.outline) a.self.rule a.a a.b m 1 (m - 1)) e

pub loop-i-preserved : goal.loop-i-preserved
loop-i-preserved c =
    let l = c.loop-i in
    sym (steps_on _ _ _ _ _ l.i (search rules) c.along.ensures c.has.ensures c.if-not-has.false) ∙ l.invariant

pub returns-then-not-has : goal.returns-then-not-has
returns-then-not-has c =
    let l = c.loop-i in
    sym (steps_out _ _ _ _ _ l.i (search rules) c.along.ensures c.has.ensures c.if-not-has.true) ∙ l.invariant

pub returns : goal.returns
returns c =
    let a = c.args in
    let l = c.loop-i in
    sym (steps_end (rings_of a.self.outline) a.self.rule a.a a.b c.steps-n.result l.i (search rules)) ∙ l.invariant
