-- What a bisection knows of the places, halved. Assumes nothing.
use Rattle.std.specs.Prelude.{◌+◌, ◌-◌, ◌/◌}
use Rattle.std.proofs.Common.{arith}
use Rattle.sections.specs.RiseLaws.{between_left, between_right}
use Rattle.sections.proofs.rise.first_past.Goals as goal

pub loop-lo-preserved-then-x-pieces : goal.loop-lo-preserved-then-x-pieces
loop-lo-preserved-then-x-pieces c =
    let a = c.args in
    let l = c.loop-lo in
    between_left a.pieces.now a.from a.to c.requires.0 a.x l.lo l.hi (l.lo + (l.hi - l.lo) / 2) l.invariant (omega arith) (omega (arith, c.loop-lo-test.true)) c.if-x-pieces.true

pub loop-lo-preserved : goal.loop-lo-preserved
loop-lo-preserved c =
    let a = c.args in
    let l = c.loop-lo in
    between_right a.pieces.now a.from a.to c.requires.0 a.x l.lo l.hi (l.lo + (l.hi - l.lo) / 2) l.invariant (omega arith) (omega (arith, c.loop-lo-test.true)) c.if-x-pieces.false
