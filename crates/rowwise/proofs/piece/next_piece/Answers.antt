use mathlib.Core.Path.{refl, ap, ◌∙◌}
use native.Mathlib.Omega.{arith}
use Rattle.geom.specs.Rings.{rings_of}
use Rattle.rules.specs.Fill.{edges}
use Rattle.sweep.specs.declared.piece.Scan.{Scan}
use Rattle.rowwise.specs.RowLaws.{scan_turn, scan_fewer, scan_none}
use Rattle.rowwise.proofs.piece.next_piece.Goals as goal

pub loop-s-init : goal.loop-s-init
loop-s-init c = (omega arith, c.requires.2, refl)

pub next_crossing-x-requires : goal.next_crossing-x-requires
next_crossing-x-requires c = (c.requires.0, omega (arith, c.loop-s.invariant.1.few))

pub returns-then-x-s : goal.returns-then-x-s
returns-then-x-s c = c.loop-s.invariant.2 ∙ scan_none c.args.c (edges c.args.g (rings_of c.args.o)) c.requires.1 c.loop-s.s c.loop-s.last c.next_crossing-x.ensures.is c.if-x-s.true

pub pass-t-requires : goal.pass-t-requires
pass-t-requires c = (c.loop-s.invariant.1.small, c.next_crossing-x.ensures.small, omega (arith, scan_fewer c.args.c (edges c.args.g (rings_of c.args.o)) c.requires.1 c.loop-s.s c.loop-s.last c.next_crossing-x.ensures.is (omega (arith, c.next_crossing-x.ensures.small, c.if-x-s.false)), c.loop-s.invariant.1.few))

pub closes-requires : goal.closes-requires
closes-requires c = (omega (arith, c.loop-s.invariant.1.small, c.loop-s.invariant.1.few), omega (arith, c.pass-t.ensures.1, ap (λ (t : Scan). t.at) c.pass-t.ensures.0, scan_fewer c.args.c (edges c.args.g (rings_of c.args.o)) c.requires.1 c.loop-s.s c.loop-s.last c.next_crossing-x.ensures.is (omega (arith, c.next_crossing-x.ensures.small, c.if-x-s.false)), c.loop-s.invariant.1.few))

pub returns-then-closes : goal.returns-then-closes
returns-then-closes c = record { is = c.loop-s.invariant.2 ∙ (rw c.if-closes.true at (scan_turn c.args.c (edges c.args.g (rings_of c.args.o)) c.requires.1 c.loop-s.s c.loop-s.last c.next_crossing-x.ensures.is (omega (arith, c.next_crossing-x.ensures.small, c.if-x-s.false)) c.pass-t.ensures.0 c.cut_ends-p.ensures c.closes.ensures)); on = omega (arith, ap (λ (t : Scan). t.at) c.pass-t.ensures.0, c.loop-s.invariant.0, c.next_crossing-x.ensures.small, c.if-x-s.false); scans = record { small = c.pass-t.ensures.1; few = omega (arith, ap (λ (t : Scan). t.at) c.pass-t.ensures.0, scan_fewer c.args.c (edges c.args.g (rings_of c.args.o)) c.requires.1 c.loop-s.s c.loop-s.last c.next_crossing-x.ensures.is (omega (arith, c.next_crossing-x.ensures.small, c.if-x-s.false)), c.loop-s.invariant.1.few) } }

pub loop-s-smaller : goal.loop-s-smaller
loop-s-smaller c = omega (arith, scan_fewer c.args.c (edges c.args.g (rings_of c.args.o)) c.requires.1 c.loop-s.s c.loop-s.last c.next_crossing-x.ensures.is (omega (arith, c.next_crossing-x.ensures.small, c.if-x-s.false)), c.next_crossing-x.ensures.small, c.if-x-s.false)

pub loop-s-preserved : goal.loop-s-preserved
loop-s-preserved c = (omega (arith, ap (λ (t : Scan). t.at) c.pass-t.ensures.0, c.loop-s.invariant.0, c.next_crossing-x.ensures.small), record { small = c.pass-t.ensures.1; few = omega (arith, ap (λ (t : Scan). t.at) c.pass-t.ensures.0, scan_fewer c.args.c (edges c.args.g (rings_of c.args.o)) c.requires.1 c.loop-s.s c.loop-s.last c.next_crossing-x.ensures.is (omega (arith, c.next_crossing-x.ensures.small, c.if-x-s.false)), c.loop-s.invariant.1.few) }, c.loop-s.invariant.2 ∙ (rw c.if-closes.false at (scan_turn c.args.c (edges c.args.g (rings_of c.args.o)) c.requires.1 c.loop-s.s c.loop-s.last c.next_crossing-x.ensures.is (omega (arith, c.next_crossing-x.ensures.small, c.if-x-s.false)) c.pass-t.ensures.0 c.cut_ends-p.ensures c.closes.ensures)))
