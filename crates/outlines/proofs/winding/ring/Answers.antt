use mathlib.Core.Path.{sym, ◌∙◌}
use Prim.Native.Nat.{◌+◌, ◌-◌, ◌≤◌}
use native.Mathlib.Omega.{arith}
use lib.ListN.{length}
use lib.IntN.{nat_abs}
use mir.Syntax.{w64}
use mir.Val.{to_z}
use Rattle.seqs.specs.Signed.{back}
use Rattle.geom.specs.Outline.{points}
use Rattle.outlines.specs.WindingLaws.{edge_small}
use Rattle.outlines.proofs.Loops.{sum, ring_short, ring_start, ring_next, ring_end, run_small}
use Rattle.outlines.proofs.Blocks.{part_block, ring_beside}
use borrow.Author.Rules.{rules}
use Rattle.outlines.proofs.winding.ring.Goals as goal

pub returns-then-n-lt3 : goal.returns-then-n-lt3
returns-then-n-lt3 c = sym (ring_short c.args.p c.args.l.now (omega arith))

pub returns-then-ring_passed : goal.returns-then-ring_passed
returns-then-ring_passed c =
    let r = c.ring_passed.ensures c.if-ring_passed.true in
    sym (ring_beside c.args.t.now (128 + c.args.r) c.args.p (points c.args.l.now) r.1 r.0 c.requires.3)

pub loop-k-init : goal.loop-k-init
loop-k-init c =
    let k : nat_abs c.edge-w.result ≤ 1 = rw c.edge-w.ensures (edge_small _ _ _) in
    let e = back c.edge-w.result 1 k (search rules) in
    let s = ring_start c.args.p c.args.l.now c.requires.0 (omega arith) in
    (omega arith, rw e (omega arith), rw (e, c.edge-w.ensures, c.corner-last.ensures, c.corner.ensures) (sym s))

pub span-w-requires : goal.span-w-requires
span-w-requires c = part_block c.args.a _ c.loop-k.k _ c.args.l.now c.args.t.now c.requires.2 (omega arith) (omega (arith, c.part_end-e.ensures))

pub overflow_add-w : goal.overflow_add-w
overflow_add-w c =
    let k : nat_abs c.span-w.result ≤ c.part_end-e.result - c.loop-k.k - 1 = rw c.span-w.ensures (run_small c.args.p c.args.l.now c.loop-k.k c.part_end-e.result) in
    (sum c.loop-k.w-bits c.span-w.result (length c.args.l.now) (omega (arith, c.part_end-e.ensures)) (omega arith)).fits

pub loop-k-preserved : goal.loop-k-preserved
loop-k-preserved c =
    let e = c.part_end-e.ensures in
    let k : nat_abs c.span-w.result ≤ c.part_end-e.result - c.loop-k.k - 1 = rw c.span-w.ensures (run_small c.args.p c.args.l.now c.loop-k.k c.part_end-e.result) in
    let s = sum c.loop-k.w-bits c.span-w.result c.part_end-e.result (omega arith) (omega arith) in
    (omega arith, omega (arith, s.small), rw (s.is, c.span-w.ensures) (sym (ring_next c.args.p c.args.l.now (to_z w64 c.loop-k.w-bits) c.loop-k.k c.part_end-e.result (omega arith) (omega arith)) ∙ c.loop-k.invariant.2))

pub returns : goal.returns
returns c = sym (ring_end c.args.p c.args.l.now (to_z w64 c.loop-k.w-bits) c.loop-k.k (omega arith)) ∙ c.loop-k.invariant.2
