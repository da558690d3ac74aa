use Rattle.std.proofs.Common.{[], length-drop}
use Rattle.seqs.specs.Parts.{tail_lent}
use mathlib.Core.Path.{sym, ◌∙◌}
use Prim.Native.Nat.{◌+◌}
use native.Mathlib.Omega.{arith}
use Rattle.seqs.specs.Signed.{back}
use Rattle.sweep.proofs.Scans.{merge_first, merge_same, merge_other, merge_none, lent_read, lent_in, lent_all}
use borrow.Author.Rules.{rules}
use Rattle.sweep.proofs.piece.crossing_at.Goals as goal

pub loop-i-init : goal.loop-i-init
loop-i-init c =
    let a = c.args in
    rw (back c.way.result 1 c.way.ensures.1 (search rules)) (omega arith, omega (arith, c.way.ensures.1), rw c.way.ensures.0 (merge_first a.table.now a.y a.places.now a.at (search rules) c.edge-t.ensures))

pub returns-then-not-same_x : goal.returns-then-not-same_x
returns-then-not-same_x c =
    let a = c.args in
    let l = c.loop-i in
    let h = lent_in a.places.now a.at l.i-index l.invariant.0 c.loop-i-test.true in
    let u = rw (lent_read a.places.now a.at l.i-index l.invariant.0) at c.edge-u.ensures in
    record { is = l.invariant.2 ∙ merge_other a.table.now a.y a.places.now l.c.x l.c.dir l.c.next h u (sym c.same_x.ensures ∙ c.if-not-same_x.true); on = omega (arith, l.invariant.0); within = omega arith; small = l.invariant.1 }

pub loop-i-preserved : goal.loop-i-preserved
loop-i-preserved c =
    let a = c.args in
    let l = c.loop-i in
    let j = c.join-c.ensures.0 in
    let s = rw j at c.join-c.ensures.1 in
    let h = lent_in a.places.now a.at l.i-index l.invariant.0 c.loop-i-test.true in
    let u = rw (lent_read a.places.now a.at l.i-index l.invariant.0) at c.edge-u.ensures in
    let e = merge_same a.table.now a.y a.places.now l.c.x l.c.dir l.c.next h u (sym c.same_x.ensures ∙ c.if-not-same_x.false) in
    rw j (omega (arith, l.invariant.0), omega (arith, s, l.invariant.1), l.invariant.2 ∙ e)

pub returns : goal.returns
returns c =
    let a = c.args in
    let l = c.loop-i in
    let h = lent_all a.places.now a.at l.i-index l.invariant.0 c.requires.1 c.loop-i-test.false in
    let n = rw (tail_lent a.places.now [] (a.at + 1), length-drop (a.at + 1) a.places.now) at l.auto.i-index-end in
    record { is = l.invariant.2 ∙ merge_none a.table.now a.y a.places.now l.c.x l.c.dir l.c.next h; on = omega (arith, l.invariant.0); within = omega (arith, l.invariant.0, c.requires.1, n); small = l.invariant.1 }
