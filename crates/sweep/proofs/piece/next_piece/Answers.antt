use mathlib.Core.Path.{ap, ◌∙◌}
use native.Mathlib.Omega.{arith}
use Rattle.sweep.specs.declared.piece.Scan.{Scan}
use Rattle.sweep.proofs.Scans.{rest_none, scan_turn}
use borrow.Author.Rules.{rules}
use Rattle.sweep.proofs.piece.next_piece.Goals as goal

pub returns-then-closes : goal.returns-then-closes
returns-then-closes c =
    let a = c.args in
    let l = c.loop-s in
    let x = c.crossing_at-x.ensures in
    let r = c.pass-next.ensures in
    let e = scan_turn a.c a.table.now a.places.now l.s x r.0 c.cut_ends-p.ensures c.closes.ensures in
    let n = ap (λ (t : Scan). t.at) r.0 in
    record { is = l.invariant.3 ∙ (rw c.if-closes.true at e); on = omega (arith, n, x.on); within = omega (arith, n, x.within); small = r.1 }

pub loop-s-preserved : goal.loop-s-preserved
loop-s-preserved c =
    let a = c.args in
    let l = c.loop-s in
    let x = c.crossing_at-x.ensures in
    let r = c.pass-next.ensures in
    let e = scan_turn a.c a.table.now a.places.now l.s x r.0 c.cut_ends-p.ensures c.closes.ensures in
    let n = ap (λ (t : Scan). t.at) r.0 in
    (omega (arith, n, x.on), omega (arith, n, x.within), r.1, l.invariant.3 ∙ (rw c.if-closes.false at e))

pub returns : goal.returns
returns c = c.loop-s.invariant.3 ∙ rest_none _ _ _ c.loop-s.s (search rules)
