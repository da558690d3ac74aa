use Rattle.std.specs.Prelude.{ℕ, ◌≡◌, ◌+◌, ◌-◌, ◌≤◌, ◌<◌, List, length, get_or, take, drop}
use Rattle.std.proofs.Common.{arith, sym, ◌∙◌, get_or-take, get_or-drop, length-take-le, length-drop}
use Rattle.sections.specs.RowEnds.{row_more, row_stop, row_done}
use Rattle.sections.proofs.row_end.Goals as goal

-- the part of the slice that is looked through
module _ (w : List ℕ) (n i : ℕ) (order : i ≤ n) (room : n ≤ length w) where
  part_length : length (take (n - i) (drop i w)) ≡ n - i
  part_length = length-take-le (n - i) (drop i w) (omega (arith, length-drop i w))

  part_at : (k : ℕ) → i + k < n → get_or (take (n - i) (drop i w)) k 0 ≡ get_or w (i + k) 0
  part_at k h = get_or-take (n - i) (drop i w) k 0 (omega arith) ∙ get_or-drop i w k 0

pub returns-then-row-r : goal.returns-then-row-r
returns-then-row-r c =
    let a = c.args in
    let l = c.loop-k in
    let h : a.i + l.k < a.n = omega (arith, part_length a.wholes.now a.n a.i c.requires.0 c.requires.1, c.loop-k-test.true) in
    let e = rw (part_at a.wholes.now a.n a.i c.requires.0 c.requires.1 l.k h) at c.if-row-r.true in
    (sym (l.invariant ∙ row_stop a.wholes.now a.n (a.i + l.k) a.r c.requires.1 h e), omega arith, omega arith)

pub loop-k-preserved : goal.loop-k-preserved
loop-k-preserved c =
    let a = c.args in
    let l = c.loop-k in
    let h : a.i + l.k < a.n = omega (arith, part_length a.wholes.now a.n a.i c.requires.0 c.requires.1, c.loop-k-test.true) in
    let e = rw (part_at a.wholes.now a.n a.i c.requires.0 c.requires.1 l.k h) at c.if-row-r.false in
    let s : a.i + (l.k + 1) ≡ a.i + l.k + 1 = omega arith in
    rw s (l.invariant ∙ row_more a.wholes.now a.n (a.i + l.k) a.r c.requires.1 h e)

pub returns : goal.returns
returns c =
    let a = c.args in
    let l = c.loop-k in
    let h : a.i + l.k ≡ a.n = omega (arith, part_length a.wholes.now a.n a.i c.requires.0 c.requires.1, c.loop-k-test.false, l.auto.k-end) in
    (sym (l.invariant ∙ row_done a.wholes.now a.n (a.i + l.k) a.r c.requires.1 (omega arith) ∙ h), c.requires.0, omega arith)
