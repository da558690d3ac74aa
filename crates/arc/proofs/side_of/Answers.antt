-- `side_of` meets its contract: where there is one side, it ends at corner 1. Assumes nothing.
use Prim.Native.Nat.{ℕ}
use native.Mathlib.Omega.{arith}
use mathlib.Core.Path.{◌≡◌, sym, ap, ◌∙◌}
use mathlib.Core.Logic.{inl, inr}
use lib.Dec.{ltb}
use borrow.Author.Tests.{ltb-false}
use Rattle.seqs.specs.Tests.{either}
use Rattle.satinrules.specs.Arc.{partition_point, side_end}
use borrow.Author.Rules.{rules}
use Rattle.arc.proofs.side_of.Goals as goal

one_side : (k : ℕ) → side_end k 2 ≡ 1
unfolding side_end
one_side k = elim (either (ltb k 1)) [
  | inl e ↦ rw e
  | inr e ↦ rw e (elim (either (ltb 1 k)) [ inl h ↦ rw h | inr h ↦ rw h (omega (arith, ltb-false k 1 e, ltb-false 1 k h)) ])
]

pub returns-then-n-eq2 : goal.returns-then-n-eq2
returns-then-n-eq2 c =
    let a = c.args in
    (sym (ap (side_end (partition_point a.s a.cum.now)) c.if-n-eq2.true ∙ one_side (partition_point a.s a.cum.now)), search rules, search rules)

pub returns : goal.returns
returns c = rw (← c.partition_point-k.ensures.0) c.side_end.ensures
