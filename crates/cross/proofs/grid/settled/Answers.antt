-- `settled` meets its contract: each side was compared with zero. Assumes nothing.
use mathlib.Core.Path.{◌≡◌, refl, sym, ◌∙◌}
use mathlib.Core.Bool.{Bool, true, false, not}
use lib.Ieee.{eq, ne, of_bits}
use Rattle.numbers.specs.Num.{zero64}
use Rattle.seqs.specs.Tests.{clash}
use Rattle.cross.proofs.grid.settled.Goals.{then-b, else-b, then-b-2, else-b-2}
use Rattle.cross.proofs.grid.settled.Goals as goal

off : (b : Bool) → not b ≡ true → b ≡ false
off true h = clash refl (sym h)
off false h = refl

pub returns-then-b-3 : goal.returns-then-b-3
unfolding ne of_bits
returns-then-b-3 c = λ h. elim c.if-b-2.branch [
  | then-b-2 w ↦ elim c.if-b.branch [
    | then-b v ↦ record { left = off (eq c.args.b.left zero64) v.if-b.true; top = off (eq c.args.b.top zero64) (sym v.value-is ∙ w.if-b-2.true); right = off (eq c.args.b.right zero64) (sym w.value-is ∙ c.if-b-3.true); bottom = off (eq c.args.b.bottom zero64) h }
    | else-b v ↦ clash w.if-b-2.true (v.value-is ∙ v.if-b.false)
  ]
  | else-b-2 w ↦ clash c.if-b-3.true (w.value-is ∙ w.if-b-2.false)
]
