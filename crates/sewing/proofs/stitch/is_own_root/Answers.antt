-- Two tests, or nothing is said. Assumes nothing.
use mathlib.Core.Path.{◌≡◌, sym, subst}
use mathlib.Core.Bool.{true}
use lib.Dec.{T}
use lib.Ieee.{le, of_bits, round}
use Rattle.numbers.specs.Num.{literal}
use Rattle.numbers.specs.Laws.{holds}
use Rattle.sewing.proofs.Shortcut.{small, large, own_root}
use Rattle.sewing.proofs.stitch.is_own_root.Goals as goal

pub returns-then-x : goal.returns-then-x
unfolding small large literal round of_bits
returns-then-x c =
    let over : le small c.args.x ≡ true = c.if-x.true in
    λ e. own_root c.args.x (subst T (sym c.well_formed.0.1) tt) (holds over) (holds e)
