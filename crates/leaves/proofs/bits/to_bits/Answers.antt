use Rattle.std.proofs.Common.{◌≡◌, sym, refl, subst}
use lib.Ieee.{Float, binary64, to_bits}
use Rattle.leaves.proofs.Total.{is_nan_lem, not_nan}
use Rattle.leaves.proofs.bits.to_bits.Goals as goal

pub returns-then-x : goal.returns-then-x
unfolding to_bits
returns-then-x c =
    let x = c.args.x in
    subst (λ (v : Float). 9221120237041090560 ≡ to_bits binary64 v) (sym (is_nan_lem x c.if-x.true)) refl

pub float_to_bits-result : goal.float_to_bits-result
float_to_bits-result c = not_nan c.args.x c.if-x.false
