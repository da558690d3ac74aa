use Rattle.std.proofs.Common.{Bool, cond, sym, ap, ◌∙◌}
use lib.Ieee.{neg}
use Rattle.leaves.proofs.OrderTests.{magnitude_of}
use Rattle.leaves.proofs.order.magnitude.Goals as goal

pub returns-then-is_negative : goal.returns-then-is_negative
returns-then-is_negative c =
    let x = c.args.x in
    ap (λ (t : Bool). cond t (neg x) x) (sym c.if-is_negative.true ∙ c.is_negative.ensures) ∙ sym (magnitude_of x)

pub returns-else-is_negative : goal.returns-else-is_negative
returns-else-is_negative c =
    let x = c.args.x in
    ap (λ (t : Bool). cond t (neg x) x) (sym c.if-is_negative.false ∙ c.is_negative.ensures) ∙ sym (magnitude_of x)
