use Rattle.std.proofs.Common.{Bool, not, ◌&&◌, sym, ap, ◌∙◌}
use Rattle.numbers.specs.Order.{negative}
use Rattle.leaves.proofs.OrderTests.{before_less, before_apart, before_level}
use Rattle.leaves.proofs.order.before.Goals as goal

pub returns-then-a-b : goal.returns-then-a-b
returns-then-a-b c = before_less c.args.a c.args.b c.if-a-b.true

pub returns-then-is_negative : goal.returns-then-is_negative
returns-then-is_negative c =
    let a = c.args.a in
    let b = c.args.b in
    ap not c.is_negative-then-is_negative.ensures
    ∙ ap (λ (s : Bool). s && not (negative b)) (sym c.if-is_negative.true ∙ c.is_negative.ensures)
    ∙ before_level a b c.if-a-b.false c.if-a-b-2.true

pub returns-then-a-b-2 : goal.returns-then-a-b-2
returns-then-a-b-2 c =
    let a = c.args.a in
    let b = c.args.b in
    ap (λ (s : Bool). s && not (negative b)) (sym c.if-is_negative.false ∙ c.is_negative.ensures)
    ∙ before_level a b c.if-a-b.false c.if-a-b-2.true

pub returns : goal.returns
returns c = before_apart c.args.a c.args.b c.if-a-b.false c.if-a-b-2.false
