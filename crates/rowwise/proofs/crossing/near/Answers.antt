use mathlib.Core.Path.{◌≡◌, sym, ap, ◌∙◌}
use mathlib.Core.Bool.{true, false}
use native.Mathlib.Omega.{arith}
use Rattle.numbers.specs.Order.{before}
use Rattle.seqs.specs.Signed.{back}
use Rattle.sweep.specs.declared.piece.Crossing.{Crossing}
use borrow.Author.Rules.{rules}
use Rattle.rowwise.proofs.crossing.near.Goals as goal

pub returns-then-before-2 : goal.returns-then-before-2
returns-then-before-2 c = let b1 : before c.args.q.after c.args.x ≡ true = sym c.before-2.ensures ∙ c.if-before.true in let b2 : before c.args.x c.args.m.x ≡ true = sym c.before-then-before.ensures ∙ c.if-before-2.true in rw (back c.way.result 1 c.way.ensures.1 (search rules)) (record { is = rw (b1, b2, c.way.ensures.0); small = omega (arith, c.way.ensures.1); few = omega (arith, c.requires.small) })

pub returns-then-before-3 : goal.returns-then-before-3
returns-then-before-3 c = let b1 : before c.args.q.after c.args.x ≡ true = sym c.before-2.ensures ∙ c.if-before.true in let b2 : before c.args.x c.args.m.x ≡ false = sym c.before-then-before.ensures ∙ c.if-before-2.false in let b3 : before c.args.m.x c.args.x ≡ true = sym c.before-then-before-2.ensures ∙ c.if-before-3.true in record { is = rw (b1, b2, b3); small = c.requires.small; few = omega arith }

pub returns-then-before : goal.returns-then-before
returns-then-before c = let b1 : before c.args.q.after c.args.x ≡ true = sym c.before-2.ensures ∙ c.if-before.true in let b2 : before c.args.x c.args.m.x ≡ false = sym c.before-then-before.ensures ∙ c.if-before-2.false in let b3 : before c.args.m.x c.args.x ≡ false = sym c.before-then-before-2.ensures ∙ c.if-before-3.false in record { is = rw (b1, b2, b3) c.join.ensures.0; small = omega (arith, c.requires.small, c.join.ensures.1, ap (λ (m : Crossing). m.next) c.join.ensures.0); few = omega (arith, ap (λ (m : Crossing). m.next) c.join.ensures.0) }

pub returns : goal.returns
returns c = let b1 : before c.args.q.after c.args.x ≡ false = sym c.before-2.ensures ∙ c.if-before.false in record { is = rw b1; small = c.requires.small; few = omega arith }
