use Rattle.std.proofs.Common.{ℕ, ◌+◌, ◌-◌, ◌^◌, cond, ltb, ap, ◌∙◌, arith}
use Rattle.leaves.proofs.Tried.{beside_near}
use Rattle.leaves.proofs.quick.beside.Goals as goal

pub returns-then-e-q-gt72057594037927938 : goal.returns-then-e-q-gt72057594037927938
returns-then-e-q-gt72057594037927938 c = (
  omega (arith, c.above.ensures.1, c.above-then-e-q-gt72057594037927938.ensures.1),
  λ n s h p.
      let q = c.args.q in
      let e = c.args.e in
      ap (λ (k : ℕ). q + k + c.above-then-e-q-gt72057594037927938.result - 1) c.above.ensures.0
      ∙ ap (λ (k : ℕ). q + cond (ltb (2 ^ 56 + q) e) 1 0 + k - 1) c.above-then-e-q-gt72057594037927938.ensures.0
      ∙ beside_near q e n s h c.if-e-q.true c.if-e-q-gt72057594037927938.true,
)
