use Rattle.std.proofs.Common.{◌*◌, ◌/◌, ◌%◌, ◌^◌, mul-le-mul, arith}
use Rattle.leaves.proofs.Tried.{halves}
use Rattle.leaves.proofs.quick.tried.Goals as goal

pub overflow_mul-high : goal.overflow_mul-high
overflow_mul-high c = let q = c.args.q in omega (arith, mul-le-mul {n₁ = q / 2 ^ 26} {m₁ = q / 2 ^ 26} {n₂ = 2 ^ 27} {m₂ = 2 ^ 27} (omega arith) (omega arith))

pub overflow_mul-mid-then-left-lt536870912 : goal.overflow_mul-mid-then-left-lt536870912
overflow_mul-mid-then-left-lt536870912 c = let q = c.args.q in omega (arith, mul-le-mul {n₁ = 2 * (q / 2 ^ 26)} {m₁ = q % 2 ^ 26} {n₂ = 2 ^ 28} {m₂ = 2 ^ 26} (omega arith) (omega arith))

pub overflow_mul-low : goal.overflow_mul-low
overflow_mul-low c = let q = c.args.q in omega (arith, mul-le-mul {n₁ = q % 2 ^ 26} {m₁ = q % 2 ^ 26} {n₂ = 2 ^ 26} {m₂ = 2 ^ 26} (omega arith) (omega arith))

pub returns-then-low-rest : goal.returns-then-low-rest
returns-then-low-rest c = (omega (arith, c.beside.ensures.0), c.beside.ensures.1 (c.args.w * 2 ^ 52) (omega (arith, halves c.args.q)) (omega arith))
