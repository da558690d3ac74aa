-- The invariant: the bytes to come make of the value so far the number that is wanted.
use mathlib.Core.Path.{◌≡◌, sym, ◌∙◌}
use Prim.Native.Nat.{◌+◌, ◌-◌}
use native.Mathlib.Omega.{arith}
use lib.ListN.{get_or}
use Rattle.jobs.specs.Job.{number}
use Rattle.jobs.specs.JobLaws.{value_turn, value_end, value_more, value_below}
use Rattle.jobs.proofs.number.number_at.Goals as goal

pub loop-i-init : goal.loop-i-init
unfolding number
loop-i-init c = let e : c.args.at + 0 ≡ c.args.at = omega arith in let f : c.args.n - 0 ≡ c.args.n = omega arith in (rw (e, f), omega arith)

pub overflow_mul-v : goal.overflow_mul-v
overflow_mul-v c = record { fits = omega (arith, value_below _ (c.loop-i.i + 1) (value_more c.loop-i.v 0 c.loop-i.i c.loop-i.invariant.1 (omega arith)) (omega arith)) }

pub overflow_add-v : goal.overflow_add-v
overflow_add-v c = record { fits = value_below _ (c.loop-i.i + 1) (value_more c.loop-i.v c.from.result c.loop-i.i c.loop-i.invariant.1 (omega (arith, c.from.ensures, c.type_inv.s (c.args.at + c.loop-i.i)))) (omega arith) }

pub loop-i-preserved : goal.loop-i-preserved
loop-i-preserved c =
    let l = c.loop-i in
    let b : c.from.result ≡ get_or c.args.s.now (c.args.at + l.i) 0 = c.from.ensures in
    (rw b (sym (value_turn c.args.s.now c.args.at c.args.n l.i l.v c.loop-i-test.true (omega arith)) ∙ l.invariant.0), value_more l.v c.from.result l.i l.invariant.1 (omega (arith, b, c.type_inv.s (c.args.at + l.i))))

pub returns : goal.returns
returns c =
    let l = c.loop-i in
    let e : l.i ≡ c.args.n = omega arith in
    (sym (value_end c.args.s.now c.args.at c.args.n l.i l.v (omega arith)) ∙ l.invariant.0, rw e at l.invariant.1)
