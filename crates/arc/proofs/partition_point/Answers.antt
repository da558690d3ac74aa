-- All below lo are at most s, and the one at hi is not. Assumes nothing.
use Rattle.std.specs.Prelude.{◌+◌, ◌-◌, ◌/◌, ◌≡◌}
use Rattle.std.proofs.Common.{rules, arith, sym}
use Rattle.arc.specs.RailLaws.{partition_at}
use Rattle.arc.proofs.partition_point.Goals as goal

pub loop-lo-init : goal.loop-lo-init
loop-lo-init c = (search rules, search rules, (λ k h. absurd (omega arith)), (λ h. absurd (omega arith)))

pub loop-lo-preserved-then-cum-mid : goal.loop-lo-preserved-then-cum-mid
loop-lo-preserved-then-cum-mid c =
    let l = c.loop-lo in
    (search rules, search rules, (λ k h. c.requires.rises k (l.lo + (l.hi - l.lo) / 2) c.args.s (omega arith) (omega arith) c.if-cum-mid.true), l.invariant.3)

pub loop-lo-preserved : goal.loop-lo-preserved
loop-lo-preserved c = (search rules, search rules, c.loop-lo.invariant.2, (λ h. c.if-cum-mid.false))

pub returns : goal.returns
returns c =
    let l = c.loop-lo in
    let e : l.lo ≡ l.hi = omega arith in
    (sym (partition_at c.args.s c.args.cum.now l.lo (search rules) l.invariant.2 (rw e l.invariant.3)), search rules)
