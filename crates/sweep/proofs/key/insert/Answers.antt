use Rattle.std.proofs.Common.{◌≡◌, ◌+◌, ◌-◌}
use mathlib.Core.Path.{sym, ◌∙◌}
use native.Mathlib.Omega.{arith}
use Rattle.seqs.specs.Insert.{carried_down, carried_end}
use Rattle.sweep.specs.Swept.{by}
use Rattle.sweep.proofs.key.insert.Goals as goal

pub returns-then-not-ahead : goal.returns-then-not-ahead
returns-then-not-ahead c =
    let le = by c.args.key c.args.table.now in
    let t = sym (rw (c.key_of-x.ensures, c.key_of.ensures) at c.ahead.ensures) ∙ c.if-not-ahead.true in
    let e : c.loop-j.j - 1 + 1 ≡ c.loop-j.j = omega arith in
    rw e (carried_end le 0 c.loop-j.invariant (λ h. t))

pub loop-j-preserved : goal.loop-j-preserved
loop-j-preserved c =
    let le = by c.args.key c.args.table.now in
    let t = sym (rw (c.key_of-x.ensures, c.key_of.ensures) at c.ahead.ensures) ∙ c.if-not-ahead.false in
    let e : c.loop-j.j - 1 + 1 ≡ c.loop-j.j = omega arith in
    rw e (carried_down le 0 c.loop-j.invariant (omega arith) t)

pub returns : goal.returns
returns c =
    let le = by c.args.key c.args.table.now in
    let e : c.loop-j.j ≡ 0 = omega arith in
    rw e at (carried_end le 0 c.loop-j.invariant (λ h. absurd (omega arith)))
