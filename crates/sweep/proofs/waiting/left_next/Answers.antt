use Rattle.std.proofs.Common.{sym}
use Rattle.sweep.specs.Swept.{by}
use Rattle.sweep.specs.MergeLaws.{next_right, next_left, next_by}
use Rattle.sweep.proofs.waiting.left_next.Goals as goal

pub returns-in_default : goal.returns-in_default
returns-in_default c =
    let a = c.args in
    sym (next_right (by a.key a.table.now) a.a.now a.b.now c.in_default.ensures.value)

pub returns-in_default-first : goal.returns-in_default-first
returns-in_default-first c =
    let a = c.args in
    sym (next_left (by a.key a.table.now) a.a.now a.b.now c.in-Some.field-0.now c.in-Some.ensures.value c.in_default-first.ensures.value)

pub returns : goal.returns
returns c =
    let a = c.args in
    rw (next_by (by a.key a.table.now) a.a.now a.b.now c.in-Some.field-0.now c.in-Some-first.field-0.now c.in-Some.ensures.value c.in-Some-first.ensures.value, ← c.key_of.ensures, ← c.key_of-2.ensures) c.ahead.ensures
