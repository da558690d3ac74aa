use Rattle.std.proofs.Common.{◌≡◌, ◌+◌, ◌<◌, length, add-one, arith, take-suc-set}
use Rattle.seqs.specs.Upto.{upto_append}
use Rattle.sweep.proofs.waiting.count_up.Goals as goal

pub loop-i-preserved : goal.loop-i-preserved
loop-i-preserved c =
    let l = c.loop-i in
    let h : l.i < length l.l = omega arith in
    let e : 0 + l.i ≡ l.i = omega arith in
    rw (upto_append 0 l.i 1, e, ← l.invariant, add-one) (take-suc-set l.l l.i l.i h)
