-- `put_if` meets its contract: the pass, or nothing. Assumes nothing.
use native.Mathlib.Omega.{arith}
use Rattle.seqs.specs.Put.{put_none}
use Rattle.geom.specs.Sewing.{flat}
use Rattle.passes.specs.ThreadsLaws.{pass_length}
use Rattle.satin.proofs.underlay.put_if.Goals as goal

pub put_thread-requires : goal.put_thread-requires
put_thread-requires c =
    let a = c.args in
    let e = rw c.if-sewn.true at c.requires in
    omega (arith, e, pass_length a.s.now a.thread a.back)

pub returns-then-sewn : goal.returns-then-sewn
returns-then-sewn c =
    let a = c.args in
    rw c.if-sewn.true (c.put_thread.ensures.0, omega (arith, c.put_thread.ensures.1, pass_length a.s.now a.thread a.back))

pub returns-else-sewn : goal.returns-else-sewn
unfolding flat
returns-else-sewn c =
    let a = c.args in
    rw c.if-sewn.false (put_none a.out.now a.k (omega (arith, c.requires)), omega arith)
