use native.Mathlib.Omega.{arith}
use lib.ListN.{length-set}
use Rattle.seqs.specs.Wrote.{wrote_put, wrote_stores}
use Rattle.dst.specs.Records.{bytes_of}
use Rattle.dst.proofs.records.put_record.Goals as goal

pub bounds-out-at-2 : goal.bounds-out-at-2
bounds-out-at-2 c = simp length-set (omega arith)

pub bounds-out-at-3 : goal.bounds-out-at-3
bounds-out-at-3 c = simp length-set (omega arith)

pub returns : goal.returns
unfolding bytes_of
returns c =
    let a = c.args in
    rw (c.lower.ensures, c.lower-2.ensures, c.third.ensures) (wrote_put (wrote_stores a.out.now a.at (bytes_of a.k a.x a.y)) (omega arith))
