use Prim.Native.Nat.{◌+◌}
use native.Mathlib.Omega.{arith}
use Rattle.seqs.specs.Put.{put_then}
use Rattle.book.specs.Book.{head_bytes, value_bytes, sheet_bytes}
use Rattle.book.specs.KeepLaws.{head_length}
use Rattle.book.proofs.writing.put_sheet.Goals as goal

pub returns : goal.returns
unfolding sheet_bytes
returns c =
    let a = c.args in
    let l = head_length a.number in
    put_then a.out.now _ _ (head_bytes a.number) (value_bytes a.v) a.at (a.at + 5) (omega (arith, l)) c.put_head.ensures (omega (arith, l)) c.put_values.ensures
