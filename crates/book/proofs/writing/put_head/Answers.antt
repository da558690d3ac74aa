use mathlib.Core.Path.{◌≡◌, ◌∙◌}
use mathlib.Core.List.{◌++◌}
use Prim.Native.Nat.{◌+◌}
use native.Mathlib.Omega.{arith}
use lib.ListN.{length, length-append}
use Rattle.seqs.specs.Put.{put_then}
use Rattle.book.specs.Book.{bytes, head_bytes}
use Rattle.book.specs.KeepLaws.{bytes_length}
use Rattle.book.proofs.writing.put_head.Goals as goal

pub returns : goal.returns
unfolding head_bytes
returns c =
    let a = c.args in
    let d = a.out.now in
    let x = bytes_length 2 39 in
    let y = bytes_length 1 1 in
    let l : length (bytes 2 39 ++ bytes 1 1) ≡ 3 = length-append (bytes 2 39) (bytes 1 1) ∙ omega (arith, x, y) in
    let two = put_then d _ _ (bytes 2 39) (bytes 1 1) a.at (a.at + 2) (omega (arith, x)) c.put_number.ensures (omega (arith, x)) c.put_number-2.ensures in
    put_then d _ _ (bytes 2 39 ++ bytes 1 1) (bytes 2 a.number) a.at (a.at + 3) (omega (arith, l)) two (omega (arith, l)) (rw c.from.ensures at c.put_number-3.ensures)
