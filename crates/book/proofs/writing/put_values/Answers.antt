use mathlib.Core.Path.{◌≡◌, ◌∙◌}
use mathlib.Core.List.{◌++◌}
use Prim.Native.Nat.{◌+◌}
use native.Mathlib.Omega.{arith}
use lib.ListN.{length, length-append}
use Rattle.seqs.specs.Put.{put_then}
use Rattle.book.specs.Book.{bytes, bits, value_bytes}
use Rattle.book.specs.KeepLaws.{bits_length}
use Rattle.book.proofs.writing.put_values.Goals as goal

pub returns : goal.returns
unfolding bits value_bytes
returns c =
    let a = c.args in
    let d = a.out.now in
    let v = a.v in
    let p = bits v.spacing in
    let q = bits v.len in
    let r = bits v.inset in
    let u = bits v.pull in
    let i = bits_length v.spacing in
    let j : length (p ++ q) ≡ 16 = length-append p q ∙ omega (arith, i, bits_length v.len) in
    let k : length ((p ++ q) ++ r) ≡ 24 = length-append (p ++ q) r ∙ omega (arith, j, bits_length v.inset) in
    let l : length (((p ++ q) ++ r) ++ u) ≡ 32 = length-append ((p ++ q) ++ r) u ∙ omega (arith, k, bits_length v.pull) in
    let two = put_then d _ _ p q a.at (a.at + 8) (omega (arith, i)) (rw c.to_bits.ensures at c.put_number.ensures) (omega (arith, i)) (rw c.to_bits-2.ensures at c.put_number-2.ensures) in
    let three = put_then d _ _ (p ++ q) r a.at (a.at + 16) (omega (arith, j)) two (omega (arith, j)) (rw c.to_bits-3.ensures at c.put_number-3.ensures) in
    let four = put_then d _ _ ((p ++ q) ++ r) u a.at (a.at + 24) (omega (arith, k)) three (omega (arith, k)) (rw c.to_bits-4.ensures at c.put_number-4.ensures) in
    put_then d _ _ (((p ++ q) ++ r) ++ u) (bytes 4 v.stagger) a.at (a.at + 32) (omega (arith, l)) four (omega (arith, l)) c.put_number-5.ensures
