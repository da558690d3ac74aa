-- Lifted coordinates: a move changes them as it changes what they stand for. Assumes nothing.
use Rattle.std.specs.Prelude.{ℕ, suc, ◌+◌, ◌-◌, ◌≤◌, ◌<◌, ◌≡◌, refl, pos, negsuc, ◌+ℤ◌, ◌-ℤ◌}
use Rattle.std.proofs.Common.{arith, ap, ◌∙◌}
use Rattle.std.specs.Float.{binary64}
use Rattle.std.specs.Float.Ieee.{neg, of_int}
use Rattle.seqs.specs.Ints.{above, below, same_int, add_parts, sub_parts_is}
use Rattle.numbers.specs.Num.{real}
use Rattle.numbers.specs.Rounded.{neg_round}
use Rattle.dst.specs.Thread.{origin}
use Rattle.dst_read.specs.Lifted.{lowered, whole_at}

lowered_parts : (n : ℕ) → above (lowered n) + 121000000 ≡ n + below (lowered n)
unfolding lowered
lowered_parts n = omega (arith, sub_parts_is (pos n) (pos 121000000))

pub lifted_origin : whole_at 121000000 121000000 ≡ origin
unfolding lowered
lifted_origin = refl

-- p is added and m taken off
pub lowered_moved : (x p m : ℕ) → m ≤ x + p → lowered (x + p - m) ≡ lowered x +ℤ (pos p -ℤ pos m)
lowered_moved x p m h = same_int (lowered (x + p - m)) (lowered x +ℤ (pos p -ℤ pos m)) (omega (arith, lowered_parts x, lowered_parts (x + p - m), add_parts (lowered x) (pos p -ℤ pos m), sub_parts_is (pos p) (pos m)))

pub real_up : (x : ℕ) → 121000000 ≤ x → real (pos (x - 121000000)) ≡ real (lowered x)
real_up x h = let e : pos (x - 121000000) ≡ lowered x = same_int (pos (x - 121000000)) (lowered x) (omega (arith, lowered_parts x)) in ap real e

real_under : (n : ℕ) → neg (real (pos (suc n))) ≡ real (negsuc n)
unfolding of_int
real_under n = neg_round binary64 (suc n) 1

pub real_down : (x : ℕ) → x < 121000000 → neg (real (pos (121000000 - x))) ≡ real (lowered x)
real_down x h =
    let n = 121000000 - suc x in
    let s : 121000000 - x ≡ suc n = omega arith in
    let e : negsuc n ≡ lowered x = same_int (negsuc n) (lowered x) (omega (arith, lowered_parts x)) in
    rw s (real_under n ∙ ap real e)
