-- Lifted coordinates: their differences are those of what they stand for. Assumes nothing.
use Rattle.std.specs.Prelude.{ℕ, zero, suc, ◌+◌, ◌-◌, ◌*◌, ◌/◌, ◌≤◌, ◌<◌, ◌≡◌, refl, nat_abs, ◌+ℤ◌, ◌-ℤ◌}
use Rattle.std.proofs.Common.{mul-zero, mul-le-mul_right, arith, inl, inr}
use Rattle.std.proofs.Math.Nat.{zero-div, div-le_of_le-mul}
use Rattle.std.proofs.Math.IntN.{pos, neg_ℤ}
use Rattle.seqs.specs.Ints.{above, below, one_side, same_int, add_parts, sub_parts_is, abs_parts, neg_above, neg_below}
use Rattle.dst.specs.Records.{lift}
use Rattle.dst.specs.RecordLaws.{lift_is}
use Rattle.dst.specs.Thread.{origin, quotient, cut_at}
use Rattle.dst.specs.Lifted.{lowered, whole_at}

pub lowered_parts : (n : ℕ) → above (lowered n) + 100000 ≡ n + below (lowered n)
unfolding lowered
lowered_parts n = omega (arith, sub_parts_is (pos n) (pos 100000))

pub lowered_up : (n : ℕ) → lowered (100000 + n) ≡ pos n
lowered_up n = same_int (lowered (100000 + n)) (pos n) (omega (arith, lowered_parts (100000 + n)))

pub lowered_down : (n : ℕ) → n ≤ 100000 → lowered (100000 - n) ≡ neg_ℤ (pos n)
lowered_down n h = same_int (lowered (100000 - n)) (neg_ℤ (pos n)) (omega (arith, lowered_parts (100000 - n), neg_above (pos n), neg_below (pos n)))

pub lifted_origin : whole_at 100000 100000 ≡ origin
unfolding lowered
lifted_origin = refl

module _ (a b : ℕ) where
  pub gap_parts : above (lowered b -ℤ lowered a) + a ≡ b + below (lowered b -ℤ lowered a)
  gap_parts = omega (arith, sub_parts_is (lowered b) (lowered a), lowered_parts a, lowered_parts b)

  pub gap_up : a ≤ b → lowered b -ℤ lowered a ≡ pos (b - a)
  gap_up h = same_int (lowered b -ℤ lowered a) (pos (b - a)) (omega (arith, gap_parts))

  pub gap_down : b ≤ a → lowered b -ℤ lowered a ≡ neg_ℤ (pos (a - b))
  gap_down h = same_int (lowered b -ℤ lowered a) (neg_ℤ (pos (a - b))) (omega (arith, gap_parts, neg_above (pos (a - b)), neg_below (pos (a - b))))

  pub gap_is : nat_abs (lowered b -ℤ lowered a) ≡ (a - b) + (b - a)
  gap_is = let z = lowered b -ℤ lowered a in elim (one_side z) [
    | inl e ↦ omega (arith, e, gap_parts, abs_parts z)
    | inr e ↦ omega (arith, e, gap_parts, abs_parts z)
  ]

-- ---- cuts

quotient_down : (m i n : ℕ) → quotient (neg_ℤ (pos m)) i n ≡ neg_ℤ (pos (i * m / n))
quotient_down zero i n = let e : i * 0 / n ≡ 0 = rw (mul-zero i) (zero-div n) in rw e
quotient_down (suc m) i n = refl

-- no cut lies beyond the end
pub cut_most : (i n m : ℕ) → 0 < n → i ≤ n → i * m / n ≤ m
cut_most i n m N h = div-le_of_le-mul n (mul-le-mul_right m h)

module _ (a b n i : ℕ) where
  pub cut_up : a ≤ b → lowered (a + i * (b - a) / n) ≡ cut_at (lowered a) (lowered b -ℤ lowered a) n i
  unfolding cut_at
  cut_up h =
      let q = i * (b - a) / n in
      rw (gap_up a b h) (same_int (lowered (a + q)) (lowered a +ℤ pos q) (omega (arith, lowered_parts (a + q), lowered_parts a, add_parts (lowered a) (pos q))))

  pub cut_down : b ≤ a → i * (a - b) / n ≤ a → lowered (a - i * (a - b) / n) ≡ cut_at (lowered a) (lowered b -ℤ lowered a) n i
  unfolding cut_at
  cut_down h k =
      let q = i * (a - b) / n in
      rw (gap_down a b h, quotient_down (a - b) i n) (same_int (lowered (a - q)) (lowered a +ℤ neg_ℤ (pos q)) (omega (arith, lowered_parts (a - q), lowered_parts a, add_parts (lowered a) (neg_ℤ (pos q)), neg_above (pos q), neg_below (pos q))))

-- ---- a move, lifted by 121

pub lift_gap : (a b : ℕ) → lift (lowered b -ℤ lowered a) ≡ 121 + b - a
lift_gap a b = omega (arith, lift_is (lowered b -ℤ lowered a), gap_parts a b)

pub gap_small : (a b n : ℕ) → nat_abs (lowered b -ℤ lowered a) ≤ n → (a ≤ n + b) × (b ≤ n + a)
gap_small a b n h = let z = lowered b -ℤ lowered a in elim (one_side z) [
  | inl e ↦ (omega (arith, e, gap_parts a b, abs_parts z), omega (arith, e, gap_parts a b, abs_parts z))
  | inr e ↦ (omega (arith, e, gap_parts a b, abs_parts z), omega (arith, e, gap_parts a b, abs_parts z))
]

pub gap_most : (a b n : ℕ) → a ≤ n → b ≤ n → nat_abs (lowered b -ℤ lowered a) ≤ n
gap_most a b n h k = let z = lowered b -ℤ lowered a in elim (one_side z) [
  | inl e ↦ omega (arith, e, gap_parts a b, abs_parts z)
  | inr e ↦ omega (arith, e, gap_parts a b, abs_parts z)
]
