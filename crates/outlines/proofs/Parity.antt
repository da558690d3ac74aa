-- An i64 by its bits: zero, and odd. Assumes nothing.
use Prim.Native.Nat.{ℕ, zero, suc, ◌-◌, ◌/◌, ◌%◌, ◌^◌, ◌<◌}
use native.Mathlib.Omega.{arith}
use mathlib.Core.Path.{◌≡◌, refl, sym, ap, ◌∙◌}
use mathlib.Core.Bool.{not}
use lib.Dec.{eqb}
use lib.IntN.{ℤ, pos, negsuc, neg_ℤ, nat_abs}
use lib.Signed.{rem_z, quot_z}
use mir.Syntax.{w64}
use mir.Val.{SFits, of_z}
use borrow.Author.Tests.{ne_eqb}
use Rattle.seqs.specs.Signed.{small}
use Rattle.numbers.specs.CastLaws.{abs_opposite}

pub zero_bits : (z : ℤ) → SFits w64 z → not (eqb (of_z w64 z) 0) ≡ not (eqb (nat_abs z) 0)
zero_bits (pos a) h = refl
zero_bits (negsuc a) h = ap not (ne_eqb (2 ^ 64 - suc a) 0 (λ e. omega (arith, h.sfits)) ∙ sym (ne_eqb (suc a) 0 (λ e. omega arith)))

-- halves fit
pub quot_fits : (z : ℤ) → SFits w64 z → SFits w64 (quot_z z (pos 2))
quot_fits (pos a) h = small (pos (a / 2)) (a / 2) (omega arith) (omega (arith, h.sfits))
quot_fits (negsuc a) h = small (neg_ℤ (pos (suc a / 2))) (suc a / 2) (omega (arith, abs_opposite (suc a / 2))) (omega (arith, h.sfits))

odd : (m : ℕ) → m < 2 → (not (eqb (of_z w64 (pos m)) 0) ≡ eqb m 1) × (not (eqb (of_z w64 (neg_ℤ (pos m))) 0) ≡ eqb m 1)
odd zero h = (refl, refl)
odd (suc zero) h = (refl, refl)
odd (suc (suc m)) h = absurd (omega arith)

pub rem_bits : (z : ℤ) → not (eqb (of_z w64 (rem_z z (pos 2))) 0) ≡ eqb (nat_abs z % 2) 1
rem_bits (pos a) = (odd (a % 2) (omega arith)).0
rem_bits (negsuc a) = (odd (suc a % 2) (omega arith)).1
