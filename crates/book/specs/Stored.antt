-- The sheet that is found after a store says the values that were stored. Assumes nothing.
use Rattle.std.specs.Prelude.{ℕ, zero, suc, ◌+◌, ◌*◌, ◌/◌, ◌%◌, ◌^◌, ◌≤◌, ◌<◌, ◌≡◌, List, [], ◌∷◌, ◌++◌, T, eqb, Float}
use native.Mathlib.Omega.{arith}
use Rattle.std.proofs.Common.{lt_of_lt_of_le, ap, ◌∙◌, inl, inr, lit≤, pow-suc, eq-eqb}
use Rattle.std.proofs.Math.Path.{refl}
use Rattle.std.specs.Float.{binary64}
use Rattle.std.specs.Float.Ieee.{of_bits, to_bits, fits}
use Rattle.std.specs.Float.Ieee.Bits.{of_bits-to_bits, to_bits-lt}
use Rattle.refusal.specs.Refusal.{DONE}
use Rattle.seqs.specs.Tests.{either}
use Rattle.jobs.specs.Job.{value, number, float}
use Rattle.book.specs.declared.values.Values.{Values}
use Rattle.book.specs.Book.{number_of, values_of, sheets, sheet_of, bytes, head_bytes, bits, value_bytes, sheet_bytes, replaced, store_refusal, after_store}
use Rattle.book.specs.Back.{store_back}

value_last : (a b : ℕ) (l : List ℕ) → value a (l ++ b ∷ []) ≡ value a l * 256 + b
unfolding value
value_last a b [] = refl
value_last a b (x ∷ l) = value_last (a * 256 + x) b l

-- a number's bytes are worth the number
bytes_value : (k x : ℕ) → x < 256 ^ k → value 0 (bytes k x) ≡ x
unfolding bytes value
bytes_value zero x h = omega (arith, h)
bytes_value (suc k) x h =
    let i = bytes_value k (x / 256) (part (256 ^ k) (rw pow-suc at h)) in
    value_last 0 (x % 256) (bytes k (x / 256)) ∙ omega (arith, i)
  where
    part : (p : ℕ) → x < p * 256 → x / 256 < p
    part p h = omega arith

float_value : (x : Float) → T (fits binary64 x) → of_bits binary64 (value 0 (bits x)) ≡ x
unfolding bits
float_value x h = ap (of_bits binary64) (bytes_value 8 (to_bits binary64 x) (lt_of_lt_of_le (to_bits-lt binary64 x h) (lit≤ tt))) ∙ of_bits-to_bits binary64 x h

module _ (n : ℕ) (v : Values) where
  spacing_says : float 5 (sheet_bytes n v) ≡ of_bits binary64 (value 0 (bits v.spacing))
  unfolding float number sheet_bytes head_bytes value_bytes bits bytes
  spacing_says = refl

  len_says : float 13 (sheet_bytes n v) ≡ of_bits binary64 (value 0 (bits v.len))
  unfolding float number sheet_bytes head_bytes value_bytes bits bytes
  len_says = refl

  inset_says : float 21 (sheet_bytes n v) ≡ of_bits binary64 (value 0 (bits v.inset))
  unfolding float number sheet_bytes head_bytes value_bytes bits bytes
  inset_says = refl

  pull_says : float 29 (sheet_bytes n v) ≡ of_bits binary64 (value 0 (bits v.pull))
  unfolding float number sheet_bytes head_bytes value_bytes bits bytes
  pull_says = refl

  stagger_says : number 37 4 (sheet_bytes n v) ≡ value 0 (bytes 4 v.stagger)
  unfolding number sheet_bytes head_bytes value_bytes bits bytes
  stagger_says = refl

  number_says : number_of (sheet_bytes n v) ≡ value 0 (bytes 2 n)
  unfolding number_of number sheet_bytes head_bytes value_bytes bits bytes
  number_says = refl

  pub number_back : n < 65536 → number_of (sheet_bytes n v) ≡ n
  number_back h = number_says ∙ bytes_value 2 n (lt_of_lt_of_le h (lit≤ tt))

  -- every f64 fits; a stagger that is accepted is far below 32 bits
  pub values_back : T (fits binary64 v.spacing) → T (fits binary64 v.len) → T (fits binary64 v.inset) → T (fits binary64 v.pull) → v.stagger ≤ 1000 → values_of (sheet_bytes n v) ≡ v
  unfolding values_of
  values_back a b d e h =
      rw (spacing_says, len_says, inset_says, pull_says, stagger_says, float_value v.spacing a, float_value v.len b, float_value v.inset d, float_value v.pull e, bytes_value 4 v.stagger (lt_of_lt_of_le (below h) (lit≤ tt)))
    where
      below : v.stagger ≤ 1000 → v.stagger < 1001
      below h = omega arith

pub sheet_replaced : (n : ℕ) (t : List ℕ) (ts : List (List ℕ)) → number_of t ≡ n → sheet_of n (replaced n t ts) ≡ t
unfolding sheet_of replaced
sheet_replaced n t [] e = rw (eq-eqb (number_of t) n e)
sheet_replaced n t (u ∷ us) e = elim (either (eqb (number_of u) n)) [ inl d ↦ rw (d, eq-eqb (number_of t) n e) | inr d ↦ rw (d, d) (sheet_replaced n t us e) ]

-- the sheet found under the number is the one that was stored
pub stored_found : (s : List ℕ) (n : ℕ) (v : Values) → n < 65536 → store_refusal s n v ≡ DONE → sheet_of n (sheets (after_store s n v)) ≡ sheet_bytes n v
stored_found s n v h e = rw (store_back s n v e) (sheet_replaced n (sheet_bytes n v) (sheets s) (number_back n v h))
