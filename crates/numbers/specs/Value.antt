-- A finite f64 as a whole number of units of 2 ^ -1074, the smallest value, and what IEEE 754 asks of root, floor and ceiling in these numbers; bounds of size. Definitions only.
use Rattle.std.specs.Prelude.{ℕ, ◌+◌, ◌*◌, ◌/◌, ◌%◌, ◌^◌, ◌≤◌, ◌<◌, ◌≡◌, true, false, not, cond, ℤ, pos, neg_ℤ, nat_abs, ◌+ℤ◌, ◌*ℤ◌, T, Float}
use Rattle.std.specs.Float.{nan, inf, fin, binary64}
use Rattle.std.specs.Float.Ieee.{up, down, eq, fits}
use Rattle.numbers.specs.Num.{real}
use Rattle.numbers.specs.Order.{negative, finite}

-- the magnitude in units: of what fits f64 the division leaves no rest (`units_exact`)
unfoldable pub units_of : Float → ℕ
units_of nan = 0
units_of (inf s) = 0
units_of (fin s m e) = m * up e * 2 ^ 1074 / down e

-- the value in units
unfoldable pub value_of : Float → ℤ
unfolding units_of negative
value_of x = cond (negative x) (neg_ℤ (pos (units_of x))) (pos (units_of x))

-- r lies nearer to √n than y does, if it isn't y: √n is on r's side of (r + y) / 2, and 4 * n on its side of (r + y) ^ 2
pub record Nearer (n r y : ℕ) : Type 0 where
  pub under : y < r → (r + y) * (r + y) < 4 * n
  pub over : r < y → 4 * n < (r + y) * (r + y)

-- r is x's root, correctly rounded. x is n = units_of x * 2 ^ 1074 squares of the unit, so its exact root is √n units, and no other finite f64 lies as near to it.
-- (A negative y counts by its magnitude, and is farther off than that.)
pub record IsRoot (x r : Float) : Type 0 where
  pub fit : T (fits binary64 r)
  pub fine : T (finite r)
  pub sign : T (not (negative r))
  pub nearest : (y : Float) → T (fits binary64 y) → T (finite y) → Nearer (units_of x * 2 ^ 1074) (units_of r) (units_of y)

-- r is the whole number at or below x, and less than one away; a zero has x's sign
pub record IsFloor (x r : Float) : Type 0 where
  pub fit : T (fits binary64 r)
  pub fine : T (finite r)
  pub sign : negative r ≡ negative x
  pub whole : units_of r % 2 ^ 1074 ≡ 0
  pub rest : ℕ
  pub under_one : rest < 2 ^ 1074
  pub is : value_of x ≡ value_of r +ℤ pos rest

-- r is the whole number at or above x, and less than one away; a zero has x's sign
pub record IsCeil (x r : Float) : Type 0 where
  pub fit : T (fits binary64 r)
  pub fine : T (finite r)
  pub sign : negative r ≡ negative x
  pub whole : units_of r % 2 ^ 1074 ≡ 0
  pub rest : ℕ
  pub under_one : rest < 2 ^ 1074
  pub is : value_of r ≡ value_of x +ℤ pos rest

-- v is the whole number k, which is at most 2 ^ n in size, and k as a float equals v: it is v, but for -0
pub record IsWhole (n : ℕ) (v : Float) (k : ℤ) : Type 0 where
  pub small : nat_abs k ≤ 2 ^ n
  pub exact : value_of v ≡ k *ℤ pos (2 ^ 1074)
  pub back : T (eq (real k) v)
  pub same : T (not (negative v)) → real k ≡ v

-- x is finite, and at most 2 ^ n in size
unfoldable pub Within : ℕ → Float → Type 0
Within n nan = ⊥
Within n (inf s) = ⊥
Within n (fin s m e) = m * up e ≤ 2 ^ n * down e

-- x is finite, and at least 2 ^ -j
unfoldable pub AtLeast : ℕ → Float → Type 0
AtLeast j nan = ⊥
AtLeast j (inf s) = ⊥
AtLeast j (fin true m e) = ⊥
AtLeast j (fin false m e) = down e ≤ m * up e * 2 ^ j
