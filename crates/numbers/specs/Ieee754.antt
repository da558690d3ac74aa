-- What IEEE 754-2019 asks of the leaves, and that they have it and nothing else does.
-- A finite f64 is a whole number of units of 2 ^ -1074, and values and squares are compared as whole numbers (Value has the definitions).
use Rattle.std.specs.Prelude.{◌≡◌, refl, Bool, true, false, not, ◌⊎◌, ℕ, zero, suc, ◌*◌, ◌^◌, T, ℤ, pos, Float}
use Rattle.std.proofs.Common.{sym, ap, ◌∙◌, subst, inl, inr, zero-mul, arith}
use Rattle.std.specs.Float.{nan, inf, fin, binary64}
use Rattle.std.specs.Float.Ieee.{up, fits, is_nan, neg, lt, to_bits, of_bits}
use Rattle.std.specs.Float.Ieee.Bits.{of_bits-to_bits}
use Rattle.std.specs.Float.Ieee.Exact.{HasValue}
use Rattle.numbers.specs.Num.{zero64}
use Rattle.numbers.specs.Root.{root}
use Rattle.numbers.specs.Whole.{floor, ceil}
use Rattle.numbers.specs.Order.{negative, finite, before, smaller, larger}
use Rattle.numbers.specs.Value.{units_of, IsRoot, IsFloor, IsCeil}
use Rattle.numbers.specs.Units.{own_units, same_units}
use Rattle.numbers.specs.Fraction.{under, lt→cross}
use Rattle.numbers.specs.OrderLaws.{before_irrefl, before_trans, before_total, lt_before, before_lt}
use Rattle.numbers.specs.Roots.{root_unique}
use Rattle.numbers.specs.Floors.{floor_has, ceil_has}
use Rattle.numbers.specs.FloorLaws.{floor_unique, ceil_unique}

-- ---- the units of a finite f64 lose nothing of it, and with the sign they fix it
pub units_are : (x : Float) → T (fits binary64 x) → T (finite x) → HasValue x (negative x) (units_of x) (2 ^ 1074)
units_are = own_units

pub units_fix : (x y : Float) → T (fits binary64 x) → T (fits binary64 y) → T (finite x) → T (finite y) → negative x ≡ negative y → units_of x ≡ units_of y → x ≡ y
units_fix = same_units

pub root_only : (x r r' : Float) → IsRoot x r → IsRoot x r' → r ≡ r'
root_only = root_unique

-- a zero is its own root, of either sign
pub root_zero : (s : Bool) → root (fin s 0 (pos 0)) ≡ fin s 0 (pos 0)
unfolding root
root_zero s = refl

-- below zero, minus infinity too, there is none
not_below : (s : Bool) (m : ℕ) (e : ℤ) → under s (m * up e) ≡ 0 → T (lt (fin s m e) zero64) → ⊥
unfolding finite
not_below s m e z h = omega (arith, lt→cross (fin s m e) zero64 tt tt h)

pub root_below : (x : Float) → T (lt x zero64) → root x ≡ nan
unfolding root
root_below nan h = refl
root_below (inf true) h = refl
root_below (inf false) h = unfold lt in absurd h
root_below (fin true zero e) h = absurd (not_below true zero e (zero-mul (up e)) h)
root_below (fin false zero e) h = absurd (not_below false zero e refl h)
root_below (fin true (suc m) e) h = refl
root_below (fin false (suc m) e) h = absurd (not_below false (suc m) e refl h)

pub root_infinity : root (inf false) ≡ inf false
unfolding root
root_infinity = refl

pub root_nan : root nan ≡ nan
unfolding root
root_nan = refl

-- ---- roundToIntegralTowardNegative and roundToIntegralTowardPositive: the whole number next to x on that side, and the only one
pub floor_is : (x : Float) → T (fits binary64 x) → T (finite x) → IsFloor x (floor x)
floor_is = floor_has

pub floor_only : (x r r' : Float) → IsFloor x r → IsFloor x r' → r ≡ r'
floor_only = floor_unique

pub ceil_is : (x : Float) → T (fits binary64 x) → T (finite x) → IsCeil x (ceil x)
ceil_is = ceil_has

pub ceil_only : (x r r' : Float) → IsCeil x r → IsCeil x r' → r ≡ r'
ceil_only = ceil_unique

-- infinities and NaN are left as they are
pub floor_infinity : (s : Bool) → floor (inf s) ≡ inf s
unfolding floor
floor_infinity s = refl

pub ceil_infinity : (s : Bool) → ceil (inf s) ≡ inf s
unfolding ceil
ceil_infinity s = refl

pub floor_nan : floor nan ≡ nan
unfolding floor
floor_nan = refl

pub ceil_nan : ceil nan ≡ nan
unfolding ceil
ceil_nan = refl

-- ---- totalOrder, off NaN: x < y, or x is -0 and y is +0
pub before_says : (x y : Float) → T (fits binary64 x) → T (fits binary64 y) → T (before x y) → T (lt x y) ⊎ ((x ≡ neg zero64) × (y ≡ zero64))
before_says = before_lt

pub before_less : (x y : Float) → T (lt x y) → T (before x y)
before_less = lt_before

pub before_zeros : T (before (neg zero64) zero64)
unfolding before neg
before_zeros = tt

-- it is a strict order, and total: two that are in no order have the same bits
pub order_irreflexive : (x : Float) → T (before x x) → ⊥
order_irreflexive = before_irrefl

pub order_transitive : (x y z : Float) → T (before x y) → T (before y z) → T (before x z)
order_transitive = before_trans

pub order_total : (x y : Float) → T (fits binary64 x) → T (fits binary64 y) → T (not (is_nan x)) → T (not (is_nan y)) → T (before x y) ⊎ T (before y x) ⊎ (to_bits binary64 x ≡ to_bits binary64 y)
order_total x y f g p q = elim (before_total x y f g p q) [ inl h ↦ inl h | inr (inl h) ↦ inr (inl h) | inr (inr e) ↦ inr (inr (ap (to_bits binary64) e)) ]

-- and two in an order have not
pub order_bits : (x y : Float) → T (fits binary64 x) → T (fits binary64 y) → T (before x y) → to_bits binary64 x ≡ to_bits binary64 y → ⊥
order_bits x y f g h e =
    let same : x ≡ y = sym (of_bits-to_bits binary64 x f) ∙ ap (of_bits binary64) e ∙ of_bits-to_bits binary64 y g in
    before_irrefl y (subst (λ (v : Float). T (before v y)) same h)

-- ---- minimumNumber and maximumNumber of two zeros of unlike sign
pub smaller_zeros : (smaller (neg zero64) zero64 ≡ neg zero64) × (smaller zero64 (neg zero64) ≡ neg zero64)
unfolding smaller neg
smaller_zeros = (refl, refl)

pub larger_zeros : (larger (neg zero64) zero64 ≡ zero64) × (larger zero64 (neg zero64) ≡ zero64)
unfolding larger neg
larger_zeros = (refl, refl)
