-- The laws of the numbers that callers use: no caller opens a definition of `leaves`, or a float.
-- Hypotheses come as `T test`; `holds` and `fails` make one of what a branch shows. ≤ and < below stand for `le` and `lt`, 0 for `zero64`, and a NaN is in no order.
-- `T (fits binary64 x)` holds for every f64 of the code, and for every result of an operation. Some names are those of ℕ's laws too: `use .. Laws as laws`, and `laws.le_trans`.
use Rattle.std.specs.Prelude.{◌≡◌, Bool, true, false, not, T}
use Rattle.std.proofs.Common.{sym, subst}
-- ---- what fits: the results of ⊕, ⊖, ⊗, ⊘, a literal and a whole number's float; neg and magnitude of what fits; floor and ceiling
pub use Rattle.std.specs.Float.Ieee.Fits.{add-fits, sub-fits, mul-fits, div-fits, round-fits, of_int-fits, neg-fits}
pub use Rattle.numbers.specs.Choice.{magnitude_fits}
pub use Rattle.numbers.specs.FloorLaws.{floor_fits, ceil_fits}
-- ---- the order of values
-- x ≤ x, if it is no NaN
pub use Rattle.numbers.specs.FloatOrder.{le_refl}
-- x ≤ y ≤ z, x ≤ y < z, x < y ≤ z, x < y < z: so x and z are
pub use Rattle.numbers.specs.FloatOrder.{le_trans, le_lt_trans, lt_le_trans, lt_trans}
-- x ≤ y or y < x, if neither is a NaN; and never both
pub use Rattle.numbers.specs.FloatOrder.{le_or_lt, le_lt_clash}
-- no x < x; x < y makes x ≤ y, and so does x = y
pub use Rattle.numbers.specs.FloatOrder.{lt_irrefl, lt_le, eq_le, eq_sym}
-- what stands in x ≤ y is no NaN, and what is finite is none
pub use Rattle.numbers.specs.FloatOrder.{le_left, le_right, finite_number}
-- what lies between finite numbers is finite
pub use Rattle.numbers.specs.FloatOrder.{between_finite}
-- x ≤ y makes -y ≤ -x; turned twice a sign is what it was
pub use Rattle.numbers.specs.FloatOrder.{neg_le, neg_neg}
-- ---- the total order, -0 before +0
-- nothing is before itself; x before y before z: so x before z; never both ways
pub use Rattle.numbers.specs.OrderLaws.{before_irrefl, before_trans, before_asym}
-- of two that fit and are no NaN, one is before the other, or they are the same
pub use Rattle.numbers.specs.OrderLaws.{before_total}
-- x < y makes x before y; x before y makes x < y, but for -0 and +0; it makes x ≤ y in any case
pub use Rattle.numbers.specs.OrderLaws.{lt_before, before_lt, before_le, not_before_le}
-- ---- smaller, larger, magnitude
-- what both have (fits, finite, Within n, ≤ z), the smaller and the larger has
pub use Rattle.numbers.specs.Choice.{smaller_has, larger_has}
-- neither is before the smaller, and the larger before neither
pub use Rattle.numbers.specs.Choice.{smaller_left, smaller_right, larger_left, larger_right}
-- the smaller ≤ each ≤ the larger, if neither is a NaN
pub use Rattle.numbers.specs.Choice.{smaller_le_left, smaller_le_right, le_larger_left, le_larger_right}
-- the magnitude is finite where x is, has x's units, and is x or -x
pub use Rattle.numbers.specs.Choice.{magnitude_finite, magnitude_units, magnitude_is}
-- 0 ≤ |x|, x ≤ |x| and -|x| ≤ x, if x is no NaN
pub use Rattle.numbers.specs.Choice.{magnitude_up, le_magnitude, neg_le_magnitude}
-- ---- the root: more in proofs/Laws
-- a zero is its own root; below zero there is none
pub use Rattle.numbers.specs.Roots.{root_of_zero}
pub use Rattle.numbers.specs.Ieee754.{root_below}
-- ---- floor and ceiling
-- x ≤ y makes floor x ≤ floor y and ceil x ≤ ceil y
pub use Rattle.numbers.specs.FloorLaws.{floor_mono, ceil_mono}
-- floor x ≤ x ≤ ceil x, if x is no NaN; 0 ≤ x makes 0 ≤ floor x and 0 ≤ ceil x
pub use Rattle.numbers.specs.FloorLaws.{floor_le, le_ceil, floor_up, ceil_up}
-- finite of what is finite
pub use Rattle.numbers.specs.FloorLaws.{floor_finite, ceil_finite}
-- exactly: whole, finite, less than one away, with x's sign (`IsFloor`, `IsCeil`)
pub use Rattle.numbers.specs.Ieee754.{floor_is, ceil_is}
-- a whole number is its own floor and ceiling; up to x it is up to the floor, and from x on from the ceiling on
pub use Rattle.numbers.specs.FloorLaws.{floor_whole, ceil_whole, whole_le_floor, ceil_le_whole}
-- ---- operations, each rounded once, go up and down with their operands
-- x ≤ x' and y ≤ y' make x ⊕ y ≤ x' ⊕ y'; x ≤ x' and y' ≤ y make x ⊖ y ≤ x' ⊖ y'
pub use Rattle.numbers.specs.Monotone.{add_mono, sub_mono}
-- x ≤ x' makes x ⊗ y ≤ x' ⊗ y where 0 ≤ y, also with the factors turned round, and x' ⊗ y ≤ x ⊗ y where y ≤ 0
pub use Rattle.numbers.specs.Monotone.{mul_mono, mul_mono_right, mul_anti}
-- x ≤ x' makes x ⊘ y ≤ x' ⊘ y where 0 < y, and 0 < y ≤ y' makes x ⊘ y' ≤ x ⊘ y where 0 ≤ x
pub use Rattle.numbers.specs.Monotone.{div_mono, div_anti}
-- s ≤ s ⊕ l and s ⊖ l ≤ s where 0 ≤ l; the first past every number too, where 0 ≤ s
pub use Rattle.numbers.specs.Monotone.{add_up, sub_down}
pub use Rattle.numbers.specs.Squares.{over_up}
-- 0 ≤ x ⊕ y, x ⊗ y and x ⊘ y where neither is below zero; 0 ≤ x ⊖ y where y ≤ x; 0 ≤ x ⊗ x
pub use Rattle.numbers.specs.Monotone.{sum_up, mul_up, div_up, sub_up, square_up}
-- j ≤ k makes real j ≤ real k
pub use Rattle.numbers.specs.Monotone.{real_mono}
-- x ⊕ y is y ⊕ x, and x ⊗ y is y ⊗ x
pub use Rattle.numbers.specs.Commute.{⊕-comm, ⊗-comm}
-- ---- bounds of size: Within n x, at most 2 ^ n; AtLeast j x, at least 2 ^ -j; both finite
pub use Rattle.numbers.specs.Bounds.{within_finite, within_more, atleast_finite, atleast_more, atleast_above}
-- from a test: |x| ≤ y; lo ≤ x ≤ hi; x ≤ y with x at least
pub use Rattle.numbers.specs.Bounds.{within_le, within_between, atleast_le}
-- of whole numbers, literals and constants
pub use Rattle.numbers.specs.Bounds.{within_real, within_literal, within_fin, atleast_literal, atleast_fin}
-- -x and |x| keep n; a sum and a difference have n + 1; a product a + b; a quotient by what is AtLeast j, n + j
pub use Rattle.numbers.specs.Bounds.{within_neg, within_magnitude, within_add, within_sub, within_mul, within_div}
-- floor and ceiling keep n
pub use Rattle.numbers.specs.Bounds.{within_floor, within_ceil}
-- x ⊗ x < 4 ^ n, or x ⊗ x ⊕ y ⊗ y: x, and y, at most 2 ^ n
pub use Rattle.numbers.specs.Squares.{within_square, within_squares}
-- ---- casts
-- a whole number v of at most 2 ^ n goes to i64 (n ≤ 62) and to u64 (n ≤ 63, 0 ≤ v) and back without loss (`IsWhole`)
pub use Rattle.numbers.specs.CastLaws.{signed_keeps, unsigned_keeps}
-- so do floor and ceiling of an x of at most 2 ^ n
pub use Rattle.numbers.specs.CastLaws.{floor_signed, ceil_signed, floor_unsigned, ceil_unsigned}
-- so as an i64 it is x's floor, or ceiling, exactly: x in units is that many ones and less than one more, or less
pub use Rattle.numbers.specs.CastLaws.{floor_number, ceil_number}
-- every whole number of 53 digits is a float
pub use Rattle.numbers.specs.CastLaws.{real_whole}
-- the rounded magnitude by twice it, below 2 ^ 53
pub use Rattle.numbers.specs.RoundingLaws.{nearest_is, twice_small}
-- x ≤ y makes x as an integer ≤ y as one
pub use Rattle.numbers.specs.CastLaws.{signed_mono, unsigned_mono}

-- ---- tests
-- a test that came out true, or false
pub holds : {b : Bool} → b ≡ true → T b
holds e = subst T (sym e) tt

pub fails : {b : Bool} → b ≡ false → T (not b)
fails e = subst (λ (b : Bool). T (not b)) (sym e) tt
