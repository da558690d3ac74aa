-- A whole number of small size goes to an integer and back without loss: so do floor and ceiling of what is small.
use Rattle.std.specs.Prelude.{◌≡◌, refl, Bool, false, cond, ℕ, zero, suc, ◌+◌, ◌-◌, ◌*◌, ◌/◌, ◌%◌, ◌^◌, ◌≤◌, ◌<◌, min, T, eqb, ℤ, pos, negsuc, neg_ℤ, nat_abs, ◌+ℤ◌, ◌*ℤ◌, Float}
use Rattle.std.proofs.Common.{sym, ap, ◌∙◌, zero-le, zero-mul, mul-one, mul_right_comm, le_of_mul-le-mul_right, div-add-mod', le_trans, arith, le→leb, lit<, pow_pos, pow_mono}
use Rattle.std.proofs.Math.Bool.{true}
use Rattle.std.proofs.Math.Nat.{eq_of_mul-eq-mul_right, div-eq_of_eq-mul_left, zero-div}
use Rattle.std.proofs.Math.Dec.{eqb_refl}
use Rattle.std.specs.Int.Signed.{le_z}
use Rattle.std.specs.Float.Ieee.Nearest.{div_mono}
use Rattle.std.proofs.Math.IntN.{pos-*ℤ-pos, negsuc-*ℤ-pos, zero-*ℤ}
use Rattle.std.specs.Float.{nan, inf, fin, binary64}
use Rattle.std.specs.Float.Ieee.{up, down, round, fits, of_int, to_signed, to_unsigned, eq, le}
use Rattle.std.specs.Float.Ieee.Fits.{down_pos, and_i}
use Rattle.std.specs.Float.Ieee.Back.{round_whole}
use Rattle.std.specs.Float.Ieee.Scale.{round_same}
use Rattle.numbers.specs.Num.{zero64, real}
use Rattle.numbers.specs.Whole.{floor, ceil}
use Rattle.numbers.specs.Order.{negative, finite}
use Rattle.numbers.specs.Value.{units_of, value_of, Within, IsWhole}
use Rattle.numbers.specs.Units.{units_exact}
use Rattle.numbers.specs.Fraction.{nothing, le→cross}
use Rattle.numbers.specs.Rounded.{own_round}
use Rattle.numbers.specs.Floors.{value_units, value_is, floor_has, ceil_has}
use Rattle.numbers.specs.FloorLaws.{floor_fits, ceil_fits, floor_up, ceil_up}
use Rattle.numbers.specs.Bounds.{within_finite, within_floor, within_ceil}

-- ---- a / d is whole
whole_part : (a d u l : ℕ) → 0 < d → 0 < l → a * l ≡ u * d → u % l ≡ 0 → (a ≡ a / d * d) × (u ≡ a / d * l)
whole_part a d u l D L e w =
    let q = u / l in
    let c : u ≡ q * l = omega (arith, div-add-mod' u l) in
    let b : a ≡ q * d = eq_of_mul-eq-mul_right l L a (q * d) (e ∙ ap (λ (x : ℕ). x * d) c ∙ mul_right_comm q l d) in
    let h : a / d ≡ q = div-eq_of_eq-mul_left D b in
    (rw h b, rw h c)

eq_self : (x : Float) → T (finite x) → T (eq x x)
unfolding finite eq
eq_self nan f = f
eq_self (inf s) f = absurd f
eq_self (fin true m e) f = and_i (eqb (m * up e * down e) (m * up e * down e)) true (eqb_refl (m * up e * down e)) tt
eq_self (fin false m e) f = and_i (eqb (m * up e * down e) (m * up e * down e)) true (eqb_refl (m * up e * down e)) tt

-- a as a float, with the sign s
back_is : (s : Bool) (m : ℕ) (e : ℤ) (a : ℕ) → T (fits binary64 (fin s m e)) → m * up e ≡ a * down e → round binary64 s a 1 ≡ fin s m e
back_is s m e a f h = round_same binary64 s a 1 (m * up e) (down e) (lit< tt) (down_pos e) (sym h ∙ sym (mul-one (m * up e))) ∙ sym (own_round s m e f)

opposite : (a l : ℕ) → neg_ℤ (pos (a * l)) ≡ neg_ℤ (pos a) *ℤ pos l
opposite zero l = ap (λ (n : ℕ). neg_ℤ (pos n)) (zero-mul l) ∙ sym (zero-*ℤ (pos l))
opposite (suc a) l = sym (negsuc-*ℤ-pos a l)

zero_back : (m : ℕ) (e : ℤ) → m * up e ≡ 0 * down e → T (eq (real (pos 0)) (fin true m e))
unfolding of_int round eq
zero_back m e h = let z : m * up e * 1 ≡ 0 = omega arith in let y : 0 * down e ≡ 0 = omega arith in rw (z, y) tt

opposite_back : (m : ℕ) (e : ℤ) (a : ℕ) → T (fits binary64 (fin true m e)) → m * up e ≡ a * down e → T (eq (real (neg_ℤ (pos a))) (fin true m e))
opposite_back m e zero f h = zero_back m e h
opposite_back m e (suc a) f h = unfold finite of_int in rw (back_is true m e (suc a) f h) (eq_self (fin true m e) tt)

-- ---- the casts
small_part : (n a d : ℕ) → 0 < d → a ≤ 2 ^ n * d → a ≡ a / d * d → a / d ≤ 2 ^ n
small_part n a d D h e = le_of_mul-le-mul_right {k = d} (omega arith) D

pub abs_opposite : (a : ℕ) → nat_abs (neg_ℤ (pos a)) ≡ a
abs_opposite zero = refl
abs_opposite (suc a) = refl

made_up : (n m : ℕ) (e : ℤ) (a : ℕ) → T (fits binary64 (fin false m e)) → m * up e ≡ a * down e → units_of (fin false m e) ≡ a * 2 ^ 1074 → a ≤ 2 ^ n → IsWhole n (fin false m e) (pos a)
unfolding value_of negative finite of_int
made_up n m e a f h u l = record {
  small = l;
  exact = ap pos u ∙ sym (pos-*ℤ-pos a (2 ^ 1074));
  back = rw (back_is false m e a f h) (eq_self (fin false m e) tt);
  same = λ s. back_is false m e a f h;
}

made_down : (n m : ℕ) (e : ℤ) (a : ℕ) → T (fits binary64 (fin true m e)) → m * up e ≡ a * down e → units_of (fin true m e) ≡ a * 2 ^ 1074 → a ≤ 2 ^ n → IsWhole n (fin true m e) (neg_ℤ (pos a))
unfolding value_of negative
made_down n m e a f h u l = record {
  small = rw (abs_opposite a) l;
  exact = ap (λ (k : ℕ). neg_ℤ (pos k)) u ∙ opposite a (2 ^ 1074);
  back = opposite_back m e a f h;
  same = λ s. absurd s;
}

pub signed_keeps : (n : ℕ) (v : Float) → n ≤ 62 → T (fits binary64 v) → units_of v % 2 ^ 1074 ≡ 0 → Within n v → IsWhole n v (to_signed 63 v)
unfolding Within to_signed
signed_keeps n nan l f w h = absurd h
signed_keeps n (inf s) l f w h = absurd h
signed_keeps n (fin s m e) l f w h =
    let p = whole_part (m * up e) (down e) (units_of (fin s m e)) (2 ^ 1074) (down_pos e) (pow_pos 1074) (units_exact s m e f) w in
    let b = small_part n (m * up e) (down e) (down_pos e) h p.0 in
    go s f (m * up e / down e) p.0 p.1 b (le_trans b (pow_mono l))
  where
    go : (s : Bool) → T (fits binary64 (fin s m e)) → (a : ℕ) → m * up e ≡ a * down e → units_of (fin s m e) ≡ a * 2 ^ 1074 → a ≤ 2 ^ n → a ≤ 2 ^ 62 → IsWhole n (fin s m e) (cond s (neg_ℤ (pos (min a (2 ^ 63)))) (pos (min a (2 ^ 63 - 1))))
    go false f a p u b c = let t : min a (2 ^ 63 - 1) ≡ a = omega arith in rw t (made_up n m e a f p u b)
    go true f a p u b c = let t : min a (2 ^ 63) ≡ a = omega arith in rw t (made_down n m e a f p u b)

pub unsigned_keeps : (n : ℕ) (v : Float) → n ≤ 63 → T (fits binary64 v) → T (le zero64 v) → units_of v % 2 ^ 1074 ≡ 0 → Within n v → IsWhole n v (pos (to_unsigned 64 v))
unfolding Within to_unsigned finite
unsigned_keeps n nan l f g w h = absurd h
unsigned_keeps n (inf s) l f g w h = absurd h
unsigned_keeps n (fin false m e) l f g w h =
    let p = whole_part (m * up e) (down e) (units_of (fin false m e)) (2 ^ 1074) (down_pos e) (pow_pos 1074) (units_exact false m e f) w in
    let b = small_part n (m * up e) (down e) (down_pos e) h p.0 in
    let t : min (m * up e / down e) (2 ^ 64 - 1) ≡ m * up e / down e = uncut (m * up e / down e) (le_trans b (pow_mono l)) in
    rw t (made_up n m e (m * up e / down e) f p.0 p.1 b)
  where
    uncut : (a : ℕ) → a ≤ 2 ^ 63 → min a (2 ^ 64 - 1) ≡ a
    uncut a h = omega arith
unsigned_keeps n (fin true m e) l f g w h =
    let z : m * up e ≡ 0 = omega (arith, le→cross zero64 (fin true m e) tt tt g) in
    made_down n m e 0 f (z ∙ sym (zero-mul (down e))) (no_units (m * up e) (down e) (units_of (fin true m e)) (2 ^ 1074) (down_pos e) (units_exact true m e f) z) (omega arith)
  where
    no_units : (a d u l : ℕ) → 0 < d → a * l ≡ u * d → a ≡ 0 → u ≡ 0 * l
    no_units a d u l D e z = eq_of_mul-eq-mul_right d D u (0 * l) (omega (arith, ap (λ (x : ℕ). x * l) z))

-- every whole number of 53 digits is a float
pub real_whole : (k : ℤ) → nat_abs k ≤ 2 ^ 53 → IsWhole 53 (real k) k
unfolding of_int
real_whole (pos n) h =
    let v = value_units (round binary64 false n 1) false n (round_whole binary64 false n h) in
    record { small = h; exact = value_is (round binary64 false n 1) false (n * 2 ^ 1074) v.1 v.0 ∙ sym (pos-*ℤ-pos n (2 ^ 1074)); back = eq_self (round binary64 false n 1) v.2; same = λ s. refl }
real_whole (negsuc n) h =
    let v = value_units (round binary64 true (suc n) 1) true (suc n) (round_whole binary64 true (suc n) h) in
    record { small = h; exact = value_is (round binary64 true (suc n) 1) true (suc n * 2 ^ 1074) v.1 v.0 ∙ sym (negsuc-*ℤ-pos n (2 ^ 1074)); back = eq_self (round binary64 true (suc n) 1) v.2; same = λ s. refl }

-- ---- of floor and ceiling
pub floor_signed : (n : ℕ) (x : Float) → n ≤ 62 → T (fits binary64 x) → Within n x → IsWhole n (floor x) (to_signed 63 (floor x))
floor_signed n x l f h = signed_keeps n (floor x) l (floor_fits x) (floor_has x f (within_finite n x h)).whole (within_floor n x (omega arith) h)

pub ceil_signed : (n : ℕ) (x : Float) → n ≤ 62 → T (fits binary64 x) → Within n x → IsWhole n (ceil x) (to_signed 63 (ceil x))
ceil_signed n x l f h = signed_keeps n (ceil x) l (ceil_fits x) (ceil_has x f (within_finite n x h)).whole (within_ceil n x (omega arith) h)

pub floor_unsigned : (n : ℕ) (x : Float) → n ≤ 63 → T (fits binary64 x) → T (le zero64 x) → Within n x → IsWhole n (floor x) (pos (to_unsigned 64 (floor x)))
floor_unsigned n x l f g h = unsigned_keeps n (floor x) l (floor_fits x) (floor_up x g) (floor_has x f (within_finite n x h)).whole (within_floor n x (omega arith) h)

pub ceil_unsigned : (n : ℕ) (x : Float) → n ≤ 63 → T (fits binary64 x) → T (le zero64 x) → Within n x → IsWhole n (ceil x) (pos (to_unsigned 64 (ceil x)))
ceil_unsigned n x l f g h = unsigned_keeps n (ceil x) l (ceil_fits x) (ceil_up x g) (ceil_has x f (within_finite n x h)).whole (within_ceil n x (omega arith) h)

-- so the integer is x's floor, or ceiling, exactly
pub floor_number : (n : ℕ) (x : Float) → n ≤ 62 → T (fits binary64 x) → Within n x → (d : ℕ) × (d < 2 ^ 1074) × (value_of x ≡ to_signed 63 (floor x) *ℤ pos (2 ^ 1074) +ℤ pos d)
floor_number n x l f h =
    let r = floor_has x f (within_finite n x h) in
    (r.rest, r.under_one, r.is ∙ ap (λ (j : ℤ). j +ℤ pos r.rest) (floor_signed n x l f h).exact)

pub ceil_number : (n : ℕ) (x : Float) → n ≤ 62 → T (fits binary64 x) → Within n x → (d : ℕ) × (d < 2 ^ 1074) × (to_signed 63 (ceil x) *ℤ pos (2 ^ 1074) ≡ value_of x +ℤ pos d)
ceil_number n x l f h =
    let r = ceil_has x f (within_finite n x h) in
    (r.rest, r.under_one, sym (ceil_signed n x l f h).exact ∙ r.is)

-- ---- the casts go up with their operand
neg_le_pos : (a b : ℕ) → T (le_z (neg_ℤ (pos a)) (pos b))
neg_le_pos zero b = le→leb 0 b (omega arith)
neg_le_pos (suc a) b = tt

neg_mono : (a b : ℕ) → b ≤ a → T (le_z (neg_ℤ (pos a)) (neg_ℤ (pos b)))
neg_mono zero zero h = tt
neg_mono zero (suc b) h = absurd (none b h)
  where
    none : (b : ℕ) → suc b ≤ 0 → ⊥
    none b h = omega arith
neg_mono (suc a) zero h = tt
neg_mono (suc a) (suc b) h = le→leb b a (omega arith)

pos_mono : (a b : ℕ) → a ≤ b → T (le_z (pos a) (pos b))
pos_mono a b h = le→leb a b h

no_part : (a d b c : ℕ) → 0 < d → 0 < c → a * c + b * d ≤ 0 → (a / d ≡ 0) × (b / c ≡ 0)
no_part a d b c D C h =
    let p : a ≡ 0 = nothing a c (b * d) C h in
    let q : b ≡ 0 = nothing b d (a * c) D (omega arith) in
    (ap (λ (x : ℕ). x / d) p ∙ zero-div d, ap (λ (x : ℕ). x / c) q ∙ zero-div c)

pub signed_mono : (h : ℕ) (x y : Float) → T (le x y) → T (le_z (to_signed h x) (to_signed h y))
unfolding to_signed finite
signed_mono h nan y l = unfold le in absurd l
signed_mono h (inf s) nan l = unfold le in absurd l
signed_mono h (inf true) (inf true) l = neg_mono (2 ^ h) (2 ^ h) (omega arith)
signed_mono h (inf true) (inf false) l = neg_le_pos (2 ^ h) (2 ^ h - 1)
signed_mono h (inf false) (inf true) l = unfold le in absurd l
signed_mono h (inf false) (inf false) l = pos_mono (2 ^ h - 1) (2 ^ h - 1) (omega arith)
signed_mono h (inf true) (fin true n d) l = neg_mono (2 ^ h) (min (n * up d / down d) (2 ^ h)) (omega arith)
signed_mono h (inf true) (fin false n d) l = neg_le_pos (2 ^ h) (min (n * up d / down d) (2 ^ h - 1))
signed_mono h (inf false) (fin t n d) l = unfold le in absurd l
signed_mono h (fin s m e) nan l = unfold le in absurd l
signed_mono h (fin s m e) (inf true) l = unfold le in absurd l
signed_mono h (fin true m e) (inf false) l = neg_le_pos (min (m * up e / down e) (2 ^ h)) (2 ^ h - 1)
signed_mono h (fin false m e) (inf false) l = pos_mono (min (m * up e / down e) (2 ^ h - 1)) (2 ^ h - 1) (omega arith)
signed_mono h (fin true m e) (fin false n d) l = neg_le_pos (min (m * up e / down e) (2 ^ h)) (min (n * up d / down d) (2 ^ h - 1))
signed_mono h (fin true m e) (fin true n d) l =
    let p = div_mono (n * up d) (down d) (m * up e) (down e) (down_pos d) (down_pos e) (omega (arith, le→cross (fin true m e) (fin true n d) tt tt l)) in
    neg_mono (min (m * up e / down e) (2 ^ h)) (min (n * up d / down d) (2 ^ h)) (omega arith)
signed_mono h (fin false m e) (fin false n d) l =
    let p = div_mono (m * up e) (down e) (n * up d) (down d) (down_pos e) (down_pos d) (omega (arith, le→cross (fin false m e) (fin false n d) tt tt l)) in
    pos_mono (min (m * up e / down e) (2 ^ h - 1)) (min (n * up d / down d) (2 ^ h - 1)) (omega arith)
signed_mono h (fin false m e) (fin true n d) l =
    let p = no_part (m * up e) (down e) (n * up d) (down d) (down_pos e) (down_pos d) (omega (arith, le→cross (fin false m e) (fin true n d) tt tt l)) in
    let a : min (m * up e / down e) (2 ^ h - 1) ≡ 0 = omega arith in
    let b : min (n * up d / down d) (2 ^ h) ≡ 0 = omega arith in
    rw (a, b) tt

pub unsigned_mono : (w : ℕ) (x y : Float) → T (le x y) → to_unsigned w x ≤ to_unsigned w y
unfolding to_unsigned finite
unsigned_mono w nan y l = unfold le in absurd l
unsigned_mono w (inf s) nan l = unfold le in absurd l
unsigned_mono w (inf true) (inf t) l = zero-le
unsigned_mono w (inf false) (inf true) l = unfold le in absurd l
unsigned_mono w (inf false) (inf false) l = omega arith
unsigned_mono w (inf true) (fin t n d) l = zero-le
unsigned_mono w (inf false) (fin t n d) l = unfold le in absurd l
unsigned_mono w (fin s m e) nan l = unfold le in absurd l
unsigned_mono w (fin s m e) (inf true) l = unfold le in absurd l
unsigned_mono w (fin true m e) (inf false) l = zero-le
unsigned_mono w (fin false m e) (inf false) l = omega arith
unsigned_mono w (fin true m e) (fin t n d) l = zero-le
unsigned_mono w (fin false m e) (fin false n d) l =
    let p = div_mono (m * up e) (down e) (n * up d) (down d) (down_pos e) (down_pos d) (omega (arith, le→cross (fin false m e) (fin false n d) tt tt l)) in
    omega arith
unsigned_mono w (fin false m e) (fin true n d) l =
    let p = no_part (m * up e) (down e) (n * up d) (down d) (down_pos e) (down_pos d) (omega (arith, le→cross (fin false m e) (fin true n d) tt tt l)) in
    omega arith
