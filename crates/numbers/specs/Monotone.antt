-- Sums, differences, products and quotients go up with an operand, or down, by the sign of the other one; each rounded once.
use Rattle.std.specs.Prelude.{◌≡◌, refl, Bool, true, false, ℕ, suc, ◌+◌, ◌*◌, ◌≤◌, ◌<◌, T, ℤ, pos, negsuc}
use Rattle.std.proofs.Common.{ap, arith, leb→le, lit<, ne_eqb}
use native.Mathlib.Nat.{mul-pos, mul-le-mul_right}
use Rattle.std.specs.Int.Signed.{le_z}
use lib.Ieee.{Float, nan, inf, fin, binary64, up, down, unlike, round, add, sub, div, fits, lt, le}
use Rattle.std.specs.Float.Ieee.Fits.{down_pos}
use Rattle.std.specs.Float.Ieee.Positive.{den, den_pos}
use Rattle.numbers.specs.Num.{◌⊕◌, ◌⊖◌, ◌⊗◌, ◌⊘◌, zero64, real}
use Rattle.numbers.specs.Order.{finite}
use Rattle.numbers.specs.Fraction.{over, under, plus, less, le→cross, lt→cross}
use Rattle.numbers.specs.Rounded.{Rounded, rounded_le, own_rounded, add_rounded, sub_rounded, mul_rounded}

-- ---- the sign, from a comparison with zero
pub at_least_zero : (x : Float) → T (finite x) → T (le zero64 x) → less x ≡ 0
unfolding finite
at_least_zero nan f h = refl
at_least_zero (inf s) f h = refl
at_least_zero (fin true m e) f h = omega (arith, le→cross zero64 (fin true m e) tt tt h)
at_least_zero (fin false m e) f h = refl

pub at_most_zero : (x : Float) → T (finite x) → T (le x zero64) → plus x ≡ 0
unfolding finite
at_most_zero nan f h = refl
at_most_zero (inf s) f h = refl
at_most_zero (fin true m e) f h = refl
at_most_zero (fin false m e) f h = omega (arith, le→cross (fin false m e) zero64 tt tt h)

pub above_zero : (x : Float) → T (finite x) → T (lt zero64 x) → (0 < plus x) × (less x ≡ 0)
unfolding finite
above_zero nan f h = absurd f
above_zero (inf s) f h = absurd f
above_zero (fin true m e) f h = absurd (unfold lt in h)
above_zero (fin false m e) f h = (omega (arith, lt→cross zero64 (fin false m e) tt tt h), refl)

pub zero_rounded : Rounded zero64 0 0 1
unfolding round
zero_rounded = record { sign = false; size = 0; is = refl; value = refl }

-- ---- sums and differences
-- (p - n) / d + (q - k) / c against the same of the primed
sums : (p n d p' n' d' q k c q' k' c' : ℕ) → p * d' + n' * d ≤ p' * d + n * d' → q * c' + k' * c ≤ q' * c + k * c' → (p * c + q * d) * (d' * c') + (n' * c' + k' * d') * (d * c) ≤ (p' * c' + q' * d') * (d * c) + (n * c + k * d) * (d' * c')
sums p n d p' n' d' q k c q' k' c' h l =
    let e : (p * c + q * d) * (d' * c') + (n' * c' + k' * d') * (d * c) ≡ (p * d' + n' * d) * (c * c') + (q * c' + k' * c) * (d * d') = omega arith in
    let e' : (p' * c' + q' * d') * (d * c) + (n * c + k * d) * (d' * c') ≡ (p' * d + n * d') * (c * c') + (q' * c + k * c') * (d * d') = omega arith in
    omega (arith, mul-le-mul_right (c * c') h, mul-le-mul_right (d * d') l)

pub add_mono : (x x' y y' : Float) → T (finite x) → T (finite x') → T (finite y) → T (finite y') → T (le x x') → T (le y y') → T (le (x ⊕ y) (x' ⊕ y'))
add_mono x x' y y' f f' g g' h k =
    rounded_le (add_rounded x y f g) (add_rounded x' y' f' g') (mul-pos (den_pos x) (den_pos y)) (mul-pos (den_pos x') (den_pos y'))
    (sums (plus x) (less x) (den x) (plus x') (less x') (den x') (plus y) (less y) (den y) (plus y') (less y') (den y') (le→cross x x' f f' h) (le→cross y y' g g' k))

pub sub_mono : (x x' y y' : Float) → T (finite x) → T (finite x') → T (finite y) → T (finite y') → T (le x x') → T (le y' y) → T (le (x ⊖ y) (x' ⊖ y'))
sub_mono x x' y y' f f' g g' h k =
    rounded_le (sub_rounded x y f g) (sub_rounded x' y' f' g') (mul-pos (den_pos x) (den_pos y)) (mul-pos (den_pos x') (den_pos y'))
    (sums (plus x) (less x) (den x) (plus x') (less x') (den x') (less y) (plus y) (den y) (less y') (plus y') (den y') (le→cross x x' f f' h) (omega (arith, le→cross y' y g' g k)))

-- ---- products: by a factor that is not below zero, and by one that is not above it
pub mul_mono : (x x' y : Float) → T (finite x) → T (finite x') → T (finite y) → T (le zero64 y) → T (le x x') → T (le (x ⊗ y) (x' ⊗ y))
mul_mono x x' y f f' g p h =
    let z = at_least_zero y g p in
    rounded_le (rw z at (mul_rounded x y f g)) (rw z at (mul_rounded x' y f' g)) (mul-pos (den_pos x) (den_pos y)) (mul-pos (den_pos x') (den_pos y))
    (omega (arith, mul-le-mul_right (plus y * den y) (le→cross x x' f f' h)))

pub mul_mono_right : (x y y' : Float) → T (finite x) → T (finite y) → T (finite y') → T (le zero64 x) → T (le y y') → T (le (x ⊗ y) (x ⊗ y'))
mul_mono_right x y y' f g g' p h =
    let z = at_least_zero x f p in
    rounded_le (rw z at (mul_rounded x y f g)) (rw z at (mul_rounded x y' f g')) (mul-pos (den_pos x) (den_pos y)) (mul-pos (den_pos x) (den_pos y'))
    (omega (arith, mul-le-mul_right (plus x * den x) (le→cross y y' g g' h)))

pub mul_anti : (x x' y : Float) → T (finite x) → T (finite x') → T (finite y) → T (le y zero64) → T (le x x') → T (le (x' ⊗ y) (x ⊗ y))
mul_anti x x' y f f' g p h =
    let z = at_most_zero y g p in
    rounded_le (rw z at (mul_rounded x' y f' g)) (rw z at (mul_rounded x y f g)) (mul-pos (den_pos x') (den_pos y)) (mul-pos (den_pos x) (den_pos y))
    (omega (arith, mul-le-mul_right (less y * den y) (le→cross x x' f f' h)))

-- ---- quotients, by a divisor above zero
div_signs : (s : Bool) (a : ℕ) (q : ℕ) → over (unlike s false) (a * q) + under s a * q ≡ over s a * q + under (unlike s false) (a * q)
div_signs true a q = omega arith
div_signs false a q = omega arith

pub div_rounded : (x y : Float) → T (finite x) → T (finite y) → T (lt zero64 y) → Rounded (x ⊘ y) (plus x * den y) (less x * den y) (plus y * den x)
unfolding finite div
div_rounded nan y f g h = absurd f
div_rounded (inf s) y f g h = absurd f
div_rounded (fin s m e) nan f g h = absurd g
div_rounded (fin s m e) (inf t) f g h = absurd g
div_rounded (fin s m e) (fin true n d) f g h = absurd (unfold lt in h)
div_rounded (fin s m e) (fin false n d) f g h = rw (ne_eqb n 0 (λ z. none z)) (record { sign = unlike s false; size = m * up e * down d; is = refl; value = div_signs s (m * up e) (down d) })
  where
    none : n ≡ 0 → ⊥
    none z = omega (arith, (above_zero (fin false n d) tt h).0, ap (λ (k : ℕ). k * up d) z, native.Mathlib.Nat.zero-mul (up d))

pub div_mono : (x x' y : Float) → T (finite x) → T (finite x') → T (finite y) → T (lt zero64 y) → T (le x x') → T (le (x ⊘ y) (x' ⊘ y))
div_mono x x' y f f' g p h =
    let q = (above_zero y g p).0 in
    rounded_le (div_rounded x y f g p) (div_rounded x' y f' g p) (mul-pos q (den_pos x)) (mul-pos q (den_pos x'))
    (omega (arith, mul-le-mul_right (plus y * den y) (le→cross x x' f f' h)))

-- a larger divisor of what is not below zero
pub div_anti : (x y y' : Float) → T (finite x) → T (finite y) → T (finite y') → T (le zero64 x) → T (lt zero64 y) → T (lt zero64 y') → T (le y y') → T (le (x ⊘ y') (x ⊘ y))
div_anti x y y' f g g' p q q' h =
    let z = at_least_zero x f p in
    let w = above_zero y g q in
    let w' = above_zero y' g' q' in
    rounded_le (rw z at (div_rounded x y' f g' q')) (rw z at (div_rounded x y f g q)) (mul-pos w'.0 (den_pos x)) (mul-pos w.0 (den_pos x))
    (omega (arith, mul-le-mul_right (plus x * den x) (rw (w.1, w'.1) at (le→cross y y' g g' h))))

-- ---- a sum with what is not below zero, and a difference with it
finite_up : (s l : Float) → T (fits binary64 s) → T (finite s) → T (finite l) → T (le zero64 l) → T (le s (s ⊕ l)) × T (le (s ⊖ l) s)
finite_up s l q f g p =
    let z = at_least_zero l g p in (
      rounded_le (own_rounded s f q) (rw z at (add_rounded s l f g)) (den_pos s) (mul-pos (den_pos s) (den_pos l)) (omega arith),
      rounded_le (rw z at (sub_rounded s l f g)) (own_rounded s f q) (mul-pos (den_pos s) (den_pos l)) (den_pos s) (omega arith),
    )

pub add_up : (s l : Float) → T (fits binary64 s) → T (finite s) → T (le zero64 l) → T (le s (s ⊕ l))
unfolding finite
add_up nan l q f p = absurd f
add_up (inf t) l q f p = absurd f
add_up (fin t m e) nan q f p = unfold le in absurd p
add_up (fin t m e) (inf true) q f p = unfold le in absurd p
add_up (fin t m e) (inf false) q f p = unfold le add in tt
add_up (fin t m e) (fin u n d) q f p = (finite_up (fin t m e) (fin u n d) q tt tt p).0

pub sub_down : (s l : Float) → T (fits binary64 s) → T (finite s) → T (le zero64 l) → T (le (s ⊖ l) s)
unfolding finite
sub_down nan l q f p = absurd f
sub_down (inf t) l q f p = absurd f
sub_down (fin t m e) nan q f p = unfold le in absurd p
sub_down (fin t m e) (inf true) q f p = unfold le in absurd p
sub_down (fin t m e) (inf false) q f p = unfold le sub in tt
sub_down (fin t m e) (fin u n d) q f p = (finite_up (fin t m e) (fin u n d) q tt tt p).1

-- ---- results that are not below zero
pub sum_up : (x y : Float) → T (le zero64 x) → T (le zero64 y) → T (le zero64 (x ⊕ y))
sum_up nan y p q = unfold le in absurd p
sum_up (inf true) y p q = unfold le in absurd p
sum_up (inf false) nan p q = unfold le in absurd q
sum_up (inf false) (inf true) p q = unfold le in absurd q
sum_up (inf false) (inf false) p q = unfold le add in tt
sum_up (inf false) (fin t n d) p q = unfold le add in tt
sum_up (fin s m e) nan p q = unfold le in absurd q
sum_up (fin s m e) (inf true) p q = unfold le in absurd q
sum_up (fin s m e) (inf false) p q = unfold le add in tt
sum_up (fin s m e) (fin t n d) p q = unfold finite in
    let x = fin s m e in
    let y = fin t n d in
    rounded_le zero_rounded (rw (at_least_zero x tt p, at_least_zero y tt q) at (add_rounded x y tt tt)) (lit< tt) (mul-pos (down_pos e) (down_pos d)) (omega arith)

pub sub_up : (x y : Float) → T (finite x) → T (finite y) → T (le y x) → T (le zero64 (x ⊖ y))
sub_up x y f g h = rounded_le zero_rounded (sub_rounded x y f g) (lit< tt) (mul-pos (den_pos x) (den_pos y)) (omega (arith, le→cross y x g f h))

pub mul_up : (x y : Float) → T (finite x) → T (finite y) → T (le zero64 x) → T (le zero64 y) → T (le zero64 (x ⊗ y))
mul_up x y f g p q = rounded_le zero_rounded (rw (at_least_zero x f p, at_least_zero y g q) at (mul_rounded x y f g)) (lit< tt) (mul-pos (den_pos x) (den_pos y)) (omega arith)

pub square_up : (x : Float) → T (finite x) → T (le zero64 (x ⊗ x))
unfolding finite
square_up nan f = absurd f
square_up (inf s) f = absurd f
square_up (fin true m e) f = rounded_le zero_rounded (mul_rounded (fin true m e) (fin true m e) f f) (lit< tt) (mul-pos (down_pos e) (down_pos e)) (omega arith)
square_up (fin false m e) f = rounded_le zero_rounded (mul_rounded (fin false m e) (fin false m e) f f) (lit< tt) (mul-pos (down_pos e) (down_pos e)) (omega arith)

pub div_up : (x y : Float) → T (finite x) → T (finite y) → T (le zero64 x) → T (lt zero64 y) → T (le zero64 (x ⊘ y))
div_up x y f g p q = rounded_le zero_rounded (rw (at_least_zero x f p) at (div_rounded x y f g q)) (lit< tt) (mul-pos (above_zero y g q).0 (den_pos x)) (omega arith)

-- ---- whole numbers as floats
abbrev pub topℤ : ℤ → ℕ
topℤ (pos n) = n
topℤ (negsuc n) = 0

abbrev pub lessℤ : ℤ → ℕ
lessℤ (pos n) = 0
lessℤ (negsuc n) = suc n

pub real_rounded : (k : ℤ) → Rounded (real k) (topℤ k) (lessℤ k) 1
unfolding lib.Ieee.of_int
real_rounded (pos n) = record { sign = false; size = n; is = refl; value = refl }
real_rounded (negsuc n) = record { sign = true; size = suc n; is = refl; value = refl }

pub real_mono : (j k : ℤ) → T (le_z j k) → T (le (real j) (real k))
real_mono j k h = rounded_le (real_rounded j) (real_rounded k) (lit< tt) (lit< tt) (go j k h)
  where
    go : (j k : ℤ) → T (le_z j k) → topℤ j * 1 + lessℤ k * 1 ≤ topℤ k * 1 + lessℤ j * 1
    go (pos a) (pos b) h = omega (arith, leb→le a b h)
    go (pos a) (negsuc b) h = absurd h
    go (negsuc a) (pos b) h = omega arith
    go (negsuc a) (negsuc b) h = omega (arith, leb→le b a h)
