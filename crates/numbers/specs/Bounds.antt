-- Bounds of size: each operation keeps one. `Within n x` says that x is finite and at most 2 ^ n in size, `AtLeast j x` that it is finite and at least 2 ^ -j.
use Rattle.std.specs.Prelude.{◌≡◌, Bool, not, ◌⊎◌, ℕ, zero, suc, ◌+◌, ◌-◌, ◌*◌, ◌/◌, ◌^◌, ◌≤◌, ◌<◌, ℤ, pos, negsuc, nat_abs, Float}
use Rattle.std.proofs.Math.Path.{sym}
use Rattle.std.proofs.Common.{ap, ◌∙◌, subst, inl, inr, one-mul, mul-one, mul_assoc, mul_comm, mul_left_comm, mul-pos, mul-le-mul, mul-le-mul_left, mul-le-mul_right, le_of_mul-le-mul_right, eq-zero-or-pos, le_trans, lt_of_le_of_lt, arith, lit<, pow_pos, pow-add, pow_mono}
use Rattle.std.proofs.Math.Bool.{true, false}
use Rattle.std.proofs.Math.Nat.{le_of_eq}
use Rattle.std.proofs.Math.Dec.{T}
use Rattle.std.specs.Float.Ieee.{nan, binary64, up, down, unlike, round, mul, neg, of_int, lt, le}
use Rattle.std.specs.Float.{inf, fin}
use Rattle.std.specs.Float.Ieee.Fits.{down_pos}
use Rattle.std.specs.Float.Ieee.Exact.{HasValue, round_exact}
use Rattle.std.specs.Float.Ieee.Order.{round_mono}
use Rattle.std.specs.Float.Ieee.Positive.{den, den_pos}
use Rattle.numbers.specs.Num.{◌⊕◌, ◌⊖◌, ◌⊗◌, ◌⊘◌, zero64, real, literal}
use Rattle.numbers.specs.Whole.{part, whole_of, floor, ceil}
use Rattle.numbers.specs.Order.{negative, finite, magnitude}
use Rattle.numbers.specs.Value.{Within, AtLeast}
use Rattle.numbers.specs.Fraction.{over, under, plus, less, le→cross, cross→lt}
use Rattle.numbers.specs.Rounded.{Rounded, neg_round, round_up, add_rounded, sub_rounded}
use Rattle.numbers.specs.Monotone.{above_zero, div_rounded}
use Rattle.numbers.specs.Floors.{part_toward}
use Rattle.numbers.specs.FloorLaws.{away_least}

pub within_finite : (n : ℕ) (x : Float) → Within n x → T (finite x)
unfolding Within finite
within_finite n nan h = h
within_finite n (inf s) h = h
within_finite n (fin s m e) h = tt

pub within_more : (n k : ℕ) (x : Float) → n ≤ k → Within n x → Within k x
unfolding Within
within_more n k nan l h = h
within_more n k (inf s) l h = h
within_more n k (fin s m e) l h = le_trans h (mul-le-mul_right (down e) (pow_mono l))

pub within_neg : (n : ℕ) (x : Float) → Within n x → Within n (neg x)
unfolding Within neg
within_neg n nan h = h
within_neg n (inf s) h = h
within_neg n (fin s m e) h = h

pub within_magnitude : (n : ℕ) (x : Float) → Within n x → Within n (magnitude x)
unfolding Within magnitude
within_magnitude n nan h = h
within_magnitude n (inf s) h = h
within_magnitude n (fin s m e) h = h

within_parts : (n : ℕ) (x : Float) → Within n x → (plus x ≤ 2 ^ n * den x) × (less x ≤ 2 ^ n * den x)
unfolding Within
within_parts n nan h = absurd h
within_parts n (inf s) h = absurd h
within_parts n (fin true m e) h = (omega arith, h)
within_parts n (fin false m e) h = (h, omega arith)

-- a constant, by comparing two numbers
pub within_fin : (n : ℕ) (s : Bool) (m : ℕ) (e : ℤ) → m * up e ≤ 2 ^ n * down e → Within n (fin s m e)
unfolding Within
within_fin n s m e h = h

pub atleast_fin : (j m : ℕ) (e : ℤ) → down e ≤ m * up e * 2 ^ j → AtLeast j (fin false m e)
unfolding AtLeast
atleast_fin j m e h = h

-- ---- what a test shows
pub within_le : (n : ℕ) (x y : Float) → T (le (magnitude x) y) → Within n y → Within n x
unfolding Within magnitude finite
within_le n nan y h k = unfold le in absurd h
within_le n (inf s) nan h k = absurd k
within_le n (inf s) (inf t) h k = absurd k
within_le n (inf s) (fin t u d) h k = unfold le in h
within_le n (fin s m e) nan h k = absurd k
within_le n (fin s m e) (inf t) h k = absurd k
within_le n (fin s m e) (fin t u d) h k =
    let w = within_parts n (fin t u d) k in
    le_of_mul-le-mul_right {k = down d} (omega (arith, (le→cross (fin false m e) (fin t u d) tt tt h), mul-le-mul_right (down e) w.0)) (down_pos d)

pub within_between : (n : ℕ) (lo x hi : Float) → T (le lo x) → T (le x hi) → Within n lo → Within n hi → Within n x
unfolding Within finite
within_between n nan x hi p q h k = absurd h
within_between n (inf s) x hi p q h k = absurd h
within_between n (fin s m e) nan hi p q h k = unfold le in absurd q
within_between n (fin s m e) (inf true) hi p q h k = unfold le in absurd p
within_between n (fin s m e) (inf false) nan p q h k = absurd k
within_between n (fin s m e) (inf false) (inf u) p q h k = absurd k
within_between n (fin s m e) (inf false) (fin u l g) p q h k = unfold le in absurd q
within_between n (fin s m e) (fin t c d) nan p q h k = absurd k
within_between n (fin s m e) (fin t c d) (inf u) p q h k = absurd k
within_between n (fin s m e) (fin true c d) (fin u l g) p q h k =
    le_of_mul-le-mul_right {k = down e} (omega (arith, (le→cross (fin s m e) (fin true c d) tt tt p), mul-le-mul_right (down d) (within_parts n (fin s m e) h).1)) (down_pos e)
within_between n (fin s m e) (fin false c d) (fin u l g) p q h k =
    le_of_mul-le-mul_right {k = down g} (omega (arith, (le→cross (fin false c d) (fin u l g) tt tt q), mul-le-mul_right (down d) (within_parts n (fin u l g) k).0)) (down_pos g)

-- ---- rounding: a power of two is a value
pub power : (n : ℕ) → n ≤ 1000 → HasValue (round binary64 false (2 ^ n) 1) false (2 ^ n) 1
power n h = round_exact binary64 false (2 ^ n) 1 1 (n + 1074) (lit< tt) (lit< tt)
    (le_trans (le_of_eq (ap suc (one-mul (2 ^ (n + 1074))))) (lt_of_le_of_lt (pow_mono (reach n h)) (lit< tt)))
    (sym (pow-add 2 n 1074) ∙ sym (mul-one (1 * 2 ^ (n + 1074)) ∙ one-mul (2 ^ (n + 1074))))
  where
    reach : (n : ℕ) → n ≤ 1000 → n + 1074 ≤ 2074
    reach n h = omega arith

capped : (n : ℕ) (v w : Float) → T (le zero64 v) → T (le v w) → HasValue w false (2 ^ n) 1 → Within n v
unfolding Within finite
capped n nan w p h k = unfold le in absurd p
capped n (inf true) w p h k = unfold le in absurd p
capped n (inf false) nan p h k = absurd k
capped n (inf false) (inf t) p h k = absurd k
capped n (inf false) (fin t c d) p h k = unfold le in absurd h
capped n (fin s m e) nan p h k = absurd k
capped n (fin s m e) (inf t) p h k = absurd k
capped n (fin true m e) (fin t c d) p h k = omega (arith, le→cross zero64 (fin true m e) tt tt p)
capped n (fin false m e) (fin true c d) p h k = absurd (subst T k.0 tt)
capped n (fin false m e) (fin false c d) p h k =
    le_of_mul-le-mul_right {k = down d} (omega (arith, le→cross (fin false m e) (fin false c d) tt tt h, ap (λ (x : ℕ). x * down e) k.1)) (down_pos d)

round_cap : (n a b : ℕ) → n ≤ 1000 → 0 < b → a ≤ 2 ^ n * b → Within n (round binary64 false a b)
round_cap n a b l B h =
    capped n (round binary64 false a b) (round binary64 false (2 ^ n) 1) (round_up a b B) (round_mono binary64 a b (2 ^ n) 1 B (lit< tt) (le_trans (le_of_eq (mul-one a)) h)) (power n l)

pub within_round : (n : ℕ) (s : Bool) (a b : ℕ) → n ≤ 1000 → 0 < b → a ≤ 2 ^ n * b → Within n (round binary64 s a b)
within_round n false a b l B h = round_cap n a b l B h
within_round n true a b l B h = rw (← neg_round binary64 a b) (within_neg n (round binary64 false a b) (round_cap n a b l B h))

within_rounded : {v : Float} {p q c : ℕ} (n : ℕ) → n ≤ 1000 → 0 < c → Rounded v p q c → p ≤ 2 ^ n * c → q ≤ 2 ^ n * c → Within n v
within_rounded {v} {p} {q} {c} n l C r h k = rw r.is (within_round n r.sign r.size c l C (size r.sign r.size r.value))
  where
    size : (s : Bool) (a : ℕ) → over s a + q ≡ p + under s a → a ≤ 2 ^ n * c
    size true a e = omega arith
    size false a e = omega arith

-- ---- the operations
twice : (n p d q c : ℕ) → p ≤ 2 ^ n * d → q ≤ 2 ^ n * c → p * c + q * d ≤ 2 ^ suc n * (d * c)
twice n p d q c h k = let t : 2 ^ suc n ≡ 2 * 2 ^ n = omega arith in rw t (omega (arith, mul-le-mul_right c h, mul-le-mul_right d k))

pub within_add : (n : ℕ) (x y : Float) → suc n ≤ 1000 → Within n x → Within n y → Within (suc n) (x ⊕ y)
within_add n x y l h k =
    let a = within_parts n x h in
    let b = within_parts n y k in
    within_rounded (suc n) l (mul-pos (den_pos x) (den_pos y)) (add_rounded x y (within_finite n x h) (within_finite n y k))
    (twice n (plus x) (den x) (plus y) (den y) a.0 b.0) (twice n (less x) (den x) (less y) (den y) a.1 b.1)

pub within_sub : (n : ℕ) (x y : Float) → suc n ≤ 1000 → Within n x → Within n y → Within (suc n) (x ⊖ y)
within_sub n x y l h k =
    let a = within_parts n x h in
    let b = within_parts n y k in
    within_rounded (suc n) l (mul-pos (den_pos x) (den_pos y)) (sub_rounded x y (within_finite n x h) (within_finite n y k))
    (twice n (plus x) (den x) (less y) (den y) a.0 b.1) (twice n (less x) (den x) (plus y) (den y) a.1 b.0)

pub within_mul : (a b : ℕ) (x y : Float) → a + b ≤ 1000 → Within a x → Within b y → Within (a + b) (x ⊗ y)
unfolding Within mul
within_mul a b nan y l h k = absurd h
within_mul a b (inf s) y l h k = absurd h
within_mul a b (fin s m e) nan l h k = absurd k
within_mul a b (fin s m e) (inf t) l h k = absurd k
within_mul a b (fin s m e) (fin t n d) l h k =
    within_round (a + b) (unlike s t) (m * up e * (n * up d)) (down e * down d) l (mul-pos (down_pos e) (down_pos d))
    (le_trans (mul-le-mul h k) (le_of_eq (simp (pow-add, mul_assoc, mul_comm, mul_left_comm))))

-- ---- bounds from below, and quotients
pub atleast_above : (j : ℕ) (x : Float) → AtLeast j x → T (lt zero64 x)
unfolding AtLeast finite
atleast_above j nan h = absurd h
atleast_above j (inf s) h = absurd h
atleast_above j (fin true m e) h = absurd h
atleast_above j (fin false m e) h = cross→lt zero64 (fin false m e) tt tt (some (m * up e) (eq-zero-or-pos (m * up e)) h)
  where
    some : (a : ℕ) → (a ≡ 0) ⊎ (0 < a) → down e ≤ a * 2 ^ j → 0 * down e + 0 * 1 < a * 1 + 0 * down e
    some a (inl z) h = omega (arith, down_pos e, ap (λ (x : ℕ). x * 2 ^ j) z)
    some a (inr p) h = omega arith

pub atleast_finite : (j : ℕ) (x : Float) → AtLeast j x → T (finite x)
unfolding AtLeast finite
atleast_finite j nan h = absurd h
atleast_finite j (inf s) h = absurd h
atleast_finite j (fin s m e) h = tt

pub atleast_more : (j k : ℕ) (x : Float) → j ≤ k → AtLeast j x → AtLeast k x
unfolding AtLeast
atleast_more j k nan l h = h
atleast_more j k (inf s) l h = h
atleast_more j k (fin true m e) l h = h
atleast_more j k (fin false m e) l h = le_trans h (mul-le-mul_left (m * up e) (pow_mono l))

pub atleast_le : (j : ℕ) (x y : Float) → AtLeast j x → T (finite y) → T (le x y) → AtLeast j y
unfolding AtLeast finite
atleast_le j nan y h f k = absurd h
atleast_le j (inf s) y h f k = absurd h
atleast_le j (fin true m e) y h f k = absurd h
atleast_le j (fin false m e) nan h f k = absurd f
atleast_le j (fin false m e) (inf t) h f k = absurd f
atleast_le j (fin false m e) (fin true n d) h f k =
    absurd (void (m * up e) (down e) (down d) (down_pos e) (down_pos d) h (omega (arith, le→cross (fin false m e) (fin true n d) tt tt k)))
  where
    void : (a E D : ℕ) → 0 < E → 0 < D → E ≤ a * 2 ^ j → a * D ≤ 0 → ⊥
    void zero E D P Q h k = omega arith
    void (suc a) E D P Q h k = omega arith
atleast_le j (fin false m e) (fin false n d) h f k =
    le_of_mul-le-mul_right {k = down e} (omega (arith, mul-le-mul_right (2 ^ j) (le→cross (fin false m e) (fin false n d) tt tt k), mul-le-mul_right (down d) h)) (down_pos e)

pub within_div : (n j : ℕ) (x y : Float) → n + j ≤ 1000 → Within n x → AtLeast j y → Within (n + j) (x ⊘ y)
within_div n j x y l h k =
    let w = within_parts n x h in
    within_rounded (n + j) l (mul-pos (above_zero y (atleast_finite j y k) (atleast_above j y k)).0 (den_pos x)) (div_rounded x y (within_finite n x h) (atleast_finite j y k) (atleast_above j y k))
    (le_trans (mul-le-mul w.0 (least y k)) (le_of_eq (simp (pow-add, mul_assoc, mul_comm, mul_left_comm))))
    (le_trans (mul-le-mul w.1 (least y k)) (le_of_eq (simp (pow-add, mul_assoc, mul_comm, mul_left_comm))))
  where
    least : (y : Float) → AtLeast j y → den y ≤ plus y * 2 ^ j
    least nan k = unfold AtLeast in absurd k
    least (inf s) k = unfold AtLeast in absurd k
    least (fin true m e) k = unfold AtLeast in absurd k
    least (fin false m e) k = unfold AtLeast in k

-- ---- whole numbers and literals
pub within_real : (n : ℕ) (k : ℤ) → n ≤ 1000 → nat_abs k ≤ 2 ^ n → Within n (real k)
unfolding of_int
within_real n (pos a) l h = within_round n false a 1 l (lit< tt) (omega arith)
within_real n (negsuc a) l h = within_round n true (suc a) 1 l (lit< tt) (omega arith)

pub within_literal : (n a b : ℕ) → n ≤ 1000 → 0 < b → a ≤ 2 ^ n * b → Within n (literal a b)
unfolding literal
within_literal n a b l B h = within_round n false a b l B h

-- 2 ^ -j is a value
pub least : (j : ℕ) → j ≤ 1000 → HasValue (round binary64 false 1 (2 ^ j)) false 1 (2 ^ j)
least j h = round_exact binary64 false 1 (2 ^ j) 1 (1074 - j) (pow_pos j) (lit< tt)
    (lt_of_le_of_lt (le_of_eq (one-mul (2 ^ (1074 - j)))) (lt_of_le_of_lt (pow_mono (reach j)) (lit< tt)))
    (ap (λ (k : ℕ). 1 * k) (ap (λ (k : ℕ). 2 ^ k) (back j h) ∙ pow-add 2 (1074 - j) j) ∙ sym (mul_assoc 1 (2 ^ (1074 - j)) (2 ^ j)))
  where
    reach : (j : ℕ) → 1074 - j ≤ 1074
    reach j = omega arith

    back : (j : ℕ) → j ≤ 1000 → 1074 ≡ (1074 - j) + j
    back j h = omega arith

pub atleast_literal : (j n a b : ℕ) → j ≤ 1000 → n ≤ 1000 → 0 < b → b ≤ a * 2 ^ j → a ≤ 2 ^ n * b → AtLeast j (literal a b)
atleast_literal j n a b J N B h k =
    atleast_le j (round binary64 false 1 (2 ^ j)) (literal a b) (reaches (round binary64 false 1 (2 ^ j)) (least j J)) (within_finite n (literal a b) (within_literal n a b N B k))
    (unfold literal in round_mono binary64 1 (2 ^ j) a b (pow_pos j) B (le_trans (le_of_eq (one-mul b)) h))
  where
    reaches : (v : Float) → HasValue v false 1 (2 ^ j) → AtLeast j v
    reaches nan h = absurd h
    reaches (inf s) h = absurd h
    reaches (fin true m e) h = absurd (subst T h.0 tt)
    reaches (fin false m e) h = unfold AtLeast in le_of_eq (sym (one-mul (down e)) ∙ sym h.1)

whole_within : (n : ℕ) (away : Bool) (x : Float) → n ≤ 1000 → Within n x → Within n (whole_of away x)
unfolding Within whole_of
whole_within n away nan l h = absurd h
whole_within n away (inf s) l h = absurd h
whole_within n false (fin s m e) l h = within_round n s (m * up e / down e) 1 l (lit< tt) (le_trans (away_toward (m * up e) (down e) (2 ^ n) (down_pos e) h) (le_of_eq (sym (mul-one (2 ^ n)))))
  where
    away_toward : (a d q : ℕ) → 0 < d → a ≤ q * d → a / d ≤ q
    away_toward a d q D h = le_of_mul-le-mul_right {k = d} (le_trans (part_toward a d D).0 h) D
whole_within n true (fin s m e) l h = within_round n s (part true (m * up e) (down e)) 1 l (lit< tt) (le_trans (away_least (m * up e) (down e) (2 ^ n) (down_pos e) h) (le_of_eq (sym (mul-one (2 ^ n)))))

pub within_floor : (n : ℕ) (x : Float) → n ≤ 1000 → Within n x → Within n (floor x)
unfolding floor
within_floor n x l h = whole_within n (negative x) x l h

pub within_ceil : (n : ℕ) (x : Float) → n ≤ 1000 → Within n x → Within n (ceil x)
unfolding ceil
within_ceil n x l h = whole_within n (not (negative x)) x l h
