-- What an operation gives is a fraction (p - n) / c, rounded once, and rounding keeps the order: of signs too.
use Rattle.std.specs.Prelude.{◌≡◌, refl, Bool, true, false, not, cond, ℕ, zero, suc, ◌+◌, ◌-◌, ◌*◌, ◌^◌, ◌≤◌, ◌<◌, T, ltb, ℤ, pos, Float}
use Rattle.std.proofs.Common.{sym, ◌∙◌, subst, zero-mul, lt_of_lt_of_le, le_of_eq, arith, ltb→lt, nltb→le, lit<, pow-add}
use Rattle.std.proofs.Math.Path.{ap}
use Rattle.std.proofs.Math.Nat.{eq_of_mul-eq-mul_right}
use Rattle.std.specs.Float.{nan, inf, fin, Format, binary64}
use Rattle.std.specs.Float.Ieee.{low, emax, prec, odd, units, up, down, unlike, round, sum, add, sub, mul, neg, fits, le}
use Rattle.std.specs.Float.Ieee.Fits.{down_pos, round-fits, round_is}
use Rattle.std.specs.Float.Ieee.Exact.{HasValue, round_exact}
use Rattle.std.specs.Float.Ieee.Nearest.{div_same}
use Rattle.std.specs.Float.Ieee.Order.{round_mono}
use Rattle.std.specs.Float.Ieee.Positive.{den}
use Rattle.std.specs.Float.Ieee.Scale.{round_same}
use Rattle.numbers.specs.Num.{zero64}
use Rattle.numbers.specs.Order.{finite}
use Rattle.numbers.specs.Value.{units_of}
use Rattle.numbers.specs.Units.{grid, units_exact, units_lt, same_value}
use Rattle.numbers.specs.Fraction.{over, under, plus, less, nothing}
use Rattle.numbers.specs.FloatOrder.{le_trans, neg_le}

-- v is (p - n) / c, rounded
pub record Rounded (v : Float) (p n c : ℕ) : Type 0 where
  pub sign : Bool
  pub size : ℕ
  pub is : v ≡ round binary64 sign size c
  pub value : over sign size + n ≡ p + under sign size

-- ---- a number and its opposite round alike
neg_odd : (d q k l : ℕ) → neg (odd d false q k l) ≡ odd d true q k l
unfolding neg odd
neg_odd d zero k l = refl
neg_odd d (suc q) k l = refl

neg_units : (f : Format) (q k : ℕ) → neg (units f false q k) ≡ units f true q k
unfolding units neg
neg_units f q k = go (ltb (q * 2 ^ k) (2 ^ (low f + suc (emax f))))
  where
    go : (b : Bool) → neg (cond b (odd (suc (prec f)) false q k (low f)) (inf false)) ≡ cond b (odd (suc (prec f)) true q k (low f)) (inf true)
    go true = neg_odd (suc (prec f)) q k (low f)
    go false = refl

pub neg_round : (f : Format) (a d : ℕ) → neg (round f false a d) ≡ round f true a d
neg_round f a d = ap neg (round_is f false a d) ∙ neg_units f _ _ ∙ sym (round_is f true a d)

-- ---- the order
pub round_up : (a b : ℕ) → 0 < b → T (le zero64 (round binary64 false a b))
unfolding round
round_up a b B = round_mono binary64 0 1 a b (lit< tt) B (omega arith)

pub round_zero : (s : Bool) (b : ℕ) → 0 < b → round binary64 s 0 b ≡ fin s 0 (pos 0)
round_zero true b B = round_same binary64 true 0 b 0 1 B (lit< tt) (omega arith) ∙ (unfold round in refl)
round_zero false b B = round_same binary64 false 0 b 0 1 B (lit< tt) (omega arith) ∙ (unfold round in refl)

pub round_le : (s t : Bool) (a b c d : ℕ) → 0 < b → 0 < d → over s a * d + under t c * b ≤ over t c * b + under s a * d → T (le (round binary64 s a b) (round binary64 t c d))
round_le false false a b c d B D h = round_mono binary64 a b c d B D (omega arith)
round_le true true a b c d B D h =
    rw (← neg_round binary64 a b, ← neg_round binary64 c d) (neg_le (round binary64 false c d) (round binary64 false a b) (round_mono binary64 c d a b D B (omega arith)))
round_le true false a b c d B D h =
    le_trans (round binary64 true a b) (neg zero64) (round binary64 false c d) (rw (← neg_round binary64 a b) (neg_le zero64 (round binary64 false a b) (round_up a b B)))
    (le_trans (neg zero64) zero64 (round binary64 false c d) (unfold neg le in tt) (round_up c d D))
round_le false true a b c d B D h =
    let p : a ≡ 0 = nothing a d (c * b) D (omega arith) in
    let q : c ≡ 0 = nothing c b (a * d) B (omega arith) in
    rw (p, q, round_zero false b B, round_zero true d D) (unfold le in tt)

pub rounded_le : {v w : Float} {p n c p' n' c' : ℕ} → Rounded v p n c → Rounded w p' n' c' → 0 < c → 0 < c' → p * c' + n' * c ≤ p' * c + n * c' → T (le v w)
rounded_le {v} {w} {p} {n} {c} {p'} {n'} {c'} r q C C' h =
    rw (r.is, q.is) (round_le r.sign q.sign r.size c q.size c' C C'
    (omega (arith, ap (λ (x : ℕ). x * c') r.value, ap (λ (x : ℕ). x * c) q.value)))

-- ---- a value that fits is itself, rounded
unique : (s : Bool) (m n : ℕ) (e d : ℤ) (a c : ℕ) → 0 < c → T (fits binary64 (fin s m e)) → T (fits binary64 (fin s n d)) → m * up e * c ≡ a * down e → n * up d * c ≡ a * down d → fin s m e ≡ fin s n d
unique s m n e d a c C f g p q =
    same_value s m n e d f g (unfold units_of in div_same (m * up e * 2 ^ 1074) (down e) (n * up d * 2 ^ 1074) (down d) (down_pos e) (down_pos d)
    (cross (m * up e) (n * up d) (down e) (down d) (2 ^ 1074) p q))
  where
    cross : (x y E D l : ℕ) → x * c ≡ a * E → y * c ≡ a * D → x * l * D ≡ y * l * E
    cross x y E D l p q = eq_of_mul-eq-mul_right c C (x * l * D) (y * l * E) (omega (arith, ap (λ (z : ℕ). z * (l * D)) p, ap (λ (z : ℕ). z * (l * E)) q))

pub unique_value : (x y : Float) (s : Bool) (a c : ℕ) → 0 < c → T (fits binary64 x) → T (fits binary64 y) → HasValue x s a c → HasValue y s a c → x ≡ y
unique_value nan y s a c C f g h k = absurd h
unique_value (inf t) y s a c C f g h k = absurd h
unique_value (fin t m e) nan s a c C f g h k = absurd k
unique_value (fin t m e) (inf u) s a c C f g h k = absurd k
unique_value (fin t m e) (fin u n d) s a c C f g h k =
    ap (λ (b : Bool). fin b m e) h.0
    ∙ unique s m n e d a c C (subst (λ (b : Bool). T (fits binary64 (fin b m e))) h.0 f) (subst (λ (b : Bool). T (fits binary64 (fin b n d))) k.0 g) h.1 k.1
    ∙ sym (ap (λ (b : Bool). fin b n d) k.0)

pub own_round : (s : Bool) (m : ℕ) (e : ℤ) → T (fits binary64 (fin s m e)) → fin s m e ≡ round binary64 s (m * up e) (down e)
own_round s m e f =
    let g = grid (fin s m e) f in
    unique_value (fin s m e) (round binary64 s (m * up e) (down e)) s (m * up e) (down e) (down_pos e) f (round-fits binary64 s (m * up e) (down e)) (refl, refl)
    (round_exact binary64 s (m * up e) (down e) g.digits g.places (down_pos e) g.short
    (subst (λ (u : ℕ). u < 2 ^ 2098) g.is (lt_of_lt_of_le (units_lt (fin s m e) f) (le_of_eq (sym (pow-add 2 1024 1074)))))
    (units_exact s m e f ∙ ap (λ (u : ℕ). u * down e) g.is))

pub own_rounded : (x : Float) → T (finite x) → T (fits binary64 x) → Rounded x (plus x) (less x) (den x)
unfolding finite
own_rounded nan h f = absurd h
own_rounded (inf s) h f = absurd h
own_rounded (fin s m e) h f = record { sign = s; size = m * up e; is = own_round s m e f; value = refl }

-- ---- the operations
sum_rounded : (s t : Bool) (a b c : ℕ) → Rounded (sum binary64 s a t b c) (over s a + over t b) (under s a + under t b) c
unfolding sum
sum_rounded false false a b c = record { sign = false; size = a + b; is = refl; value = omega arith }
sum_rounded true true a b c = record { sign = true; size = a + b; is = refl; value = omega arith }
sum_rounded false true a b c = go (ltb a b) (ltb→lt a b) (nltb→le a b)
  where
    go : (x : Bool) → (T x → a < b) → (T (not x) → b ≤ a) → Rounded (cond x (round binary64 true (b - a) c) (round binary64 false (a - b) c)) (a + 0) (0 + b) c
    go true p q = let l = p tt in record { sign = true; size = b - a; is = refl; value = omega arith }
    go false p q = let l = q tt in record { sign = false; size = a - b; is = refl; value = omega arith }
sum_rounded true false a b c = go (ltb a b) (ltb b a) (ltb→lt a b) (nltb→le a b) (nltb→le b a)
  where
    go : (x y : Bool) → (T x → a < b) → (T (not x) → b ≤ a) → (T (not y) → a ≤ b) → Rounded (cond x (round binary64 false (b - a) c) (round binary64 y (a - b) c)) (0 + b) (a + 0) c
    go true y p q r = let l = p tt in record { sign = false; size = b - a; is = refl; value = omega arith }
    go false true p q r = let l = q tt in record { sign = true; size = a - b; is = refl; value = omega arith }
    go false false p q r = let l = q tt in let k = r tt in record { sign = false; size = a - b; is = refl; value = omega arith }

over_mul : (s : Bool) (a k : ℕ) → over s (a * k) ≡ over s a * k
over_mul true a k = sym (zero-mul k)
over_mul false a k = refl

under_mul : (s : Bool) (a k : ℕ) → under s (a * k) ≡ under s a * k
under_mul true a k = refl
under_mul false a k = sym (zero-mul k)

pub add_rounded : (x y : Float) → T (finite x) → T (finite y) → Rounded (add binary64 x y) (plus x * den y + plus y * den x) (less x * den y + less y * den x) (den x * den y)
unfolding finite add
add_rounded nan y f g = absurd f
add_rounded (inf s) y f g = absurd f
add_rounded (fin s m e) nan f g = absurd g
add_rounded (fin s m e) (inf t) f g = absurd g
add_rounded (fin s m e) (fin t n d) f g =
    rw (← over_mul s (m * up e) (down d), ← over_mul t (n * up d) (down e), ← under_mul s (m * up e) (down d), ← under_mul t (n * up d) (down e))
    (sum_rounded s t (m * up e * down d) (n * up d * down e) (down e * down d))

pub neg_finite : (x : Float) → T (finite x) → T (finite (neg x))
unfolding finite neg
neg_finite nan f = f
neg_finite (inf s) f = f
neg_finite (fin s m e) f = tt

pub plus_neg : (x : Float) → plus (neg x) ≡ less x
unfolding neg
plus_neg nan = refl
plus_neg (inf s) = refl
plus_neg (fin true m e) = refl
plus_neg (fin false m e) = refl

pub less_neg : (x : Float) → less (neg x) ≡ plus x
unfolding neg
less_neg nan = refl
less_neg (inf s) = refl
less_neg (fin true m e) = refl
less_neg (fin false m e) = refl

pub den_neg : (x : Float) → den (neg x) ≡ den x
unfolding neg
den_neg nan = refl
den_neg (inf s) = refl
den_neg (fin s m e) = refl

pub sub_rounded : (x y : Float) → T (finite x) → T (finite y) → Rounded (sub binary64 x y) (plus x * den y + less y * den x) (less x * den y + plus y * den x) (den x * den y)
unfolding sub
sub_rounded x y f g = rw (plus_neg, less_neg, den_neg) at (add_rounded x (neg y) f (neg_finite y g))

mul_signs : (s t : Bool) (a b : ℕ) → over (unlike s t) (a * b) + (over s a * under t b + under s a * over t b) ≡ over s a * over t b + under s a * under t b + under (unlike s t) (a * b)
mul_signs true true a b = omega arith
mul_signs true false a b = omega arith
mul_signs false true a b = omega arith
mul_signs false false a b = omega arith

pub mul_rounded : (x y : Float) → T (finite x) → T (finite y) → Rounded (mul binary64 x y) (plus x * plus y + less x * less y) (plus x * less y + less x * plus y) (den x * den y)
unfolding finite mul
mul_rounded nan y f g = absurd f
mul_rounded (inf s) y f g = absurd f
mul_rounded (fin s m e) nan f g = absurd g
mul_rounded (fin s m e) (inf t) f g = absurd g
mul_rounded (fin s m e) (fin t n d) f g = record { sign = unlike s t; size = m * up e * (n * up d); is = refl; value = mul_signs s t (m * up e) (n * up d) }
