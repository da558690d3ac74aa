-- `floor` and `ceil` have what IEEE 754 asks of them: the proof. `IsFloor` and `IsCeil` of Value say what it comes to.
use Rattle.std.specs.Prelude.{◌≡◌, refl, Bool, false, cond, ℕ, ◌+◌, ◌-◌, ◌*◌, ◌/◌, ◌%◌, ◌^◌, ◌≤◌, ◌<◌, ℤ, pos, neg_ℤ, ◌+ℤ◌, T, eqb, Float}
use Rattle.std.proofs.Common.{sym, ap, ◌∙◌, mul-one, mul_right_comm, mul-le-mul_right, mul-lt-mul_of_pos_right, le_of_mul-le-mul_right, lt_of_mul-lt-mul_right, mul-div_cancel, div-add-mod', mod-lt, pos_of_ne-zero, arith, pow_pos, eqb→eq}
use Rattle.std.proofs.Math.Bool.{true}
use Rattle.std.proofs.Math.Nat.{mul-mod_left}
use Rattle.std.proofs.Math.IntN.{neg_ℤ-+ℤ, +ℤ_assoc, +ℤ_invl, +ℤ_idr}
use Rattle.std.proofs.lemmas.Bool.{eqb-false}
use Rattle.std.specs.Float.{nan, inf, fin, binary64}
use Rattle.std.specs.Float.Ieee.{up, down, fits}
use Rattle.std.specs.Float.Ieee.Fits.{down_pos, round-fits, nan-fits, inf-fits}
use Rattle.std.specs.Float.Ieee.Exact.{HasValue}
use Rattle.numbers.specs.Order.{negative, finite}
use Rattle.numbers.specs.Whole.{part, whole_of, floor, ceil}
use Rattle.numbers.specs.Value.{units_of, value_of, IsFloor, IsCeil}
use Rattle.numbers.specs.Units.{units_exact}
use Rattle.numbers.specs.WholeLaws.{whole_exact}

-- ---- a / d, made whole: toward zero it is at most a / d and less than one off, away from zero at least
pub part_toward : (a d : ℕ) → 0 < d → (part false a d * d ≤ a) × (a < part false a d * d + d)
part_toward a d D = (omega (arith, div-add-mod' a d), omega (arith, div-add-mod' a d, mod-lt a D))

pub part_away : (a d : ℕ) → 0 < d → (a ≤ part true a d * d) × (part true a d * d < a + d)
part_away a d D = go (eqb (a % d) 0) (eqb→eq (a % d) 0) refl
  where
    go : (b : Bool) → (T b → a % d ≡ 0) → eqb (a % d) 0 ≡ b → (a ≤ (a / d + cond b 0 1) * d) × ((a / d + cond b 0 1) * d < a + d)
    go true z e = let r = z tt in (omega (arith, div-add-mod' a d), omega (arith, div-add-mod' a d))
    go false z e =
        let r : 0 < a % d = pos_of_ne-zero (eqb-false (a % d) 0 e) in
        (omega (arith, div-add-mod' a d, mod-lt a D), omega (arith, div-add-mod' a d))

-- ---- the result, in units
pub value_units : (v : Float) (s : Bool) (q : ℕ) → HasValue v s q 1 → (units_of v ≡ q * 2 ^ 1074) × (negative v ≡ s) × T (finite v)
unfolding units_of negative finite
value_units nan s q h = absurd h
value_units (inf t) s q h = absurd h
value_units (fin t n d) s q h = (
  ap (λ (x : ℕ). x * 2 ^ 1074 / down d) (sym (mul-one (n * up d)) ∙ h.1) ∙ ap (λ (x : ℕ). x / down d) (mul_right_comm q (down d) (2 ^ 1074)) ∙ mul-div_cancel (q * 2 ^ 1074) (down_pos d),
  h.0,
  tt,
)

-- u is a / d of l, and q bounds a / d: so q of l bounds u
below_units : (a d l u q : ℕ) → 0 < d → 0 < l → a * l ≡ u * d → (q * d ≤ a) × (a < q * d + d) → (q * l ≤ u) × (u < q * l + l)
below_units a d l u q D L e h = (
  le_of_mul-le-mul_right {k = d} (omega (arith, mul-le-mul_right l h.0)) D,
  lt_of_mul-lt-mul_right d (omega (arith, mul-lt-mul_of_pos_right h.1 L)),
)

above_units : (a d l u q : ℕ) → 0 < d → 0 < l → a * l ≡ u * d → (a ≤ q * d) × (q * d < a + d) → (u ≤ q * l) × (q * l < u + l)
above_units a d l u q D L e h = (
  le_of_mul-le-mul_right {k = d} (omega (arith, mul-le-mul_right l h.0)) D,
  lt_of_mul-lt-mul_right d (omega (arith, mul-lt-mul_of_pos_right h.1 L)),
)

-- ---- whole numbers with signs
up_by : (u v : ℕ) → v ≤ u → pos u ≡ pos v +ℤ pos (u - v)
up_by u v h = ap pos (omega arith)

down_by : (u v : ℕ) → u ≤ v → neg_ℤ (pos u) ≡ neg_ℤ (pos v) +ℤ pos (v - u)
down_by u v h =
    let e : v ≡ u + (v - u) = omega arith in
    sym (ap (λ (n : ℕ). neg_ℤ (pos n) +ℤ pos (v - u)) e
    ∙ ap (λ (k : ℤ). k +ℤ pos (v - u)) (neg_ℤ-+ℤ (pos u) (pos (v - u)))
    ∙ +ℤ_assoc (neg_ℤ (pos u)) (neg_ℤ (pos (v - u))) (pos (v - u))
    ∙ ap (λ (k : ℤ). neg_ℤ (pos u) +ℤ k) (+ℤ_invl (pos (v - u)))
    ∙ +ℤ_idr (neg_ℤ (pos u)))

-- what is left over is under one
less_than : (u v l : ℕ) → v ≤ u → u < v + l → u - v < l
less_than u v l h k = omega arith

module _ (s : Bool) (m : ℕ) (e : ℤ) (f : T (fits binary64 (fin s m e))) where
  Q : Bool → ℕ
  Q away = part away (m * up e) (down e)

  result : (away : Bool) → (units_of (whole_of away (fin s m e)) ≡ Q away * 2 ^ 1074) × (negative (whole_of away (fin s m e)) ≡ s) × T (finite (whole_of away (fin s m e)))
  unfolding Q
  result away = value_units (whole_of away (fin s m e)) s (part away (m * up e) (down e)) (whole_exact away s m e f)

  toward : (Q false * 2 ^ 1074 ≤ units_of (fin s m e)) × (units_of (fin s m e) < Q false * 2 ^ 1074 + 2 ^ 1074)
  unfolding Q
  toward = below_units (m * up e) (down e) (2 ^ 1074) (units_of (fin s m e)) (m * up e / down e) (down_pos e) (pow_pos 1074) (units_exact s m e f) (part_toward (m * up e) (down e) (down_pos e))

  away_from : (units_of (fin s m e) ≤ Q true * 2 ^ 1074) × (Q true * 2 ^ 1074 < units_of (fin s m e) + 2 ^ 1074)
  unfolding Q
  away_from = above_units (m * up e) (down e) (2 ^ 1074) (units_of (fin s m e)) (part true (m * up e) (down e)) (down_pos e) (pow_pos 1074) (units_exact s m e f) (part_away (m * up e) (down e) (down_pos e))

pub value_is : (v : Float) (s : Bool) (u : ℕ) → negative v ≡ s → units_of v ≡ u → value_of v ≡ cond s (neg_ℤ (pos u)) (pos u)
unfolding value_of
value_is v s u p q = ap (λ (b : Bool). cond b (neg_ℤ (pos (units_of v))) (pos (units_of v))) p ∙ ap (λ (n : ℕ). cond s (neg_ℤ (pos n)) (pos n)) q

pub whole_fits : (away : Bool) (x : Float) → T (fits binary64 (whole_of away x))
unfolding whole_of
whole_fits away nan = nan-fits binary64
whole_fits away (inf s) = inf-fits binary64 s
whole_fits away (fin s m e) = round-fits binary64 s (part away (m * up e) (down e)) 1

-- ---- floor and ceiling have what IEEE 754 asks
module _ (s : Bool) (m : ℕ) (e : ℤ) (f : T (fits binary64 (fin s m e))) (away : Bool) where
  whole_units : units_of (whole_of away (fin s m e)) % 2 ^ 1074 ≡ 0
  whole_units = ap (λ (n : ℕ). n % 2 ^ 1074) (result s m e f away).0 ∙ mul-mod_left (Q s m e f away) (2 ^ 1074)

  whole_value : value_of (whole_of away (fin s m e)) ≡ cond s (neg_ℤ (pos (Q s m e f away * 2 ^ 1074))) (pos (Q s m e f away * 2 ^ 1074))
  whole_value = value_is (whole_of away (fin s m e)) s (Q s m e f away * 2 ^ 1074) (result s m e f away).1 (result s m e f away).0

own_value : (s : Bool) (m : ℕ) (e : ℤ) → value_of (fin s m e) ≡ cond s (neg_ℤ (pos (units_of (fin s m e)))) (pos (units_of (fin s m e)))
unfolding value_of negative
own_value s m e = refl

pub floor_has : (x : Float) → T (fits binary64 x) → T (finite x) → IsFloor x (floor x)
unfolding finite floor negative
floor_has nan f g = absurd g
floor_has (inf s) f g = absurd g
floor_has (fin false m e) f g =
    let r = result false m e f false in
    let b = toward false m e f in
    let u = units_of (fin false m e) in
    let v = Q false m e f false * 2 ^ 1074 in
    record {
      fit = whole_fits false (fin false m e);
      fine = r.2;
      sign = r.1;
      whole = whole_units false m e f false;
      rest = u - v;
      under_one = less_than u v (2 ^ 1074) b.0 b.1;
      is = own_value false m e ∙ up_by u v b.0 ∙ sym (ap (λ (k : ℤ). k +ℤ pos (u - v)) (whole_value false m e f false));
    }
floor_has (fin true m e) f g =
    let r = result true m e f true in
    let b = away_from true m e f in
    let u = units_of (fin true m e) in
    let v = Q true m e f true * 2 ^ 1074 in
    record {
      fit = whole_fits true (fin true m e);
      fine = r.2;
      sign = r.1;
      whole = whole_units true m e f true;
      rest = v - u;
      under_one = less_than v u (2 ^ 1074) b.0 b.1;
      is = own_value true m e ∙ down_by u v b.0 ∙ sym (ap (λ (k : ℤ). k +ℤ pos (v - u)) (whole_value true m e f true));
    }

pub ceil_has : (x : Float) → T (fits binary64 x) → T (finite x) → IsCeil x (ceil x)
unfolding finite ceil negative
ceil_has nan f g = absurd g
ceil_has (inf s) f g = absurd g
ceil_has (fin false m e) f g =
    let r = result false m e f true in
    let b = away_from false m e f in
    let u = units_of (fin false m e) in
    let v = Q false m e f true * 2 ^ 1074 in
    record {
      fit = whole_fits true (fin false m e);
      fine = r.2;
      sign = r.1;
      whole = whole_units false m e f true;
      rest = v - u;
      under_one = less_than v u (2 ^ 1074) b.0 b.1;
      is = whole_value false m e f true ∙ up_by v u b.0 ∙ sym (ap (λ (k : ℤ). k +ℤ pos (v - u)) (own_value false m e));
    }
ceil_has (fin true m e) f g =
    let r = result true m e f false in
    let b = toward true m e f in
    let u = units_of (fin true m e) in
    let v = Q true m e f false * 2 ^ 1074 in
    record {
      fit = whole_fits false (fin true m e);
      fine = r.2;
      sign = r.1;
      whole = whole_units true m e f false;
      rest = u - v;
      under_one = less_than u v (2 ^ 1074) b.0 b.1;
      is = whole_value true m e f false ∙ down_by v u b.0 ∙ sym (ap (λ (k : ℤ). k +ℤ pos (u - v)) (own_value true m e));
    }
