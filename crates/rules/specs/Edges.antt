-- Sizes of an accepted fill's edges, and of where they cross a row. Assumes nothing.
use Rattle.std.specs.Prelude.{◌≡◌, refl, Bool, true, false, not, cond, ℕ, ◌+◌, ◌-◌, ◌*◌, ◌^◌, ◌≤◌, ◌<◌, T, leb, pos, Float}
use Rattle.std.proofs.Common.{sym, ap, ◌∙◌, subst, inl, inr, le_trans, le_of_eq, le_of_lt, lt_irrefl, lt_of_le_of_lt, lt_of_lt_of_le, zero-mul, mul-pos, mul_assoc, mul-le-mul, mul-le-mul_right, mul-le-mul_left, le_of_mul-le-mul_right, mul_right_comm, pos_of_ne-zero, arith, leb→le, lit<, lit≤, ne_eqb, pow_pos, pow-add, pow_mono}
use mathlib.Core.List.{List, [], ◌∷◌, map}
use Rattle.std.proofs.Math.Dec.{nleb→lt}
use Rattle.std.specs.Float.{nan, inf, fin, binary64}
use Rattle.std.specs.Float.Ieee.{up, down, round, of_int, mul, div, neg, fits, le, lt, is_nan, size, unlike}
use Rattle.std.specs.Float.Ieee.Fits.{down_pos, up_pos, add-fits, sub-fits}
use Rattle.std.specs.Float.Ieee.Digits.{size-lt, size-le, size_reaches}
use Rattle.std.specs.Float.Ieee.Positive.{den, den_pos}
use Rattle.numbers.specs.Num.{◌⊕◌, ◌⊖◌, ◌⊗◌, ◌⊘◌, literal, zero64, real}
use Rattle.numbers.specs.Order.{finite, magnitude}
use Rattle.numbers.specs.Value.{Within, AtLeast, units_of}
use Rattle.numbers.specs.Units.{units_exact}
use Rattle.numbers.specs.Laws as laws
use Rattle.numbers.specs.Laws.{lt_le, le_or_lt, magnitude_is, within_finite, within_more, within_neg, within_le, within_magnitude, within_add, within_sub, within_mul, within_literal, within_real, atleast_le, atleast_above, holds, finite_number, le_lt_trans, within_squares, neg_neg}
use Rattle.numbers.specs.Fraction.{over, under, le→cross}
use Rattle.numbers.specs.Rounded.{Rounded, rounded_le, sub_rounded, neg_round}
use Rattle.numbers.specs.Monotone.{at_least_zero}
use Rattle.numbers.specs.Bounds.{within_round}
use Rattle.seqs.specs.Lists.{each, All}
use Rattle.geom.specs.declared.point.P.{P}
use Rattle.geom.specs.Point.{rotate}
use Rattle.limits.specs.Limits.{largest}
use Rattle.rules.specs.declared.Settings.{Settings}
use Rattle.rules.specs.declared.Edge.{Edge}
use Rattle.rules.specs.Fill.{sides_to, sides, edge_of, kept_side, turned, edges}
use Rattle.rules.specs.Accepted.{Corner, Checked}
use Rattle.rules.specs.Alls.{all_mapped, all_parts}

-- ---- the height of a kept edge

neg_rounded : {v : Float} {p n c : ℕ} → Rounded v p n c → Rounded (neg v) n p c
neg_rounded {v} {p} {n} {c} r = go r.sign r.is r.value
  where
    go : (s : Bool) → v ≡ round binary64 s r.size c → over s r.size + n ≡ p + under s r.size → Rounded (neg v) n p c
    go true e w = record { sign = false; size = r.size; is = ap neg e ∙ ap neg (sym (neg_round binary64 r.size c)) ∙ neg_neg (round binary64 false r.size c); value = omega arith }
    go false e w = record { sign = true; size = r.size; is = ap neg e ∙ neg_round binary64 r.size c; value = omega arith }

size_below : (v w : Float) → T (le v w) → T (le (neg v) w) → T (le (magnitude v) w)
size_below v w h k = elim (magnitude_is v) [ inl e ↦ subst (λ x. T (le x w)) (sym e) h | inr e ↦ subst (λ x. T (le x w)) (sym e) k ]

-- of a ≤ b, the difference either way is at most b - a in size
module _ (a b : Float) (fa : T (finite a)) (fb : T (finite b)) (h : T (le a b)) where
  up_down : T (le (magnitude (a ⊖ b)) (b ⊖ a))
  up_down =
      let ab = sub_rounded a b fa fb in
      let ba = sub_rounded b a fb fa in
      let P = mul-pos (den_pos a) (den_pos b) in
      let Q = mul-pos (den_pos b) (den_pos a) in
      let c = le→cross a b fa fb h in
      size_below (a ⊖ b) (b ⊖ a)
      (rounded_le ab ba P Q (omega (arith, mul-le-mul_right (den a * den b) c)))
      (rounded_le (neg_rounded ab) ba P Q (omega arith))

  up_up : T (le (magnitude (b ⊖ a)) (b ⊖ a))
  up_up =
      let ba = sub_rounded b a fb fa in
      let Q = mul-pos (den_pos b) (den_pos a) in
      let c = le→cross a b fa fb h in
      size_below (b ⊖ a) (b ⊖ a)
      (rounded_le ba ba Q Q (omega arith))
      (rounded_le (neg_rounded ba) ba Q Q (omega (arith, mul-le-mul_right (den b * den a) c)))

-- ---- the slope: over the height it gains no more than twice the width

-- t * q within 2 ^ 21, where t is at most u units and q is at most 2 ^ (1095 - s), s the count of u's digits
product : (tn td qn qd u s : ℕ) → u < 2 ^ s → s ≤ 1095 → tn * 2 ^ 1074 ≤ u * td → qn ≤ 2 ^ (1095 - s) * qd → tn * qn ≤ 2 ^ 21 * (td * qd)
product tn td qn qd u s h l t q =
    let e : s + (1095 - s) ≡ 1074 + 21 = omega arith in
    let a : tn * 2 ^ 1074 ≤ 2 ^ s * td = le_trans t (mul-le-mul_right td (le_of_lt h)) in
    let b : tn * 2 ^ 1074 * qn ≤ 2 ^ s * td * (2 ^ (1095 - s) * qd) = mul-le-mul a q in
    let c : 2 ^ s * 2 ^ (1095 - s) ≡ 2 ^ 1074 * 2 ^ 21 = sym (pow-add 2 s (1095 - s)) ∙ ap (λ n. 2 ^ n) e ∙ pow-add 2 1074 21 in
    le_of_mul-le-mul_right
    (le_trans (le_of_eq (mul_right_comm tn qn (2 ^ 1074))) (le_trans b (le_of_eq (spread (2 ^ s) td (2 ^ (1095 - s)) qd ∙ ap (λ n. n * (td * qd)) c ∙ fold (2 ^ 1074) (2 ^ 21) (td * qd)))))
    (pow_pos 1074)
  where
    spread : (a b c d : ℕ) → a * b * (c * d) ≡ a * c * (b * d)
    spread a b c d = omega arith

    fold : (a b c : ℕ) → a * b * c ≡ b * c * a
    fold a b c = omega arith

-- a height mu / de of u units: at least 2 ^ -30, and at most 2 ^ 20
module _ (mu de u : ℕ) (is : mu * 2 ^ 1074 ≡ u * de) (some : 0 < de) where
  lowest : de ≤ mu * 2 ^ 30 → 2 ^ 1044 ≤ u
  lowest h =
      let a : de * 2 ^ 1074 ≤ mu * 2 ^ 30 * 2 ^ 1074 = mul-le-mul_right (2 ^ 1074) h in
      let b : mu * 2 ^ 30 * 2 ^ 1074 ≡ u * (2 ^ 30 * de) = mul_right_comm mu (2 ^ 30) (2 ^ 1074) ∙ ap (λ n. n * 2 ^ 30) is ∙ turn u de (2 ^ 30) in
      let c : de * 2 ^ 1074 ≡ 2 ^ 1044 * (2 ^ 30 * de) = part de (2 ^ 1074) (2 ^ 1044) (2 ^ 30) (pow-add 2 1044 30) in
      le_of_mul-le-mul_right (le_trans (le_of_eq (sym c)) (le_trans a (le_of_eq b))) (mul-pos (pow_pos 30) some)
    where
      turn : (a b c : ℕ) → a * b * c ≡ a * (c * b)
      turn a b c = omega arith

      part : (d x y z : ℕ) → x ≡ y * z → d * x ≡ y * (z * d)
      part d x y z e = ap (λ n. d * n) e ∙ omega arith

  highest : mu ≤ 2 ^ 20 * de → u ≤ 2 ^ 1094
  highest h =
      let a : mu * 2 ^ 1074 ≤ 2 ^ 20 * de * 2 ^ 1074 = mul-le-mul_right (2 ^ 1074) h in
      le_of_mul-le-mul_right (le_trans (le_of_eq (sym is)) (le_trans a (le_of_eq (part de (2 ^ 20) (2 ^ 1074) (2 ^ 1094) (pow-add 2 20 1074))))) some
    where
      part : (d x y z : ℕ) → z ≡ x * y → x * d * y ≡ z * d
      part d x y z e = sym (ap (λ n. n * d) e ∙ omega arith)

  -- 2 ^ 20 over the height
  gain : (s : ℕ) → s ≤ 1095 → 0 < s → 2 ^ (s - 1) ≤ u → 2 ^ 20 * de ≤ 2 ^ (1095 - s) * mu
  gain s l p h =
      let e : 1095 - s + (s - 1) ≡ 20 + 1074 = omega arith in
      let c : 2 ^ (1095 - s) * 2 ^ (s - 1) ≡ 2 ^ 20 * 2 ^ 1074 = sym (pow-add 2 (1095 - s) (s - 1)) ∙ ap (λ n. 2 ^ n) e ∙ pow-add 2 20 1074 in
      let a : 2 ^ (1095 - s) * 2 ^ (s - 1) * de ≤ 2 ^ (1095 - s) * u * de = mul-le-mul_right de (mul-le-mul_left (2 ^ (1095 - s)) h) in
      le_of_mul-le-mul_right
      (le_trans (le_of_eq (left de (2 ^ 20) (2 ^ 1074) (2 ^ (1095 - s) * 2 ^ (s - 1)) (sym c))) (le_trans a (le_of_eq (right (2 ^ (1095 - s)) u de (mu * 2 ^ 1074) (sym is) ∙ sym (mul_assoc (2 ^ (1095 - s)) mu (2 ^ 1074))))))
      (pow_pos 1074)
    where
      left : (d x y z : ℕ) → x * y ≡ z → x * d * y ≡ z * d
      left d x y z e = sym (ap (λ n. n * d) (sym e) ∙ omega arith)

      right : (w u d x : ℕ) → u * d ≡ x → w * u * d ≡ w * x
      right w u d x e = mul_assoc w u d ∙ ap (λ n. w * n) e

-- the bracket of a height, and the slope over it
pub record Steep (d h : Float) : Type 0 where
  pub digits : ℕ
  pub few : digits ≤ 1095
  pub many : 1045 ≤ digits
  pub under : units_of h < 2 ^ digits
  pub slope : Within (1095 - digits) (d ⊘ h)

pub steep : (d h : Float) → Within 20 d → AtLeast 30 h → Within 20 h → T (fits binary64 h) → Steep d h
unfolding Within AtLeast div
steep nan h w a k f = absurd w
steep (inf t) h w a k f = absurd w
steep (fin t n c) nan w a k f = absurd a
steep (fin t n c) (inf s) w a k f = absurd a
steep (fin t n c) (fin true m e) w a k f = absurd a
steep (fin t n c) (fin false m e) w a k f =
    let u = units_of (fin false m e) in
    let is = units_exact false m e f in
    let lo = lowest (m * up e) (down e) u is (down_pos e) a in
    let few : size u ≤ 1095 = size-le u 1095 (lt_of_le_of_lt (highest (m * up e) (down e) u is (down_pos e) k) (lit< tt)) in
    let many : 1045 ≤ size u = below_back (size u) (lt_of_le_of_lt lo (size-lt u)) in
    let top : 2 ^ (size u - 1) ≤ u = size_reaches u (size u - 1) (omega arith) in
    let g = gain (m * up e) (down e) u is (down_pos e) (size u) few (omega arith) top in
    let z : m ≡ 0 → ⊥ = λ z. lt_irrefl 0 (lt_of_lt_of_le (down_pos e) (le_trans a (le_of_eq (ap (λ v. v * up e * 2 ^ 30) z ∙ ap (λ v. v * 2 ^ 30) (zero-mul (up e)) ∙ zero-mul (2 ^ 30))))) in
    record {
      digits = size u;
      few = few;
      many = many;
      under = size-lt u;
      slope =
          rw (ne_eqb m 0 z)
          (within_round (1095 - size u) (unlike t false) (n * up c * down e) (m * up e * down c) (omega arith) (mul-pos (mul-pos (pos_of_ne-zero z) (up_pos e)) (down_pos c))
          (le_trans (mul-le-mul_right (down e) w) (le_trans (le_of_eq (mul_right_comm (2 ^ 20) (down c) (down e))) (le_trans (mul-le-mul_right (down c) g) (le_of_eq (mul_assoc (2 ^ (1095 - size u)) (m * up e) (down c)))))));
    }
  where
    below_back : (s : ℕ) → 2 ^ 1044 < 2 ^ s → 1045 ≤ s
    below_back s h = go (leb 1045 s) (leb→le 1045 s) (nleb→lt 1045 s)
      where
        go : (b : Bool) → (T b → 1045 ≤ s) → (T (not b) → s < 1045) → 1045 ≤ s
        go true f g = f tt
        go false f g = let l = g tt in absurd (lt_irrefl (2 ^ 1044) (lt_of_lt_of_le h (pow_mono {i = s} {j = 1044} (omega arith))))

-- t is finite, and at most u units in size
Most : ℕ → Float → Type 0
Most u nan = ⊥
Most u (inf s) = ⊥
Most u (fin s k c) = k * up c * 2 ^ 1074 ≤ u * down c

times : (t q : Float) (u s : ℕ) → u < 2 ^ s → s ≤ 1095 → Most u t → Within (1095 - s) q → Within 21 (t ⊗ q)
unfolding Most Within mul
times nan q u s h l t w = absurd t
times (inf r) q u s h l t w = absurd t
times (fin r k c) nan u s h l t w = absurd w
times (fin r k c) (inf p) u s h l t w = absurd w
times (fin r k c) (fin p n d) u s h l t w = within_round 21 (unlike r p) (k * up c * (n * up d)) (down c * down d) (lit≤ tt) (mul-pos (down_pos c) (down_pos d)) (product (k * up c) (down c) (n * up d) (down d) u s h l t w)

-- from 0 to h
most : (t h : Float) → T (finite t) → T (le zero64 t) → T (le t h) → T (finite h) → T (fits binary64 h) → T (le zero64 h) → Most (units_of h) t
unfolding Most finite
most nan h ft t0 th fh fits h0 = absurd ft
most (inf r) h ft t0 th fh fits h0 = absurd ft
most (fin r k c) nan ft t0 th fh fits h0 = absurd fh
most (fin r k c) (inf s) ft t0 th fh fits h0 = absurd fh
most (fin r k c) (fin s m e) ft t0 th fh fits h0 =
    go r s (at_least_zero (fin r k c) tt t0) (at_least_zero (fin s m e) tt h0) (le→cross (fin r k c) (fin s m e) tt tt th) (units_exact s m e fits)
  where
    over_all : (r : Bool) (a : ℕ) → under r a ≡ 0 → over r a ≡ a
    over_all true a z = sym z
    over_all false a z = refl

    chain : (x de mu td u U : ℕ) → 0 < de → x * de ≤ mu * td → mu * U ≡ u * de → x * U ≤ u * td
    chain x de mu td u U p a b =
        le_of_mul-le-mul_right (le_trans (le_of_eq (mul_right_comm x U de)) (le_trans (mul-le-mul_right U a) (le_of_eq (mul_right_comm mu td U ∙ ap (λ v. v * td) b ∙ mul_right_comm u de td)))) p

    go : (r s : Bool) → under r (k * up c) ≡ 0 → under s (m * up e) ≡ 0 → over r (k * up c) * down e + under s (m * up e) * down c ≤ over s (m * up e) * down c + under r (k * up c) * down e
        → m * up e * 2 ^ 1074 ≡ units_of (fin s m e) * down e → k * up c * 2 ^ 1074 ≤ units_of (fin s m e) * down c
    go r s z y l is = chain (k * up c) (down e) (m * up e) (down c) (units_of (fin s m e)) (2 ^ 1074) (down_pos e)
        (omega (arith, rw (over_all r (k * up c) z, over_all s (m * up e) y, z, y) at l)) is

-- ---- edges

-- what holds of corners holds of both ends of their sides
module _ (Q : P → Type 0) where
  sides_to_lem : (z : P) (l : List P) → Q z → All Q l → All (λ ab. Q ab.0 × Q ab.1) (sides_to z l)
  unfolding sides_to
  sides_to_lem z [] h k = tt
  sides_to_lem z (a ∷ []) h k = ((k.0, h), tt)
  sides_to_lem z (a ∷ b ∷ r) h k = ((k.0, k.1.0), sides_to_lem z (b ∷ r) h k.1)

  pub sides_all : (l : List P) → All Q l → All (λ ab. Q ab.0 × Q ab.1) (sides l)
  unfolding sides
  sides_all [] k = tt
  sides_all (a ∷ []) k = tt
  sides_all (a ∷ b ∷ []) k = tt
  sides_all (a ∷ b ∷ c ∷ r) k = sides_to_lem a (a ∷ b ∷ c ∷ r) k.0 k

pub within_number : (n : ℕ) (x : Float) → Within n x → T (not (is_nan x))
within_number n x h = finite_number x (within_finite n x h)

-- a test that failed
not_lt_le : (x y : Float) → T (not (is_nan x)) → T (not (is_nan y)) → lt x y ≡ false → T (le y x)
not_lt_le x y p q e = elim (le_or_lt y x q p) [ inl h ↦ h | inr h ↦ absurd (subst T e h) ]

-- a corner once turned
abbrev pub Near : P → Type 0
Near p = Within 19 p.x × Within 19 p.y × T (fits binary64 p.y)

-- a kept edge: its numbers, and its run over a part of its height
pub record Good (e : Edge) : Type 0 where
  pub fit : T (fits binary64 e.y0)
  pub fit1 : T (fits binary64 e.y1)
  pub y0 : Within 19 e.y0
  pub y1 : Within 19 e.y1
  pub x0 : Within 19 e.x0
  pub dxdy : Within 50 e.dxdy
  pub part : (t : Float) → T (finite t) → T (le zero64 t) → T (le t (e.y1 ⊖ e.y0)) → Within 21 (t ⊗ e.dxdy)

edge_good : (top bot : P) (falls : Bool) → Near top → Near bot → AtLeast 30 (bot.y ⊖ top.y) → Good (edge_of top bot falls)
unfolding edge_of
edge_good top bot falls p q a =
    let h = bot.y ⊖ top.y in
    let d = bot.x ⊖ top.x in
    let wh : Within 20 h = within_sub 19 bot.y top.y (lit≤ tt) q.1 p.1 in
    let wd : Within 20 d = within_sub 19 bot.x top.x (lit≤ tt) q.0 p.0 in
    let s = steep d h wd a wh (sub-fits binary64 bot.y top.y) in
    record {
      fit = p.2;
      fit1 = q.2;
      y0 = p.1;
      y1 = q.1;
      x0 = p.0;
      dxdy = within_more (1095 - s.digits) 50 (d ⊘ h) (omega (arith, s.many)) s.slope;
      part = λ t ft t0 th. times t (d ⊘ h) (units_of h) s.digits s.under s.few (most t h ft t0 th (within_finite 20 h wh) (sub-fits binary64 bot.y top.y) (lt_le zero64 h (atleast_above 30 h a))) s.slope;
    }

-- 1e-9 is more than 2 ^ -30
least : AtLeast 30 (literal 1 (10 ^ 9))
unfolding literal round AtLeast
least = lit≤ tt

kept_good : (a b : P) → Near a → Near b → All Good (kept_side (a, b))
unfolding kept_side
kept_good a b p q = go (lt (magnitude (a.y ⊖ b.y)) (literal 1 (10 ^ 9))) refl
  where
    fa : T (finite a.y)
    fa = within_finite 19 a.y p.1

    fb : T (finite b.y)
    fb = within_finite 19 b.y q.1

    high : (x y : Float) → T (le (literal 1 (10 ^ 9)) x) → T (le x y) → T (finite y) → AtLeast 30 y
    high x y h k f = atleast_le 30 (literal 1 (10 ^ 9)) y least f (laws.le_trans (literal 1 (10 ^ 9)) x y h k)

    keep : T (le (literal 1 (10 ^ 9)) (magnitude (a.y ⊖ b.y))) → All Good (cond (lt a.y b.y) (edge_of a b true ∷ []) (edge_of b a false ∷ []))
    keep m = side (lt a.y b.y) refl
      where
        side : (t : Bool) → lt a.y b.y ≡ t → All Good (cond t (edge_of a b true ∷ []) (edge_of b a false ∷ []))
        side true e =
            let h = up_down a.y b.y fa fb (lt_le a.y b.y (holds e)) in
            (edge_good a b true p q (high (magnitude (a.y ⊖ b.y)) (b.y ⊖ a.y) m h (within_finite 20 (b.y ⊖ a.y) (within_sub 19 b.y a.y (lit≤ tt) q.1 p.1))), tt)
        side false e =
            let h = up_up b.y a.y fb fa (not_lt_le a.y b.y (within_number 19 a.y p.1) (within_number 19 b.y q.1) e) in
            (edge_good b a false q p (high (magnitude (a.y ⊖ b.y)) (a.y ⊖ b.y) m h (within_finite 20 (a.y ⊖ b.y) (within_sub 19 a.y b.y (lit≤ tt) p.1 q.1))), tt)

    go : (t : Bool) → lt (magnitude (a.y ⊖ b.y)) (literal 1 (10 ^ 9)) ≡ t → All Good (cond t [] (cond (lt a.y b.y) (edge_of a b true ∷ []) (edge_of b a false ∷ [])))
    go true e = tt
    go false e = keep (not_lt_le (magnitude (a.y ⊖ b.y)) (literal 1 (10 ^ 9)) (within_number 20 (magnitude (a.y ⊖ b.y)) (within_magnitude 20 (a.y ⊖ b.y) (within_sub 19 a.y b.y (lit≤ tt) p.1 q.1))) (within_number 30 (literal 1 (10 ^ 9)) (within_literal 30 1 (10 ^ 9) (lit≤ tt) (lit< tt) (lit≤ tt))) e)

-- ---- the fill's edges

below_four : T (lt (literal 1000001 1000000) (real (pos 4)))
unfolding literal round of_int lt
below_four = tt

module _ (outline : List (List P)) (g : Settings) (cyc : ℕ) (ok : Checked outline g cyc) where
  -- cosine and sine are at most 2
  pub turn : Within 1 g.cosine × Within 1 g.sine
  turn =
      let sum = g.cosine ⊗ g.cosine ⊕ g.sine ⊗ g.sine in
      within_squares 1 g.cosine g.sine ok.cosine ok.sine (le_lt_trans sum (literal 1000001 1000000) (real (pos 4)) ok.unit.most below_four)

  small : (x : Float) → T (le (magnitude x) largest) → Within 17 x
  unfolding largest
  small x h = within_le 17 x (real (pos 100000)) h (within_real 17 (pos 100000) (lit≤ tt) (lit≤ tt))

  turned_near : (p : P) → Corner p → Near (rotate p g.cosine (neg g.sine))
  turned_near p h =
      let x = small p.x h.0 in
      let y = small p.y h.1 in
      let c = turn.0 in
      let s = within_neg 1 g.sine turn.1 in (
        within_sub 18 (p.x ⊗ g.cosine) (p.y ⊗ neg g.sine) (lit≤ tt) (within_mul 17 1 p.x g.cosine (lit≤ tt) x c) (within_mul 17 1 p.y (neg g.sine) (lit≤ tt) y s),
        within_add 18 (p.x ⊗ neg g.sine) (p.y ⊗ g.cosine) (lit≤ tt) (within_mul 17 1 p.x (neg g.sine) (lit≤ tt) x s) (within_mul 17 1 p.y g.cosine (lit≤ tt) y c),
        add-fits binary64 (p.x ⊗ neg g.sine) (p.y ⊗ g.cosine),
      )

  -- every kept edge is good
  pub edges_good : All Good (edges g outline)
  unfolding edges turned
  edges_good =
      all_parts (All Corner) Good (λ ring. each kept_side (sides (map (λ p. rotate p g.cosine (neg g.sine)) ring)))
      (λ ring h. all_parts (λ ab. Near ab.0 × Near ab.1) Good kept_side (λ ab k. kept_good ab.0 ab.1 k.0 k.1) (sides (map (λ p. rotate p g.cosine (neg g.sine)) ring))
      (sides_all Near (map (λ p. rotate p g.cosine (neg g.sine)) ring) (all_mapped Corner Near (λ p. rotate p g.cosine (neg g.sine)) turned_near ring h)))
      outline ok.corners
