-- A way from p to q cut in n: where each step ends, and that no step is longer than asked. Assumes nothing.
use Rattle.std.specs.Prelude.{◌≡◌, refl, List, ◌∷◌, ◌++◌, map, T, pos, Float}
use Rattle.std.proofs.Common.{sym, ap, ◌∙◌, subst, inl, inr, zero-mul, mul-one, mul-le-mul_right, le_of_mul-le-mul_right, le_trans, le_of_eq, le→leb, lit≤, pow_pos}
use mathlib.Core.Bool.{Bool, true, false}
use Prim.Native.Nat.{ℕ, zero, suc, ◌+◌, ◌-◌, ◌*◌, ◌^◌, ◌≤◌, ◌<◌}
use Rattle.std.proofs.Math.Nat.{mul-pos, eq_of_mul-eq-mul_right}
use native.Mathlib.Omega.{arith}
use Rattle.std.specs.Float.{nan, inf, fin, binary64}
use Rattle.std.specs.Float.Ieee.{up, round, of_int, fits, le, lt}
use Rattle.std.specs.Float.Ieee.Back.{round_whole}
use Rattle.std.specs.Float.Ieee.Bits.{is_true}
use Rattle.std.specs.Float.Ieee.Exact.{HasValue}
use Rattle.std.specs.Float.Ieee.Positive.{den, den_pos}
use Rattle.numbers.specs.Num.{◌⊕◌, ◌⊖◌, ◌⊗◌, ◌⊘◌, zero64, real}
use Rattle.numbers.specs.Whole.{ceil}
use Rattle.numbers.specs.Order.{finite}
use Rattle.numbers.specs.Value.{units_of, Within, IsWhole}
use Rattle.numbers.specs.Fraction.{plus, less, cross→lt, cross→le}
use Rattle.numbers.specs.Rounded.{Rounded}
use Rattle.numbers.specs.Monotone.{at_least_zero, div_rounded}
use Rattle.numbers.specs.Laws.{within_finite, within_more, within_sub, within_add, within_mul, sub-fits, mul-fits, div-fits, div_up}
use Rattle.seqs.specs.Lists.{upto}
use Rattle.geom.specs.declared.point.P.{P}
use Rattle.geom.specs.Point.{lerp, dist}
use Rattle.geom.specs.Steps.{along}
use Rattle.apart.specs.Apart.{gap, no_farther, neighbours}
use Rattle.apart.specs.Values.{hi, lo, lo_exact, whole, units_most, within_rounded, rounded_near, add_about, sub_about, mul_about}
use Rattle.apart.specs.Gaps.{Differ, gap_is}
use Rattle.apart.specs.Distances.{Length, Point, apart}
use Rattle.apart.specs.Laws.{At, part_most, part_least, sum_most, sum_least, next_at, prev_at, ends, thousandths}

-- ---- the fraction i / n
real_parts : (x : Float) (i : ℕ) → HasValue x false i 1 → T (finite x) × (plus x ≡ i * den x) × (less x ≡ 0)
unfolding finite
real_parts nan i h = absurd h
real_parts (inf s) i h = absurd h
real_parts (fin true m e) i h = absurd (mathlib.Core.Bool.true≢false h.0)
real_parts (fin false m e) i h = (tt, sym (mul-one (m * up e)) ∙ h.1, refl)

count_parts : (i : ℕ) → i ≤ 2 ^ 40 → T (finite (real (pos i))) × (plus (real (pos i)) ≡ i * den (real (pos i))) × (less (real (pos i)) ≡ 0)
unfolding of_int
count_parts i h = real_parts (round binary64 false i 1) i (round_whole binary64 false i (le_trans h (lit≤ tt)))

-- in units, of a / d and b / c with a = i·d and b = n·c
cut_most : (l t w i n d c F : ℕ) → 0 < d * c → w ≡ 0 → t * (n * c * d) + 0 * c * l ≤ i * d * c * l + w * (n * c * d) + n * c * d * F → t * n ≤ i * l + n * F
cut_most l t w i n d c F D z h = le_of_mul-le-mul_right {k = d * c} (omega (arith, ap (λ (k : ℕ). k * (n * c * d)) z)) D

cut_least : (l t w i n d c F : ℕ) → 0 < d * c → w ≡ 0 → i * d * c * l + w * (n * c * d) ≤ t * (n * c * d) + 0 * c * l + n * c * d * F → i * l ≤ t * n + n * F
cut_least l t w i n d c F D z h = le_of_mul-le-mul_right {k = d * c} (omega (arith, ap (λ (k : ℕ). k * (n * c * d)) z)) D

part_one : (i n d c : ℕ) → i ≤ n → i * d * c ≤ 2 ^ 0 * (n * c * d)
part_one i n d c h = omega (arith, mul-le-mul_right (d * c) h)

part_none : (n d c : ℕ) → 0 * c ≤ 2 ^ 0 * (n * c * d)
part_none n d c = omega arith

no_low : (x : Float) → T (fits binary64 x) → T (finite x) → less x ≡ 0 → lo x ≡ 0
no_low x f g z = eq_of_mul-eq-mul_right (den x) (den_pos x) (lo x) 0 (sym (lo_exact x f g) ∙ ap (λ (n : ℕ). n * 2 ^ 1074) z ∙ zero-mul (2 ^ 1074) ∙ sym (zero-mul (den x)))

-- the fraction's numbers: t is i / n, but for 2 ^ 1023 units
pub record Fraction (n i : ℕ) (t : Float) : Type 0 where
  pub fit : T (fits binary64 t)
  pub small : Within 0 t
  pub up : less t ≡ 0
  pub most : hi t * n ≤ i * 2 ^ 1074 + n * 2 ^ 1023
  pub least : i * 2 ^ 1074 ≤ hi t * n + n * 2 ^ 1023

above_none : (x : Float) (n : ℕ) → T (finite x) → plus x ≡ n * den x → less x ≡ 0 → 0 < n → T (lt zero64 x)
above_none x n f p z N = cross→lt zero64 x (unfold finite in tt) f (go (plus x) (less x) (den x) (den_pos x) p z)
  where
    go : (a b d : ℕ) → 0 < d → a ≡ n * d → b ≡ 0 → 0 * d + b * 1 < a * 1 + 0 * d
    go a b d D p z = omega (arith, mul-pos N D)

pub fraction : (n i : ℕ) → 0 < n → i ≤ n → n ≤ 2 ^ 40 → Fraction n i (real (pos i) ⊘ real (pos n))
fraction n i N few most =
    let x = real (pos i) in
    let y = real (pos n) in
    let t = x ⊘ y in
    let a = count_parts i (le_trans few most) in
    let b = count_parts n most in
    let pos-y = above_none y n b.0 b.1 b.2 N in
    let c = n * den y * den x in
    let C : 0 < c = mul-pos (mul-pos N (den_pos y)) (den_pos x) in
    let r : Rounded t (i * den x * den y) (0 * den y) (n * den y * den x) = rw (a.1, b.1, a.2) at (div_rounded x y a.0 b.0 pos-y) in
    let in_one = within_rounded 0 (lit≤ tt) C r (part_one i n (den x) (den y) few) (part_none n (den x) (den y)) in
    let fit = div-fits binary64 x y in
    let none = at_least_zero t (within_finite 0 t in_one) (div_up x y a.0 b.0 (not_below x a.0 a.2) pos-y) in
    let low = no_low t fit (within_finite 0 t in_one) none in
    let D = mul-pos (den_pos x) (den_pos y) in
    let near = rounded_near 0 (2 ^ 1023) (lit≤ tt) C r (part_one i n (den x) (den y) few) (part_none n (den x) (den y)) (lit≤ tt) in
    record {
      fit = fit;
      small = in_one;
      up = none;
      most = cut_most (2 ^ 1074) (hi t) (lo t) i n (den x) (den y) (2 ^ 1023) D low near.most;
      least = cut_least (2 ^ 1074) (hi t) (lo t) i n (den x) (den y) (2 ^ 1023) D low near.least;
    }
  where
    not_below : (x : Float) → T (finite x) → less x ≡ 0 → T (le zero64 x)
    not_below x f z = cross→le zero64 x (unfold finite in tt) f (go (plus x) (less x) (den x) z)
      where
        go : (a b d : ℕ) → b ≡ 0 → 0 * d + b * 1 ≤ a * 1 + 0 * d
        go a b d z = omega arith

-- ---- a coordinate of a step's end
-- each operation errs by 2 ^ 1055 units at most, and the end by four times that
module _ (a b : Float) (fa : T (fits binary64 a)) (fb : T (fits binary64 b)) (wa : Within 30 a) (wb : Within 30 b) (n i : ℕ) (few : i ≤ n) (t : Float) (k : Fraction n i t) where
  abbrev D : Float
  D = b ⊖ a

  abbrev m : Float
  m = D ⊗ t

  d_within : Within 31 D
  d_within = within_sub 30 b a (lit≤ tt) wb wa

  m_within : Within 31 m
  m_within = within_mul 31 0 D t (lit≤ tt) d_within k.small

  pub end_within : Within 32 (a ⊕ m)
  end_within = within_add 31 a m (lit≤ tt) (within_more 30 31 a (lit≤ tt) wa) m_within

  -- an error of the fraction, times the difference
  spread : (hi D + lo D) * 2 ^ 1023 ≤ 2 ^ 1074 * 2 ^ 1055
  spread = le_trans (mul-le-mul_right (2 ^ 1023) (le_trans (le_of_eq (whole D)) (units_most 31 D (sub-fits binary64 b a) d_within))) (lit≤ tt)

  pub end_at : At (hi a) (lo a) (hi b) (lo b) n i (4 * 2 ^ 1055) (hi (a ⊕ m)) (lo (a ⊕ m))
  end_at =
      let fd = sub-fits binary64 b a in
      let d = sub_about 30 (2 ^ 1055) b a fb fa (lit≤ tt) wb wa (lit≤ tt) in
      let p = mul_about 31 0 (2 ^ 1055) D t fd k.fit (lit≤ tt) d_within k.small k.up (lit≤ tt) in
      let s = add_about 31 (2 ^ 1055) a m fa (mul-fits binary64 D t) (lit≤ tt) (within_more 30 31 a (lit≤ tt) wa) m_within (lit≤ tt) in
      record {
        most =
            sum_most (hi a) (lo a) (hi b) (lo b) n i (2 ^ 1055) (hi D) (lo D) (hi m) (lo m) (hi (a ⊕ m)) (lo (a ⊕ m)) few d.most
            (part_most n i (2 ^ 1074) (2 ^ 1055) (2 ^ 1023) (hi D) (lo D) (hi t) (hi m) (lo m) (pow_pos 1074) spread k.most k.least p.most) s.most;
        least =
            sum_least (hi a) (lo a) (hi b) (lo b) n i (2 ^ 1055) (hi D) (lo D) (hi m) (lo m) (hi (a ⊕ m)) (lo (a ⊕ m)) few d.least
            (part_least n i (2 ^ 1074) (2 ^ 1055) (2 ^ 1023) (hi D) (lo D) (hi t) (hi m) (lo m) (pow_pos 1074) spread k.most k.least p.least) s.least;
      }

-- ---- from one step's end to the next
-- p and q are X apart, and the two ends d
gap_at : (ph pl qh ql n i e X sh sl th tl d : ℕ) → At ph pl qh ql n i e sh sl → At ph pl qh ql n (i + 1) e th tl → Differ (ph + ql) (pl + qh) X → Differ (sh + tl) (sl + th) d → n * d ≤ X + n * (2 * e)
gap_at ph pl qh ql n i e X sh sl th tl d a b u v = go (low u) (high u) v
  where
    low : Differ (ph + ql) (pl + qh) X → qh + pl ≤ ql + ph + X
    low (inl w) = omega arith
    low (inr w) = omega arith

    high : Differ (ph + ql) (pl + qh) X → ql + ph ≤ qh + pl + X
    high (inl w) = omega arith
    high (inr w) = omega arith

    go : qh + pl ≤ ql + ph + X → ql + ph ≤ qh + pl + X → Differ (sh + tl) (sl + th) d → n * d ≤ X + n * (2 * e)
    go x y (inl w) = omega (arith, prev_at ph pl qh ql n i e X sh sl th tl a b x y, ap (λ (k : ℕ). n * k) w)
    go x y (inr w) = omega (arith, next_at ph pl qh ql n i e X sh sl th tl a b x y, ap (λ (k : ℕ). n * k) w)

-- s is where step i of n ends, on the way from p to q
record On (p q : P) (n i : ℕ) (s : P) : Type 0 where
  fine_x : T (finite s.x)
  fine_y : T (finite s.y)
  at_x : At (hi p.x) (lo p.x) (hi q.x) (lo q.x) n i (4 * 2 ^ 1055) (hi s.x) (lo s.x)
  at_y : At (hi p.y) (lo p.y) (hi q.y) (lo q.y) n i (4 * 2 ^ 1055) (hi s.y) (lo s.y)

at_start : (ph pl qh ql n e : ℕ) → At ph pl qh ql n 0 e ph pl
at_start ph pl qh ql n e = record { most = omega arith; least = omega arith }

at_end : (ph pl qh ql n e : ℕ) → At ph pl qh ql n n e qh ql
at_end ph pl qh ql n e = record { most = omega arith; least = omega arith }

module _ (p q : P) (hp : Point p) (hq : Point q) (size : Float) (k : Length size) (n N : ℕ) (w : IsWhole 40 (ceil (dist p q ⊘ size)) (pos n)) (some : 1 ≤ N) (few : N ≤ 2 ^ 40) (most : n ≤ N) where
  on_start : On p q N 0 p
  on_start = record {
    fine_x = within_finite 30 p.x hp.small_x;
    fine_y = within_finite 30 p.y hp.small_y;
    at_x = at_start (hi p.x) (lo p.x) (hi q.x) (lo q.x) N (4 * 2 ^ 1055);
    at_y = at_start (hi p.y) (lo p.y) (hi q.y) (lo q.y) N (4 * 2 ^ 1055);
  }

  on_end : On p q N N q
  on_end = record {
    fine_x = within_finite 30 q.x hq.small_x;
    fine_y = within_finite 30 q.y hq.small_y;
    at_x = at_end (hi p.x) (lo p.x) (hi q.x) (lo q.x) N (4 * 2 ^ 1055);
    at_y = at_end (hi p.y) (lo p.y) (hi q.y) (lo q.y) N (4 * 2 ^ 1055);
  }

  on_way : (i : ℕ) → i ≤ N → On p q N i (along p q N i)
  unfolding along lerp
  on_way i h =
      let t = real (pos i) ⊘ real (pos N) in
      let f = fraction N i some h few in
      record {
        fine_x = within_finite 32 _ (end_within p.x q.x hp.fit_x hq.fit_x hp.small_x hq.small_x N i h t f);
        fine_y = within_finite 32 _ (end_within p.y q.y hp.fit_y hq.fit_y hp.small_y hq.small_y N i h t f);
        at_x = end_at p.x q.x hp.fit_x hq.fit_x hp.small_x hq.small_x N i h t f;
        at_y = end_at p.y q.y hp.fit_y hq.fit_y hp.small_y hq.small_y N i h t f;
      }

  step : (i : ℕ) (s t : P) → On p q N i s → On p q N (i + 1) t → no_farther size s t ≡ true
  unfolding no_farther
  step i s t a b =
      let x = gap_at _ _ _ _ N i (4 * 2 ^ 1055) (gap p.x q.x) _ _ _ _ (gap s.x t.x) a.at_x b.at_x (gap_is p.x q.x) (gap_is s.x t.x) in
      let y = gap_at _ _ _ _ N i (4 * 2 ^ 1055) (gap p.y q.y) _ _ _ _ (gap s.y t.y) a.at_y b.at_y (gap_is p.y q.y) (gap_is s.y t.y) in
      let far = ends N (gap p.x q.x) (gap p.y q.y) (units_of size + 2 ^ 1060) (2 * (4 * 2 ^ 1055)) (gap s.x t.x) (gap s.y t.y) some (apart p q hp hq size k n N w some few most) x y in
      let near = thousandths (2 ^ 1074) (units_of size) (2 ^ 1060) (2 * (2 * (4 * 2 ^ 1055))) (gap s.x t.x) (gap s.y t.y) (lit≤ tt) far in
      rw (is_true (finite s.x) a.fine_x, is_true (finite s.y) a.fine_y, is_true (finite t.x) b.fine_x, is_true (finite t.y) b.fine_y) (is_true _ (le→leb _ _ near))

  -- the ends of the steps that are left, and what is sewn from q on
  chain : (rest : List P) → neighbours (no_farther size) (q ∷ rest) ≡ true → (j i : ℕ) (s : P) → On p q N i s → i + j + 1 ≡ N → neighbours (no_farther size) (s ∷ (map (along p q N) (upto (i + 1) j) ++ (q ∷ rest))) ≡ true
  unfolding neighbours
  chain rest h zero i s a e = rw (step i s q a (subst (λ (m : ℕ). On p q N m q) (sym (last i e)) on_end)) h
    where
      last : (i : ℕ) → i + 0 + 1 ≡ N → i + 1 ≡ N
      last i e = omega arith
  chain rest h (suc j) i s a e =
      let b = on_way (i + 1) (room i j e) in
      rw (step i s (along p q N (i + 1)) a b) (chain rest h j (i + 1) (along p q N (i + 1)) b (more i j e))
    where
      room : (i j : ℕ) → i + suc j + 1 ≡ N → i + 1 ≤ N
      room i j e = omega arith

      more : (i j : ℕ) → i + suc j + 1 ≡ N → i + 1 + j + 1 ≡ N
      more i j e = omega arith

-- ---- from p to q, and on
pub way : (p q : P) → Point p → Point q → (size : Float) → Length size → (n : ℕ) → IsWhole 40 (ceil (dist p q ⊘ size)) (pos n) → (rest : List P) → neighbours (no_farther size) (q ∷ rest) ≡ true
    → neighbours (no_farther size) (p ∷ (map (along p q n) (upto 1 (n - 1)) ++ (q ∷ rest))) ≡ true
way p q hp hq size k zero w rest h = chain p q hp hq size k 0 1 w (lit≤ tt) (lit≤ tt) (lit≤ tt) rest h 0 0 p (on_start p q hp hq size k 0 1 w (lit≤ tt) (lit≤ tt) (lit≤ tt)) refl
way p q hp hq size k (suc m) w rest h =
    let one : 1 ≤ suc m = omega arith in
    let same : suc m ≤ suc m = omega arith in
    rw (less_one m) (chain p q hp hq size k (suc m) (suc m) w one w.small same rest h m 0 p (on_start p q hp hq size k (suc m) (suc m) w one w.small same) (count m))
  where
    less_one : (m : ℕ) → suc m - 1 ≡ m
    less_one m = omega arith

    count : (m : ℕ) → 0 + m + 1 ≡ suc m
    count m = omega arith
