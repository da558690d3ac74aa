-- The points that a section is sewn through are small, and fit: more closely than Stitches has them. Assumes nothing.
use Rattle.std.specs.Prelude.{◌≡◌, refl, ◌&&◌, cond, T, ℤ, pos, negsuc, neg_ℤ, ◌+ℤ◌, ◌-ℤ◌, ◌*ℤ◌}
use Rattle.std.proofs.Common.{sym, ap, ◌∙◌, mul-pos, mul-le-mul_left, mul-le-mul_right, le_of_mul-le-mul_right, lt_of_lt_of_le, le_trans, le_of_eq, arith, lit≤}
use Rattle.std.proofs.Math.Bool.{Bool, true, false}
use mathlib.Core.List.Permᴰ
use mathlib.Core.List.{List, [], ◌∷◌, ◌++◌, map, reverse}
use Prim.Native.Nat.{ℕ, suc, ◌+◌, ◌*◌, ◌%◌, ◌^◌, ◌≤◌, ◌<◌}
use Rattle.std.proofs.Math.Dec.{eqb}
use Rattle.std.proofs.Math.IntN.{nat_abs, +ℤ-neg_ℤ_cancel}
use Rattle.std.specs.Int.Signed.{le_z}
use Rattle.std.proofs.Math.ListN.{length}
use Rattle.std.specs.Float.Ieee.{Float, binary64, up, round, of_int, fits, le, lt}
use Rattle.std.specs.Float.{nan, inf, fin}
use Rattle.std.specs.Float.Ieee.Back.{round_whole}
use Rattle.std.specs.Float.Ieee.Exact.{HasValue}
use Rattle.std.specs.Float.Ieee.Positive.{den, den_pos}
use Rattle.numbers.specs.Num.{◌⊕◌, ◌⊖◌, ◌⊗◌, ◌⊘◌, zero64, real}
use Rattle.numbers.specs.Whole.{floor, ceil}
use Rattle.numbers.specs.Order.{finite, negative}
use Rattle.numbers.specs.Value.{units_of, value_of, Within, IsWhole}
use Rattle.numbers.specs.Fraction.{plus, less}
use Rattle.numbers.specs.Rounded.{mul_rounded}
use Rattle.numbers.specs.Monotone.{div_rounded}
use Rattle.numbers.specs.CastLaws.{abs_opposite}
use Rattle.numbers.specs.Laws.{add-fits, sub-fits, mul-fits, div-fits, lt_le, within_finite, within_more, within_between, within_add, within_sub, within_div, floor_is, ceil_is, holds}
use Rattle.seqs.specs.Lists.{upto, sift, each, All}
use Rattle.seqs.specs.Tests.{and_both}
use Rattle.seqs.specs.All.{all_map, all_at, all_append, all_sift, all_perm}
use Rattle.seqs.specs.Sift.{sift_pass}
use Rattle.seqs.specs.Sort.{sort_perm}
use Rattle.seqs.specs.Upto.{upto_all}
use Rattle.seqs.specs.Signed.{nat_abs_add}
use Rattle.geom.specs.declared.point.P.{P}
use Rattle.geom.specs.Point.{point}
use Rattle.outlines.specs.declared.rule.FillRule.{FillRule}
use Rattle.rules.specs.declared.Settings.{Settings}
use Rattle.rules.specs.declared.Piece.{Piece}
use Rattle.rules.specs.declared.Entry.{Entry}
use Rattle.rules.specs.Fill.{edges, row_numbers, row_at, no_edge, edge, starts, lives, by_x, crossed, merged, crossings, spans, shrink, piece_of, wide, pieces_at, pieces_of, met, row_list, section, how_many, through, offset, min_end, m0, m1, needles, row_points}
use Rattle.rules.specs.Accepted.{Checked}
use Rattle.rules.specs.Alls.{all_both, all_mapped, all_unmapped, all_parts, all_reverse}
use Rattle.rules.specs.Edges.{Good, edges_good}
use Rattle.rules.specs.Rows.{Fair, row_within}
use Rattle.rules.proofs.FillSections.{pieces_of_rows}
use Rattle.rules.proofs.Pieces.{Small, spans_small, shrink_within, met_fair}
use Rattle.rules.proofs.Stitches.{len_within, len_least, offset_within, end_within, m0_whole, m1_whole}
use Rattle.apart.specs.Values.{parts, rounded_size, within_rounded, rounded_close}
use Rattle.apart.specs.Distances.{Length, length_is, Point}

-- ---- a piece
-- a row that has a piece lies between an edge's ends
pub record Fine (p : Piece) : Type 0 where
  pub small : Small p
  pub y : Within 19 p.y
  pub fit_y : T (fits binary64 p.y)
  pub fit_a : T (fits binary64 p.xa)
  pub fit_b : T (fits binary64 p.xb)

module _ (outline : List (List P)) (g : Settings) (cyc : ℕ) (ok : Checked outline g cyc) where
  rows_between : (k : ℤ) → All (λ i. Within 19 (row_at g k)) (crossed (edges g outline) (row_at g k))
  unfolding crossed starts lives
  rows_between k =
      let es = edges g outline in
      let y = row_at g k in
      let test : ℕ → Bool = λ i. le (edge es i).y0 y && lt y (edge es i).y1 in
      let places = upto 0 (length es) in
      all_perm (λ i. Within 19 y) (Permᴰ.symm (sort_perm (by_x es y) (sift test places)))
      (all_map (λ i w. let b = and_both (le (edge es i).y0 y) (lt y (edge es i).y1) w.1 in
      let e = all_at Good es i no_edge w.0 (edges_good outline g cyc ok) in
      within_between 19 (edge es i).y0 y (edge es i).y1 (holds b.0) (lt_le y (edge es i).y1 (holds b.1)) e.y0 e.y1)
      (sift test places) (all_both (λ i. i < length es) (λ i. test i ≡ true) (sift test places) (all_sift (λ i. i < length es) test places (all_map (λ i w. omega arith) places (upto_all 0 (length es)))) (sift_pass test places)))

  at_places : (rule : FillRule) (k : ℤ) → Fair k → (places : List ℕ) → All (λ i. Within 19 (row_at g k)) places
      → All (λ ab. Within 22 ab.0 × Within 22 ab.1) (spans rule (pos 0) zero64 (crossings (edges g outline) (row_at g k) places)) → All Fine (pieces_at rule g (edges g outline) k places)
  unfolding pieces_at
  at_places rule k h [] w s = unfold crossings merged spans in tt
  at_places rule k h (i ∷ is) w s =
      let es = edges g outline in
      let ab = spans rule (pos 0) zero64 (crossings es (row_at g k) (i ∷ is)) in
      all_sift Fine (wide g) (map (piece_of g k) ab)
      (all_mapped (λ ab. Within 22 ab.0 × Within 22 ab.1) Fine (piece_of g k) (λ ab z. fine ab z) ab s)
    where
      fine : (ab : Float × Float) → Within 22 ab.0 × Within 22 ab.1 → Fine (piece_of g k ab)
      fine ab z = unfold piece_of row_at in record {
        small = record {
          k = h;
          y = row_within outline g cyc ok k h;
          xa = within_add 22 ab.0 (shrink g) (lit≤ tt) z.0 (shrink_within outline g cyc ok);
          xb = within_sub 22 ab.1 (shrink g) (lit≤ tt) z.1 (shrink_within outline g cyc ok);
        };
        y = w.0;
        fit_y = mul-fits binary64 _ _;
        fit_a = add-fits binary64 ab.0 (shrink g);
        fit_b = sub-fits binary64 ab.1 (shrink g);
      }

  row_fine : (rule : FillRule) (k : ℤ) → Fair k → All Fine (pieces_of rule g (edges g outline) k)
  unfolding pieces_of
  row_fine rule k h = at_places rule k h (crossed (edges g outline) (row_at g k)) (rows_between k) (spans_small outline g cyc ok rule k h)

  -- every piece of the row list, and of a section
  pub section_fine : (rule : FillRule) (bottomUp : Bool) (s : ℕ) → All (λ e. Fine e.piece) (section (row_list outline rule g bottomUp) s)
  unfolding section
  section_fine rule bottomUp s =
      all_sift (λ e. Fine e.piece) (λ e. eqb e.section s) (row_list outline rule g bottomUp)
      (all_unmapped (λ e. Fine e.piece) Fine (λ e. e.piece) (λ e w. w) (row_list outline rule g bottomUp)
      (rw (pieces_of_rows outline rule g bottomUp) (all_parts Fair Fine (pieces_of rule g (edges g outline)) (row_fine rule) (met bottomUp (row_numbers g (edges g outline))) (met_fair outline g cyc ok bottomUp))))

-- ---- whole numbers of lengths
abs_value : (x : Float) → nat_abs (value_of x) ≡ units_of x
unfolding value_of
abs_value x = go (negative x) (units_of x)
  where
    go : (s : Bool) (u : ℕ) → nat_abs (cond s (neg_ℤ (pos u)) (pos u)) ≡ u
    go true u = abs_opposite u
    go false u = refl

abs_times : (k : ℤ) (l : ℕ) → nat_abs (k *ℤ pos l) ≡ nat_abs k * l
abs_times (pos a) l = refl
abs_times (negsuc a) l = abs_opposite (suc a * l)

-- what is less than one away from x
ceil_size : (x : Float) (k : ℤ) → T (fits binary64 x) → T (finite x) → IsWhole 25 (ceil x) k → nat_abs k * 2 ^ 1074 ≤ units_of x + 2 ^ 1074
ceil_size x k f g w =
    let c = ceil_is x f g in
    let e = ap nat_abs (sym w.exact ∙ c.is) in
    go (nat_abs k * 2 ^ 1074) (nat_abs (k *ℤ pos (2 ^ 1074))) (nat_abs (value_of x)) (units_of x) c.rest (2 ^ 1074) (nat_abs (value_of x +ℤ pos c.rest)) (abs_times k (2 ^ 1074)) e (nat_abs_add (value_of x) (pos c.rest)) (abs_value x) c.under_one
  where
    go : (a b v u r l s : ℕ) → b ≡ a → b ≡ s → s ≤ v + r → v ≡ u → r < l → a ≤ u + l
    go a b v u r l s p q h e i = omega arith

floor_size : (x : Float) (k : ℤ) → T (fits binary64 x) → T (finite x) → IsWhole 25 (floor x) k → nat_abs k * 2 ^ 1074 ≤ units_of x + 2 ^ 1074
floor_size x k f g w =
    let c = floor_is x f g in
    let r = c.rest in
    let e : k *ℤ pos (2 ^ 1074) ≡ value_of x +ℤ neg_ℤ (pos r) = sym w.exact ∙ sym (+ℤ-neg_ℤ_cancel (value_of (floor x)) (pos r)) ∙ ap (λ (z : ℤ). z +ℤ neg_ℤ (pos r)) (sym c.is) in
    go (nat_abs k * 2 ^ 1074) (nat_abs (k *ℤ pos (2 ^ 1074))) (nat_abs (value_of x)) (units_of x) r (nat_abs (neg_ℤ (pos r))) (2 ^ 1074) (nat_abs (value_of x +ℤ neg_ℤ (pos r))) (abs_times k (2 ^ 1074)) (ap nat_abs e) (nat_abs_add (value_of x) (neg_ℤ (pos r))) (abs_value x) (abs_opposite r) c.under_one
  where
    go : (a b v u r t l s : ℕ) → b ≡ a → b ≡ s → s ≤ v + t → v ≡ u → t ≡ r → r < l → a ≤ u + l
    go a b v u r t l s p q h e f i = omega arith

-- x / y, of an x of at most 2 ^ 25 and a length y
spread : (l v a p d c : ℕ) → 0 < d → a ≤ 2 ^ 25 * (d * c) → 2 ^ 52 * (v * (p * d)) ≤ 2 ^ 52 * (a * l) + a * l + 2 ^ 52 * (p * d) → v * p ≤ 2 ^ 26 * (c * l) + p
spread l v a p d c D h k = le_of_mul-le-mul_right {k = d} (le_trans (go (a * l) (d * c * l) (v * p * d) (p * d) (omega (arith, mul-le-mul_right l h)) (omega arith)) (le_of_eq (turned (2 ^ 26)))) D
  where
    go : (x y s t : ℕ) → x ≤ 2 ^ 25 * y → 2 ^ 52 * s ≤ 2 ^ 52 * x + x + 2 ^ 52 * t → s ≤ 2 ^ 26 * y + t
    go x y s t h k = omega arith

    turned : (M : ℕ) → M * (d * c * l) + p * d ≡ (M * (c * l) + p) * d
    turned M = omega arith

module _ (x y : Float) (h : Within 25 x) (k : Length y) (w : Within 10 y) where
  -- k lengths, where k is less than one away from x / y
  lengths : (l v a : ℕ) → 1 ≤ l → v * plus y ≤ 2 ^ 26 * (den y * l) + plus y → a * l ≤ v + l → a * plus y ≤ 2 ^ 27 * den y
  lengths l v a L p q = le_of_mul-le-mul_right {k = l} (go (plus y) (den y) p (parts 10 y w).0) L
    where
      go : (P D : ℕ) → v * P ≤ 2 ^ 26 * (D * l) + P → P ≤ 2 ^ 10 * D → a * P * l ≤ 2 ^ 27 * D * l
      go P D i j = omega (arith, mul-le-mul_right P q, mul-le-mul_right l j, mul-le-mul_left D L)

  pub many : (a : ℕ) → a * 2 ^ 1074 ≤ units_of (x ⊘ y) + 2 ^ 1074 → a * plus y ≤ 2 ^ 27 * den y
  many a b =
      let fx = within_finite 25 x h in
      let C : 0 < plus y * den x = mul-pos (lt_of_lt_of_le (den_pos y) k.one) (den_pos x) in
      let r = div_rounded x y fx k.fine k.above in
      let s = parts 25 x h in
      let i = over_one (2 ^ 25) (plus x) (den x) (den y) s.0 in
      let j = over_one (2 ^ 25) (less x) (den x) (den y) s.1 in
      let c = rounded_close 25 (lit≤ tt) C r (le_trans i (wider (2 ^ 25) (den x) (den y) (plus y) k.one)) (le_trans j (wider (2 ^ 25) (den x) (den y) (plus y) k.one)) in
      lengths (2 ^ 1074) (units_of (x ⊘ y)) a (lit≤ tt) (spread (2 ^ 1074) (units_of (x ⊘ y)) r.size (plus y) (den x) (den y) (den_pos x) (rounded_size r.sign r.size (plus x * den y) (less x * den y) (2 ^ 25 * (den x * den y)) i j r.value) c.most) b
    where
      over_one : (M p d c : ℕ) → p ≤ M * d → p * c ≤ M * (d * c)
      over_one M p d c h = omega (arith, mul-le-mul_right c h)

      wider : (M d c n : ℕ) → c ≤ n → M * (d * c) ≤ M * (n * d)
      wider M d c n h = omega (arith, mul-le-mul_left (M * d) h)

-- ---- from lo to hi
through_all : (lo hi : ℤ) → All (λ m. nat_abs m ≤ 2 * nat_abs lo + nat_abs hi) (through lo hi)
unfolding through how_many
through_all lo hi =
    all_mapped (λ i. i ≤ nat_abs (hi -ℤ lo)) (λ m. nat_abs m ≤ 2 * nat_abs lo + nat_abs hi) (λ i. lo +ℤ pos i) (λ i l. omega (arith, nat_abs_add lo (pos i), nat_abs_add hi (neg_ℤ lo), abs_neg lo))
    (upto 0 (cond (le_z lo hi) (nat_abs (hi -ℤ lo) + 1) 0)) (few (le_z lo hi))
  where
    abs_neg : (b : ℤ) → nat_abs (neg_ℤ b) ≡ nat_abs b
    abs_neg (pos a) = abs_opposite a
    abs_neg (negsuc n) = refl

    few : (b : Bool) → All (λ i. i ≤ nat_abs (hi -ℤ lo)) (upto 0 (cond b (nat_abs (hi -ℤ lo) + 1) 0))
    few true = all_map (λ i l. omega arith) (upto 0 (nat_abs (hi -ℤ lo) + 1)) (upto_all 0 (nat_abs (hi -ℤ lo) + 1))
    few false = tt

-- ---- m lengths, rounded
size_of : (x : Float) (s : Bool) (a : ℕ) → HasValue x s a 1 → T (finite x) × (plus x + less x ≡ a * den x)
unfolding finite
size_of nan s a h = absurd h
size_of (inf t) s a h = absurd h
size_of (fin true m e) s a h = (tt, omega (arith, h.1))
size_of (fin false m e) s a h = (tt, omega (arith, h.1))

real_size : (k : ℤ) → nat_abs k ≤ 2 ^ 27 → T (finite (real k)) × (plus (real k) + less (real k) ≡ nat_abs k * den (real k))
unfolding of_int
real_size (pos a) h = size_of (round binary64 false a 1) false a (round_whole binary64 false a (le_trans h (lit≤ tt)))
real_size (negsuc a) h = size_of (round binary64 true (suc a) 1) true (suc a) (round_whole binary64 true (suc a) (le_trans h (lit≤ tt)))

multiple : (k : ℤ) (y : Float) → nat_abs k ≤ 2 ^ 27 → T (finite y) → less y ≡ 0 → nat_abs k * plus y ≤ 2 ^ 29 * den y → Within 29 (real k ⊗ y)
multiple k y h f z b =
    let x = real k in
    let r = real_size k h in
    within_rounded 29 (lit≤ tt) (mul-pos (den_pos x) (den_pos y)) (mul_rounded x y r.0 f) (go (plus x) (less x) (den x) (plus y) (less y) (den y) (nat_abs k) r.1 z b).0 (go (plus x) (less x) (den x) (plus y) (less y) (den y) (nat_abs k) r.1 z b).1
  where
    go : (p n d q m c a : ℕ) → p + n ≡ a * d → m ≡ 0 → a * q ≤ 2 ^ 29 * c → (p * q + n * m ≤ 2 ^ 29 * (d * c)) × (p * m + n * q ≤ 2 ^ 29 * (d * c))
    go p n d q m c a e z h = (
      omega (arith, ap (λ (k : ℕ). k * q) e, ap (λ (k : ℕ). n * k) z, mul-le-mul_right d h),
      omega (arith, ap (λ (k : ℕ). k * q) e, ap (λ (k : ℕ). p * k) z, mul-le-mul_right d h),
    )

-- ---- the points of a row, and of a section
module _ (outline : List (List P)) (g : Settings) (stagger : ℕ) (ok : Checked outline g stagger) where
  pub asked : Length g.len
  asked = length_is g.len (len_least outline g stagger ok) (len_within outline g stagger ok)

  -- a needle's place: it fits, and is small
  abbrev Placed : Float → Type 0
  Placed x = T (fits binary64 x) × Within 30 x

  module _ (p : Piece) (small : Small p) where
    low : nat_abs (m0 g stagger p) * plus g.len ≤ 2 ^ 27 * den g.len
    low =
        let off = offset g stagger p.k in
        let x = p.xa ⊕ min_end g ⊖ off in
        let w = within_sub 24 (p.xa ⊕ min_end g) off (lit≤ tt) (within_add 23 p.xa (min_end g) (lit≤ tt) small.xa (within_more 10 23 (min_end g) (lit≤ tt) (end_within outline g stagger ok))) (within_more 20 24 off (lit≤ tt) (offset_within outline g stagger ok p.k)) in
        many x g.len w asked (len_within outline g stagger ok) (nat_abs (m0 g stagger p))
        (ceil_size (x ⊘ g.len) (m0 g stagger p) (div-fits binary64 x g.len) (within_finite 25 (x ⊘ g.len) (within_div 25 0 x g.len (lit≤ tt) w (len_least outline g stagger ok))) (m0_whole outline g stagger ok p small))

    high : nat_abs (m1 g stagger p) * plus g.len ≤ 2 ^ 27 * den g.len
    high =
        let off = offset g stagger p.k in
        let x = p.xb ⊖ min_end g ⊖ off in
        let w = within_sub 24 (p.xb ⊖ min_end g) off (lit≤ tt) (within_sub 23 p.xb (min_end g) (lit≤ tt) small.xb (within_more 10 23 (min_end g) (lit≤ tt) (end_within outline g stagger ok))) (within_more 20 24 off (lit≤ tt) (offset_within outline g stagger ok p.k)) in
        many x g.len w asked (len_within outline g stagger ok) (nat_abs (m1 g stagger p))
        (floor_size (x ⊘ g.len) (m1 g stagger p) (div-fits binary64 x g.len) (within_finite 25 (x ⊘ g.len) (within_div 25 0 x g.len (lit≤ tt) w (len_least outline g stagger ok))) (m1_whole outline g stagger ok p small))

    few : (m : ℤ) → nat_abs m ≤ 2 * nat_abs (m0 g stagger p) + nat_abs (m1 g stagger p) → nat_abs m ≤ 2 ^ 27
    few m h = omega (arith, (m0_whole outline g stagger ok p small).small, (m1_whole outline g stagger ok p small).small)

    reach : (m : ℤ) → nat_abs m ≤ 2 * nat_abs (m0 g stagger p) + nat_abs (m1 g stagger p) → nat_abs m * plus g.len ≤ 2 ^ 29 * den g.len
    reach m h = omega (arith, mul-le-mul_right (plus g.len) h, low, high)

    needles_placed : All Placed (needles g stagger p)
    unfolding needles
    needles_placed =
        let off = offset g stagger p.k in
        all_mapped (λ m. nat_abs m ≤ 2 * nat_abs (m0 g stagger p) + nat_abs (m1 g stagger p)) Placed (λ m. off ⊕ real m ⊗ g.len)
        (λ m l. (
          add-fits binary64 off (real m ⊗ g.len),
          within_add 29 off (real m ⊗ g.len) (lit≤ tt) (within_more 20 29 off (lit≤ tt) (offset_within outline g stagger ok p.k))
              (multiple m g.len (few m l) asked.fine asked.up (reach m l)),
        ))
        (through (m0 g stagger p) (m1 g stagger p)) (through_all (m0 g stagger p) (m1 g stagger p))

  row_points_lem : (e : Entry) → Fine e.piece → All Point (row_points g stagger e)
  unfolding row_points
  row_points_lem e f =
      let p = e.piece in
      let xs : All Placed (p.xa ∷ (needles g stagger p ++ (p.xb ∷ []))) =
      ((f.fit_a, within_more 23 30 p.xa (lit≤ tt) f.small.xa), all_append Placed (needles g stagger p) (p.xb ∷ []) (needles_placed p f.small) ((f.fit_b, within_more 23 30 p.xb (lit≤ tt) f.small.xb), tt)) in
      turn_round (eqb (e.nth % 2) 0) (map (λ x. point x p.y) (p.xa ∷ (needles g stagger p ++ (p.xb ∷ []))))
      (all_mapped Placed Point (λ x. point x p.y) (λ x w. record { fit_x = w.0; fit_y = f.fit_y; small_x = w.1; small_y = within_more 19 30 p.y (lit≤ tt) f.y }) (p.xa ∷ (needles g stagger p ++ (p.xb ∷ []))) xs)
    where
      turn_round : (b : Bool) (l : List P) → All Point l → All Point (cond b l (reverse l))
      turn_round true l h = h
      turn_round false l h = all_reverse Point l h

  pub targets : (es : List Entry) → All (λ e. Fine e.piece) es → All Point (each (row_points g stagger) es)
  targets es h = all_parts (λ e. Fine e.piece) Point (row_points g stagger) row_points_lem es h
