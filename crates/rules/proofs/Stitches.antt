-- Sizes of an accepted fill's stitches; m0, m1 and n lose nothing as whole numbers. Assumes nothing.
use Rattle.std.specs.Prelude.{◌≡◌, refl, Bool, cond, ℕ, zero, suc, ◌+◌, ◌-◌, ◌*◌, ◌%◌, ◌^◌, ◌≤◌, ◌<◌, ℤ, pos, negsuc, neg_ℤ, ◌+ℤ◌, ◌-ℤ◌, Float}
use Rattle.std.proofs.Math.Bool.{true, false}
use mathlib.Core.List.{List, [], ◌∷◌, ◌++◌, map, reverse}
use Rattle.std.proofs.Common.{mod-lt, arith, le→leb, lit<, lit≤, ne_eqb}
use Rattle.std.proofs.Math.Dec.{eqb}
use Rattle.std.proofs.Math.IntN.{nat_abs}
use Rattle.std.specs.Int.Signed.{le_z}
use Rattle.std.specs.Float.Ieee.{neg, binary64, round, of_int}
use Rattle.std.specs.Float.Ieee.Fits.{add-fits, div-fits}
use Rattle.numbers.specs.Num.{◌⊕◌, ◌⊖◌, ◌⊗◌, ◌⊘◌, literal, real}
use Rattle.numbers.specs.Order.{smaller}
use Rattle.numbers.specs.Whole.{floor, ceil}
use Rattle.numbers.specs.Root.{root}
use Rattle.numbers.specs.Value.{Within, AtLeast, IsWhole}
use Rattle.numbers.specs.Laws.{smaller_has, real_mono, square_up, sum_up, div_up, within_finite, within_more, within_between, within_neg, within_add, within_sub, within_mul, within_div, within_real, within_literal, atleast_le, atleast_above, ceil_signed, floor_signed, ceil_unsigned}
use Rattle.numbers.proofs.Laws.{root_up, within_root}
use Rattle.seqs.specs.Lists.{each, upto, All}
use Rattle.seqs.specs.All.{all_map, all_append, all_sift}
use Rattle.seqs.specs.Upto.{upto_all}
use Rattle.seqs.specs.Signed.{nat_abs_add}
use Rattle.geom.specs.declared.point.P.{P}
use Rattle.outlines.specs.declared.rule.FillRule.{FillRule}
use Rattle.geom.specs.Point.{point, rotate, lerp, len, dist}
use Rattle.geom.specs.Steps.{along}
use Rattle.rules.specs.declared.Settings.{Settings}
use Rattle.rules.specs.declared.Piece.{Piece}
use Rattle.rules.specs.declared.Entry.{Entry}
use Rattle.rules.specs.Fill.{begun, row_list, section, sections, link_ends, how_many, through, cycle, rem_euclid, offset, min_end, m0, m1, needles, row_points, parts, between, sew_from, sew, sewn, tatami}
use Rattle.rules.specs.Accepted.{Checked}
use Rattle.rules.specs.Alls.{all_mapped, all_parts, all_reverse}
use Rattle.rules.specs.Edges.{turn}
use Rattle.rules.proofs.Pieces.{Small, pieces_small}

-- ---- whole numbers as divisors

one_least : AtLeast 0 (real (pos 1))
unfolding AtLeast of_int round
one_least = lit≤ tt

count_least : (c : ℕ) → 0 < c → c ≤ 2 ^ 63 → AtLeast 0 (real (pos c))
count_least c h l = atleast_le 0 (real (pos 1)) (real (pos c)) one_least (within_finite 63 (real (pos c)) (within_real 63 (pos c) (lit≤ tt) l)) (real_mono (pos 1) (pos c) (le→leb 1 c h))

-- ---- from lo to hi

abs_neg : (b : ℤ) → nat_abs (neg_ℤ b) ≡ nat_abs b
abs_neg (pos zero) = refl
abs_neg (pos (suc n)) = refl
abs_neg (negsuc n) = refl

through_all : (lo hi : ℤ) (n : ℕ) → nat_abs lo ≤ 2 ^ n → nat_abs hi ≤ 2 ^ n → All (λ m. nat_abs m ≤ 2 ^ n * 4) (through lo hi)
unfolding through how_many
through_all lo hi n h k =
    all_mapped (λ i. i ≤ nat_abs (hi -ℤ lo)) (λ m. nat_abs m ≤ 2 ^ n * 4) (λ i. lo +ℤ pos i) (λ i l. omega (arith, nat_abs_add lo (pos i), nat_abs_add hi (neg_ℤ lo), abs_neg lo))
    (upto 0 (cond (le_z lo hi) (nat_abs (hi -ℤ lo) + 1) 0)) (few (le_z lo hi))
  where
    few : (b : Bool) → All (λ i. i ≤ nat_abs (hi -ℤ lo)) (upto 0 (cond b (nat_abs (hi -ℤ lo) + 1) 0))
    few true = all_map (λ i l. omega arith) (upto 0 (nat_abs (hi -ℤ lo) + 1)) (upto_all 0 (nat_abs (hi -ℤ lo) + 1))
    few false = tt

-- ---- the stagger

cycle_some : (stagger : ℕ) → stagger ≤ 1000 → (0 < cycle stagger) × (cycle stagger ≤ 1000)
unfolding cycle
cycle_some zero l = (lit< tt, lit≤ tt)
cycle_some (suc n) l = rw (ne_eqb (suc n) 0 (λ z. omega arith)) (omega arith, l)

pub rem_below : (k : ℤ) (c : ℕ) → 0 < c → rem_euclid k c < c
unfolding rem_euclid
rem_below (pos a) c h = mod-lt a h
rem_below (negsuc a) c h = omega arith

-- a point's numbers
abbrev pub Inner : P → Type 0
Inner p = Within 38 p.x × Within 38 p.y

abbrev pub Outer : P → Type 0
Outer p = Within 80 p.x × Within 80 p.y

module _ (outline : List (List P)) (g : Settings) (stagger : ℕ) (ok : Checked outline g stagger) where
  pub len_within : Within 10 g.len
  len_within = within_between 10 (real (pos 1)) g.len (real (pos 1000)) ok.len.least ok.len.most (within_real 10 (pos 1) (lit≤ tt) (lit≤ tt)) (within_real 10 (pos 1000) (lit≤ tt) (lit≤ tt))

  pub len_least : AtLeast 0 g.len
  len_least = atleast_le 0 (real (pos 1)) g.len one_least (within_finite 10 g.len len_within) ok.len.least

  pub offset_within : (k : ℤ) → Within 20 (offset g stagger k)
  unfolding offset
  offset_within k =
      let c = cycle stagger in
      let s = cycle_some stagger ok.stagger in
      let r = rem_euclid k c in
      within_div 20 0 (real (pos r) ⊗ g.len) (real (pos c)) (lit≤ tt)
      (within_mul 10 10 (real (pos r)) g.len (lit≤ tt) (within_real 10 (pos r) (lit≤ tt) (omega (arith, rem_below k c s.0, s.1))) len_within)
      (count_least c s.0 (omega (arith, s.1)))

  pub end_within : Within 10 (min_end g)
  unfolding min_end
  end_within =
      smaller_has (Within 10) (g.len ⊗ literal 1 4) (literal 5 1)
      (within_mul 10 0 g.len (literal 1 4) (lit≤ tt) len_within (within_literal 0 1 4 (lit≤ tt) (lit< tt) (lit≤ tt)))
      (within_literal 10 5 1 (lit≤ tt) (lit< tt) (lit≤ tt))

  -- ---- the needle points of a row

  module _ (p : Piece) (small : Small p) where
    pub m0_whole : IsWhole 25 (ceil ((p.xa ⊕ min_end g ⊖ offset g stagger p.k) ⊘ g.len)) (m0 g stagger p)
    unfolding m0
    m0_whole =
        let off = offset g stagger p.k in
        let w = within_sub 24 (p.xa ⊕ min_end g) off (lit≤ tt) (within_add 23 p.xa (min_end g) (lit≤ tt) small.xa (within_more 10 23 (min_end g) (lit≤ tt) end_within)) (within_more 20 24 off (lit≤ tt) (offset_within p.k)) in
        ceil_signed 25 ((p.xa ⊕ min_end g ⊖ off) ⊘ g.len) (lit≤ tt) (div-fits binary64 (p.xa ⊕ min_end g ⊖ off) g.len) (within_div 25 0 (p.xa ⊕ min_end g ⊖ off) g.len (lit≤ tt) w len_least)

    pub m1_whole : IsWhole 25 (floor ((p.xb ⊖ min_end g ⊖ offset g stagger p.k) ⊘ g.len)) (m1 g stagger p)
    unfolding m1
    m1_whole =
        let off = offset g stagger p.k in
        let w = within_sub 24 (p.xb ⊖ min_end g) off (lit≤ tt) (within_sub 23 p.xb (min_end g) (lit≤ tt) small.xb (within_more 10 23 (min_end g) (lit≤ tt) end_within)) (within_more 20 24 off (lit≤ tt) (offset_within p.k)) in
        floor_signed 25 ((p.xb ⊖ min_end g ⊖ off) ⊘ g.len) (lit≤ tt) (div-fits binary64 (p.xb ⊖ min_end g ⊖ off) g.len) (within_div 25 0 (p.xb ⊖ min_end g ⊖ off) g.len (lit≤ tt) w len_least)

    needles_within : All (Within 38) (needles g stagger p)
    unfolding needles
    needles_within =
        let off = offset g stagger p.k in
        all_mapped (λ m. nat_abs m ≤ 2 ^ 27) (Within 38) (λ m. off ⊕ real m ⊗ g.len)
        (λ m l. within_add 37 off (real m ⊗ g.len) (lit≤ tt) (within_more 20 37 off (lit≤ tt) (offset_within p.k)) (within_mul 27 10 (real m) g.len (lit≤ tt) (within_real 27 m (lit≤ tt) l) len_within))
        (through (m0 g stagger p) (m1 g stagger p)) (through_all (m0 g stagger p) (m1 g stagger p) 25 m0_whole.small m1_whole.small)

  row_inner : (e : Entry) → Small e.piece → All Inner (row_points g stagger e)
  unfolding row_points
  row_inner e small =
      let p = e.piece in
      let xs : All (Within 38) (p.xa ∷ (needles g stagger p ++ (p.xb ∷ []))) =
      (within_more 23 38 p.xa (lit≤ tt) small.xa, all_append (Within 38) (needles g stagger p) (p.xb ∷ []) (needles_within p small) (within_more 23 38 p.xb (lit≤ tt) small.xb, tt)) in
      turn_round (eqb (e.nth % 2) 0) (map (λ x. point x p.y) (p.xa ∷ (needles g stagger p ++ (p.xb ∷ []))))
      (all_mapped (Within 38) Inner (λ x. point x p.y) (λ x w. (w, within_more 33 38 p.y (lit≤ tt) small.y)) (p.xa ∷ (needles g stagger p ++ (p.xb ∷ []))) xs)
    where
      turn_round : (b : Bool) (l : List P) → All Inner l → All Inner (cond b l (reverse l))
      turn_round true l h = h
      turn_round false l h = all_reverse Inner l h

  -- ---- from point to point

  pub parts_whole : (p q : P) → Inner p → Inner q → IsWhole 40 (ceil (dist p q ⊘ g.len)) (pos (parts g p q))
  unfolding parts dist len
  parts_whole p q h k =
      let dx = p.x ⊖ q.x in
      let dy = p.y ⊖ q.y in
      let wx = within_sub 38 p.x q.x (lit≤ tt) h.0 k.0 in
      let wy = within_sub 38 p.y q.y (lit≤ tt) h.1 k.1 in
      let wxx = within_mul 39 39 dx dx (lit≤ tt) wx wx in
      let wyy = within_mul 39 39 dy dy (lit≤ tt) wy wy in
      let s = dx ⊗ dx ⊕ dy ⊗ dy in
      let up = sum_up (dx ⊗ dx) (dy ⊗ dy) (square_up dx (within_finite 39 dx wx)) (square_up dy (within_finite 39 dy wy)) in
      let fit = add-fits binary64 (dx ⊗ dx) (dy ⊗ dy) in
      let wr = within_root 40 s (lit≤ tt) fit up (within_more 79 80 s (lit≤ tt) (within_add 78 (dx ⊗ dx) (dy ⊗ dy) (lit≤ tt) wxx wyy)) in
      ceil_unsigned 40 (root s ⊘ g.len) (lit≤ tt) (div-fits binary64 (root s) g.len)
      (div_up (root s) g.len (within_finite 40 (root s) wr) (within_finite 10 g.len len_within) (root_up s fit up) (atleast_above 0 g.len len_least))
      (within_div 40 0 (root s) g.len (lit≤ tt) wr len_least)

  along_outer : (p q : P) (n i : ℕ) → Inner p → Inner q → 0 < n → n ≤ 2 ^ 40 → i ≤ 2 ^ 40 → Outer (along p q n i)
  unfolding along lerp
  along_outer p q n i h k s l m =
      let t = real (pos i) ⊘ real (pos n) in
      let wt = within_div 40 0 (real (pos i)) (real (pos n)) (lit≤ tt) (within_real 40 (pos i) (lit≤ tt) m) (count_least n s (omega arith)) in (
        within_add 79 p.x ((q.x ⊖ p.x) ⊗ t) (lit≤ tt) (within_more 38 79 p.x (lit≤ tt) h.0) (within_mul 39 40 (q.x ⊖ p.x) t (lit≤ tt) (within_sub 38 q.x p.x (lit≤ tt) k.0 h.0) wt),
        within_add 79 p.y ((q.y ⊖ p.y) ⊗ t) (lit≤ tt) (within_more 38 79 p.y (lit≤ tt) h.1) (within_mul 39 40 (q.y ⊖ p.y) t (lit≤ tt) (within_sub 38 q.y p.y (lit≤ tt) k.1 h.1) wt),
      )

  between_outer : (p q : P) → Inner p → Inner q → All Outer (between g p q)
  unfolding between
  between_outer p q h k =
      let n = parts g p q in
      let w = (parts_whole p q h k).small in
      all_mapped (λ i. (1 ≤ i) × (i < 1 + (n - 1))) Outer (along p q n) (λ i l. along_outer p q n i h k (omega arith) w (omega arith)) (upto 1 (n - 1)) (upto_all 1 (n - 1))

  outer : (p : P) → Inner p → Outer p
  outer p h = (within_more 38 80 p.x (lit≤ tt) h.0, within_more 38 80 p.y (lit≤ tt) h.1)

  sew_from_outer : (p : P) (qs : List P) → Inner p → All Inner qs → All Outer (sew_from g p qs)
  unfolding sew_from
  sew_from_outer p [] h k = tt
  sew_from_outer p (q ∷ qs) h k = all_append Outer (between g p q) (q ∷ sew_from g q qs) (between_outer p q h k.0) (outer q k.0, sew_from_outer q qs k.0 k.1)

  sew_outer : (ps : List P) → All Inner ps → All Outer (sew g ps)
  unfolding sew
  sew_outer [] h = tt
  sew_outer (p ∷ ps) h = (outer p h.0, sew_from_outer p ps h.0 h.1)

  -- a point turned back
  back_within : (n : ℕ) → suc (n + 1) ≤ 1000 → (p : P) → Within n p.x × Within n p.y → Within (suc (n + 1)) (rotate p g.cosine g.sine).x × Within (suc (n + 1)) (rotate p g.cosine g.sine).y
  back_within n l p h =
      let c = (turn outline g stagger ok).0 in
      let s = (turn outline g stagger ok).1 in
      let m : n + 1 ≤ 1000 = omega arith in (
        within_sub (n + 1) (p.x ⊗ g.cosine) (p.y ⊗ g.sine) l (within_mul n 1 p.x g.cosine m h.0 c) (within_mul n 1 p.y g.sine m h.1 s),
        within_add (n + 1) (p.x ⊗ g.sine) (p.y ⊗ g.cosine) l (within_mul n 1 p.x g.sine m h.0 s) (within_mul n 1 p.y g.cosine m h.1 c),
      )

  -- the points that a section is sewn through, before they are turned back
  pub targets_inner : (es : List Entry) → All (λ e. Small e.piece) es → All Inner (each (row_points g stagger) es)
  targets_inner es h = all_parts (λ e. Small e.piece) Inner (row_points g stagger) row_inner es h

  section_finite : (es : List Entry) → All (λ e. Small e.piece) es → All (λ p. Within 82 p.x × Within 82 p.y) (sewn g stagger es)
  unfolding sewn
  section_finite es h =
      all_mapped Outer (λ p. Within 82 p.x × Within 82 p.y) (λ p. rotate p g.cosine g.sine) (back_within 80 (lit≤ tt))
      (sew g (each (row_points g stagger) es)) (sew_outer (each (row_points g stagger) es) (targets_inner es h))

  module _ (rule : FillRule) (bottomUp : Bool) where
    -- every section's pieces are small
    pub section_small : (s : ℕ) → All (λ e. Small e.piece) (section (row_list outline rule g bottomUp) s)
    unfolding section
    section_small s = all_sift (λ e. Small e.piece) (λ e. eqb e.section s) (row_list outline rule g bottomUp) (pieces_small outline g stagger ok rule bottomUp)

    -- every point that tatami sews is finite
    pub sewn_finite : All (All (λ p. Within 82 p.x × Within 82 p.y)) (tatami outline rule g stagger bottomUp)
    unfolding tatami sections
    sewn_finite =
        let es = row_list outline rule g bottomUp in
        all_mapped (All (λ e. Small e.piece)) (All (λ p. Within 82 p.x × Within 82 p.y)) (sewn g stagger) section_finite (map (section es) (upto 0 (begun es)))
        (all_mapped (λ s. (0 ≤ s) × (s < 0 + begun es)) (All (λ e. Small e.piece)) (section es) (λ s l. section_small s) (upto 0 (begun es)) (upto_all 0 (begun es)))

  -- ---- the link test

  third : (x : ℕ) → x < 4 → x ≤ 2 ^ 40
  third x h = omega arith

  -- the ends of a link, and the points on it that are tested
  module _ (o : Entry) (last : Small o.piece) (next : Piece) (small : Small next) where
    ends_inner : Inner (link_ends o next).0 × Inner (link_ends o next).1
    unfolding link_ends
    ends_inner = go (eqb (o.nth % 2) 0)
      where
        quarter : (a b : Float) → Within 23 a → Within 23 b → Within 24 ((b ⊖ a) ⊗ literal 1 4)
        quarter a b h k = within_mul 24 0 (b ⊖ a) (literal 1 4) (lit≤ tt) (within_sub 23 b a (lit≤ tt) k h) (within_literal 0 1 4 (lit≤ tt) (lit< tt) (lit≤ tt))

        eps : Float
        eps = smaller (smaller (literal 1 1) ((o.piece.xb ⊖ o.piece.xa) ⊗ literal 1 4)) ((next.xb ⊖ next.xa) ⊗ literal 1 4)

        eps_within : Within 24 eps
        eps_within =
            smaller_has (Within 24) (smaller (literal 1 1) ((o.piece.xb ⊖ o.piece.xa) ⊗ literal 1 4)) ((next.xb ⊖ next.xa) ⊗ literal 1 4)
            (smaller_has (Within 24) (literal 1 1) ((o.piece.xb ⊖ o.piece.xa) ⊗ literal 1 4) (within_literal 24 1 1 (lit≤ tt) (lit< tt) (lit≤ tt)) (quarter o.piece.xa o.piece.xb last.xa last.xb))
            (quarter next.xa next.xb small.xa small.xb)

        one : Within 0 (literal 1 1)
        one = within_literal 0 1 1 (lit≤ tt) (lit< tt) (lit≤ tt)

        moved : (x i : Float) → Within 23 x → Within 0 i → Within 38 (x ⊕ i ⊗ eps)
        moved x i h k = within_more 25 38 (x ⊕ i ⊗ eps) (lit≤ tt) (within_add 24 x (i ⊗ eps) (lit≤ tt) (within_more 23 24 x (lit≤ tt) h) (within_mul 0 24 i eps (lit≤ tt) k eps_within))

        go : (b : Bool) → Inner (point (cond b o.piece.xb o.piece.xa ⊕ cond b (neg (literal 1 1)) (literal 1 1) ⊗ eps) o.piece.y) × Inner (point (cond b next.xb next.xa ⊕ cond b (neg (literal 1 1)) (literal 1 1) ⊗ eps) next.y)
        go true = (
          (moved o.piece.xb (neg (literal 1 1)) last.xb (within_neg 0 (literal 1 1) one), within_more 33 38 o.piece.y (lit≤ tt) last.y),
          (moved next.xb (neg (literal 1 1)) small.xb (within_neg 0 (literal 1 1) one), within_more 33 38 next.y (lit≤ tt) small.y),
        )
        go false = (
          (moved o.piece.xa (literal 1 1) last.xa one, within_more 33 38 o.piece.y (lit≤ tt) last.y),
          (moved next.xa (literal 1 1) small.xa one, within_more 33 38 next.y (lit≤ tt) small.y),
        )

    pub link_finite : (k : ℕ) → k < 4 → let q = rotate (along (link_ends o next).0 (link_ends o next).1 4 k) g.cosine g.sine in Within 82 q.x × Within 82 q.y
    link_finite k h = back_within 80 (lit≤ tt) (along (link_ends o next).0 (link_ends o next).1 4 k) (along_outer (link_ends o next).0 (link_ends o next).1 4 k ends_inner.0 ends_inner.1 (lit< tt) (lit≤ tt) (third k h))
