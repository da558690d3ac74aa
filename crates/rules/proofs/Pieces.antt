-- Sizes of an accepted fill's crossings and pieces. Assumes nothing.
use Rattle.std.specs.Prelude.{◌≡◌, not, ◌&&◌, cond, T, ℤ, pos, negsuc, ◌+ℤ◌, Float}
use Rattle.std.proofs.Math.Bool.{Bool, true, false}
use mathlib.Core.List.Permᴰ
use mathlib.Core.List.{List, [], ◌∷◌, map}
use Prim.Native.Nat.{ℕ, ◌<◌, zero-le}
use Rattle.std.proofs.Common.{arith, lit≤}
use Rattle.std.proofs.Math.ListN.{length}
use Rattle.std.specs.Float.Ieee.{le, lt}
use Rattle.numbers.specs.Num.{◌⊕◌, ◌⊖◌, ◌⊗◌, zero64, real}
use Rattle.numbers.specs.Value.{Within}
use Rattle.numbers.specs.Laws.{le_refl, lt_le, sub_mono, sub_up, within_finite, within_more, within_between, within_add, within_sub, within_real, holds}
use Rattle.seqs.specs.Lists.{keep_if, sift, upto, All}
use Rattle.seqs.specs.Tests.{and_both}
use Rattle.seqs.specs.All.{all_map, all_at, all_sift, all_perm}
use Rattle.seqs.specs.Sift.{sift_pass}
use Rattle.seqs.specs.Sort.{sort_perm}
use Rattle.seqs.specs.Upto.{upto_all}
use Rattle.geom.specs.declared.point.P.{P}
use Rattle.outlines.specs.declared.rule.FillRule.{FillRule}
use Rattle.outlines.specs.Inside.{inside}
use Rattle.rules.specs.declared.Settings.{Settings}
use Rattle.rules.specs.declared.Edge.{Edge}
use Rattle.rules.specs.declared.Piece.{Piece}
use Rattle.rules.specs.Fill.{edges, row_numbers, row_at, no_edge, edge, starts, lives, cross_x, by_x, crossed, crossing, merged, crossings, spans, shrink, piece_of, wide, pieces_at, pieces_of, met, row_list}
use Rattle.rules.specs.Accepted.{Checked, Range}
use Rattle.rules.specs.Alls.{all_both, all_mapped, all_unmapped, all_parts, all_reverse}
use Rattle.rules.specs.Edges.{Good, within_number, edges_good}
use Rattle.rules.specs.Rows.{Fair, row_within, rows_fair}
use Rattle.rules.proofs.Merged.{merged_all}
use Rattle.rules.proofs.FillSections.{pieces_of_rows}

-- where an edge crosses a row, and nowhere else: between its ends, but for rounding
crossing_within : (e : Edge) → Good e → (y : Float) → Within 33 y → T (le e.y0 y) → T (lt y e.y1) → Within 22 (e.x0 ⊕ (y ⊖ e.y0) ⊗ e.dxdy)
crossing_within e good y w h l =
    let fy = within_finite 33 y w in
    let f0 = within_finite 19 e.y0 good.y0 in
    let f1 = within_finite 19 e.y1 good.y1 in
    let ft = within_finite 34 (y ⊖ e.y0) (within_sub 33 y e.y0 (lit≤ tt) w (within_more 19 33 e.y0 (lit≤ tt) good.y0)) in
    within_add 21 e.x0 ((y ⊖ e.y0) ⊗ e.dxdy) (lit≤ tt) (within_more 19 21 e.x0 (lit≤ tt) good.x0)
    (good.part (y ⊖ e.y0) ft (sub_up y e.y0 fy f0 h) (sub_mono y e.y1 e.y0 e.y0 fy f1 f0 f0 (lt_le y e.y1 l) (le_refl e.y0 (within_number 19 e.y0 good.y0))))

-- spans start and end at crossings
spans_within : (n : ℕ) (rule : FillRule) (w : ℤ) (start : Float) (cs : List (Float × ℤ)) → Within n start → All (λ c. Within n c.0) cs → All (λ ab. Within n ab.0 × Within n ab.1) (spans rule w start cs)
unfolding spans
spans_within n rule w start [] h k = tt
spans_within n rule w start (c ∷ cs) h k =
    keep (inside rule w && not (inside rule (w +ℤ c.1))) (spans rule (w +ℤ c.1) (cond (not (inside rule w) && inside rule (w +ℤ c.1)) c.0 start) cs)
    (spans_within n rule (w +ℤ c.1) (cond (not (inside rule w) && inside rule (w +ℤ c.1)) c.0 start) cs (pick (not (inside rule w) && inside rule (w +ℤ c.1))) k.1)
  where
    pick : (b : Bool) → Within n (cond b c.0 start)
    pick true = k.0
    pick false = h

    keep : (b : Bool) (l : List (Float × Float)) → All (λ ab. Within n ab.0 × Within n ab.1) l → All (λ ab. Within n ab.0 × Within n ab.1) (keep_if b (start, c.0) l)
    keep true l ih = ((h, k.0), ih)
    keep false l ih = ih

-- a piece's numbers
pub record Small (p : Piece) : Type 0 where
  pub k : Fair p.k
  pub y : Within 33 p.y
  pub xa : Within 23 p.xa
  pub xb : Within 23 p.xb

module _ (outline : List (List P)) (g : Settings) (cyc : ℕ) (ok : Checked outline g cyc) where
  pub crosses_within : (k : ℤ) → Fair k → All (λ i. Within 22 (cross_x (edges g outline) (row_at g k) i)) (crossed (edges g outline) (row_at g k))
  unfolding crossed cross_x starts lives
  crosses_within k h =
      let es = edges g outline in
      let y = row_at g k in
      let test : ℕ → Bool = λ i. le (edge es i).y0 y && lt y (edge es i).y1 in
      let places = upto 0 (length es) in
      all_perm (λ i. Within 22 (cross_x es y i)) (Permᴰ.symm (sort_perm (by_x es y) (sift test places)))
      (all_map (λ i w. let b = and_both (le (edge es i).y0 y) (lt y (edge es i).y1) w.1 in crossing_within (edge es i) (all_at Good es i no_edge w.0 (edges_good outline g cyc ok)) y (row_within outline g cyc ok k h) (holds b.0) (holds b.1))
      (sift test places) (all_both (λ i. i < length es) (λ i. test i ≡ true) (sift test places) (all_sift (λ i. i < length es) test places (all_map (λ i w. omega arith) places (upto_all 0 (length es)))) (sift_pass test places)))

  hundred : (x : Float) → Range (real (negsuc 99)) (real (pos 100)) x → Within 7 x
  hundred x r = within_between 7 (real (negsuc 99)) x (real (pos 100)) r.least r.most (within_real 7 (negsuc 99) (lit≤ tt) (lit≤ tt)) (within_real 7 (pos 100) (lit≤ tt) (lit≤ tt))

  pub shrink_within : Within 22 (shrink g)
  unfolding shrink
  shrink_within = within_more 8 22 (g.inset ⊖ g.pull) (lit≤ tt) (within_sub 7 g.inset g.pull (lit≤ tt) (hundred g.inset ok.inset) (hundred g.pull ok.pull))

  zero_within : Within 22 zero64
  unfolding Within
  zero_within = zero-le

  pub spans_small : (rule : FillRule) (k : ℤ) → Fair k → All (λ ab. Within 22 ab.0 × Within 22 ab.1) (spans rule (pos 0) zero64 (crossings (edges g outline) (row_at g k) (crossed (edges g outline) (row_at g k))))
  unfolding crossings crossing
  spans_small rule k h =
      let es = edges g outline in
      let y = row_at g k in
      let cs = map (crossing es y) (crossed es y) in
      spans_within 22 rule (pos 0) zero64 (merged cs) zero_within (merged_all (Within 22) cs (all_mapped (λ i. Within 22 (cross_x es y i)) (λ c. Within 22 c.0) (crossing es y) (λ i w. w) (crossed es y) (crosses_within k h)))

  pub row_small : (rule : FillRule) (k : ℤ) → Fair k → All Small (pieces_of rule g (edges g outline) k)
  unfolding pieces_of pieces_at piece_of
  row_small rule k h =
      let es = edges g outline in
      let y = row_at g k in
      let ab = spans rule (pos 0) zero64 (crossings es y (crossed es y)) in
      all_sift Small (wide g) (map (piece_of g k) ab)
      (all_mapped (λ ab. Within 22 ab.0 × Within 22 ab.1) Small (piece_of g k)
      (λ ab w. record {
        k = h;
        y = row_within outline g cyc ok k h;
        xa = within_add 22 ab.0 (shrink g) (lit≤ tt) w.0 shrink_within;
        xb = within_sub 22 ab.1 (shrink g) (lit≤ tt) w.1 shrink_within;
      })
      ab (spans_small rule k h))

  pub met_fair : (b : Bool) → All Fair (met b (row_numbers g (edges g outline)))
  unfolding met
  met_fair true = all_reverse Fair (row_numbers g (edges g outline)) (rows_fair outline g cyc ok)
  met_fair false = rows_fair outline g cyc ok

  -- every piece of the row list
  pub pieces_small : (rule : FillRule) (bottomUp : Bool) → All (λ e. Small e.piece) (row_list outline rule g bottomUp)
  pieces_small rule bottomUp =
      all_unmapped (λ e. Small e.piece) Small (λ e. e.piece) (λ e w. w) (row_list outline rule g bottomUp)
      (rw (pieces_of_rows outline rule g bottomUp) (all_parts Fair Small (pieces_of rule g (edges g outline)) (row_small rule) (met bottomUp (row_numbers g (edges g outline))) (met_fair bottomUp)))
