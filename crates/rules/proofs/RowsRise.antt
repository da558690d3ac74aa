-- No step is quadratic in pieces: the rows of an accepted fill rise. Spans go to the right where crossings do, and so do the pieces
-- that are made of them. Assumes nothing.
use Rattle.std.specs.Prelude.{◌≡◌, Bool, ◌&&◌, cond, ℕ, ℤ, pos, ◌+ℤ◌, Float}
use Rattle.std.proofs.Math.Path.{refl}
use Rattle.std.proofs.Math.Bool.{true, false, not}
use mathlib.Core.List.{List, [], ◌∷◌, map}
use Rattle.std.proofs.Math.Dec.{T}
use Rattle.std.specs.Float.Ieee.{le}
use Rattle.numbers.specs.Num.{zero64}
use Rattle.numbers.specs.Value.{Within}
use Rattle.numbers.specs.Laws.{le_refl, add_mono, sub_mono, within_finite}
use Rattle.seqs.specs.Lists.{keep_if, All, Sorted}
use Rattle.seqs.specs.All.{sorted_sift}
use Rattle.seqs.specs.Tests.{clash}
use Rattle.geom.specs.declared.point.P.{P}
use Rattle.outlines.specs.declared.rule.FillRule.{FillRule}
use Rattle.outlines.specs.declared.rule.FillRule.TheVariants.{NonZero, EvenOdd}
use Rattle.outlines.specs.Inside.{inside}
use Rattle.rules.specs.declared.Settings.{Settings}
use Rattle.rules.specs.Fill.{edges, row_at, cross_x, crossed, crossing, merged, crossings, spans, shrink, piece_of, wide, pieces_at, pieces_of}
use Rattle.rules.proofs.Merged.{merged_sorted}
use Rattle.rules.specs.Rise.{Onward, Rise}
use Rattle.rules.specs.Accepted.{Checked}
use Rattle.rules.specs.Alls.{sorted_both, sorted_mapped}
use Rattle.rules.specs.Edges.{within_number}
use Rattle.rules.specs.Rows.{Fair, crossings_in_order}
use Rattle.rules.proofs.Pieces.{shrink_within, spans_small}

-- a span that neither starts nor ends before another
abbrev Later : Float × Float → Float × Float → Type 0
Later ab cd = T (le ab.0 cd.0) × T (le ab.1 cd.1)

abbrev Small : Float × Float → Type 0
Small ab = Within 22 ab.0 × Within 22 ab.1

-- a crossing that is not before another
abbrev Right : Float × ℤ → Float × ℤ → Type 0
Right c d = T (le c.0 d.0)

-- what no crossing has entered is outside
pub outside : (rule : FillRule) → inside rule (pos 0) ≡ false
unfolding inside
outside NonZero = refl
outside EvenOdd = refl

module _ (rule : FillRule) where
  -- spans start from a on and end from b on, where the crossings that are left do, and the start of a span that is begun
  spans_later : (a b : Float) (w : ℤ) (start : Float) (cs : List (Float × ℤ)) → (inside rule w ≡ true → T (le a start)) → All (λ c. T (le a c.0)) cs → All (λ c. T (le b c.0)) cs → All (Later (a, b)) (spans rule w start cs)
  unfolding spans
  spans_later a b w start [] h k m = tt
  spans_later a b w start (c ∷ cs) h k m = go (inside rule w) (inside rule (w +ℤ c.1)) refl refl (λ s t. spans_later a b (w +ℤ c.1) s cs t k.1 m.1)
    where
      go : (was now : Bool) → inside rule w ≡ was → inside rule (w +ℤ c.1) ≡ now
          → ((s : Float) → (inside rule (w +ℤ c.1) ≡ true → T (le a s)) → All (Later (a, b)) (spans rule (w +ℤ c.1) s cs))
          → All (Later (a, b)) (keep_if (was && not now) (start, c.0) (spans rule (w +ℤ c.1) (cond (not was && now) c.0 start) cs))
      go true true e f next = next start (λ t. h e)
      go true false e f next = ((h e, m.0), next start (λ t. clash t f))
      go false true e f next = next c.0 (λ t. k.0)
      go false false e f next = next start (λ t. clash t f)

  spans_sorted : (w : ℤ) (start : Float) (cs : List (Float × ℤ)) → (inside rule w ≡ true → All (λ c. T (le start c.0)) cs) → Sorted Right cs → Sorted Later (spans rule w start cs)
  unfolding spans
  spans_sorted w start [] h k = tt
  spans_sorted w start (c ∷ cs) h k = go (inside rule w) (inside rule (w +ℤ c.1)) refl refl (λ s t. spans_sorted (w +ℤ c.1) s cs t k.1)
    where
      go : (was now : Bool) → inside rule w ≡ was → inside rule (w +ℤ c.1) ≡ now
          → ((s : Float) → (inside rule (w +ℤ c.1) ≡ true → All (λ d. T (le s d.0)) cs) → Sorted Later (spans rule (w +ℤ c.1) s cs))
          → Sorted Later (keep_if (was && not now) (start, c.0) (spans rule (w +ℤ c.1) (cond (not was && now) c.0 start) cs))
      go true true e f next = next start (λ t. (h e).1)
      go true false e f next = (spans_later start c.0 (w +ℤ c.1) start cs (λ t. clash t f) (h e).1 k.0, next start (λ t. clash t f))
      go false true e f next = next c.0 (λ t. k.0)
      go false false e f next = next start (λ t. clash t f)

module _ (outline : List (List P)) (g : Settings) (cyc : ℕ) (ok : Checked outline g cyc) where
  -- the same is added to every start and taken from every end, and rounding keeps the order
  piece_onward : (k : ℤ) (ab cd : Float × Float) → Small ab × Small cd × Later ab cd → Onward (piece_of g k ab) (piece_of g k cd)
  unfolding piece_of
  piece_onward k ab cd h =
      let w = shrink_within outline g cyc ok in
      let f = within_finite 22 (shrink g) w in
      let same = le_refl (shrink g) (within_number 22 (shrink g) w) in (
        add_mono ab.0 cd.0 (shrink g) (shrink g) (within_finite 22 ab.0 h.0.0) (within_finite 22 cd.0 h.1.0) f f h.2.0 same,
        sub_mono ab.1 cd.1 (shrink g) (shrink g) (within_finite 22 ab.1 h.0.1) (within_finite 22 cd.1 h.1.1) f f h.2.1 same,
      )

  pub row_rises : (rule : FillRule) (k : ℤ) → Fair k → Rise (pieces_of rule g (edges g outline) k)
  unfolding pieces_of pieces_at crossings crossing
  row_rises rule k h =
      let es = edges g outline in
      let y = row_at g k in
      let cs = map (crossing es y) (crossed es y) in
      let ab = spans rule (pos 0) zero64 (merged cs) in
      let right = sorted_mapped (λ i j. T (le (cross_x es y i) (cross_x es y j))) Right (crossing es y) (λ i j r. r) (crossed es y) (crossings_in_order outline g cyc ok k h) in
      let later = spans_sorted rule (pos 0) zero64 (merged cs) (λ e. clash e (outside rule)) (merged_sorted (λ x z. T (le x z)) cs right) in
      sorted_sift Onward (wide g) (map (piece_of g k) ab)
      (sorted_mapped (λ ab cd. Small ab × Small cd × Later ab cd) Onward (piece_of g k) (piece_onward k) ab (sorted_both Small Later ab (spans_small outline g cyc ok rule k h) later))
