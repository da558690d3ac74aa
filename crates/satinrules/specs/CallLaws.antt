-- What is proved of the calls' answers once the checks in front are through, and of rails of too few corners. Assumes nothing.
use Rattle.std.specs.Prelude.{ℕ, ◌≤◌, ◌<◌, ◌≡◌, refl, Bool, true, not, leb, Option, None, Some, Float}
use Rattle.std.proofs.Common.{arith, ◌∙◌, inl, inr}
use Rattle.std.proofs.Math.Path.{ap}
use Rattle.std.proofs.Math.Bool.{false}
use mathlib.Core.List.{List, [], ◌++◌, map}
use borrow.Author.Tests.{le-leb, lt-leb, leb-true, leb-false}
use Rattle.refusal.specs.Refusal.{SIZE, WORK}
use Rattle.seqs.specs.Tests.{either}
use Rattle.geom.specs.declared.point.P.{P}
use Rattle.geom.specs.Sewing.{fitted}
use Rattle.satinrules.specs.declared.Pair.{Pair}
use Rattle.satinrules.specs.declared.Satin.{Satin}
use Rattle.satinrules.specs.declared.Style.{Style}
use Rattle.satinrules.specs.declared.Style.TheVariants.{Plain, SStitch, Zigzag}
use Rattle.satinrules.specs.Settings.{zigzag_underlay_spacing}
use Rattle.satinrules.specs.Pairs.{Rails, few, pairs}
use Rattle.satinrules.specs.Column.{turned_if, only_if, bit, middle, inset, alternate, after_centre, after_zigzag, centre_pass, contour_pass, zigzag_pass, underlay, far_end, spacing_of, stitches, sides, split_long, s_stitch, split_by, styled, top, column}
use Rattle.satinrules.specs.Calls.{sized, most, most_of, need, passed}

-- ---- the most of two

module _ (m n : ℕ) where
  pub most_left : m ≤ most m n
  most_left = elim (either (leb m n)) [ inl e ↦ rw e (leb-true m n e) | inr e ↦ rw e (omega arith) ]

  pub most_right : n ≤ most m n
  most_right = elim (either (leb m n)) [ inl e ↦ rw e (omega arith) | inr e ↦ rw e (omega (arith, leb-false m n e)) ]

  pub most_bound : (k : ℕ) → m ≤ k → n ≤ k → most m n ≤ k
  most_bound k h g = elim (either (leb m n)) [ inl e ↦ rw e g | inr e ↦ rw e h ]

-- ---- which answer it is

module _ (r : Rails) (ss : List Float) (ps : List P) (work room : ℕ) (some : few r ≡ false) where
  pub answer_size : sized r ss ≡ false → passed r ss ps work room ≡ SIZE
  unfolding passed
  answer_size h = rw (some, h)

  module _ (ok : sized r ss ≡ true) where
    pub answer_work : work < need r (most_of r ss) → passed r ss ps work room ≡ WORK
    unfolding passed
    answer_work h = rw (some, ok, lt-leb (need r (most_of r ss)) work h)

    module _ (works : need r (most_of r ss) ≤ work) where
      -- all that is left to ask is the room
      pub answer_fitted : passed r ss ps work room ≡ fitted ps room
      unfolding passed
      answer_fitted = rw (some, ok, le-leb (need r (most_of r ss)) work works)

-- ---- where the thread ends

module _ (r : Rails) (g : Satin) where
  pub far_is : few r ≡ false → far_end r g ≡ after_zigzag g
  unfolding far_end
  far_is e = rw e

  pub far_none : few r ≡ true → far_end r g ≡ false
  unfolding far_end
  far_none e = rw e

-- ---- rails of too few corners give nothing

turned_none : (b : Bool) → turned_if {A = P} b [] ≡ []
turned_none true = refl
turned_none false = refl

only_none : (b : Bool) → only_if {A = P} b [] ≡ []
only_none true = refl
only_none false = refl

styled_none : (s : Option Float) (t : Style) → styled s t [] ≡ []
unfolding styled split_by split_long s_stitch sides
styled_none None Plain = refl
styled_none (Some max) Plain = refl
styled_none None SStitch = refl
styled_none (Some max) SStitch = refl
styled_none None Zigzag = refl
styled_none (Some max) Zigzag = refl

module _ (r : Rails) (g : Satin) (e : few r ≡ true) where
  no_pairs : (s : Float) → pairs r s ≡ []
  unfolding pairs
  no_pairs s = rw e

  no_centre : (end : Bool) → centre_pass r g end ≡ []
  unfolding centre_pass
  no_centre end = ap (λ (l : List Pair). turned_if end (map middle l)) (no_pairs g.run_len) ∙ turned_none end

  no_contour : (end : Bool) → contour_pass r g end ≡ []
  unfolding contour_pass
  no_contour end =
      ap (λ (l : List Pair). turned_if end (map (λ q. q.a) (map inset l)) ++ turned_if (not end) (map (λ q. q.b) (map inset l))) (no_pairs g.run_len)
      ∙ rw (turned_none end, turned_none (not end))

  no_zigzag : (end : Bool) → zigzag_pass r end ≡ []
  unfolding zigzag_pass alternate
  no_zigzag end = ap (λ (l : List Pair). turned_if end (alternate false (map inset l))) (no_pairs zigzag_underlay_spacing) ∙ turned_none end

  pub no_underlay : underlay r g ≡ []
  unfolding underlay
  no_underlay = rw (no_centre false, no_contour (after_centre g), no_zigzag (after_centre g), only_none (bit g 1), only_none (bit g 2), only_none (bit g 4))

  pub no_top : (far : Bool) → top far r g ≡ []
  unfolding top stitches
  no_top far =
      ap (λ (l : List Pair). turned_if far (styled g.split g.style (stitches g l))) (no_pairs (spacing_of g))
      ∙ ap (turned_if far) (styled_none g.split g.style) ∙ turned_none far

  pub no_column : column r g ≡ []
  unfolding column
  no_column = rw (no_underlay, no_top (far_end r g))
