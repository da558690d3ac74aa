-- What is proved of the top: its count, and what is turned round where it was put. Assumes nothing.
use Rattle.std.specs.Prelude.{ℕ, ◌+◌, ◌-◌, ◌%◌, ◌≤◌, ◌≡◌, refl, Bool, true, false, List, ◌++◌, reverse, length, take, drop, Float}
use Rattle.std.proofs.Common.{arith, sym, ap, ◌∙◌, append_assoc, length-take-le, take_at, drop_at, drop-drop}
use Rattle.std.proofs.lemmas.List.{length-reverse}
use Rattle.seqs.specs.Slices.{put}
use Rattle.seqs.specs.Put.{put_length}
use Rattle.seqs.specs.Wrote.{head_length}
use Rattle.geom.specs.declared.point.P.{P}
use Rattle.geom.specs.Outline.{points}
use Rattle.geom.specs.Sewing.{flat}
use Rattle.geom.specs.SewingLaws.{flat_length, points_flat}
use Rattle.satinrules.specs.declared.Satin.{Satin}
use Rattle.satinrules.specs.Pairs.{Rails, pairs}
use Rattle.satinrules.specs.Column.{spacing_of, stitches, styled, top}
use Rattle.pairing.specs.StoreLaws.{put_back}
use Rattle.column.specs.Topping.{top_of}
use Rattle.passes.specs.ThreadsLaws.{turned_length}

pub top_is : (far : Bool) (r : Rails) (g : Satin) → top far r g ≡ top_of far g (stitches g (pairs r (spacing_of g)))
unfolding top top_of
top_is far r g = refl

module _ (far : Bool) (g : Satin) (ps : List P) where
  pub top_length : length (top_of far g ps) ≡ length (styled g.split g.style ps)
  unfolding top_of
  top_length = turned_length (styled g.split g.style ps) far

  pub top_on : far ≡ true → top_of far g ps ≡ reverse (styled g.split g.style ps)
  unfolding top_of
  top_on e = rw e

  pub top_off : far ≡ false → top_of far g ps ≡ styled g.split g.style ps
  unfolding top_of
  top_off e = rw e

-- ---- points that were put from k on, and that are lent and turned round

module _ (d d₁ : List Float) (m : List P) (k to : ℕ) (fits : k + length (flat m) ≤ length d) (e : d₁ ≡ put d k (flat m)) (at : to ≡ k + length (flat m)) where
  pub lent_end : to ≤ length d₁
  lent_end = omega (arith, fits, ap length e ∙ put_length d (flat m) k fits)

  size : to - k ≡ length (flat m)
  size = omega (arith, at)

  -- the part as it is lent
  lent : take (to - k) (drop k d₁) ≡ flat m
  lent = rw (size, e) (put_back d (flat m) k (omega (arith, fits)))

  pub lent_even : length (take (to - k) (drop k d₁)) % 2 ≡ 0
  lent_even = rw lent (omega (arith, flat_length m))

  -- and the whole slice, once it is given back as y
  pub turned_put : (y : List Float) → y ≡ flat (reverse (points (take (to - k) (drop k d₁)))) → take k d₁ ++ (y ++ drop (to - k) (drop k d₁)) ≡ put d k (flat (reverse m))
  turned_put y f =
      let head = take k d in
      let rest = drop (length (head ++ flat m)) d in
      let n : length (head ++ flat m) ≡ k + length (flat m) = head_length d (flat m) k (omega (arith, fits)) in
      let t : take k d₁ ≡ head = ap (take k) (e ∙ append_assoc head (flat m) rest) ∙ take_at head (flat m ++ rest) k (length-take-le k d (omega (arith, fits))) in
      let b : drop (to - k) (drop k d₁) ≡ rest = rw size (drop-drop (length (flat m)) k d₁ ∙ ap (drop (k + length (flat m))) e ∙ drop_at (head ++ flat m) rest (k + length (flat m)) n) in
      let s : length (head ++ flat (reverse m)) ≡ length (head ++ flat m) = omega (arith, n, head_length d (flat (reverse m)) k (omega (arith, fits)), flat_length m, flat_length (reverse m), length-reverse m) in
      let g : y ≡ flat (reverse m) = f ∙ ap (λ (l : List Float). flat (reverse (points l))) lent ∙ ap (λ (l : List P). flat (reverse l)) (points_flat m) in
      rw (t, b, g, s) (sym (append_assoc head (flat (reverse m)) rest))
