-- What is proved of the passes that are sewn: SIZE and N by them, that each fits, and which answer it is. Assumes nothing.
use Rattle.std.specs.Prelude.{ℕ, ◌*◌, ◌≤◌, ◌≡◌, Bool, ◌&&◌, cond, length, Float}
use Rattle.std.proofs.Common.{arith, sym, ◌∙◌, inl, inr}
use Rattle.std.proofs.Math.Path.{refl, ap}
use Rattle.std.proofs.Math.Bool.{true, false}
use mathlib.Core.List.{List, [], ◌∷◌, ◌++◌}
use Rattle.std.proofs.Math.Dec.{leb}
use borrow.Author.Tests.{le-leb, leb-true}
use Rattle.seqs.specs.Each.{fold_append}
use Rattle.seqs.specs.Tests.{and_both, either, clash}
use Rattle.geom.specs.declared.point.P.{P}
use Rattle.geom.specs.Outline.{points}
use Rattle.limits.specs.Limits.{most_pairs}
use Rattle.satinrules.specs.declared.Satin.{Satin}
use Rattle.satinrules.specs.Settings.{zigzag_underlay_spacing}
use Rattle.satinrules.specs.Pairs.{Rails, ends_of, few, count_of, pairs}
use Rattle.satinrules.specs.Column.{only_if, bit, spacing_of}
use Rattle.satinrules.specs.Calls.{rails_of, underlay_steps, top_steps, pass_steps, sized, most, most_of}
use Rattle.satinrules.specs.CallLaws.{most_left, most_right, most_bound}
use Rattle.pairing.specs.declared.places.Pass.{Pass}
use Rattle.pairing.specs.Walk.{pass_of, walk_places}
use Rattle.pairing.specs.WalkLaws.{places_bound}
use Rattle.column.specs.declared.sized.Passes.{Passes}
use Rattle.satin.specs.declared.underlay.Under.{Under}
use Rattle.satin.specs.Underlay.{Fit, runs}
use Rattle.satin.specs.UnderlayLaws.{fit_count}
use Rattle.column.specs.Sized.{sized_at, places_if, under_of, passes_of, most_under, most_in}

-- ---- the most of two, where one is none

most_none : (n : ℕ) → most n 0 ≡ n
most_none n = elim (either (leb n 0)) [ inl e ↦ rw e (omega (arith, leb-true n 0 e)) | inr e ↦ rw e ]

none_most : (n : ℕ) → most 0 n ≡ n
none_most n = rw (le-leb 0 n (omega arith))

-- ---- each pass by itself

and_after : (x y z : Bool) → (x && (y && z)) ≡ ((x && y) && z)
and_after true y z = refl
and_after false y z = refl

module _ (ends : P) (sync : List P) where
  sized_append : (ss ts : List Float) → sized_at ends sync (ss ++ ts) ≡ (sized_at ends sync ss && sized_at ends sync ts)
  unfolding sized_at
  sized_append [] ts = refl
  sized_append (s ∷ ss) ts =
      ap (λ (x : Bool). leb (count_of ends sync s) most_pairs && x) (sized_append ss ts)
      ∙ and_after (leb (count_of ends sync s) most_pairs) (sized_at ends sync ss) (sized_at ends sync ts)

  pub sized_underlay : (g : Satin) → sized_at ends sync (underlay_steps g) ≡ (sized_at ends sync (only_if (runs g) (g.run_len ∷ [])) && sized_at ends sync (only_if (bit g 4) (zigzag_underlay_spacing ∷ [])))
  unfolding underlay_steps
  sized_underlay g = sized_append (only_if (runs g) (g.run_len ∷ [])) (only_if (bit g 4) (zigzag_underlay_spacing ∷ []))

  pub sized_halves : (g : Satin) → sized_at ends sync (pass_steps g) ≡ (sized_at ends sync (underlay_steps g) && sized_at ends sync (top_steps g))
  unfolding pass_steps
  sized_halves g = sized_append (underlay_steps g) (top_steps g)

  pub sized_one : (s : Float) → sized_at ends sync (s ∷ []) ≡ leb (pass_of ends sync s).n most_pairs
  unfolding sized_at pass_of
  sized_one s = and_none (leb (count_of ends sync s) most_pairs)
    where
      and_none : (x : Bool) → (x && true) ≡ x
      and_none true = refl
      and_none false = refl

  only_sized : (sewn : Bool) (s : Float) → sized_at ends sync (only_if sewn (s ∷ [])) ≡ true → sewn ≡ true → (pass_of ends sync s).n ≤ most_pairs
  only_sized true s e h = leb-true (pass_of ends sync s).n most_pairs (sym (sized_one s) ∙ e)
  only_sized false s e h = clash h refl

  places_small : (sewn : Bool) (w : Pass) → (sewn ≡ true → w.n ≤ most_pairs) → places_if sewn ends sync w ≤ 65537
  places_small true w h = omega (arith, places_bound ends sync w, h refl)
  places_small false w h = omega arith

  -- each that is sewn is small enough, so N is small too
  module _ (g : Satin) where
    module _ (ok : sized_at ends sync (underlay_steps g) ≡ true) where
      both : (sized_at ends sync (only_if (runs g) (g.run_len ∷ [])) ≡ true) × (sized_at ends sync (only_if (bit g 4) (zigzag_underlay_spacing ∷ [])) ≡ true)
      both = and_both (sized_at ends sync (only_if (runs g) (g.run_len ∷ []))) _ (sym (sized_underlay g) ∙ ok)

      pub run_sized : runs g ≡ true → (pass_of ends sync g.run_len).n ≤ most_pairs
      run_sized h = only_sized (runs g) g.run_len both.0 h

      pub zigzag_sized : bit g 4 ≡ true → (pass_of ends sync zigzag_underlay_spacing).n ≤ most_pairs
      zigzag_sized h = only_sized (bit g 4) zigzag_underlay_spacing both.1 h

      pub underlay_small : most_under (under_of ends sync g) ≤ 65537
      unfolding under_of
      underlay_small =
          let run = pass_of ends sync g.run_len in
          let zigzag = pass_of ends sync zigzag_underlay_spacing in
          most_bound (places_if (runs g) ends sync run) (places_if (bit g 4) ends sync zigzag) 65537 (places_small (runs g) run run_sized) (places_small (bit g 4) zigzag zigzag_sized)

    module _ (ok : sized_at ends sync (top_steps g) ≡ true) where
      pub top_sized : (pass_of ends sync (spacing_of g)).n ≤ most_pairs
      unfolding top_steps
      top_sized = leb-true (pass_of ends sync (spacing_of g)).n most_pairs (sym (sized_one (spacing_of g)) ∙ ok)

      pub top_small : length (walk_places ends sync (pass_of ends sync (spacing_of g))) ≤ 65537
      top_small = omega (arith, places_bound ends sync (pass_of ends sync (spacing_of g)), top_sized)

    module _ (ok : sized_at ends sync (pass_steps g) ≡ true) where
      pub halves_sized : (sized_at ends sync (underlay_steps g) ≡ true) × (sized_at ends sync (top_steps g) ≡ true)
      halves_sized = and_both (sized_at ends sync (underlay_steps g)) _ (sym (sized_halves g) ∙ ok)

      pub most_small : most_in (passes_of ends sync g) ≤ 65537
      unfolding passes_of
      most_small = most_bound (most_under (under_of ends sync g)) (length (walk_places ends sync (pass_of ends sync (spacing_of g)))) 65537 (underlay_small halves_sized.0) (top_small halves_sized.1)

-- ---- the passes on rails that were accepted

-- N by the passes, whatever their pairs are
pub most_one : (r : Rails) (t : Float) → most_of r (t ∷ []) ≡ length (pairs r t)
unfolding most_of
most_one r t = none_most (length (pairs r t))

most_two : (r : Rails) (x y : Bool) (s z : Float) → most_of r (only_if x (s ∷ []) ++ only_if y (z ∷ [])) ≡ most (cond x (length (pairs r s)) 0) (cond y (length (pairs r z)) 0)
unfolding most_of
most_two r true true s z = rw (none_most (length (pairs r s)))
most_two r true false s z = rw (none_most (length (pairs r s)), most_none (length (pairs r s)))
most_two r false true s z = refl
most_two r false false s z = refl

most_after : (r : Rails) (ss : List Float) (t : Float) → most_of r (ss ++ (t ∷ [])) ≡ most (most_of r ss) (length (pairs r t))
unfolding most_of
most_after r ss t = fold_append (λ s n. most n (length (pairs r s))) 0 ss (t ∷ [])

pub most_halves : (r : Rails) (g : Satin) → most_of r (pass_steps g) ≡ most (most_of r (underlay_steps g)) (most_of r (top_steps g))
unfolding pass_steps top_steps
most_halves r g = most_after r (underlay_steps g) (spacing_of g) ∙ ap (most (most_of r (underlay_steps g))) (sym (most_one r (spacing_of g)))

module _ (a b sync : List Float) (g : Satin) {ends : P} (e : ends ≡ ends_of (rails_of a b [])) where
  pub sized_is : (ss : List Float) → sized_at ends (points sync) ss ≡ sized (rails_of a b sync) ss
  unfolding sized_at sized ends_of rails_of
  sized_is ss = rw e

  module _ (some : few (rails_of a b sync) ≡ false) where
    fitted_pass : (step : Float) → (pass_of ends (points sync) step).n ≤ most_pairs → Fit a b sync step ends (pass_of ends (points sync) step) (length (walk_places ends (points sync) (pass_of ends (points sync) step)))
    fitted_pass step h = record { some = some; end = e; asked = refl; small = h; count = refl }

    only_count : (sewn : Bool) (step : Float) → (sewn ≡ true → (pass_of ends (points sync) step).n ≤ most_pairs) → cond sewn (length (pairs (rails_of a b sync) step)) 0 ≡ places_if sewn ends (points sync) (pass_of ends (points sync) step)
    only_count true step h = fit_count (fitted_pass step (h refl))
    only_count false step h = refl

    module _ {u : Under} (f : u ≡ under_of ends (points sync) g) (ok : sized_at ends (points sync) (underlay_steps g) ≡ true) where
      pub run_fit : runs g ≡ true → Fit a b sync g.run_len ends u.run u.n
      unfolding under_of
      run_fit h = rw (f, h) (fitted_pass g.run_len (run_sized ends (points sync) g ok h))

      pub zigzag_fit : bit g 4 ≡ true → Fit a b sync zigzag_underlay_spacing ends u.zigzag u.m
      unfolding under_of
      zigzag_fit h = rw (f, h) (fitted_pass zigzag_underlay_spacing (zigzag_sized ends (points sync) g ok h))

      pub underlay_most : most_of (rails_of a b sync) (underlay_steps g) ≡ most_under u
      unfolding underlay_steps under_of
      underlay_most = rw (f, ← only_count (runs g) g.run_len (run_sized ends (points sync) g ok), ← only_count (bit g 4) zigzag_underlay_spacing (zigzag_sized ends (points sync) g ok)) (most_two (rails_of a b sync) (runs g) (bit g 4) g.run_len zigzag_underlay_spacing)

    module _ {top : Pass} {t : ℕ} (f : top ≡ pass_of ends (points sync) (spacing_of g)) (k : t ≡ length (walk_places ends (points sync) top)) (ok : sized_at ends (points sync) (top_steps g) ≡ true) where
      pub top_fit : Fit a b sync (spacing_of g) ends top t
      top_fit = rw (k, f) (fitted_pass (spacing_of g) (top_sized ends (points sync) g ok))

      pub top_most : most_of (rails_of a b sync) (top_steps g) ≡ t
      unfolding top_steps
      top_most = most_one (rails_of a b sync) (spacing_of g) ∙ fit_count top_fit

    module _ {p : Passes} (f : p ≡ passes_of ends (points sync) g) (ok : sized_at ends (points sync) (pass_steps g) ≡ true) where
      halves : (sized_at ends (points sync) (underlay_steps g) ≡ true) × (sized_at ends (points sync) (top_steps g) ≡ true)
      halves = halves_sized ends (points sync) g ok

      pub under_is : p.under ≡ under_of ends (points sync) g
      unfolding passes_of
      under_is = ap (λ (q : Passes). q.under) f

      top_asked : p.top ≡ pass_of ends (points sync) (spacing_of g)
      unfolding passes_of
      top_asked = ap (λ (q : Passes). q.top) f

      top_count : p.t ≡ length (walk_places ends (points sync) p.top)
      unfolding passes_of
      top_count = rw f

      pub passes_top : Fit a b sync (spacing_of g) ends p.top p.t
      passes_top = top_fit top_asked top_count halves.1

      -- N is the most of them
      pub most_is : most_of (rails_of a b sync) (pass_steps g) ≡ most_in p
      most_is = most_halves (rails_of a b sync) g ∙ rw (underlay_most under_is halves.0, top_most top_asked top_count halves.1)

-- a slice that holds the most pairs twice holds those of each pass
module _ (u : Under) (work : ℕ) (h : 8 * most_under u ≤ work) where
  pub run_room : 8 * u.n ≤ work
  run_room = omega (arith, h, most_left u.n u.m)

  pub zigzag_room : 8 * u.m ≤ work
  zigzag_room = omega (arith, h, most_right u.n u.m)
