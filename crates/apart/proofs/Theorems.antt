-- Request [12], of every fill that is accepted: "before points are turned back, neighbouring points of one section lie no farther apart than len + 0.001". Assumes nothing.
use Rattle.std.specs.Prelude.{◌≡◌, Bool, true, ℕ, ◌+◌, ◌<◌, ◌≤◌, Float}
use Rattle.std.proofs.Math.Path.{refl}
use Rattle.std.proofs.Common.{ap, lit≤}
use mathlib.Core.List.{List, [], ◌∷◌, map}
use Rattle.numbers.specs.Laws.{within_more}
use Rattle.seqs.specs.Lists.{each, upto, All}
use Rattle.seqs.specs.Upto.{upto_all}
use Rattle.outlines.specs.declared.rule.FillRule.{FillRule}
use Rattle.geom.specs.declared.point.P.{P}
use Rattle.geom.specs.Point.{rotate}
use Rattle.geom.specs.Outline.{rings}
use Rattle.rules.specs.declared.Settings.{Settings}
use Rattle.rules.specs.declared.Entry.{Entry}
use Rattle.rules.specs.Fill.{begun, row_list, section, sections, row_points, between, sew_from, sew, sewn, tatami}
use Rattle.rules.specs.Accepted.{Accepted, Checked, checked}
use Rattle.rules.specs.Alls.{all_mapped}
use Rattle.rules.proofs.Stitches.{Inner, parts_whole}
use Rattle.apart.specs.Apart.{no_farther, neighbours, unturned, all_unturned}
use Rattle.apart.specs.Distances.{Point}
use Rattle.apart.proofs.Ways.{way}
use Rattle.apart.specs.Sizes.{asked, section_fine, targets}

module _ (outline : List (List P)) (g : Settings) (stagger : ℕ) (ok : Checked outline g stagger) where
  inner : (p : P) → Point p → Inner p
  inner p h = (within_more 30 38 p.x (lit≤ tt) h.small_x, within_more 30 38 p.y (lit≤ tt) h.small_y)

  sew_from_lem : (p : P) (qs : List P) → Point p → All Point qs → neighbours (no_farther g.len) (p ∷ sew_from g p qs) ≡ true
  unfolding sew_from between
  sew_from_lem p [] h k = unfold neighbours in refl
  sew_from_lem p (q ∷ qs) h k =
      way p q h k.0 g.len (asked outline g stagger ok) _ (parts_whole outline g stagger ok p q (inner p h) (inner q k.0)) (sew_from g q qs) (sew_from_lem q qs k.0 k.1)

  sewn_near : (ps : List P) → All Point ps → neighbours (no_farther g.len) (sew g ps) ≡ true
  unfolding sew
  sewn_near [] h = unfold neighbours in refl
  sewn_near (p ∷ ps) h = sew_from_lem p ps h.0 h.1

module _ (corners : List Float) (ends : List ℕ) (g : Settings) (stagger : ℕ) (accepted : Accepted corners ends g stagger) (rule : FillRule) (bottomUp : Bool) where
  -- every section
  pub no_stitch_longer : (s : ℕ) → neighbours (no_farther g.len) (unturned g stagger (section (row_list (rings corners ends) rule g bottomUp) s)) ≡ true
  unfolding unturned
  no_stitch_longer s =
      let ok = checked corners ends g stagger accepted in
      let es = section (row_list (rings corners ends) rule g bottomUp) s in
      sewn_near (rings corners ends) g stagger ok (each (row_points g stagger) es) (targets (rings corners ends) g stagger ok es (section_fine (rings corners ends) g stagger ok rule bottomUp s))

  -- all that tatami turns back
  pub no_stitch_of_tatami_longer : All (λ ps. neighbours (no_farther g.len) ps ≡ true) (all_unturned (rings corners ends) rule g stagger bottomUp)
  unfolding all_unturned sections
  no_stitch_of_tatami_longer =
      let es = row_list (rings corners ends) rule g bottomUp in
      all_mapped (λ l. neighbours (no_farther g.len) (unturned g stagger l) ≡ true) (λ ps. neighbours (no_farther g.len) ps ≡ true) (unturned g stagger) (λ l h. h) (map (section es) (upto 0 (begun es)))
      (all_mapped (λ s. (0 ≤ s) × (s < 0 + begun es)) (λ l. neighbours (no_farther g.len) (unturned g stagger l) ≡ true) (section es) (λ s l. no_stitch_longer s) (upto 0 (begun es)) (upto_all 0 (begun es)))

-- and that is what it turns back: each point by (c, s)
pub turned_back : (outline : List (List P)) (rule : FillRule) (g : Settings) (stagger : ℕ) (bottomUp : Bool)
    → tatami outline rule g stagger bottomUp ≡ map (map (λ p. rotate p g.cosine g.sine)) (all_unturned outline rule g stagger bottomUp)
unfolding tatami all_unturned sewn unturned
turned_back outline rule g stagger bottomUp = go (sections (row_list outline rule g bottomUp))
  where
    go : (l : List (List Entry)) → map (λ es. map (λ p. rotate p g.cosine g.sine) (sew g (each (row_points g stagger) es))) l ≡ map (map (λ p. rotate p g.cosine g.sine)) (map (λ es. sew g (each (row_points g stagger) es)) l)
    go [] = refl
    go (es ∷ l) = ap (λ r. map (λ p. rotate p g.cosine g.sine) (sew g (each (row_points g stagger) es)) ∷ r) (go l)
