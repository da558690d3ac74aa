-- The turns of a walk over the sides. Assumes nothing.
use Rattle.std.specs.Prelude.{◌≡◌, refl, ℕ, true, leb, ◌-◌, ◌*◌, ◌<◌, ◌≤◌, take, drop, List, [], ◌∷◌, ◌++◌, length, Option, Some, Float}
use Rattle.std.proofs.Common.{arith, ap, sym, ◌∙◌, leb-true}
use Rattle.std.specs.Float.Ieee.{neg}
use Rattle.seqs.specs.Lists.{each}
use Rattle.seqs.specs.Tests.{and_both}
use Rattle.seqs.specs.Each.{each_append}
use Rattle.geom.specs.declared.point.P.{P}
use Rattle.geom.specs.Point.{rotate}
use Rattle.geom.specs.Outline.{points, cut, rising}
use Rattle.geom.specs.OutlineLaws.{points_length, points_part, rising_le}
use Rattle.rules.specs.declared.Settings.{Settings}
use Rattle.rules.specs.Fill.{sides_to, sides, turned, kept_side, edges}
use Rattle.edges.specs.Sides.{all_sides, from_left}

module _ (g : Settings) where
  -- a ring's next side, and its last
  pub ring_on : {s : List (P × P)} {o : Option (P × P)} {z a p b : P} {rest later : List P} → from_left g o rest ≡ s → o ≡ Some (z, a) → rest ≡ p ∷ later → b ≡ rotate p g.cosine (neg g.sine)
      → s ≡ (a, b) ∷ sides_to z (b ∷ turned g later)
  unfolding sides_to turned
  ring_on v o r t = sym v ∙ rw (o, r, t)

  pub ring_end : {s : List (P × P)} {o : Option (P × P)} {z a : P} {rest : List P} → from_left g o rest ≡ s → o ≡ Some (z, a) → rest ≡ [] → s ≡ (a, z) ∷ []
  unfolding sides_to turned
  ring_end v o r = sym v ∙ rw (o, r)

  -- a ring begins with its first corner, and under three corners it has no sides
  pub ring_first : (l : List Float) {p f : P} {rest : List P} → points l ≡ p ∷ rest → 6 ≤ length l → f ≡ rotate p g.cosine (neg g.sine) → sides_to f (f ∷ turned g rest) ≡ sides (turned g (points l))
  unfolding turned sides
  ring_first l {p} {rest = rest} e h t = rw (e, t) (go rest (omega (arith, ap length e, points_length l)))
    where
      go : (rest : List P) → 2 ≤ length rest → sides_to (rotate p g.cosine (neg g.sine)) (rotate p g.cosine (neg g.sine) ∷ turned g rest) ≡ sides (rotate p g.cosine (neg g.sine) ∷ turned g rest)
      go [] h = absurd (omega arith)
      go (q ∷ []) h = absurd (omega arith)
      go (q ∷ r ∷ rest) h = refl

  pub ring_none : (l : List Float) → length l < 6 → [] ≡ sides (turned g (points l))
  unfolding turned sides
  ring_none l h = go (points l) (omega (arith, points_length l))
    where
      go : (ps : List P) → length ps < 3 → [] ≡ sides (turned g ps)
      go [] h = refl
      go (p ∷ []) h = refl
      go (p ∷ q ∷ []) h = refl
      go (p ∷ q ∷ r ∷ ps) h = absurd (omega arith)

  -- behind a ring's last side the next ring begins, if there is one
  module _ (begun : ℕ) (ends : List ℕ) (corners : List Float) {s ring : List (P × P)} (is : ring ++ all_sides g (cut begun ends (points corners)) ≡ s) (over : ring ≡ []) where
    pub walk_none : length ends ≡ 0 → s ≡ []
    unfolding all_sides cut
    walk_none e = sym is ∙ rw (over, empty ends e)
      where
        empty : (l : List ℕ) → length l ≡ 0 → l ≡ []
        empty [] h = refl
        empty (x ∷ l) h = absurd (omega arith)

    pub walk_on : {e : ℕ} {later : List ℕ} → ends ≡ e ∷ later → sides (turned g (points (take (2 * e - 2 * begun) (drop (2 * begun) corners)))) ++ all_sides g (cut e later (points corners)) ≡ s
    unfolding all_sides cut
    walk_on {e} n = rw (points_part begun e corners) (rw (over, n) at is)

  pub rising_on : (begun n : ℕ) {ends : List ℕ} {e : ℕ} {later : List ℕ} → rising begun ends n ≡ true → ends ≡ e ∷ later → (begun ≤ e) × (e ≤ n) × (rising e later n ≡ true)
  unfolding rising
  rising_on begun n {e = e} {later = later} h k =
      let q = and_both (leb begun e) (rising e later n) (rw k at h) in
      (leb-true begun e q.0, rising_le e later n q.1, q.1)

  -- the edges are the kept ones of all sides
  pub edges_kept : (rings : List (List P)) → each kept_side (all_sides g rings) ≡ edges g rings
  unfolding all_sides edges
  edges_kept [] = refl
  edges_kept (ring ∷ rings) = each_append kept_side (sides (turned g ring)) (each (λ r. sides (turned g r)) rings) ∙ ap (λ l. each kept_side (sides (turned g ring)) ++ l) (edges_kept rings)
