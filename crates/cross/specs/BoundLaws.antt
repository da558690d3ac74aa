-- The bounds of rings are those of their corners. Assumes nothing.
use Rattle.std.specs.Prelude.{ℕ, ◌+◌, ◌-◌, ◌≤◌, ◌<◌, ◌≡◌, true, List, [], ◌∷◌, ◌++◌, leb, length, take, drop, Float}
use Rattle.std.proofs.Common.{arith, sym, ap, ◌∙◌, take-append-drop, drop-drop, leb-true, eqb-true}
use Rattle.std.proofs.Math.Seq.{drop-length}
use Rattle.seqs.specs.Lists.{each, fold}
use Rattle.seqs.specs.Tests.{and_both}
use Rattle.geom.specs.declared.point.P.{P}
use Rattle.geom.specs.Outline.{points, cut, rings, rising, Layout}
use Rattle.geom.specs.OutlineLaws.{corner_at, points_length, points_next, points_end}
use Rattle.patterns_rules.specs.declared.Bounds.{Bounds}
use Rattle.patterns_rules.specs.Patterns.{widen, nowhere, bounds}
use Rattle.cross.specs.Cells.{bounds_of}

-- rings cut from a list, one after the other, are the list
cut_all : (a : ℕ) (es : List ℕ) (l : List P) → rising a es (length l) ≡ true → each (λ (r : List P). r) (cut a es l) ≡ drop a l
unfolding cut rising
cut_all a [] l h = rw (eqb-true a (length l) h) (sym (drop-length l))
cut_all a (e ∷ es) l h =
    let q = and_both (leb a e) (rising e es (length l)) h in
    let s : a + (e - a) ≡ e = omega (arith, leb-true a e q.0) in
    let d : drop (e - a) (drop a l) ≡ drop e l = rw s at (drop-drop (e - a) a l) in
    ap (λ (r : List P). take (e - a) (drop a l) ++ r) (cut_all e es l q.1 ∙ sym d) ∙ take-append-drop (e - a) (drop a l)

pub bounds_are : (corners : List Float) (ends : List ℕ) → Layout corners ends → bounds_of (points corners) ≡ bounds (rings corners ends)
unfolding bounds rings
bounds_are corners ends h = ap (fold widen nowhere) (sym (cut_all 0 ends (points corners) (rw (points_length corners) h.rise)))

-- a turn of the loop over the corners, and its end
module _ (l : List Float) (b : Bounds) (i : ℕ) where
  pub widen_next : i + 1 < length l → fold widen b (points (drop i l)) ≡ fold widen (widen (corner_at l i) b) (points (drop (i + 2) l))
  widen_next h = ap (fold widen b) (points_next l i h)

  pub widen_end : length l ≤ i + 1 → fold widen b (points (drop i l)) ≡ b
  widen_end h = ap (fold widen b) (points_end l i h)
