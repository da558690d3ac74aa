-- What is proved of the sides across a height: those of an outline tell its winding number there. Assumes nothing.
use Rattle.std.specs.Prelude.{◌≡◌, refl, Bool, true, false, cond, List, [], ◌∷◌, ◌++◌, ◌-◌, ltb, length, get_or, ℤ, pos, ◌+ℤ◌, Float}
use Rattle.std.proofs.Common.{sym, ap, ◌∙◌, append_assoc}
use Rattle.std.proofs.Math.IntN.{+ℤ_assoc, +ℤ_idl}
use Rattle.std.specs.Float.Ieee.{le}
use Rattle.numbers.specs.Num.{zero64}
use Rattle.geom.specs.declared.point.P.{P}
use Rattle.geom.specs.Point.{point}
use Rattle.outlines.specs.Winding.{edge, edges, ring, winding}
use Rattle.outlines.specs.WindingLaws.{edge_high, edge_low}
use Rattle.outlines.specs.Sides.{side_sum, side, across, chain_sides, ring_sides, sides}

-- a side that is left out adds nothing
across_sum : (p a b : P) (m : List Float) → side_sum p (across p.y a b ++ m) ≡ edge a b p +ℤ side_sum p m
unfolding across side_sum
across_sum p a b m = go (le a.y p.y) (le b.y p.y) refl refl
  where
    go : (u v : Bool) → le a.y p.y ≡ u → le b.y p.y ≡ v → side_sum p (cond u (cond v [] (side a b)) (cond v (side a b) []) ++ m) ≡ edge a b p +ℤ side_sum p m
    go true true e f = rw (edge_low a b p e f) (sym (+ℤ_idl (side_sum p m)))
    go true false e f = refl
    go false true e f = refl
    go false false e f = rw (edge_high a b p e f) (sym (+ℤ_idl (side_sum p m)))

chain_sum : (p a : P) (l : List P) (m : List Float) → side_sum p (chain_sides p.y a l ++ m) ≡ edges p a l +ℤ side_sum p m
unfolding chain_sides edges
chain_sum p a [] m = sym (+ℤ_idl (side_sum p m))
chain_sum p a (b ∷ l) m =
    ap (side_sum p) (append_assoc (across p.y a b) (chain_sides p.y b l) m)
    ∙ across_sum p a b (chain_sides p.y b l ++ m)
    ∙ ap (λ (z : ℤ). edge a b p +ℤ z) (chain_sum p b l m)
    ∙ sym (+ℤ_assoc (edge a b p) (edges p b l) (side_sum p m))

ring_sum : (p : P) (l : List P) (m : List Float) → side_sum p (ring_sides p.y l ++ m) ≡ ring p l +ℤ side_sum p m
unfolding ring_sides ring
ring_sum p l m = go (ltb (length l) 3)
  where
    go : (c : Bool) → side_sum p (cond c [] (chain_sides p.y (get_or l (length l - 1) (point zero64 zero64)) l) ++ m) ≡ cond c (pos 0) (edges p (get_or l (length l - 1) (point zero64 zero64)) l) +ℤ side_sum p m
    go true = sym (+ℤ_idl (side_sum p m))
    go false = chain_sum p (get_or l (length l - 1) (point zero64 zero64)) l m

pub sides_sum : (p : P) (rs : List (List P)) → side_sum p (sides p.y rs) ≡ winding rs p
unfolding sides winding side_sum
sides_sum p [] = refl
sides_sum p (l ∷ ls) = ring_sum p l (sides p.y ls) ∙ ap (λ (z : ℤ). ring p l +ℤ z) (sides_sum p ls)
