-- What is proved of the winding number: its size, edges of corners on one side, a run of edges in two parts. Assumes nothing.
use Rattle.std.specs.Prelude.{ℕ, zero, suc, ◌+◌, ◌-◌, ◌/◌, ◌≤◌, ◌<◌, ◌≡◌, refl, Bool, true, false, ◌&&◌, ◌||◌, cond, List, [], ◌∷◌, ltb, eqb, length, take, drop, ℤ, pos, negsuc, ◌+ℤ◌, nat_abs, Float}
use Rattle.std.proofs.Common.{arith, sym, ap, ◌∙◌, length-take, eqb-true}
use Rattle.std.proofs.Math.IntN.{+ℤ_assoc, +ℤ_idl}
use Rattle.std.specs.Float.Ieee.{lt, le}
use Rattle.numbers.specs.Num.{zero64}
use Rattle.numbers.specs.Laws.{holds, le_lt_clash}
use Rattle.seqs.specs.Signed.{nat_abs_add, cond_abs}
use Rattle.seqs.specs.Tests.{refute}
use Rattle.geom.specs.declared.point.P.{P}
use Rattle.geom.specs.Point.{minus, cross}
use Rattle.geom.specs.Outline.{points, cut, rings, rising, Layout}
use Rattle.geom.specs.OutlineLaws.{rising_turn}
use Rattle.outlines.specs.Winding.{edge, edges, ring, winding}
use Rattle.outlines.specs.Runs.{chain, lows, one_side}

-- ---- sizes

pub edge_small : (a b p : P) → nat_abs (edge a b p) ≤ 1
unfolding edge
edge_small a b p =
    cond_abs (le a.y p.y) _ _ 1
    (cond_abs (lt p.y b.y && lt zero64 (cross (minus b a) (minus p a))) (pos 1) (pos 0) 1 (omega arith) (omega arith))
    (cond_abs (le b.y p.y && lt (cross (minus b a) (minus p a)) zero64) (negsuc 0) (pos 0) 1 (omega arith) (omega arith))

pub edges_small : (p a : P) (l : List P) → nat_abs (edges p a l) ≤ length l
unfolding edges
edges_small p a [] = omega arith
edges_small p a (b ∷ l) = omega (arith, nat_abs_add (edge a b p) (edges p b l), edge_small a b p, edges_small p b l)

pub chain_small : (p : P) (l : List P) → nat_abs (chain p l) ≤ length l - 1
unfolding chain
chain_small p [] = omega arith
chain_small p (a ∷ l) = omega (arith, edges_small p a l)

pub ring_small : (p : P) (l : List P) → nat_abs (ring p l) ≤ length l
unfolding ring
ring_small p l = cond_abs (ltb (length l) 3) (pos 0) _ (length l) (omega arith) (edges_small p _ l)

pub cut_small : (p : P) (a : ℕ) (ends : List ℕ) (n : ℕ) (l : List P) → rising a ends n ≡ true → nat_abs (winding (cut a ends l) p) ≤ n - a
unfolding winding cut
cut_small p a [] n l h = omega arith
cut_small p a (e ∷ ends) n l h =
    let t = rising_turn a (e ∷ ends) 0 n h (omega arith) in
    let k = length-take (e - a) (drop a l) in
    omega (arith, nat_abs_add (ring p (take (e - a) (drop a l))) (winding (cut e ends l) p), ring_small p (take (e - a) (drop a l)), k, cut_small p e ends n l t.rise, t.from, t.to)

-- at most the corner count
pub winding_small : (corners : List Float) (ends : List ℕ) (p : P) → Layout corners ends → nat_abs (winding (rings corners ends) p) ≤ length corners / 2
unfolding rings
winding_small corners ends p h = omega (arith, cut_small p 0 ends (length corners / 2) (points corners) h.rise)

-- ---- a run of edges in two parts, which share a corner

pub chain_split : (p : P) (k : ℕ) (l : List P) → k < length l → chain p l ≡ chain p (take (suc k) l) +ℤ chain p (drop k l)
unfolding chain edges
chain_split p k [] h = absurd (omega arith)
chain_split p zero (a ∷ l) h = sym (+ℤ_idl (edges p a l))
chain_split p (suc k) (a ∷ []) h = absurd (omega arith)
chain_split p (suc k) (a ∷ b ∷ l) h =
    ap (λ (z : ℤ). edge a b p +ℤ z) (chain_split p k (b ∷ l) (omega arith))
    ∙ sym (+ℤ_assoc (edge a b p) (edges p b (take k l)) (chain p (drop k (b ∷ l))))

-- ---- corners on one side

-- what is at most y is not above it
low_not_above : (x y : Float) → le x y ≡ true → lt y x ≡ false
low_not_above x y h = refute (lt y x) (λ t. absurd (le_lt_clash x y (holds h) (holds t)))

-- an edge with both ends on one side adds nothing; for the sides across a height too
pub edge_high : (a b p : P) → le a.y p.y ≡ false → le b.y p.y ≡ false → edge a b p ≡ pos 0
unfolding edge
edge_high a b p h k = rw (h, k)

pub edge_low : (a b p : P) → le a.y p.y ≡ true → le b.y p.y ≡ true → edge a b p ≡ pos 0
unfolding edge
edge_low a b p h k = rw (h, low_not_above b.y p.y k)

lows_le : (y : Float) (l : List P) → lows y l ≤ length l
unfolding lows
lows_le y [] = omega arith
lows_le y (a ∷ l) = go (le a.y y) (lows_le y l)
  where
    go : (c : Bool) → lows y l ≤ length l → cond c 1 0 + lows y l ≤ suc (length l)
    go true h = omega arith
    go false h = omega arith

high_head : (c : Bool) (n : ℕ) → cond c 1 0 + n ≡ 0 → (c ≡ false) × (n ≡ 0)
high_head true n h = absurd (omega arith)
high_head false n h = (refl, omega arith)

low_head : (c : Bool) (n m : ℕ) → n ≤ m → cond c 1 0 + n ≡ suc m → (c ≡ true) × (n ≡ m)
low_head true n m le h = (refl, omega arith)
low_head false n m le h = absurd (omega arith)

none_low : (p : P) (l : List P) → lows p.y l ≡ 0 → chain p l ≡ pos 0
unfolding lows chain edges
none_low p [] h = refl
none_low p (a ∷ []) h = refl
none_low p (a ∷ b ∷ l) h =
    let q = high_head (le a.y p.y) _ h in
    let r = high_head (le b.y p.y) _ q.1 in
    rw (edge_high a b p q.0 r.0, +ℤ_idl (edges p b l)) (none_low p (b ∷ l) q.1)

all_low : (p : P) (l : List P) → lows p.y l ≡ length l → chain p l ≡ pos 0
unfolding lows chain edges
all_low p [] h = refl
all_low p (a ∷ []) h = refl
all_low p (a ∷ b ∷ l) h =
    let q = low_head (le a.y p.y) _ (suc (length l)) (lows_le p.y (b ∷ l)) h in
    let r = low_head (le b.y p.y) _ (length l) (lows_le p.y l) q.1 in
    rw (edge_low a b p q.0 r.0, +ℤ_idl (edges p b l)) (all_low p (b ∷ l) q.1)

-- the edges of corners on one side add nothing
pub one_side_adds : (p : P) (l : List P) → one_side p.y l ≡ true → chain p l ≡ pos 0
unfolding one_side
one_side_adds p l h = go (eqb (lows p.y l) 0) refl h
  where
    go : (c : Bool) → eqb (lows p.y l) 0 ≡ c → (c || eqb (lows p.y l) (length l)) ≡ true → chain p l ≡ pos 0
    go true e k = none_low p l (eqb-true _ _ e)
    go false e k = all_low p l (eqb-true _ _ k)
