-- What is dropped of a ring, and why: a mark for each corner, 0 where it is kept, else the number of the first reason. Definitions only.
use Rattle.std.specs.Prelude.{ℕ, Bool, false, not, ◌&&◌, cond, List, [], ◌∷◌, map, leb, eqb, length, Option, None, Some}
use Rattle.std.specs.Float.{binary64}
use Rattle.std.specs.Float.Ieee.{to_bits}
use Rattle.numbers.specs.Order.{finite}
use Rattle.refusal.specs.Refusal.{unless, ◌then◌}
use Rattle.seqs.specs.Lists.{keep_if, sift}
use Rattle.geom.specs.declared.point.P.{P}
use Rattle.limits.specs.Limits.{good_point}

-- ---- the marks

abbrev pub NOT-FINITE : ℕ
NOT-FINITE = 1

abbrev pub BEYOND : ℕ
BEYOND = 2

abbrev pub REPEATED : ℕ
REPEATED = 3

abbrev pub CLOSING : ℕ
CLOSING = 4

abbrev pub FEW : ℕ
FEW = 5

abbrev pub kept : ℕ → Bool
kept m = eqb m 0

-- those of a list that are left by the marks beside it
unfoldable pub left : {A : Type 0} → List ℕ → List A → List A
left [] l = []
left (m ∷ ms) [] = []
left (m ∷ ms) (a ∷ l) = keep_if (kept m) a (left ms l)

-- ---- first: corners that aren't finite, are beyond 100,000, or equal the last kept corner of the ring in bits

unfoldable pub same : P → P → Bool
same p q = eqb (to_bits binary64 p.x) (to_bits binary64 q.x) && eqb (to_bits binary64 p.y) (to_bits binary64 q.y)

abbrev pub finite_point : P → Bool
finite_point p = finite p.x && finite p.y

abbrev pub repeats : Option P → P → Bool
repeats None p = false
repeats (Some q) p = same q p

-- the first that applies
unfoldable pub stray : Option P → P → ℕ
stray last p = unless NOT-FINITE (finite_point p) then unless BEYOND (good_point p) then unless REPEATED (not (repeats last p))

-- the last kept corner after p, which has the mark m
abbrev pub after : Option P → ℕ → P → Option P
after last m p = cond (kept m) (Some p) last

unfoldable pub strays : Option P → List P → List ℕ
strays last [] = []
strays last (p ∷ ps) = stray last p ∷ strays (after last (stray last p) p) ps

-- ---- then, of two or more left, a last corner equal to the first

abbrev pub last_of : P → List P → P
last_of p [] = p
last_of p (q ∷ ps) = last_of q ps

unfoldable pub closes : List P → Bool
closes [] = false
closes (p ∷ []) = false
closes (p ∷ q ∷ ps) = same p (last_of q ps)

-- the last that is kept
unfoldable pub mark_last : List ℕ → List ℕ
mark_last [] = []
mark_last (m ∷ ms) = cond (kept m && eqb (length (sift kept ms)) 0) (CLOSING ∷ ms) (m ∷ mark_last ms)

unfoldable pub closed : List P → List ℕ → List ℕ
closed ps ms = cond (closes (left ms ps)) (mark_last ms) ms

-- ---- then all corners of a ring left with under 3

abbrev pub few : ℕ → ℕ
few m = cond (kept m) FEW m

unfoldable pub cleared : List P → List ℕ → List ℕ
cleared ps ms = cond (leb 3 (length (left ms ps))) ms (map few ms)

-- ---- all three

unfoldable pub ring_marks : List P → List ℕ
ring_marks ps = cleared ps (closed ps (strays None ps))

unfoldable pub kept_ring : List P → List P
kept_ring ps = left (ring_marks ps) ps
