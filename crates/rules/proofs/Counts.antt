-- How many edges and pieces a fill can have: no more edges than corners, and in a row no more pieces than half the edges. Assumes nothing.
use Rattle.std.specs.Prelude.{◌≡◌, refl, Bool, true, false, not, ◌&&◌, cond, List, [], ◌∷◌, map, ℕ, suc, ◌+◌, ◌-◌, ◌*◌, ◌/◌, ◌%◌, ◌≤◌, leb, eqb, ℤ, pos, ◌+ℤ◌, length, drop, Float}
use Rattle.std.proofs.Common.{sym, ap, ◌∙◌, le_trans, le_of_eq, arith, length-append, length-take, leb-true}
use mathlib.Core.List.Permᴰ
use Rattle.std.proofs.lemmas.List.{length-map}
use Rattle.std.specs.Float.Ieee.{lt, neg}
use Rattle.numbers.specs.Num.{◌⊖◌, literal, zero64}
use Rattle.numbers.specs.Order.{magnitude}
use Rattle.seqs.specs.Lists.{keep_if, sift, each, upto, sort_by}
use Rattle.seqs.specs.Tests.{and_both}
use Rattle.seqs.specs.Sift.{sift_length}
use Rattle.seqs.specs.Sort.{sort_perm, perm_length}
use Rattle.seqs.specs.Upto.{upto_length}
use Rattle.geom.specs.declared.point.P.{P}
use Rattle.outlines.specs.declared.rule.FillRule.{FillRule}
use Rattle.geom.specs.Point.{rotate}
use Rattle.geom.specs.Outline.{points, cut, rings, rising}
use Rattle.geom.specs.OutlineLaws.{points_length, rising_le}
use Rattle.outlines.specs.Inside.{inside}
use Rattle.limits.specs.Limits.{good_outline}
use Rattle.rules.specs.declared.Settings.{Settings}
use Rattle.rules.specs.declared.Edge.{Edge}
use Rattle.rules.proofs.Merged.{merged_length}
use Rattle.rules.proofs.FillSections.{pieces_of_rows}
use Rattle.rules.proofs.RowsRise.{outside}
use Rattle.rules.specs.Fill.{sides_to, sides, edge_of, kept_side, turned, edges, row_numbers, row_at, starts, lives, by_x, crossed, crossing, merged, crossings, spans, piece_of, wide, pieces_at, pieces_of, met, row_list}

-- ---- edges

sides_to_length : (z : P) (l : List P) → length (sides_to z l) ≡ length l
unfolding sides_to
sides_to_length z [] = refl
sides_to_length z (a ∷ []) = refl
sides_to_length z (a ∷ b ∷ r) = ap suc (sides_to_length z (b ∷ r))

sides_length : (l : List P) → length (sides l) ≤ length l
unfolding sides
sides_length [] = omega arith
sides_length (a ∷ []) = omega arith
sides_length (a ∷ b ∷ []) = omega arith
sides_length (a ∷ b ∷ c ∷ r) = omega (arith, sides_to_length a (a ∷ b ∷ c ∷ r))

kept_length : (ab : P × P) → length (kept_side ab) ≤ 1
unfolding kept_side
kept_length ab = go (lt (magnitude (ab.0.y ⊖ ab.1.y)) (literal 1 1000000000)) (lt ab.0.y ab.1.y)
  where
    go : (x y : Bool) → length (cond x [] (cond y (edge_of ab.0 ab.1 true ∷ []) (edge_of ab.1 ab.0 false ∷ []))) ≤ 1
    go true y = omega arith
    go false true = omega arith
    go false false = omega arith

abbrev total : {A : Type 0} → (A → ℕ) → List A → ℕ
total w [] = 0
total w (a ∷ l) = w a + total w l

each_most : {A B : Type 0} (f : A → List B) (w : A → ℕ) → ((a : A) → length (f a) ≤ w a) → (l : List A) → length (each f l) ≤ total w l
each_most f w h [] = omega arith
each_most f w h (a ∷ l) = omega (arith, length-append (f a) (each f l), h a, each_most f w h l)

total_same : {A : Type 0} (n : ℕ) (l : List A) → total (λ a. n) l ≡ n * length l
total_same n [] = omega arith
total_same n (a ∷ l) = omega (arith, total_same n l)

pub ring_edges_lem : (g : Settings) (ring : List P) → length (each kept_side (sides (turned g ring))) ≤ length ring
unfolding turned
ring_edges_lem g ring =
    let l = map (λ p. rotate p g.cosine (neg g.sine)) ring in
    omega (arith, each_most kept_side (λ ab. 1) kept_length (sides l), total_same 1 (sides l), sides_length l, length-map ring (λ p. rotate p g.cosine (neg g.sine)))

-- rings that are cut from a list have no more corners than it
cut_total : (a : ℕ) (ends : List ℕ) (l : List P) → rising a ends (length l) ≡ true → total length (cut a ends l) ≤ length l - a
unfolding cut rising
cut_total a [] l h = omega arith
cut_total a (e ∷ es) l h =
    let b = and_both (leb a e) (rising e es (length l)) h in
    omega (arith, leb-true a e b.0, rising_le e es (length l) b.1, length-take (e - a) (drop a l), cut_total e es l b.1)

-- no more edges than corners
pub edges_of_corners : (corners : List Float) (ends : List ℕ) (g : Settings) → good_outline corners ends ≡ true → length (edges g (rings corners ends)) ≤ length corners / 2
unfolding edges rings good_outline
edges_of_corners corners ends g h =
    let one = and_both (eqb (length corners % 2) 0 && leb (length ends) 255 && leb (length corners / 2) 1024) (rising 0 ends (length corners / 2)) h in
    let n = points_length corners in
    omega (arith, each_most (λ ring. each kept_side (sides (turned g ring))) length (ring_edges_lem g) (cut 0 ends (points corners)), cut_total 0 ends (points corners) (rw n one.1), n)

-- at most 1,024 edges
pub edges_few : (corners : List Float) (ends : List ℕ) (g : Settings) → good_outline corners ends ≡ true → length (edges g (rings corners ends)) ≤ 1024
unfolding good_outline
edges_few corners ends g h =
    let one = and_both (eqb (length corners % 2) 0 && leb (length ends) 255 && leb (length corners / 2) 1024) (rising 0 ends (length corners / 2)) h in
    let two = and_both (eqb (length corners % 2) 0 && leb (length ends) 255) (leb (length corners / 2) 1024) one.0 in
    omega (arith, edges_of_corners corners ends g h, leb-true (length corners / 2) 1024 two.1)

-- ---- pieces

-- what has been entered and not been left
entered : Bool → ℕ
entered true = 1
entered false = 0

-- a span ends where one began: two crossings each
spans_half : (rule : FillRule) (w : ℤ) (start : Float) (cs : List (Float × ℤ)) → 2 * length (spans rule w start cs) ≤ length cs + entered (inside rule w)
unfolding spans entered
spans_half rule w start [] = omega arith
spans_half rule w start (c ∷ cs) =
    let next = cond (not (inside rule w) && inside rule (w +ℤ c.1)) c.0 start in
    go (inside rule w) (inside rule (w +ℤ c.1)) (spans rule (w +ℤ c.1) next cs) (spans_half rule (w +ℤ c.1) next cs)
  where
    go : (was now : Bool) (l : List (Float × Float)) → 2 * length l ≤ length cs + entered now → 2 * length (keep_if (was && not now) (start, c.0) l) ≤ suc (length cs) + entered was
    go true true l h = omega (arith, h)
    go true false l h = omega (arith, h)
    go false true l h = omega (arith, h)
    go false false l h = omega (arith, h)

outside_first : (rule : FillRule) → entered (inside rule (pos 0)) ≡ 0
unfolding entered
outside_first rule = ap entered (outside rule)

-- in a row at most half as many pieces as edges
pub row_half : (rule : FillRule) (g : Settings) (es : List Edge) (k : ℤ) → length (pieces_of rule g es k) ≤ length es / 2
unfolding pieces_of pieces_at crossings crossed
row_half rule g es k =
    let y = row_at g k in
    let test : ℕ → Bool = λ i. starts es y i && lives es y i in
    let l = sift test (upto 0 (length es)) in
    let places = sort_by (by_x es y) l in
    let cs = map (crossing es y) places in
    let ab = spans rule (pos 0) zero64 (merged cs) in
    omega (
      arith,
      sift_length (wide g) (map (piece_of g k) ab),
      length-map ab (piece_of g k),
      spans_half rule (pos 0) zero64 (merged cs),
      merged_length cs,
      outside_first rule,
      length-map places (crossing es y),
      perm_length (sort_perm (by_x es y) l),
      sift_length test (upto 0 (length es)),
      upto_length 0 (length es),
    )

met_length : (b : Bool) (ks : List ℤ) → length (met b ks) ≡ length ks
unfolding met
met_length true ks = perm_length (Permᴰ.reverse ks)
met_length false ks = refl

-- and so in all rows
pub pieces_half : (outline : List (List P)) (rule : FillRule) (g : Settings) (bottomUp : Bool) → length (row_list outline rule g bottomUp) ≤ length (edges g outline) / 2 * length (row_numbers g (edges g outline))
pieces_half outline rule g bottomUp =
    let es = edges g outline in
    let ks = met bottomUp (row_numbers g es) in
    le_trans (le_of_eq (sym (length-map (row_list outline rule g bottomUp) (λ e. e.piece)) ∙ ap length (pieces_of_rows outline rule g bottomUp)))
    (le_trans (each_most (pieces_of rule g es) (λ k. length es / 2) (row_half rule g es) ks) (le_of_eq (total_same (length es / 2) ks ∙ ap (λ n. length es / 2 * n) (met_length bottomUp (row_numbers g es)))))
