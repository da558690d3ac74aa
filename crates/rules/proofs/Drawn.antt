-- Request [2], of every fill that is accepted: "Crossings of equal x in a row shall be taken as one, their directions added, so that order of drawing doesn't matter."
-- Rings drawn in another order give the same pieces, row list and stitches. Assumes nothing.
use Rattle.std.specs.Prelude.{◌≡◌, Bool, true, false, not, ◌&&◌, T, eqb, ℤ, pos, ◌+ℤ◌, length, get_or, drop, Float}
use Rattle.std.proofs.Math.Path.{refl, sym, ap}
use Rattle.std.proofs.Common.{subst, ◌∙◌, inl, inr, arith}
use Rattle.std.proofs.Math.Bool.{cond}
use mathlib.Core.List.Permᴰ
use mathlib.Core.List.{List, [], ◌∷◌, ◌++◌, map, map-map, append_assoc, Permᴰ}
use Rattle.std.proofs.Math.Option.{Option, none, some}
use Prim.Native.Nat.{ℕ, zero, suc, ◌+◌}
use Rattle.std.specs.Float.{inf}
use Rattle.std.specs.Float.Ieee.{binary64, fits, is_nan, to_signed}
use Rattle.std.specs.Float.Ieee.Fits.{add-fits}
use Rattle.numbers.specs.Num.{◌⊕◌, ◌⊖◌, ◌⊗◌, ◌⊘◌, zero64, half}
use Rattle.numbers.specs.Order.{before, smaller, larger}
use Rattle.numbers.specs.Whole.{floor, ceil}
use Rattle.numbers.specs.Laws.{smaller_has, larger_has}
use Rattle.seqs.specs.Lists.{upto, sift, each, fold, sort_by, All, Sorted}
use Rattle.seqs.specs.Tests.{either, refute, clash}
use Rattle.seqs.specs.All.{all_map, all_perm, all_sift}
use Rattle.seqs.specs.Front as front
use Rattle.seqs.specs.Sift.{sift_map, sift_perm}
use Rattle.seqs.specs.Sort.{sort_perm, perm_length}
use Rattle.geom.specs.declared.point.P.{P}
use Rattle.geom.specs.Outline.{rings}
use Rattle.outlines.specs.declared.rule.FillRule.{FillRule}
use Rattle.outlines.specs.Winding.{ring, winding}
use Rattle.outlines.specs.Inside.{inside, point_inside}
use Rattle.rules.specs.declared.Settings.{Settings}
use Rattle.rules.specs.declared.Edge.{Edge}
use Rattle.rules.specs.declared.Piece.{Piece}
use Rattle.rules.specs.declared.Entry.{Entry}
use Rattle.rules.specs.Fill.{sides, kept_side, turned, edges, ymin, ymax, k_lo, k_hi, row_numbers, row_at, no_edge, edge, starts, lives, cross_x, by_x, crossed, crossing, crossings, spans, piece_of, wide, pieces_at, pieces_of, overlap, link_ends, link_inside, connects, only, joined, joins, entry, after, row_entries, begun, entries, met, row_list, sections, sewn, tatami, roomed, refusal}
use Rattle.rules.specs.Alls.{all_get, all_mapped, sorted_mapped}
use Rattle.rules.specs.Accepted.{Accepted, Checked, checked}
use Rattle.rules.specs.Edges.{Good, within_number, edges_good}
use Rattle.rules.specs.Keys.{sorted_before}
use Rattle.rules.proofs.Gathered.{Number, Numbers, one_way, through, neither, add_swap, gathered, gathered_perm, merged_gathered}
use Rattle.rules.specs.Rows.{Fair, Plain, plain_none, plain_good, edge_within}
use Rattle.rules.proofs.Pieces.{met_fair}
use Rattle.rules.specs.Calls.{sewn_fits, tatami_answer, list_fits, row_list_answer}
use Rattle.rules.specs.CallLaws.{gate_through}
use Rattle.rules.specs.Drawn.{crosses, cross_at, unsorted}

read_from : {A : Type 0} (l : List A) (z : A) (i n : ℕ) → i + n ≡ length l → map (λ j. get_or l j z) (upto i n) ≡ drop i l
read_from l z i zero e = sym (front.none l i (omega arith))
read_from l z i (suc n) e = ap (λ r. get_or l i z ∷ r) (read_from l z (i + 1) n (omega arith)) ∙ sym (front.next l i z (omega arith))

by_edge : (es : List Edge) (y : Float) → map (crossing es y) (sift (λ i. starts es y i && lives es y i) (upto 0 (length es))) ≡ unsorted y es
unfolding crossing cross_x starts lives
by_edge es y =
    let places = upto 0 (length es) in
    sym (map-map (cross_at y) (edge es) (sift (λ i. crosses y (edge es i)) places))
    ∙ ap (map (cross_at y)) (sym (sift_map (crosses y) (edge es) places) ∙ ap (sift (crosses y)) (read_from es no_edge 0 (length es) (omega arith)))

-- sorted, they are the same crossings
sorted_perm : (es : List Edge) (y : Float) → Permᴰ (map (crossing es y) (crossed es y)) (unsorted y es)
unfolding crossed
sorted_perm es y =
    let places = sift (λ i. starts es y i && lives es y i) (upto 0 (length es)) in
    subst (Permᴰ (map (crossing es y) (sort_by (by_x es y) places))) (by_edge es y) (Permᴰ.map (crossing es y) (sort_perm (by_x es y) places))

-- the edge's crossing of row y is a number
abbrev pub Sound : Float → Edge → Type 0
Sound y e = T (not (is_nan (e.x0 ⊕ (y ⊖ e.y0) ⊗ e.dxdy)))

module _ (y : Float) (rest : Sound y no_edge) where
  pub numbers : (es : List Edge) → All (Sound y) es → Numbers (unsorted y es)
  numbers es sound = all_mapped (Sound y) (λ c. Number c.0) (cross_at y) (λ e h. (add-fits binary64 _ _, h)) (sift (crosses y) es) (all_sift (Sound y) (crosses y) es sound)

  in_order : (es : List Edge) → All (Sound y) es → Sorted (λ c e. before e.0 c.0 ≡ false) (map (crossing es y) (crossed es y))
  unfolding crossed by_x crossing cross_x
  in_order es sound =
      let places = sift (λ i. starts es y i && lives es y i) (upto 0 (length es)) in
      sorted_mapped (λ i j. before (cross_x es y j) (cross_x es y i) ≡ false) (λ c e. before e.0 c.0 ≡ false) (crossing es y) (λ i j h. h) (crossed es y)
      (sorted_before (cross_x es y) (λ i. add-fits binary64 _ _) (all_get (Sound y) no_edge rest es sound) places)

  pub crossings_gathered : (es : List Edge) → All (Sound y) es → crossings es y (crossed es y) ≡ gathered (unsorted y es)
  unfolding crossings
  crossings_gathered es sound =
      let cs = map (crossing es y) (crossed es y) in
      let fair = all_perm (λ c. Number c.0) (Permᴰ.symm (sorted_perm es y)) (numbers es sound) in
      merged_gathered cs fair (in_order es sound) ∙ gathered_perm (sorted_perm es y) fair

  -- merged, they don't depend on the order of the edges
  pub crossings_drawn : (es ds : List Edge) → Permᴰ es ds → All (Sound y) es → crossings es y (crossed es y) ≡ crossings ds y (crossed ds y)
  crossings_drawn es ds p sound =
      crossings_gathered es sound
      ∙ gathered_perm (Permᴰ.map (cross_at y) (sift_perm (crosses y) p)) (numbers es sound)
      ∙ sym (crossings_gathered ds (all_perm (Sound y) p sound))

-- nor do a row's pieces
pub pieces_by_edges : (rule : FillRule) (g : Settings) (k : ℤ) → Sound (row_at g k) no_edge → (es ds : List Edge) → Permᴰ es ds → All (Sound (row_at g k)) es → pieces_of rule g es k ≡ pieces_of rule g ds k
unfolding pieces_of pieces_at
pieces_by_edges rule g k rest es ds p sound = ap (λ cs. sift (wide g) (map (piece_of g k) (spans rule (pos 0) zero64 cs))) (crossings_drawn (row_at g k) rest es ds p sound)

-- ---- top and bottom

-- `ahead x z`: x is taken where z was
module _ (ahead : Float → Float → Bool)
    (level : (x z : Float) → Number x → Number z → ahead x z ≡ false → ahead z x ≡ false → x ≡ z)
    (single : (x z : Float) → ahead x z ≡ true → ahead z x ≡ false)
    (trans : (x y z : Float) → ahead x y ≡ true → ahead y z ≡ true → ahead x z ≡ true) where
  abbrev first : Float → Float → Float
  first x z = cond (ahead z x) z x

  first_comm : (x z : Float) → Number x → Number z → first x z ≡ first z x
  first_comm x z h k = elim (either (ahead z x)) [
    | inl p ↦ rw (p, single z x p)
    | inr p ↦ elim (either (ahead x z)) [ inl q ↦ rw (p, q) | inr q ↦ rw (p, q) (level x z h k q p) ]
  ]

  first_swap : (z a b : Float) → Number a → Number b → first (first z a) b ≡ first (first z b) a
  first_swap z a b h k = elim (either (ahead a z)) [
    | inl p ↦ elim (either (ahead b z)) [
      | inl q ↦ rw (p, q) (first_comm a b h k)
      | inr q ↦ simp (p, q, refute (ahead b a) (λ r. clash (trans b a z r p) q))
    ]
    | inr p ↦ elim (either (ahead b z)) [
      | inl q ↦ simp (p, q, refute (ahead a b) (λ r. clash (trans a b z r q) p))
      | inr q ↦ simp (p, q)
    ]
  ]

  module _ (pick : Float → Float → Float)
      (is-first : (x z : Float) → T (not (is_nan x)) → pick x z ≡ first x z)
      (has : (Q : Float → Type 0) (x z : Float) → Q x → Q z → Q (pick x z))
      (key : Edge → Float) where
    pick_swap : (z a b : Float) → Number z → Number a → Number b → pick (pick z a) b ≡ pick (pick z b) a
    pick_swap z a b h k l =
        rw (is-first (pick z a) b (has Number z a h k).1, is-first z a h.1, is-first (pick z b) a (has Number z b h l).1, is-first z b h.1) (first_swap z a b k l)

    pub fold_drawn : {es ds : List Edge} → Permᴰ es ds → All (λ e. Number (key e)) es → (z : Float) → Number z → fold (λ e y. pick y (key e)) z es ≡ fold (λ e y. pick y (key e)) z ds
    fold_drawn Permᴰ.nil h z q = refl
    fold_drawn (Permᴰ.cons {b = b} e p) h z q = rw e (fold_drawn p h.1 (pick z (key b)) (has Number z (key b) q (subst (λ e. Number (key e)) e h.0)))
    fold_drawn (Permᴰ.swap {a} {b} {l = l} e f) h z q = rw (← e, ← f) (ap (λ w. fold (λ e y. pick y (key e)) w l) (pick_swap z (key a) (key b) q h.0 h.1.0))
    fold_drawn (Permᴰ.trans p r) h z q = fold_drawn p h z q ∙ fold_drawn r (all_perm (λ e. Number (key e)) p h) z q

smaller_first : (x z : Float) → T (not (is_nan x)) → smaller x z ≡ cond (before z x) z x
smaller_first x z h = go (is_nan x) refl h
  where
    go : (b : Bool) → is_nan x ≡ b → T (not b) → smaller x z ≡ cond (before z x) z x
    go true e h = absurd h
    go false e h = unfold smaller in rw e

larger_first : (x z : Float) → T (not (is_nan x)) → larger x z ≡ cond (before x z) z x
larger_first x z h = go (is_nan x) refl h
  where
    go : (b : Bool) → is_nan x ≡ b → T (not b) → larger x z ≡ cond (before x z) z x
    go true e h = absurd h
    go false e h = unfold larger in rw e

inf_number : (s : Bool) → Number (inf s)
unfolding fits is_nan
inf_number s = (tt, tt)

module _ (es ds : List Edge) (good : All Good es) (p : Permᴰ es ds) where
  ymin_drawn : ymin es ≡ ymin ds
  unfolding ymin
  ymin_drawn = fold_drawn before neither one_way through smaller smaller_first smaller_has (λ e. e.y0) p (all_map (λ e h. (h.fit, within_number 19 e.y0 h.y0)) es good) (inf false) (inf_number false)

  ymax_drawn : ymax es ≡ ymax ds
  unfolding ymax
  ymax_drawn =
      fold_drawn (λ x z. before z x) (λ x z h k a b. neither x z h k b a) (λ x z. one_way z x) (λ x y z a b. through z y x b a) larger larger_first larger_has
      (λ e. e.y1) p (all_map (λ e h. (h.fit1, within_number 19 e.y1 h.y1)) es good) (inf true) (inf_number true)

  by_ends : (g : Settings) (es ds : List Edge) → length es ≡ length ds → k_lo g es ≡ k_lo g ds → k_hi g es ≡ k_hi g ds → row_numbers g es ≡ row_numbers g ds
  unfolding row_numbers
  by_ends g [] [] n lo hi = refl
  by_ends g [] (d ∷ ds) n lo hi = let z : 0 ≡ suc (length ds) = n in absurd (omega arith)
  by_ends g (e ∷ es) [] n lo hi = let z : suc (length es) ≡ 0 = n in absurd (omega arith)
  by_ends g (e ∷ es) (d ∷ ds) n lo hi = rw (lo, hi)

  pub row_numbers_by_edges : (g : Settings) → row_numbers g es ≡ row_numbers g ds
  unfolding k_lo k_hi
  row_numbers_by_edges g =
      by_ends g es ds (perm_length p) (ap (λ y. to_signed 63 (ceil (y ⊘ g.spacing ⊖ half))) ymin_drawn) (ap (λ y. to_signed 63 (floor (y ⊘ g.spacing ⊖ half))) ymax_drawn)

-- ---- rings in another order

each_perm : {A B : Type 0} (f : A → List B) {l m : List A} → Permᴰ l m → Permᴰ (each f l) (each f m)
each_perm f Permᴰ.nil = Permᴰ.nil
each_perm f (Permᴰ.cons {b = b} e p) = rw e (Permᴰ.append_left (f b) (each_perm f p))
each_perm f (Permᴰ.swap {a} {b} {l = l} e g) =
    rw (← e, ← g, ← append_assoc (f a) (f b) (each f l), ← append_assoc (f b) (f a) (each f l)) (Permᴰ.append_right (each f l) (Permᴰ.append_comm (f a) (f b)))
each_perm f (Permᴰ.trans p q) = Permᴰ.trans (each_perm f p) (each_perm f q)

pub edges_drawn : (g : Settings) {outline other : List (List P)} → Permᴰ outline other → Permᴰ (edges g outline) (edges g other)
unfolding edges
edges_drawn g p = each_perm (λ ring. each kept_side (sides (turned g ring))) p

winding_drawn : {outline other : List (List P)} → Permᴰ outline other → (p : P) → winding outline p ≡ winding other p
unfolding winding
winding_drawn Permᴰ.nil p = refl
winding_drawn (Permᴰ.cons {b = b} e q) p = rw e (ap (λ w. ring p b +ℤ w) (winding_drawn q p))
winding_drawn (Permᴰ.swap {a} {b} {l = l} e f) p = rw (← e, ← f) (add_swap (ring p a) (ring p b) (winding l p))
winding_drawn (Permᴰ.trans q r) p = winding_drawn q p ∙ winding_drawn r p

-- the test of a link, and so the sections
module _ (outline other : List (List P)) (same : (p : P) → winding outline p ≡ winding other p) (rule : FillRule) (g : Settings) where
  link_drawn : (ab : P × P) (k : ℕ) → link_inside outline rule g ab k ≡ link_inside other rule g ab k
  unfolding link_inside point_inside
  link_drawn ab k = ap (inside rule) (same _)

  connects_drawn : (o : Entry) (p : Piece) → connects outline rule g o p ≡ connects other rule g o p
  unfolding connects
  connects_drawn o p = rw (link_drawn (link_ends o p) 1, link_drawn (link_ends o p) 2, link_drawn (link_ends o p) 3)

  joined_drawn : (row : List Piece) (p : Piece) (o : Option Entry) → joined outline rule g row p o ≡ joined other rule g row p o
  unfolding joined
  joined_drawn row p none = refl
  joined_drawn row p (some o) = ap (λ b. cond (eqb (length (sift (overlap o.piece) row)) 1 && b) (some o) none) (connects_drawn o p)

  joins_drawn : (opens : List Entry) (row : List Piece) (p : Piece) → joins outline rule g opens row p ≡ joins other rule g opens row p
  unfolding joins
  joins_drawn opens row p = joined_drawn row p (only (sift (λ o. overlap o.piece p) opens))

  row_drawn : (opens : List Entry) (row : List Piece) (new : ℕ) (ps : List Piece) → row_entries outline rule g opens row new ps ≡ row_entries other rule g opens row new ps
  unfolding row_entries
  row_drawn opens row new [] = refl
  row_drawn opens row new (p ∷ ps) =
      let o = joins other rule g opens row p in
      rw (joins_drawn opens row p) (ap (λ r. entry p new o ∷ r) (row_drawn opens row (after new o) ps))

  entries_drawn : (opens : List Entry) (new : ℕ) (rows : List (List Piece)) → entries outline rule g opens new rows ≡ entries other rule g opens new rows
  unfolding entries
  entries_drawn opens new [] = refl
  entries_drawn opens new (row ∷ rows) =
      let es = row_entries other rule g opens row new row in
      rw (row_drawn opens row new row) (ap (λ r. es ++ r) (entries_drawn es (new + begun es) rows))

-- ---- every fill that is accepted

map_same : {A B : Type 0} (f h : A → B) (l : List A) → All (λ a. f a ≡ h a) l → map f l ≡ map h l
map_same f h [] k = refl
map_same f h (a ∷ l) k = rw k.0 (ap (λ r. h a ∷ r) (map_same f h l k.1))

module _ (outline : List (List P)) (g : Settings) (cyc : ℕ) (ok : Checked outline g cyc) (rule : FillRule) where
  sound : (k : ℤ) → Fair k → (e : Edge) → Plain e → Sound (row_at g k) e
  sound k h e p = within_number 85 (e.x0 ⊕ (row_at g k ⊖ e.y0) ⊗ e.dxdy) (edge_within outline g cyc ok k h e p)

  -- its kept edges in another order give each row the same pieces
  pub pieces_any_order : (k : ℤ) → Fair k → (es : List Edge) → Permᴰ (edges g outline) es → pieces_of rule g (edges g outline) k ≡ pieces_of rule g es k
  pieces_any_order k h es p =
      pieces_by_edges rule g k (sound k h no_edge plain_none) (edges g outline) es p
      (all_map (sound k h) (edges g outline) (plain_good (edges g outline) (edges_good outline g cyc ok)))

  module _ (other : List (List P)) (p : Permᴰ outline other) where
    -- and so its rings: each row's pieces, the rows, the row list, the stitches
    pub pieces_drawn : (k : ℤ) → Fair k → pieces_of rule g (edges g outline) k ≡ pieces_of rule g (edges g other) k
    pieces_drawn k h = pieces_any_order k h (edges g other) (edges_drawn g p)

    pub row_numbers_drawn : row_numbers g (edges g outline) ≡ row_numbers g (edges g other)
    row_numbers_drawn = row_numbers_by_edges (edges g outline) (edges g other) (edges_good outline g cyc ok) (edges_drawn g p) g

    pub row_list_drawn : (bottomUp : Bool) → row_list outline rule g bottomUp ≡ row_list other rule g bottomUp
    unfolding row_list
    row_list_drawn bottomUp =
        let ks = met bottomUp (row_numbers g (edges g outline)) in
        let rows = map_same (pieces_of rule g (edges g outline)) (pieces_of rule g (edges g other)) ks (all_map pieces_drawn ks (met_fair outline g cyc ok bottomUp)) in
        entries_drawn outline other (winding_drawn p) rule g [] 0 (map (pieces_of rule g (edges g outline)) ks)
        ∙ ap (entries other rule g [] 0) (rows ∙ ap (λ ks. map (pieces_of rule g (edges g other)) (met bottomUp ks)) row_numbers_drawn)

    pub tatami_drawn : (stagger : ℕ) (bottomUp : Bool) → tatami outline rule g stagger bottomUp ≡ tatami other rule g stagger bottomUp
    unfolding tatami
    tatami_drawn stagger bottomUp = ap (λ es. map (sewn g stagger) (sections es)) (row_list_drawn bottomUp)

-- ---- the calls: of two outlines that are accepted and have the same rings, in whatever order, the answers and the outputs are the same

module _ (corners : List Float) (ends : List ℕ) (others : List Float) (stops : List ℕ) (g : Settings) (stagger : ℕ)
    (accepted : Accepted corners ends g stagger) (too : Accepted others stops g stagger) (p : Permᴰ (rings corners ends) (rings others stops))
    (rule : FillRule) (bottomUp : Bool) where
  pub list_drawn : row_list (rings corners ends) rule g bottomUp ≡ row_list (rings others stops) rule g bottomUp
  list_drawn = row_list_drawn (rings corners ends) g stagger (checked corners ends g stagger accepted) rule (rings others stops) p bottomUp

  pub stitches_drawn : tatami (rings corners ends) rule g stagger bottomUp ≡ tatami (rings others stops) rule g stagger bottomUp
  stitches_drawn = tatami_drawn (rings corners ends) g stagger (checked corners ends g stagger accepted) rule (rings others stops) p stagger bottomUp

  roomed_drawn : (floats wholes : ℕ) (fits : Bool) → roomed corners ends rule g bottomUp floats wholes fits ≡ roomed others stops rule g bottomUp floats wholes fits
  unfolding roomed
  roomed_drawn floats wholes fits = rw (perm_length (edges_drawn g p), list_drawn)

  refusal_drawn : (floats wholes : ℕ) (fits : Bool) → refusal corners ends rule g stagger bottomUp floats wholes fits ≡ refusal others stops rule g stagger bottomUp floats wholes fits
  unfolding refusal
  refusal_drawn floats wholes fits =
      let one = roomed corners ends rule g bottomUp floats wholes fits in
      let two = roomed others stops rule g bottomUp floats wholes fits in
      gate_through corners ends g stagger one accepted ∙ roomed_drawn floats wholes fits ∙ sym (gate_through others stops g stagger two too)

  pub tatami_answer_drawn : (floats wholes points sectionEnds : ℕ) → tatami_answer corners ends rule g stagger bottomUp floats wholes points sectionEnds ≡ tatami_answer others stops rule g stagger bottomUp floats wholes points sectionEnds
  unfolding tatami_answer
  tatami_answer_drawn floats wholes points sectionEnds = rw stitches_drawn (refusal_drawn floats wholes (sewn_fits (tatami (rings others stops) rule g stagger bottomUp) points sectionEnds))

  pub list_answer_drawn : (floats wholes ys rows numbers : ℕ) → row_list_answer corners ends rule g stagger bottomUp floats wholes ys rows numbers ≡ row_list_answer others stops rule g stagger bottomUp floats wholes ys rows numbers
  unfolding row_list_answer
  list_answer_drawn floats wholes ys rows numbers = rw list_drawn (refusal_drawn floats wholes (list_fits (length (row_list (rings others stops) rule g bottomUp)) ys rows numbers))
