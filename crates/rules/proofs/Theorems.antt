-- What is proved of every fill that is accepted.
-- Mission, demand 3, of every fill that is accepted: "the pieces found by sweeping down the outline are exactly those found by taking each row alone and testing every kept edge against it."
-- (The rest of demand 3, on sections, stands in FillSections.) Assumes nothing.
use Rattle.std.specs.Prelude.{◌≡◌, Bool, cond, ℕ, ◌/◌, ◌≤◌, ◌<◌, ℤ, pos, length, Float}
use Rattle.std.proofs.Common.{sym, ◌∙◌, arith, le_trans, mul-le-mul}
use Rattle.std.proofs.Math.Path.{ap}
use Rattle.std.proofs.Math.Bool.{true, false}
use mathlib.Core.List.{List, [], map, reverse}
use Rattle.numbers.specs.Num.{◌⊕◌, ◌⊖◌, ◌⊘◌, half}
use Rattle.numbers.specs.Whole.{floor, ceil}
use Rattle.numbers.specs.Value.{Within, IsWhole}
use Rattle.seqs.specs.Lists.{sort_by, fold, insert_back, each, All}
use Rattle.seqs.specs.Sort.{backs_sort}
use Rattle.seqs.specs.All.{all_map}
use Rattle.outlines.specs.declared.rule.FillRule.{FillRule}
use Rattle.geom.specs.declared.point.P.{P}
use Rattle.geom.specs.Point.{rotate, dist}
use Rattle.geom.specs.Steps.{along}
use Rattle.geom.specs.Outline.{rings}
use Rattle.rules.specs.declared.Settings.{Settings}
use Rattle.rules.specs.declared.Edge.{Edge}
use Rattle.rules.specs.declared.Piece.{Piece}
use Rattle.rules.specs.declared.Entry.{Entry}
use Rattle.rules.specs.Fill.{edges, ymin, ymax, k_lo, k_hi, row_numbers, row_at, cross_x, by_x, crossed, pieces_of, link_ends, entries, met, row_list, section, offset, min_end, m0, m1, row_points, parts, tatami}
use Rattle.rules.specs.Sweep.{InOrder, swept, swept_by, by_start}
use Rattle.rules.proofs.SweepLaws.{swept_alone, swept_by_alone}
use Rattle.rules.specs.Alls.{map_reverse}
use Rattle.rules.specs.Accepted.{Accepted, Checked, checked, laid_out}
use Rattle.rules.proofs.Counts.{edges_few, pieces_half}
use Rattle.rules.proofs.FillSections.{rows_down}
use Rattle.rules.specs.Edges.{Good, edges_good}
use Rattle.rules.proofs.Pieces.{Small, crosses_within, pieces_small}
use Rattle.rules.specs.Rise.{Rise}
use Rattle.rules.proofs.RowsRise.{row_rises}
use Rattle.rules.proofs.Stitches.{Inner, m0_whole, m1_whole, parts_whole, targets_inner, section_small, sewn_finite, link_finite}
use Rattle.rules.specs.Rows.{Fair, row_within, row_ends_whole, rows_fair, rows_fall, rows_strict, starts_in_order}

module _ (corners : List Float) (ends : List ℕ) (g : Settings) (stagger : ℕ) (accepted : Accepted corners ends g stagger) where
  abbrev es : List Edge
  es = edges g (rings corners ends)

  abbrev ks : List ℤ
  ks = row_numbers g es

  known : Checked (rings corners ends) g stagger
  known = checked corners ends g stagger accepted

  module _ (rule : FillRule) (waiting : List ℕ) (w : InOrder es waiting) where
    -- the source's sweep, from any order by y0
    pub sweep_exact : swept rule g es [] waiting ks ≡ map (pieces_of rule g es) ks
    sweep_exact =
        swept_alone rule g es Fair (rows_strict (rings corners ends) g stagger known) (rows_fall (rings corners ends) g stagger known)
        waiting w ks (rows_fair (rings corners ends) g stagger known) (rows_down g es)

    -- the code's sweep, which keeps the active places in the last row's order, by whatever sorts a row
    pub sweep_by_exact : (order : Float → List ℕ → List ℕ)
        → ((k : ℤ) → Fair k → (l : List ℕ) → order (row_at g k) l ≡ sort_by (by_x es (row_at g k)) l)
        → swept_by order rule g es [] waiting ks ≡ map (pieces_of rule g es) ks
    sweep_by_exact order o =
        swept_by_alone rule g es Fair (rows_strict (rings corners ends) g stagger known) (rows_fall (rings corners ends) g stagger known)
        waiting w ks (rows_fair (rings corners ends) g stagger known) (rows_down g es) order o

    -- so by insertion from the back
    pub sweep_back_exact :
        swept_by (λ y l. fold (insert_back (by_x es y)) [] l) rule g es [] waiting ks
        ≡ map (pieces_of rule g es) ks
    sweep_back_exact =
        sweep_by_exact (λ y l. fold (insert_back (by_x es y)) [] l)
        (λ k h l. backs_sort (by_x es (row_at g k)) (rows_strict (rings corners ends) g stagger known k h) l)

    -- and the row list is what the swept rows give, last row first when bottom up
    pub row_list_swept : (bottomUp : Bool)
        → row_list (rings corners ends) rule g bottomUp
        ≡ entries (rings corners ends) rule g [] 0
        (cond bottomUp (reverse (swept rule g es [] waiting ks)) (swept rule g es [] waiting ks))
    unfolding row_list met
    row_list_swept true = ap (entries (rings corners ends) rule g [] 0) (map_reverse (pieces_of rule g es) ks ∙ ap reverse (sym sweep_exact))
    row_list_swept false = ap (entries (rings corners ends) rule g [] 0) (sym sweep_exact)

  -- such an order there is
  pub in_order : InOrder es (by_start es)
  in_order = starts_in_order (rings corners ends) g stagger known

  -- ---- every number stays finite and small; and document 01: "`ceil() as i64`: worked out and proved to lose nothing"

  -- every kept edge
  pub edges_finite : All Good es
  edges_finite = edges_good (rings corners ends) g stagger known

  -- k_lo and k_hi, where there is an edge
  pub lo_keeps : (0 < length es) → IsWhole 21 (ceil (ymin es ⊘ g.spacing ⊖ half)) (k_lo g es)
  lo_keeps h = (row_ends_whole (rings corners ends) g stagger known es edges_finite h).0

  pub hi_keeps : (0 < length es) → IsWhole 21 (floor (ymax es ⊘ g.spacing ⊖ half)) (k_hi g es)
  hi_keeps h = (row_ends_whole (rings corners ends) g stagger known es edges_finite h).1

  -- every row's height, and where its crossings are
  pub rows_finite : All (λ k. Within 33 (row_at g k)) ks
  rows_finite = all_map (row_within (rings corners ends) g stagger known) ks (rows_fair (rings corners ends) g stagger known)

  pub crossings_finite : All (λ k. All (λ i. Within 22 (cross_x es (row_at g k) i)) (crossed es (row_at g k))) ks
  crossings_finite = all_map (crosses_within (rings corners ends) g stagger known) ks (rows_fair (rings corners ends) g stagger known)

  -- no step is quadratic in pieces: the rows of an accepted fill rise
  pub rows_rise : (rule : FillRule) → All (λ k. Rise (pieces_of rule g es k)) ks
  rows_rise rule = all_map (row_rises (rings corners ends) g stagger known rule) ks (rows_fair (rings corners ends) g stagger known)

  module _ (rule : FillRule) (bottomUp : Bool) where
    -- every piece of the row list
    pub pieces_finite : All (λ e. Small e.piece) (row_list (rings corners ends) rule g bottomUp)
    pieces_finite = pieces_small (rings corners ends) g stagger known rule bottomUp

    -- the points that a section is sewn through
    pub targets_finite : (s : ℕ) → All Inner (each (row_points g stagger) (section (row_list (rings corners ends) rule g bottomUp) s))
    targets_finite s = targets_inner (rings corners ends) g stagger known (section (row_list (rings corners ends) rule g bottomUp) s) (section_small (rings corners ends) g stagger known rule bottomUp s)

    -- and all points sewn
    pub points_finite : All (All (λ p. Within 82 p.x × Within 82 p.y)) (tatami (rings corners ends) rule g stagger bottomUp)
    points_finite = sewn_finite (rings corners ends) g stagger known rule bottomUp

  -- the three points of a link that are tested, between such pieces
  pub links_finite : (o : Entry) → Small o.piece → (next : Piece) → Small next → (k : ℕ) → k < 4
      → let q = rotate (along (link_ends o next).0 (link_ends o next).1 4 k) g.cosine g.sine in Within 82 q.x × Within 82 q.y
  links_finite = link_finite (rings corners ends) g stagger known

  -- m0 and m1 of such a piece, and n between such points
  pub m0_keeps : (p : Piece) → Small p → IsWhole 25 (ceil ((p.xa ⊕ min_end g ⊖ offset g stagger p.k) ⊘ g.len)) (m0 g stagger p)
  m0_keeps = m0_whole (rings corners ends) g stagger known

  pub m1_keeps : (p : Piece) → Small p → IsWhole 25 (floor ((p.xb ⊖ min_end g ⊖ offset g stagger p.k) ⊘ g.len)) (m1 g stagger p)
  m1_keeps = m1_whole (rings corners ends) g stagger known

  pub n_keeps : (p q : P) → Inner p → Inner q → IsWhole 40 (ceil (dist p q ⊘ g.len)) (pos (parts g p q))
  n_keeps = parts_whole (rings corners ends) g stagger known

  -- ---- how many

  pub edges_bounded : length es ≤ 1024
  edges_bounded = edges_few corners ends g (laid_out corners ends g stagger accepted)

  pub pieces_bounded : (rule : FillRule) (bottomUp : Bool) → length (row_list (rings corners ends) rule g bottomUp) ≤ 2097152
  pieces_bounded rule bottomUp =
      let halved : length es / 2 ≤ 512 = omega (arith, edges_bounded) in
      le_trans (pieces_half (rings corners ends) rule g bottomUp) (mul-le-mul halved known.rows)
