-- A grid whose counts are stopped past 400,000 is the grid, or is too large as the grid is. Assumes nothing.
use Rattle.std.specs.Prelude.{ℕ, ◌+◌, ◌*◌, ◌≤◌, ◌<◌, ◌≡◌, refl, Bool, cond, ◌&&◌, ◌⊎◌, List, [], length, Float}
use Rattle.std.proofs.Common.{arith, mul-le-mul, mul-one, one-mul, sym, ◌∙◌, inl, inr}
use Rattle.std.proofs.Math.Path.{ap}
use Rattle.std.proofs.Math.Bool.{true, false}
use Rattle.std.proofs.Math.Dec.{leb}
use Rattle.std.specs.Float.Ieee.{to_unsigned}
use borrow.Author.Tests.{lt-ltb, le-ltb, le-leb, lt-leb}
use Rattle.refusal.specs.Refusal.{DONE, WORK, ROOM, unless, ◌then◌}
use Rattle.numbers.specs.Num.{◌⊖◌, ◌⊘◌}
use Rattle.numbers.specs.Order.{finite}
use Rattle.numbers.specs.Whole.{ceil}
use Rattle.seqs.specs.Lists.{upto, each, fold}
use Rattle.seqs.specs.Slices.{capped}
use Rattle.seqs.specs.Capped.{capped_in, capped_over, capped_cases, capped_small}
use Rattle.geom.specs.declared.point.P.{P}
use Rattle.geom.specs.Outline.{points, rings}
use Rattle.geom.specs.Sewing.{flat}
use Rattle.outlines.specs.declared.rule.FillRule.{FillRule}
use Rattle.limits.specs.Limits.{good_outline}
use Rattle.limits.specs.LimitsLaws.{outline_layout}
use Rattle.rules.specs.Calls.{sewn_points, sewn_ends}
use Rattle.patterns_rules.specs.declared.Bounds.{Bounds}
use Rattle.patterns_rules.specs.Patterns.{bounds}
use Rattle.patterns_rules.specs.Answers.{Lines, room_for, said_lines, left_points, left_ends}
use Rattle.cross.specs.Cells.{bounds_of}
use Rattle.cross.specs.BoundLaws.{bounds_are}
use Rattle.meander_rules.specs.declared.Lattice.{Lattice}
use Rattle.meander_rules.specs.Meander.{most_points, points_of, points_over, lattice_in, lattice_of, link_ok, first_seed, start_at, walks_of, free_at_first, paths_of, lines_along, meander_on, meander}
use Rattle.meander_rules.specs.Answers.{need_of}
use Rattle.meander.specs.Stopped.{stopped, lines_on, answer_on}

-- ---- the counts

-- c is the ceiling: as many steps, and one point more
module _ (lo hi spacing : Float) {c : ℕ} (e : c ≡ to_unsigned 64 (ceil ((hi ⊖ lo) ⊘ spacing))) where
  pub over_few : c < 400000 → c + 1 ≡ capped most_points (points_over lo hi spacing)
  unfolding points_over
  over_few h = rw (sym e) (sym (capped_in most_points (c + 1) (omega arith)))

  pub over_many : 400000 ≤ c → 400001 ≡ capped most_points (points_over lo hi spacing)
  unfolding points_over
  over_many h = rw (sym e) (sym (capped_over most_points (c + 1) (omega arith)))

module _ (b : Bounds) (spacing : Float) where
  pub lattice_some : finite b.left ≡ true → {n m : ℕ} → n ≡ capped most_points (points_over b.left b.right spacing) → m ≡ capped most_points (points_over b.top b.bottom spacing)
      → record { left = b.left; top = b.top; spacing = spacing; columns = n; rows = m } ≡ stopped (lattice_in b spacing)
  unfolding lattice_in
  lattice_some e f h = rw (e, f, h)

  pub lattice_none : finite b.left ≡ false → record { left = b.left; top = b.top; spacing = spacing; columns = 0; rows = 0 } ≡ stopped (lattice_in b spacing)
  unfolding lattice_in
  lattice_none e = rw (e, capped_in most_points 0 (omega arith))

-- ---- the grid itself, or one as large

-- both counts are 0, or neither
abbrev Even : Lattice → Type 0
Even g = ((g.columns ≡ 0) × (g.rows ≡ 0)) ⊎ ((1 ≤ g.columns) × (1 ≤ g.rows))

lattice_even : (b : Bounds) (spacing : Float) → Even (lattice_in b spacing)
unfolding lattice_in points_over
lattice_even b spacing = go (finite b.left)
  where
    go : (some : Bool) → ((cond some (to_unsigned 64 (ceil ((b.right ⊖ b.left) ⊘ spacing)) + 1) 0 ≡ 0) × (cond some (to_unsigned 64 (ceil ((b.bottom ⊖ b.top) ⊘ spacing)) + 1) 0 ≡ 0)) ⊎ ((1 ≤ cond some (to_unsigned 64 (ceil ((b.right ⊖ b.left) ⊘ spacing)) + 1) 0) × (1 ≤ cond some (to_unsigned 64 (ceil ((b.bottom ⊖ b.top) ⊘ spacing)) + 1) 0))
    go true = inr (omega arith, omega arith)
    go false = inl (refl, refl)

large_product : (a b : ℕ) → 400001 ≤ a → 1 ≤ b → 400001 ≤ a * b
large_product a b h k = rw (mul-one 400001) at (mul-le-mul h k)

large_product' : (a b : ℕ) → 1 ≤ a → 400001 ≤ b → 400001 ≤ a * b
large_product' a b h k = rw (one-mul 400001) at (mul-le-mul h k)

-- stopped is the grid, or both are too large
pub record Settled (g : Lattice) : Type 0 where
  pub is : (stopped g ≡ g) ⊎ ((most_points < points_of (stopped g)) × (most_points < points_of g))

settled : (g : Lattice) → Even g → Settled g
settled g (inl z) = record { is = inl (rw (z.0, z.1, capped_in most_points 0 (omega arith))) }
settled g (inr z) = elim (capped_cases most_points g.columns) [
  | inl c ↦ elim (capped_cases most_points g.rows) [
    | inl r ↦ record { is = inl (rw (c.1, r.1)) }
    | inr r ↦ record { is = inr (rw (c.1, r.1) (large_product' g.columns 400001 z.0 (omega arith)), large_product' g.columns g.rows z.0 (omega (arith, r.0))) }
  ]
  | inr c ↦ record { is = inr (large_product (capped most_points g.columns) (capped most_points g.rows) (omega (arith, c.1)) (one_capped g.rows z.1), large_product g.columns g.rows (omega (arith, c.0)) z.1) }
]
  where
    one_capped : (n : ℕ) → 1 ≤ n → 1 ≤ capped most_points n
    one_capped n h = elim (capped_cases most_points n) [ inl w ↦ omega (arith, w) | inr w ↦ omega (arith, w) ]

module _ (rings : List (List P)) (rule : FillRule) (len : Float) (seed : ℕ) where
  too_large : (g : Lattice) → most_points < points_of g → (lines_on rings rule g len seed ≡ []) × (need_of g ≡ 0)
  unfolding need_of
  too_large g h = (rw (lt-ltb most_points (points_of g) h), rw (lt-ltb most_points (points_of g) h))

  stopped_lines : (g : Lattice) → Even g → (lines_on rings rule (stopped g) len seed ≡ lines_on rings rule g len seed) × (need_of (stopped g) ≡ need_of g)
  stopped_lines g e = elim (settled g e).is [
    | inl s ↦ (ap (λ (x : Lattice). lines_on rings rule x len seed) s, ap need_of s)
    | inr l ↦ ((too_large (stopped g) l.0).0 ∙ sym (too_large g l.1).0, (too_large (stopped g) l.0).1 ∙ sym (too_large g l.1).1)
  ]

-- the grid that was counted gives the call's lines and need
module _ (corners : List Float) (ends : List ℕ) (rule : FillRule) (spacing len : Float) (seed : ℕ) (o : good_outline corners ends ≡ true) {g : Lattice} (e : g ≡ stopped (lattice_in (bounds_of (points corners)) spacing)) where
  counted : g ≡ stopped (lattice_of (rings corners ends) spacing)
  unfolding lattice_of
  counted = e ∙ ap (λ (b : Bounds). stopped (lattice_in b spacing)) (bounds_are corners ends (outline_layout corners ends o))

  even : Even (lattice_of (rings corners ends) spacing)
  unfolding lattice_of
  even = lattice_even (bounds (rings corners ends)) spacing

  pub lines_are : lines_on (rings corners ends) rule g len seed ≡ meander (rings corners ends) rule spacing len seed
  unfolding meander
  lines_are = ap (λ (x : Lattice). lines_on (rings corners ends) rule x len seed) counted ∙ (stopped_lines (rings corners ends) rule len seed (lattice_of (rings corners ends) spacing) even).0

  pub need_is : need_of g ≡ need_of (lattice_of (rings corners ends) spacing)
  need_is = ap need_of counted ∙ (stopped_lines (rings corners ends) rule len seed (lattice_of (rings corners ends) spacing) even).1

  pub few_columns : g.columns ≤ 400001
  few_columns = omega (arith, ap (λ (x : Lattice). x.columns) e, capped_small most_points (lattice_in (bounds_of (points corners)) spacing).columns)

  pub few_rows : g.rows ≤ 400001
  few_rows = omega (arith, ap (λ (x : Lattice). x.rows) e, capped_small most_points (lattice_in (bounds_of (points corners)) spacing).rows)

-- ---- answers with nothing sewn

no_answer : (a b : ℕ) → room_for [] a b ≡ DONE
unfolding room_for flat sewn_points
no_answer a b = rw (le-leb 0 a (omega arith), le-leb 0 b (omega arith))

module _ (rings : List (List P)) (rule : FillRule) (g : Lattice) (len : Float) (seed : ℕ) (out : List Float) (stops : List ℕ) (wholes : ℕ) where
  -- a grid with no point, or too many
  pub record Said (r : Lines) (out' : List Float) (stops' : List ℕ) : Type 0 where
    pub says : r ≡ said_lines (answer_on rings rule g len seed (length out) (length stops) wholes) (lines_on rings rule g len seed)
    pub points : out' ≡ left_points (answer_on rings rule g len seed (length out) (length stops) wholes) (lines_on rings rule g len seed) out
    pub ends : stops' ≡ left_ends (answer_on rings rule g len seed (length out) (length stops) wholes) (lines_on rings rule g len seed) stops

  nothing_said : lines_on rings rule g len seed ≡ [] → need_of g ≡ 0 → Said (record { answer = 0; lines = 0; points = 0 }) out stops
  unfolding said_lines left_points left_ends flat sewn_points sewn_ends
  nothing_said l n =
      let t : leb 0 wholes ≡ true = le-leb 0 wholes (omega arith) in
      record { says = rw (l, n, t, no_answer (length out) (length stops)); points = rw (l, n, t, no_answer (length out) (length stops)); ends = rw (l, n, t, no_answer (length out) (length stops)) }

  pub large_said : most_points < points_of g → Said (record { answer = 0; lines = 0; points = 0 }) out stops
  large_said h = let q = too_large rings rule len seed g h in nothing_said q.0 q.1

  no_paths : points_of g ≡ 0 → paths_of rings rule g seed ≡ []
  unfolding paths_of walks_of
  no_paths e = ap (λ (n : ℕ). (fold (start_at g (link_ok rings rule g)) (record { paths = []; free = free_at_first rings rule g; seed = first_seed seed }) (upto 0 n)).paths) e

  no_lines : points_of g ≡ 0 → meander_on rings rule g len seed ≡ []
  unfolding meander_on
  no_lines e = ap (each (lines_along rings rule g len)) (no_paths e)

  none_on : points_of g ≡ 0 → lines_on rings rule g len seed ≡ []
  none_on e = rw (le-ltb most_points (points_of g) (omega (arith, e))) (no_lines e)

  none_need : points_of g ≡ 0 → need_of g ≡ 0
  unfolding need_of
  none_need e = rw e

  pub none_said : points_of g ≡ 0 → Said (record { answer = 0; lines = 0; points = 0 }) out stops
  none_said e = nothing_said (none_on e) (none_need e)

  module _ (few : points_of g ≤ most_points) where
    on_it : lines_on rings rule g len seed ≡ meander_on rings rule g len seed
    on_it = rw (le-ltb most_points (points_of g) few)

    need_on : need_of g ≡ 8 * points_of g
    unfolding need_of
    need_on = rw (le-ltb most_points (points_of g) few)

    pub work_said : wholes < 8 * points_of g → Said (record { answer = 6; lines = 0; points = 0 }) out stops
    unfolding said_lines left_points left_ends
    work_said h = let t : leb (need_of g) wholes ≡ false = lt-leb (need_of g) wholes (omega (arith, need_on)) in record { says = rw t; points = rw t; ends = rw t }

    pub sewn_said : 8 * points_of g ≤ wholes → {r : Lines} {out' : List Float} {stops' : List ℕ}
        → r ≡ said_lines (room_for (meander_on rings rule g len seed) (length out) (length stops)) (meander_on rings rule g len seed)
        → out' ≡ left_points (room_for (meander_on rings rule g len seed) (length out) (length stops)) (meander_on rings rule g len seed) out
        → stops' ≡ left_ends (room_for (meander_on rings rule g len seed) (length out) (length stops)) (meander_on rings rule g len seed) stops → Said r out' stops'
    sewn_said h a b c =
        let t : leb (need_of g) wholes ≡ true = le-leb (need_of g) wholes (omega (arith, need_on)) in
        record { says = rw (t, on_it) a; points = rw (t, on_it) b; ends = rw (t, on_it) c }

-- the working slice: none of the answers on a grid leaves it
pub answer_works : (rings : List (List P)) (rule : FillRule) (g : Lattice) (len : Float) (seed room lineRoom wholes : ℕ) → (leb 1 (answer_on rings rule g len seed room lineRoom wholes) && leb (answer_on rings rule g len seed room lineRoom wholes) 5) ≡ false
unfolding room_for
answer_works rings rule g len seed room lineRoom wholes = go (leb (need_of g) wholes) (leb (length (flat (sewn_points (lines_on rings rule g len seed)))) room && leb (length (lines_on rings rule g len seed)) lineRoom)
  where
    go : (a b : Bool) → (leb 1 (unless WORK a then unless ROOM b) && leb (unless WORK a then unless ROOM b) 5) ≡ false
    go false b = refl
    go true false = refl
    go true true = refl
