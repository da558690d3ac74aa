-- The turns of the loops along a section, and over all sections. Assumes nothing.
use mathlib.Core.Path.{◌≡◌, sym, ap, ◌∙◌}
use mathlib.Core.Logic.{inl, inr}
use mathlib.Core.List.{List, [], ◌∷◌, ◌++◌, map}
use Prim.Native.Nat.{ℕ, ◌+◌, ◌-◌, ◌*◌, ◌/◌, ◌^◌, ◌≤◌, ◌<◌}
use native.Mathlib.Omega.{arith}
use lib.Dec.{leb, ltb}
use lib.IntN.{pos}
use lib.ListN.{length, drop, get_or, length-append}
use lib.Ieee.{Float}
use borrow.Author.Tests.{ltb-true, ltb-false, leb-true, leb-false}
use Rattle.numbers.specs.Num.{◌⊗◌, ◌⊘◌, real}
use Rattle.seqs.specs.Lists.{upto, each}
use Rattle.seqs.specs.Tests.{either}
use Rattle.seqs.specs.Front.{none}
use Rattle.std.specs.Prelude.{Option, Some, None}
use Rattle.seqs.specs.Capped.{capped_over}
use Rattle.sewing.specs.Within.{within, within_over, within_some, within_none}
use Rattle.seqs.specs.Upto.{upto_next, upto_none}
use Rattle.geom.specs.declared.point.P.{P}
use Rattle.geom.specs.Point.{point}
use Rattle.rules.specs.declared.Settings.{Settings}
use Rattle.rules.specs.declared.Entry.{Entry}
use Rattle.geom.specs.Sewing.{flat}
use Rattle.geom.specs.SewingLaws.{flat_length, flat_append}
use Rattle.rules.specs.Fill.{rem_euclid, offset, needles, row_points, section, sewn}
use Rattle.rules.specs.Calls.{sewn_ends}
use Rattle.rules.proofs.Stitches.{rem_below}
use Rattle.sewing.specs.declared.Field.{Field}
use Rattle.sewing.specs.declared.row.Row.{Row}
use Rattle.sewing.specs.declared.thread.Thread.{Thread}
use Rattle.sewing.specs.Sewing.{row_number, most, entry_at, entries_in, numbers_in, first_sections, first_of, next_of, Linked, start_of, end_of, row_by, row_of, targets, phase_of, sew_to, back, sewn_from}
use Rattle.sewing.specs.RowLaws.{targets_length, row_points_lem, row_length, needles_length}
use Rattle.sewing.specs.SewLaws.{sew_least, back_length, sewn_none, sewn_next, sewn_start, sewn_empty}
use Rattle.sewing.specs.LinkLaws.{first_section, next_section, first_on, first_high, next_low, next_high, next_on}
use Rattle.sewing.specs.LinkedLaws.{numbers_length, numbers_are, number_at, entries_length, entries_next}
use Rattle.sewing.proofs.Signs.{phase_is}

-- ---- a row's stagger

module _ (t : Thread) where
  pub start_below : t.start < t.cycle
  start_below = rw t.start_is (rem_below t.field.row t.cycle t.some)

  pub offset_is : (row p : ℕ) → p ≡ phase_of t.start row t.cycle t.field.down → real (pos p) ⊗ t.field.g.len ⊘ real (pos t.cycle) ≡ offset t.field.g t.field.stagger (row_number t.field.row t.field.down row)
  unfolding offset
  offset_is row p e =
      let q : p ≡ rem_euclid (row_number t.field.row t.field.down row) t.cycle = e ∙ rw t.start_is (phase_is t.field.row t.field.down row t.cycle t.some) in
      rw (q, ← t.cycle_is)

-- ---- a row of more needle points than any output has room for

module _ (g : Settings) (stagger : ℕ) (e : Entry) (pen : P) where
  pub row_same : length (needles g stagger e.piece) ≤ most → sew_to g.len pen (targets g.len (row_of g stagger e) 0 ((row_of g stagger e).n + 2)) ≡ sew_to g.len pen (row_points g stagger e)
  row_same h = ap (sew_to g.len pen) (row_points_lem g stagger e h)

  pub row_within : (c cap : ℕ) → cap < 2 ^ 63 → within cap (c + length (sew_to g.len pen (targets g.len (row_of g stagger e) 0 ((row_of g stagger e).n + 2)))) ≡ within cap (c + length (sew_to g.len pen (row_points g stagger e)))
  unfolding row_of row_by
  row_within c cap h = elim (either (leb (length (needles g stagger e.piece)) most)) [
    | inl k ↦ ap (λ l. within cap (c + length l)) (row_same (leb-true (length (needles g stagger e.piece)) most k))
    | inr k ↦
        let b = leb-false (length (needles g stagger e.piece)) most k in
        let n : (row_of g stagger e).n ≡ most + 1 = capped_over most _ (omega (arith, needles_length g stagger e.piece)) in
        sym (within_over cap _ (omega (arith, n, sew_least g.len pen (targets g.len (row_of g stagger e) 0 ((row_of g stagger e).n + 2)), targets_length g.len (row_of g stagger e) 0 ((row_of g stagger e).n + 2))))
        ∙ within_over cap _ (omega (arith, sew_least g.len pen (row_points g stagger e), row_length g stagger e))
  ]

-- ---- along a section

module _ (f : Field) (floats : List Float) (d : List ℕ) (s : ℕ) where
  -- section s from place j on, and sewn from the pen
  pub rest : ℕ → List Entry
  rest j = section (drop j (entries_in f floats d)) s

  pub rest_sewn : P → ℕ → List P
  rest_sewn pen j = sewn_from f.g f.stagger pen (rest j)

  pub rest_none : (pen : P) (j : ℕ) → f.pieces ≤ j → rest_sewn pen j ≡ []
  unfolding rest rest_sewn section
  rest_none pen j h = rw (none (entries_in f floats d) j (omega (arith, entries_length f floats d))) (sewn_none f.g f.stagger pen)

  number_of_lem : (j : ℕ) → j < f.pieces → (entry_at f floats d j).section ≡ get_or (numbers_in f.pieces d) j 0
  unfolding entry_at
  number_of_lem j h = sym (number_at f.pieces d j h)

  rest_next : (j : ℕ) → j < f.pieces → get_or (numbers_in f.pieces d) j 0 ≡ s → rest j ≡ entry_at f floats d j ∷ rest (next_of (numbers_in f.pieces d) j)
  unfolding rest
  rest_next j h q = rw (numbers_are f floats d) at (next_section (entries_in f floats d) s j (entry_at f floats d j) (entries_next f floats d j h) (number_of_lem j h ∙ q))

  module _ (l : Linked f (s + 1) floats d) where
    first_is : get_or d (4 * f.pieces + s) 0 ≡ first_of (numbers_in f.pieces d) s
    first_is = l.firsts s (omega arith)

    -- where the walk starts
    pub start_on : (get_or d (4 * f.pieces + s) 0 ≤ f.pieces) × (get_or d (4 * f.pieces + s) 0 < f.pieces → get_or (numbers_in f.pieces d) (get_or d (4 * f.pieces + s) 0) 0 ≡ s)
    start_on =
        let z = numbers_length f.pieces d in
        rw first_is (omega (arith, first_high (numbers_in f.pieces d) s, z), λ h. first_on (numbers_in f.pieces d) s (omega (arith, z)))

    pub start_sewn : (pen : P) → (get_or d (4 * f.pieces + s) 0 < f.pieces → pen ≡ start_of (entry_at f floats d (get_or d (4 * f.pieces + s) 0)))
        → rest_sewn pen (get_or d (4 * f.pieces + s) 0) ≡ sewn f.g f.stagger (section (entries_in f floats d) s)
    unfolding rest rest_sewn section
    start_sewn pen h =
        let j = get_or d (4 * f.pieces + s) 0 in
        let a : section (entries_in f floats d) s ≡ rest j = whole in
        elim (either (ltb j f.pieces)) [
          | inl t ↦
              let k = ltb-true j f.pieces t in
              let e = rest_next j k (start_on.1 k) in
              ap (λ p. rest_sewn p j) (h k) ∙ ap (sewn_from f.g f.stagger (start_of (entry_at f floats d j))) e ∙ sym (sewn_start f.g f.stagger (entry_at f floats d j) (rest (next_of (numbers_in f.pieces d) j))) ∙ ap (sewn f.g f.stagger) (sym (a ∙ e))
          | inr t ↦
              let k = ltb-false j f.pieces t in
              rest_none pen j k ∙ sym (sewn_empty f.g f.stagger) ∙ ap (sewn f.g f.stagger) (sym (a ∙ empty j k))
        ]
      where
        whole : section (entries_in f floats d) s ≡ rest (get_or d (4 * f.pieces + s) 0)
        whole = rw (numbers_are f floats d, ← first_is) at (first_section (entries_in f floats d) s)

        empty : (j : ℕ) → f.pieces ≤ j → rest j ≡ []
        empty j k = rw (none (entries_in f floats d) j (omega (arith, entries_length f floats d)))

    -- one piece further
    module _ (j : ℕ) (h : j < f.pieces) (q : get_or (numbers_in f.pieces d) j 0 ≡ s) where
      next_is : get_or d (3 * f.pieces + j) 0 ≡ next_of (numbers_in f.pieces d) j
      next_is = l.nexts j h

      inside : j < length (numbers_in f.pieces d)
      inside = omega (arith, numbers_length f.pieces d)

      pub step_low : j < get_or d (3 * f.pieces + j) 0
      step_low = rw next_is (next_low (numbers_in f.pieces d) j inside)

      pub step_high : get_or d (3 * f.pieces + j) 0 ≤ f.pieces
      step_high = rw next_is (omega (arith, next_high (numbers_in f.pieces d) j inside, numbers_length f.pieces d))

      pub step_on : get_or d (3 * f.pieces + j) 0 < f.pieces → get_or (numbers_in f.pieces d) (get_or d (3 * f.pieces + j) 0) 0 ≡ s
      step_on k = rw next_is (next_on (numbers_in f.pieces d) j inside (omega (arith, numbers_length f.pieces d, rw next_is at k)) ∙ q)

      step_sewn : (pen : P) → rest_sewn pen j ≡ back f.g.cosine f.g.sine (sew_to f.g.len pen (row_points f.g f.stagger (entry_at f floats d j))) ++ rest_sewn (end_of (entry_at f floats d j)) (get_or d (3 * f.pieces + j) 0)
      unfolding rest_sewn
      step_sewn pen = ap (sewn_from f.g f.stagger pen) (rest_next j h q) ∙ sewn_next f.g f.stagger pen (entry_at f floats d j) (rest (next_of (numbers_in f.pieces d) j)) ∙ rw next_is

      module _ (pen : P) (w : Row) (e : w ≡ row_of f.g f.stagger (entry_at f floats d j)) where
        pen_end : point w.last w.y ≡ end_of (entry_at f floats d j)
        unfolding row_of row_by
        pen_end = rw e

        sizes : length (rest_sewn pen j) ≡ length (sew_to f.g.len pen (row_points f.g f.stagger (entry_at f floats d j))) + length (rest_sewn (point w.last w.y) (get_or d (3 * f.pieces + j) 0))
        sizes =
            let a = sew_to f.g.len pen (row_points f.g f.stagger (entry_at f floats d j)) in
            let b = rest_sewn (end_of (entry_at f floats d j)) (get_or d (3 * f.pieces + j) 0) in
            ap length (step_sewn pen) ∙ length-append (back f.g.cosine f.g.sine a) b ∙ rw (back_length f.g.cosine f.g.sine a, pen_end)

        -- counted
        module _ (c cap : ℕ) (k : cap < 2 ^ 63) {o : Option ℕ} (v : o ≡ within cap (c + length (sew_to f.g.len pen (targets f.g.len w 0 (w.n + 2))))) where
          count_is : o ≡ within cap (c + length (sew_to f.g.len pen (row_points f.g f.stagger (entry_at f floats d j))))
          count_is = rw e at v ∙ row_within f.g f.stagger (entry_at f floats d j) pen c cap k

          pub count_on : (r : ℕ) → o ≡ Some r → (r + length (rest_sewn (point w.last w.y) (get_or d (3 * f.pieces + j) 0)) ≡ c + length (rest_sewn pen j)) × (r ≤ cap)
          count_on r m = let h = within_some cap (c + length (sew_to f.g.len pen (row_points f.g f.stagger (entry_at f floats d j)))) (sym m ∙ count_is) in (omega (arith, sizes, h.0), omega (arith, h.0, h.1))

          pub count_past : o ≡ None → cap < c + length (rest_sewn pen j)
          count_past m = omega (arith, sizes, within_none cap (c + length (sew_to f.g.len pen (row_points f.g f.stagger (entry_at f floats d j)))) (sym m ∙ count_is))

        -- written
        pub put_on : length (flat (rest_sewn pen j)) < 2 ^ 64
            → flat (rest_sewn pen j) ≡ flat (back f.g.cosine f.g.sine (sew_to f.g.len pen (targets f.g.len w 0 (w.n + 2)))) ++ flat (rest_sewn (point w.last w.y) (get_or d (3 * f.pieces + j) 0))
        put_on m =
            let x = entry_at f floats d j in
            let a = sew_to f.g.len pen (row_points f.g f.stagger x) in
            let n : length (needles f.g f.stagger x.piece) ≤ most = omega (arith, sizes, flat_length (rest_sewn pen j), sew_least f.g.len pen (row_points f.g f.stagger x), row_length f.g f.stagger x) in
            ap flat (step_sewn pen) ∙ flat_append (back f.g.cosine f.g.sine a) (rest_sewn (end_of x) (get_or d (3 * f.pieces + j) 0))
            ∙ rw (pen_end, e, row_same f.g f.stagger x pen n)

-- ---- all sections

module _ (g : Settings) (stagger : ℕ) (es : List Entry) (s m : ℕ) where
  -- those from s on
  pub sewn_rest : List (List P)
  sewn_rest = map (sewn g stagger) (map (section es) (upto s (m - s)))

pub all_start : (g : Settings) (stagger : ℕ) (es : List Entry) (m : ℕ) → sewn_rest g stagger es 0 m ≡ map (sewn g stagger) (first_sections es m)
unfolding sewn_rest
all_start g stagger es m = let z : m - 0 ≡ m = omega arith in rw z

module _ (g : Settings) (stagger : ℕ) (es : List Entry) (s m : ℕ) where
  all_rest : s < m → sewn_rest g stagger es s m ≡ sewn g stagger (section es s) ∷ sewn_rest g stagger es (s + 1) m
  unfolding sewn_rest
  all_rest h = rw (upto_next m s h)

  pub all_none : m ≤ s → sewn_rest g stagger es s m ≡ []
  unfolding sewn_rest
  all_none h = rw (upto_none m s h)

  pub all_count : s < m → length (each (λ x. x) (sewn_rest g stagger es s m)) ≡ length (sewn g stagger (section es s)) + length (each (λ x. x) (sewn_rest g stagger es (s + 1) m))
  all_count h = ap (λ l. length (each (λ x. x) l)) (all_rest h) ∙ length-append (sewn g stagger (section es s)) (each (λ x. x) (sewn_rest g stagger es (s + 1) m))

  pub all_flat : s < m → flat (each (λ x. x) (sewn_rest g stagger es s m)) ≡ flat (sewn g stagger (section es s)) ++ flat (each (λ x. x) (sewn_rest g stagger es (s + 1) m))
  all_flat h = ap (λ l. flat (each (λ x. x) l)) (all_rest h) ∙ flat_append (sewn g stagger (section es s)) (each (λ x. x) (sewn_rest g stagger es (s + 1) m))

  pub all_ends : (n : ℕ) → s < m → sewn_ends (n / 2) (sewn_rest g stagger es s m) ≡ (n + length (flat (sewn g stagger (section es s)))) / 2 ∷ sewn_ends ((n + length (flat (sewn g stagger (section es s)))) / 2) (sewn_rest g stagger es (s + 1) m)
  unfolding sewn_ends
  all_ends n h =
      let x = sewn g stagger (section es s) in
      let z : (n + length (flat x)) / 2 ≡ n / 2 + length x = omega (arith, flat_length x) in
      ap (sewn_ends (n / 2)) (all_rest h) ∙ rw z

  pub ends_none : (n : ℕ) → m ≤ s → sewn_ends n (sewn_rest g stagger es s m) ≡ []
  unfolding sewn_ends
  ends_none n h = rw (all_none h)
