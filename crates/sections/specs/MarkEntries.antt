-- The marks by place are those of the row's entries. Assumes nothing.
use Prim.Native.Nat.{ℕ, zero, suc, ◌+◌, ◌-◌, ◌*◌}
use native.Mathlib.Omega.{arith}
use Rattle.std.specs.Prelude.{◌≡◌, Bool, true, false, cond, ◌&&◌, eqb, Float, Option, Some, None}
use Rattle.std.proofs.Math.Path.{refl, ap}
use Rattle.std.proofs.Common.{◌∙◌, ne_eqb}
use mathlib.Core.List.{List, [], ◌∷◌, ◌++◌, map}
use Rattle.std.proofs.Math.Option.{Option as Maybe, none, some}
use Rattle.std.proofs.Math.ListN.{length, get_or, length-map}
use Rattle.seqs.specs.Lists.{upto, sift}
use Rattle.seqs.specs.Sift.{sift_map}
use Rattle.geom.specs.declared.point.P.{P}
use Rattle.outlines.specs.declared.rule.FillRule.{FillRule}
use Rattle.rules.specs.declared.Settings.{Settings}
use Rattle.rules.specs.declared.Piece.{Piece}
use Rattle.rules.specs.declared.Entry.{Entry}
use Rattle.rules.specs.Fill.{overlap, connects, only, joined, joins, entry, after, row_entries, begun}
use Rattle.sections.specs.declared.Row.{Row}
use Rattle.sections.specs.Mark.{piece_in, entry_in, hits, over, under, count_of, only_at, joined_at, joins_at, mark_by, mark_at, after_at, flat_mark, row_marks, row_new, flat_marks}

module _ (rings : List (List P)) (rule : FillRule) (g : Settings) (l : List Float) (w : List ℕ) (s : Row) where
  -- the open sections, and the row, as the slices have them
  abbrev pub opens_in : List Entry
  opens_in = map (entry_in l w s.n) (upto s.b0 (s.r0 - s.b0))

  abbrev pub row_in : List Piece
  row_in = map (piece_in l) (upto s.r0 (s.r1 - s.r0))

  abbrev option_of : Option ℕ → Maybe Entry
  option_of None = none
  option_of (Some t) = some (entry_in l w s.n t)

  option_cond : (b : Bool) (t : ℕ) → cond b (some (entry_in l w s.n t)) none ≡ option_of (cond b (Some t) None)
  option_cond true t = refl
  option_cond false t = refl

  counts : (o : Piece) → length (sift (overlap o) row_in) ≡ count_of (under l o) s.r0 s.r1
  unfolding count_of
  counts o = ap length (sift_map (overlap o) (piece_in l) (upto s.r0 (s.r1 - s.r0))) ∙ simp length-map

  joined_is : (j : ℕ) (xs : List ℕ) → joined rings rule g row_in (piece_in l j) (only (map (entry_in l w s.n) xs)) ≡ option_of (joined_at rings rule g l w s j (only_at xs))
  unfolding joined
  joined_is j [] = refl
  joined_is j (t ∷ []) = rw (counts (piece_in l t)) (option_cond (eqb (count_of (under l (piece_in l t)) s.r0 s.r1) 1 && connects rings rule g (entry_in l w s.n t) (piece_in l j)) t)
  joined_is j (t ∷ u ∷ xs) = refl

  joins_is : (j : ℕ) → joins rings rule g opens_in row_in (piece_in l j) ≡ option_of (joins_at rings rule g l w s j)
  unfolding joins joins_at
  joins_is j =
      ap (λ os. joined rings rule g row_in (piece_in l j) (only os)) (sift_map (λ (o : Entry). overlap o.piece (piece_in l j)) (entry_in l w s.n) (upto s.b0 (s.r0 - s.b0)))
      ∙ joined_is j (hits (over l (piece_in l j)) s.b0 s.r0)

  -- what a piece joins says its mark, and the number of the next new section
  step : (f : Option ℕ) (p : Piece) (new j left : ℕ) (ps : List Piece) → ((n : ℕ) → flat_marks (row_entries rings rule g opens_in row_in n ps) ≡ row_marks rings rule g l w s n (j + 1) left)
      → flat_marks (entry p new (option_of f) ∷ row_entries rings rule g opens_in row_in (after new (option_of f)) ps)
      ≡ flat_mark (mark_by rings rule g l w s new f) ++ row_marks rings rule g l w s (after_at new (mark_by rings rule g l w s new f)) (j + 1) left
  step None p new j left ps rest = ap (λ (r : List ℕ). new ∷ 0 ∷ r) (rest (new + 1))
  step (Some t) p new j left ps rest =
      let n = get_or w (s.n + 2 * t + 1) 0 in
      rw (ne_eqb (n + 1) 0 (λ e. omega arith)) (ap (λ (r : List ℕ). get_or w (s.n + 2 * t) 0 ∷ (n + 1) ∷ r) (rest new))

  pub row_marks_lem : (new j left : ℕ) → flat_marks (row_entries rings rule g opens_in row_in new (map (piece_in l) (upto j left))) ≡ row_marks rings rule g l w s new j left
  unfolding row_entries row_marks mark_at
  row_marks_lem new j zero = refl
  row_marks_lem new j (suc left) =
      let ps = map (piece_in l) (upto (j + 1) left) in
      ap (λ o. flat_marks (entry (piece_in l j) new o ∷ row_entries rings rule g opens_in row_in (after new o) ps)) (joins_is j)
      ∙ step (joins_at rings rule g l w s j) (piece_in l j) new j left ps (λ n. row_marks_lem n (j + 1) left)

  -- how many sections a row begins
  begins : (f : Option ℕ) (p : Piece) (new j left : ℕ) (ps : List Piece) → ((n : ℕ) → n + begun (row_entries rings rule g opens_in row_in n ps) ≡ row_new rings rule g l w s n (j + 1) left)
      → new + begun (entry p new (option_of f) ∷ row_entries rings rule g opens_in row_in (after new (option_of f)) ps)
      ≡ row_new rings rule g l w s (after_at new (mark_by rings rule g l w s new f)) (j + 1) left
  unfolding begun
  begins None p new j left ps rest = (omega arith) ∙ rest (new + 1)
  begins (Some t) p new j left ps rest =
      let n = get_or w (s.n + 2 * t + 1) 0 in
      rw (ne_eqb (n + 1) 0 (λ e. omega arith)) (rest new)

  pub row_new_lem : (new j left : ℕ) → new + begun (row_entries rings rule g opens_in row_in new (map (piece_in l) (upto j left))) ≡ row_new rings rule g l w s new j left
  unfolding row_entries row_new mark_at begun
  row_new_lem new j zero = omega arith
  row_new_lem new j (suc left) =
      let ps = map (piece_in l) (upto (j + 1) left) in
      ap (λ o. new + begun (entry (piece_in l j) new o ∷ row_entries rings rule g opens_in row_in (after new o) ps)) (joins_is j)
      ∙ begins (joins_at rings rule g l w s j) (piece_in l j) new j left ps (λ n. row_new_lem n (j + 1) left)
