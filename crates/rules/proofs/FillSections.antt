-- The sections of a fill. Mission, demand 3: "Each piece stands in one section, once. Inside a section, each piece's row number is one more than the last, or one less when sewing bottom up, and neighbouring pieces overlap by more than a point."
-- Document 01, module 4: "The sections `tatami` sews hold exactly the pieces of this list, in its order and under its section numbers, tied crossings or not".
-- All of it holds of every fill, accepted or not. Assumes nothing.
use Rattle.std.specs.Prelude.{◌≡◌, Bool, cond, ℤ, pos, ◌+ℤ◌, Float}
use Rattle.std.proofs.Math.Path.{refl, sym, ap}
use Rattle.std.proofs.Common.{◌∙◌, add-one}
use Rattle.std.proofs.Math.Bool.{true, false}
use mathlib.Core.List.{List, [], ◌∷◌, ◌++◌, map, reverse, reverse-cons, Permᴰ, IsChain, IsChain-cons-cons}
use Prim.Native.Nat.{ℕ, zero, suc, ◌+◌, ◌<◌}
use native.Mathlib.Omega.{arith}
use Rattle.std.proofs.Math.Dec.{eqb}
use Rattle.std.proofs.Math.IntN.{suc_ℤ, pred_ℤ, pred-suc, suc-pred, +ℤ-suc_ℤ}
use Rattle.std.proofs.Math.ListN.{length, get_or, length-append, length-map}
use borrow.Author.Tests.{ne_eqb}
use Rattle.numbers.specs.Num.{zero64}
use Rattle.seqs.specs.Lists.{sift, each, upto, All}
use Rattle.seqs.specs.All.{all_map, all_append, all_sift}
use Rattle.seqs.specs.Sift.{sift_append, sift_none}
use Rattle.seqs.specs.Each.{each_map}
use Rattle.seqs.specs.Upto.{parts_perm, upto_length}
use Rattle.geom.specs.declared.point.P.{P}
use Rattle.outlines.specs.declared.rule.FillRule.{FillRule}
use Rattle.rules.specs.declared.Settings.{Settings}
use Rattle.rules.specs.declared.Edge.{Edge}
use Rattle.rules.specs.declared.Piece.{Piece}
use Rattle.rules.specs.declared.Entry.{Entry}
use Rattle.rules.specs.Fill.{edges, how_many, through, k_lo, k_hi, row_numbers, row_at, crossed, crossings, spans, piece_of, wide, pieces_at, pieces_of, row_entries, begun, entries, met, row_list, section, sections, sew, sewn, tatami}
use Rattle.rules.proofs.Sections.{chain_snoc, Next, Begins, section_chain, entries_pieces, bound, all_begin}

-- ---- row numbers

-- a row's pieces carry its number
pub named : (rule : FillRule) (g : Settings) (es : List Edge) (k : ℤ) → All (λ p. p.k ≡ k) (pieces_of rule g es k)
unfolding pieces_of pieces_at piece_of
named rule g es k = all_sift (λ p. p.k ≡ k) (wide g) (map (piece_of g k) ab) (made ab)
  where
    ab : List (Float × Float)
    ab = spans rule (pos 0) zero64 (crossings es (row_at g k) (crossed es (row_at g k)))

    made : (l : List (Float × Float)) → All (λ p. p.k ≡ k) (map (piece_of g k) l)
    made [] = tt
    made (b ∷ l) = (refl, made l)

abbrev pub Down : ℤ → ℤ → Type 0
Down a b = b ≡ suc_ℤ a

abbrev Up : ℤ → ℤ → Type 0
Up a b = b ≡ pred_ℤ a

down : (lo : ℤ) (i n : ℕ) → IsChain Down (map (λ i. lo +ℤ pos i) (upto i n))
down lo i zero = IsChain.nil
down lo i (suc zero) = IsChain.singleton (lo +ℤ pos i)
down lo i (suc (suc n)) = IsChain.cons-cons (ap (λ j. lo +ℤ pos j) (add-one i) ∙ +ℤ-suc_ℤ lo (pos i)) (down lo (i + 1) (suc n))

up : (ks : List ℤ) → IsChain Down ks → IsChain Up (reverse ks)
up [] h = IsChain.nil
up (k ∷ []) h = IsChain.singleton k
up (k ∷ j ∷ ks) h =
    let e = IsChain-cons-cons.0 h in
    rw (reverse-cons k (j ∷ ks), reverse-cons j ks)
    (chain_snoc Up (reverse ks) j k (rw (reverse-cons j ks) at (up (j ∷ ks) e.1)) (sym (ap pred_ℤ e.0 ∙ pred-suc k)))

-- the rows are a run of whole numbers
pub rows_down : (g : Settings) (es : List Edge) → IsChain Down (row_numbers g es)
unfolding row_numbers through
rows_down g [] = IsChain.nil
rows_down g (e ∷ es) = down (k_lo g (e ∷ es)) 0 (how_many (k_lo g (e ∷ es)) (k_hi g (e ∷ es)))

-- ---- inside a section

-- the row number that comes after k: one more, or one less when bottom up
abbrev pub next : Bool → ℤ → ℤ
next bottomUp k = cond bottomUp (pred_ℤ k) (suc_ℤ k)

module _ (rings : List (List P)) (rule : FillRule) (g : Settings) (bottomUp : Bool) where
  runs : (s : ℕ) → IsChain (Next (next bottomUp)) (section (row_list rings rule g bottomUp) s) × Begins (section (row_list rings rule g bottomUp) s)
  unfolding row_list met
  runs s = go bottomUp
    where
      go : (b : Bool) → IsChain (Next (next b)) (section (entries rings rule g [] 0 (map (pieces_of rule g (edges g rings)) (cond b (reverse (row_numbers g (edges g rings))) (row_numbers g (edges g rings))))) s) × Begins (section (entries rings rule g [] 0 (map (pieces_of rule g (edges g rings)) (cond b (reverse (row_numbers g (edges g rings))) (row_numbers g (edges g rings))))) s)
      go true = section_chain rings rule g (pieces_of rule g (edges g rings)) (named rule g (edges g rings)) pred_ℤ suc_ℤ pred-suc (reverse (row_numbers g (edges g rings))) (up (row_numbers g (edges g rings)) (rows_down g (edges g rings))) s
      go false = section_chain rings rule g (pieces_of rule g (edges g rings)) (named rule g (edges g rings)) suc_ℤ pred_ℤ suc-pred (row_numbers g (edges g rings)) (rows_down g (edges g rings)) s

  -- "each piece's row number is one more than the last, or one less when sewing bottom up, and neighbouring pieces overlap by more than a point"
  pub section_runs : (s : ℕ) → IsChain (Next (next bottomUp)) (section (row_list rings rule g bottomUp) s)
  section_runs s = (runs s).0

  -- a piece's place in its section is its place there: the source's ri
  pub section_places : (s : ℕ) → map (λ e. e.nth) (section (row_list rings rule g bottomUp) s) ≡ upto 0 (length (section (row_list rings rule g bottomUp) s))
  section_places s = go (section (row_list rings rule g bottomUp) s) (runs s).0 (runs s).1
    where
      on : (e : Entry) (l : List Entry) → IsChain (Next (next bottomUp)) (e ∷ l) → map (λ e. e.nth) l ≡ upto (e.nth + 1) (length l)
      on e [] h = refl
      on e (f ∷ l) h =
          let k = IsChain-cons-cons.0 h in
          λ i. k.0.place i ∷ (on f l k.1 ∙ ap (λ j. upto (j + 1) (length l)) k.0.place) i

      go : (l : List Entry) → IsChain (Next (next bottomUp)) l → Begins l → map (λ e. e.nth) l ≡ upto 0 (length l)
      go [] h b = refl
      go (e ∷ l) h b = λ i. b i ∷ (on e l h ∙ ap (λ j. upto (j + 1) (length l)) b) i

-- ---- each piece in one section, once

module _ (rings : List (List P)) (rule : FillRule) (g : Settings) where
  begun_append : (l m : List Entry) → begun (l ++ m) ≡ begun l + begun m
  unfolding begun
  begun_append l m = ap length (sift_append (λ e. eqb e.nth 0) l m) ∙ length-append (sift (λ e. eqb e.nth 0) l) (sift (λ e. eqb e.nth 0) m)

  all_begun : (opens : List Entry) (base : ℕ) (rows : List (List Piece)) → All (λ e. e.section < base) opens
      → All (λ e. e.section < base + begun (entries rings rule g opens base rows)) (entries rings rule g opens base rows)
  unfolding entries
  all_begun opens base [] h = tt
  all_begun opens base (row ∷ rows) h =
      let es : List Entry = row_entries rings rule g opens row base row in
      let more : List Entry = entries rings rule g es (base + begun es) rows in
      let b = bound rings rule g opens row base h base row (omega arith) in
      let e = begun_append es more in
      all_append (λ x. x.section < base + begun (es ++ more)) es more
      (all_map (λ x l. omega arith) es b)
      (all_map (λ x l. omega arith) more (all_begun es (base + begun es) rows b))

  module _ (bottomUp : Bool) where
    -- section numbers count from 0 without a gap
    pub numbers_below : All (λ e. e.section < begun (row_list rings rule g bottomUp)) (row_list rings rule g bottomUp)
    unfolding row_list
    numbers_below =
        all_map (λ e l. omega arith) (row_list rings rule g bottomUp)
        (all_begun [] 0 (map (pieces_of rule g (edges g rings)) (met bottomUp (row_numbers g (edges g rings)))) tt)

    pub section_whole : (s : ℕ) → s < begun (row_list rings rule g bottomUp) → section (row_list rings rule g bottomUp) s ≡ [] → ⊥
    unfolding row_list
    section_whole s h = all_begin rings rule g s [] 0 (map (pieces_of rule g (edges g rings)) (met bottomUp (row_numbers g (edges g rings)))) (omega arith) (omega arith)

    -- "Each piece stands in one section, once": the sections, one after another, are the row list in another order
    pub sections_part : Permᴰ (each (λ s. s) (sections (row_list rings rule g bottomUp))) (row_list rings rule g bottomUp)
    unfolding sections section
    sections_part =
        rw (each_map (section (row_list rings rule g bottomUp)) (upto 0 (begun (row_list rings rule g bottomUp))))
        (parts_perm (λ e. e.section) (begun (row_list rings rule g bottomUp)) (row_list rings rule g bottomUp) numbers_below)

    -- "in its order and under its section numbers": what is sewn as section s is what the list has under s, in the list's order
    pub section_at : (s : ℕ) → get_or (sections (row_list rings rule g bottomUp)) s [] ≡ section (row_list rings rule g bottomUp) s
    unfolding sections section
    section_at s = go 0 (begun (row_list rings rule g bottomUp)) s (all_map (λ e l. omega arith) (row_list rings rule g bottomUp) numbers_below) ∙ (let e : 0 + s ≡ s = omega arith in ap (section (row_list rings rule g bottomUp)) e)
      where
        go : (i n s : ℕ) → All (λ e. e.section < i + n) (row_list rings rule g bottomUp) → get_or (map (section (row_list rings rule g bottomUp)) (upto i n)) s [] ≡ section (row_list rings rule g bottomUp) (i + s)
        go i zero s h = sym (sift_none (λ e. eqb e.section (i + s)) (row_list rings rule g bottomUp) (all_map (λ e l. ne_eqb e.section (i + s) (λ z. omega arith)) (row_list rings rule g bottomUp) h))
        go i (suc n) zero h = let e : i ≡ i + 0 = omega arith in ap (section (row_list rings rule g bottomUp)) e
        go i (suc n) (suc s) h = let e : i + 1 + s ≡ i + suc s = omega arith in go (i + 1) n s (all_map (λ x l. omega arith) (row_list rings rule g bottomUp) h) ∙ ap (section (row_list rings rule g bottomUp)) e

    -- the row list's pieces are the rows' own pieces, each row taken alone, in the order met
    pub pieces_of_rows : map (λ e. e.piece) (row_list rings rule g bottomUp) ≡ each (pieces_of rule g (edges g rings)) (met bottomUp (row_numbers g (edges g rings)))
    unfolding row_list
    pieces_of_rows =
        entries_pieces rings rule g [] 0 (map (pieces_of rule g (edges g rings)) (met bottomUp (row_numbers g (edges g rings))))
        ∙ each_map (pieces_of rule g (edges g rings)) (met bottomUp (row_numbers g (edges g rings)))

    -- so what tatami sews as section s is the row list's section s, and there are as many
    pub tatami_at : (stagger s : ℕ) → get_or (tatami rings rule g stagger bottomUp) s [] ≡ sewn g stagger (section (row_list rings rule g bottomUp) s)
    unfolding tatami
    tatami_at stagger s = mapped (sections (row_list rings rule g bottomUp)) s ∙ ap (sewn g stagger) (section_at s)
      where
        mapped : (l : List (List Entry)) (s : ℕ) → get_or (map (sewn g stagger) l) s [] ≡ sewn g stagger (get_or l s [])
        mapped [] s = unfold sewn sew in refl
        mapped (a ∷ l) zero = refl
        mapped (a ∷ l) (suc s) = mapped l s

    pub tatami_count : (stagger : ℕ) → length (tatami rings rule g stagger bottomUp) ≡ begun (row_list rings rule g bottomUp)
    unfolding tatami sections
    tatami_count stagger =
        let n = begun (row_list rings rule g bottomUp) in
        length-map (map (section (row_list rings rule g bottomUp)) (upto 0 n)) (sewn g stagger) ∙ length-map (upto 0 n) (section (row_list rings rule g bottomUp)) ∙ upto_length 0 n
