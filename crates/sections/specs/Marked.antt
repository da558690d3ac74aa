-- For rows that are laid out in the slices, the marks are those of the rows' entries; and the slices' rows rise where they do. Assumes nothing.
use Rattle.std.specs.Prelude.{ℕ, zero, suc, ◌+◌, ◌-◌, ◌*◌, ◌<◌, ◌≡◌, Bool, true, false, cond, ◌&&◌, pos, get_or, take, replicate}
use native.Mathlib.Omega.{arith}
use Rattle.std.proofs.Math.Path.{refl, sym, ap, subst}
use Rattle.std.proofs.Common.{◌∙◌, eq-eqb, ne_eqb, take-append-drop}
use mathlib.Core.List.{List, [], ◌∷◌, ◌++◌, map, append_assoc, map-append}
use Rattle.std.proofs.Math.Option.{Option, none, some}
use Rattle.std.proofs.Math.Dec.{eqb}
use Rattle.std.proofs.Math.ListN.{length, drop, length-map}
use Rattle.std.proofs.lemmas.List.{length-replicate}
use Rattle.std.proofs.Math.Seq.{drop_at}
use Rattle.std.specs.Float.Ieee.{Float}
use Rattle.std.specs.Float.{nan}
use Rattle.seqs.specs.Lists.{upto, sift, each, take_while, All}
use Rattle.seqs.specs.Sift.{sift_map}
use Rattle.seqs.specs.Each.{each_append, each_length}
use Rattle.geom.specs.declared.point.P.{P}
use Rattle.outlines.specs.declared.rule.FillRule.{FillRule}
use Rattle.rules.specs.declared.Settings.{Settings}
use Rattle.rules.specs.declared.Piece.{Piece}
use Rattle.rules.specs.declared.Entry.{Entry}
use Rattle.rules.specs.Alls.{all_mapped, sorted_mapped}
use Rattle.rules.specs.Fill.{overlap, link_ends, connects, only, joined, joins, entry, after, row_entries, begun, entries}
use Rattle.rules.specs.Rise.{Onward, Rise}
use Rattle.rules.specs.PieceTable.{piece_block, row_counts}
use Rattle.rules.proofs.Sections.{entries_pieces}
use Rattle.sections.specs.Mark.{piece_in, flat_marks, row_end, rows_in, marked_in, Laid}
use Rattle.sections.specs.RowEnds.{read_in, drop_in}

-- a piece, and an entry, with the row's number left out
abbrev blank : Piece → Piece
blank p = record { k = pos 0; y = p.y; xa = p.xa; xb = p.xb }

abbrev blankly : Entry → Entry
blankly e = record { piece = blank e.piece; section = e.section; nth = e.nth }

-- ---- the rows, read back

-- the counts of later rows don't go on with row r
counts_later : (r b : ℕ) (rows : List (List Piece)) → r < b → take_while (λ a. eqb a r) (row_counts b rows) ≡ []
unfolding row_counts
counts_later r b [] h = refl
counts_later r b ([] ∷ rows) h = counts_later r (b + 1) rows (omega arith)
counts_later r b ((p ∷ row) ∷ rows) h = rw (ne_eqb b r (λ e. omega arith))

counts_row : (r c : ℕ) (rows : List (List Piece)) → take_while (λ a. eqb a r) (replicate c r ++ row_counts (r + 1) rows) ≡ replicate c r
counts_row r zero rows = counts_later r (r + 1) rows (omega arith)
counts_row r (suc c) rows = rw (eq-eqb r r refl) (ap (λ t. r ∷ t) (counts_row r c rows))

row_here : (w : List ℕ) (n i r : ℕ) (row : List Piece) (rows : List (List Piece)) → drop i (take n w) ≡ row_counts r (row ∷ rows) → row_end w n i r ≡ i + length row
unfolding row_end row_counts
row_here w n i r row rows e =
    ap (λ t. i + length (take_while (λ a. eqb a r) t)) e
    ∙ ap (λ t. i + length t) (counts_row r (length row) rows)
    ∙ ap (λ t. i + t) (length-replicate (length row) r)

module _ (l : List Float) where
  row_read : (i : ℕ) (ps : List Piece) (rest : List Float) → drop (3 * i) l ≡ each piece_block ps ++ rest → map (piece_in l) (upto i (length ps)) ≡ map blank ps
  row_read i [] rest e = refl
  row_read i (p ∷ ps) rest e =
      let z : 3 * i + 0 ≡ 3 * i = omega arith in
      let k : 3 * i + 3 ≡ 3 * (i + 1) = omega arith in
      let y : get_or l (3 * i) nan ≡ p.y = subst (λ j. get_or l j nan ≡ p.y) z (read_in l (3 * i) 0 e nan) in
      let xa : get_or l (3 * i + 1) nan ≡ p.xa = read_in l (3 * i) 1 e nan in
      let xb : get_or l (3 * i + 2) nan ≡ p.xb = read_in l (3 * i) 2 e nan in
      rw (y, xa, xb) (ap (λ t. blank p ∷ t) (row_read (i + 1) ps rest (subst (λ j. drop j l ≡ each piece_block ps ++ rest) k (drop_in l (3 * i) 3 e))))

  rows_read : (w : List ℕ) (n i r : ℕ) (rows : List (List Piece)) (rest : List Float) → drop i (take n w) ≡ row_counts r rows → drop (3 * i) l ≡ each piece_block (each (λ x. x) rows) ++ rest
      → rows_in l w n i r (length rows) ≡ map (map blank) rows
  unfolding rows_in row_counts
  rows_read w n i r [] rest e f = refl
  rows_read w n i r (row ∷ rows) rest e f =
      let end : row_end w n i r ≡ i + length row = row_here w n i r row rows e in
      let c : i + length row - i ≡ length row = omega arith in
      let later : List Float = each piece_block (each (λ x. x) rows) ++ rest in
      let f' : drop (3 * i) l ≡ each piece_block row ++ later =
      f ∙ ap (λ t. t ++ rest) (each_append piece_block row (each (λ x. x) rows)) ∙ append_assoc (each piece_block row) (each piece_block (each (λ x. x) rows)) rest in
      let e'' : drop (i + length row) (take n w) ≡ row_counts (r + 1) rows =
      drop_in (take n w) i (length row) e ∙ drop_at (replicate (length row) r) (row_counts (r + 1) rows) (length row) (length-replicate (length row) r) in
      let k : 3 * i + 3 * length row ≡ 3 * (i + length row) = omega arith in
      let f'' : drop (3 * (i + length row)) l ≡ later =
      subst (λ j. drop j l ≡ later) k (drop_in l (3 * i) (3 * length row) f' ∙ drop_at (each piece_block row) later (3 * length row) (each_length piece_block 3 (λ p. refl) row)) in
      (λ t. map (piece_in l) (upto i (end t - i)) ∷ rows_in l w n (end t) (r + 1) (length rows))
      ∙ (λ t. map (piece_in l) (upto i (c t)) ∷ rows_in l w n (i + length row) (r + 1) (length rows))
      ∙ (λ t. row_read i row later f' t ∷ rows_read w n (i + length row) (r + 1) rows rest e'' f'' t)

-- of rows that are laid out
rows_laid : {rows : List (List Piece)} {l : List Float} {w : List ℕ} {n : ℕ} → Laid rows l w n → rows_in l w n 0 0 (length rows) ≡ map (map blank) rows
rows_laid {rows} {l} {w} {n} h = rows_read l w n 0 0 rows (drop (3 * n) l) h.counts (sym (take-append-drop (3 * n) l) ∙ ap (λ t. t ++ drop (3 * n) l) h.floats)

-- which rise where the rows do
blank_rises : (row : List Piece) → Rise row → Rise (map blank row)
blank_rises row h = sorted_mapped Onward Onward blank (λ p q r. r) row h

pub laid_rise : {rows : List (List Piece)} {l : List Float} {w : List ℕ} {n : ℕ} → Laid rows l w n → All Rise rows → All Rise (rows_in l w n 0 0 (length rows))
laid_rise {rows} h up = rw (rows_laid h) (all_mapped Rise Rise (map blank) blank_rises rows up)

-- ---- marks don't look at the rows' numbers

module _ (rings : List (List P)) (rule : FillRule) (g : Settings) where
  abbrev blank_of : Option Entry → Option Entry
  blank_of none = none
  blank_of (some o) = some (blankly o)

  same_if : (b : Bool) (o : Entry) → cond b (some (blankly o)) none ≡ blank_of (cond b (some o) none)
  same_if true o = refl
  same_if false o = refl

  same_count : (o : Piece) (row : List Piece) → length (sift (overlap (blank o)) (map blank row)) ≡ length (sift (overlap o) row)
  unfolding overlap
  same_count o row = ap length (sift_map (overlap (blank o)) blank row) ∙ length-map (sift (overlap o) row) blank

  same_link : (o : Entry) (p : Piece) → connects rings rule g (blankly o) (blank p) ≡ connects rings rule g o p
  unfolding connects link_ends
  same_link o p = refl

  same_joined : (row : List Piece) (p : Piece) (os : List Entry) → joined rings rule g (map blank row) (blank p) (only (map blankly os)) ≡ blank_of (joined rings rule g row p (only os))
  unfolding joined
  same_joined row p [] = refl
  same_joined row p (o ∷ []) = rw (same_count o.piece row, same_link o p) (same_if (eqb (length (sift (overlap o.piece) row)) 1 && connects rings rule g o p) o)
  same_joined row p (o ∷ q ∷ os) = refl

  same_joins : (opens : List Entry) (row : List Piece) (p : Piece) → joins rings rule g (map blankly opens) (map blank row) (blank p) ≡ blank_of (joins rings rule g opens row p)
  unfolding joins overlap
  same_joins opens row p =
      ap (λ os. joined rings rule g (map blank row) (blank p) (only os)) (sift_map (λ (o : Entry). overlap o.piece (blank p)) blankly opens)
      ∙ same_joined row p (sift (λ (o : Entry). overlap o.piece p) opens)

  same_row : (opens : List Entry) (row : List Piece) (new : ℕ) (ps : List Piece) → row_entries rings rule g (map blankly opens) (map blank row) new (map blank ps) ≡ map blankly (row_entries rings rule g opens row new ps)
  unfolding row_entries
  same_row opens row new [] = refl
  same_row opens row new (p ∷ ps) =
      ap (λ o. entry (blank p) new o ∷ row_entries rings rule g (map blankly opens) (map blank row) (after new o) (map blank ps)) (same_joins opens row p)
      ∙ go (joins rings rule g opens row p) (λ m. same_row opens row m ps)
    where
      go : (o : Option Entry) → ((m : ℕ) → row_entries rings rule g (map blankly opens) (map blank row) m (map blank ps) ≡ map blankly (row_entries rings rule g opens row m ps))
          → entry (blank p) new (blank_of o) ∷ row_entries rings rule g (map blankly opens) (map blank row) (after new (blank_of o)) (map blank ps) ≡ blankly (entry p new o) ∷ map blankly (row_entries rings rule g opens row (after new o) ps)
      go none later = ap (λ t. entry (blank p) new none ∷ t) (later (new + 1))
      go (some o) later = ap (λ t. entry (blank p) new (some (blankly o)) ∷ t) (later new)

  same_begun : (es : List Entry) → begun (map blankly es) ≡ begun es
  unfolding begun
  same_begun es = ap length (sift_map (λ (e : Entry). eqb e.nth 0) blankly es) ∙ length-map (sift (λ (e : Entry). eqb e.nth 0) es) blankly

  same_marks : (es : List Entry) → flat_marks (map blankly es) ≡ flat_marks es
  same_marks [] = refl
  same_marks (e ∷ es) = ap (λ t. e.section ∷ e.nth ∷ t) (same_marks es)

  same_entries : (opens : List Entry) (new : ℕ) (rows : List (List Piece)) → entries rings rule g (map blankly opens) new (map (map blank) rows) ≡ map blankly (entries rings rule g opens new rows)
  unfolding entries
  same_entries opens new [] = refl
  same_entries opens new (row ∷ rows) =
      let es = row_entries rings rule g opens row new row in
      let e = same_row opens row new row in
      (λ i. e i ++ entries rings rule g (e i) (new + begun (e i)) (map (map blank) rows))
      ∙ ap (λ k. map blankly es ++ entries rings rule g (map blankly es) (new + k) (map (map blank) rows)) (same_begun es)
      ∙ ap (λ t. map blankly es ++ t) (same_entries es (new + begun es) rows)
      ∙ sym (map-append blankly es (entries rings rule g es (new + begun es) rows))

  -- ---- what `mark_all` writes of rows that are laid out, and how long it is

  module _ {rows : List (List Piece)} {l : List Float} {w : List ℕ} {n : ℕ} (h : Laid rows l w n) where
    marked_is : marked_in rings rule g l w n (length rows) ≡ map blankly (entries rings rule g [] 0 rows)
    unfolding marked_in
    marked_is =
        ap (λ t. entries rings rule g [] 0 t) (rows_laid h) ∙ same_entries [] 0 rows

    pub marked_marks : flat_marks (marked_in rings rule g l w n (length rows)) ≡ flat_marks (entries rings rule g [] 0 rows)
    marked_marks = ap (λ t. flat_marks t) marked_is ∙ same_marks (entries rings rule g [] 0 rows)

    pub marked_begun : begun (marked_in rings rule g l w n (length rows)) ≡ begun (entries rings rule g [] 0 rows)
    marked_begun = ap begun marked_is ∙ same_begun (entries rings rule g [] 0 rows)

    pub marked_length : length (flat_marks (entries rings rule g [] 0 rows)) ≡ 2 * n
    marked_length =
        let es = entries rings rule g [] 0 rows in
        let c : length es ≡ n = sym (length-map es (λ e. e.piece)) ∙ ap length (entries_pieces rings rule g [] 0 rows) ∙ sym h.count in
        each_length (λ (e : Entry). e.section ∷ e.nth ∷ []) 2 (λ e. refl) es ∙ ap (λ t. 2 * t) c
