-- Marked pieces, read back from the slices, are the row list. Assumes nothing.
use Rattle.std.specs.Prelude.{ℕ, zero, suc, ◌+◌, ◌-◌, ◌*◌, ◌≤◌, ◌<◌, ◌≡◌, Bool, cond, pos, take, drop, get_or, replicate, Float}
use native.Mathlib.Omega.{arith}
use Rattle.std.proofs.Math.Path.{refl, sym, ap, subst}
use Rattle.std.proofs.Common.{◌∙◌, take-append-drop, get_or-drop, get_or-take}
use Rattle.std.proofs.Math.Bool.{true, false}
use mathlib.Core.List.{List, [], ◌∷◌, ◌++◌, map}
use Rattle.std.proofs.Math.ListN.{length, length-map, get_or-map}
use Rattle.std.specs.Float.{nan}
use Rattle.seqs.specs.Lists.{upto, each, All}
use Rattle.seqs.specs.Slices.{Wrote, Put}
use Rattle.seqs.specs.All.{all_at, all_append, all_map}
use Rattle.seqs.specs.Reads.{read_on}
use Rattle.seqs.specs.Upto.{upto_length}
use Rattle.geom.specs.Outline.{rings, Layout}
use Rattle.rules.specs.declared.Piece.{Piece}
use Rattle.rules.specs.declared.Entry.{Entry}
use Rattle.rules.specs.Fill.{edges, row_numbers, pieces_of, met, begun, entries, row_list}
use Rattle.rules.specs.Calls.{listed_floats, listed_rows, listed_sections}
use Rattle.rules.specs.PieceTable.{piece_block, row_counts}
use Rattle.rules.proofs.Sections.{entries_pieces}
use Rattle.rules.proofs.FillSections.{numbers_below}
use Rattle.rules.specs.Accepted.{checked}
use Rattle.rules.specs.Rise.{Rise}
use Rattle.rules.specs.Alls.{all_reverse, all_mapped}
use Rattle.rules.proofs.Theorems.{rows_rise, pieces_bounded}
use Rattle.edges.specs.declared.rows.Rows.{Rows}
use Rattle.edges.specs.Span.{row_number}
use Rattle.sweep.specs.Swept.{waiting, numbers, swept_all}
use Rattle.sweep.specs.Exact.{sweep_exact}
use Rattle.sweep.specs.Met.{numbers_met}
use Rattle.sweep.specs.LaidLaws.{Read, block_at, counts_length, wrote_there, piece_number}
use Rattle.sections.specs.Mark.{flat_marks, rows_in as rowsLent, marked_in}
use Rattle.sections.specs.Marked.{laid_rise, marked_marks, marked_begun, marked_length}
use Rattle.sewing.specs.Sewing.{row_number as sewnRow, entry_at, entries_in, numbers_in, links, Marked}
use Rattle.sewing.specs.LinkedLaws.{entries_kept, numbers_are, put_kept, linked}
use Rattle.finding.specs.declared.Plan.{Plan}
use Rattle.finding.specs.Stages.{Passed, alone}
use Rattle.tatami.specs.Stages.{Lent, field_of, Sectioned, list_of, rows_in}
use Rattle.finding.specs.FindLaws.{spans_rows, outlined}

-- ---- lists

-- a list by its elements
list_is : {A : Type 0} (f : ℕ → A) (l : List A) (i : ℕ) (z : A) → ((j : ℕ) → j < length l → f (i + j) ≡ get_or l j z) → map f (upto i (length l)) ≡ l
list_is f [] i z h = refl
list_is f (a ∷ l) i z h =
    let e : i + 0 ≡ i = omega arith in
    let first : f i ≡ a = rw e at (h 0 (omega arith)) in
    let rest = list_is f l (i + 1) z (λ j k. let c : i + 1 + j ≡ i + suc j = omega arith in rw c (h (suc j) (omega arith))) in
    λ p. first p ∷ rest p

each_of_map : {A B C : Type 0} (f : B → List C) (g : A → B) (l : List A) → each f (map g l) ≡ each (λ a. f (g a)) l
each_of_map f g [] = refl
each_of_map f g (a ∷ l) = ap (λ r. f (g a) ++ r) (each_of_map f g l)

-- the marks of entry i
record MarkRead (d : List ℕ) (k : ℕ) (e : Entry) : Type 0 where
  section : get_or d k 0 ≡ e.section
  nth : get_or d (k + 1) 0 ≡ e.nth

mark_at_lem : (es : List Entry) (rest : List ℕ) (i : ℕ) (z : Entry) → i < length es → MarkRead (flat_marks es ++ rest) (2 * i) (get_or es i z)
mark_at_lem [] rest i z h = absurd (omega arith)
mark_at_lem (e ∷ es) rest zero z h = record { section = refl; nth = refl }
mark_at_lem (e ∷ es) rest (suc i) z h =
    let r = mark_at_lem es rest i z (omega arith) in
    let a : 2 * suc i ≡ suc (suc (2 * i)) = omega arith in
    let b : 2 * suc i + 1 ≡ suc (suc (2 * i + 1)) = omega arith in
    record { section = rw a r.section; nth = rw b r.nth }

-- ---- rows

-- sewing's first row and direction say the same rows
row_same : (w : Rows) (upward : Bool) (r : ℕ) → sewnRow (cond upward w.hi w.lo) upward r ≡ row_number w upward r
row_same w true r = refl
row_same w false r = refl

-- every count is one of a row
counts_below : (r : ℕ) (rows : List (List Piece)) → All (λ c. c < r + length rows) (row_counts r rows)
unfolding row_counts
counts_below r [] = tt
counts_below r (row ∷ rows) =
    all_append (λ c. c < r + suc (length rows)) (replicate (length row) r) (row_counts (r + 1) rows)
    (same (length row)) (all_map (λ c h. omega arith) (row_counts (r + 1) rows) (counts_below (r + 1) rows))
  where
    same : (n : ℕ) → All (λ c. c < r + suc (length rows)) (replicate n r)
    same zero = tt
    same (suc n) = (omega arith, same n)

abbrev none : Entry
none = record { piece = record { k = pos 0; y = nan; xa = nan; xb = nan }; section = 0; nth = 0 }

module _ (corners : List Float) (ends : List ℕ) (t : Plan) where
  abbrev rows : List (List Piece)
  rows = alone corners ends t

  abbrev piece_list : List Piece
  piece_list = each (λ r. r) rows

  abbrev list : List Entry
  list = list_of corners ends t

  list_entries : list ≡ entries (rings corners ends) t.rule t.g [] 0 rows
  unfolding row_list
  list_entries = refl

  list_pieces : map (λ e. e.piece) list ≡ piece_list
  list_pieces = ap (map (λ e. e.piece)) list_entries ∙ entries_pieces (rings corners ends) t.rule t.g [] 0 rows

  list_count : length list ≡ length piece_list
  list_count = sym (length-map list (λ e. e.piece)) ∙ ap length list_pieces

  piece_at : (i : ℕ) → (get_or list i none).piece ≡ get_or piece_list i none.piece
  piece_at i = sym (get_or-map (λ (e : Entry). e.piece) list i none) ∙ ap (λ l. get_or l i none.piece) list_pieces

  module _ (p : Passed corners ends t) where
    swept_is : swept_all t.upward t.rule t.g (edges t.g (rings corners ends)) (numbers t.rows t.upward 0) ≡ rows
    swept_is = rw p.rows (sweep_exact corners ends t.g t.stagger p.accepted t.rule t.upward)

    rows_count : length rows ≡ t.rows.n
    unfolding numbers
    rows_count =
        let es = edges t.g (rings corners ends) in
        length-map (met t.upward (row_numbers t.g es)) (pieces_of t.rule t.g es)
        ∙ ap length (sym (numbers_met t.g es t.upward (checked corners ends t.g t.stagger p.accepted).rows))
        ∙ ap (λ w. length (numbers w t.upward 0)) (sym p.rows)
        ∙ length-map (upto 0 (t.rows.n - 0)) (row_number t.rows t.upward) ∙ upto_length 0 (t.rows.n - 0) ∙ omega arith

    -- a piece's row number, by the count of its row
    row_number_lem : (i : ℕ) → i < length piece_list → (get_or piece_list i none.piece).k ≡ row_number t.rows t.upward (get_or (row_counts 0 rows) i 0)
    unfolding swept_all
    row_number_lem i h =
        subst (λ (rows : List (List Piece)). i < length (each (λ r. r) rows) → (get_or (each (λ r. r) rows) i none.piece).k ≡ row_number t.rows t.upward (get_or (row_counts 0 rows) i 0)) swept_is
        (piece_number t.rows t.upward t.rule t.g (edges t.g (rings corners ends)) none.piece (waiting t.upward (edges t.g (rings corners ends))) i) h

    met_rise : (upward : Bool) → All (λ k. Rise (pieces_of t.rule t.g (edges t.g (rings corners ends)) k)) (met upward (row_numbers t.g (edges t.g (rings corners ends))))
    unfolding met
    met_rise true = all_reverse (λ k. Rise (pieces_of t.rule t.g (edges t.g (rings corners ends)) k)) (row_numbers t.g (edges t.g (rings corners ends))) (rows_rise corners ends t.g t.stagger p.accepted t.rule)
    met_rise false = rows_rise corners ends t.g t.stagger p.accepted t.rule

    alone_rise : All Rise rows
    alone_rise =
        let es = edges t.g (rings corners ends) in
        all_mapped (λ k. Rise (pieces_of t.rule t.g es k)) Rise (pieces_of t.rule t.g es) (λ k h. h) (met t.upward (row_numbers t.g es)) (met_rise t.upward)

  module _ (n : ℕ) (pieces : List Float) (numbers : List ℕ) (k : Lent corners ends t n pieces numbers) where
    -- the rows that are lent rise
    pub lent_rise : All Rise (rowsLent pieces numbers n 0 0 t.rows.n)
    lent_rise = subst (λ c. All Rise (rowsLent pieces numbers n 0 0 c)) (rows_count k.passed) (laid_rise k.laid (alone_rise k.passed))

    pub layout : Layout corners ends
    layout = (outlined corners ends t k.passed).layout

    pub few_pieces : n ≤ 10000000
    few_pieces = omega (arith, k.laid.count, list_count, pieces_bounded corners ends t.g t.stagger k.passed.accepted t.rule t.upward)

    pub few_rows : t.rows.n ≤ 4096
    few_rows = (spans_rows corners ends t k.passed).few

    read_piece : (i : ℕ) → i < n → Read pieces (3 * i) (get_or piece_list i none.piece)
    read_piece i h =
        subst (λ l. Read l (3 * i) (get_or piece_list i none.piece)) (ap (λ l. l ++ drop (3 * n) pieces) (sym k.laid.floats) ∙ take-append-drop (3 * n) pieces)
        (block_at piece_list (drop (3 * n) pieces) i none.piece (omega (arith, k.laid.count)))

    -- what `mark_all` leaves
    module _ (marked : List ℕ) (m : Wrote numbers marked n (flat_marks (marked_in (rings corners ends) t.rule t.g pieces numbers n t.rows.n))) where
      marks_are : flat_marks (marked_in (rings corners ends) t.rule t.g pieces numbers n t.rows.n) ≡ flat_marks list
      marks_are = ap (λ r. flat_marks (marked_in (rings corners ends) t.rule t.g pieces numbers n r)) (sym (rows_count k.passed)) ∙ marked_marks (rings corners ends) t.rule t.g k.laid ∙ ap (λ l. flat_marks l) (sym list_entries)

      marks : Wrote numbers marked n (flat_marks list)
      marks = subst (Wrote numbers marked n) marks_are m

      marks_length : length (flat_marks list) ≡ 2 * n
      marks_length = ap (λ l. length (flat_marks l)) list_entries ∙ marked_length (rings corners ends) t.rule t.g k.laid

      pub begun_is : begun (marked_in (rings corners ends) t.rule t.g pieces numbers n t.rows.n) ≡ begun list
      begun_is = ap (λ r. begun (marked_in (rings corners ends) t.rule t.g pieces numbers n r)) (sym (rows_count k.passed)) ∙ marked_begun (rings corners ends) t.rule t.g k.laid ∙ ap begun (sym list_entries)

      read_mark : (i : ℕ) → i < n → MarkRead marked (n + 2 * i) (get_or list i none)
      read_mark i h =
          let e = wrote_there n (flat_marks list) marks (omega (arith, marks_length, k.wholes)) in
          let r = mark_at_lem list (drop (n + length (flat_marks list)) numbers) i none (omega (arith, list_count, k.laid.count)) in
          let a : n + 2 * i + 1 ≡ n + (2 * i + 1) = omega arith in
          record {
            section = sym (get_or-drop n marked (2 * i) 0) ∙ ap (λ l. get_or l (2 * i) 0) e ∙ r.section;
            nth = ap (λ j. get_or marked j 0) a ∙ sym (get_or-drop n marked (2 * i + 1) 0) ∙ ap (λ l. get_or l (2 * i + 1) 0) e ∙ r.nth;
          }

      -- the counts of rows stay
      read_count : (i : ℕ) → i < n → get_or marked i 0 ≡ get_or (row_counts 0 rows) i 0
      read_count i h = read_on marked numbers i n 0 h marks.kept ∙ sym (get_or-take n numbers i 0 h) ∙ ap (λ l. get_or l i 0) k.laid.counts

      row_at_lem : (i : ℕ) → i < n → row_number t.rows t.upward (get_or marked i 0) ≡ (get_or list i none).piece.k
      row_at_lem i h = ap (row_number t.rows t.upward) (read_count i h) ∙ sym (row_number_lem k.passed i (omega (arith, k.laid.count))) ∙ ap (λ (q : Piece). q.k) (sym (piece_at i))

      entry_is : (i : ℕ) → i < n → entry_at (field_of t n) pieces marked i ≡ get_or list i none
      unfolding entry_at
      entry_is i h =
          let q = read_piece i h in
          let m = read_mark i h in
          let at = sym (piece_at i) in
          let kk = row_same t.rows t.upward (get_or marked i 0) ∙ row_at_lem i h in
          let y = q.y ∙ ap (λ (q : Piece). q.y) at in
          let xa = q.xa ∙ ap (λ (q : Piece). q.xa) at in
          let xb = q.xb ∙ ap (λ (q : Piece). q.xb) at in
          λ j. record { piece = record { k = kk j; y = y j; xa = xa j; xb = xb j }; section = m.section j; nth = m.nth j }

      pub count_is : n ≡ length list
      count_is = omega (arith, k.laid.count, list_count)

      pub entries_are : entries_in (field_of t n) pieces marked ≡ list
      unfolding entries_in
      entries_are =
          ap (λ c. map (entry_at (field_of t n) pieces marked) (upto 0 c)) count_is
          ∙ list_is (entry_at (field_of t n) pieces marked) list 0 none (λ j h. let e : 0 + j ≡ j = omega arith in rw e (entry_is j (omega (arith, count_is))))

      -- ---- links

      below : (i : ℕ) → i < n → get_or marked (n + 2 * i) 0 < begun list
      below i h =
          let s = all_at (λ e. e.section < begun list) list i none (omega (arith, count_is)) (numbers_below (rings corners ends) t.rule t.g t.upward) in
          omega (arith, s, (read_mark i h).section)

      pub linkable : (s : ℕ) → s ≡ begun list → s ≤ n → Marked n s marked
      linkable s e h = record { room = omega (arith, m.size, k.wholes); below = λ i l. omega (arith, below i l) }

      pub sectioned : (linkedUp : List ℕ) (s : ℕ) → s ≡ begun list → s ≤ n → Put marked linkedUp (3 * n) (links (numbers_in n marked) s) → Sectioned corners ends t n pieces linkedUp s
      sectioned linkedUp s e h q =
          let stag = (checked corners ends t.g t.stagger k.passed.accepted).stagger in
          record {
            entries = entries_kept linkedUp marked (field_of t n) pieces (put_kept marked linkedUp (links (numbers_in n marked) s) (3 * n) (omega (arith, m.size, k.wholes)) q) ∙ entries_are;
            count = e;
            linked = linked (field_of t n) s pieces marked linkedUp (omega (arith, stag)) k.floats (omega (arith, m.size, k.wholes)) q;
          }

      -- ---- the list's own outputs

      pub floats_listed : take (3 * n) pieces ≡ listed_floats list
      unfolding listed_floats
      floats_listed = k.laid.floats ∙ ap (each piece_block) (sym list_pieces) ∙ each_of_map piece_block (λ (e : Entry). e.piece) list

      pub rows_listed : rows_in t.rows t.upward n marked ≡ listed_rows list
      unfolding rows_in listed_rows
      rows_listed =
          let ks = map (λ (e : Entry). e.piece.k) list in
          let c : n ≡ length ks = count_is ∙ sym (length-map list (λ (e : Entry). e.piece.k)) in
          ap (λ c. map (λ j. row_number t.rows t.upward (get_or marked j 0)) (upto 0 c)) c
          ∙ list_is (λ j. row_number t.rows t.upward (get_or marked j 0)) ks 0 none.piece.k
          (λ j h. let e : 0 + j ≡ j = omega arith in rw e (row_at_lem j (omega (arith, c)) ∙ sym (get_or-map (λ (e : Entry). e.piece.k) list j none)))

      pub sections_listed : numbers_in n marked ≡ listed_sections list
      unfolding listed_sections
      sections_listed = sym (numbers_are (field_of t n) pieces marked) ∙ ap (map (λ (e : Entry). e.section)) entries_are

      -- and their lengths
      pub rows_length : length (rows_in t.rows t.upward n marked) ≡ n
      unfolding rows_in
      rows_length = length-map (upto 0 n) (λ j. row_number t.rows t.upward (get_or marked j 0)) ∙ upto_length 0 n

      pub counts_in : (j : ℕ) → j < n → get_or marked j 0 < t.rows.n
      counts_in j h =
          let b = all_at (λ c. c < 0 + length rows) (row_counts 0 rows) j 0 (omega (arith, counts_length 0 rows, k.laid.count)) (counts_below 0 rows) in
          omega (arith, b, read_count j h, rows_count k.passed)
