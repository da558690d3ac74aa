-- The rows marked one after the other: what holds from row to row. Assumes nothing.
use Prim.Native.Nat.{ℕ, zero, suc, ◌+◌, ◌-◌, ◌*◌, ◌≤◌, ◌<◌}
use native.Mathlib.Omega.{arith}
use Rattle.std.specs.Prelude.{◌≡◌, Bool, true, false, cond, ◌&&◌, ◌≢◌, eqb, get_or, take, Float}
use Rattle.std.proofs.Math.Path.{refl, sym, ap, subst}
use Rattle.std.proofs.Common.{◌∙◌, inl, inr, eqb-true, length-append, length-take-le, drop_at}
use mathlib.Core.List.{List, [], ◌∷◌, ◌++◌, map, append_assoc}
use Rattle.std.proofs.Math.Option.{Option, none, some}
use Rattle.std.proofs.lemmas.Bool.{eqb-false}
use Rattle.std.proofs.Math.ListN.{length, drop}
use Rattle.seqs.specs.Lists.{upto, sift, All}
use Rattle.seqs.specs.Slices.{Wrote}
use Rattle.seqs.specs.Wrote.{Run, run_start, run_at, run_step, run_end}
use Rattle.seqs.specs.Tests.{either}
use Rattle.seqs.specs.All.{all_sift}
use Rattle.seqs.specs.Sift.{sift_append}
use Rattle.seqs.specs.Each.{each_append}
use Rattle.geom.specs.declared.point.P.{P}
use Rattle.outlines.specs.declared.rule.FillRule.{FillRule}
use Rattle.rules.specs.declared.Settings.{Settings}
use Rattle.rules.specs.declared.Piece.{Piece}
use Rattle.rules.specs.declared.Entry.{Entry}
use Rattle.rules.specs.Fill.{overlap, connects, only, joined, joins, entry, after, row_entries, begun, entries}
use Rattle.rules.specs.Rise.{Rise}
use Rattle.sections.specs.declared.Row.{Row}
use Rattle.sections.specs.Mark.{piece_in, entry_in, Low, mark_at, after_at, row_marks, row_new, flat_marks, row_end, rows_in, marked_in}
use Rattle.sections.specs.MarkEntries.{row_marks_lem, row_new_lem}
use Rattle.sections.specs.Rises.{Rising}
use Rattle.sections.specs.RowEnds.{row_kept, rows_next, rows_none, read_in, drop_in}

-- ---- a row's marks, read back

wrote_at : {d d' : List ℕ} {k : ℕ} (m : List ℕ) → Wrote d d' k m → k + length m ≤ length d → drop k d' ≡ m ++ drop (k + length m) d
wrote_at {d} {d'} {k} m x h =
    ap (drop k) (x.is h ∙ append_assoc (take k d) m (drop (k + length m) d))
    ∙ drop_at (take k d) (m ++ drop (k + length m) d) k (length-take-le k d (omega arith))

marks_length : (rings : List (List P)) (rule : FillRule) (g : Settings) (l : List Float) (w : List ℕ) (s : Row) (new j left : ℕ) → length (row_marks rings rule g l w s new j left) ≡ 2 * left
unfolding row_marks
marks_length rings rule g l w s new j zero = refl
marks_length rings rule g l w s new j (suc left) = omega (arith, marks_length rings rule g l w s (after_at new (mark_at rings rule g l w s new j)) (j + 1) left)

module _ (rings : List (List P)) (rule : FillRule) (g : Settings) (opens : List Entry) (row : List Piece) where
  module _ (l : List Float) (d : List ℕ) (n : ℕ) where
    read_mark : (i a b : ℕ) (rest : List ℕ) → drop (n + 2 * i) d ≡ a ∷ b ∷ rest → (get_or d (n + 2 * i) 0 ≡ a) × (get_or d (n + 2 * i + 1) 0 ≡ b) × (drop (n + 2 * (i + 1)) d ≡ rest)
    read_mark i a b rest e =
        let z : n + 2 * i + 0 ≡ n + 2 * i = omega arith in
        let k : n + 2 * i + 2 ≡ n + 2 * (i + 1) = omega arith in
        (subst (λ j. get_or d j 0 ≡ a) z (read_in d (n + 2 * i) 0 e 0), read_in d (n + 2 * i) 1 e 0, subst (λ j. drop j d ≡ rest) k (drop_in d (n + 2 * i) 2 e))

    read_row : (new i c : ℕ) (rest : List ℕ) → drop (n + 2 * i) d ≡ flat_marks (row_entries rings rule g opens row new (map (piece_in l) (upto i c))) ++ rest
        → map (entry_in l d n) (upto i c) ≡ row_entries rings rule g opens row new (map (piece_in l) (upto i c))
    unfolding row_entries
    read_row new i zero rest e = refl
    read_row new i (suc c) rest e = go (joins rings rule g opens row (piece_in l i)) e (λ m. read_row m (i + 1) c rest)
      where
        go : (o : Option Entry) → drop (n + 2 * i) d ≡ flat_marks (entry (piece_in l i) new o ∷ row_entries rings rule g opens row (after new o) (map (piece_in l) (upto (i + 1) c))) ++ rest
            → ((m : ℕ) → drop (n + 2 * (i + 1)) d ≡ flat_marks (row_entries rings rule g opens row m (map (piece_in l) (upto (i + 1) c))) ++ rest → map (entry_in l d n) (upto (i + 1) c) ≡ row_entries rings rule g opens row m (map (piece_in l) (upto (i + 1) c)))
            → entry_in l d n i ∷ map (entry_in l d n) (upto (i + 1) c) ≡ entry (piece_in l i) new o ∷ row_entries rings rule g opens row (after new o) (map (piece_in l) (upto (i + 1) c))
        go none e later = let r = read_mark i new 0 _ e in rw (r.0, r.1) (ap (λ t. entry (piece_in l i) new none ∷ t) (later (new + 1) r.2))
        go (some o) e later = let r = read_mark i o.section (o.nth + 1) _ e in rw (r.0, r.1) (ap (λ t. entry (piece_in l i) new (some o) ∷ t) (later new r.2))

  -- ---- from row to row a place in a section grows by one at most

  module _ (m : ℕ) (low : All (λ e. e.nth ≤ m) opens) where
    abbrev Few : Option Entry → Type 0
    Few none = Unit {0}
    Few (some o) = o.nth ≤ m

    few_if : (b : Bool) (o : Entry) → o.nth ≤ m → Few (cond b (some o) none)
    few_if true o h = h
    few_if false o h = tt

    few_joined : (p : Piece) (os : List Entry) → All (λ e. e.nth ≤ m) os → Few (joined rings rule g row p (only os))
    unfolding joined
    few_joined p [] h = tt
    few_joined p (o ∷ []) h = few_if (eqb (length (sift (overlap o.piece) row)) 1 && connects rings rule g o p) o h.0
    few_joined p (o ∷ q ∷ os) h = tt

    few_joins : (p : Piece) → Few (joins rings rule g opens row p)
    unfolding joins
    few_joins p = few_joined p (sift (λ o. overlap o.piece p) opens) (all_sift (λ e. e.nth ≤ m) (λ o. overlap o.piece p) opens low)

    row_low : (new : ℕ) (ps : List Piece) → All (λ e. e.nth ≤ m + 1) (row_entries rings rule g opens row new ps)
    unfolding row_entries
    row_low new [] = tt
    row_low new (p ∷ ps) = go (joins rings rule g opens row p) (few_joins p) (λ k. row_low k ps)
      where
        go : (o : Option Entry) → Few o → ((k : ℕ) → All (λ e. e.nth ≤ m + 1) (row_entries rings rule g opens row k ps)) → All (λ e. e.nth ≤ m + 1) (entry p new o ∷ row_entries rings rule g opens row (after new o) ps)
        go none h later = (omega arith, later (new + 1))
        go (some o) h later = (omega arith, later new)

low_at : (l : List Float) (w : List ℕ) (n m b c : ℕ) → All (λ e. e.nth ≤ m) (map (entry_in l w n) (upto b c)) → (t : ℕ) → b ≤ t → t < b + c → get_or w (n + 2 * t + 1) 0 ≤ m
low_at l w n m b zero a t g h = absurd (omega arith)
low_at l w n m b (suc c) a t g h =
    elim (either (eqb t b)) [
      | inl e ↦ subst (λ j. get_or w (n + 2 * j + 1) 0 ≤ m) (sym (eqb-true t b e)) a.0
      | inr e ↦ let d : t ≢ b = eqb-false t b e in low_at l w n m (b + 1) c a.1 t (omega arith) (omega arith)
    ]

-- ---- sums

begun_append : (es fs : List Entry) → begun (es ++ fs) ≡ begun es + begun fs
unfolding begun
begun_append es fs = ap length (sift_append (λ (e : Entry). eqb e.nth 0) es fs) ∙ length-append (sift (λ (e : Entry). eqb e.nth 0) es) (sift (λ (e : Entry). eqb e.nth 0) fs)

sum_on : (s a b c t n : ℕ) → s + a ≡ t → a ≡ b + c → s + b ≡ n → n + c ≡ t
sum_on s a b c t n p q r = omega arith

sum_none : (s a t : ℕ) → s + a ≡ t → a ≡ 0 → s ≡ t
sum_none s a t p q = omega arith

-- ---- the rows

module _ (rings : List (List P)) (rule : FillRule) (g : Settings) (l : List Float) (w : List ℕ) (n rows : ℕ) where
  -- the open sections, where the slice holds v
  abbrev opened : List ℕ → ℕ → ℕ → List Entry
  opened v b0 r0 = map (entry_in l v n) (upto b0 (r0 - b0))

  -- the entries of the rows that are left
  abbrev ahead : List ℕ → ℕ → ℕ → ℕ → ℕ → List Entry
  ahead v b0 r0 r section = entries rings rule g (opened v b0 r0) section (rows_in l w n r0 r (rows - r))

  -- the rows before row r are marked, the last of them from b0 to r0
  pub record Marking (v : List ℕ) (b0 r0 r section : ℕ) : Type 0 where
    pub opens : b0 ≤ r0
    pub within : r0 ≤ n
    pub most : section ≤ r0
    pub row : r ≤ rows
    pub run : Run w v n (n + 2 * r0) (flat_marks (ahead v b0 r0 r section)) (flat_marks (marked_in rings rule g l w n rows))
    pub news : section + begun (ahead v b0 r0 r section) ≡ begun (marked_in rings rule g l w n rows)
    pub low : All (λ e. e.nth ≤ r) (opened v b0 r0)
    pub last : Rising l b0 r0
    pub rest : All Rise (rows_in l w n r0 r (rows - r))

  pub marking_start : All Rise (rows_in l w n 0 0 rows) → Marking w 0 0 0 0
  unfolding marked_in
  marking_start up =
      let rest : ℕ → List Entry = λ left. entries rings rule g [] 0 (rows_in l w n 0 0 left) in
      let z : rows ≡ rows - 0 = omega arith in
      let k : n ≡ n + 2 * 0 = omega arith in
      let q : 0 + begun (rest rows) ≡ begun (rest rows) = omega arith in
      record {
        opens = omega arith;
        within = omega arith;
        most = omega arith;
        row = omega arith;
        run = run_at (ap (λ left. flat_marks (rest left)) z) (subst (λ j. Run w w n j (flat_marks (rest rows)) (flat_marks (rest rows))) k (run_start w (flat_marks (rest rows)) n));
        news = subst (λ left. 0 + begun (rest left) ≡ begun (rest rows)) z q;
        low = tt;
        last = record { up = tt };
        rest = subst (λ left. All Rise (rows_in l w n 0 0 left)) z up;
      }

  -- row r, and the rows after it
  next_row : {v : List ℕ} {b0 r0 r section r1 : ℕ} → Marking v b0 r0 r section → r < rows → r1 ≡ row_end v n r0 r
      → rows_in l w n r0 r (rows - r) ≡ map (piece_in l) (upto r0 (r1 - r0)) ∷ rows_in l w n r1 (r + 1) (rows - (r + 1))
  next_row {v} {b0} {r0} {r} m h end =
      subst (λ t. rows_in l w n r0 r (rows - r) ≡ map (piece_in l) (upto r0 (t - r0)) ∷ rows_in l w n t (r + 1) (rows - (r + 1))) (sym (end ∙ row_kept v w n r0 r m.run.kept)) (rows_next l w n r0 r rows h)

  next_rises : {v : List ℕ} {b0 r0 r section r1 : ℕ} → Marking v b0 r0 r section → r < rows → r1 ≡ row_end v n r0 r
      → All Rise (map (piece_in l) (upto r0 (r1 - r0)) ∷ rows_in l w n r1 (r + 1) (rows - (r + 1)))
  next_rises m h end = subst (All Rise) (next_row m h end) m.rest

  pub marking_rises : {v : List ℕ} {b0 r0 r section r1 : ℕ} → Marking v b0 r0 r section → r < rows → r1 ≡ row_end v n r0 r → Rising l r0 r1
  marking_rises m h end = record { up = (next_rises m h end).0 }

  pub marking_next : {v v' : List ℕ} {b0 r0 r section r1 new : ℕ} → 3 * n ≤ length w → Marking v b0 r0 r section → r < rows → r1 ≡ row_end v n r0 r → r0 ≤ r1 → r1 ≤ n
      → Wrote v v' (n + 2 * r0) (row_marks rings rule g l v (record { n = n; b0 = b0; r0 = r0; r1 = r1 }) section r0 (r1 - r0))
      → new ≡ row_new rings rule g l v (record { n = n; b0 = b0; r0 = r0; r1 = r1 }) section r0 (r1 - r0)
      → new ≤ r1 → Marking v' r0 r1 (r + 1) new
  unfolding entries
  marking_next {v} {v'} {b0} {r0} {r} {section} {r1} {new} room m h end from to x y most =
      let s : Row = record { n = n; b0 = b0; r0 = r0; r1 = r1 } in
      let os : List Entry = opened v b0 r0 in
      let ps : List Piece = map (piece_in l) (upto r0 (r1 - r0)) in
      let es : List Entry = row_entries rings rule g os ps section ps in
      let rest : List (List Piece) = rows_in l w n r1 (r + 1) (rows - (r + 1)) in
      let is : flat_marks es ≡ row_marks rings rule g l v s section r0 (r1 - r0) = row_marks_lem rings rule g l v s section r0 (r1 - r0) in
      let wrote : Wrote v v' (n + 2 * r0) (flat_marks es) = subst (λ t. Wrote v v' (n + 2 * r0) t) (sym is) x in
      let size : length (flat_marks es) ≡ 2 * (r1 - r0) = ap length is ∙ marks_length rings rule g l v s section r0 (r1 - r0) in
      let back : opened v' r0 r1 ≡ es = read_row rings rule g os ps l v' n section r0 (r1 - r0) (drop (n + 2 * r0 + length (flat_marks es)) v) (wrote_at (flat_marks es) wrote (omega (arith, m.run.size))) in
      let begins : section + begun es ≡ new = row_new_lem rings rule g l v s section r0 (r1 - r0) ∙ sym y in
      let next : rows_in l w n r0 r (rows - r) ≡ ps ∷ rest = next_row m h end in
      let split : ahead v b0 r0 r section ≡ es ++ ahead v' r0 r1 (r + 1) new =
      ap (λ t. entries rings rule g os section t) next ∙ (λ i. es ++ entries rings rule g (sym back i) (begins i) rest) in
      let k : n + 2 * r0 + length (flat_marks es) ≡ n + 2 * r1 = omega arith in
      let later : List Entry = ahead v' r0 r1 (r + 1) new in
      record {
        opens = from;
        within = to;
        most = most;
        row = omega arith;
        run = subst (λ j. Run w v' n j (flat_marks later) (flat_marks (marked_in rings rule g l w n rows))) k
            (run_step (flat_marks es) (flat_marks later) (run_at (ap (λ t. flat_marks t) split ∙ each_append (λ (e : Entry). e.section ∷ e.nth ∷ []) es later) m.run) wrote);
        news = sum_on section (begun (ahead v b0 r0 r section)) (begun es) (begun later) (begun (marked_in rings rule g l w n rows)) new m.news (ap begun split ∙ begun_append es later) begins;
        low = subst (λ t. All (λ e. e.nth ≤ r + 1) t) (sym back) (row_low rings rule g os ps r m.low section ps);
        last = marking_rises m h end;
        rest = (next_rises m h end).1;
      }

  pub marking_end : {v : List ℕ} {b0 r0 r section : ℕ} → Marking v b0 r0 r section → rows ≤ r → Wrote w v n (flat_marks (marked_in rings rule g l w n rows)) × (section ≡ begun (marked_in rings rule g l w n rows))
  unfolding entries begun
  marking_end {v} {b0} {r0} {r} {section} m h =
      let e : ahead v b0 r0 r section ≡ [] = ap (λ t. entries rings rule g (opened v b0 r0) section t) (rows_none l w n r0 r rows h) in
      (run_end (run_at (ap (λ t. flat_marks t) e) m.run), sum_none section (begun (ahead v b0 r0 r section)) (begun (marked_in rings rule g l w n rows)) m.news (ap begun e))

  pub marking_low : {v : List ℕ} {b0 r0 r section : ℕ} → Marking v b0 r0 r section → rows ≤ 4096 → Low n b0 r0 v 1000000
  marking_low {v} {b0} {r0} {r} m h t b k =
      let f : get_or v (n + 2 * t + 1) 0 ≤ r = low_at l v n r b0 (r0 - b0) m.low t b (omega (arith, m.opens)) in
      omega (arith, m.row)
