-- A row's pieces from one crossing to the next are those of the row taken alone, and all rows one after the other the fill's. Assumes nothing.
use Rattle.std.specs.Prelude.{ℕ, suc, ◌+◌, ◌-◌, ◌*◌, ◌≤◌, ◌<◌, ◌≡◌, refl, Bool, true, false, not, ◌&&◌, cond, ltb, ℤ, ◌+ℤ◌, pos, take, replicate, Float}
use native.Mathlib.Omega.{arith}
use Rattle.std.proofs.Math.Path.{sym, ap, subst}
use Rattle.std.proofs.Common.{◌∙◌, take_at, lt-ltb}
use Rattle.std.proofs.Math.Bool.{or-true}
use mathlib.Core.List.{List, [], ◌∷◌, ◌++◌, map}
use Rattle.std.proofs.Math.ListN.{length, length-map}
use Rattle.std.proofs.lemmas.List.{length-replicate}
use Rattle.std.specs.Float.{nan, inf, fin, binary64}
use Rattle.std.specs.Float.Ieee.Fits.{add-fits}
use Rattle.numbers.specs.Num.{zero64}
use Rattle.numbers.specs.Order.{before}
use Rattle.numbers.specs.Value.{Within}
use Rattle.seqs.specs.Lists.{keep_if, sift, each, fold, All}
use Rattle.seqs.specs.All.{all_map, all_sift}
use Rattle.seqs.specs.Sift.{sift_length, sift_all}
use Rattle.seqs.specs.Slices.{Wrote}
use Rattle.seqs.specs.Records.{Added}
use Rattle.seqs.specs.Wrote.{Run, run_start, run_at, run_step, run_end}
use Rattle.seqs.specs.Adding.{Adding, adding_start, adding_at, adding_step, adding_end}
use Rattle.seqs.specs.Each.{each_length}
use Rattle.outlines.specs.declared.rule.FillRule.{FillRule}
use Rattle.outlines.specs.Inside.{inside}
use Rattle.geom.specs.Outline.{rings}
use Rattle.geom.specs.declared.point.P.{P}
use Rattle.rules.specs.declared.Settings.{Settings}
use Rattle.rules.specs.declared.Edge.{Edge}
use Rattle.rules.specs.declared.Piece.{Piece}
use Rattle.rules.specs.Fill.{edges, row_numbers, row_at, no_edge, crossings, crossed, spans, pieces_at, pieces_of, met, row_list}
use Rattle.rules.specs.PieceTable.{piece_block, row_counts}
use Rattle.rules.specs.Accepted.{Checked, checked}
use Rattle.rules.specs.Alls.{all_mapped}
use Rattle.rules.specs.Edges.{within_number, edges_good}
use Rattle.rules.specs.Rows.{Fair, Plain, plain_none, plain_good, edge_within}
use Rattle.rules.proofs.Pieces.{met_fair}
use Rattle.rules.proofs.Sections.{entries_pieces}
use Rattle.rules.proofs.Gathered.{gathered, add}
use Rattle.rules.specs.Drawn.{crosses, cross_at, unsorted}
use Rattle.rules.proofs.Drawn.{Sound, crossings_gathered}
use Rattle.edges.specs.Span.{row_number}
use Rattle.sweep.specs.declared.piece.Cut.{Cut}
use Rattle.sweep.specs.declared.piece.Span.{Span}
use Rattle.sweep.specs.declared.piece.Scan.{Scan}
use Rattle.sweep.specs.declared.piece.Crossing.{Crossing}
use Rattle.sweep.specs.Swept.{cuts_of, cut_at, cut_ends, wide_span, passed, numbers}
use Rattle.sweep.specs.SweptLaws.{cuts_next, cuts_none, as_pieces, as_piece, added_pieces, numbers_next, numbers_none}
use Rattle.sweep.specs.Met.{numbers_met}
use Rattle.sweep.specs.LaidLaws.{counts_length, wrote_there}
use Rattle.finding.specs.declared.Plan.{Plan}
use Rattle.finding.specs.Stages.{Passed, alone}
use Rattle.rowwise.specs.Nearest.{none_yet, meet, behind, sides_behind, Inner, Clear, left_after, row_cuts}
use Rattle.rowwise.specs.NearestLaws.{gathered_all, nearest_none, nearest_next, nearest_fewer}
use Rattle.rowwise.specs.Step.{Step, Stepped}
use Rattle.rowwise.specs.Step.Step.{Found, End}
use Rattle.rowwise.specs.Rows.{Next, place, Putting, Laid, plain_floats, plain_wholes, plain_short, Holds}

-- ---- a scan of a row

-- at most one crossing for a side
pub sides_few : (y : Float) (es : List Edge) (after : Float) → sides_behind y es after ≤ length es
unfolding sides_behind
sides_few y es after = omega (arith, sift_length (λ c. before after c.0) (unsorted y es), length-map (sift (crosses y) es) (cross_at y), sift_length (crosses y) es)

module _ (c : Cut) (es : List Edge) (clear : Clear c.y es) (s : Scan) (last : Float) {x : Crossing} (is : x ≡ fold (meet (record { y = c.y; after = last; at = s.at })) (none_yet s.at) es) where
  -- what the calls of a turn ensure, put together
  module _ (some : s.at < x.next) where
    pub scan_turn : {ends : Bool} {t : Scan} {p : Span} → t ≡ passed c s x → p ≡ cut_ends c (t.start, x.x)
        → ends ≡ ((inside c.rule s.w && not (inside c.rule t.w)) && wide_span c p)
        → left_after c es s last ≡ keep_if ends p (left_after c es t x.x)
    unfolding left_after
    scan_turn e1 e2 e3 = rw (e3, e2, e1, nearest_next (record { y = c.y; after = last; at = s.at }) es clear is some) (cuts_next c s.w s.start x.x x.dir (behind c.y es x.x))

    pub scan_fewer : x.next + sides_behind c.y es x.x ≤ s.at + sides_behind c.y es last
    scan_fewer = nearest_fewer (record { y = c.y; after = last; at = s.at }) es clear is some

  pub scan_none : x.next ≡ s.at → left_after c es s last ≡ []
  unfolding left_after
  scan_none e = rw (nearest_none (record { y = c.y; after = last; at = s.at }) es clear is e) (cuts_none c s.w s.start)

-- what a step says, once it is known which
module _ (c : Cut) (es : List Edge) (s : Scan) (after : Float) where
  pub step_end : {r : Step} → r ≡ End → Stepped c es s after r → left_after c es s after ≡ []
  step_end e f = rw e at f

  pub step_found : {r : Step} {p : Span} {t : Scan} {x : Float} → r ≡ Found p t x → Stepped c es s after r → Next c es s after p t x
  step_found e f = rw e at f

spans_few : (rule : FillRule) (w : ℤ) (start : Float) (l : List (Float × ℤ)) → length (spans rule w start l) ≤ length l
unfolding spans
spans_few rule w start [] = omega arith
spans_few rule w start (c ∷ l) = go (inside rule w && not (inside rule (w +ℤ c.1))) (start, c.0) (spans rule (w +ℤ c.1) (cond (not (inside rule w) && inside rule (w +ℤ c.1)) c.0 start) l) (spans_few rule (w +ℤ c.1) (cond (not (inside rule w) && inside rule (w +ℤ c.1)) c.0 start) l)
  where
    go : (b : Bool) (p : Float × Float) (r : List (Float × Float)) → length r ≤ length l → length (keep_if b p r) ≤ suc (length l)
    go true p r h = omega arith
    go false p r h = omega arith

gathered_few : (l : List (Float × ℤ)) → length (gathered l) ≤ length l
gathered_few [] = omega arith
gathered_few (c ∷ l) = omega (arith, add_few c.0 c.1 (gathered l), gathered_few l)
  where
    add_few : (x : Float) (d : ℤ) (l : List (Float × ℤ)) → length (add x d l) ≤ suc (length l)
    add_few x d [] = omega arith
    add_few x d (c ∷ l) = go (before x c.0) (before c.0 x) (add_few x d l)
      where
        go : (s t : Bool) → length (add x d l) ≤ suc (length l) → length (cond s ((x, d) ∷ c ∷ l) (cond t (c ∷ add x d l) ((x, d +ℤ c.1) ∷ l))) ≤ suc (suc (length l))
        go true t h = omega arith
        go false true h = omega arith
        go false false h = omega arith

-- a row has no more pieces than there are sides
pub row_few : (c : Cut) (es : List Edge) → length (row_cuts c es) ≤ length es
unfolding row_cuts cuts_of behind
row_few c es =
    let cs = behind c.y es (inf true) in
    let ss = spans c.rule (pos 0) zero64 cs in
    omega (arith, sift_length (wide_span c) (map (cut_ends c) ss), length-map ss (cut_ends c), spans_few c.rule (pos 0) zero64 cs, sift_length (λ c. before (inf true) c.0) (gathered (unsorted c.y es)), gathered_few (unsorted c.y es), length-map (sift (crosses c.y) es) (cross_at c.y), sift_length (crosses c.y) es)

-- ---- a row's pieces

first_before : (n : ℕ) (x : Float) → Within n x → before (inf true) x ≡ true
unfolding Within before
first_before n nan h = absurd h
first_before n (inf s) h = absurd h
first_before n (fin s m e) h = refl

last_behind : (n : ℕ) (x : Float) → Within n x → before x (inf false) ≡ true
unfolding Within before
last_behind n nan h = absurd h
last_behind n (inf s) h = absurd h
last_behind n (fin s m e) h = refl

module _ (outline : List (List P)) (g : Settings) (cyc : ℕ) (ok : Checked outline g cyc) (k : ℤ) (fair : Fair k) where
  abbrev es : List Edge
  es = edges g outline

  crossing_within : (e : Edge) → Plain e → Within 85 (cross_at (row_at g k) e).0
  crossing_within = edge_within outline g cyc ok k fair

  edges_plain : All Plain es
  edges_plain = plain_good es (edges_good outline g cyc ok)

  pub row_clear : Clear (row_at g k) es
  row_clear = record {
    inner =
        all_mapped Plain (λ c. Inner c.0) (cross_at (row_at g k))
        (λ e h. let w = crossing_within e h in ((add-fits binary64 _ _, within_number 85 (cross_at (row_at g k) e).0 w), first_before 85 (cross_at (row_at g k) e).0 w, last_behind 85 (cross_at (row_at g k) e).0 w))
        (sift (crosses (row_at g k)) es) (all_sift Plain (crosses (row_at g k)) es edges_plain);
  }

  sound : (e : Edge) → Plain e → Sound (row_at g k) e
  sound e h = within_number 85 (cross_at (row_at g k) e).0 (crossing_within e h)

  -- all of them
  from_first : behind (row_at g k) es (inf true) ≡ crossings es (row_at g k) (crossed es (row_at g k))
  unfolding behind
  from_first =
      let y = row_at g k in
      sift_all (λ c. before (inf true) c.0) (gathered (unsorted y es)) (gathered_all (λ x. before (inf true) x ≡ true) (unsorted y es) (all_map (λ c h. h.1) (unsorted y es) row_clear.inner))
      ∙ sym (crossings_gathered y (sound no_edge plain_none) es (all_map sound es edges_plain))

  pub row_pieces : (rule : FillRule) → map (as_piece rule g k) (row_cuts (cut_at rule g k) es) ≡ pieces_of rule g es k
  unfolding row_cuts cuts_of pieces_of pieces_at cut_at
  row_pieces rule = rw from_first (sym (as_pieces rule g k (spans rule (pos 0) zero64 (crossings es (row_at g k) (crossed es (row_at g k))))))

-- ---- the rows one after the other

module _ (corners : List Float) (ends : List ℕ) (t : Plan) where
  abbrev all : List Edge
  all = edges t.g (rings corners ends)

  abbrev pub rows_from : ℕ → List (List Piece)
  rows_from r = map (pieces_of t.rule t.g all) (numbers t.rows t.upward r)

  -- of the rows, those from row r on are left
  pub record Rowing (d₀ d : List Float) (a₀ a : List ℕ) (i r : ℕ) : Type 0 where
    pub le : r ≤ t.rows.n
    pub bound : i ≤ 1024 * r
    pub fair : All Fair (numbers t.rows t.upward r)
    pub pieces : Adding place piece_block d₀ d 0 i (each (λ l. l) (rows_from r)) (each (λ l. l) (rows_from 0))
    pub counts : Run a₀ a 0 i (row_counts r (rows_from r)) (row_counts 0 (rows_from 0))

  module _ (p : Passed corners ends t) where
    ok : Checked (rings corners ends) t.g t.stagger
    ok = checked corners ends t.g t.stagger p.accepted

    met_is : numbers t.rows t.upward 0 ≡ met t.upward (row_numbers t.g all)
    met_is = rw p.rows (numbers_met t.g all t.upward ok.rows)

    rows_alone : rows_from 0 ≡ alone corners ends t
    rows_alone = ap (map (pieces_of t.rule t.g all)) met_is

    pub rowing_start : (d : List Float) (a : List ℕ) → Rowing d d a a 0 0
    rowing_start d a = record {
      le = omega arith;
      bound = omega arith;
      fair = rw met_is (met_fair (rings corners ends) t.g t.stagger ok t.upward);
      pieces = adding_start place piece_block d 0 (each (λ l. l) (rows_from 0));
      counts = run_start a (row_counts 0 (rows_from 0)) 0;
    }

    module _ {d₀ d : List Float} {a₀ a : List ℕ} {i r : ℕ} (v : Rowing d₀ d a₀ a i r) where
      pub rowing_end : t.rows.n ≤ r → t.rows.n ≤ 4096 → Laid i (alone corners ends t) d₀ d a₀ a
      unfolding row_counts
      rowing_end h few =
          let z : rows_from r ≡ [] = ap (map (pieces_of t.rule t.g all)) (numbers_none t.rows t.upward r h) in
          subst (λ rows. Laid i rows d₀ d a₀ a) rows_alone
          (record {
            few = omega (arith, v.bound, v.le);
            pieces = adding_end place piece_block (adding_at place piece_block (ap (each (λ l. l)) z) v.pieces);
            counts = run_end (run_at (ap (row_counts r) z) v.counts);
          })

      module _ (h : r < t.rows.n) where
        k : ℤ
        k = row_number t.rows t.upward r

        row_fair : Fair k
        unfolding k
        row_fair = (rw (numbers_next t.rows t.upward r h) at v.fair).0

        pub rowing_clear : {c : Cut} → c ≡ cut_at t.rule t.g (row_number t.rows t.upward r) → Clear c.y all
        unfolding k cut_at
        rowing_clear e = rw e (row_clear (rings corners ends) t.g t.stagger ok k row_fair)

        module _ {d' : List Float} {a' : List ℕ} {m : ℕ} {c : Cut} (cut : c ≡ cut_at t.rule t.g (row_number t.rows t.upward r)) (row : Putting c.y (row_cuts c all) d d' i m) (marks : Wrote a a' i (replicate (m - i) r)) where
          these : List Piece
          these = pieces_of t.rule t.g all k

          added : Added place piece_block d d' i m these
          unfolding these k cut_at
          added = rw (row_pieces (rings corners ends) t.g t.stagger ok k row_fair t.rule) at (added_pieces t.rule t.g k place (row_cuts (cut_at t.rule t.g k) all) (rw cut at row.added))

          left : rows_from r ≡ these ∷ rows_from (r + 1)
          unfolding these k
          left = ap (map (pieces_of t.rule t.g all)) (numbers_next t.rows t.upward r h)

          pub rowing_step : Rowing d₀ d' a₀ a' m (r + 1)
          unfolding row_counts
          rowing_step =
              let n : m ≡ i + length these = added.count in
              let gap : m - i ≡ length these = omega arith in
              let wrote : Wrote a a' i (replicate (length these) r) = rw gap at marks in
              let j : i + length (replicate (length these) r) ≡ m = ap (λ q. i + q) (length-replicate (length these) r) ∙ sym n in
              record {
                le = omega arith;
                bound = omega (arith, v.bound, row.few);
                fair = (rw (numbers_next t.rows t.upward r h) at v.fair).1;
                pieces = adding_step place piece_block 3 (λ p. refl) (λ n m. omega arith) these (each (λ l. l) (rows_from (r + 1))) (adding_at place piece_block (ap (each (λ l. l)) left) v.pieces) added;
                counts = subst (λ q. Run a₀ a' 0 q (row_counts (r + 1) (rows_from (r + 1))) (row_counts 0 (rows_from 0))) j (run_step (replicate (length these) r) (row_counts (r + 1) (rows_from (r + 1))) (run_at (ap (row_counts r) left) v.counts) wrote);
              }

-- ---- the need

take_front : {A : Type 0} (m l d : List A) (n : ℕ) → length m ≡ n → d ≡ m ++ l → take n d ≡ m
take_front m l d n h e = ap (take n) e ∙ take_at m l n h

module _ (corners : List Float) (ends : List ℕ) (t : Plan) {n : ℕ} {d d' : List Float} {a a' : List ℕ} (l : Laid n (alone corners ends t) d d' a a') where
  abbrev pieces : ℕ
  pieces = length (row_list (rings corners ends) t.rule t.g t.upward)

  abbrev flat : List Piece
  flat = each (λ r. r) (alone corners ends t)

  flat_count : length flat ≡ pieces
  unfolding row_list
  flat_count = sym (ap length (entries_pieces (rings corners ends) t.rule t.g _ 0 (alone corners ends t))) ∙ length-map (row_list (rings corners ends) t.rule t.g t.upward) (λ e. e.piece)

  pub piece_count : n ≡ pieces
  piece_count = omega (arith, l.pieces.count, flat_count)

  pub short_floats : (wholes : ℕ) → length d' < 4 * n → plain_short corners ends t (length d') wholes ≡ true
  short_floats wholes h = rw (lt-ltb (length d') (plain_floats pieces) (omega (arith, piece_count)))

  pub short_wholes : (floats : ℕ) → length a' < 6 * n → plain_short corners ends t floats (length a') ≡ true
  short_wholes floats h = rw (lt-ltb (length a') (plain_wholes pieces) (omega (arith, piece_count))) (or-true (ltb floats (plain_floats pieces)))

  pub holds : 4 * n ≤ length d' → 6 * n ≤ length a' → length d' ≡ length d → length a' ≡ length a → Holds corners ends t n d' a'
  holds f k s u =
      let c : n ≡ length flat = omega (arith, l.pieces.count) in
      let b = each_length piece_block 3 (λ q. refl) flat in
      let v = counts_length 0 (alone corners ends t) in
      record {
        pieces = piece_count;
        floats = f;
        wholes = k;
        laid = record {
          count = c;
          floats = take_front (each piece_block flat) _ d' (3 * n) (omega (arith, c, b)) (wrote_there 0 (each piece_block flat) l.pieces.wrote (omega (arith, c, b)));
          counts = take_front (row_counts 0 (alone corners ends t)) _ a' n (omega (arith, c, v)) (wrote_there 0 (row_counts 0 (alone corners ends t)) l.counts (omega (arith, c, v)));
        };
      }
