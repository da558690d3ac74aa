-- A row after the other, in slices of their own. Assumes nothing.
use Rattle.std.specs.Prelude.{ℕ, ◌+◌, ◌-◌, ◌*◌, ◌≤◌, ◌<◌, ◌≡◌, refl, Bool, List, [], ◌∷◌, map, ℤ, take, drop, replicate, Float}
use Rattle.std.proofs.Common.{arith, ◌∙◌}
use Rattle.std.proofs.Math.Path.{sym, ap, subst}
use Rattle.std.proofs.Math.ListN.{length, length-take}
use Rattle.std.proofs.lemmas.List.{length-replicate, length-map}
use Rattle.seqs.specs.Lists.{each}
use Rattle.seqs.specs.Slices.{Wrote}
use Rattle.seqs.specs.Records.{Added}
use Rattle.seqs.specs.Wrote.{Run, run_start, run_at, run_step, run_end}
use Rattle.seqs.specs.Adding.{Adding, adding_start, adding_at, adding_step, adding_end}
use Rattle.outlines.specs.declared.rule.FillRule.{FillRule}
use Rattle.rules.specs.declared.Settings.{Settings}
use Rattle.rules.specs.declared.Edge.{Edge}
use Rattle.rules.specs.declared.Piece.{Piece}
use Rattle.rules.specs.Fill.{row_at, pieces_at}
use Rattle.rules.specs.PieceTable.{piece_block, row_counts}
use Rattle.edges.specs.declared.rows.Rows.{Rows}
use Rattle.edges.specs.Span.{row_number}
use Rattle.sweep.specs.declared.active.Live.{Live}
use Rattle.sweep.specs.declared.row.Done.{Done}
use Rattle.sweep.specs.declared.piece.Cut.{Cut}
use Rattle.sweep.specs.Swept.{places, cut_at, cuts, span_block, block_place, numbers, swept, Gathered}
use Rattle.sweep.specs.SweptLaws.{cuts_few, cuts_pieces, added_pieces, as_piece, swept_next, swept_none}
use Rattle.sweep.specs.Laying.{Rowed, Written}

-- ---- a row

module _ (upward : Bool) (c : Cut) (es : List Edge) (from : Done) (r : ℕ) {l l' : List ℕ} {now : Live} (got : Gathered upward es c.y from.live l l' now)
    {d d' : List Float} {after : ℕ} (added : Added block_place (span_block c.y) d d' from.i after (cuts c es (take now.m l'))) where
  pub row_count : after ≤ from.i + length l
  row_count = omega (arith, added.count, cuts_few c es (take now.m l'), length-take now.m l', got.few, got.on)

  pub row_done : {a a' : List ℕ} → Wrote a a' from.i (replicate (after - from.i) r) → Rowed upward c es from r d d' a a' l l' (record { live = now; i = after })
  row_done wrote =
      let n : after - from.i ≡ length (cuts c es (take now.m l')) = omega (arith, added.count) in
      record { size = got.size; few = got.few; on = got.on; active = got.active; waits = got.waits; pieces = added; rows = rw (← n) wrote }

-- ---- all rows

module _ (w : Rows) (upward : Bool) (rule : FillRule) (g : Settings) (es : List Edge) where
  -- what is left of the rows from row r on
  abbrev pub rows_left : Live → List ℕ → ℕ → List (List Piece)
  rows_left live l r = swept upward rule g es (take live.m l) (drop live.next l) (numbers w upward r)

  pub record Laying (d₀ d : List Float) (a₀ a l₀ l : List ℕ) (s : Done) (r : ℕ) (whole : List (List Piece)) : Type 0 where
    pub le : r ≤ w.n
    pub few : s.live.m ≤ s.live.next
    pub on : s.live.next ≤ length l
    pub size : length l ≡ length l₀
    pub bound : s.i ≤ length l₀ * r
    pub pieces : Adding block_place piece_block d₀ d 0 s.i (each (λ l. l) (rows_left s.live l r)) (each (λ l. l) whole)
    pub counts : Run a₀ a 0 s.i (row_counts r (rows_left s.live l r)) (row_counts 0 whole)

  pub laying_start : (d : List Float) (a l : List ℕ) → Laying d d a a l l (record { live = record { m = 0; next = 0 }; i = 0 }) 0 (swept upward rule g es [] l (numbers w upward 0))
  laying_start d a l =
      let whole = swept upward rule g es [] l (numbers w upward 0) in
      record { le = omega arith; few = omega arith; on = omega arith; size = refl; bound = omega arith; pieces = adding_start block_place piece_block d 0 (each (λ l. l) whole); counts = run_start a (row_counts 0 whole) 0 }

  module _ {d₀ d : List Float} {a₀ a l₀ l : List ℕ} {q : Done} {r : ℕ} {whole : List (List Piece)} (v : Laying d₀ d a₀ a l₀ l q r whole) where
    pub laying_end : w.n ≤ r → Written q.i whole d₀ d a₀ a
    unfolding row_counts
    laying_end h =
        let z = swept_none w upward rule g es (take q.live.m l) (drop q.live.next l) r h in
        record { pieces = adding_end block_place piece_block (adding_at block_place piece_block (ap (each (λ l. l)) z) v.pieces); counts = run_end (run_at (ap (row_counts r) z) v.counts) }

    module _ (h : r < w.n) {d' : List Float} {a' l' : List ℕ} {s : Done} {c : Cut} (cut : c ≡ cut_at rule g (row_number w upward r)) (row : Rowed upward c es q r d d' a a' l l' s) where
      k : ℤ
      k = row_number w upward r

      now : List ℕ
      now = places upward es (row_at g k) (take q.live.m l) (drop q.live.next l)

      done : Rowed upward (cut_at rule g k) es q r d d' a a' l l' s
      unfolding k
      done = rw cut at row

      active : take s.live.m l' ≡ now
      unfolding now k cut_at
      active = done.active

      these : List Piece
      these = pieces_at rule g es k now

      same : map (as_piece rule g k) (cuts (cut_at rule g k) es (take s.live.m l')) ≡ these
      unfolding these
      same = rw active (sym (cuts_pieces rule g k es now))

      added : Added block_place piece_block d d' q.i s.i these
      unfolding cut_at
      added = rw same at (added_pieces rule g k block_place (cuts (cut_at rule g k) es (take s.live.m l')) done.pieces)

      many : length (cuts (cut_at rule g k) es (take s.live.m l')) ≡ length these
      many = sym (length-map (cuts (cut_at rule g k) es (take s.live.m l')) (as_piece rule g k)) ∙ ap length same

      left : rows_left q.live l r ≡ these ∷ rows_left s.live l' (r + 1)
      unfolding these now k cut_at
      left = swept_next w upward rule g es (take q.live.m l) (drop q.live.next l) r h ∙ rw (active, done.waits)

      pub laying_step : Laying d₀ d' a₀ a' l₀ l' s (r + 1) whole
      unfolding row_counts
      laying_step =
          let rest = rows_left s.live l' (r + 1) in
          let n : s.i ≡ q.i + length these = added.count in
          let few : length these ≤ s.live.m = omega (arith, many, cuts_few (cut_at rule g k) es (take s.live.m l'), length-take s.live.m l') in
          let wrote : Wrote a a' q.i (replicate (length these) r) = rw many at done.rows in
          let j : q.i + length (replicate (length these) r) ≡ s.i = ap (λ m. q.i + m) (length-replicate (length these) r) ∙ sym n in
          record {
            le = omega arith;
            few = done.few;
            on = omega (arith, done.on, done.size);
            size = done.size ∙ v.size;
            bound = omega (arith, v.bound, v.size, done.few, done.on);
            pieces = adding_step block_place piece_block 3 (λ p. refl) (λ n m. omega arith) these (each (λ l. l) rest) (adding_at block_place piece_block (ap (each (λ l. l)) left) v.pieces) added;
            counts = subst (λ m. Run a₀ a' 0 m (row_counts (r + 1) rest) (row_counts 0 whole)) j (run_step (replicate (length these) r) (row_counts (r + 1) rest) (run_at (ap (row_counts r) left) v.counts) wrote);
          }
