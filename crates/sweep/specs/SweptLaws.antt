-- Laws of the sweep's definitions. Assumes nothing.
use Rattle.std.specs.Prelude.{ℕ, suc, ◌+◌, ◌*◌, ◌≤◌, ◌<◌, ◌≡◌, Bool, cond, not, ◌&&◌, ℤ, pos, ◌+ℤ◌, length, Float}
use Rattle.std.proofs.Common.{mul-le-mul_left, arith, ◌∙◌}
use Rattle.std.proofs.Math.Path.{refl, ap}
use Rattle.std.proofs.Math.Bool.{true, false}
use mathlib.Core.List.{List, [], ◌∷◌, ◌++◌, map, append-nil}
use Rattle.std.proofs.lemmas.List.{length-map}
use Rattle.numbers.specs.Num.{zero64}
use Rattle.seqs.specs.Lists.{keep_if, sift, each, drop_while}
use Rattle.seqs.specs.Records.{Added}
use Rattle.seqs.specs.Reads.{fuel_more, fuel_none}
use Rattle.seqs.specs.Sift.{sift_length}
use Rattle.seqs.specs.Sort.{perm_length, backs_perm}
use Rattle.outlines.specs.declared.rule.FillRule.{FillRule}
use Rattle.outlines.specs.Inside.{inside}
use Rattle.rules.specs.declared.Settings.{Settings}
use Rattle.rules.specs.declared.Edge.{Edge}
use Rattle.rules.specs.declared.Piece.{Piece}
use Rattle.rules.specs.Fill.{row_at, crossing, merged, crossings, spans, piece_of, wide, pieces_at}
use Rattle.rules.proofs.Merged.{merged_length}
use Rattle.rules.specs.PieceTable.{piece_block}
use Rattle.edges.specs.declared.rows.Rows.{Rows}
use Rattle.edges.specs.Span.{row_number}
use Rattle.sweep.specs.declared.key.Key.{Key}
use Rattle.sweep.specs.declared.piece.Cut.{Cut}
use Rattle.sweep.specs.declared.piece.Span.{Span}
use Rattle.sweep.specs.declared.piece.Scan.{Scan}
use Rattle.sweep.specs.Swept.{by, ordered, enters, places, cut_at, cut_ends, wide_span, cuts_of, cuts_from, rest_of, cuts, Next, span_block, numbers, swept}
use Rattle.sweep.specs.Step.{Step, Stepped}
use Rattle.sweep.specs.Step.Step.{Found, End}

pub ordered_length : (key : Key) (es : List Edge) (l : List ℕ) → length (ordered key es l) ≡ length l
unfolding ordered
ordered_length key es l = perm_length (backs_perm (by key es) [] l) ∙ ap length (append-nil l)

-- ---- a row has no more pieces than places

spans_few : (rule : FillRule) (w : ℤ) (start : Float) (l : List (Float × ℤ)) → length (spans rule w start l) ≤ length l
unfolding spans
spans_few rule w start [] = omega arith
spans_few rule w start (c ∷ l) = go (inside rule w && not (inside rule (w +ℤ c.1))) (start, c.0) (spans rule (w +ℤ c.1) (cond (not (inside rule w) && inside rule (w +ℤ c.1)) c.0 start) l) (spans_few rule (w +ℤ c.1) (cond (not (inside rule w) && inside rule (w +ℤ c.1)) c.0 start) l)
  where
    go : (b : Bool) (p : Float × Float) (r : List (Float × Float)) → length r ≤ length l → length (keep_if b p r) ≤ suc (length l)
    go true p r h = omega arith
    go false p r h = omega arith

pub cuts_few : (c : Cut) (es : List Edge) (l : List ℕ) → length (cuts c es l) ≤ length l
unfolding cuts cuts_from cuts_of crossings
cuts_few c es l =
    let cs = map (crossing es c.y) l in
    let ss = spans c.rule (pos 0) zero64 (merged cs) in
    omega (arith, sift_length (wide_span c) (map (cut_ends c) ss), length-map ss (cut_ends c), spans_few c.rule (pos 0) zero64 (merged cs), merged_length cs, length-map l (crossing es c.y))

-- ---- one crossing on

module _ (c : Cut) (w : ℤ) (start : Float) where
  keep : (was now : Bool) (x : Float) (r : Float → List (Float × Float))
      → sift (wide_span c) (map (cut_ends c) (keep_if (was && not now) (start, x) (r (cond (not was && now) x start))))
      ≡ keep_if ((was && not now) && wide_span c (cut_ends c (cond (not was && now) x start, x))) (cut_ends c (cond (not was && now) x start, x)) (sift (wide_span c) (map (cut_ends c) (r (cond (not was && now) x start))))
  keep true true x r = refl
  keep true false x r = refl
  keep false true x r = refl
  keep false false x r = refl

  -- past the crossing at x, where a piece may end
  pub cuts_next : (x : Float) (d : ℤ) (cs : List (Float × ℤ))
      → let v = w +ℤ d in
      let from = cond (not (inside c.rule w) && inside c.rule v) x start in
      let q = cut_ends c (from, x) in
      cuts_of c w start ((x, d) ∷ cs) ≡ keep_if ((inside c.rule w && not (inside c.rule v)) && wide_span c q) q (cuts_of c v from cs)
  unfolding cuts_of spans
  cuts_next x d cs = keep (inside c.rule w) (inside c.rule (w +ℤ d)) x (λ from. spans c.rule (w +ℤ d) from cs)

  pub cuts_none : cuts_of c w start [] ≡ []
  unfolding cuts_of spans
  cuts_none = refl

-- ---- a row's spans are its pieces

module _ (rule : FillRule) (g : Settings) (k : ℤ) where
  -- as the piece of row k
  abbrev pub as_piece : Span → Piece
  as_piece p = record { k = k; y = row_at g k; xa = p.xa; xb = p.xb }

  pub as_pieces : (l : List (Float × Float)) → sift (wide g) (map (piece_of g k) l) ≡ map as_piece (sift (wide_span (cut_at rule g k)) (map (cut_ends (cut_at rule g k)) l))
  unfolding wide piece_of cut_at
  as_pieces [] = refl
  as_pieces (ab ∷ l) =
      let c = cut_at rule g k in
      go (wide_span c (cut_ends c ab)) (cut_ends c ab) (sift (wide_span c) (map (cut_ends c) l)) (as_pieces l)
    where
      go : (b : Bool) (p : Span) {m : List Piece} (r : List Span) → m ≡ map as_piece r → keep_if b (as_piece p) m ≡ map as_piece (keep_if b p r)
      go true p r e = ap (λ r. as_piece p ∷ r) e
      go false p r e = e

  pub cuts_pieces : (es : List Edge) (l : List ℕ) → pieces_at rule g es k l ≡ map as_piece (cuts (cut_at rule g k) es l)
  unfolding pieces_at cuts cuts_from cuts_of cut_at
  cuts_pieces es l = as_pieces (spans rule (pos 0) zero64 (crossings es (row_at g k) l))

  piece_blocks : (ps : List Span) → each (span_block (row_at g k)) ps ≡ each piece_block (map as_piece ps)
  piece_blocks [] = refl
  piece_blocks (p ∷ ps) = ap (λ r. span_block (row_at g k) p ++ r) (piece_blocks ps)

  -- adding a row's spans is adding its pieces
  pub added_pieces : (at : ℕ → ℕ) {d d' : List Float} {n r : ℕ} (ps : List Span) → Added at (span_block (row_at g k)) d d' n r ps → Added at piece_block d d' n r (map as_piece ps)
  added_pieces at ps a = record { wrote = rw (← piece_blocks ps) a.wrote; count = a.count ∙ rw (length-map ps as_piece) }

-- ---- the rows one after the other

module _ (w : Rows) (upward : Bool) (r : ℕ) where
  pub numbers_next : r < w.n → numbers w upward r ≡ row_number w upward r ∷ numbers w upward (r + 1)
  unfolding numbers
  numbers_next h = rw (fuel_more w.n r h)

  pub numbers_none : w.n ≤ r → numbers w upward r ≡ []
  unfolding numbers
  numbers_none h = rw (fuel_none w.n r h)

module _ (w : Rows) (upward : Bool) (rule : FillRule) (g : Settings) (es : List Edge) (active wait : List ℕ) (r : ℕ) where
  pub swept_next : r < w.n
      → swept upward rule g es active wait (numbers w upward r)
      ≡ pieces_at rule g es (row_number w upward r) (places upward es (row_at g (row_number w upward r)) active wait)
      ∷ swept upward rule g es (places upward es (row_at g (row_number w upward r)) active wait) (drop_while (enters upward es (row_at g (row_number w upward r))) wait) (numbers w upward (r + 1))
  unfolding swept
  swept_next h = rw (numbers_next w upward r h)

  pub swept_none : w.n ≤ r → swept upward rule g es active wait (numbers w upward r) ≡ []
  unfolding swept
  swept_none h = rw (numbers_none w upward r h)

-- ---- a step of a scan

module _ (c : Cut) (es : List Edge) (l : List ℕ) (s : Scan) where
  -- what a step says, once it is known which
  pub step_end : {r : Step} → r ≡ End → Stepped c es l s r → rest_of c es l s ≡ []
  step_end e f = rw e at f

  pub step_found : {r : Step} {p : Span} {t : Scan} → r ≡ Found p t → Stepped c es l s r → Next c es l s p t
  step_found e f = rw e at f

-- a fill's pieces are few enough to count
pub few_pieces : {e r i : ℕ} → e ≤ 1024 → r ≤ 4096 → i ≤ e * r → i ≤ 5000000
few_pieces {e} {r} h k l = omega (arith, mul-le-mul_left e k)
