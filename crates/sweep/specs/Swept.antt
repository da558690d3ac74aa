-- The sweep over the rows in the order met, top down or bottom up, as the code goes. Definitions only.
use Rattle.std.specs.Prelude.{ℕ, ◌+◌, ◌-◌, ◌*◌, ◌≤◌, ◌≡◌, Bool, true, false, not, ◌&&◌, cond, List, [], ◌∷◌, ◌++◌, map, leb, ℤ, pos, negsuc, nat_abs, ◌+ℤ◌, length, take, drop, Float, Option, Some, None}
use Rattle.std.specs.Float.Ieee.{neg, le}
use Rattle.numbers.specs.Num.{◌⊕◌, ◌⊖◌, zero64}
use Rattle.numbers.specs.Order.{before}
use Rattle.seqs.specs.Lists.{upto, sift, take_while, drop_while, fold, each, insert_back, by_key}
use Rattle.seqs.specs.Slices.{Wrote}
use Rattle.seqs.specs.Records.{Added}
use Rattle.outlines.specs.declared.rule.FillRule.{FillRule}
use Rattle.outlines.specs.Inside.{inside}
use Rattle.rules.specs.declared.Settings.{Settings}
use Rattle.rules.specs.declared.Edge.{Edge}
use Rattle.rules.specs.declared.Piece.{Piece}
use Rattle.rules.specs.Fill.{edge, row_at, starts, lives, cross_x, crossings, spans, shrink, min_row, pieces_at}
use Rattle.rules.specs.PieceTable.{piece_block, row_counts}
use Rattle.edges.specs.declared.rows.Rows.{Rows}
use Rattle.edges.specs.Span.{row_number, Spanned}
use Rattle.sweep.specs.declared.key.Key.{Key}
use Rattle.sweep.specs.declared.key.Key.TheVariants.{X, Top, Bottom}
use Rattle.sweep.specs.declared.piece.Cut.{Cut}
use Rattle.sweep.specs.declared.piece.Span.{Span}
use Rattle.sweep.specs.declared.piece.Crossing.{Crossing}
use Rattle.sweep.specs.declared.piece.Scan.{Scan}
use Rattle.sweep.specs.declared.active.Live.{Live}

-- ---- places in order

-- what places are ordered by: a row's crossings, y0, or y1 with the last first
abbrev pub key_of : Key → List Edge → ℕ → Float
key_of (X y) es i = cross_x es y i
key_of Top es i = (edge es i).y0
key_of Bottom es i = neg (edge es i).y1

-- by keys in total order, and where they are equal by place
abbrev pub ahead : Float → ℕ → Float → ℕ → Bool
ahead x i z j = cond (before x z) true (cond (before z x) false (leb i j))

abbrev pub by : Key → List Edge → ℕ → ℕ → Bool
by key es i j = by_key before (key_of key es) i j

unfoldable pub ordered : Key → List Edge → List ℕ → List ℕ
ordered key es l = fold (insert_back (by key es)) [] l

-- ---- a row's places

-- going down an edge is taken up once y0 <= y and held while y < y1; going up the other way round
unfoldable pub enters : Bool → List Edge → Float → ℕ → Bool
enters upward es y i = cond upward (lives es y i) (starts es y i)

unfoldable pub stays : Bool → List Edge → Float → ℕ → Bool
stays upward es y i = cond upward (starts es y i) (lives es y i)

-- all places, in the order in which they are taken up
unfoldable pub waiting : Bool → List Edge → List ℕ
waiting upward es = ordered (cond upward Bottom Top) es (upto 0 (length es))

-- from those of the row before and those that wait
unfoldable pub places : Bool → List Edge → Float → List ℕ → List ℕ → List ℕ
places upward es y active wait = ordered (X y) es (sift (stays upward es y) active ++ sift (stays upward es y) (take_while (enters upward es y) wait))

-- ---- a row's pieces

-- what row k asks of its pieces
unfoldable pub cut_at : FillRule → Settings → ℤ → Cut
cut_at rule g k = record { rule = rule; y = row_at g k; shrink = shrink g; least = min_row g }

abbrev pub cut_ends : Cut → Float × Float → Span
cut_ends c ab = record { xa = ab.0 ⊕ c.shrink; xb = ab.1 ⊖ c.shrink }

abbrev pub wide_span : Cut → Span → Bool
wide_span c p = le c.least (p.xb ⊖ p.xa)

-- what is left of a row's pieces at the winding w, a span begun at start, where these crossings are left
unfoldable pub cuts_of : Cut → ℤ → Float → List (Float × ℤ) → List Span
cuts_of c w start cs = sift (wide_span c) (map (cut_ends c) (spans c.rule w start cs))

-- and where a scan of its places stands
unfoldable pub cuts_from : Cut → List Edge → ℤ → Float → List ℕ → List Span
cuts_from c es w start l = cuts_of c w start (crossings es c.y l)

abbrev pub rest_of : Cut → List Edge → List ℕ → Scan → List Span
rest_of c es l s = cuts_from c es s.w s.start (drop s.at l)

unfoldable pub cuts : Cut → List Edge → List ℕ → List Span
cuts c es l = cuts_from c es (pos 0) zero64 l

-- a crossing, and one more of its x that falls or rises
abbrev pub joined_to : Crossing → Bool → Crossing
joined_to c falls = record { x = c.x; dir = c.dir +ℤ cond falls (pos 1) (negsuc 0); next = c.next + 1 }

-- r is the next of a row's crossings, from place `at` on
pub record Crossed (es : List Edge) (y : Float) (l : List ℕ) (at : ℕ) (r : Crossing) : Type 0 where
  pub is : crossings es y (drop at l) ≡ (r.x, r.dir) ∷ crossings es y (drop r.next l)
  pub on : at + 1 ≤ r.next
  pub within : r.next ≤ length l
  pub small : nat_abs r.dir + at ≤ r.next

-- a scan, one crossing on
abbrev pub passed : Cut → Scan → Crossing → Scan
passed c s x =
    let v = s.w +ℤ x.dir in
    record { at = x.next; w = v; start = cond (not (inside c.rule s.w) && inside c.rule v) x.x s.start }

pub record Next (c : Cut) (es : List Edge) (l : List ℕ) (s : Scan) (p : Span) (t : Scan) : Type 0 where
  pub is : rest_of c es l s ≡ p ∷ rest_of c es l t
  pub on : s.at + 1 ≤ t.at
  pub within : t.at ≤ length l
  pub small : nat_abs t.w ≤ t.at

-- what a step of the scan found
abbrev pub Stepped : Cut → List Edge → List ℕ → Scan → Option (Span × Scan) → Type 0
Stepped c es l s (Some f) = Next c es l s f.0 f.1
Stepped c es l s None = rest_of c es l s ≡ []

-- ---- pieces in slices of their own: piece i as a block of three floats at 3·i, its row's count at i; and in the lent slices at 6E + 3·i and 4E + i

abbrev pub span_block : Float → Span → List Float
span_block y p = y ∷ p.xa ∷ p.xb ∷ []

abbrev pub block_place : ℕ → ℕ
block_place i = 3 * i

abbrev pub piece_place : ℕ → ℕ → ℕ
piece_place e i = 6 * e + 3 * i

-- ---- the rows one after the other

-- the numbers of the rows from row r on, in the order met
unfoldable pub numbers : Rows → Bool → ℕ → List ℤ
numbers w upward r = map (row_number w upward) (upto r (w.n - r))

-- the pieces of each row
unfoldable pub swept : Bool → FillRule → Settings → List Edge → List ℕ → List ℕ → List ℤ → List (List Piece)
swept upward rule g es active wait [] = []
swept upward rule g es active wait (k ∷ ks) =
    let now = places upward es (row_at g k) active wait in
    pieces_at rule g es k now ∷ swept upward rule g es now (drop_while (enters upward es (row_at g k)) wait) ks

unfoldable pub swept_all : Bool → FillRule → Settings → List Edge → List ℤ → List (List Piece)
swept_all upward rule g es ks = swept upward rule g es [] (waiting upward es) ks

-- ---- what calls leave

-- of the first m those that pass, in their order: r of them
pub record Retained (p : ℕ → Bool) (m : ℕ) (d d' : List ℕ) (r : ℕ) : Type 0 where
  pub size : length d' ≡ length d
  pub few : r ≤ m
  pub active : take r d' ≡ sift p (take m d)
  pub later : drop m d' ≡ drop m d

-- those from `next` on that are taken up, behind the first m
pub record Admitted (p q : ℕ → Bool) (m next : ℕ) (d d' : List ℕ) (r : Live) : Type 0 where
  pub size : length d' ≡ length d
  pub few : r.m ≤ r.next
  pub on : r.next ≤ length d
  pub active : take r.m d' ≡ take m d ++ sift p (take_while q (drop next d))
  pub waits : drop r.next d' ≡ drop_while q (drop next d)

-- a row's places in order, from those of the row before
pub record Gathered (upward : Bool) (es : List Edge) (y : Float) (live : Live) (d d' : List ℕ) (r : Live) : Type 0 where
  pub size : length d' ≡ length d
  pub few : r.m ≤ r.next
  pub on : r.next ≤ length d
  pub active : take r.m d' ≡ places upward es y (take live.m d) (drop live.next d)
  pub waits : drop r.next d' ≡ drop_while (enters upward es y) (drop live.next d)

-- what a sweep is lent: a table of e edges, and room for its places
pub record Lent (d : List Float) (a : List ℕ) (e : ℕ) (w : Rows) : Type 0 where
  pub floats : 6 * e ≤ length d
  pub wholes : 4 * e ≤ length a
  pub edges : e ≤ 1024
  pub rows : Spanned w

-- what a sweep leaves of the rows `rows`: their pieces behind the table, and for each piece its row's count
pub record Laid (e n : ℕ) (rows : List (List Piece)) (d d' : List Float) (a a' : List ℕ) : Type 0 where
  pub size : length a' ≡ length a
  pub pieces : Added (piece_place e) piece_block d d' 0 n (each (λ r. r) rows)
  pub counts : Wrote (drop (4 * e) a) (drop (4 * e) a') 0 (row_counts 0 rows)
