-- The marks by place, of a row and of all rows: what the code works out, said of the slices. Definitions only.
use Rattle.std.specs.Prelude.{ℕ, zero, suc, ◌+◌, ◌-◌, ◌*◌, ◌≤◌, ◌<◌, ◌≡◌, Bool, cond, ◌&&◌, List, [], ◌∷◌, ◌++◌, map, eqb, pos, length, get_or, take, drop, Float, Option, Some, None}
use Rattle.std.specs.Float.{nan}
use Rattle.seqs.specs.Lists.{upto, sift, each, take_while}
use Rattle.geom.specs.declared.point.P.{P}
use Rattle.outlines.specs.declared.rule.FillRule.{FillRule}
use Rattle.rules.specs.declared.Settings.{Settings}
use Rattle.rules.specs.declared.Piece.{Piece}
use Rattle.rules.specs.declared.Entry.{Entry}
use Rattle.rules.specs.Fill.{overlap, connects, entries}
use Rattle.rules.specs.PieceTable.{piece_block, row_counts}
use Rattle.sections.specs.declared.Mark.{Mark}
use Rattle.sections.specs.declared.Row.{Row}

-- the piece at place i, its row's number left out, and the entry at place t of n
abbrev pub piece_in : List Float → ℕ → Piece
piece_in l i = record { k = pos 0; y = get_or l (3 * i) nan; xa = get_or l (3 * i + 1) nan; xb = get_or l (3 * i + 2) nan }

abbrev pub entry_in : List Float → List ℕ → ℕ → ℕ → Entry
entry_in l w n t = record { piece = piece_in l t; section = get_or w (n + 2 * t) 0; nth = get_or w (n + 2 * t + 1) 0 }

-- the places from i up to n that pass
abbrev pub hits : (ℕ → Bool) → ℕ → ℕ → List ℕ
hits p i n = sift p (upto i (n - i))

-- the piece at t overlaps p; o overlaps the piece at j
abbrev pub over : List Float → Piece → ℕ → Bool
over l p t = overlap (piece_in l t) p

abbrev pub under : List Float → Piece → ℕ → Bool
under l o j = overlap o (piece_in l j)

unfoldable pub count_of : (ℕ → Bool) → ℕ → ℕ → ℕ
count_of p i n = length (hits p i n)

abbrev pub only_at : List ℕ → Option ℕ
only_at [] = None
only_at (a ∷ []) = Some a
only_at (a ∷ b ∷ l) = None

-- the marks of the places from b up to r have small places in their sections
abbrev pub Low : ℕ → ℕ → ℕ → List ℕ → ℕ → Type 0
Low n b r w most = (t : ℕ) → b ≤ t → t < r → get_or w (n + 2 * t + 1) 0 ≤ most

-- a place from b on, before r
abbrev pub Within : Option ℕ → ℕ → ℕ → Type 0
Within (Some t) b r = (b ≤ t) × (t < r)
Within None b r = Unit {0}

module _ (rings : List (List P)) (rule : FillRule) (g : Settings) (l : List Float) (w : List ℕ) (s : Row) where
  -- of the one open place that the piece at j overlaps: that place, where no other piece of this row overlaps it and the link is inside
  abbrev pub joined_at : ℕ → Option ℕ → Option ℕ
  joined_at j None = None
  joined_at j (Some t) = cond (eqb (count_of (under l (piece_in l t)) s.r0 s.r1) 1 && connects rings rule g (entry_in l w s.n t) (piece_in l j)) (Some t) None

  unfoldable pub joins_at : ℕ → Option ℕ
  joins_at j = joined_at j (only_at (hits (over l (piece_in l j)) s.b0 s.r0))

  abbrev pub mark_by : ℕ → Option ℕ → Mark
  mark_by new None = record { section = new; nth = 0 }
  mark_by new (Some t) = record { section = get_or w (s.n + 2 * t) 0; nth = get_or w (s.n + 2 * t + 1) 0 + 1 }

  -- the mark of the piece at j, where a new section gets the number `new`
  unfoldable pub mark_at : ℕ → ℕ → Mark
  mark_at new j = mark_by new (joins_at j)

abbrev pub after_at : ℕ → Mark → ℕ
after_at new m = cond (eqb m.nth 0) (new + 1) new

abbrev pub flat_mark : Mark → List ℕ
flat_mark m = m.section ∷ m.nth ∷ []

module _ (rings : List (List P)) (rule : FillRule) (g : Settings) (l : List Float) (w : List ℕ) (s : Row) where
  -- the marks of the pieces from j on, `left` of them, and the number that the next new section gets
  unfoldable pub row_marks : ℕ → ℕ → ℕ → List ℕ
  row_marks new j zero = []
  row_marks new j (suc left) = let m = mark_at rings rule g l w s new j in flat_mark m ++ row_marks (after_at new m) (j + 1) left

  unfoldable pub row_new : ℕ → ℕ → ℕ → ℕ
  row_new new j zero = new
  row_new new j (suc left) = row_new (after_at new (mark_at rings rule g l w s new j)) (j + 1) left

-- the marks of a list of entries
abbrev pub flat_marks : List Entry → List ℕ
flat_marks es = each (λ e. e.section ∷ e.nth ∷ []) es

-- ---- all rows

-- where row r ends that starts at place i: the first place from there on, of n, that has another row
unfoldable pub row_end : List ℕ → ℕ → ℕ → ℕ → ℕ
row_end w n i r = i + length (take_while (λ a. eqb a r) (drop i (take n w)))

-- the pieces of row r, which starts at place i, and of the rows after it, `left` rows in all
unfoldable pub rows_in : List Float → List ℕ → ℕ → ℕ → ℕ → ℕ → List (List Piece)
rows_in l w n i r zero = []
rows_in l w n i r (suc left) = let end = row_end w n i r in map (piece_in l) (upto i (end - i)) ∷ rows_in l w n end (r + 1) left

-- the pieces of the slices' first rows with their marks
unfoldable pub marked_in : List (List P) → FillRule → Settings → List Float → List ℕ → ℕ → ℕ → List Entry
marked_in rings rule g l w n rows = entries rings rule g [] 0 (rows_in l w n 0 0 rows)

-- ---- pieces laid out

-- the slices hold the n pieces of these rows
pub record Laid (rows : List (List Piece)) (l : List Float) (w : List ℕ) (n : ℕ) : Type 0 where
  pub count : n ≡ length (each (λ r. r) rows)
  pub floats : take (3 * n) l ≡ each piece_block (each (λ r. r) rows)
  pub counts : take n w ≡ row_counts 0 rows
