-- The next crossing of a row, of all that the kept sides have, and the row's pieces from one crossing to the next. Definitions only.
use Rattle.std.specs.Prelude.{ℕ, ◌+◌, ◌≤◌, ◌≡◌, Bool, true, false, not, cond, List, ℤ, pos, nat_abs, ◌+ℤ◌, length, Float}
use Rattle.std.specs.Float.{inf}
use Rattle.std.specs.Float.Ieee.{lt}
use Rattle.numbers.specs.Num.{zero64}
use Rattle.numbers.specs.Order.{before}
use Rattle.seqs.specs.Lists.{sift, fold, All}
use Rattle.rules.specs.declared.Edge.{Edge}
use Rattle.rules.proofs.Gathered.{Number, gathered}
use Rattle.rules.specs.Drawn.{crosses, cross_at, unsorted}
use Rattle.sweep.specs.declared.piece.Cut.{Cut}
use Rattle.sweep.specs.declared.piece.Span.{Span}
use Rattle.sweep.specs.declared.piece.Crossing.{Crossing}
use Rattle.sweep.specs.declared.piece.Scan.{Scan}
use Rattle.sweep.specs.Swept.{cuts_of}
use Rattle.rowwise.specs.declared.crossing.Ask.{Ask}

-- ---- the next crossing

-- no crossing so far: the last of all x, and no side passed but those passed before
abbrev pub none_yet : ℕ → Crossing
none_yet at = record { x = inf false; dir = pos 0; next = at }

-- a crossing c that is met where m is the nearest so far. It is passed over where it doesn't stand behind the one that was passed last; it is the
-- nearest where it stands before m; and where the two are one, their directions are added
abbrev pub nearer : Ask → Float × ℤ → Crossing → Crossing
nearer q c m =
    cond (before q.after c.0)
    (cond (before c.0 m.x) (record { x = c.0; dir = c.1; next = q.at + 1 })
    (cond (before m.x c.0) m (record { x = m.x; dir = m.dir +ℤ c.1; next = m.next + 1 })))
    m

-- an edge that may cross the row
abbrev pub meet : Ask → Edge → Crossing → Crossing
meet q e m = cond (crosses q.y e) (nearer q (cross_at q.y e) m) m

-- row y passes between two heights
abbrev pub between : Float → Float → Float → Bool
between y a b = cond (lt y a) (not (lt y b)) (lt y b)

-- as many sides as directions
pub record Held (q : Ask) (m : Crossing) : Type 0 where
  pub small : nat_abs m.dir + q.at ≤ m.next
  pub few : m.next ≤ 10000

pub record Nearer (q : Ask) (c : Float × ℤ) (m r : Crossing) : Type 0 where
  pub is : r ≡ nearer q c m
  pub small : nat_abs r.dir + q.at ≤ r.next
  pub few : r.next ≤ m.next + 1

-- r is what the edges es make of m, n sides at most
pub record Gone (q : Ask) (m : Crossing) (es : List Edge) (n : ℕ) (r : Crossing) : Type 0 where
  pub is : r ≡ fold (meet q) m es
  pub small : nat_abs r.dir + q.at ≤ r.next
  pub few : r.next ≤ m.next + n

-- ---- a row's pieces

-- the crossings of row y behind `after`, those of equal x taken as one
unfoldable pub behind : Float → List Edge → Float → List (Float × ℤ)
behind y es after = sift (λ c. before after c.0) (gathered (unsorted y es))

-- how many sides have them
unfoldable pub sides_behind : Float → List Edge → Float → ℕ
sides_behind y es after = length (sift (λ c. before after c.0) (unsorted y es))

-- every crossing of row y is a number, and neither first nor last of all
abbrev pub Inner : Float → Type 0
Inner x = Number x × (before (inf true) x ≡ true) × (before x (inf false) ≡ true)

pub record Clear (y : Float) (es : List Edge) : Type 0 where
  pub inner : All (λ c. Inner c.0) (unsorted y es)

-- a row's pieces that are left where a scan stands, behind the crossing `after`
unfoldable pub left_after : Cut → List Edge → Scan → Float → List Span
left_after c es s after = cuts_of c s.w s.start (behind c.y es after)

-- all pieces of a row
unfoldable pub row_cuts : Cut → List Edge → List Span
row_cuts c es = cuts_of c (pos 0) zero64 (behind c.y es (inf true))
