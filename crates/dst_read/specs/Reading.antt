-- A file read: where it stops and with which answer, and the points of its records. Definitions only.
use Rattle.std.specs.Prelude.{ℕ, zero, suc, ◌+◌, cond, List, [], ◌∷◌, leb, ◌+ℤ◌, Float}
use Rattle.refusal.specs.Refusal.{DONE, SIZE}
use Rattle.numbers.specs.Num.{real}
use Rattle.dst.specs.Said.{said_x, said_y}
use Rattle.dst.specs.Thread.{Whole, whole}
use Rattle.dst_read.specs.Unread.{Verdict}
use Rattle.dst_read.specs.Names.{RECORD, CUT, most_records}
use Rattle.dst_read.specs.Record.{bad, is_end, mark_of}

abbrev pub stop : ℕ → ℕ → Verdict
stop answer r = record { answer = answer; number = r }

-- from record r on: the first that is met in file order
unfoldable pub verdict : ℕ → List ℕ → Verdict
verdict r [] = stop CUT r
verdict r (a ∷ []) = stop CUT r
verdict r (a ∷ b ∷ []) = stop CUT r
verdict r (a ∷ b ∷ c ∷ l) = cond (is_end a b c) (stop DONE r) (cond (leb most_records r) (stop SIZE r) (cond (bad a b c) (stop RECORD r) (verdict (r + 1) l)))

-- a point of the file, and its mark
pub record Marked : Type 0 where
  pub mark : ℕ
  pub to : Whole

-- where a record goes to
abbrev pub goes : Whole → ℕ → ℕ → ℕ → Whole
goes at a b c = whole (at.x +ℤ said_x a b c) (at.y +ℤ said_y a b c)

-- the points of n records, the needle standing at a place
unfoldable pub points_from : Whole → ℕ → List ℕ → List Marked
points_from at zero l = []
points_from at (suc n) [] = []
points_from at (suc n) (a ∷ []) = []
points_from at (suc n) (a ∷ b ∷ []) = []
points_from at (suc n) (a ∷ b ∷ c ∷ l) = record { mark = mark_of c; to = goes at a b c } ∷ points_from (goes at a b c) n l

-- x before y, whole numbers
unfoldable pub coordinates : List Marked → List Float
coordinates [] = []
coordinates (p ∷ ps) = real p.to.x ∷ real p.to.y ∷ coordinates ps

unfoldable pub marks_of : List Marked → List ℕ
marks_of [] = []
marks_of (p ∷ ps) = p.mark ∷ marks_of ps
