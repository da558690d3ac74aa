-- Where the needle goes from point to point, in whole units, and the records of that. Definitions only.
use Rattle.std.specs.Prelude.{ℕ, zero, suc, ◌+◌, ◌*◌, ◌/◌, max, cond, List, [], ◌∷◌, ◌++◌, ltb, ℤ, pos, negsuc, neg_ℤ, nat_abs, ◌+ℤ◌, ◌-ℤ◌}
use Rattle.geom.specs.declared.point.P.{P}
use Rattle.dst.specs.declared.records.Kind.{Kind}
use Rattle.dst.specs.declared.records.Kind.TheVariants.{Stitch, Jump}
use Rattle.numbers.specs.Rounding.{rounded}
use Rattle.dst.specs.Records.{record_of, end_record}

-- a place in whole units, or a move from one to another
pub record Whole : Type 0 where
  pub x : ℤ
  pub y : ℤ

abbrev pub whole : ℤ → ℤ → Whole
whole x y = record { x = x; y = y }

abbrev pub origin : Whole
origin = whole (pos 0) (pos 0)

unfoldable pub rounded_point : P → Whole
rounded_point p = whole (rounded p.x) (rounded p.y)

abbrev pub move : Whole → Whole → Whole
move a b = whole (b.x -ℤ a.x) (b.y -ℤ a.y)

-- where a record goes to, and its kind
pub record Mark : Type 0 where
  pub kind : Kind
  pub to : Whole

-- ---- a move over 121 either way is cut

-- the fewest parts of at most 121: of a way of n, and of a move; no move is still a part
abbrev pub fewest : ℕ → ℕ
fewest n = (n + 120) / 121

unfoldable pub parts : Whole → ℕ
parts d = max 1 (max (fewest (nat_abs d.x)) (fewest (nat_abs d.y)))

-- i·d/n, toward zero
abbrev pub quotient : ℤ → ℕ → ℕ → ℤ
quotient (pos m) i n = pos (i * m / n)
quotient (negsuc m) i n = neg_ℤ (pos (i * suc m / n))

-- cut i of n on the way from a by d
unfoldable pub cut_at : ℤ → ℤ → ℕ → ℕ → ℤ
cut_at a d n i = a +ℤ quotient d i n

abbrev pub cut : Whole → Whole → ℕ → ℕ → Whole
cut a d n i = whole (cut_at a.x d.x n i) (cut_at a.y d.y n i)

-- each part but the last is a jump, the last is a stitch
abbrev pub kind_at : ℕ → ℕ → Kind
kind_at i n = cond (ltb i n) Jump Stitch

-- cut i of n and those after it, `left` of them
unfoldable pub cuts_from : Whole → Whole → ℕ → ℕ → ℕ → List Mark
cuts_from a d n i zero = []
cuts_from a d n i (suc left) = record { kind = kind_at i n; to = cut a d n i } ∷ cuts_from a d n (i + 1) left

unfoldable pub way : Whole → Whole → List Mark
way a b = cuts_from a (move a b) (parts (move a b)) 1 (parts (move a b))

-- ---- all points

-- from a on
unfoldable pub thread : Whole → List P → List Mark
thread a [] = []
thread a (p ∷ ps) = way a (rounded_point p) ++ thread (rounded_point p) ps

-- the records of marks, the needle standing at a
unfoldable pub records_from : Whole → List Mark → List ℕ
records_from a [] = []
records_from a (m ∷ ms) = record_of m.kind (move a m.to).x (move a m.to).y ++ records_from m.to ms

-- where the needle stands after them
abbrev pub end_of : Whole → List Mark → Whole
end_of a [] = a
end_of a (m ∷ ms) = end_of m.to ms

-- the first move starts from (0, 0)
unfoldable pub dst_bytes : List P → List ℕ
dst_bytes ps = records_from origin (thread origin ps) ++ end_record
