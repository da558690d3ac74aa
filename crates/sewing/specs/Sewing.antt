-- What sewing reads and leaves in the working slices, a row's targets by index, the cuts of a gap. Definitions only.
use Rattle.std.specs.Prelude.{ℕ, zero, suc, ◌+◌, ◌-◌, ◌*◌, ◌%◌, ◌^◌, ◌≤◌, ◌<◌, ◌≡◌, Bool, true, cond, List, [], ◌∷◌, ◌++◌, map, T, ltb, eqb, ℤ, pos, ◌+ℤ◌, ◌-ℤ◌, length, take, drop, get_or, Float}
use Rattle.std.specs.Float.{nan, binary64}
use Rattle.std.specs.Float.Ieee.{fits, lt, le, to_signed, to_unsigned}
use Rattle.std.specs.Int.{w64}
use Rattle.std.proofs.Common.{SFits}
use Rattle.numbers.specs.Num.{◌⊕◌, ◌⊖◌, ◌⊗◌, ◌⊘◌, real, literal, zero64}
use Rattle.numbers.specs.Order.{smaller, finite}
use Rattle.numbers.specs.Root.{root}
use Rattle.numbers.specs.Whole.{floor, ceil}
use Rattle.seqs.specs.Lists.{upto, each}
use Rattle.seqs.specs.Slices.{capped}
use Rattle.geom.specs.declared.point.P.{P}
use Rattle.geom.specs.Point.{point, rotate, lerp}
use Rattle.rules.specs.declared.Settings.{Settings}
use Rattle.rules.specs.declared.Entry.{Entry}
use Rattle.rules.specs.Fill.{how_many, offset, section, row_points, sew_from, sewn}
use Rattle.sewing.specs.declared.Field.{Field}
use Rattle.sewing.specs.declared.row.Row.{Row}
use Rattle.sewing.specs.declared.stitch.Limits.{Limits}

-- ---- the row list in the working slices

-- row r in the order met: from the first up, or down when bottom up
abbrev pub row_number : ℤ → Bool → ℕ → ℤ
row_number first down r = cond down (first -ℤ pos r) (first +ℤ pos r)

-- piece i: y, xa, xb at 3·i of the floats; of n pieces its row at i of the wholes, its section and its place in it at n + 2·i
unfoldable pub entry_at : Field → List Float → List ℕ → ℕ → Entry
entry_at f floats wholes i = record {
  piece = record { k = row_number f.row f.down (get_or wholes i 0); y = get_or floats (3 * i) nan; xa = get_or floats (3 * i + 1) nan; xb = get_or floats (3 * i + 2) nan };
  section = get_or wholes (f.pieces + 2 * i) 0;
  nth = get_or wholes (f.pieces + 2 * i + 1) 0;
}

unfoldable pub entries_in : Field → List Float → List ℕ → List Entry
entries_in f floats wholes = map (entry_at f floats wholes) (upto 0 f.pieces)

-- the section numbers of n pieces
unfoldable pub numbers_in : ℕ → List ℕ → List ℕ
numbers_in n wholes = map (λ i. get_or wholes (n + 2 * i) 0) (upto 0 n)

-- the sections 0 to n - 1: all of them where n is `begun`
abbrev pub first_sections : List Entry → ℕ → List (List Entry)
first_sections es n = map (section es) (upto 0 n)

-- ---- links

-- where number s first stands in a list whose first place is i; where it doesn't, the place behind the last
unfoldable pub seek : ℕ → ℕ → List ℕ → ℕ
seek s i [] = i
seek s i (t ∷ ts) = cond (eqb t s) i (seek s (i + 1) ts)

-- the first place of section s
unfoldable pub first_of : List ℕ → ℕ → ℕ
first_of numbers s = seek s 0 numbers

-- the next place after i with the same section number
unfoldable pub next_of : List ℕ → ℕ → ℕ
next_of numbers i = seek (get_or numbers i 0) (i + 1) (drop (i + 1) numbers)

-- what `link` writes: the next of each piece, the first of each of n sections
unfoldable pub links : List ℕ → ℕ → List ℕ
links numbers n = map (next_of numbers) (upto 0 (length numbers)) ++ map (first_of numbers) (upto 0 n)

-- the marks are there, with room for the links behind them
pub record Marked (n sections : ℕ) (wholes : List ℕ) : Type 0 where
  pub room : 4 * n + sections ≤ length wholes
  pub below : (i : ℕ) → i < n → get_or wholes (n + 2 * i) 0 < sections

-- d is d₀ with the links of the pieces from i on: theirs, and the first of each section among them
pub record Linking (n sections i : ℕ) (numbers d₀ d : List ℕ) : Type 0 where
  pub size : length d ≡ length d₀
  pub kept : take (3 * n) d ≡ take (3 * n) d₀
  pub nexts : (j : ℕ) → i ≤ j → j < n → get_or d (3 * n + j) 0 ≡ next_of numbers j
  pub firsts : (s : ℕ) → s < sections → get_or d (4 * n + s) 0 ≡ seek s i (drop i numbers)
  pub behind : drop (4 * n + sections) d ≡ drop (4 * n + sections) d₀

-- what a walk along the links meets, from place j on, in at most n steps
unfoldable pub walk : List Entry → ℕ → ℕ → List Entry
walk es zero j = []
walk es (suc n) j = take 1 (drop j es) ++ walk es n (next_of (map (λ e. e.section) es) j)

-- the pieces' part and the whole numbers are there, and hold the links
pub record Linked (f : Field) (sections : ℕ) (floats : List Float) (wholes : List ℕ) : Type 0 where
  pub stagger : f.stagger < 2 ^ 32
  pub pieces : 3 * f.pieces ≤ length floats
  pub numbers : 4 * f.pieces + sections ≤ length wholes
  pub nexts : (i : ℕ) → i < f.pieces → get_or wholes (3 * f.pieces + i) 0 ≡ next_of (numbers_in f.pieces wholes) i
  pub firsts : (s : ℕ) → s < sections → get_or wholes (4 * f.pieces + s) 0 ≡ first_of (numbers_in f.pieces wholes) s

-- ---- a row's targets

-- more needle points than this in a row are not told apart: no output has room for them
abbrev pub most : ℕ
most = 9223372036854775807

abbrev pub forward : Entry → Bool
forward e = eqb (e.nth % 2) 0

-- where a piece's row starts, and where it ends
abbrev pub start_of : Entry → P
start_of e = point (cond (forward e) e.piece.xa e.piece.xb) e.piece.y

abbrev pub end_of : Entry → P
end_of e = point (cond (forward e) e.piece.xb e.piece.xa) e.piece.y

-- the least first and last stitch of a row; the numbers of its first and last needle point
abbrev pub min_end : Float → Float
min_end len = smaller (len ⊗ literal 1 4) (literal 5 1)

abbrev pub lowest : Float → Float → Float → Float → ℤ
lowest len margin off xa = to_signed 63 (ceil ((xa ⊕ margin ⊖ off) ⊘ len))

abbrev pub highest : Float → Float → Float → Float → ℤ
highest len margin off xb = to_signed 63 (floor ((xb ⊖ margin ⊖ off) ⊘ len))

unfoldable pub row_by : Float → Float → Float → Float → Float → Float → Bool → Row
row_by len margin off y xa xb fwd = record {
  y = y;
  first = cond fwd xa xb;
  last = cond fwd xb xa;
  off = off;
  m0 = lowest len margin off xa;
  n = capped most (how_many (lowest len margin off xa) (highest len margin off xb));
  forward = fwd;
}

unfoldable pub row_of : Settings → ℕ → Entry → Row
row_of g stagger e = row_by g.len (min_end g.len) (offset g stagger e.piece.k) e.piece.y e.piece.xa e.piece.xb (forward e)

-- a row's place in the stagger's cycle, from the place of the first row met
unfoldable pub phase_of : ℕ → ℕ → ℕ → Bool → ℕ
phase_of start r n down = cond down ((start + (n - r % n)) % n) ((start + r % n) % n)

-- every needle point's number is one of the machine's
abbrev pub Near : Row → Type 0
Near w = (i : ℕ) → i < w.n → SFits w64 (w.m0 +ℤ pos i)

-- needle point i of a row, left to right
abbrev pub needle : Float → Row → ℕ → Float
needle len w i = w.off ⊕ real (w.m0 +ℤ pos i) ⊗ len

-- target r of n + 2, in the order sewn: the row's start, its needle points, its end
unfoldable pub target : Float → Row → ℕ → Float
target len w r = cond (eqb r 0) w.first (cond (ltb w.n r) w.last (needle len w (cond w.forward (r - 1) (w.n - r))))

-- the targets from r on, `left` of them
unfoldable pub targets : Float → Row → ℕ → ℕ → List P
targets len w r left = map (λ i. point (target len w i) w.y) (upto r left)

-- ---- gaps

-- how many points cut a step of length x, worked in f64
abbrev pub cuts_at : Float → Float → ℕ
cuts_at len x = to_unsigned 64 (ceil (x ⊘ len)) - 1

-- and one whose squared length is d
unfoldable pub cuts_for : Float → Float → ℕ
cuts_for len d = cuts_at len (root d)

-- the squared length of the step from p to q
abbrev pub square : P → P → Float
square p q = (p.x ⊖ q.x) ⊗ (p.x ⊖ q.x) ⊕ (p.y ⊖ q.y) ⊗ (p.y ⊖ q.y)

-- how many points cut the way from p to q
unfoldable pub cuts : Float → P → P → ℕ
cuts len p q = cuts_for len (square p q)

-- x and its square, rounded, are finite and above zero, and the root of that is x again
pub record OwnRoot (x : Float) : Type 0 where
  pub above : T (lt zero64 x)
  pub fine : T (finite x)
  pub some : T (lt zero64 (x ⊗ x))
  pub whole : T (finite (x ⊗ x))
  pub back : root (x ⊗ x) ≡ x

-- squared lengths that decide with no root: up to `one` there is no cut, from `from` to `two` there is one
pub record Decides (len : Float) (m : Limits) : Type 0 where
  pub none : (d : Float) → T (fits binary64 d) → le d m.one ≡ true → cuts_for len d ≡ 0
  pub once : (d : Float) → T (fits binary64 d) → le m.from d ≡ true → le d m.two ≡ true → cuts_for len d ≡ 1

-- these points, n of them
unfoldable pub way : P → P → ℕ → List P
way p q n = map (λ i. lerp p q (real (pos i) ⊘ real (pos (n + 1)))) (upto 1 n)

-- the points of a gap: those on the way, and q
abbrev pub gap : P → P → ℕ → List P
gap p q n = way p q n ++ (q ∷ [])

-- from p to each of the points in turn, no step longer than len
unfoldable pub sew_to : Float → P → List P → List P
sew_to len p [] = []
sew_to len p (q ∷ qs) = gap p q (cuts len p q) ++ sew_to len q qs

-- turned back by (c, s)
unfoldable pub back : Float → Float → List P → List P
back c s ps = map (λ p. rotate p c s) ps

-- the rows of these entries, sewn from where the pen is, turned back
unfoldable pub sewn_from : Settings → ℕ → P → List Entry → List P
sewn_from g stagger pen es = back g.cosine g.sine (sew_from g pen (each (row_points g stagger) es))

-- a row, sewn from the pen and turned back
abbrev pub row_sewn : Settings → P → Row → List P
row_sewn g pen w = back g.cosine g.sine (sew_to g.len pen (targets g.len w 0 (w.n + 2)))

-- section s of the pieces, sewn, and the first n of them
abbrev pub section_sewn : Field → List Float → List ℕ → ℕ → List P
section_sewn f floats wholes s = sewn f.g f.stagger (section (entries_in f floats wholes) s)

abbrev pub first_sewn : Field → List Float → List ℕ → ℕ → List (List P)
first_sewn f floats wholes n = map (sewn f.g f.stagger) (first_sections (entries_in f floats wholes) n)
