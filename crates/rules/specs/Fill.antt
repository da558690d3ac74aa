-- The fill, in the words of document 01 and the source's fill.rs: edges, rows, pieces, sections, stitches, refusals and need.
-- Floats are f64, each operation rounded once, in the order the source writes them. Definitions only.
use Rattle.std.specs.Prelude.{ℕ, ◌+◌, ◌*◌, ◌-◌, ◌%◌, ◌^◌, Bool, true, false, not, ◌&&◌, ◌||◌, cond, List, [], ◌∷◌, ◌++◌, map, reverse, eqb, ltb, ℤ, pos, negsuc, nat_abs, ◌+ℤ◌, ◌-ℤ◌, length, get_or, Float}
use Rattle.std.proofs.Math.Option.{Option, none, some}
use Rattle.std.specs.Int.Signed.{le_z}
use Rattle.std.specs.Float.{inf, binary64}
use Rattle.std.specs.Float.Ieee.{neg, lt, le, to_bits, to_signed, to_unsigned}
use Rattle.refusal.specs.Refusal.{DONE, LAYOUT, NUMBER, SETTING, TURN, SIZE, WORK, ROOM}
use Rattle.numbers.specs.Num.{◌⊕◌, ◌⊖◌, ◌⊗◌, ◌⊘◌, real, literal, zero64, half}
use Rattle.numbers.specs.Order.{before, smaller, larger, magnitude}
use Rattle.numbers.specs.Whole.{floor, ceil}
use Rattle.seqs.specs.Lists.{upto, keep_if, sift, each, fold, sort_by, by_key}
use Rattle.geom.specs.declared.point.P.{P}
use Rattle.geom.specs.Point.{point, rotate, dist}
use Rattle.outlines.specs.declared.rule.FillRule.{FillRule}
use Rattle.geom.specs.Outline.{rings}
use Rattle.limits.specs.Limits.{most_rows, good_outline, good_numbers, good_spacing, good_len, good_inset, good_stagger, good_turn}
use Rattle.geom.specs.Steps.{along}
use Rattle.outlines.specs.Inside.{inside, point_inside}
use Rattle.rules.specs.declared.Settings.{Settings}
use Rattle.rules.specs.declared.Edge.{Edge}
use Rattle.rules.specs.declared.Piece.{Piece}
use Rattle.rules.specs.declared.Entry.{Entry}

-- ---- edges
-- the sides of a ring: side i from corner i to corner i + 1, the last back to the first, z
unfoldable pub sides_to : P → List P → List (P × P)
sides_to z [] = []
sides_to z (a ∷ []) = (a, z) ∷ []
sides_to z (a ∷ b ∷ r) = (a, b) ∷ sides_to z (b ∷ r)

-- rings under 3 corners are ignored
unfoldable pub sides : List P → List (P × P)
sides [] = []
sides (a ∷ []) = []
sides (a ∷ b ∷ []) = []
sides (a ∷ b ∷ c ∷ r) = sides_to a (a ∷ b ∷ c ∷ r)

-- the edge from its top to its bottom
unfoldable pub edge_of : P → P → Bool → Edge
edge_of top bot falls = record { y0 = top.y; y1 = bot.y; x0 = top.x; dxdy = (bot.x ⊖ top.x) ⊘ (bot.y ⊖ top.y); falls = falls }

-- an edge of height under 1e-9 is dropped
unfoldable pub kept_side : P × P → List Edge
kept_side (a, b) =
    cond (lt (magnitude (a.y ⊖ b.y)) (literal 1 (10 ^ 9))) []
    (cond (lt a.y b.y) (edge_of a b true ∷ []) (edge_of b a false ∷ []))

-- corners are turned by (c, -s)
unfoldable pub turned : Settings → List P → List P
turned g ring = map (λ p. rotate p g.cosine (neg g.sine)) ring

-- the kept edges, in the order of the input: their place there is their number
unfoldable pub edges : Settings → List (List P) → List Edge
edges g rings = each (λ ring. each kept_side (sides (turned g ring))) rings

-- ---- rows
-- how many whole numbers from lo to hi
unfoldable pub how_many : ℤ → ℤ → ℕ
how_many lo hi = cond (le_z lo hi) (nat_abs (hi -ℤ lo) + 1) 0

-- lo to hi, both included
unfoldable pub through : ℤ → ℤ → List ℤ
through lo hi = map (λ i. lo +ℤ pos i) (upto 0 (how_many lo hi))

-- the first y0 in total order: `edges[0].y0` once they are sorted
unfoldable pub ymin : List Edge → Float
ymin es = fold (λ e y. smaller y e.y0) (inf false) es

-- the last y1: `fold(f64::NEG_INFINITY, f64::max)`
unfoldable pub ymax : List Edge → Float
ymax es = fold (λ e y. larger y e.y1) (inf true) es

-- `(ymin / spacing - 0.5).ceil() as i64`
unfoldable pub k_lo : Settings → List Edge → ℤ
k_lo g es = to_signed 63 (ceil (ymin es ⊘ g.spacing ⊖ half))

-- `(ymax / spacing - 0.5).floor() as i64`
unfoldable pub k_hi : Settings → List Edge → ℤ
k_hi g es = to_signed 63 (floor (ymax es ⊘ g.spacing ⊖ half))

-- the rows are those from k_lo to k_hi, and no others; with no kept edge there is no row
unfoldable pub row_numbers : Settings → List Edge → List ℤ
row_numbers g [] = []
row_numbers g (e ∷ es) = through (k_lo g (e ∷ es)) (k_hi g (e ∷ es))

-- row k stands at (k + 0.5)·spacing
unfoldable pub row_at : Settings → ℤ → Float
row_at g k = (real k ⊕ half) ⊗ g.spacing

-- ---- one row, taken alone
-- what is read past the last edge
abbrev pub no_edge : Edge
no_edge = record { y0 = zero64; y1 = zero64; x0 = zero64; dxdy = zero64; falls = true }

-- the edge at place i
abbrev pub edge : List Edge → ℕ → Edge
edge es i = get_or es i no_edge

-- a kept edge crosses row y when y0 <= y < y1: it has started
unfoldable pub starts : List Edge → Float → ℕ → Bool
starts es y i = le (edge es i).y0 y

-- and it goes on
unfoldable pub lives : List Edge → Float → ℕ → Bool
lives es y i = lt y (edge es i).y1

-- at x0 + (y - y0)·dxdy
unfoldable pub cross_x : List Edge → Float → ℕ → Float
cross_x es y i = (edge es i).x0 ⊕ (y ⊖ (edge es i).y0) ⊗ (edge es i).dxdy

-- crossings go by x in total order; equal x go by the edge's place in the input, which changes nothing (Drawn)
unfoldable pub by_x : List Edge → Float → ℕ → ℕ → Bool
by_x es y i j = by_key before (cross_x es y) i j

-- the places of the edges that cross row y, every kept edge tested, left to right
unfoldable pub crossed : List Edge → Float → List ℕ
crossed es y = sort_by (by_x es y) (sift (λ i. starts es y i && lives es y i) (upto 0 (length es)))

-- the source's dir: 1 or -1
unfoldable pub dir : Edge → ℤ
dir e = cond e.falls (pos 1) (negsuc 0)

-- an edge's crossing: its x, and its direction
unfoldable pub crossing : List Edge → Float → ℕ → Float × ℤ
crossing es y i = (cross_x es y i, dir (edge es i))

-- x and z are equal: equal bits
unfoldable pub same_x : Float → Float → Bool
same_x x z = eqb (to_bits binary64 x) (to_bits binary64 z)

-- a crossing at x of direction d, and those that are left: crossings of equal x are taken as one, their directions added (request [2])
unfoldable pub merged_from : Float → ℤ → List (Float × ℤ) → List (Float × ℤ)
merged_from x d [] = (x, d) ∷ []
merged_from x d (c ∷ cs) = cond (same_x x c.0) (merged_from x (d +ℤ c.1) cs) ((x, d) ∷ merged_from c.0 c.1 cs)

unfoldable pub merged : List (Float × ℤ) → List (Float × ℤ)
merged [] = []
merged (c ∷ cs) = merged_from c.0 c.1 cs

-- row y's crossings, of the edges at these places
unfoldable pub crossings : List Edge → Float → List ℕ → List (Float × ℤ)
crossings es y places = merged (map (crossing es y) places)

-- where the winding w goes from outside to inside, start, and from inside to outside
unfoldable pub spans : FillRule → ℤ → Float → List (Float × ℤ) → List (Float × Float)
spans rule w start [] = []
spans rule w start (c ∷ cs) =
    let x = c.0 in
    let was = inside rule w in
    let now = inside rule (w +ℤ c.1) in
    keep_if (was && not now) (start, x) (spans rule (w +ℤ c.1) (cond (not was && now) x start) cs)

-- inset - pull
unfoldable pub shrink : Settings → Float
shrink g = g.inset ⊖ g.pull

-- a piece runs from start + (inset - pull) to end - (inset - pull)
unfoldable pub piece_of : Settings → ℤ → Float × Float → Piece
piece_of g k ab = record { k = k; y = row_at g k; xa = ab.0 ⊕ shrink g; xb = ab.1 ⊖ shrink g }

-- max(spacing·0.5, 3.0)
unfoldable pub min_row : Settings → Float
min_row g = larger (g.spacing ⊗ half) (literal 3 1)

-- and is kept when its width is at least that
unfoldable pub wide : Settings → Piece → Bool
wide g p = le (min_row g) (p.xb ⊖ p.xa)

-- row k's kept pieces, of the edges at these places
unfoldable pub pieces_at : FillRule → Settings → List Edge → ℤ → List ℕ → List Piece
pieces_at rule g es k places = sift (wide g) (map (piece_of g k) (spans rule (pos 0) zero64 (crossings es (row_at g k) places)))

-- row k's kept pieces, the row taken alone
unfoldable pub pieces_of : FillRule → Settings → List Edge → ℤ → List Piece
pieces_of rule g es k = pieces_at rule g es k (crossed es (row_at g k))

-- ---- sections
-- a piece of the row before and one of this row overlap strictly
unfoldable pub overlap : Piece → Piece → Bool
overlap last next = lt last.xa next.xb && lt next.xa last.xb

-- the link from an open section's last piece to the next: where it starts and ends, moved inward by eps.
-- The last piece runs forward, and so ends at xb, when the section has an odd count: when its own place is even
unfoldable pub link_ends : Entry → Piece → P × P
link_ends o next =
    let last = o.piece in
    let at_b = eqb (o.nth % 2) 0 in
    let x0 = cond at_b last.xb last.xa in
    let x1 = cond at_b next.xb next.xa in
    let inward = cond at_b (neg (literal 1 1)) (literal 1 1) in
    let quarter = literal 1 4 in
    let eps = smaller (smaller (literal 1 1) ((last.xb ⊖ last.xa) ⊗ quarter)) ((next.xb ⊖ next.xa) ⊗ quarter) in
    (point (x0 ⊕ inward ⊗ eps) last.y, point (x1 ⊕ inward ⊗ eps) next.y)

-- point k of four on the way from a to b, turned back, is inside
unfoldable pub link_inside : List (List P) → FillRule → Settings → P × P → ℕ → Bool
link_inside rings rule g ab k = point_inside rings rule (rotate (along ab.0 ab.1 4 k) g.cosine g.sine)

-- three points of the link are inside
unfoldable pub connects : List (List P) → FillRule → Settings → Entry → Piece → Bool
connects rings rule g o next =
    let ab = link_ends o next in
    link_inside rings rule g ab 1 && link_inside rings rule g ab 2 && link_inside rings rule g ab 3

-- the one of a list that has one
abbrev pub only : {A : Type 0} → List A → Option A
only [] = none
only (a ∷ []) = some a
only (a ∷ b ∷ l) = none

-- of the open section that alone overlaps p: that section, where no other piece of this row overlaps it and the link is inside
unfoldable pub joined : List (List P) → FillRule → Settings → List Piece → Piece → Option Entry → Option Entry
joined rings rule g row p none = none
joined rings rule g row p (some o) = cond (eqb (length (sift (overlap o.piece) row)) 1 && connects rings rule g o p) (some o) none

-- the open section that a piece p of this row joins. The open sections are those of the row before, each at its last piece:
-- a section that a row gives no piece closes with that row, so an empty row closes all sections
unfoldable pub joins : List (List P) → FillRule → Settings → List Entry → List Piece → Piece → Option Entry
joins rings rule g opens row p = joined rings rule g row p (only (sift (λ o. overlap o.piece p) opens))

-- p as the next of the section that it joins, or as the first of the section `new`
abbrev pub entry : Piece → ℕ → Option Entry → Entry
entry p new none = record { piece = p; section = new; nth = 0 }
entry p new (some o) = record { piece = p; section = o.section; nth = o.nth + 1 }

-- the number that the next new section gets
abbrev pub after : ℕ → Option Entry → ℕ
after new none = new + 1
after new (some o) = new

-- the entries of a row, of which the pieces ps are left
unfoldable pub row_entries : List (List P) → FillRule → Settings → List Entry → List Piece → ℕ → List Piece → List Entry
row_entries rings rule g opens row new [] = []
row_entries rings rule g opens row new (p ∷ ps) =
    let o = joins rings rule g opens row p in
    entry p new o ∷ row_entries rings rule g opens row (after new o) ps

-- how many sections these begin
unfoldable pub begun : List Entry → ℕ
begun es = length (sift (λ e. eqb e.nth 0) es)

-- the entries of the rows that are left
unfoldable pub entries : List (List P) → FillRule → Settings → List Entry → ℕ → List (List Piece) → List Entry
entries rings rule g opens new [] = []
entries rings rule g opens new (row ∷ rows) =
    let es = row_entries rings rule g opens row new row in
    es ++ entries rings rule g es (new + begun es) rows

-- the rows in the order met: last row first when bottom up
unfoldable pub met : Bool → List ℤ → List ℤ
met bottomUp ks = cond bottomUp (reverse ks) ks

-- the row list: each kept piece with its row number, y, xa, xb and section number, in the order met
unfoldable pub row_list : List (List P) → FillRule → Settings → Bool → List Entry
row_list rings rule g bottomUp =
    let es = edges g rings in
    entries rings rule g [] 0 (map (pieces_of rule g es) (met bottomUp (row_numbers g es)))

-- the entries of section s
unfoldable pub section : List Entry → ℕ → List Entry
section es s = sift (λ e. eqb e.section s) es

-- every section, by number
unfoldable pub sections : List Entry → List (List Entry)
sections es = map (section es) (upto 0 (begun es))

-- ---- stitches
-- stagger 0 counts as 1
unfoldable pub cycle : ℕ → ℕ
cycle stagger = cond (eqb stagger 0) 1 stagger

-- the never-negative remainder
unfoldable pub rem_euclid : ℤ → ℕ → ℕ
rem_euclid (pos a) n = a % n
rem_euclid (negsuc a) n = n - 1 - a % n

-- row k's share of the stagger
unfoldable pub offset : Settings → ℕ → ℤ → Float
offset g stagger k = real (pos (rem_euclid k (cycle stagger))) ⊗ g.len ⊘ real (pos (cycle stagger))

-- min(len·0.25, 5.0)
unfoldable pub min_end : Settings → Float
min_end g = smaller (g.len ⊗ literal 1 4) (literal 5 1)

-- `((xa + min_end - off) / len).ceil() as i64`
unfoldable pub m0 : Settings → ℕ → Piece → ℤ
m0 g stagger p = to_signed 63 (ceil ((p.xa ⊕ min_end g ⊖ offset g stagger p.k) ⊘ g.len))

-- `((xb - min_end - off) / len).floor() as i64`
unfoldable pub m1 : Settings → ℕ → Piece → ℤ
m1 g stagger p = to_signed 63 (floor ((p.xb ⊖ min_end g ⊖ offset g stagger p.k) ⊘ g.len))

-- the needle points between a row's ends, left to right: off + m·len, m from m0 to m1
unfoldable pub needles : Settings → ℕ → Piece → List Float
needles g stagger p = map (λ m. offset g stagger p.k ⊕ real m ⊗ g.len) (through (m0 g stagger p) (m1 g stagger p))

-- a row's points in the order sewn: forward where its place in the section is even
unfoldable pub row_points : Settings → ℕ → Entry → List P
row_points g stagger e =
    let p = e.piece in
    let ps = map (λ x. point x p.y) (p.xa ∷ (needles g stagger p ++ (p.xb ∷ []))) in
    cond (eqb (e.nth % 2) 0) ps (reverse ps)

-- n, `(d / len).ceil() as usize`
unfoldable pub parts : Settings → P → P → ℕ
parts g p q = to_unsigned 64 (ceil (dist p q ⊘ g.len))

-- the points that split the way from p to q in n
unfoldable pub between : Settings → P → P → List P
between g p q = map (along p q (parts g p q)) (upto 1 (parts g p q - 1))

-- from p to each of the points in turn, links between rows as well
unfoldable pub sew_from : Settings → P → List P → List P
sew_from g p [] = []
sew_from g p (q ∷ qs) = between g p q ++ (q ∷ sew_from g q qs)

-- a section's points, the first one first
unfoldable pub sew : Settings → List P → List P
sew g [] = []
sew g (p ∷ ps) = p ∷ sew_from g p ps

-- a section's points, turned back by (c, s)
unfoldable pub sewn : Settings → ℕ → List Entry → List P
sewn g stagger es = map (λ p. rotate p g.cosine g.sine) (sew g (each (row_points g stagger) es))

-- tatami: the points of each section of the row list
unfoldable pub tatami : List (List P) → FillRule → Settings → ℕ → Bool → List (List P)
tatami rings rule g stagger bottomUp = map (sewn g stagger) (sections (row_list rings rule g bottomUp))

-- ---- who is turned away
-- spacing 0.5 to 1,000; len 1 to 1,000; inset and pull -100 to 100; stagger 0 to 1,000
unfoldable pub good_settings : Settings → ℕ → Bool
good_settings g stagger = good_spacing g.spacing && good_len g.len && good_inset g.inset && good_inset g.pull && good_stagger stagger

-- the first of the table's 1 to 5 that applies, and where none does `rest`: these look at no slice but the outline
unfoldable pub gate : List Float → List ℕ → Settings → ℕ → ℕ → ℕ
gate corners ends g stagger rest =
    cond (not (good_outline corners ends)) LAYOUT
    (cond (not (good_numbers corners)) NUMBER
    (cond (not (good_settings g stagger)) SETTING
    (cond (not (good_turn g.cosine g.sine)) TURN
    (cond (ltb most_rows (length (row_numbers g (edges g (rings corners ends))))) SIZE rest))))

-- the need of a fill with E kept edges and I kept pieces: 6E + 4I floats and 4E + 6I whole numbers
abbrev pub need_floats : ℕ → ℕ → ℕ
need_floats e i = 6 * e + 4 * i

abbrev pub need_wholes : ℕ → ℕ → ℕ
need_wholes e i = 4 * e + 6 * i

-- WORK and ROOM, where 1 to 5 don't apply: for working slices of `floats` and `wholes`, and an output that `fits` its slices or not
unfoldable pub roomed : List Float → List ℕ → FillRule → Settings → Bool → ℕ → ℕ → Bool → ℕ
roomed corners ends rule g bottomUp floats wholes fits =
    let e = length (edges g (rings corners ends)) in
    let i = length (row_list (rings corners ends) rule g bottomUp) in
    cond (ltb floats (need_floats e i) || ltb wholes (need_wholes e i)) WORK (cond (not fits) ROOM DONE)

-- the first of the table that applies
unfoldable pub refusal : List Float → List ℕ → FillRule → Settings → ℕ → Bool → ℕ → ℕ → Bool → ℕ
refusal corners ends rule g stagger bottomUp floats wholes fits = gate corners ends g stagger (roomed corners ends rule g bottomUp floats wholes fits)
