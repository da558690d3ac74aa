-- The kept edges in a slice of floats: edge i as a block of five at 5·i. Definitions only.
use Rattle.std.specs.Prelude.{ℕ, ◌+◌, ◌*◌, ◌≤◌, Bool, true, false, cond, List, [], ◌∷◌, ltb, pos, length, get_or, Float, Option, Some, None}
use Rattle.std.specs.Float.{nan, fin}
use Rattle.std.specs.Float.Ieee.{neg, lt}
use Rattle.numbers.specs.Num.{zero64}
use Rattle.seqs.specs.Lists.{each}
use Rattle.seqs.specs.Slices.{blocks}
use Rattle.geom.specs.declared.point.P.{P}
use Rattle.geom.specs.Point.{rotate}
use Rattle.geom.specs.Outline.{Layout}
use Rattle.geom.specs.OutlineLaws.{corner_at}
use Rattle.rules.specs.declared.Settings.{Settings}
use Rattle.rules.specs.declared.Edge.{Edge}
use Rattle.rules.specs.Fill.{kept_side, sides, turned}

-- what a side gives the list of edges
abbrev pub found : Option Edge → List Edge
found (Some e) = e ∷ []
found None = []

-- the turned corner at place i of a flat list (cited by theorems alone)
abbrev pub corner : Settings → List Float → ℕ → P
corner g l i = rotate (corner_at l i) g.cosine (neg g.sine)

-- the place after i in a ring of n coordinates (cited by theorems alone)
abbrev pub following : ℕ → ℕ → ℕ
following i n = cond (ltb (i + 3) n) (i + 2) 0

-- the kept edges of one ring (cited by theorems alone)
unfoldable pub ring_edges : Settings → List P → List Edge
ring_edges g ring = each kept_side (sides (turned g ring))

-- 1 or -1
unfoldable pub direction : Bool → Float
direction falls = cond falls (fin false 1 (pos 0)) (fin true 1 (pos 0))

-- an edge's block, and a block as an edge
abbrev pub edge_block : Edge → List Float
edge_block e = e.y0 ∷ e.y1 ∷ e.x0 ∷ e.dxdy ∷ direction e.falls ∷ []

abbrev pub block_edge : List Float → Edge
block_edge l = record { y0 = get_or l 0 nan; y1 = get_or l 1 nan; x0 = get_or l 2 nan; dxdy = get_or l 3 nan; falls = lt zero64 (get_or l 4 nan) }

-- the first n edges of a table
unfoldable pub edges_in : ℕ → List Float → List Edge
edges_in n floats = blocks 5 block_edge n floats

-- where edge n stands
abbrev pub edge_place : ℕ → ℕ
edge_place n = 5 * n

-- the flat form of an outline that passed LAYOUT
pub record Outline (corners : List Float) (ends : List ℕ) : Type 0 where
  pub layout : Layout corners ends
  pub few : length corners ≤ 2048
