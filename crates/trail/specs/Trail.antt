-- The stitches along the walks of a meander, point by point: what each point adds to the points and to the ends, where no line stands anywhere as a whole. Definitions only.
use Rattle.std.specs.Prelude.{ℕ, ◌+◌, ◌-◌, ◌*◌, ◌^◌, ◌<◌, ◌≡◌, false, List, [], ◌∷◌, ◌++◌, map, length, drop, Float}
use Rattle.seqs.specs.Lists.{each}
use Rattle.seqs.specs.Slices.{capped, Wrote}
use Rattle.geom.specs.declared.point.P.{P}
use Rattle.geom.specs.Outline.{cut}
use Rattle.geom.specs.Sewing.{flat}
use Rattle.outlines.specs.declared.rule.FillRule.{FillRule}
use Rattle.outlines.specs.Inside.{point_inside}
use Rattle.polyline.specs.Line.{pieces_from}
use Rattle.rules.specs.Calls.{sewn_points}
use Rattle.patterns_rules.specs.declared.Count.{Count}
use Rattle.patterns_rules.specs.Patterns.{piece_inside}
use Rattle.clip.specs.Clip.{added, ended}
use Rattle.meander_rules.specs.declared.Lattice.{Lattice}
use Rattle.meander_rules.specs.Meander.{place, smooth_from, dense_along, lines_along}
use Rattle.trail.specs.declared.pen.Pen.{Pen}

-- the lines of all walks, whose paths stand one behind the other and end at the stops
unfoldable pub trails : List ℕ → List ℕ → List (List P) → FillRule → Lattice → Float → List (List P)
trails paths stops rings rule g len = each (lines_along rings rule g len) (cut 0 stops paths)

-- ---- the pen

-- a count and m more; it stops at the largest number
abbrev pub most : ℕ
most = 2 ^ 64 - 2

unfoldable pub held : ℕ → ℕ → ℕ
held n m = capped most (n + m)

-- ---- what a part of the way does: the pen after it, the points that it adds, and the ends of the runs that it closes

pub record Done : Type 0 where
  pub pen : Pen
  pub points : List P
  pub ends : List ℕ

unfoldable pub nothing : Pen → Done
nothing s = record { pen = s; points = []; ends = [] }

-- one part, and then another
unfoldable pub both : Done → Done → Done
both d e = record { pen = e.pen; points = d.points ++ e.points; ends = d.ends ++ e.ends }

-- a list of parts, one after the other
unfoldable pub run {ℓ} : {A : Type ℓ} → (A → Pen → Done) → List A → Pen → Done
run one [] s = nothing s
run one (a ∷ l) s = both (one a s) (run one l (one a s).pen)

-- a line ends, and a run that is on ends with it
unfoldable pub finish : Pen → Done
finish s =
    let es = ended false s.on s.points in
    record { pen = record { at = s.at; inside = s.inside; on = false; lines = held s.lines (length es); points = s.points }; points = []; ends = es }

module _ (rings : List (List P)) (rule : FillRule) where
  -- a line begins at p
  unfoldable pub begin : P → Pen → Pen
  begin p s = record { at = p; inside = point_inside rings rule p; on = false; lines = s.lines; points = s.points }

  -- it goes on to q
  unfoldable pub on_to : P → Pen → Done
  on_to q s =
      let kept = piece_inside rings rule s.at q in
      let ps = added kept s.on s.at q in
      let es = ended kept s.on s.points in
      record { pen = record { at = q; inside = point_inside rings rule q; on = kept; lines = held s.lines (length es); points = held s.points (length ps) }; points = ps; ends = es }

  -- a whole line
  unfoldable pub clip_line : List P → Pen → Done
  clip_line [] s = nothing s
  clip_line (p ∷ line) s = let d = run on_to line (begin p s) in both d (finish d.pen)

  -- the line along a path
  unfoldable pub along_path : Lattice → Float → List ℕ → Pen → Done
  along_path g len path s = clip_line (dense_along g len path) s

-- the points after smooth point c, on the way from a to grid point k of the path and along what is left of it
unfoldable pub ahead : Lattice → Float → List ℕ → P → P → ℕ → List P
ahead g len path c a k = pieces_from c (smooth_from a (map (place g) (drop k path))) len

-- ---- what the code does to two slices, of points and of ends: it writes where there is room, and counts always

pub record Sewed (d : Done) (s r : Pen) (out out' : List Float) (ends ends' : List ℕ) : Type 0 where
  pub pen : r ≡ d.pen
  pub lines : r.lines ≡ held s.lines (length d.ends)
  pub count : r.points ≡ held s.points (length d.points)
  pub points : Wrote out out' (2 * s.points) (flat d.points)
  pub stops : Wrote ends ends' s.lines d.ends

-- what is counted of lines: their points, as far as numbers go, and where these do not reach the largest number, the lines too
pub record Counted (ls : List (List P)) (c : Count) : Type 0 where
  pub points : c.points ≡ held 0 (length (sewn_points ls))
  pub lines : c.points + 1 < 2 ^ 64 → c.lines ≡ length ls
