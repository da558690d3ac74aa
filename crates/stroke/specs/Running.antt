-- Running stitch along a line, back and forth, as stroke.rs sews it. Definitions only.
use Rattle.std.specs.Prelude.{ℕ, zero, suc, ◌+◌, ◌-◌, ◌*◌, ◌%◌, Bool, cond, ◌&&◌, List, [], ◌++◌, reverse, eqb, ltb, length, take, drop, Float}
use Rattle.geom.specs.declared.point.P.{P}
use Rattle.geom.specs.Outline.{points}
use Rattle.polyline.specs.Line.{resample_keep_corners}

-- the line, and its first corner again where it is closed
unfoldable pub base : List P → Bool → List P
base line closed = cond (closed && ltb 2 (length line)) (line ++ take 1 line) line

-- the stitches along it, once
unfoldable pub one_pass : List P → Bool → Float → List P
one_pass line closed len = resample_keep_corners (base line closed) len

-- a pass on, or back, without its first point: there the one before it ended
unfoldable pub pass : List P → Bool → List P
pass one back = drop 1 (cond back (reverse one) one)

-- pass t, t + 1, .., `left` of them
unfoldable pub passes_from : List P → ℕ → ℕ → List P
passes_from one t zero = []
passes_from one t (suc left) = pass one (eqb (t % 2) 1) ++ passes_from one (t + 1) left

-- no pass counts as one
unfoldable pub running : List P → Bool → Float → ℕ → List P
running line closed len passes = let one = one_pass line closed len in one ++ passes_from one 1 (passes - 1)

-- the n points at the front of a slice
abbrev pub standing : List Float → ℕ → List P
standing d n = points (take (2 * n) d)
