-- A closed line is sewn as the open line and then the piece back to its first corner. `closing` is that piece; the theorems are in proofs/Closing.
use Rattle.std.specs.Prelude.{◌-◌, ◌*◌, ◌/◌, Bool, ◌&&◌, length, Float}
use Rattle.std.proofs.Math.Bool.{cond}
use mathlib.Core.List.{List, []}
use Rattle.std.proofs.Math.Dec.{ltb}
use Rattle.geom.specs.declared.point.P.{P}
use Rattle.geom.specs.OutlineLaws.{corner_at}
use Rattle.polyline.specs.Line.{piece}

unfoldable pub closing : List Float → Bool → Float → List P
closing l closed len = cond (closed && ltb 2 (length l / 2)) (piece (corner_at l (2 * (length l / 2 - 1))) (corner_at l 0) len) []
