-- `polyline_length` meets its contract: what the sum so far and the corners that are left come to is the answer. Assumes nothing.
use mathlib.Core.Path.{◌≡◌}
use Rattle.geom.specs.Outline.{points}
use Rattle.polyline.specs.Line.{length_from, polyline_length}
use Rattle.polyline.proofs.polyline_length.Given as goal

abbrev pub invariant-loop-q : goal.invariant-loop-q
invariant-loop-q l = length_from l.sum l.p l.q-iterator ≡ polyline_length (points l.line)
