-- What is told of a piece by pieces like it. Assumes nothing.
use Rattle.std.specs.Prelude.{ℕ, ◌<◌, ◌≡◌, Float}
use Rattle.std.proofs.Common.{arith, inl, inr}
use Rattle.std.specs.Float.Ieee.{lt}
use Rattle.numbers.specs.Num.{zero64}
use Rattle.numbers.specs.Root.{root}
use Rattle.numbers.specs.Laws as laws
use Rattle.numbers.specs.Laws.{holds}
use Rattle.seqs.specs.Tests.{either}
use Rattle.geom.specs.declared.point.P.{P}
use Rattle.geom.specs.Point.{minus, dot, len, dist}
use Rattle.geom.specs.Steps.{steps}
use Rattle.polyline.specs.Line.{shortest, piece_steps}
use Rattle.polyline.specs.Cuts.{square_steps, Told}

pub told_none : (l : Float) (n : ℕ) → Told l (record { from = zero64; to = zero64; n = n })
told_none l n = λ d f h k. absurd (laws.lt_irrefl zero64 (laws.lt_trans zero64 d zero64 (holds h) (holds k)))

-- the steps of the squared length from a to b are the piece's
pub squared : (a b v : P) (d l : Float) → v ≡ minus a b → d ≡ dot v v → square_steps d l ≡ piece_steps a b l
unfolding square_steps piece_steps dist len
squared a b v d l e g = rw (g, e)

-- a piece that isn't skipped takes the steps of its length
pub not_skipped : (d l : Float) (n : ℕ) → 0 < n → n ≡ square_steps d l → n ≡ steps (root d) l
unfolding square_steps
not_skipped d l n h e = elim (either (lt (root d) shortest)) [
  | inl s ↦ absurd (omega (arith, h, rw s at e))
  | inr s ↦ rw s at e
]

-- the root of the squared length from a to b is the length
pub root_dist : (a b v : P) (d : Float) → v ≡ minus a b → d ≡ dot v v → root d ≡ dist a b
unfolding dist len
root_dist a b v d e g = rw (g, e)
