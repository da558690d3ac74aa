-- The stitches of a piece by its squared length, and what decides them with no root. Definitions only.
use Rattle.std.specs.Prelude.{ℕ, ◌<◌, ◌≡◌, true, cond, T, Float}
use Rattle.std.specs.Float.{binary64}
use Rattle.std.specs.Float.Ieee.{fits, lt}
use Rattle.numbers.specs.Num.{◌⊗◌}
use Rattle.numbers.specs.Root.{root}
use Rattle.geom.specs.Steps.{steps}
use Rattle.polyline.specs.declared.alike.Alike.{Alike}
use Rattle.polyline.specs.Line.{shortest}

-- `piece_steps` of a piece whose squared length is d
unfoldable pub square_steps : Float → Float → ℕ
square_steps d len = cond (lt (root d) shortest) 0 (steps (root d) len)

-- pieces whose squared length lies between those of lo and hi, and n steps
abbrev pub between : Float → Float → ℕ → Alike
between lo hi n = record { from = lo ⊗ lo; to = hi ⊗ hi; n = n }

-- every piece like s takes as many steps, one or more
abbrev pub Told : Float → Alike → Type 0
Told len s = (d : Float) → T (fits binary64 d) → lt s.from d ≡ true → lt d s.to ≡ true → (0 < s.n) × (s.n ≡ square_steps d len)
