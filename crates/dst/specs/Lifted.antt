-- What the code's lifted coordinates stand for: it counts from -100,000, so that no number is negative. Definitions only.
use Rattle.std.specs.Prelude.{ℕ, ℤ, pos, ◌-ℤ◌}
use Rattle.dst.specs.Thread.{Whole, whole}
use Rattle.dst.specs.declared.place.Place.{Place}

unfoldable pub lowered : ℕ → ℤ
lowered n = pos n -ℤ pos 100000

abbrev pub whole_at : ℕ → ℕ → Whole
whole_at x y = whole (lowered x) (lowered y)

-- where a place stands
abbrev pub standing : Place → Whole
standing p = whole_at p.x p.y
