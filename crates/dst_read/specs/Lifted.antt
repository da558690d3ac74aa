-- What the code's lifted coordinates stand for: it counts from -121,000,000, so that no number is negative. Definitions only.
use Rattle.std.specs.Prelude.{ℕ, ◌*◌, ◌≤◌, ℤ, pos, ◌-ℤ◌}
use Rattle.dst.specs.Thread.{Whole, whole}

unfoldable pub lowered : ℕ → ℤ
lowered n = pos n -ℤ pos 121000000

abbrev pub whole_at : ℕ → ℕ → Whole
whole_at x y = whole (lowered x) (lowered y)

-- n records stand in so many bytes, and their points have room
pub record Roomy (n bytes points marks : ℕ) : Type 0 where
  pub few : n ≤ 1000000
  pub stand : 3 * n ≤ bytes
  pub points_fit : 2 * n ≤ points
  pub marks_fit : n ≤ marks
