-- All below lo are at most s, and the one at hi is not. Assumes nothing.
use Rattle.std.specs.Prelude.{ℕ, ◌-◌, ◌≤◌, ◌<◌, ◌≡◌, true, false, length, get_or}
use Rattle.std.specs.Float.{nan}
use Rattle.std.specs.Float.Ieee.{le}
use Rattle.arc.proofs.partition_point.Given as goal

abbrev pub invariant-loop-lo : goal.invariant-loop-lo
invariant-loop-lo l = (l.lo ≤ l.hi) × (l.hi ≤ length l.cum) × ((k : ℕ) → k < l.lo → le (get_or l.cum k nan) l.s ≡ true) × (l.hi < length l.cum → le (get_or l.cum l.hi nan) l.s ≡ false)

abbrev pub decreases-loop-lo : goal.decreases-loop-lo
decreases-loop-lo l = l.hi - l.lo
