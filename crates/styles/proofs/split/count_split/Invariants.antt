use Rattle.std.proofs.Common.{ℕ, ◌≡◌, ◌+◌, ◌≤◌, length}
use Rattle.geom.specs.Outline.{points}
use Rattle.polyline.specs.Cuts.{Told}
use Rattle.satinrules.specs.Column.{sides_from, split_side, split_long}
use Rattle.styles.proofs.split.count_split.Given as goal

abbrev pub invariant-loop-q : goal.invariant-loop-q
invariant-loop-q l = (l.c ≤ l.room) × ((k : ℕ) × (l.c + length (sides_from (split_side l.max) k l.p l.q-iterator) ≡ length (split_long (points l.fn.line) l.max))) × Told l.max l.s
