use Rattle.std.proofs.Common.{ℕ, ◌≡◌, ◌+◌, ◌≤◌, length}
use Rattle.seqs.specs.Slices.{capped}
use Rattle.geom.specs.Outline.{points}
use Rattle.satinrules.specs.Column.{sides_from, s_side, s_stitch}
use Rattle.styles.proofs.bent.count_bent.Given as goal

abbrev pub invariant-loop-q : goal.invariant-loop-q
invariant-loop-q l = (l.c ≤ l.room + 1) × ((k : ℕ) × (capped l.room (l.c + length (sides_from s_side k l.p l.q-iterator)) ≡ capped l.room (length (s_stitch (points l.fn.line)))))
