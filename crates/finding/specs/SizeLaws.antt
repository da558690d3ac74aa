-- SIZE by the count of rows that the gate is told, which is capped. Assumes nothing.
use Rattle.std.specs.Prelude.{◌≤◌, ◌<◌, ◌≡◌, true, false, List, ltb, length}
use Rattle.std.proofs.Common.{arith, lt-ltb, le-ltb}
use Rattle.std.proofs.Math.Path.{ap}
use Rattle.seqs.specs.Slices.{capped}
use Rattle.seqs.specs.Capped.{capped_exact, capped_past}
use Rattle.rules.specs.declared.Settings.{Settings}
use Rattle.rules.specs.declared.Edge.{Edge}
use Rattle.rules.specs.Fill.{row_numbers}
use Rattle.edges.specs.declared.rows.Rows.{Rows}
use Rattle.edges.specs.Span.{rows_of}

module _ (g : Settings) (es : List Edge) {w : Rows} (e : w ≡ rows_of g es) where
  rows_capped : w.n ≡ capped 4096 (length (row_numbers g es))
  unfolding rows_of
  rows_capped = ap (λ (w : Rows). w.n) e

  pub rows_many : 4096 < w.n → ltb 4096 (length (row_numbers g es)) ≡ true
  rows_many h = lt-ltb 4096 (length (row_numbers g es)) (capped_past 4096 (length (row_numbers g es)) rows_capped h)

  pub rows_within : w.n ≤ 4096 → ltb 4096 (length (row_numbers g es)) ≡ false
  rows_within h = le-ltb 4096 (length (row_numbers g es)) (omega (arith, capped_exact 4096 (length (row_numbers g es)) rows_capped h))
