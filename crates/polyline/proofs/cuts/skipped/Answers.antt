-- `skipped` meets its contract: what is over 1e-17 has a longer root. Assumes nothing.
use mathlib.Core.Path.{sym, subst}
use lib.Dec.{T}
use lib.Ieee.{of_bits, round}
use Rattle.numbers.specs.Num.{literal}
use Rattle.numbers.specs.Laws.{holds}
use Rattle.polyline.proofs.LineLaws.{shortest_bits}
use Rattle.polyline.specs.CutsLaws.{not_shortest}
use Rattle.polyline.proofs.cuts.skipped.Goals as goal

pub returns-then-d : goal.returns-then-d
unfolding of_bits literal round
returns-then-d c = sym (not_shortest c.args.d (subst T (sym c.well_formed.0.1) tt) (holds c.if-d.true))

pub returns : goal.returns
returns c = rw (shortest_bits, c.root.ensures)
