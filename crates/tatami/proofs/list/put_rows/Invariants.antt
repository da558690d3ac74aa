-- The row numbers, one by one. Assumes nothing.
use mathlib.Core.List.{map}
use Prim.Native.Nat.{◌-◌}
use lib.ListN.{get_or}
use Rattle.seqs.specs.Lists.{upto}
use Rattle.seqs.specs.Front.{Front}
use Rattle.edges.specs.Span.{row_number}
use Rattle.tatami.proofs.list.put_rows.Given as goal

abbrev pub invariant-loop-i : goal.invariant-loop-i
invariant-loop-i l = Front l.initial.out l.out l.i (map (λ j. row_number l.w l.upward (get_or l.numbers j 0)) (upto l.i (l.n - l.i))) (map (λ j. row_number l.w l.upward (get_or l.numbers j 0)) (upto 0 l.n))
