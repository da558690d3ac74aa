-- The section numbers, one by one. Assumes nothing.
use mathlib.Core.List.{map}
use Prim.Native.Nat.{◌+◌, ◌-◌, ◌*◌}
use lib.ListN.{get_or}
use Rattle.seqs.specs.Lists.{upto}
use Rattle.seqs.specs.Front.{Front}
use Rattle.tatami.proofs.list.put_sections.Given as goal

abbrev pub invariant-loop-i : goal.invariant-loop-i
invariant-loop-i l = Front l.initial.out l.out l.i (map (λ j. get_or l.numbers (l.n + 2 * j) 0) (upto l.i (l.n - l.i))) (map (λ j. get_or l.numbers (l.n + 2 * j) 0) (upto 0 l.n))
