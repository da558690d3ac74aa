use Rattle.sweep.specs.Swept.{by}
use Rattle.sweep.specs.Merge.{merge_by}
use Rattle.sweep.specs.MergeLaws.{Merging}
use Rattle.sweep.proofs.waiting.merge.Given as goal

abbrev pub invariant-loop-x : goal.invariant-loop-x
invariant-loop-x l = Merging (by l.key l.table) l.to l.x-index l.a l.b (merge_by (by l.key l.table) l.initial.a l.initial.b)
