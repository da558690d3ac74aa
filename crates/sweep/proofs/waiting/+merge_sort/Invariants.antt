use Rattle.std.proofs.Common.{length}
use Rattle.sweep.proofs.waiting.+merge_sort.Given as goal

abbrev pub decreases-merge_sort : goal.decreases-merge_sort
decreases-merge_sort l = length l.l.now
