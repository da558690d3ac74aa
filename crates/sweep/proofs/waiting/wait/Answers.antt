use Rattle.std.proofs.Common.{ap, ◌∙◌}
use Rattle.seqs.specs.Lists.{upto}
use Rattle.sweep.specs.Swept.{ordered, waiting}
use Rattle.sweep.proofs.waiting.wait.Goals as goal
use Rattle.sweep.proofs.waiting.wait.Goals.{then-upward, else-upward}

pub returns : goal.returns
unfolding waiting
returns c =
    let a = c.args in
    let s = c.merge_sort.ensures ∙ ap (ordered c.if-upward.key a.table.now) (c.count_up.ensures ∙ ap (upto 0) c.requires.0) in
    elim c.if-upward.branch [ then-upward w ↦ rw (w.if-upward.true, ← w.key-is) s | else-upward w ↦ rw (w.if-upward.false, ← w.key-is) s ]
