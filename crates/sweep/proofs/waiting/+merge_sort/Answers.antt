use Rattle.std.proofs.Common.{◌/◌, length, ◌∙◌}
use Rattle.sweep.specs.MergeLaws.{sorted_halves}
use Rattle.sweep.proofs.waiting.+merge_sort.Goals as goal

pub returns : goal.returns
returns t c =
    let a = c.args in
    let s = c.split_at_mut-a.ensures in
    c.copy_back.ensures ∙ sorted_halves a.key a.table.now c.requires.1 (length a.l.now / 2) a.l.now s.front s.back c.merge_sort.ensures c.merge_sort-2.ensures c.merge.ensures _
