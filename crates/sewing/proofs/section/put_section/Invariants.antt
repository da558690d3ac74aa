-- A section, written. Assumes nothing.
use mathlib.Core.Path.{◌≡◌}
use mathlib.Core.List.{◌++◌}
use Prim.Native.Nat.{◌-◌, ◌^◌, ◌≤◌, ◌<◌}
use lib.ListN.{length, take, get_or}
use Rattle.seqs.specs.Front.{Front}
use Rattle.geom.specs.Sewing.{flat}
use Rattle.rules.specs.Fill.{sewn, section}
use Rattle.sewing.specs.Sewing.{entries_in, numbers_in}
use Rattle.sewing.proofs.Walks.{rest_sewn}
use Rattle.sewing.proofs.section.put_section.Given as goal

abbrev pub invariant-loop-j : goal.invariant-loop-j
invariant-loop-j l = (l.j ≤ l.l.thread.now.field.pieces) × ((l.n ≡ l.l.thread.now.field.pieces) × (length l.initial.out < 2 ^ 64)) × (l.j < l.l.thread.now.field.pieces → get_or (numbers_in l.l.thread.now.field.pieces l.l.wholes.now) l.j 0 ≡ l.s) × Front l.initial.out l.out l.at (flat (rest_sewn l.l.thread.now.field l.l.floats.now l.l.wholes.now l.s l.pen l.j)) (take l.k l.initial.out ++ flat (sewn l.l.thread.now.field.g l.l.thread.now.field.stagger (section (entries_in l.l.thread.now.field l.l.floats.now l.l.wholes.now) l.s)))

abbrev pub decreases-loop-j : goal.decreases-loop-j
decreases-loop-j l = l.n - l.j
