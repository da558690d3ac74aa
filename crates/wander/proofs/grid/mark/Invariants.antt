-- `mark` meets its contract: the marks of the points from k on are still to be written. Assumes nothing.
use Rattle.seqs.specs.Front.{Front}
use Rattle.geom.specs.Rings.{rings_of}
use Rattle.meander_rules.specs.Meander.{free_at_first}
use Rattle.wander.specs.MarkLaws.{marks_from}
use Rattle.wander.proofs.grid.mark.Given as goal

abbrev pub invariant-loop-k : goal.invariant-loop-k
invariant-loop-k l = Front l.initial.w l.w l.k (marks_from (rings_of l.area.outline) l.area.rule l.g l.k) (free_at_first (rings_of l.area.outline) l.area.rule l.g)
