-- `mark` meets its contract: the marks of the points from k on are still to be written. Assumes nothing.
use native.Mathlib.Omega.{arith}
use Rattle.seqs.specs.Front.{front_at, front_push, front_end}
use Rattle.geom.specs.Rings.{rings_of}
use Rattle.wander.specs.WayLaws.{some_columns}
use Rattle.wander.specs.MarkLaws.{marks_all, marks_next, marks_end}
use borrow.Author.Rules.{rules}
use Rattle.wander.proofs.grid.mark.Goals as goal

pub loop-k-init : goal.loop-k-init
loop-k-init c = marks_all (rings_of c.args.area.outline) c.args.area.rule c.args.g c.args.w.now

pub mark_of-requires : goal.mark_of-requires
mark_of-requires c = some_columns c.args.g.columns c.args.g.rows c.loop-k.k (search rules)

pub bounds-w-k : goal.bounds-w-k
bounds-w-k c = omega (arith, c.loop-k.invariant.len, c.requires, c.loop-k-test.true)

pub loop-k-preserved : goal.loop-k-preserved
loop-k-preserved c = let a = c.args in let l = c.loop-k in rw c.mark_of.ensures (front_push (front_at (marks_next (rings_of a.area.outline) a.area.rule a.g l.k (search rules)) l.invariant) (omega (arith, l.invariant.len, c.requires, c.loop-k-test.true)))

pub shape_of-w : goal.shape_of-w
shape_of-w c = c.loop-k.invariant.len

pub returns : goal.returns
returns c = let a = c.args in let l = c.loop-k in front_end (front_at (marks_end (rings_of a.area.outline) a.area.rule a.g l.k (search rules)) l.invariant)
