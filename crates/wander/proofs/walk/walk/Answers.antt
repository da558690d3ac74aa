-- `walk` meets its contract: what is left of the walk is left of it. Assumes nothing.
use Rattle.geom.specs.Rings.{rings_of}
use Rattle.meander_rules.specs.Meander.{link_ok}
use Rattle.wander.specs.TurnSlices.{walked_start, walked_turn, walked_less, walked_end}
use borrow.Author.Rules.{rules}
use Rattle.wander.proofs.walk.walk.Goals as goal

pub loop-s-init : goal.loop-s-init
loop-s-init c = let a = c.args in walked_start a.ground.grid (link_ok (rings_of a.ground.area.outline) a.ground.area.rule a.ground.grid) a.w.now a.first c.requires

pub turn-s-requires : goal.turn-s-requires
turn-s-requires c = (c.loop-s.invariant.ready, search rules)

pub loop-s-smaller : goal.loop-s-smaller
loop-s-smaller c = let a = c.args in let l = c.loop-s in walked_less a.ground.grid (link_ok (rings_of a.ground.area.outline) a.ground.area.rule a.ground.grid) a.w.now a.first l.w l.s l.invariant (search rules) _ c.turn-s.result c.turn-s.ensures

pub loop-s-preserved : goal.loop-s-preserved
loop-s-preserved c = let a = c.args in let l = c.loop-s in walked_turn a.ground.grid (link_ok (rings_of a.ground.area.outline) a.ground.area.rule a.ground.grid) a.w.now a.first l.w l.s l.invariant (search rules) _ c.turn-s.result c.turn-s.ensures

pub shape_of-w : goal.shape_of-w
shape_of-w c = c.loop-s.invariant.long

pub returns : goal.returns
returns c = let a = c.args in let l = c.loop-s in walked_end a.ground.grid (link_ok (rings_of a.ground.area.outline) a.ground.area.rule a.ground.grid) a.w.now a.first l.w l.s l.invariant (search rules)
