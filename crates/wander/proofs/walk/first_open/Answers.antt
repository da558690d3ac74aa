-- `first_open` meets its contract: the ways from i on are still to be tried. Assumes nothing.
use mathlib.Core.Path.{refl, sym, ◌∙◌}
use lib.ListN.{take, get_or}
use Rattle.geom.specs.Rings.{rings_of}
use Rattle.meander_rules.specs.Meander.{points_of, link_ok}
use Rattle.wander.specs.OpenLaws.{way_next, way_found, way_none}
use borrow.Author.Rules.{rules}
use Rattle.wander.proofs.walk.first_open.Goals as goal

pub loop-k-init : goal.loop-k-init
loop-k-init c = refl

pub is_open-requires : goal.is_open-requires
is_open-requires c = c.requires

pub returns-then-is_open : goal.returns-then-is_open
returns-then-is_open c = let a = c.args in let l = c.loop-k in
    let k = get_or a.ways.now l.k-index 0 in
    let link = link_ok (rings_of a.ground.area.outline) a.ground.area.rule a.ground.grid in
    let free = take (points_of a.ground.grid) a.w.now in
    sym (way_found link free a.here a.ways.now l.k-index (search rules) c.is_open.ensures c.if-is_open.true) ∙ l.invariant

pub loop-k-preserved : goal.loop-k-preserved
loop-k-preserved c = let a = c.args in let l = c.loop-k in
    sym (way_next (link_ok (rings_of a.ground.area.outline) a.ground.area.rule a.ground.grid) (take (points_of a.ground.grid) a.w.now) a.here a.ways.now l.k-index (search rules) c.is_open.ensures c.if-is_open.false) ∙ l.invariant

pub returns : goal.returns
returns c = let a = c.args in let l = c.loop-k in
    sym (way_none (link_ok (rings_of a.ground.area.outline) a.ground.area.rule a.ground.grid) (take (points_of a.ground.grid) a.w.now) a.here a.ways.now l.k-index (search rules)) ∙ l.invariant
