-- `walks` meets its contract: the walks from the points from k on are still to be made. Assumes nothing.
use mathlib.Core.Path.{refl, sym, ◌∙◌}
use Rattle.geom.specs.Rings.{rings_of}
use Rattle.meander_rules.specs.Meander.{points_of, link_ok}
use Rattle.wander.specs.Walking.{walks_in}
use Rattle.wander.specs.RoundLaws.{round_start, rounds_start, rounds_next, rounds_end}
use borrow.Author.Rules.{rules}
use Rattle.wander.proofs.walk.walks.Goals as goal

pub loop-k-init : goal.loop-k-init
loop-k-init c = let a = c.args in let link = link_ok (rings_of a.area.outline) a.area.rule a.g in (round_start a.g link a.w.now a.seed c.requires.0 c.requires.1, refl, rounds_start a.g link a.w.now a.seed)

pub start_at-t-requires : goal.start_at-t-requires
start_at-t-requires c = c.loop-k.invariant.0

pub loop-k-preserved : goal.loop-k-preserved
loop-k-preserved c = let a = c.args in let l = c.loop-k in let link = link_ok (rings_of a.area.outline) a.area.rule a.g in
    (c.start_at-t.ensures.1, c.start_at-t.ensures.2 ∙ l.invariant.1, rounds_next a.g link (walks_in (points_of a.g) l.w l.t) l.k (search rules) c.start_at-t.ensures.0 ∙ l.invariant.2)

pub shape_of-w : goal.shape_of-w
shape_of-w c = c.loop-k.invariant.1

pub returns : goal.returns
returns c = let a = c.args in let l = c.loop-k in let link = link_ok (rings_of a.area.outline) a.area.rule a.g in
    (sym (rounds_end a.g link (walks_in (points_of a.g) l.w l.t) l.k (search rules)) ∙ l.invariant.2, l.invariant.0, l.invariant.1)
