-- `over_steps` meets its contract: the points ahead of c are to come, where the path's point before k stands at a. Assumes nothing.
use mathlib.Core.Path.{◌≡◌, sym, ap, ◌∙◌}
use Prim.Native.Nat.{ℕ, ◌+◌, ◌-◌, ◌<◌}
use native.Mathlib.Omega.{arith}
use mathlib.Core.List.{List}
use lib.ListN.{length, get_or, take, drop, length-drop}
use Rattle.std.proofs.lemmas.List.{get_or-take, length-take}
use Rattle.std.proofs.lemmas.Grind.{get_or_after_one}
use Rattle.geom.specs.Point.{lerp}
use Rattle.geom.specs.Rings.{rings_of}
use Rattle.meander_rules.specs.Meander.{place}
use Rattle.trail.specs.Trail.{on_to, ahead}
use Rattle.trail.specs.Parts.{going_start}
use Rattle.trail.specs.Along.{three_tenths, seven_tenths, turn_on, turn_last}
use borrow.Author.Rules.{rules}
use Rattle.trail.proofs.path.over_steps.Goals as goal

-- the point after the first i of them
later : (p : List ℕ) (i : ℕ) → i < length p - 1 → get_or (take (length p - 1) (drop 1 p)) i 0 ≡ get_or p (i + 1) 0
later p i h = let e : 1 + i ≡ i + 1 = omega arith in get_or-take (length p - 1) (drop 1 p) i 0 h ∙ get_or_after_one p i 0 ∙ rw e

size : (p : List ℕ) → length (take (length p - 1) (drop 1 p)) ≡ length p - 1
size p = omega (arith, length-take (length p - 1) (drop 1 p), length-drop 1 p)

pub loop-k-init : goal.loop-k-init
loop-k-init c =
    let a = c.args in
    let p = place a.ground.grid (get_or a.path.now 0 0) in
    (rw c.place-a.ensures (going_start (on_to (rings_of a.ground.area.outline) a.ground.area.rule) a.s a.out.now a.stops.now (ahead a.ground.grid a.len a.path.now p p 1) (search rules) (search rules) (omega (arith, c.well_formed)) (omega (arith, c.well_formed))), c.requires.1)

pub over_piece-half-requires : goal.over_piece-half-requires
over_piece-half-requires c = c.loop-k.invariant.1

pub over_piece-pen-requires : goal.over_piece-pen-requires
over_piece-pen-requires c = c.over_piece-half.ensures.1

pub loop-k-preserved : goal.loop-k-preserved
loop-k-preserved c =
    let a = c.args in
    let l = c.loop-k in
    let b = c.place-b.result in
    (turn_on (rings_of a.ground.area.outline) a.ground.area.rule a.ground.grid a.len a.path.now l.c l.a (l.k-index + 1) l.invariant.0 (omega (arith, size a.path.now, c.loop-k-test.true)) (c.place-b.ensures ∙ ap (place a.ground.grid) (later a.path.now l.k-index (omega (arith, size a.path.now, c.loop-k-test.true)))) (c.lerp-l.ensures ∙ ap (lerp l.a b) (sym three_tenths)) (c.lerp-r.ensures ∙ ap (lerp l.a b) (sym seven_tenths)) c.over_piece-half.ensures.0 c.over_piece-pen.ensures.0, c.over_piece-pen.ensures.1)

pub over_piece-requires : goal.over_piece-requires
over_piece-requires c = c.loop-k.invariant.1

pub shape_of-out : goal.shape_of-out
shape_of-out c = c.over_piece.ensures.0.points.size ∙ c.loop-k.invariant.0.sewed.points.size

pub shape_of-stops : goal.shape_of-stops
shape_of-stops c = c.over_piece.ensures.0.stops.size ∙ c.loop-k.invariant.0.sewed.stops.size

pub returns : goal.returns
returns c =
    let a = c.args in
    let l = c.loop-k in
    turn_last (rings_of a.ground.area.outline) a.ground.area.rule a.ground.grid a.len a.path.now l.c l.a (l.k-index + 1) l.invariant.0 (omega (arith, size a.path.now, c.loop-k-test.false, c.requires.0)) c.over_piece.ensures.0
