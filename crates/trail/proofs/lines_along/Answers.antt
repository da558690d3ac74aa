-- `lines_along` meets its contract: what is counted is what the room is compared with. Assumes nothing.
use mathlib.Core.Path.{◌≡◌, ◌∙◌}
use mathlib.Core.Logic.{inl, inr}
use Prim.Native.Nat.{◌+◌, ◌/◌, ◌^◌, ◌≤◌, ◌<◌}
use native.Mathlib.Omega.{arith}
use lib.ListN.{length}
use Rattle.std.proofs.lemmas.Result.{err_from_is_err_and}
use Rattle.geom.specs.Outline.{cut}
use Rattle.geom.specs.Rings.{rings_of}
use Rattle.rules.specs.Calls.{sewn_points}
use Rattle.patterns_rules.specs.Answers.{count_of}
use Rattle.patterns_rules.specs.LineLaws.{lines_sewn, no_lines_sewn}
use Rattle.trail.specs.Trail.{trails}
use Rattle.trail.specs.Parts.{held_most, held_back}
use Rattle.trail.specs.Whole.{points_left_lem, ends_left}
use Rattle.trail.proofs.lines_along.Goals as goal

pub returns-in_err-fits : goal.returns-in_err-fits
returns-in_err-fits c =
    let a = c.args in
    let ls = trails a.paths.points.now a.paths.ends.now (rings_of a.ground.area.outline) a.ground.area.rule a.ground.grid a.len in
    let e = c.count-c.ensures.points in
    let p = err_from_is_err_and c.from_residual.result c.from_residual.ensures.1 in
    let few : c.count-c.result.points + 1 < 2 ^ 64 → c.count-c.result.points ≡ length (sewn_points ls) = λ h. e ∙ held_back 0 (length (sewn_points ls)) (omega (arith, e, h)) ∙ omega arith in
    rw (p.1, p.2) (no_lines_sewn ls (elim c.in_err-fits.ensures.1 [
      | inl h ↦ inl (omega (arith, h, e, held_most 0 (length (sewn_points ls))))
      | inr h ↦ let m : c.count-c.result.points + 1 < 2 ^ 64 = omega (arith, h.0, c.well_formed) in inr (omega (arith, few m, h.0), omega (arith, c.count-c.ensures.lines m, h.1))
    ]) c.in_err-fits.ensures.0)

pub returns : goal.returns
unfolding trails count_of
returns c =
    let a = c.args in
    let r = rings_of a.ground.area.outline in
    let ls = trails a.paths.points.now a.paths.ends.now r a.ground.area.rule a.ground.grid a.len in
    let e = c.count-c.ensures.points in
    let some : c.count-c.result.points + 1 < 2 ^ 64 = omega (arith, c.in_ok-fits.ensures.0, c.well_formed) in
    let l = c.count-c.ensures.lines some in
    let n : c.count-c.result.points ≡ length (sewn_points ls) = e ∙ held_back 0 (length (sewn_points ls)) (omega (arith, e, some)) ∙ omega arith in
    let few : length (sewn_points ls) ≤ length a.out.now / 2 = omega (arith, n, c.in_ok-fits.ensures.0) in
    let fit : length ls ≤ length a.stops.now = omega (arith, l, c.in_ok-fits.ensures.1) in
    let w = c.over_paths.ensures in
    let p = cut 0 a.paths.ends.now a.paths.points.now in
    lines_sewn ls few fit (rw (← l, ← n)) (points_left_lem r a.ground.area.rule a.ground.grid a.len p c.idle.result c.idle.ensures.0 c.idle.ensures.1 w few (omega (arith, c.well_formed))) (ends_left r a.ground.area.rule a.ground.grid a.len p c.idle.result c.idle.ensures.0 c.idle.ensures.1 w few (omega (arith, c.well_formed)) fit)
