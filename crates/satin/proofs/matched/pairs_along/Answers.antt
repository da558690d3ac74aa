-- `pairs_along` meets its contract: which of SIZE, WORK, ROOM and DONE it is, and what is laid is what is copied. Assumes nothing.
use mathlib.Core.Path.{◌≡◌, refl, ap, ◌∙◌}
use Prim.Native.Nat.{◌*◌, ◌≤◌}
use native.Mathlib.Omega.{arith}
use lib.Ieee.{of_bits}
use lib.ListN.{length, take, length-replicate}
use Rattle.std.proofs.Common.{length-take-le}
use Rattle.geom.specs.Outline.{points}
use Rattle.geom.specs.Sewing.{flat}
use Rattle.satinrules.specs.Pairs.{pairs}
use Rattle.satinrules.specs.Calls.{rails_of, need, both_points}
use Rattle.pairing.specs.WalkLaws.{places_bound}
use Rattle.pairing.specs.StoreLaws.{in_step}
use Rattle.satin.specs.PassedLaws.{passed_size, passed_work, passed_room, passed_done, pairs_stored, pairs_count, pass_n, pass_places, need_room}
use borrow.Author.Rules.{rules}
use Rattle.satin.proofs.matched.pairs_along.Goals as goal

pub returns-then-pass-gt-MOST_PAIRS : goal.returns-then-pass-gt-MOST_PAIRS
returns-then-pass-gt-MOST_PAIRS c =
    let a = c.args in
    let n = pass_n a.rails.a.now a.rails.b.now a.rails.course.sync.now a.step (in_step c.requires.1) c.pass-pass.ensures in
    rw (passed_size a.rails.a.now a.rails.b.now a.rails.course.sync.now a.step c.requires.0 (length a.work.now) (length a.out.now) (rw n at c.if-pass-gt-MOST_PAIRS.true)) (refl, refl, refl)

pub lay_pairs-n-requires : goal.lay_pairs-n-requires
lay_pairs-n-requires c = omega (arith, c.if-pass-gt-MOST_PAIRS.false)

pub need-requires : goal.need-requires
need-requires c =
    let a = c.args in
    let few : c.lay_pairs-n.result ≤ 65537 = omega (arith, c.if-pass-gt-MOST_PAIRS.false, c.lay_pairs-n.ensures.0, places_bound c.args.rails.course.ends (points a.rails.course.sync.now) c.pass-pass.result) in
    few

pub shape_of-work-then-work-need : goal.shape_of-work-then-work-need
shape_of-work-then-work-need c = ap length (c.fill.ensures.after (λ y h. search rules)) ∙ length-replicate _ _ ∙ c.lay_pairs-n.ensures.1

pub returns-then-work-need : goal.returns-then-work-need
unfolding of_bits
returns-then-work-need c =
    let a = c.args in
    let m = pass_n a.rails.a.now a.rails.b.now a.rails.course.sync.now a.step (in_step c.requires.1) c.pass-pass.ensures in
    let sizes = rw m at c.if-pass-gt-MOST_PAIRS.false in
    let q = pass_places a.rails.a.now a.rails.b.now a.rails.course.sync.now a.step (in_step c.requires.1) c.pass-pass.ensures in
    let count = c.lay_pairs-n.ensures.0 ∙ ap length q in
    let m = c.need.ensures ∙ ap (need (rails_of a.rails.a.now a.rails.b.now a.rails.course.sync.now)) count in
    rw (passed_work a.rails.a.now a.rails.b.now a.rails.course.sync.now a.step c.requires.0 (length a.work.now) (length a.out.now) sizes (rw (m, c.lay_pairs-n.ensures.1) at c.if-work-need.true)) (refl, refl, rw c.lay_pairs-n.ensures.1 at (c.fill.ensures.after (λ y h. search rules)))

pub overflow_mul-n : goal.overflow_mul-n
overflow_mul-n c =
    let a = c.args in
    let few : c.lay_pairs-n.result ≤ 65537 = omega (arith, c.if-pass-gt-MOST_PAIRS.false, c.lay_pairs-n.ensures.0, places_bound c.args.rails.course.ends (points a.rails.course.sync.now) c.pass-pass.result) in
    omega (arith, few)

pub shape_of-work-then-out-n : goal.shape_of-work-then-out-n
shape_of-work-then-out-n c = ap length (c.fill-then-out-n.ensures.after (λ y h. search rules)) ∙ length-replicate _ _ ∙ c.lay_pairs-n.ensures.1

pub returns-then-out-n : goal.returns-then-out-n
unfolding of_bits
returns-then-out-n c =
    let a = c.args in
    let m = pass_n a.rails.a.now a.rails.b.now a.rails.course.sync.now a.step (in_step c.requires.1) c.pass-pass.ensures in
    let sizes = rw m at c.if-pass-gt-MOST_PAIRS.false in
    let q = pass_places a.rails.a.now a.rails.b.now a.rails.course.sync.now a.step (in_step c.requires.1) c.pass-pass.ensures in
    let count = c.lay_pairs-n.ensures.0 ∙ ap length q in
    let m = c.need.ensures ∙ ap (need (rails_of a.rails.a.now a.rails.b.now a.rails.course.sync.now)) count in
    rw (passed_room a.rails.a.now a.rails.b.now a.rails.course.sync.now a.step c.requires.0 (length a.work.now) (length a.out.now) sizes (rw (m, c.lay_pairs-n.ensures.1) at c.if-work-need.false) (rw count at c.if-out-n.true)) (refl, refl, rw c.lay_pairs-n.ensures.1 at (c.fill-then-out-n.ensures.after (λ y h. search rules)))

pub overflow_mul-n-2 : goal.overflow_mul-n-2
overflow_mul-n-2 c =
    let a = c.args in
    let few : c.lay_pairs-n.result ≤ 65537 = omega (arith, c.if-pass-gt-MOST_PAIRS.false, c.lay_pairs-n.ensures.0, places_bound c.args.rails.course.ends (points a.rails.course.sync.now) c.pass-pass.result) in
    omega (arith, few)

pub slice_bounds-copy-end : goal.slice_bounds-copy-end
slice_bounds-copy-end c = omega (arith, need_room c.args.rails.a.now c.args.rails.b.now c.args.rails.course.sync.now c.lay_pairs-n.result (length c.lay_pairs-n.new.w) (rw c.need.ensures at c.if-work-need.false))

pub slice_bounds-copy-end-2 : goal.slice_bounds-copy-end-2
slice_bounds-copy-end-2 c =
    let n = need_room c.args.rails.a.now c.args.rails.b.now c.args.rails.course.sync.now c.lay_pairs-n.result (length c.lay_pairs-n.new.w) (rw c.need.ensures at c.if-work-need.false) in
    omega (arith, length-take-le (4 * c.lay_pairs-n.result) c.lay_pairs-n.new.w (omega (arith, n)))

pub copy-requires : goal.copy-requires
copy-requires c =
    let n = need_room c.args.rails.a.now c.args.rails.b.now c.args.rails.course.sync.now c.lay_pairs-n.result (length c.lay_pairs-n.new.w) (rw c.need.ensures at c.if-work-need.false) in
    omega (arith, length-take-le (4 * c.lay_pairs-n.result) c.args.out.now c.if-out-n.false, length-take-le (4 * c.lay_pairs-n.result) c.lay_pairs-n.new.w (omega (arith, n)))

pub overflow_mul-result : goal.overflow_mul-result
overflow_mul-result c =
    let a = c.args in
    let few : c.lay_pairs-n.result ≤ 65537 = omega (arith, c.if-pass-gt-MOST_PAIRS.false, c.lay_pairs-n.ensures.0, places_bound c.args.rails.course.ends (points a.rails.course.sync.now) c.pass-pass.result) in
    omega (arith, few)

pub shape_of-work : goal.shape_of-work
shape_of-work c = ap length (c.fill-2.ensures.after (λ y h. search rules)) ∙ length-replicate _ _ ∙ c.lay_pairs-n.ensures.1

pub returns : goal.returns
unfolding of_bits
returns c =
    let a = c.args in
    let m = pass_n a.rails.a.now a.rails.b.now a.rails.course.sync.now a.step (in_step c.requires.1) c.pass-pass.ensures in
    let sizes = rw m at c.if-pass-gt-MOST_PAIRS.false in
    let q = pass_places a.rails.a.now a.rails.b.now a.rails.course.sync.now a.step (in_step c.requires.1) c.pass-pass.ensures in
    let count = c.lay_pairs-n.ensures.0 ∙ ap length q in
    let roomy : 4 * c.lay_pairs-n.result ≤ length a.work.now = omega (arith, need_room a.rails.a.now a.rails.b.now a.rails.course.sync.now c.lay_pairs-n.result (length a.work.now) (rw (c.need.ensures, c.lay_pairs-n.ensures.1) at c.if-work-need.false)) in
    let told = flat (both_points (pairs (rails_of a.rails.a.now a.rails.b.now a.rails.course.sync.now) a.step)) in
    let laid : take (4 * c.lay_pairs-n.result) c.lay_pairs-n.new.w ≡ told = rw (pairs_stored a.rails.a.now a.rails.b.now a.rails.course.sync.now a.step c.requires.0, ← q) (c.lay_pairs-n.ensures.2 roomy) in
    let m = c.need.ensures ∙ ap (need (rails_of a.rails.a.now a.rails.b.now a.rails.course.sync.now)) count in
    rw (passed_done a.rails.a.now a.rails.b.now a.rails.course.sync.now a.step c.requires.0 (length a.work.now) (length a.out.now) sizes (rw (m, c.lay_pairs-n.ensures.1) at c.if-work-need.false) (rw count at c.if-out-n.false))
    (rw (count, pairs_count a.rails.a.now a.rails.b.now a.rails.course.sync.now a.step c.requires.0), rw laid at c.copy.ensures, rw c.lay_pairs-n.ensures.1 at (c.fill-2.ensures.after (λ y h. search rules)))
