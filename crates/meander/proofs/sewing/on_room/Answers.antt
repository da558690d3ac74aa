-- `on_room` meets its contract: each answer follows from the tests on the way to it. Assumes nothing.
use native.Mathlib.Omega.{arith}
use native.Mathlib.Nat.{mul-le-mul}
use mathlib.Core.Path.{refl}
use mathlib.Core.Logic.{inl, inr}
use Prim.Native.Nat.{◌*◌, ◌≤◌}
use lib.ListN.{length}
use borrow.Author.Tests.{leb-true, leb-false}
use Rattle.std.proofs.lemmas.Result.{err_from_is_err_and}
use Rattle.geom.specs.Rings.{rings_of}
use Rattle.meander_rules.specs.Meander.{points_of, most_points}
use Rattle.meander.specs.StoppedLaws.{large_said, none_said, work_said, sewn_said}
use Rattle.meander.proofs.sewing.on_room.Goals as goal

pub overflow_mul-n : goal.overflow_mul-n
overflow_mul-n c = record { fits = omega (arith, mul-le-mul c.requires.0 c.requires.1) }

pub returns-then-n-eq0 : goal.returns-then-n-eq0
returns-then-n-eq0 c =
    let a = c.args in (
      elim c.then-n-eq0.either [
        | inl h ↦ none_said (rings_of a.o) a.rule a.g a.len a.seed a.out.now a.stops.now (length a.w.now) h
        | inr h ↦ large_said (rings_of a.o) a.rule a.g a.len a.seed a.out.now a.stops.now (length a.w.now) h.1
      ],
      refl,
    )

pub returns-in_err-unless : goal.returns-in_err-unless
returns-in_err-unless c =
    let a = c.args in
    let few : points_of a.g ≤ most_points = omega (arith, c.if-n-gt400000.false) in
    let p = err_from_is_err_and c.from_residual.result c.from_residual.ensures.1 in
    let e = c.in_err-unless.ensures in
    rw (p.1, p.2, e.0) (work_said (rings_of a.o) a.rule a.g a.len a.seed a.out.now a.stops.now (length a.w.now) few (leb-false (8 * points_of a.g) (length a.w.now) e.1), refl)

pub sew-requires : goal.sew-requires
sew-requires c = let a = c.args in (omega (arith, c.if-n-gt400000.false), leb-true (8 * points_of a.g) (length a.w.now) c.in_ok-unless.ensures)

pub returns : goal.returns
returns c =
    let a = c.args in
    let few : points_of a.g ≤ most_points = omega (arith, c.if-n-gt400000.false) in
    (sewn_said (rings_of a.o) a.rule a.g a.len a.seed a.out.now a.stops.now (length a.w.now) few (leb-true (8 * points_of a.g) (length a.w.now) c.in_ok-unless.ensures) c.sew.ensures.0.says c.sew.ensures.0.points c.sew.ensures.0.ends, c.sew.ensures.1)
