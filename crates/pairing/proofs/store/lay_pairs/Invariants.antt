use Rattle.std.proofs.Common.{◌≡◌, length}
use Rattle.geom.specs.Outline.{points}
use Rattle.pairing.specs.Walk.{walk_places}
use Rattle.pairing.specs.StoreLaws.{Lain}
use Rattle.pairing.proofs.store.lay_pairs.Given as goal

abbrev pub invariant-loop-place : goal.invariant-loop-place
invariant-loop-place l =
    let r = l.fn.rails in
    (length l.w ≡ length l.initial.w) × Lain r.a.now r.b.now r.course.sync.now (walk_places r.course.ends (points r.course.sync.now) l.fn.pass) l.place-iterator l.w l.at
