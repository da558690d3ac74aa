-- `running` meets its contract: what is counted up to the room is what the room is compared with. Assumes nothing.
use mathlib.Core.Path.{refl, ap}
use Prim.Native.Nat.{ℕ}
use Rattle.std.specs.Prelude.{Ok}
use Rattle.refusal.specs.Sewn.{said_sewn}
use native.Mathlib.Omega.{arith}
use lib.ListN.{length}
use Rattle.geom.specs.Outline.{points}
use Rattle.geom.specs.SewingLaws.{not_fitted, counted, fits, is_fitted}
use Rattle.stroke.specs.Running.{one_pass, running}
use Rattle.stroke.specs.RunningLaws.{one_past, all_counted, passes_room, running_put}
use Rattle.stroke.proofs.whole.running.Goals as goal

pub returns-then-n-room : goal.returns-then-n-room
returns-then-n-room c =
    let a = c.args in
    rw (one_past (points a.line.now) a.closed a.len a.passes (length a.out.now) c.count_one-n.ensures c.if-n-room.true) (refl, refl)

pub count_passes-points-requires : goal.count_passes-points-requires
count_passes-points-requires c = (c.if-n-room.false, omega arith)

pub returns-then-points-room : goal.returns-then-points-room
returns-then-points-room c =
    let a = c.args in
    let l = points a.line.now in
    let n = counted (one_pass l a.closed a.len) (length a.out.now) c.count_one-n.ensures c.if-n-room.false in
    rw (not_fitted (running l a.closed a.len a.passes) (length a.out.now) (all_counted l a.closed a.len a.passes _ n c.count_passes-points.ensures) c.if-points-room.true) (refl, refl)

pub put_one-requires : goal.put_one-requires
put_one-requires c = fits (one_pass (points c.args.line.now) c.args.closed c.args.len) (length c.args.out.now) c.count_one-n.ensures c.if-n-room.false

pub put_passes-requires : goal.put_passes-requires
put_passes-requires c =
    let a = c.args in
    let l = points a.line.now in
    let n = counted (one_pass l a.closed a.len) (length a.out.now) c.count_one-n.ensures c.if-n-room.false in
    let e = all_counted l a.closed a.len a.passes _ n c.count_passes-points.ensures in
    passes_room l a.closed a.len a.passes a.out.now _ _ c.put_one.ensures n (fits (running l a.closed a.len a.passes) (length a.out.now) e c.if-points-room.false)

pub returns : goal.returns
returns c =
    let a = c.args in
    let l = points a.line.now in
    let m = running l a.closed a.len a.passes in
    let o = length a.out.now in
    let n = counted (one_pass l a.closed a.len) o c.count_one-n.ensures c.if-n-room.false in
    let e = all_counted l a.closed a.len a.passes _ n c.count_passes-points.ensures in
    rw (is_fitted m o e c.if-points-room.false) (ap (λ (b : ℕ). said_sewn (Ok b)) (counted m o e c.if-points-room.false), running_put l a.closed a.len a.passes a.out.now _ _ c.put_one.ensures n (fits m o e c.if-points-room.false) _ c.put_passes.ensures)
