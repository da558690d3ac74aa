-- `put_halves` meets its contract: the top stands behind where the underlay is put. Assumes nothing.
use Prim.Native.Nat.{◌+◌, ◌-◌, ◌*◌}
use native.Mathlib.Omega.{arith}
use lib.ListN.{take, drop}
use Rattle.column.specs.Halves.{top_path}
use Rattle.column.specs.HalvesLaws.{lent_path, behind_room, before_room, halves_put}
use Rattle.column.proofs.halves.put_halves.Goals as goal

pub count_underlay-under-requires : goal.count_underlay-under-requires
count_underlay-under-requires c = (c.requires.0.under.small_n, c.requires.0.under.small_m)

pub overflow_mul-under : goal.overflow_mul-under
overflow_mul-under c =
    let a = c.args in
    let n = 4 * a.p.t in
    let s = take (n + n - n) (drop n a.work.now) in
    let e = lent_path n n a.work.now (top_path a.rails.a.now a.rails.b.now a.rails.course.sync.now a.g) c.requires.1 in
    omega (arith, behind_room c.requires.0 s e c.count_underlay-under.result c.count_underlay-under.ensures c.after_zigzag-far.ensures a.out.now c.requires.2, c.well_formed)

pub put_top-requires : goal.put_top-requires
put_top-requires c =
    let a = c.args in
    let n = 4 * a.p.t in
    let s = take (n + n - n) (drop n a.work.now) in
    let e = lent_path n n a.work.now (top_path a.rails.a.now a.rails.b.now a.rails.course.sync.now a.g) c.requires.1 in
    behind_room c.requires.0 s e c.count_underlay-under.result c.count_underlay-under.ensures c.after_zigzag-far.ensures a.out.now c.requires.2

pub put_underlay-requires : goal.put_underlay-requires
put_underlay-requires c =
    let a = c.args in
    let n = 4 * a.p.t in
    let s = take (n + n - n) (drop n a.work.now) in
    let e = lent_path n n a.work.now (top_path a.rails.a.now a.rails.b.now a.rails.course.sync.now a.g) c.requires.1 in
    let u = c.requires.0.under in
    (u.run, u.zigzag, omega (arith, u.room_n), omega (arith, u.room_m), before_room c.requires.0 s e c.count_underlay-under.result c.count_underlay-under.ensures c.after_zigzag-far.ensures a.out.now c.requires.2 c.put_top.new.out c.put_top.ensures.0)

pub returns : goal.returns
returns c =
    let a = c.args in
    let n = 4 * a.p.t in
    let s = take (n + n - n) (drop n a.work.now) in
    let e = lent_path n n a.work.now (top_path a.rails.a.now a.rails.b.now a.rails.course.sync.now a.g) c.requires.1 in
    (halves_put c.requires.0 s e c.count_underlay-under.result c.count_underlay-under.ensures c.after_zigzag-far.ensures a.out.now c.requires.2 c.put_top.new.out c.put_top.ensures.0 c.put_underlay.new.out c.put_underlay.ensures.0, c.put_underlay.ensures.2)
