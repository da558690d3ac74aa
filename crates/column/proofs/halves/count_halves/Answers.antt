-- `count_halves` meets its contract: the top is counted over the stitches that were put. Assumes nothing.
use Prim.Native.Nat.{◌+◌, ◌-◌, ◌*◌}
use native.Mathlib.Omega.{arith}
use lib.ListN.{take, drop}
use Rattle.satin.specs.UnderlayLaws.{fit_some}
use Rattle.column.specs.Halves.{top_path}
use Rattle.column.specs.HalvesLaws.{stitched, lent_path, both_count}
use Rattle.column.proofs.halves.count_halves.Goals as goal

pub put_stitches-requires : goal.put_stitches-requires
put_stitches-requires c = (fit_some c.requires.0.top, c.requires.0.room_t)

pub slice_bounds-count_top-end : goal.slice_bounds-count_top-end
slice_bounds-count_top-end c = omega (arith, c.requires.0.room_t, (stitched c.args.work.now _ c.requires.0 c.requires.1 c.put_stitches.ensures).0)

pub count_underlay-requires : goal.count_underlay-requires
count_underlay-requires c = (c.requires.0.under.small_n, c.requires.0.under.small_m)

pub shape_of-work : goal.shape_of-work
shape_of-work c = (stitched c.args.work.now _ c.requires.0 c.requires.1 c.put_stitches.ensures).0

pub returns : goal.returns
returns c =
    let a = c.args in
    let n = 4 * a.p.t in
    let w = c.put_stitches.new.w in
    let s = stitched a.work.now w c.requires.0 c.requires.1 c.put_stitches.ensures in
    (both_count c.requires.0 (take (n + n - n) (drop n w)) (lent_path n n w (top_path a.a.now a.b.now a.course.sync.now a.g) s.1) c.count_underlay.result c.count_underlay.ensures a.room c.count_top-points.ensures c.add_within.ensures, s.0, s.1)
