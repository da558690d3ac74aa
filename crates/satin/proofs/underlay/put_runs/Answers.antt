-- `put_runs` meets its contract: the centre, and then the contour's two sides, one after the other. Assumes nothing.
use mathlib.Core.Bool.{false, not}
use mathlib.Core.List.{◌++◌}
use Prim.Native.Nat.{◌*◌, ◌≤◌}
use native.Mathlib.Omega.{arith}
use lib.ListN.{length}
use Rattle.geom.specs.Outline.{points}
use Rattle.satinrules.specs.Column.{bit, after_centre}
use Rattle.passes.specs.Threads.{pairs_in}
use Rattle.passes.specs.declared.threads.Thread.TheVariants.{Middle, SideA, SideB}
use Rattle.satin.specs.Underlay.{over_if, runs_over}
use Rattle.satin.specs.UnderlayLaws.{end_is, three_length, second_room, third_room, three_put, three_size}
use Rattle.satin.proofs.underlay.put_runs.Goals as goal

pub put_if-c-requires : goal.put_if-c-requires
unfolding after_centre runs_over
put_if-c-requires c =
    let a = c.args in
    let end = after_centre a.g in
    let qs = pairs_in (points a.s.now) in
    let cs = over_if (bit a.g 1) Middle false qs in
    let ks = over_if (bit a.g 2) SideA end qs in
    let zs = over_if (bit a.g 2) SideB (not end) qs in
    let h : 2 * length (cs ++ (ks ++ zs)) ≤ length a.out.now = c.requires in
    rw (end_is a.g) (omega (arith, h, three_length cs ks zs))

pub put_if-k-requires : goal.put_if-k-requires
unfolding after_centre runs_over
put_if-k-requires c =
    let a = c.args in
    let end = after_centre a.g in
    let qs = pairs_in (points a.s.now) in
    let cs = over_if (bit a.g 1) Middle false qs in
    let ks = over_if (bit a.g 2) SideA end qs in
    let zs = over_if (bit a.g 2) SideB (not end) qs in
    let h : 2 * length (cs ++ (ks ++ zs)) ≤ length a.out.now = c.requires in
    let e = rw (end_is a.g) at c.put_if-c.ensures.0 in
    let i = rw (end_is a.g) at c.put_if-c.ensures.1 in
    rw (end_is a.g) (omega (arith, second_room a.out.now _ cs ks zs h e, i))

pub put_if-requires : goal.put_if-requires
unfolding after_centre runs_over
put_if-requires c =
    let a = c.args in
    let end = after_centre a.g in
    let qs = pairs_in (points a.s.now) in
    let cs = over_if (bit a.g 1) Middle false qs in
    let ks = over_if (bit a.g 2) SideA end qs in
    let zs = over_if (bit a.g 2) SideB (not end) qs in
    let h : 2 * length (cs ++ (ks ++ zs)) ≤ length a.out.now = c.requires in
    let e = rw (end_is a.g) at c.put_if-c.ensures.0 in
    let i = rw (end_is a.g) at c.put_if-c.ensures.1 in
    let f = rw (end_is a.g) at c.put_if-k.ensures.0 in
    let j = rw (end_is a.g) at c.put_if-k.ensures.1 in
    rw (end_is a.g) (omega (arith, third_room a.out.now _ cs ks zs h e _ c.put_if-c.result i f, i, j))

pub shape_of-out : goal.shape_of-out
unfolding after_centre runs_over
shape_of-out c =
    let a = c.args in
    let end = after_centre a.g in
    let qs = pairs_in (points a.s.now) in
    let cs = over_if (bit a.g 1) Middle false qs in
    let ks = over_if (bit a.g 2) SideA end qs in
    let zs = over_if (bit a.g 2) SideB (not end) qs in
    let h : 2 * length (cs ++ (ks ++ zs)) ≤ length a.out.now = c.requires in
    let e = rw (end_is a.g) at c.put_if-c.ensures.0 in
    let i = rw (end_is a.g) at c.put_if-c.ensures.1 in
    let f = rw (end_is a.g) at c.put_if-k.ensures.0 in
    let j = rw (end_is a.g) at c.put_if-k.ensures.1 in
    let u = rw (end_is a.g) at c.put_if.ensures.0 in
    let v = rw (end_is a.g) at c.put_if.ensures.1 in
    three_size a.out.now _ cs ks zs h e _ c.put_if-c.result i f _ c.put_if-k.result j u

pub returns : goal.returns
unfolding after_centre runs_over
returns c =
    let a = c.args in
    let end = after_centre a.g in
    let qs = pairs_in (points a.s.now) in
    let cs = over_if (bit a.g 1) Middle false qs in
    let ks = over_if (bit a.g 2) SideA end qs in
    let zs = over_if (bit a.g 2) SideB (not end) qs in
    let h : 2 * length (cs ++ (ks ++ zs)) ≤ length a.out.now = c.requires in
    let e = rw (end_is a.g) at c.put_if-c.ensures.0 in
    let i = rw (end_is a.g) at c.put_if-c.ensures.1 in
    let f = rw (end_is a.g) at c.put_if-k.ensures.0 in
    let j = rw (end_is a.g) at c.put_if-k.ensures.1 in
    let u = rw (end_is a.g) at c.put_if.ensures.0 in
    let v = rw (end_is a.g) at c.put_if.ensures.1 in
    (three_put a.out.now _ cs ks zs h e _ c.put_if-c.result i f _ c.put_if-k.result j u, omega (arith, three_length cs ks zs, i, j, v))
