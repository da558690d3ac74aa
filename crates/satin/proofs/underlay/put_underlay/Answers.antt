-- `put_underlay` meets its contract: the passes by run_len, and then the zigzag, each over the pairs that were laid for it. Assumes nothing.
use mathlib.Core.Path.{◌≡◌, refl, sym, ap, ◌∙◌}
use mathlib.Core.Bool.{true}
use mathlib.Core.List.{◌++◌}
use Prim.Native.Nat.{◌+◌, ◌-◌, ◌*◌, ◌≤◌}
use native.Mathlib.Omega.{arith}
use lib.ListN.{length, take, length-append}
use Rattle.geom.specs.Outline.{points}
use Rattle.satinrules.specs.Settings.{zigzag_underlay_spacing}
use Rattle.satinrules.specs.Flat.{flat_room, flat_then}
use Rattle.satinrules.specs.Pairs.{pairs}
use Rattle.satinrules.specs.Column.{bit, after_centre}
use Rattle.satinrules.specs.Calls.{rails_of}
use Rattle.passes.specs.Threads.{pairs_in}
use Rattle.passes.specs.declared.threads.Thread.TheVariants.{Alternate}
use Rattle.satin.specs.Underlay.{runs, over_if, runs_over}
use Rattle.satin.specs.UnderlayLaws.{fit_laid, end_is, underlay_over, run_size}
use Rattle.satin.proofs.underlay.put_underlay.Goals as goal

pub lay_if-requires : goal.lay_if-requires
lay_if-requires c = (λ t. let f = c.requires.0 (sym c.runs.ensures ∙ t) in (f.small, omega (arith, c.requires.2, f.count)))

pub overflow_mul-u : goal.overflow_mul-u
overflow_mul-u c = omega (arith, c.requires.2, c.well_formed)

pub slice_bounds-put_runs-end : goal.slice_bounds-put_runs-end
slice_bounds-put_runs-end c = omega (arith, c.requires.2, c.lay_if.ensures.0)

pub put_runs-k-requires : goal.put_runs-k-requires
put_runs-k-requires c =
    let a = c.args in
    let r = rails_of a.rails.a.now a.rails.b.now a.rails.course.sync.now in
    let w = c.lay_if.new.work in
    let qs = pairs_in (points (take (4 * a.u.n) w)) in
    let e : runs a.g ≡ true → qs ≡ pairs r a.g.run_len = λ t. fit_laid (c.requires.0 t) w (c.lay_if.ensures.1 (c.runs.ensures ∙ t)) in
    let y : 4 * a.u.n - 0 ≡ 4 * a.u.n = omega arith in
    let over = over_if (bit a.g 4) Alternate (after_centre a.g) (pairs r zigzag_underlay_spacing) in
    let all = underlay_over a.rails.a.now a.rails.b.now a.rails.course.sync.now a.g qs (pairs r zigzag_underlay_spacing) e (λ t. refl) in
    rw y (omega (arith, c.requires.4, ap length all, length-append (runs_over a.g qs) over))

pub lay_if-requires-2 : goal.lay_if-requires-2
lay_if-requires-2 c = (λ t. let f = c.requires.1 t in (f.small, omega (arith, c.requires.3, c.lay_if.ensures.0, f.count)))

pub overflow_mul-u-2 : goal.overflow_mul-u-2
overflow_mul-u-2 c = omega (arith, c.requires.3, c.well_formed)

pub slice_bounds-put_if-end : goal.slice_bounds-put_if-end
slice_bounds-put_if-end c = omega (arith, c.requires.3, c.lay_if-2.ensures.0, c.lay_if.ensures.0)

pub put_if-requires : goal.put_if-requires
put_if-requires c =
    let a = c.args in
    let r = rails_of a.rails.a.now a.rails.b.now a.rails.course.sync.now in
    let w = c.lay_if.new.work in
    let qs = pairs_in (points (take (4 * a.u.n) w)) in
    let e : runs a.g ≡ true → qs ≡ pairs r a.g.run_len = λ t. fit_laid (c.requires.0 t) w (c.lay_if.ensures.1 (c.runs.ensures ∙ t)) in
    let y : 4 * a.u.n - 0 ≡ 4 * a.u.n = omega arith in
    let v = c.lay_if-2.new.work in
    let zs = pairs_in (points (take (4 * a.u.m) v)) in
    let f : bit a.g 4 ≡ true → zs ≡ pairs r zigzag_underlay_spacing = λ t. fit_laid (c.requires.1 t) v (c.lay_if-2.ensures.1 t) in
    let z : 4 * a.u.m - 0 ≡ 4 * a.u.m = omega arith in
    let over = over_if (bit a.g 4) Alternate (after_centre a.g) zs in
    let all = underlay_over a.rails.a.now a.rails.b.now a.rails.course.sync.now a.g qs zs e f in
    let h : 0 + 2 * length (runs_over a.g qs ++ over) ≤ length a.out.now = rw all (omega (arith, c.requires.4)) in
    let d = rw y at c.put_runs-k.ensures.0 in
    let i = rw y at c.put_runs-k.ensures.1 in
    rw (z, end_is a.g) (omega (arith, flat_room a.out.now _ (runs_over a.g qs) over 0 h d, i))

pub shape_of-work : goal.shape_of-work
shape_of-work c = c.lay_if-2.ensures.0 ∙ c.lay_if.ensures.0

pub shape_of-out : goal.shape_of-out
shape_of-out c =
    let a = c.args in
    let r = rails_of a.rails.a.now a.rails.b.now a.rails.course.sync.now in
    let w = c.lay_if.new.work in
    let qs = pairs_in (points (take (4 * a.u.n) w)) in
    let e : runs a.g ≡ true → qs ≡ pairs r a.g.run_len = λ t. fit_laid (c.requires.0 t) w (c.lay_if.ensures.1 (c.runs.ensures ∙ t)) in
    let y : 4 * a.u.n - 0 ≡ 4 * a.u.n = omega arith in
    let v = c.lay_if-2.new.work in
    let zs = pairs_in (points (take (4 * a.u.m) v)) in
    let f : bit a.g 4 ≡ true → zs ≡ pairs r zigzag_underlay_spacing = λ t. fit_laid (c.requires.1 t) v (c.lay_if-2.ensures.1 t) in
    let z : 4 * a.u.m - 0 ≡ 4 * a.u.m = omega arith in
    let over = over_if (bit a.g 4) Alternate (after_centre a.g) zs in
    let all = underlay_over a.rails.a.now a.rails.b.now a.rails.course.sync.now a.g qs zs e f in
    let h : 0 + 2 * length (runs_over a.g qs ++ over) ≤ length a.out.now = rw all (omega (arith, c.requires.4)) in
    let d = rw y at c.put_runs-k.ensures.0 in
    let i = rw y at c.put_runs-k.ensures.1 in
    let p = rw (z, end_is a.g) at c.put_if.ensures.0 in
    let q = rw (z, end_is a.g) at c.put_if.ensures.1 in
    let put = flat_then a.out.now _ (runs_over a.g qs) over 0 h d _ c.put_runs-k.result (omega (arith, i)) p in
    run_size a.out.now _ (runs_over a.g qs ++ over) 0 h put

pub returns : goal.returns
returns c =
    let a = c.args in
    let r = rails_of a.rails.a.now a.rails.b.now a.rails.course.sync.now in
    let w = c.lay_if.new.work in
    let qs = pairs_in (points (take (4 * a.u.n) w)) in
    let e : runs a.g ≡ true → qs ≡ pairs r a.g.run_len = λ t. fit_laid (c.requires.0 t) w (c.lay_if.ensures.1 (c.runs.ensures ∙ t)) in
    let y : 4 * a.u.n - 0 ≡ 4 * a.u.n = omega arith in
    let v = c.lay_if-2.new.work in
    let zs = pairs_in (points (take (4 * a.u.m) v)) in
    let f : bit a.g 4 ≡ true → zs ≡ pairs r zigzag_underlay_spacing = λ t. fit_laid (c.requires.1 t) v (c.lay_if-2.ensures.1 t) in
    let z : 4 * a.u.m - 0 ≡ 4 * a.u.m = omega arith in
    let over = over_if (bit a.g 4) Alternate (after_centre a.g) zs in
    let all = underlay_over a.rails.a.now a.rails.b.now a.rails.course.sync.now a.g qs zs e f in
    let h : 0 + 2 * length (runs_over a.g qs ++ over) ≤ length a.out.now = rw all (omega (arith, c.requires.4)) in
    let d = rw y at c.put_runs-k.ensures.0 in
    let i = rw y at c.put_runs-k.ensures.1 in
    let p = rw (z, end_is a.g) at c.put_if.ensures.0 in
    let q = rw (z, end_is a.g) at c.put_if.ensures.1 in
    let put = flat_then a.out.now _ (runs_over a.g qs) over 0 h d _ c.put_runs-k.result (omega (arith, i)) p in
    (rw all at put, omega (arith, i, q, ap length all, length-append (runs_over a.g qs) over), c.lay_if-2.ensures.0 ∙ c.lay_if.ensures.0)
