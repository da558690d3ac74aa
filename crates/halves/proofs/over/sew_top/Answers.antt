-- `sew_top` meets its contract: what is counted up to the room is what the room is compared with. Assumes nothing.
use Rattle.std.proofs.Common.{ℕ}
use Rattle.refusal.specs.Refusal.{DONE}
use mathlib.Core.Path.{refl, ap, ◌∙◌}
use native.Mathlib.Omega.{arith}
use lib.ListN.{length}
use Rattle.seqs.specs.Slices.{capped}
use Rattle.geom.specs.SewingLaws.{not_fitted, counted, fits, is_fitted, flat_length}
use Rattle.halves.specs.Sewing.{top_over}
use Rattle.halves.specs.SewingLaws.{behind_size, over_path, over_count}
use Rattle.halves.proofs.over.sew_top.Goals as goal

pub put_stitches-requires : goal.put_stitches-requires
put_stitches-requires c = (c.requires.0, c.requires.2)

pub slice_bounds-count_top-end : goal.slice_bounds-count_top-end
slice_bounds-count_top-end c = omega (arith, c.requires.2, behind_size c.args.g c.args.t c.args.work.now _ c.requires.2 c.put_stitches.ensures)

pub shape_of-work-then-points-room : goal.shape_of-work-then-points-room
shape_of-work-then-points-room c = behind_size c.args.g c.args.t c.args.work.now _ c.requires.2 c.put_stitches.ensures

pub returns-then-points-room : goal.returns-then-points-room
returns-then-points-room c =
    let a = c.args in
    let e = c.count_top-points.ensures ∙ ap (capped _) (over_count a.g a.t a.work.now _ c.requires.2 c.put_stitches.ensures a.far) in
    rw (not_fitted (top_over a.far a.g a.t a.work.now) (length a.out.now) e c.if-points-room.true) (refl, refl, behind_size a.g a.t a.work.now _ c.requires.2 c.put_stitches.ensures)

pub slice_bounds-put_top-end : goal.slice_bounds-put_top-end
slice_bounds-put_top-end c = omega (arith, c.requires.2, behind_size c.args.g c.args.t c.args.work.now _ c.requires.2 c.put_stitches.ensures)

pub put_top-requires : goal.put_top-requires
put_top-requires c =
    let a = c.args in
    let m = top_over a.far a.g a.t a.work.now in
    let e = c.count_top-points.ensures ∙ ap (capped _) (over_count a.g a.t a.work.now _ c.requires.2 c.put_stitches.ensures a.far) in
    rw (over_path a.g a.t a.work.now _ c.requires.2 c.put_stitches.ensures a.far) (omega (arith, fits m (length a.out.now) e c.if-points-room.false, flat_length m))

pub returns : goal.returns
returns c =
    let a = c.args in
    let m = top_over a.far a.g a.t a.work.now in
    let e = c.count_top-points.ensures ∙ ap (capped _) (over_count a.g a.t a.work.now _ c.requires.2 c.put_stitches.ensures a.far) in
    rw (is_fitted m (length a.out.now) e c.if-points-room.false) (ap (λ (n : ℕ). record { answer = DONE; points = n }) (counted m (length a.out.now) e c.if-points-room.false), rw (over_path a.g a.t a.work.now _ c.requires.2 c.put_stitches.ensures a.far) at c.put_top.ensures.0, behind_size a.g a.t a.work.now _ c.requires.2 c.put_stitches.ensures)
