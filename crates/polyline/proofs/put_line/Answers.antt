-- `put_line` meets its contract: the first corner, and the pieces after it. Assumes nothing.
use mathlib.Core.Path.{sym, ap, ◌∙◌}
use native.Mathlib.Omega.{arith}
use mathlib.Core.List.{[], ◌∷◌}
use lib.ListN.{length}
use Rattle.seqs.specs.Put.{put_none, put_length}
use Rattle.geom.specs.Sewing.{flat}
use Rattle.geom.specs.SewingLaws.{flat_none, flat_length}
use Rattle.polyline.proofs.LineSteps.{line_none, line_length, put_line_of}
use Rattle.polyline.proofs.put_line.Goals as goal

pub returns-in_default : goal.returns-in_default
returns-in_default c =
    let a = c.args in
    let e = flat_none (line_none a.len (sym c.of-corners.ensures ∙ c.in_default.ensures.steps.0)) in
    (rw e (put_none a.out.now a.k (omega (arith, c.requires))), omega (arith, ap length e))

pub put_point-requires : goal.put_point-requires
put_point-requires c = omega (arith, c.requires, line_length c.args.len (sym c.of-corners.ensures ∙ c.in-Some.ensures.steps))

pub put_pieces-requires : goal.put_pieces-requires
put_pieces-requires c =
    let a = c.args in
    let s = line_length a.len (sym c.of-corners.ensures ∙ c.in-Some.ensures.steps) in
    let p = c.in-Some.p ∷ [] in
    let e = ap length c.put_point.ensures ∙ put_length a.out.now (flat p) a.k (omega (arith, s, c.requires, flat_length p)) in
    omega (arith, e, s, c.requires)

pub returns : goal.returns
returns c =
    let a = c.args in
    let w = sym c.of-corners.ensures ∙ c.in-Some.ensures.steps in
    let s = line_length a.len w in
    (put_line_of a.len w a.out.now _ _ a.k c.requires c.put_point.ensures c.put_pieces.ensures.0, omega (arith, s, c.put_pieces.ensures.1))
