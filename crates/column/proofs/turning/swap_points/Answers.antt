-- `swap_points` meets its contract. Assumes nothing.
use mathlib.Core.Path.{◌∙◌}
use Prim.Native.Nat.{◌*◌}
use native.Mathlib.Omega.{arith}
use mathlib.Core.List.{[], ◌∷◌}
use Rattle.satin.specs.UnderlayLaws.{run_size}
use Rattle.column.specs.TurnedLaws.{swap_put}
use Rattle.column.proofs.turning.swap_points.Goals as goal

pub put_point-requires-2 : goal.put_point-requires-2
put_point-requires-2 c =
    let a = c.args in
    omega (arith, c.requires.2, run_size a.s.now _ (c.corner-q.result ∷ []) (2 * a.i) (omega (arith, c.requires.1)) c.put_point.ensures)

pub shape_of-s : goal.shape_of-s
shape_of-s c =
    let a = c.args in
    let e = run_size a.s.now _ (c.corner-q.result ∷ []) (2 * a.i) (omega (arith, c.requires.1)) c.put_point.ensures in
    run_size _ _ (c.corner-p.result ∷ []) (2 * a.j) (omega (arith, c.requires.2, e)) c.put_point-2.ensures ∙ e

pub returns : goal.returns
returns c =
    let a = c.args in
    let e = rw c.corner-q.ensures at c.put_point.ensures in
    let f = rw c.corner-p.ensures at c.put_point-2.ensures in
    swap_put a.s.now c.requires.0 a.i a.j c.requires.1 c.requires.2 _ _ e f
