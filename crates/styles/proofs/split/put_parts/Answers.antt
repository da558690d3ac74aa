-- `put_parts` meets its contract: the ends of the parts from j on are to be written from `to` on. Assumes nothing.
use Prim.Native.Nat.{◌-◌}
use native.Mathlib.Omega.{arith}
use Rattle.seqs.specs.Front.{front_from, front_at}
use Rattle.seqs.specs.Wrote.{put_end}
use Rattle.geom.specs.Sewing.{flat}
use Rattle.geom.specs.SewingLaws.{flat_none}
use Rattle.satinrules.specs.Column.{parts_from}
use Rattle.styles.specs.SidesLaws.{parts_size, parts_none}
use Rattle.styles.proofs.Turns.{part_room, part_put}
use borrow.Author.Rules.{rules}
use Rattle.styles.proofs.split.put_parts.Goals as goal

pub loop-j-init : goal.loop-j-init
loop-j-init c = front_from _ _ c.args.k (omega (arith, c.requires))

pub put_point-requires : goal.put_point-requires
put_point-requires c =
    let a = c.args in
    let l = c.loop-j in
    omega (arith, part_room a.k a.p a.q a.n a.shift l.j l.invariant c.requires (search rules))

pub overflow_add-to : goal.overflow_add-to
overflow_add-to c =
    let a = c.args in
    let l = c.loop-j in
    omega (arith, part_room a.k a.p a.q a.n a.shift l.j l.invariant c.requires (search rules), l.invariant.len, c.well_formed)

pub loop-j-preserved : goal.loop-j-preserved
loop-j-preserved c =
    let a = c.args in
    let l = c.loop-j in
    let e = rw c.part_end.ensures at c.put_point.ensures in
    part_put a.k a.p a.q a.n a.shift l.j l.invariant c.requires (search rules) _ e

pub shape_of-out : goal.shape_of-out
shape_of-out c = c.loop-j.invariant.len

pub returns : goal.returns
returns c =
    let a = c.args in
    let l = c.loop-j in
    let f = put_end (flat (parts_from a.p a.q a.n a.shift 1 (a.n - 1))) a.k (omega (arith, c.requires)) (front_at (flat_none (parts_none a.p a.q a.n a.shift l.j (search rules))) l.invariant) in
    (f.0, omega (arith, f.1, parts_size a.p a.q a.n a.shift 1 (a.n - 1)))
