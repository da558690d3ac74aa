-- A section, written. Assumes nothing.
use mathlib.Core.Path.{refl, sym, ap, ◌∙◌}
use mathlib.Core.List.{◌++◌}
use Prim.Native.Nat.{◌+◌, ◌*◌, ◌≤◌}
use native.Mathlib.Omega.{arith}
use lib.ListN.{length, take, get_or}
use Rattle.seqs.specs.Front.{front_from, front_at, front_room_block, front_whole, front_count}
use Rattle.seqs.specs.Wrote.{head_length, put_end}
use Rattle.geom.specs.Point.{point}
use Rattle.geom.specs.Sewing.{flat}
use Rattle.geom.specs.SewingLaws.{flat_none}
use Rattle.rules.specs.Fill.{sewn, section}
use Rattle.sewing.specs.Sewing.{entry_at, start_of, entries_in, sew_to, back, targets}
use Rattle.sewing.specs.LinkedLaws.{linked_less}
use Rattle.sewing.proofs.Walks.{rest_sewn, rest_none, start_on, start_sewn, step_low, step_high, step_on, put_on}
use Rattle.sewing.proofs.section.put_section.Goals as goal

pub returns-then-j-n : goal.returns-then-j-n
returns-then-j-n c =
    let a = c.args in
    let f = a.l.thread.now.field in
    let fl = a.l.floats.now in
    let wh = a.l.wholes.now in
    let k0 = linked_less f a.l.sections (a.s + 1) fl wh (omega arith) a.l.linked in
    let j = get_or wh (4 * f.pieces + a.s) 0 in
    let pen = start_of (entry_at f fl wh j) in
    let e = flat_none (sym (start_sewn f fl wh a.s k0 pen (λ h. refl)) ∙ rest_none f fl wh a.s pen j c.if-j-n.true) in
    put_end (flat (sewn f.g f.stagger (section (entries_in f fl wh) a.s))) a.k (omega (arith, c.requires.1)) (front_at e (front_from _ _ a.k (omega (arith, c.requires.1))))

pub loop-j-init : goal.loop-j-init
loop-j-init c =
    let a = c.args in
    let f = a.l.thread.now.field in
    let fl = a.l.floats.now in
    let wh = a.l.wholes.now in
    let k0 = linked_less f a.l.sections (a.s + 1) fl wh (omega arith) a.l.linked in
    let o = start_on f fl wh a.s k0 in
    (o.0, (refl, omega arith), o.1, front_at (ap flat (sym (start_sewn f fl wh a.s k0 c.start-pen.result (λ h. c.start-pen.ensures)))) (front_from _ _ a.k (omega (arith, c.requires.1))))

pub put_row-at-requires : goal.put_row-at-requires
put_row-at-requires c =
    let a = c.args in
    let f = a.l.thread.now.field in
    let fl = a.l.floats.now in
    let wh = a.l.wholes.now in
    let k0 = linked_less f a.l.sections (a.s + 1) fl wh (omega arith) a.l.linked in
    let l = c.loop-j in
    let h = c.loop-j-test.true in
    let w = c.row-w.result.row in
    let all = flat (sewn f.g f.stagger (section (entries_in f fl wh) a.s)) in
    let b : length (take a.k a.out.now ++ all) ≤ length a.out.now = omega (arith, head_length a.out.now all a.k (omega (arith, c.requires.1)), c.requires.1) in
    let e = put_on f fl wh a.s k0 l.j h (l.invariant.2 h) l.pen w c.row-w.ensures (omega (arith, b, front_count l.invariant.3, l.invariant.1.1)) in
    let m = flat (back f.g.cosine f.g.sine (sew_to f.g.len l.pen (targets f.g.len w 0 (w.n + 2)))) in
    let rest = flat (rest_sewn f fl wh a.s (point w.last w.y) (get_or wh (3 * f.pieces + l.j) 0)) in
    (front_room_block m rest (front_at e l.invariant.3) b)

pub loop-j-smaller : goal.loop-j-smaller
loop-j-smaller c =
    let a = c.args in
    let f = a.l.thread.now.field in
    let fl = a.l.floats.now in
    let wh = a.l.wholes.now in
    let k0 = linked_less f a.l.sections (a.s + 1) fl wh (omega arith) a.l.linked in
    let l = c.loop-j in
    omega (arith, step_low f fl wh a.s k0 l.j c.loop-j-test.true (l.invariant.2 c.loop-j-test.true), step_high f fl wh a.s k0 l.j c.loop-j-test.true (l.invariant.2 c.loop-j-test.true))

pub loop-j-preserved : goal.loop-j-preserved
loop-j-preserved c =
    let a = c.args in
    let f = a.l.thread.now.field in
    let fl = a.l.floats.now in
    let wh = a.l.wholes.now in
    let k0 = linked_less f a.l.sections (a.s + 1) fl wh (omega arith) a.l.linked in
    let l = c.loop-j in
    let h = c.loop-j-test.true in
    let q = l.invariant.2 h in
    let w = c.row-w.result.row in
    let all = flat (sewn f.g f.stagger (section (entries_in f fl wh) a.s)) in
    let b : length (take a.k a.out.now ++ all) ≤ length a.out.now = omega (arith, head_length a.out.now all a.k (omega (arith, c.requires.1)), c.requires.1) in
    let e = put_on f fl wh a.s k0 l.j h q l.pen w c.row-w.ensures (omega (arith, b, front_count l.invariant.3, l.invariant.1.1)) in
    let m = flat (back f.g.cosine f.g.sine (sew_to f.g.len l.pen (targets f.g.len w 0 (w.n + 2)))) in
    let rest = flat (rest_sewn f fl wh a.s (point w.last w.y) (get_or wh (3 * f.pieces + l.j) 0)) in
    let d = front_at e l.invariant.3 in (
      step_high f fl wh a.s k0 l.j h q,
      (refl, l.invariant.1.1),
      step_on f fl wh a.s k0 l.j h q,
      rw c.put_row-at.ensures.1 (front_whole m rest _ d (front_room_block m rest d b) c.put_row-at.ensures.0),
    )

pub shape_of-out : goal.shape_of-out
shape_of-out c = c.loop-j.invariant.3.len

pub returns : goal.returns
returns c =
    let a = c.args in
    let f = a.l.thread.now.field in
    let fl = a.l.floats.now in
    let wh = a.l.wholes.now in
    let k0 = linked_less f a.l.sections (a.s + 1) fl wh (omega arith) a.l.linked in
    let l = c.loop-j in
    put_end (flat (sewn f.g f.stagger (section (entries_in f fl wh) a.s))) a.k (omega (arith, c.requires.1)) (front_at (flat_none (rest_none f fl wh a.s l.pen l.j c.loop-j-test.false)) l.invariant.3)
