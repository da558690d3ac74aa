-- All sections, written. Assumes nothing.
use mathlib.Core.Path.{sym, ap}
use Prim.Native.Nat.{◌+◌, ◌/◌}
use native.Mathlib.Omega.{arith}
use Rattle.seqs.specs.Lists.{each}
use Rattle.seqs.specs.Front.{front_start, front_at, front_push, front_end, front_room_block, front_whole}
use Rattle.geom.specs.Sewing.{flat}
use Rattle.geom.specs.SewingLaws.{flat_none}
use Rattle.rules.specs.Fill.{sewn, section}
use Rattle.rules.specs.Calls.{sewn_points, sewn_ends}
use Rattle.sewing.specs.Sewing.{entries_in}
use Rattle.sewing.proofs.Walks.{sewn_rest, all_start, all_none, all_flat, all_ends, ends_none}
use borrow.Author.Rules.{rules}
use Rattle.sewing.proofs.section.write.Goals as goal

pub loop-s-init : goal.loop-s-init
loop-s-init c =
    let e = sym (all_start c.args.t.now.field.g c.args.t.now.field.stagger (entries_in c.args.t.now.field c.args.floats.now c.args.wholes.now) c.args.sections) in
    (front_at (ap (λ y. flat (each (λ x. x) y)) e) (front_start _ _), front_at (ap (sewn_ends 0) e) (front_start _ _))

pub put_section-at-requires : goal.put_section-at-requires
unfolding sewn_points
put_section-at-requires c =
    let a = c.args in
    let l = c.loop-s in
    let es = entries_in a.t.now.field a.floats.now a.wholes.now in
    let m = flat (sewn a.t.now.field.g a.t.now.field.stagger (section es l.s)) in
    let rest = flat (each (λ x. x) (sewn_rest a.t.now.field.g a.t.now.field.stagger es (l.s + 1) a.sections)) in
    let d = front_at (all_flat a.t.now.field.g a.t.now.field.stagger es l.s a.sections (search rules)) l.invariant.0 in
    (omega arith, front_room_block m rest d c.requires.1)

pub bounds-ends-s : goal.bounds-ends-s
bounds-ends-s c = omega (arith, c.loop-s.invariant.1.len, c.requires.2)

pub loop-s-preserved : goal.loop-s-preserved
unfolding sewn_points
loop-s-preserved c =
    let a = c.args in
    let l = c.loop-s in
    let es = entries_in a.t.now.field a.floats.now a.wholes.now in
    let m = flat (sewn a.t.now.field.g a.t.now.field.stagger (section es l.s)) in
    let rest = flat (each (λ x. x) (sewn_rest a.t.now.field.g a.t.now.field.stagger es (l.s + 1) a.sections)) in
    let d = front_at (all_flat a.t.now.field.g a.t.now.field.stagger es l.s a.sections (search rules)) l.invariant.0 in
    let b = front_room_block m rest d c.requires.1 in
    let v = c.put_section-at.ensures.1 in
    let f = front_push (front_at (all_ends a.t.now.field.g a.t.now.field.stagger es l.s a.sections l.at (search rules)) l.invariant.1) (omega (arith, l.invariant.1.len, c.requires.2)) in
    (rw v (front_whole m rest _ d b c.put_section-at.ensures.0), rw v f)

pub shape_of-out : goal.shape_of-out
shape_of-out c = c.loop-s.invariant.0.len

pub shape_of-ends : goal.shape_of-ends
shape_of-ends c = c.loop-s.invariant.1.len

pub returns : goal.returns
unfolding sewn_points
returns c =
    let a = c.args in
    let l = c.loop-s in
    let es = entries_in a.t.now.field a.floats.now a.wholes.now in (
      (front_end (front_at (flat_none (ap (λ y. each (λ x. x) y) (all_none a.t.now.field.g a.t.now.field.stagger es l.s a.sections (search rules)))) l.invariant.0)),
      (front_end (front_at (ends_none a.t.now.field.g a.t.now.field.stagger es l.s a.sections (l.at / 2) (search rules)) l.invariant.1)),
    )
