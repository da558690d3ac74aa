-- `count_bent` meets its contract: the points of the sides that are left are still to be counted. Assumes nothing.
use Rattle.std.proofs.Common.{arith, sym, ap, ◌∙◌, ◌+◌, length}
use Rattle.seqs.specs.Slices.{capped}
use Rattle.seqs.specs.Capped.{capped_in, capped_small, capped_on, capped_still}
use Rattle.satinrules.specs.Column.{sides_from, s_side, s_stitch}
use Rattle.styles.specs.SidesLaws.{sides_none, count_start, count_next, sides_over, bent_length}
use Rattle.styles.proofs.bent.count_bent.Goals as goal

pub returns-in_default : goal.returns-in_default
unfolding s_stitch
returns-in_default c = rw (sides_none s_side (sym c.of-corners.ensures ∙ c.in_default.ensures.steps.0)) (sym (capped_in c.args.room 0 (omega arith)))

pub loop-q-init : goal.loop-q-init
unfolding s_stitch
loop-q-init c = (omega arith, (0, rw c.into_iter-q-iterator.ensures.into_iter_gives (ap (capped c.args.room) (sym (count_start s_side (sym c.of-corners.ensures ∙ c.in-Some.ensures.steps))))))

pub loop-q-preserved : goal.loop-q-preserved
loop-q-preserved c =
    let a = c.args in
    let l = c.loop-q in
    let q = c.in-Some-q.q in
    let rest = c.next-in-loop-q.new.self in
    let i = l.invariant.1 in
    let e = count_next s_side i.0 l.p q rest in
    let k = length (sides_from s_side (i.0 + 1) q rest) in
    (rw c.add_within-c.ensures (capped_small a.room _), (i.0 + 1, rw c.add_within-c.ensures (capped_on a.room (l.c + c.count_side.result) k ∙ ap (capped a.room) (omega (arith, e, c.count_side.ensures, bent_length l.p q i.0)) ∙ rw c.in-Some-q.ensures.steps at i.1)))

pub returns : goal.returns
returns c =
    let a = c.args in
    let l = c.loop-q in
    let i = l.invariant.1 in
    let e = ap length (sides_over s_side i.0 l.p c.in-None.ensures.steps.0) in
    sym (capped_still a.room l.c l.invariant.0) ∙ ap (capped a.room) (omega (arith, e)) ∙ i.1
