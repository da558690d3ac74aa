use Rattle.std.proofs.Common.{arith, sym, ◌∙◌, length-append}
use Rattle.seqs.specs.Lists.{each}
use Rattle.seqs.specs.Each.{fold_append}
use Rattle.rules.specs.Fill.{kept_side}
use Rattle.edges.specs.EdgeCount.{outline_few}
use Rattle.rowwise.specs.Nearest.{meet}
use Rattle.rowwise.specs.NearestLaws.{passed_over}
use Rattle.rowwise.proofs.crossing.next_crossing.Goals as goal

pub meet-m-requires : goal.meet-m-requires
meet-m-requires c = let o = c.args.o in record { small = c.loop-a.invariant.2; few = omega (arith, c.loop-a.invariant.3, outline_few c.args.g o.corners.now o.ends.now o.laid, c.requires.0, c.requires.1) }

pub loop-a-preserved : goal.loop-a-preserved
loop-a-preserved c =
    let l = c.loop-a in
    let q = c.args.q in
    let side = kept_side (c.in-Some.a, c.in-Some.b) in
    let later = each kept_side c.next.new.self in
    let few = rw c.in-Some.ensures.steps at l.invariant.3 in
    (tt, tt, l.invariant.2, omega (arith, length-append side later, few), passed_over q l.m c.in-Some.a c.in-Some.b later (sym c.passes.ensures ∙ c.if-passes.false) ∙ (rw c.in-Some.ensures.steps at l.invariant.4))

pub loop-a-preserved-then-passes : goal.loop-a-preserved-then-passes
loop-a-preserved-then-passes c =
    let l = c.loop-a in
    let q = c.args.q in
    let side = kept_side (c.in-Some.a, c.in-Some.b) in
    let later = each kept_side c.next.new.self in
    let few = rw c.in-Some.ensures.steps at l.invariant.3 in
    let m = rw c.kept_side.ensures at c.meet-m.ensures.few in
    (tt, tt, c.meet-m.ensures.small, omega (arith, length-append side later, few, m), rw (c.meet-m.ensures.is, c.kept_side.ensures) (sym (fold_append (meet q) l.m side later) ∙ (rw c.in-Some.ensures.steps at l.invariant.4)))

pub returns : goal.returns
returns c =
    let o = c.args.o in
    let few = rw c.in-None.ensures.steps.0 at c.loop-a.invariant.3 in
    record { is = rw c.in-None.ensures.steps.0 at c.loop-a.invariant.4; small = c.loop-a.invariant.2; few = omega (arith, outline_few c.args.g o.corners.now o.ends.now o.laid) }
