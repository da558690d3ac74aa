use mathlib.Core.Path.{refl, sym, ◌∙◌}
use native.Mathlib.Omega.{arith}
use Rattle.std.proofs.lemmas.Result.{err_from_is_err_and}
use Rattle.finding.specs.FindLaws.{outline_of}
use Rattle.layers.specs.Layers.{table_refusal}
use Rattle.layers.specs.LayerLaws.{table_few, table_added, table_floats, table_wholes, table_stands}
use Rattle.layers.proofs.table.prepare.Goals as goal

pub returns-in_err-o : goal.returns-in_err-o
unfolding table_refusal
returns-in_err-o c =
    let e = c.in_err-o.ensures in
    let p = err_from_is_err_and c.from_residual.result c.from_residual.ensures.1 in
    record { size = refl; is = rw (p.1, p.2, e.0, e.1) (refl, omega arith, omega arith, refl) }

pub returns-then-not-good_numbers : goal.returns-then-not-good_numbers
unfolding table_refusal
returns-then-not-good_numbers c = record { size = refl; is = rw (c.in_ok-o.ensures.2, sym c.good_numbers.ensures ∙ c.if-not-good_numbers.true) (refl, omega arith, omega arith, refl) }

pub returns-then-not-good_turn : goal.returns-then-not-good_turn
unfolding table_refusal
returns-then-not-good_turn c = record { size = refl; is = rw (c.in_ok-o.ensures.2, sym c.good_numbers.ensures ∙ c.if-not-good_numbers.false, sym c.good_turn.ensures ∙ c.if-not-good_turn.true) (refl, omega arith, omega arith, refl) }

pub build-e-requires : goal.build-e-requires
build-e-requires c = rw c.in_ok-o.ensures.0 (outline_of c.args.corners.now c.args.ends.now c.in_ok-o.ensures.2).few

pub overflow_mul-e : goal.overflow_mul-e
overflow_mul-e c =
    let a = c.args in
    let x = c.in_ok-o.ensures.2 in
    let b = table_added a.corners.now a.ends.now a.cosine a.sine c.turn_of.ensures (rw (c.in_ok-o.ensures.0, c.in_ok-o.ensures.1) at c.build-e.ensures) in
    omega (arith, table_few a.corners.now a.ends.now a.cosine a.sine x, b.count)

pub returns-then-table-e : goal.returns-then-table-e
returns-then-table-e c =
    let a = c.args in
    let x = c.in_ok-o.ensures.2 in
    let y = sym c.good_numbers.ensures ∙ c.if-not-good_numbers.false in
    let z = sym c.good_turn.ensures ∙ c.if-not-good_turn.false in
    let b = table_added a.corners.now a.ends.now a.cosine a.sine c.turn_of.ensures (rw (c.in_ok-o.ensures.0, c.in_ok-o.ensures.1) at c.build-e.ensures) in
    record { size = b.wrote.size; is = table_floats a.corners.now a.ends.now a.cosine a.sine x y z _ _ (omega (arith, c.if-table-e.true, b.count, b.wrote.size)) }

pub overflow_mul-e-2 : goal.overflow_mul-e-2
overflow_mul-e-2 c =
    let a = c.args in
    let x = c.in_ok-o.ensures.2 in
    let b = table_added a.corners.now a.ends.now a.cosine a.sine c.turn_of.ensures (rw (c.in_ok-o.ensures.0, c.in_ok-o.ensures.1) at c.build-e.ensures) in
    omega (arith, table_few a.corners.now a.ends.now a.cosine a.sine x, b.count)

pub returns-then-places-e : goal.returns-then-places-e
returns-then-places-e c =
    let a = c.args in
    let x = c.in_ok-o.ensures.2 in
    let y = sym c.good_numbers.ensures ∙ c.if-not-good_numbers.false in
    let z = sym c.good_turn.ensures ∙ c.if-not-good_turn.false in
    let b = table_added a.corners.now a.ends.now a.cosine a.sine c.turn_of.ensures (rw (c.in_ok-o.ensures.0, c.in_ok-o.ensures.1) at c.build-e.ensures) in
    record { size = b.wrote.size; is = table_wholes a.corners.now a.ends.now a.cosine a.sine x y z _ _ (omega (arith, c.if-places-e.true, b.count)) }

pub returns : goal.returns
returns c =
    let a = c.args in
    let x = c.in_ok-o.ensures.2 in
    let y = sym c.good_numbers.ensures ∙ c.if-not-good_numbers.false in
    let z = sym c.good_turn.ensures ∙ c.if-not-good_turn.false in
    let b = table_added a.corners.now a.ends.now a.cosine a.sine c.turn_of.ensures (rw (c.in_ok-o.ensures.0, c.in_ok-o.ensures.1) at c.build-e.ensures) in
    record { size = b.wrote.size; is = table_stands a.corners.now a.ends.now a.cosine a.sine x y z _ _ b b.wrote.size (omega (arith, c.if-table-e.false, b.wrote.size)) c.if-places-e.false }
