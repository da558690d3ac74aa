use Rattle.std.proofs.Common.{Bool, T, sym, ap, ◌∙◌, subst, arith}
use lib.Ieee.{Float, of_bits, lt}
use Rattle.numbers.specs.Whole.{whole_of}
use Rattle.numbers.specs.WholeLaws.{whole_large, in_range, count_lt, returns_toward, returns_level, returns_away}
use Rattle.leaves.proofs.whole.whole.Goals as goal

pub truncating_f64_to_u64-n-requires : goal.truncating_f64_to_u64-n-requires
unfolding of_bits
truncating_f64_to_u64-n-requires c = let told = in_range c.magnitude-a.result c.args.x c.magnitude-a.ensures c.if-a.true in record { lower_bound = told.0; upper_bound = told.1 }

pub overflow_add-n : goal.overflow_add-n
unfolding of_bits
overflow_add-n c =
    omega (arith, c.truncating_f64_to_u64-n.ensures, count_lt c.magnitude-a.result c.args.x c.magnitude-a.ensures c.if-a.true)

pub returns-then-t-a : goal.returns-then-t-a
unfolding of_bits
returns-then-t-a c =
    returns_away c.args.x c.magnitude-a.result c.of_u64-t.result c.truncating_f64_to_u64-n.result c.is_negative-s.result
    c.magnitude-a.ensures c.if-a.true c.truncating_f64_to_u64-n.ensures c.of_u64-t.ensures c.is_negative-s.ensures
    c.of_u64.result c.signed.result c.of_u64.ensures c.signed.ensures c.if-t-a.true
    ∙ ap (λ (t : Bool). whole_of t c.args.x) (sym c.if-away.true)

pub returns-then-away : goal.returns-then-away
unfolding of_bits
returns-then-away c =
    returns_level c.args.x c.magnitude-a.result c.of_u64-t.result c.truncating_f64_to_u64-n.result c.is_negative-s.result
    c.magnitude-a.ensures c.if-a.true c.truncating_f64_to_u64-n.ensures c.of_u64-t.ensures c.is_negative-s.ensures
    c.signed-then-away.result c.signed-then-away.ensures c.if-t-a.false
    ∙ ap (λ (t : Bool). whole_of t c.args.x) (sym c.if-away.true)

pub returns-then-a : goal.returns-then-a
unfolding of_bits
returns-then-a c =
    returns_toward c.args.x c.magnitude-a.result c.of_u64-t.result c.truncating_f64_to_u64-n.result c.is_negative-s.result
    c.magnitude-a.ensures c.if-a.true c.truncating_f64_to_u64-n.ensures c.of_u64-t.ensures c.is_negative-s.ensures
    c.signed-then-a.result c.signed-then-a.ensures
    ∙ ap (λ (t : Bool). whole_of t c.args.x) (sym c.if-away.false)

pub returns : goal.returns
unfolding of_bits
returns c =
    whole_large c.args.away c.args.x (subst T (sym c.well_formed.0.1) tt) (ap (λ (v : Float). lt v _) (sym c.magnitude-a.ensures) ∙ c.if-a.false)
