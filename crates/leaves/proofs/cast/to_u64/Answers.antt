use Rattle.std.proofs.Common.{T, sym, subst}
use lib.Ieee.{of_bits, neg}
use Rattle.leaves.proofs.CastEnds.{count_max, count_min, count_nan}
use Rattle.leaves.proofs.cast.to_u64.Goals as goal

pub truncating_f64_to_u64-requires : goal.truncating_f64_to_u64-requires
unfolding of_bits neg
truncating_f64_to_u64-requires c = record { lower_bound = subst T (sym c.if-x-2.true) tt; upper_bound = subst T (sym c.if-x.true) tt }

pub returns-then-x : goal.returns-then-x
unfolding of_bits neg
returns-then-x c = sym (count_min c.args.x c.if-x-2.false)

pub returns-then-x-3 : goal.returns-then-x-3
returns-then-x-3 c = sym (count_nan c.args.x c.if-x-3.true)

pub returns : goal.returns
unfolding of_bits
returns c = sym (count_max c.args.x c.if-x.false c.if-x-3.false)
