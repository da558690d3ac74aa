use Rattle.std.proofs.Common.{T, sym, subst}
use Rattle.leaves.proofs.Total.{not_nan}
use Rattle.leaves.proofs.OrderTests.{finite_field, nan_finite}
use Rattle.leaves.proofs.order.is_finite.Goals as goal

pub returns-then-x : goal.returns-then-x
returns-then-x c = nan_finite c.args.x c.if-x.true

pub float_to_bits-result : goal.float_to_bits-result
float_to_bits-result c = not_nan c.args.x c.if-x.false

pub returns : goal.returns
returns c = finite_field c.args.x (subst T (sym c.well_formed.0.1) tt)
