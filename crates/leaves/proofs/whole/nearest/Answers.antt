use Rattle.std.proofs.Common.{◌≡◌, true, false, T, pos, sym, subst, arith}
use lib.Ieee.{fin, of_bits, lt, to_unsigned}
use Rattle.numbers.specs.Num.{◌⊕◌}
use Rattle.numbers.specs.Order.{magnitude}
use Rattle.numbers.specs.Rounding.{nearest_count}
use Rattle.numbers.specs.Laws.{holds, nearest_is, twice_small}
use Rattle.leaves.proofs.whole.nearest.Goals as goal

pub overflow_add-result : goal.overflow_add-result
unfolding of_bits
overflow_add-result c =
    let m = c.magnitude-v.ensures in
    let e : c.to_u64.result ≡ to_unsigned 64 (magnitude c.args.x ⊕ magnitude c.args.x) = rw m at c.to_u64.ensures in
    let small : lt (magnitude c.args.x) (fin false 1 (pos 53)) ≡ true = rw m at c.if-v.true in
    omega (arith, e, twice_small c.args.x (subst T (sym c.well_formed.0.1) tt) (holds small))

pub returns-then-v : goal.returns-then-v
unfolding of_bits nearest_count
returns-then-v c =
    let m = c.magnitude-v.ensures in
    let e : c.to_u64.result ≡ to_unsigned 64 (magnitude c.args.x ⊕ magnitude c.args.x) = rw m at c.to_u64.ensures in
    let small : lt (magnitude c.args.x) (fin false 1 (pos 53)) ≡ true = rw m at c.if-v.true in
    rw (small, e) (nearest_is c.args.x (subst T (sym c.well_formed.0.1) tt) (holds small))

pub returns : goal.returns
unfolding of_bits nearest_count
returns c =
    let m = c.magnitude-v.ensures in
    let large : lt (magnitude c.args.x) (fin false 1 (pos 53)) ≡ false = rw m at c.if-v.false in
    rw (large, ← m) c.to_u64-2.ensures
