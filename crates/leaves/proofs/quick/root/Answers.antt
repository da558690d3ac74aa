use Rattle.std.proofs.Common.{ℕ, ◌+◌, ◌*◌, ◌/◌, ◌%◌, ◌^◌, ◌≤◌, Bool, not, T, sym, ap, ◌∙◌, subst, arith, le-ltb}
use lib.Ieee.{binary64, to_bits}
use lib.Ieee.Bits.{of_bits-to_bits, nan_bits_above}
use Rattle.numbers.specs.Root.{near_root, root}
use Rattle.leaves.proofs.Total.{not_nan_itself}
use Rattle.leaves.proofs.Tried.{pattern_root}
use Rattle.leaves.proofs.quick.root.Goals as goal

pub float_to_bits-b : goal.float_to_bits-b
float_to_bits-b c = not_nan_itself c.args.x c.if-x.true

pub float_to_bits-g : goal.float_to_bits-g
float_to_bits-g c = not_nan_itself c.guess-g.result c.if-g.true

pub overflow_add-result : goal.overflow_add-result
overflow_add-result c = omega (arith, c.tried-q.ensures.0)

pub float_from_bits-result : goal.float_from_bits-result
float_from_bits-result c =
    let b = to_bits binary64 c.args.x in
    let r = (b / 2 ^ 52 + 1021) / 2 * 2 ^ 52 + c.tried-q.result in
    let below : r % 2 ^ 63 ≤ 2047 * 2 ^ 52 = omega (arith, c.tried-q.ensures.0, c.if-b-lt9218868437227405312.true) in
    subst (λ (t : Bool). T (not t)) (sym (nan_bits_above binary64 r ∙ le-ltb (2047 * 2 ^ 52) (r % 2 ^ 63) below)) tt

pub returns-then-q-gt0 : goal.returns-then-q-gt0
returns-then-q-gt0 c =
    let x = c.args.x in
    let near = c.tried-q.ensures.1 c.if-q-gt0.true in
    pattern_root (to_bits binary64 x) c.tried-q.result c.if-b-ge4503599627370496.true c.if-b-lt9218868437227405312.true (near ∙ ap (λ (w : ℕ). near_root 53 (w * 2 ^ 52)) c.evened-w.ensures.0)
    ∙ ap root (of_bits-to_bits binary64 x (subst T (sym c.well_formed.0.1) tt))
