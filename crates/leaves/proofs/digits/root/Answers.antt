-- Each pattern has its answer: its own root, the root by digits, or none.
use Rattle.std.proofs.Common.{◌≡◌, T, sym, ap, ◌∙◌, subst, arith}
use lib.Ieee.{Float, nan, binary64, of_bits, div}
use lib.Ieee.Bits.{to_bits-lt, of_bits-to_bits}
use Rattle.numbers.specs.Root.{root}
use Rattle.leaves.proofs.Total.{Own, not_nan, by_pattern, nan_own, zero_own, minus_zero_own, infinity_own, no_root}
use Rattle.leaves.proofs.digits.root.Goals as goal

pub returns-then-x : goal.returns-then-x
returns-then-x c = nan_own c.args.x c.if-x.true

pub float_to_bits-b : goal.float_to_bits-b
float_to_bits-b c = not_nan c.args.x c.if-x.false

pub returns-then-b-gt0 : goal.returns-then-b-gt0
returns-then-b-gt0 c =
    c.root_pattern.ensures ∙ ap root (of_bits-to_bits binary64 c.args.x (subst T (sym c.well_formed.0.1) tt))

pub returns-then-b-lt9218868437227405312 : goal.returns-then-b-lt9218868437227405312
returns-then-b-lt9218868437227405312 c =
    by_pattern Own c.args.x (subst T (sym c.well_formed.0.1) tt) (zero_own _ (omega (arith, c.if-b-gt0.false)))

pub returns-then-b-eq9218868437227405312 : goal.returns-then-b-eq9218868437227405312
returns-then-b-eq9218868437227405312 c =
    by_pattern Own c.args.x (subst T (sym c.well_formed.0.1) tt) (infinity_own _ c.if-b-eq9218868437227405312.true)

pub returns-then-b : goal.returns-then-b
returns-then-b c =
    by_pattern Own c.args.x (subst T (sym c.well_formed.0.1) tt) (minus_zero_own _ c.if-b.true)

pub returns : goal.returns
unfolding of_bits div
returns c =
    let past = c.if-b-lt9218868437227405312.false in
    let off = c.if-b-eq9218868437227405312.false in
    by_pattern (λ (x : Float). nan ≡ root x) c.args.x (subst T (sym c.well_formed.0.1) tt)
    (no_root _ (to_bits-lt binary64 c.args.x (subst T (sym c.well_formed.0.1) tt)) (omega (arith, past, off)) c.if-b.false)
