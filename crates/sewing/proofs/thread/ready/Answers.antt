-- What all rows share. Assumes nothing.
use Rattle.std.proofs.Common.{rules, ne_eqb, to_z, of_z, w64, ◌≡◌, zero, suc, ℕ, max, arith, refl, ◌∙◌}
use lib.Ieee.{of_bits, round}
use Rattle.numbers.specs.Num.{literal}
use Rattle.rules.specs.Fill.{cycle}
use Rattle.sewing.proofs.thread.ready.Goals as goal

cycle_max : (n : ℕ) → max n 1 ≡ cycle n
unfolding cycle
cycle_max zero = refl
cycle_max (suc n) = let e : max (suc n) 1 ≡ suc n = omega arith in rw (e, ne_eqb (suc n) 0 (λ z. omega arith))

pub invariant_of-result : goal.invariant_of-result
unfolding of_bits literal round
invariant_of-result c =
    let row : to_z w64 (of_z w64 c.args.field.row) ≡ c.args.field.row = search rules in
    record {
      margin_is = c.smaller.ensures;
      cycle_is = c.max-cycle.ensures ∙ cycle_max c.args.field.stagger;
      some = omega arith;
      small = omega arith;
      start_is = rw row at c.remainder.ensures;
      decide = c.limits_of.ensures;
    }
