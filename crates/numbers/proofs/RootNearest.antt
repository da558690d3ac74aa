-- The digits and the place of a root, as its nearest whole number has them. Assumes nothing.
use Rattle.std.specs.Prelude.{◌≡◌, ℕ, ◌+◌, ◌-◌, ◌*◌, ◌/◌, ◌%◌, ◌^◌, ◌<◌}
use Rattle.std.proofs.Common.{ap, ◌∙◌, arith}
use Rattle.numbers.specs.Root.{near_root, root_units}
use Rattle.numbers.specs.Decode.{root_units_at, apart}
use Rattle.numbers.specs.Units.{Grid}
use Rattle.numbers.specs.RootNearest.{Placed, Rooted, four_pow, near_root_near, placed, sized}

pub rooted : (y : ℕ) → 0 < y → Grid y → Rooted (y * 2 ^ 1074)
rooted y P g = go (placed y P g)
  where
    go : Placed (y * 2 ^ 1074) → Rooted (y * 2 ^ 1074)
    go z =
        let k = (z.a - 52) / 2 in
        let p = (z.a - 52) % 2 in
        let m = z.d * 2 ^ p * 2 ^ 52 in
        let o : z.a ≡ 52 + (2 * k + p) = omega (arith, z.far) in
        let w = sized z.d p (omega arith) z.low z.high in
        record {
          m = m;
          q = near_root 53 m;
          k = k;
          is = ap root_units z.is ∙ root_units_at z.d z.a k p z.low z.high o (omega arith);
          split = z.is ∙ ap (λ (x : ℕ). z.d * 2 ^ x) o ∙ apart z.d k p ∙ ap (λ (x : ℕ). m * x) (four_pow k);
          near = near_root_near 53 m (omega (arith, w.0)) (omega (arith, w.1));
          low = omega (arith, w.0);
          high = omega (arith, w.1);
        }
