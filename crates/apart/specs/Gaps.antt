-- The distance of two values along an axis, by their values with the signs taken apart. Assumes nothing.
use Rattle.std.specs.Prelude.{◌≡◌, Bool, true, false, not, cond, ◌⊎◌, ℕ, zero, suc, ◌+◌, ◌-◌, ◌≤◌, ◌<◌, T, ltb, pos, negsuc, neg_ℤ, nat_abs, ◌-ℤ◌, Float}
use Rattle.std.proofs.Common.{inl, inr, arith, ltb→lt, nltb→le}
use Rattle.std.proofs.Math.IntN.{sub_ℕ}
use Rattle.numbers.specs.Order.{negative}
use Rattle.numbers.specs.Value.{units_of, value_of}
use Rattle.numbers.specs.Fraction.{over, under}
use Rattle.apart.specs.Apart.{gap}
use Rattle.apart.specs.Values.{hi, lo}

-- p and n are d apart
abbrev pub Differ : ℕ → ℕ → ℕ → Type 0
Differ p n d = (p ≡ n + d) ⊎ (n ≡ p + d)

less : (a b : ℕ) → Differ a b (nat_abs (sub_ℕ a b))
less a b = go (ltb a b) (ltb→lt a b) (nltb→le a b)
  where
    go : (x : Bool) → (T x → a < b) → (T (not x) → b ≤ a) → Differ a b (nat_abs (cond x (negsuc (b - suc a)) (pos (a - b))))
    go true l m = let h = l tt in inr (omega arith)
    go false l m = let h = m tt in inl (omega arith)

moved : (a b p n d : ℕ) → p ≡ a → n ≡ b → Differ a b d → Differ p n d
moved a b p n d x y (inl e) = inl (omega arith)
moved a b p n d x y (inr e) = inr (omega arith)

apart : (s t : Bool) (u w : ℕ) → Differ (over s u + under t w) (under s u + over t w) (nat_abs (cond s (neg_ℤ (pos u)) (pos u) -ℤ cond t (neg_ℤ (pos w)) (pos w)))
apart false false u zero = inl (omega arith)
apart false false u (suc w) = moved u (suc w) (u + 0) (0 + suc w) (nat_abs (sub_ℕ u (suc w))) (omega arith) (omega arith) (less u (suc w))
apart false true u zero = inl (omega arith)
apart false true u (suc w) = inl (omega arith)
apart true false zero zero = inr (omega arith)
apart true false zero (suc w) = moved 0 (suc w) (0 + 0) (0 + suc w) (nat_abs (sub_ℕ 0 (suc w))) (omega arith) (omega arith) (less 0 (suc w))
apart true false (suc u) zero = moved 0 (suc u) (0 + 0) (suc u + 0) (nat_abs (sub_ℕ 0 (suc u))) (omega arith) (omega arith) (less 0 (suc u))
apart true false (suc u) (suc w) = inr (omega arith)
apart true true zero zero = inl (omega arith)
apart true true zero (suc w) = inl (omega arith)
apart true true (suc u) zero = moved 0 (suc u) (0 + 0) (suc u + 0) (nat_abs (sub_ℕ 0 (suc u))) (omega arith) (omega arith) (less 0 (suc u))
apart true true (suc u) (suc w) = moved (suc w) (suc u) (0 + suc w) (suc u + 0) (nat_abs (sub_ℕ (suc w) (suc u))) (omega arith) (omega arith) (less (suc w) (suc u))

pub gap_is : (x y : Float) → Differ (hi x + lo y) (lo x + hi y) (gap x y)
unfolding gap value_of hi lo
gap_is x y = apart (negative x) (negative y) (units_of x) (units_of y)
