-- No finite f64 is as near to the exact root as the one that `root` gives: the proof. `IsRoot` of Value says what it comes to.
use Rattle.std.specs.Prelude.{◌≡◌, refl, Bool, true, false, not, cond, ◌⊎◌, ℕ, zero, suc, ◌+◌, ◌-◌, ◌*◌, ◌/◌, ◌^◌, ◌≤◌, ◌<◌, T, leb}
use Rattle.std.proofs.Common.{sym, ap, subst, ◌∙◌, inl, inr, zero-le, mul_assoc, add-mul, zero-mul, lt_irrefl, lt_of_lt_of_le, lt_of_le_of_lt, le_trans, le_of_eq, le_of_lt, lt_of_not-le, not-le_of_lt, mul-le-mul, mul-le-mul_left, mul-le-mul_right, mul-lt-mul_of_pos_right, lt_of_mul-lt-mul_right, mul-div_cancel, mul-pos, eq-or-lt_of_le, arith, pow_mono, pow_pos, pow-add, leb→le}
use Rattle.std.proofs.Math.Nat.{pow-succ'}
use Rattle.std.proofs.Math.Decide.{dec_le}
use Rattle.std.proofs.Math.Dec.{nleb→lt}
use Rattle.std.specs.Float.Ieee.{down, minus, size, odd}
use Rattle.std.specs.Int.Count.{count_trailing_zeros}
use Rattle.std.specs.Float.Ieee.Fits.{down_pos}
use Rattle.std.specs.Float.Ieee.Digits.{odd_val, size-lt, size-le, size_reaches}
use Rattle.numbers.specs.Root.{near_root, root_units, isqrt}
use Rattle.numbers.specs.RootLaws.{Root, isqrt_is, square_next, less_root, square_two}
use Rattle.numbers.specs.Value.{units_of, Nearer}
use Rattle.numbers.specs.Units.{Grid}

-- q is the whole number nearest to the root of m
pub record Near (m q : ℕ) : Type 0 where
  pub low : (2 * q - 1) * (2 * q - 1) < 4 * m
  pub high : 4 * m < (2 * q + 1) * (2 * q + 1)

-- with q the whole root: 4 * m against (2 * q + 1) ^ 2 = 4 * q * q + 4 * q + 1, which is no multiple of 4
near_is : (m q : ℕ) → 0 < q → Root m q → Near m (q + cond (leb (m - q * q) q) 0 1)
near_is m q p r = go (leb (m - q * q) q) (leb→le (m - q * q) q) (nleb→lt (m - q * q) q)
  where
    go : (b : Bool) → (T b → m - q * q ≤ q) → (T (not b) → q < m - q * q) → Near m (q + cond b 0 1)
    go true y z =
        let l : m - q * q ≤ q = y tt in
        let e : q + 0 ≡ q = omega arith in
        let f : (2 * q - 1) + 1 ≡ 2 * q = omega arith in
        let g : (2 * q - 1 + 1) * (2 * q - 1 + 1) ≡ 4 * (q * q) = ap (λ (x : ℕ). x * x) f ∙ square_two q in
        rw e record { low = omega (arith, r.below, square_next (2 * q - 1), g); high = omega (arith, r.below, square_next (2 * q), square_two q) }
    go false y z =
        let l : q < m - q * q = z tt in
        let f : 2 * (q + 1) - 1 ≡ 2 * q + 1 = omega arith in
        record { low = rw f (omega (arith, square_next (2 * q), square_two q)); high = omega (arith, r.above, square_next (2 * (q + 1)), square_two (q + 1)) }

pub near_root_near : (d m : ℕ) → 0 < m → m < 4 ^ d → Near m (near_root d m)
unfolding near_root
near_root_near d m p h = near_is m (isqrt d m) (some (isqrt d m) (isqrt_is d m h)) (isqrt_is d m h)
  where
    some : (q : ℕ) → Root m q → 0 < q
    some zero r = omega (arith, r.above)
    some (suc q) r = omega arith

-- from 2 ^ 52 * 2 ^ k on, a value is a multiple of 2 ^ k
pub multiple : (k y : ℕ) → Grid y → 2 ^ 52 * 2 ^ k ≤ y → (c : ℕ) × (y ≡ c * 2 ^ k)
multiple k y g h = go (dec_le k g.places)
  where
    go : Dec (k ≤ g.places) → (c : ℕ) × (y ≡ c * 2 ^ k)
    go (yes l) =
        let e : (g.places - k) + k ≡ g.places = omega arith in
        (g.digits * 2 ^ (g.places - k), g.is ∙ ap (λ (x : ℕ). g.digits * 2 ^ x) (sym e) ∙ ap (λ (x : ℕ). g.digits * x) (pow-add 2 (g.places - k) k) ∙ sym (mul_assoc g.digits (2 ^ (g.places - k)) (2 ^ k)))
    go (no f) =
        let l : suc g.places ≤ k = lt_of_not-le f in
        let a : 53 + g.places ≤ 52 + k = omega arith in
        absurd (not-le_of_lt
        (lt_of_lt_of_le (mul-lt-mul_of_pos_right g.short (pow_pos g.places)) (le_trans (le_of_eq (sym (pow-add 2 53 g.places))) (le_trans (pow_mono a) (le_of_eq (pow-add 2 52 k)))))
        (le_trans h (le_of_eq g.is)))

-- ---- no value is nearer
pub scaled : (a p : ℕ) → (a * p) * (a * p) ≡ a * a * (p * p)
scaled a p = omega arith

-- with p for 2 ^ k
module _ (m q p : ℕ) (near : Near m q) (big : 2 ^ 52 ≤ q) (P : 0 < p) where
  above : (c : ℕ) → q * p < c * p → 4 * (m * (p * p)) < (q * p + c * p) * (q * p + c * p)
  above c h =
      let l : q < c = lt_of_mul-lt-mul_right p h in
      let a : (2 * q + 1) * p ≤ q * p + c * p = le_trans (mul-le-mul_right p (omega arith)) (le_of_eq (add-mul q c p)) in
      lt_of_lt_of_le
      (lt_of_lt_of_le (lt_of_le_of_lt (le_of_eq (sym (mul_assoc 4 m (p * p)))) (mul-lt-mul_of_pos_right near.high (mul-pos P P))) (le_of_eq (sym (scaled (2 * q + 1) p))))
      (mul-le-mul a a)

  below : (y : ℕ) → q * p + y ≤ (2 * q - 1) * p → (q * p + y) * (q * p + y) < 4 * (m * (p * p))
  below y h =
      lt_of_le_of_lt (mul-le-mul h h)
      (lt_of_le_of_lt (le_of_eq (scaled (2 * q - 1) p)) (lt_of_lt_of_le (mul-lt-mul_of_pos_right near.low (mul-pos P P)) (le_of_eq (mul_assoc 4 m (p * p)))))

  short_of : (y : ℕ) → y ≤ (q - 1) * p → q * p + y ≤ (2 * q - 1) * p
  short_of y h =
      let e : q * p + (q - 1) * p ≡ (2 * q - 1) * p = sym (add-mul q (q - 1) p) ∙ ap (λ (x : ℕ). x * p) (omega arith) in
      omega arith

pub four_pow : (k : ℕ) → 4 ^ k ≡ 2 ^ k * 2 ^ k
four_pow zero = refl
four_pow (suc k) = pow-succ' 4 k ∙ ap (λ (x : ℕ). 4 * x) (four_pow k) ∙ sym (ap (λ (x : ℕ). x * x) (pow-succ' 2 k) ∙ square_two (2 ^ k))

nearest_of : (m q k y : ℕ) → Near m q → 2 ^ 52 ≤ q → 2 ^ 104 ≤ m → Grid y → Nearer (m * (2 ^ k * 2 ^ k)) (q * 2 ^ k) y
nearest_of m q k y near big large g = record { under = under; over = over }
  where
    over : q * 2 ^ k < y → 4 * (m * (2 ^ k * 2 ^ k)) < (q * 2 ^ k + y) * (q * 2 ^ k + y)
    over h =
        let c = multiple k y g (le_trans (mul-le-mul_right (2 ^ k) big) (le_of_lt h)) in
        subst (λ (x : ℕ). 4 * (m * (2 ^ k * 2 ^ k)) < (q * 2 ^ k + x) * (q * 2 ^ k + x)) (sym c.1)
        (above m q (2 ^ k) near big (pow_pos k) c.0 (subst (λ (x : ℕ). q * 2 ^ k < x) c.1 h))

    less : y ≤ (q - 1) * 2 ^ k → (q * 2 ^ k + y) * (q * 2 ^ k + y) < 4 * (m * (2 ^ k * 2 ^ k))
    less h = below m q (2 ^ k) near big (pow_pos k) y (short_of m q (2 ^ k) near big (pow_pos k) y h)

    -- the next value down is nearer than a whole step, and the root is not below q
    edge : q ≡ 2 ^ 52 → y < q * 2 ^ k → (q * 2 ^ k + y) * (q * 2 ^ k + y) < 4 * (m * (2 ^ k * 2 ^ k))
    edge e h =
        let r = q * 2 ^ k in
        let twice : (r + r) * (r + r) ≡ 4 * (r * r) = omega arith in
        let s : r + y < r + r = omega arith in
        lt_of_lt_of_le (squares (r + y) (r + r) s)
        (le_trans (le_of_eq (twice ∙ ap (λ (x : ℕ). 4 * x) (scaled q (2 ^ k)))) (mul-le-mul_left 4 (mul-le-mul_right (2 ^ k * 2 ^ k) (le_trans (le_of_eq (ap (λ (x : ℕ). x * x) e)) large))))
      where
        squares : (a b : ℕ) → a < b → a * a < b * b
        squares a b h = lt_of_le_of_lt (mul-le-mul_left a (le_of_lt h)) (mul-lt-mul_of_pos_right h (lt_of_le_of_lt zero-le h))

    under : y < q * 2 ^ k → (q * 2 ^ k + y) * (q * 2 ^ k + y) < 4 * (m * (2 ^ k * 2 ^ k))
    under h = go (dec_le (2 ^ 52 * 2 ^ k) y) (eq-or-lt_of_le big)
      where
        go : Dec (2 ^ 52 * 2 ^ k ≤ y) → (2 ^ 52 ≡ q) ⊎ (2 ^ 52 < q) → (q * 2 ^ k + y) * (q * 2 ^ k + y) < 4 * (m * (2 ^ k * 2 ^ k))
        go (yes l) o =
            let c = multiple k y g l in
            let d : c.0 < q = lt_of_mul-lt-mul_right (2 ^ k) (subst (λ (x : ℕ). x < q * 2 ^ k) c.1 h) in
            less (le_trans (le_of_eq c.1) (mul-le-mul_right (2 ^ k) (omega arith)))
        go (no f) (inl e) = edge (sym e) h
        go (no f) (inr l) = less (le_trans (le_of_lt (lt_of_not-le f)) (mul-le-mul_right (2 ^ k) (omega arith)))

-- ---- a positive value has 53 digits, once its zeros are moved
pub record Placed (n : ℕ) : Type 0 where
  pub d : ℕ
  pub a : ℕ
  pub low : 2 ^ 52 ≤ d
  pub high : d < 2 ^ 53
  pub far : 52 ≤ a
  pub is : n ≡ d * 2 ^ a

pub placed : (y : ℕ) → 0 < y → Grid y → Placed (y * 2 ^ 1074)
placed y p g = go g.digits g.short g.is
  where
    go : (j : ℕ) → j < 2 ^ 53 → y ≡ j * 2 ^ g.places → Placed (y * 2 ^ 1074)
    go zero h e = absurd (lt_irrefl 0 (subst (λ (x : ℕ). 0 < x) (e ∙ zero-mul (2 ^ g.places)) p))
    go (suc j) h e =
        let i = g.places in
        let z = size (suc j) in
        let z-le : z ≤ 53 = size-le (suc j) 53 h in
        let z-pos : 0 < z = lt_of_not-le (λ (f : z ≤ 0). not-le_of_lt (lt_of_lt_of_le (size-lt (suc j)) (pow_mono f)) (omega arith)) in
        let e1 : (z - 1) + (53 - z) ≡ 52 = omega arith in
        let e2 : z + (53 - z) ≡ 53 = omega arith in
        let e3 : i + 1074 ≡ (53 - z) + (i + 1074 - (53 - z)) = omega arith in
        record {
          d = suc j * 2 ^ (53 - z);
          a = i + 1074 - (53 - z);
          low = le_trans (le_of_eq (ap (λ (x : ℕ). 2 ^ x) (sym e1) ∙ pow-add 2 (z - 1) (53 - z))) (mul-le-mul_right (2 ^ (53 - z)) (size_reaches (suc j) (z - 1) (omega arith)));
          high = lt_of_lt_of_le (mul-lt-mul_of_pos_right (size-lt (suc j)) (pow_pos (53 - z))) (le_of_eq (sym (pow-add 2 z (53 - z)) ∙ ap (λ (x : ℕ). 2 ^ x) e2));
          far = omega arith;
          is = ap (λ (x : ℕ). x * 2 ^ 1074) e ∙ mul_assoc (suc j) (2 ^ i) (2 ^ 1074) ∙ ap (λ (x : ℕ). suc j * x) (sym (pow-add 2 i 1074) ∙ ap (λ (x : ℕ). 2 ^ x) e3 ∙ pow-add 2 (53 - z) (i + 1074 - (53 - z))) ∙ sym (mul_assoc (suc j) (2 ^ (53 - z)) (2 ^ (i + 1074 - (53 - z))));
        }

units_odd : (d q k : ℕ) → units_of (odd d false q k 1074) ≡ q * 2 ^ k
unfolding odd units_of
units_odd d zero k = refl ∙ sym (zero-mul (2 ^ k))
units_odd d (suc q) k =
    let e = minus (k + count_trailing_zeros d (suc q)) 1074 in
    ap (λ (x : ℕ). x / down e) (odd_val d false (suc q) k 1074) ∙ mul-div_cancel (suc q * 2 ^ k) (down_pos e)

pub sized : (d p : ℕ) → p < 2 → 2 ^ 52 ≤ d → d < 2 ^ 53 → (2 ^ 52 ≤ d * 2 ^ p) × (d * 2 ^ p < 2 ^ 54)
sized d zero h lo hi = (omega arith, omega arith)
sized d (suc zero) h lo hi = (omega arith, omega arith)
sized d (suc (suc p)) h lo hi = absurd (none p h)
  where
    none : (p : ℕ) → suc (suc p) < 2 → ⊥
    none p h = omega arith

-- ---- what `root_units` of a value's n is: q * 2 ^ k units, with q nearest to the root of m, and n = m * 4 ^ k
pub record Rooted (n : ℕ) : Type 0 where
  pub m : ℕ
  pub q : ℕ
  pub k : ℕ
  pub is : root_units n ≡ odd 54 false q k 1074
  pub split : n ≡ m * (2 ^ k * 2 ^ k)
  pub near : Near m q
  pub low : 2 ^ 104 ≤ m
  pub high : m < 2 ^ 106

-- q has 53 digits, or is 2 ^ 53
pub at_least : (m q : ℕ) → Near m q → 2 ^ 104 ≤ m → 2 ^ 52 ≤ q
at_least m q near h =
    let l : 2 ^ 53 < 2 * q + 1 = less_root (2 ^ 53) (2 * q + 1) (lt_of_le_of_lt (omega arith) near.high) in
    omega arith

pub at_most : (m q : ℕ) → Near m q → m < 2 ^ 106 → q ≤ 2 ^ 53
at_most m q near h =
    let l : 2 * q - 1 < 2 ^ 54 = less_root (2 * q - 1) (2 ^ 54) (lt_of_lt_of_le near.low (omega arith)) in
    omega arith

-- the root of n squares of the unit, against any value of the format
pub units_nearest : (n y : ℕ) → Rooted n → Grid y → Nearer n (units_of (root_units n)) y
units_nearest n y z g =
    subst (λ (x : ℕ). Nearer n x y) (sym (ap units_of z.is ∙ units_odd 54 z.q z.k))
    (subst (λ (x : ℕ). Nearer x (z.q * 2 ^ z.k) y) (sym z.split) (nearest_of z.m z.q z.k y z.near (at_least z.m z.q z.near z.low) z.low g))
