-- A number's square, rounded, has that number for its root: the rounding moves the square by less than half a place of the number. Assumes nothing.
use Rattle.std.specs.Prelude.{◌≡◌, not, ◌⊎◌, T, Float}
use Rattle.std.proofs.Common.{sym, subst, ◌∙◌, inl, inr, mul-pos, mul-le-mul, mul-le-mul_right, le_of_eq, le_of_lt, lt_of_lt_of_le, lt_of_le_of_lt, not-le_of_lt, eq-or-lt_of_le, div-add-mod', mod-lt, leb→le, eqb→eq, pow_pos, pow_mono}
use Rattle.std.proofs.Math.Path.{ap}
use Prim.Native.Nat.{ℕ, ◌+◌, ◌-◌, ◌*◌, ◌/◌, ◌%◌, ◌^◌, ◌≤◌, ◌<◌, compare, Ordering}
use Rattle.std.proofs.Math.Nat.{le_of_mul-le-mul_right, lt_of_mul-lt-mul_right, le_trans, lt_of_not-le, le_antisymm}
use Rattle.std.proofs.Math.Decide.{dec_le}
use native.Mathlib.Omega.{arith}
use Rattle.std.proofs.Math.Dec.{is_le, compare_is_eq, nleb→lt}
use Rattle.std.proofs.Math.Pow.{pow-add}
use Rattle.std.specs.Float.{nan, inf, fin}
use Rattle.std.specs.Float.Ieee.{size, nearest}
use Rattle.std.specs.Float.Ieee.Digits.{size-lt, size_reaches}
use Rattle.std.specs.Float.Ieee.Nearest.{closest}
use Rattle.std.specs.Float.Ieee.Scale as scale
use Rattle.numbers.specs.Order.{finite}
use Rattle.numbers.specs.Value.{Nearer}
use Rattle.numbers.specs.Units.{Grid, pow_le_back}
use Rattle.numbers.specs.RootNearest.{multiple, scaled}

-- ---- the nearest multiple of p

near : (w r p : ℕ) (o : Ordering) → r < p → (T (is_le o) → r * 2 ≤ p) → (T (not (is_le o)) → p < r * 2) → (T (compare_is_eq o) → r * 2 ≡ p) → (2 * (nearest w o * p) ≤ 2 * (w * p + r) + p) × (2 * (w * p + r) ≤ 2 * (nearest w o * p) + p)
near w r p Ordering.lt b h k e = let l = h tt in (omega arith, omega arith)
near w r p Ordering.eq b h k e =
    let l = e tt in
    let d : w % 2 ≤ 1 = omega arith in
    let m : w % 2 * p ≤ 1 * p = mul-le-mul_right p d in
    (omega arith, omega arith)
near w r p Ordering.gt b h k e = let l = k tt in (omega arith, omega arith)

closest_near : (s p : ℕ) → 0 < p → (2 * (closest s p * p) ≤ 2 * s + p) × (2 * s ≤ 2 * (closest s p * p) + p)
closest_near s p P =
    let n = near (s / p) (s % p) p (compare (s % p * 2) p) (mod-lt s P) (leb→le (s % p * 2) p) (nleb→lt (s % p * 2) p) (eqb→eq (s % p * 2) p) in
    let e = div-add-mod' s p in
    (omega (arith, n.0, e), omega (arith, n.1, e))

-- ---- y is d * q with 53 digits d; n is the multiple of p nearest to its square, and p at most the square's last place
module _ (d q p n : ℕ) (Q : 0 < q) (low : 2 ^ 52 ≤ d) (high : d < 2 ^ 53) (last : 2 ^ 52 * p ≤ d * d * (q * q)) (over : 2 * n ≤ 2 * (d * d * (q * q)) + p) (under : 2 * (d * d * (q * q)) ≤ 2 * n + p) where
  Q2 : 0 < q * q
  Q2 = mul-pos Q Q

  place : p + q * q ≤ 2 * (d * (q * q))
  place =
      let a : 2 ^ 52 * (q * q) ≤ d * (q * q) = mul-le-mul_right (q * q) low in
      let b : (d + 1) * (d * (q * q)) ≤ 2 ^ 53 * (d * (q * q)) = mul-le-mul_right (d * (q * q)) (omega arith) in
      le_of_mul-le-mul_right {k = 2 ^ 52} (omega (arith, a, b, last)) (pow_pos 52)

  not_above : 4 * n < (2 * d + 1) * (2 * d + 1) * (q * q)
  not_above = omega (arith, place, over, Q2)

  not_below : (e : ℕ) → d ≡ e + 1 → (2 * e + 1) * (2 * e + 1) * (q * q) < 4 * n
  not_below e f = let k = ap (λ (x : ℕ). x * (q * q)) f in let m = ap (λ (x : ℕ). x * (d * (q * q))) f in let j = ap (λ (x : ℕ). x * (e * (q * q))) f in omega (arith, place, under, Q2, k, m, j)

-- ---- so no other value of the format is nearer to the root of n
digit : (d : ℕ) → 2 ^ 52 ≤ d → d ≡ d - 1 + 1
digit d h = omega arith

squares : (a b : ℕ) → a ≤ b → a * a ≤ b * b
squares a b h = mul-le-mul h h

pub record Placed (y : ℕ) : Type 0 where
  pub d : ℕ
  pub k : ℕ
  pub low : 2 ^ 52 ≤ d
  pub high : d < 2 ^ 53
  pub is : y ≡ d * 2 ^ k

pub at : (y k c : ℕ) → 2 ^ 52 * 2 ^ k ≤ y → y < 2 ^ 53 * 2 ^ k → y ≡ c * 2 ^ k → Placed y
at y k c low high is = record {
  d = c;
  k = k;
  low = le_of_mul-le-mul_right {k = 2 ^ k} (le_trans low (le_of_eq is)) (pow_pos k);
  high = lt_of_mul-lt-mul_right (2 ^ k) (lt_of_le_of_lt (le_of_eq (sym is)) high);
  is = is;
}

pub placed : (y : ℕ) → Grid y → 2 ^ 53 ≤ y → Placed y
placed y g h =
    let z = size y in
    let big : 53 < z = lt_of_not-le (λ (f : z ≤ 53). not-le_of_lt (lt_of_lt_of_le (size-lt y) (pow_mono f)) h) in
    let e : z - 1 ≡ 52 + (z - 53) = omega arith in
    let f : z ≡ 53 + (z - 53) = omega arith in
    let low : 2 ^ 52 * 2 ^ (z - 53) ≤ y = le_trans (le_of_eq (sym (pow-add 2 52 (z - 53)) ∙ ap (λ (x : ℕ). 2 ^ x) (sym e))) (size_reaches y (z - 1) (omega arith)) in
    let c = multiple (z - 53) y g low in
    at y (z - 53) c.0 low (lt_of_lt_of_le (size-lt y) (le_of_eq (ap (λ (x : ℕ). 2 ^ x) f ∙ pow-add 2 53 (z - 53)))) c.1

-- n is the multiple of 2 ^ b nearest to the square of y
module _ (y n b : ℕ) (v : Placed y) (is : n ≡ closest (y * y) (2 ^ b) * 2 ^ b) (last : 2 ^ 52 * 2 ^ b ≤ y * y) where
  q : ℕ
  q = 2 ^ v.k

  square : y * y ≡ v.d * v.d * (q * q)
  unfolding q
  square = ap (λ (x : ℕ). x * x) v.is ∙ scaled v.d (2 ^ v.k)

  both : (2 * n ≤ 2 * (y * y) + 2 ^ b) × (2 * (y * y) ≤ 2 * n + 2 ^ b)
  both = let c = closest_near (y * y) (2 ^ b) (pow_pos b) in (subst (λ (x : ℕ). 2 * x ≤ 2 * (y * y) + 2 ^ b) (sym is) c.0, subst (λ (x : ℕ). 2 * (y * y) ≤ 2 * x + 2 ^ b) (sym is) c.1)

  top : 4 * n < (2 * v.d + 1) * (2 * v.d + 1) * (q * q)
  unfolding q
  top = not_above v.d (2 ^ v.k) (2 ^ b) n (pow_pos v.k) v.low v.high (subst (λ (x : ℕ). 2 ^ 52 * 2 ^ b ≤ x) square last) (subst (λ (x : ℕ). 2 * n ≤ 2 * x + 2 ^ b) square both.0) (subst (λ (x : ℕ). 2 * x ≤ 2 * n + 2 ^ b) square both.1)

  bottom : (2 * (v.d - 1) + 1) * (2 * (v.d - 1) + 1) * (q * q) < 4 * n
  unfolding q
  bottom =
      not_below v.d (2 ^ v.k) (2 ^ b) n (pow_pos v.k) v.low v.high (subst (λ (x : ℕ). 2 ^ 52 * 2 ^ b ≤ x) square last) (subst (λ (x : ℕ). 2 * n ≤ 2 * x + 2 ^ b) square both.0) (subst (λ (x : ℕ). 2 * x ≤ 2 * n + 2 ^ b) square both.1)
      (v.d - 1) (digit v.d v.low)

  -- the square of a power of two is not rounded
  even : v.d ≡ 2 ^ 52 → n ≡ y * y
  even e =
      let a = 52 + v.k in
      let f : y ≡ 2 ^ a = v.is ∙ ap (λ (x : ℕ). x * 2 ^ v.k) e ∙ sym (pow-add 2 52 v.k) in
      let g : y * y ≡ 2 ^ (a + a) = ap (λ (x : ℕ). x * x) f ∙ sym (pow-add 2 a a) in
      let less : b ≤ a + a = pow_le_back b (a + a) (le_trans (one_of (2 ^ b)) (le_trans last (le_of_eq g))) in
      let h : a + a - b + b ≡ a + a = omega arith in
      let c : y * y ≡ 2 ^ (a + a - b) * 2 ^ b = g ∙ ap (λ (x : ℕ). 2 ^ x) (sym h) ∙ pow-add 2 (a + a - b) b in
      is ∙ whole (closest (y * y) (2 ^ b)) (2 ^ (a + a - b)) (2 ^ b) (pow_pos b) (subst (λ (x : ℕ). 2 * (closest (y * y) (2 ^ b) * 2 ^ b) ≤ 2 * x + 2 ^ b) c (closest_near (y * y) (2 ^ b) (pow_pos b)).0) (subst (λ (x : ℕ). 2 * x ≤ 2 * (closest (y * y) (2 ^ b) * 2 ^ b) + 2 ^ b) c (closest_near (y * y) (2 ^ b) (pow_pos b)).1) ∙ sym c
    where
      one_of : (x : ℕ) → x ≤ 2 ^ 52 * x
      one_of x = omega arith

      -- two multiples of p that lie within half of p
      whole : (m c p : ℕ) → 0 < p → 2 * (m * p) ≤ 2 * (c * p) + p → 2 * (c * p) ≤ 2 * (m * p) + p → m * p ≡ c * p
      whole m c p P s t =
          let a : 2 * m ≤ 2 * c + 1 = le_of_mul-le-mul_right {k = p} (omega arith) P in
          let b : 2 * c ≤ 2 * m + 1 = le_of_mul-le-mul_right {k = p} (omega arith) P in
          ap (λ (x : ℕ). x * p) (omega (arith, a, b))

  pub nothing_nearer : (r : ℕ) → Grid r → Nearer n r y → r ≡ y
  unfolding q
  nothing_nearer r g w = le_antisymm (upper (dec_le r y)) (lower (dec_le y r))
    where
      upper : Dec (r ≤ y) → r ≤ y
      upper (yes l) = l
      upper (no f) =
          let l : y < r = lt_of_not-le f in
          let c = multiple v.k r g (le_trans (mul-le-mul_right (2 ^ v.k) v.low) (le_trans (le_of_eq (sym v.is)) (le_of_lt l))) in
          let m : v.d < c.0 = lt_of_mul-lt-mul_right (2 ^ v.k) (lt_of_le_of_lt (le_of_eq (sym v.is)) (lt_of_lt_of_le l (le_of_eq c.1))) in
          let a : (2 * v.d + 1) * 2 ^ v.k ≤ r + y = le_trans (mul-le-mul_right (2 ^ v.k) (omega arith)) (le_of_eq (sums c.0 v.d (2 ^ v.k) r y c.1 v.is)) in
          absurd (not-le_of_lt (w.under l) (le_trans (le_of_lt top) (le_trans (le_of_eq (sym (scaled (2 * v.d + 1) (2 ^ v.k)))) (squares ((2 * v.d + 1) * 2 ^ v.k) (r + y) a))))
        where
          sums : (c d p r y : ℕ) → r ≡ c * p → y ≡ d * p → (c + d) * p ≡ r + y
          sums c d p r y e f = omega (arith, e, f)

      lower : Dec (y ≤ r) → y ≤ r
      lower (yes l) = l
      lower (no f) = absurd (go (eq-or-lt_of_le v.low) (dec_le (2 ^ 52 * 2 ^ v.k) r))
        where
          l : r < y
          l = lt_of_not-le f

          short : r ≤ (v.d - 1) * 2 ^ v.k → ⊥
          short h =
              let a : r + y ≤ (2 * (v.d - 1) + 1) * 2 ^ v.k = sums v.d (2 ^ v.k) r y (v.d - 1) (digit v.d v.low) h v.is in
              not-le_of_lt (w.over l) (le_trans (squares (r + y) ((2 * (v.d - 1) + 1) * 2 ^ v.k) a) (le_trans (le_of_eq (scaled (2 * (v.d - 1) + 1) (2 ^ v.k))) (le_of_lt bottom)))
            where
              sums : (d p r y e : ℕ) → d ≡ e + 1 → r ≤ e * p → y ≡ d * p → r + y ≤ (2 * e + 1) * p
              sums d p r y e i h f = let j = ap (λ (x : ℕ). x * p) i in omega (arith, j, h, f)

          go : (2 ^ 52 ≡ v.d) ⊎ (2 ^ 52 < v.d) → Dec (2 ^ 52 * 2 ^ v.k ≤ r) → ⊥
          go (inl e) s = exact (r + y) (y + y) (y * y) n (even (sym e)) (omega arith) (omega arith) (w.over l)
            where
              exact : (a b c n : ℕ) → n ≡ c → a ≤ b → b * b ≡ 4 * c → 4 * n < a * a → ⊥
              exact a b c n e h f g = omega (arith, e, f, g, mul-le-mul h h)
          go (inr m) (yes s) =
              let c = multiple v.k r g s in
              let j : c.0 < v.d = lt_of_mul-lt-mul_right (2 ^ v.k) (lt_of_le_of_lt (le_of_eq (sym c.1)) (lt_of_lt_of_le l (le_of_eq v.is))) in
              short (le_trans (le_of_eq c.1) (mul-le-mul_right (2 ^ v.k) (omega arith)))
          go (inr m) (no s) = short (le_trans (le_of_lt (lt_of_not-le s)) (mul-le-mul_right (2 ^ v.k) (omega arith)))

-- ---- of floats
pub long : (a d u l b : ℕ) → 0 < d → a * l ≡ u * d → d ≤ a * b → l ≤ u * b
long a d u l b D e h = le_of_mul-le-mul_right {k = d} (omega (arith, mul-le-mul_right l h, ap (λ (k : ℕ). k * b) e)) D

pub still_finite : (v : Float) → T (finite v) → T (scale.finite v)
unfolding finite
still_finite nan h = h
still_finite (inf s) h = h
still_finite (fin s m e) h = tt
