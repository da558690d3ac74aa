-- The arithmetic of whole numbers behind a step that is cut: no float here. Assumes nothing.
use Rattle.std.specs.Prelude.{ℕ, ◌+◌, ◌-◌, ◌*◌, ◌^◌, ◌≤◌, ◌<◌, ◌≡◌}
use Rattle.std.proofs.Common.{sym, ap, mul-pos, mul-le-mul, mul-le-mul_left, mul-le-mul_right, le_of_mul-le-mul_right, lt_of_not-le, le_trans, le_of_eq, one-mul, mul-add, mul_left_comm, arith, lit≤, lit<}
use Rattle.std.proofs.Math.Decide.{dec_le}

-- ---- the exact distance, from the worked one: each rounding errs by a factor of k / h, and by a unit, of which l are one

-- X² from a², where the rounded X is a
squared : (h k w X a : ℕ) → k * X ≤ h * (a + 1) → 2 * a + 1 ≤ w → k * k * (X * X) ≤ h * h * (a * a + w)
squared h k w X a p q = omega (arith, mul-le-mul p p, mul-le-mul_left (h * h) q)

-- from the square that is rounded to A
square_of : (h k w l X a A : ℕ) → k ≤ h → k * X ≤ h * (a + 1) → 2 * a + 1 ≤ w → k * (a * a) ≤ h * ((A + 1) * l) → k * k * k * (X * X) ≤ h * h * h * ((A + 1) * l + w)
square_of h k w l X a A s p q r =
    let u : k * (a * a + w) ≤ h * ((A + 1) * l + w) = omega (arith, mul-le-mul_right w s) in
    omega (arith, mul-le-mul_left k (squared h k w X a p q), mul-le-mul_left (h * h) u)

-- from the sum of two that is rounded to S
sum_of : (h k w l X Y A B S : ℕ) → k ≤ h → k * k * k * (X * X) ≤ h * h * h * ((A + 1) * l + w) → k * k * k * (Y * Y) ≤ h * h * h * ((B + 1) * l + w) → k * (A + B) ≤ h * (S + 1)
    → k * k * k * k * (X * X + Y * Y) ≤ h * h * h * h * (S * l + 3 * l + 2 * w)
sum_of h k w l X Y A B S s p q r =
    let u : k * ((A + 1) * l + w + ((B + 1) * l + w)) ≤ h * (S * l + 3 * l + 2 * w) = omega (arith, mul-le-mul_right l r, mul-le-mul_right l s, mul-le-mul_right w s) in
    go (k * k * k) (h * h * h) (X * X) (Y * Y) ((A + 1) * l + w) ((B + 1) * l + w) (S * l + 3 * l + 2 * w) p q u
  where
    go : (m n x y a b c : ℕ) → m * x ≤ n * a → m * y ≤ n * b → k * (a + b) ≤ h * c → m * k * (x + y) ≤ n * h * c
    go m n x y a b c p q u = omega (arith, mul-le-mul_left k p, mul-le-mul_left k q, mul-le-mul_left n u)

-- S below a square
root_of : (h k w l z X Y S y M : ℕ) → 0 < k → k * k * k * k * (X * X + Y * Y) ≤ h * h * h * h * (S * l + 3 * l + 2 * w) → S * l ≤ y * y → 3 * l + 2 * w ≤ 2 * z * y → h * h * (y + z) ≤ k * k * M → X * X + Y * Y ≤ M * M
root_of h k w l z X Y S y M K p q r s =
    let u : S * l + 3 * l + 2 * w ≤ (y + z) * (y + z) = omega arith in
    le_of_mul-le-mul_right {k = k * k * k * k} (omega (arith, mul-le-mul_left (h * h * h * h) u, mul-le-mul s s)) (mul-pos (mul-pos (mul-pos K K) K) K)

over_part : (r y W : ℕ) → 2 ^ 60 ≤ W → 2 ^ 28 * r ≤ (2 ^ 28 + 1) * W → (2 ^ 30 - 1) * ((2 ^ 27 + 1) * W) ≤ 2 ^ 30 * ((y + 1) * 2 ^ 27) → r < y
over_part r y W b h g = omega arith

padded : (y W : ℕ) → 2 ^ 60 ≤ W → 2 ^ 26 * y ≤ (2 ^ 26 + 1) * W → 2 ^ 26 * (y + 2 ^ 34) ≤ (2 ^ 26 + 2) * W
padded y W b k = omega arith

under_part : (y W : ℕ) → 2 ^ 60 ≤ W → 2 ^ 30 * (y * 2 ^ 27) ≤ (2 ^ 30 + 1) * ((2 ^ 27 + 1) * W) + 2 ^ 30 * 2 ^ 27 → 2 ^ 26 * (y + 2 ^ 34) ≤ (2 ^ 26 + 2) * W
under_part y W b g = padded y W b (omega arith)

with_part : (W G y : ℕ) → W ≤ 2 ^ 24 * G → 2 ^ 26 * y ≤ (2 ^ 26 + 2) * W → 2 ^ 30 * 2 ^ 30 * y ≤ (2 ^ 30 - 1) * (2 ^ 30 - 1) * (W + G)
with_part W G y h g = let a : 2 ^ 60 * y ≤ (2 ^ 60 + 2 ^ 35) * W = omega arith in le_trans a (last W G h)
  where
    last : (W G : ℕ) → W ≤ 2 ^ 24 * G → (2 ^ 60 + 2 ^ 35) * W ≤ (2 ^ 30 - 1) * (2 ^ 30 - 1) * (W + G)
    last W G h = omega arith

-- the bound's own numbers: the worked distance r, its quotient q by the length L, at most N parts, and a y a little above N-as-L
module _ (l N L r q y e : ℕ) (big : 2 ^ 60 ≤ e) (ell : l ≡ 2 ^ 14 * e) (some : 1 ≤ N) (least : l ≤ L) (most : L ≤ 2 ^ 10 * l) where
  abbrev W : ℕ
  W = N * L

  worked : (2 ^ 30 - 1) * (r * l) ≤ 2 ^ 30 * ((q + 1) * (L + 1)) → q ≤ N * l → 2 ^ 28 * r ≤ (2 ^ 28 + 1) * W
  worked h k =
      let a : (q + 1) * (L + 1) ≤ (N * L + N + 2 ^ 11) * l = omega (arith, mul-le-mul_right (L + 1) k, mul-le-mul_right l some) in
      let b : (2 ^ 30 - 1) * r ≤ 2 ^ 30 * (N * L + N + 2 ^ 11) = le_of_mul-le-mul_right {k = l} (omega arith) (omega arith) in
      let c : N * 2 ^ 60 ≤ N * L = mul-le-mul_left N (omega arith) in
      omega arith

  pub above : (2 ^ 30 - 1) * (r * l) ≤ 2 ^ 30 * ((q + 1) * (L + 1)) → q ≤ N * l → (2 ^ 30 - 1) * ((2 ^ 27 + 1) * W) ≤ 2 ^ 30 * ((y + 1) * 2 ^ 27) → r < y
  above h k g =
      let a = worked h k in
      let b : 2 ^ 60 ≤ L = omega arith in
      over_part r y W (le_trans (le_of_eq (sym (one-mul (2 ^ 60)))) (mul-le-mul some b)) a g

  pub below : 2 ^ 30 * (y * 2 ^ 27) ≤ (2 ^ 30 + 1) * ((2 ^ 27 + 1) * W) + 2 ^ 30 * 2 ^ 27 → 2 ^ 30 * 2 ^ 30 * (y + 2 ^ 34) ≤ (2 ^ 30 - 1) * (2 ^ 30 - 1) * (N * (L + e))
  below g =
      let b : 2 ^ 60 ≤ L = omega arith in
      let d : L ≤ 2 ^ 24 * e = omega arith in
      let f : N * L ≤ 2 ^ 24 * (N * e) = le_trans (mul-le-mul_left N d) (le_of_eq (mul_left_comm N (2 ^ 24) e)) in
      le_trans (with_part (N * L) (N * e) (y + 2 ^ 34) f (under_part y (N * L) (le_trans (le_of_eq (sym (one-mul (2 ^ 60)))) (mul-le-mul some b)) g)) (le_of_eq (ap (λ (z : ℕ). (2 ^ 30 - 1) * (2 ^ 30 - 1) * z) (sym (mul-add N L e))))

-- all of it: A, B the squares' units, S the sum's, y above the root of S; with h, k = 2 ^ 30, 2 ^ 30 - 1
pub distance : (l X Y a b A B S y M : ℕ) → 1 ≤ l → (2 ^ 30 - 1) * X ≤ 2 ^ 30 * (a + 1) → (2 ^ 30 - 1) * Y ≤ 2 ^ 30 * (b + 1) → a ≤ 2 ^ 31 * l → b ≤ 2 ^ 31 * l
    → (2 ^ 30 - 1) * (a * a) ≤ 2 ^ 30 * ((A + 1) * l) → (2 ^ 30 - 1) * (b * b) ≤ 2 ^ 30 * ((B + 1) * l) → (2 ^ 30 - 1) * (A + B) ≤ 2 ^ 30 * (S + 1)
    → S * l ≤ y * y → l ≤ y → 2 ^ 30 * 2 ^ 30 * (y + 2 ^ 34) ≤ (2 ^ 30 - 1) * (2 ^ 30 - 1) * M → X * X + Y * Y ≤ M * M
distance l X Y a b A B S y M i x y' a' b' aa bb s r ly m =
    let h = 2 ^ 30 in
    let k = 2 ^ 30 - 1 in
    let w = 2 ^ 33 * l in
    let k≤h : k ≤ h = lit≤ tt in
    root_of h k w l (2 ^ 34) X Y S y M (lit< tt)
    (sum_of h k w l X Y A B S k≤h (square_of h k w l X a A k≤h x (omega arith) aa) (square_of h k w l Y b B k≤h y' (omega arith) bb) s)
    r (omega arith) m

-- ---- a way cut in n: where step i ends, of p to q, and how far the next is

-- s is p + (q - p)·i / n, but for e
pub record At (ph pl qh ql n i e sh sl : ℕ) : Type 0 where
  pub most : n * sh + n * pl + i * ql + i * ph ≤ n * ph + i * qh + i * pl + n * sl + n * e
  pub least : n * ph + i * qh + i * pl + n * sl ≤ n * sh + n * pl + i * ql + i * ph + n * e

-- the difference D, the fraction t of l, and their product m, each but for an error
module _ (n i l E F Dh Dl t mh ml : ℕ) (L : 0 < l) (small : (Dh + Dl) * F ≤ l * E) (u : t * n ≤ i * l + n * F) (v : i * l ≤ t * n + n * F) where
  pub part_most : mh * l + Dl * t ≤ Dh * t + ml * l + l * E → n * mh + Dl * i ≤ Dh * i + n * ml + 2 * n * E
  part_most m = le_of_mul-le-mul_right {k = l} (omega (arith, mul-le-mul_left Dh u, mul-le-mul_left Dl v, mul-le-mul_left n m, mul-le-mul_left n small)) L

  pub part_least : Dh * t + ml * l ≤ mh * l + Dl * t + l * E → Dh * i + n * ml ≤ n * mh + Dl * i + 2 * n * E
  part_least m = le_of_mul-le-mul_right {k = l} (omega (arith, mul-le-mul_left Dl u, mul-le-mul_left Dh v, mul-le-mul_left n m, mul-le-mul_left n small)) L

-- and their sum s with p
module _ (ph pl qh ql n i E Dh Dl mh ml sh sl : ℕ) (few : i ≤ n) where
  pub sum_most : Dh + (ql + ph) ≤ qh + pl + Dl + E → n * mh + Dl * i ≤ Dh * i + n * ml + 2 * n * E → sh + (pl + ml) ≤ ph + mh + sl + E → n * sh + n * pl + i * ql + i * ph ≤ n * ph + i * qh + i * pl + n * sl + n * (4 * E)
  sum_most d m s = omega (arith, mul-le-mul_left i d, mul-le-mul_left n s, mul-le-mul_right E few)

  pub sum_least : qh + pl + Dl ≤ Dh + (ql + ph) + E → Dh * i + n * ml ≤ n * mh + Dl * i + 2 * n * E → ph + mh + sl ≤ sh + (pl + ml) + E → n * ph + i * qh + i * pl + n * sl ≤ n * sh + n * pl + i * ql + i * ph + n * (4 * E)
  sum_least d m s = omega (arith, mul-le-mul_left i d, mul-le-mul_left n s, mul-le-mul_right E few)

-- from one step's end to the next
module _ (ph pl qh ql n i e X sh sl th tl : ℕ) (a : At ph pl qh ql n i e sh sl) (b : At ph pl qh ql n (i + 1) e th tl) (p : qh + pl ≤ ql + ph + X) (q : ql + ph ≤ qh + pl + X) where
  pub next_at : n * (th + sl) ≤ n * (tl + sh) + X + n * (2 * e)
  next_at = omega (arith, a.least, b.most)

  pub prev_at : n * (tl + sh) ≤ n * (th + sl) + X + n * (2 * e)
  prev_at = omega (arith, a.most, b.least)

-- ---- the distance of two steps' ends
-- with x ≤ X / n + f and y ≤ Y / n + f, where X² + Y² ≤ (n·M)²
side : (X Y Z : ℕ) → X * X + Y * Y ≤ Z * Z → X ≤ Z
side X Y Z h = go (dec_le X Z)
  where
    go : Dec (X ≤ Z) → X ≤ Z
    go (yes l) = l
    go (no g) = let l = lt_of_not-le g in omega (arith, mul-le-mul l l)

pub ends : (n X Y M f x y : ℕ) → 0 < n → X * X + Y * Y ≤ n * M * (n * M) → n * x ≤ X + n * f → n * y ≤ Y + n * f → x * x + y * y ≤ (M + 2 * f) * (M + 2 * f)
ends n X Y M f x y N h a b =
    let i = side X Y (n * M) h in
    let j = side Y X (n * M) (omega arith) in
    le_of_mul-le-mul_right {k = n * n} (omega (arith, mul-le-mul a a, mul-le-mul b b, mul-le-mul_right (n * f) i, mul-le-mul_right (n * f) j)) (mul-pos N N)

-- in thousandths, with a margin of one of them
pub thousandths : (l L a b x y : ℕ) → 1000 * (a + b) ≤ l → x * x + y * y ≤ (L + a + b) * (L + a + b) → 1000 * x * (1000 * x) + 1000 * y * (1000 * y) ≤ (1000 * L + l) * (1000 * L + l)
thousandths l L a b x y h k =
    let m : 1000 * (L + a + b) ≤ 1000 * L + l = omega arith in
    le_trans (omega (arith, mul-le-mul_left 1000000 k)) (mul-le-mul m m)
