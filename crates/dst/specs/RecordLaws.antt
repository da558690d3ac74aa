-- A record says its move: the weights that are added, and the rest, make it up, so no other move of its kind has that record. Assumes nothing.
use Rattle.std.specs.Prelude.{ℕ, ◌+◌, ◌-◌, ◌*◌, ◌/◌, ◌%◌, ◌≤◌, ◌<◌, ◌≡◌, refl, Bool, true, false, ◌⊎◌, List, eqb, get_or, ℤ, pos, negsuc, nat_abs, ◌-ℤ◌}
use Rattle.std.proofs.Math.Nat.{div-one, div-div-eq-div-mul}
use Rattle.std.proofs.Common.{div-add-mod', arith, sym, ap, ◌∙◌, inl, inr, eqb-true}
use Rattle.seqs.specs.Ints.{above, below, same_int, sub_parts_is, abs_parts}
use Rattle.std.proofs.lemmas.Bool.{eqb-false}
use Rattle.dst.specs.declared.records.Kind.{Kind}
use Rattle.dst.specs.declared.records.Kind.TheVariants.{Stitch, Jump}
use Rattle.dst.specs.Said.{bit_at, said_x, said_y, jumps}
use Rattle.dst.specs.Records.{lift, bit, plus, minus, lower, third, bytes_of, record_of, end_record}

-- ---- a digit by its two bits

plus_by : (d : ℕ) → ((d ≡ 2) × (bit (eqb d 2) ≡ 1)) ⊎ ((d ≡ 2 → ⊥) × (bit (eqb d 2) ≡ 0))
plus_by d = go (eqb d 2) (eqb-true d 2) (eqb-false d 2)
  where
    go : (b : Bool) → (b ≡ true → d ≡ 2) → (b ≡ false → d ≡ 2 → ⊥) → ((d ≡ 2) × (bit b ≡ 1)) ⊎ ((d ≡ 2 → ⊥) × (bit b ≡ 0))
    go true f g = inl (f refl, refl)
    go false f g = inr (g refl, refl)

minus_by : (d : ℕ) → ((d ≡ 0) × (bit (eqb d 0) ≡ 1)) ⊎ ((d ≡ 0 → ⊥) × (bit (eqb d 0) ≡ 0))
minus_by d = go (eqb d 0) (eqb-true d 0) (eqb-false d 0)
  where
    go : (b : Bool) → (b ≡ true → d ≡ 0) → (b ≡ false → d ≡ 0 → ⊥) → ((d ≡ 0) × (bit b ≡ 1)) ⊎ ((d ≡ 0 → ⊥) × (bit b ≡ 0))
    go true f g = inl (f refl, refl)
    go false f g = inr (g refl, refl)

-- the digit is one, and one more or less; both bits are never set
pub record Digit (d p m : ℕ) : Type 0 where
  pub is : d + m ≡ p + 1
  pub one : p + m ≤ 1

digit_of : (d : ℕ) → d < 3 → Digit d (bit (eqb d 2)) (bit (eqb d 0))
digit_of d h = elim (plus_by d) [
  | inl p ↦ elim (minus_by d) [ inl m ↦ absurd (omega (arith, p.0, m.0)) | inr m ↦ record { is = omega (arith, p, m.1); one = omega (arith, p.1, m.1) } ]
  | inr p ↦ elim (minus_by d) [ inl m ↦ record { is = omega (arith, p.1, m); one = omega (arith, p.1, m.1) } | inr m ↦ record { is = middle d h p.0 m.0 p.1 m.1; one = omega (arith, p.1, m.1) } ]
]
  where
    middle : (d : ℕ) {p m : ℕ} → d < 3 → (d ≡ 2 → ⊥) → (d ≡ 0 → ⊥) → p ≡ 0 → m ≡ 0 → d + m ≡ p + 1
    middle d h x y p m = omega arith

pub digit : (w t : ℕ) → Digit (t / w % 3) (plus w t) (minus w t)
unfolding plus minus
digit w t = digit_of (t / w % 3) (omega arith)

-- ---- a move by its digits

joined : (t a b c d r q p o : ℕ) → a * 3 + r ≡ t → b * 3 + q ≡ a → c * 3 + p ≡ b → d * 3 + o ≡ c → t ≡ r + 3 * q + 9 * p + 27 * o + 81 * d
joined t a b c d r q p o e f g h = omega arith

base_three : (t : ℕ) → t ≤ 242 → t ≡ t / 1 % 3 + 3 * (t / 3 % 3) + 9 * (t / 9 % 3) + 27 * (t / 27 % 3) + 81 * (t / 81 % 3)
base_three t h =
    let top : t / 81 % 3 ≡ t / 81 = omega arith in
    rw (div-one t, top) (joined t (t / 3) (t / 9) (t / 27) (t / 81) (t % 3) (t / 3 % 3) (t / 9 % 3) (t / 27 % 3) (div-add-mod' t 3) (rw (div-div-eq-div-mul t 3 3) at (div-add-mod' (t / 3) 3)) (rw (div-div-eq-div-mul t 9 3) at (div-add-mod' (t / 9) 3)) (rw (div-div-eq-div-mul t 27 3) at (div-add-mod' (t / 27) 3)))

said : (t a b c d e p q r s u v w x y z : ℕ) → t ≡ a + 3 * b + 9 * c + 27 * d + 81 * e → a + v ≡ p + 1 → b + w ≡ q + 1 → c + x ≡ r + 1 → d + y ≡ s + 1 → e + z ≡ u + 1
    → t + (v + 3 * w + 9 * x + 27 * y + 81 * z) ≡ 121 + (p + 3 * q + 9 * r + 27 * s + 81 * u)
said t a b c d e p q r s u v w x y z h i j k l m = omega arith

-- the weights added and 121, less those taken off, are the lifted move
pub digits_say : (t : ℕ) → t ≤ 242 → t + (minus 1 t + 3 * minus 3 t + 9 * minus 9 t + 27 * minus 27 t + 81 * minus 81 t) ≡ 121 + (plus 1 t + 3 * plus 3 t + 9 * plus 9 t + 27 * plus 27 t + 81 * plus 81 t)
digits_say t h = said t _ _ _ _ _ _ _ _ _ _ _ _ _ _ _ (base_three t h) (digit 1 t).is (digit 3 t).is (digit 9 t).is (digit 27 t).is (digit 81 t).is

-- ---- a byte by its bits: bit k is the byte over 2 ^ k, its remainder by 2

-- of the eight bits of a first or second byte, and of a third, whose kind is its two highest
pub record Bits (n a b c d e f g h : ℕ) : Type 0 where
  pub is0 : n % 2 ≡ a
  pub is1 : n / 2 % 2 ≡ b
  pub is2 : n / 4 % 2 ≡ c
  pub is3 : n / 8 % 2 ≡ d
  pub is4 : n / 16 % 2 ≡ e
  pub is5 : n / 32 % 2 ≡ f
  pub is6 : n / 64 % 2 ≡ g
  pub is7 : n / 128 % 2 ≡ h

halved : (n m b : ℕ) → b ≤ 1 → n ≡ b + 2 * m → (n % 2 ≡ b) × (n / 2 ≡ m)
halved n m b h e = (omega arith, omega arith)

pub bits_of : (a b c d e f g h : ℕ) → a ≤ 1 → b ≤ 1 → c ≤ 1 → d ≤ 1 → e ≤ 1 → f ≤ 1 → g ≤ 1 → h ≤ 1 → Bits (a + 2 * b + 4 * c + 8 * d + 16 * e + 32 * f + 64 * g + 128 * h) a b c d e f g h
bits_of a b c d e f g h la lb lc ld le lf lg lh =
    let n = a + 2 * b + 4 * c + 8 * d + 16 * e + 32 * f + 64 * g + 128 * h in
    let s0 = halved n (b + 2 * c + 4 * d + 8 * e + 16 * f + 32 * g + 64 * h) a la (omega arith) in
    let s1 = halved (n / 2) (c + 2 * d + 4 * e + 8 * f + 16 * g + 32 * h) b lb (s0.1 ∙ omega arith) in
    let s2 = halved (n / 2 / 2) (d + 2 * e + 4 * f + 8 * g + 16 * h) c lc (s1.1 ∙ omega arith) in
    let s3 = halved (n / 2 / 2 / 2) (e + 2 * f + 4 * g + 8 * h) d ld (s2.1 ∙ omega arith) in
    let s4 = halved (n / 2 / 2 / 2 / 2) (f + 2 * g + 4 * h) e le (s3.1 ∙ omega arith) in
    let s5 = halved (n / 2 / 2 / 2 / 2 / 2) (g + 2 * h) f lf (s4.1 ∙ omega arith) in
    let s6 = halved (n / 2 / 2 / 2 / 2 / 2 / 2) h g lg (s5.1 ∙ omega arith) in
    let d4 = div-div-eq-div-mul n 2 2 in
    let d8 = div-div-eq-div-mul n 4 2 in
    let d16 = div-div-eq-div-mul n 8 2 in
    let d32 = div-div-eq-div-mul n 16 2 in
    let d64 = div-div-eq-div-mul n 32 2 in
    let d128 = div-div-eq-div-mul n 64 2 in
    record {
      is0 = s0.0;
      is1 = s1.0;
      is2 = rw d4 at s2.0;
      is3 = rw (d4, d8) at s3.0;
      is4 = rw (d4, d8, d16) at s4.0;
      is5 = rw (d4, d8, d16, d32) at s5.0;
      is6 = rw (d4, d8, d16, d32, d64) at s6.0;
      is7 = (rw (d4, d8, d16, d32, d64, d128) at (ap (λ k. k % 2) s6.1)) ∙ omega arith;
    }

pub lower_bits : (lo hi x y : ℕ) → Bits (lower lo hi x y) (plus lo x) (minus lo x) (plus hi x) (minus hi x) (minus hi y) (plus hi y) (minus lo y) (plus lo y)
unfolding lower
lower_bits lo hi x y =
    let a = (digit lo x).one in
    let b = (digit hi x).one in
    let c = (digit hi y).one in
    let d = (digit lo y).one in
    let e : lower lo hi x y ≡ plus lo x + 2 * minus lo x + 4 * plus hi x + 8 * minus hi x + 16 * minus hi y + 32 * plus hi y + 64 * minus lo y + 128 * plus lo y = omega arith in
    rw e (bits_of (plus lo x) (minus lo x) (plus hi x) (minus hi x) (minus hi y) (plus hi y) (minus lo y) (plus lo y) (omega arith) (omega arith) (omega arith) (omega arith) (omega arith) (omega arith) (omega arith) (omega arith))

third_bits : (k : Kind) (x y : ℕ) → Bits (third k x y) 1 1 (plus 81 x) (minus 81 x) (minus 81 y) (plus 81 y) 0 (jumps k)
unfolding third
third_bits Stitch x y =
    let a = (digit 81 x).one in
    let b = (digit 81 y).one in
    let e : third Stitch x y ≡ 1 + 2 * 1 + 4 * plus 81 x + 8 * minus 81 x + 16 * minus 81 y + 32 * plus 81 y + 64 * 0 + 128 * 0 = omega arith in
    rw e (bits_of 1 1 (plus 81 x) (minus 81 x) (minus 81 y) (plus 81 y) 0 0 (omega arith) (omega arith) (omega arith) (omega arith) (omega arith) (omega arith) (omega arith) (omega arith))
third_bits Jump x y =
    let a = (digit 81 x).one in
    let b = (digit 81 y).one in
    let e : third Jump x y ≡ 1 + 2 * 1 + 4 * plus 81 x + 8 * minus 81 x + 16 * minus 81 y + 32 * plus 81 y + 64 * 0 + 128 * 1 = omega arith in
    rw e (bits_of 1 1 (plus 81 x) (minus 81 x) (minus 81 y) (plus 81 y) 0 1 (omega arith) (omega arith) (omega arith) (omega arith) (omega arith) (omega arith) (omega arith) (omega arith))

-- ---- a record says its move and its kind

pub lift_is : (z : ℤ) → lift z ≡ 121 + above z - below z
lift_is (pos n) = omega arith
lift_is (negsuc n) = omega arith

pub lift_most : (z : ℤ) → nat_abs z ≤ 121 → lift z ≤ 242
lift_most z h = omega (arith, lift_is z, abs_parts z)

-- a move by what is added to it and taken off it
pub told : (z : ℤ) (p m : ℕ) → nat_abs z ≤ 121 → lift z + m ≡ 121 + p → pos p -ℤ pos m ≡ z
told z p m h e = same_int (pos p -ℤ pos m) z (omega (arith, sub_parts_is (pos p) (pos m), lift_is z, abs_parts z))

module _ (k : Kind) (dx dy : ℤ) (hx : nat_abs dx ≤ 121) (hy : nat_abs dy ≤ 121) where
  pub says_x : said_x (lower 1 9 (lift dx) (lift dy)) (lower 3 27 (lift dx) (lift dy)) (third k (lift dx) (lift dy)) ≡ dx
  unfolding said_x
  says_x =
      let x = lift dx in
      let y = lift dy in
      let a = lower_bits 1 9 x y in
      let b = lower_bits 3 27 x y in
      let c = third_bits k x y in
      rw (div-one (lower 1 9 x y), div-one (lower 3 27 x y), a.is0, a.is1, a.is2, a.is3, b.is0, b.is1, b.is2, b.is3, c.is2, c.is3) (told dx _ _ hx (digits_say x (lift_most dx hx)))

  pub says_y : said_y (lower 1 9 (lift dx) (lift dy)) (lower 3 27 (lift dx) (lift dy)) (third k (lift dx) (lift dy)) ≡ dy
  unfolding said_y
  says_y =
      let x = lift dx in
      let y = lift dy in
      let a = lower_bits 1 9 x y in
      let b = lower_bits 3 27 x y in
      let c = third_bits k x y in
      rw (a.is4, a.is5, a.is6, a.is7, b.is4, b.is5, b.is6, b.is7, c.is4, c.is5) (told dy _ _ hy (digits_say y (lift_most dy hy)))

  -- the two fixed bits, no stop, and the jump
  pub says_kind : let c = third k (lift dx) (lift dy) in (bit_at 0 c ≡ 1) × (bit_at 1 c ≡ 1) × (bit_at 6 c ≡ 0) × (bit_at 7 c ≡ jumps k)
  says_kind = let c = third_bits k (lift dx) (lift dy) in (rw (div-one (third k (lift dx) (lift dy))) c.is0, c.is1, c.is6, c.is7)

jumps_one : (k k' : Kind) → jumps k ≡ jumps k' → k ≡ k'
jumps_one Stitch Stitch e = refl
jumps_one Stitch Jump e = absurd (omega arith)
jumps_one Jump Stitch e = absurd (omega arith)
jumps_one Jump Jump e = refl

-- no two moves, and no two kinds, have one record
pub one_record : (k k' : Kind) (dx dy dx' dy' : ℤ) → nat_abs dx ≤ 121 → nat_abs dy ≤ 121 → nat_abs dx' ≤ 121 → nat_abs dy' ≤ 121 → record_of k dx dy ≡ record_of k' dx' dy' → (k ≡ k') × (dx ≡ dx') × (dy ≡ dy')
unfolding record_of bytes_of
one_record k k' dx dy dx' dy' hx hy hx' hy' e = (
  jumps_one k k' (sym (says_kind k dx dy hx hy).3 ∙ ap (λ (l : List ℕ). bit_at 7 (get_or l 2 0)) e ∙ (says_kind k' dx' dy' hx' hy').3),
  sym (says_x k dx dy hx hy) ∙ ap (λ (l : List ℕ). said_x (get_or l 0 0) (get_or l 1 0) (get_or l 2 0)) e ∙ says_x k' dx' dy' hx' hy',
  sym (says_y k dx dy hx hy) ∙ ap (λ (l : List ℕ). said_y (get_or l 0 0) (get_or l 1 0) (get_or l 2 0)) e ∙ says_y k' dx' dy' hx' hy',
)

-- and none is the end's, which has both signs of y's 81
pub not_end : (k : Kind) (dx dy : ℤ) → record_of k dx dy ≡ end_record → ⊥
unfolding record_of bytes_of
not_end k dx dy e =
    let y = lift dy in
    let c = third_bits k (lift dx) y in
    let t : third k (lift dx) y ≡ 243 = ap (λ (l : List ℕ). get_or l 2 0) e in
    let m : 1 ≡ minus 81 y = rw t at c.is4 in
    let p : 1 ≡ plus 81 y = rw t at c.is5 in
    omega (arith, (digit 81 y).one)
