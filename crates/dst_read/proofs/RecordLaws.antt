-- Each move from -121 to 121 either way has one record of each mark: that record is read as it, and no other that is taken is. Assumes nothing.
use Rattle.std.specs.Prelude.{ℕ, zero, suc, ◌+◌, ◌-◌, ◌*◌, ◌/◌, ◌%◌, ◌≤◌, ◌<◌, ◌≡◌, refl, Bool, true, false, cond, not, ◌||◌, [], ◌∷◌, eqb, ltb, ℤ, nat_abs, ◌-ℤ◌}
use Rattle.std.proofs.Math.Nat.{div-one, div-div-eq-div-mul}
use Rattle.std.proofs.Common.{div-add-mod', ap, ◌∙◌, inl, inr, ne_eqb, eqb-true}
use native.Mathlib.Omega.{arith}
use Rattle.std.proofs.Math.IntN.{pos}
use Rattle.std.proofs.lemmas.Bool.{eqb-false, not-false}
use Rattle.seqs.specs.Ints.{one_side, sub_parts_is, abs_parts}
use Rattle.seqs.specs.Tests.{clash, and_both, refute}
use Rattle.dst.specs.declared.records.Kind.{Kind}
use Rattle.dst.specs.declared.records.Kind.TheVariants.{Stitch, Jump}
use Rattle.dst.specs.Said.{bit_at, added_x, taken_x, added_y, taken_y, said_x, said_y}
use Rattle.dst.specs.Records.{lift, plus, minus, lower, third, bytes_of, record_of}
use Rattle.dst.specs.RecordLaws.{Bits, bits_of, digit, digits_say, lower_bits, lift_is, lift_most, told}
use Rattle.dst_read.specs.Names.{STITCH, JUMP, STOP}
use Rattle.dst_read.specs.Record.{both_at, clashes, bad_third, bad, is_end, mark_of}
use Rattle.dst_read.specs.Told.{mark_bits, marked_third, marked_record, mark_for}

-- the end record has both signs of y's 81
pub end_is_bad : (a b c : ℕ) → is_end a b c ≡ true → bad a b c ≡ true
unfolding is_end bad clashes bad_third
end_is_bad a b c e =
    let p = and_both (eqb a 0) _ e in
    let q = and_both (eqb b 0) (eqb c 243) p.1 in
    rw (eqb-true a 0 p.0, eqb-true b 0 q.0, eqb-true c 243 q.1)

pub good_goes_on : (a b c : ℕ) → bad a b c ≡ false → is_end a b c ≡ false
good_goes_on a b c g = refute (is_end a b c) (λ e. clash (end_is_bad a b c e) g)

-- ---- the record of a move is read as that move

one_sign : (p m : ℕ) → p + m ≤ 1 → eqb (p + m) 2 ≡ false
one_sign p m h = ne_eqb (p + m) 2 (λ e. let z : ⊥ = omega arith in z)

lower_clear : (lo hi x y : ℕ) → clashes (lower lo hi x y) ≡ false
unfolding clashes
lower_clear lo hi x y =
    let n = lower_bits lo hi x y in
    let a = (digit lo x).one in
    let b = (digit hi x).one in
    let c = (digit hi y).one in
    let d = (digit lo y).one in
    rw (div-one (lower lo hi x y), n.is0, n.is1, n.is2, n.is3, n.is4, n.is5, n.is6, n.is7, one_sign (plus lo x) (minus lo x) a, one_sign (plus hi x) (minus hi x) b, one_sign (minus hi y) (plus hi y) (omega arith), one_sign (minus lo y) (plus lo y) (omega arith))

-- bits 6 and 7 by the mark
abbrev stop_bit : ℕ → ℕ
stop_bit m = m / 2

abbrev jump_bit : ℕ → ℕ
jump_bit m = (m + 1) / 2

mark_bits_lem : (m : ℕ) → m ≤ 2 → (mark_bits m ≡ 64 * stop_bit m + 128 * jump_bit m) × (cond (eqb (jump_bit m) 0) STITCH (cond (eqb (stop_bit m) 0) JUMP STOP) ≡ m) × (ltb (jump_bit m) (stop_bit m) ≡ false)
mark_bits_lem zero h = (refl, refl, refl)
mark_bits_lem (suc zero) h = (refl, refl, refl)
mark_bits_lem (suc (suc zero)) h = (refl, refl, refl)
mark_bits_lem (suc (suc (suc m))) h = absurd (omega arith)

third_bits : (m : ℕ) (dx dy : ℤ) → m ≤ 2 → let x = lift dx in let y = lift dy in Bits (marked_third m dx dy) 1 1 (plus 81 x) (minus 81 x) (minus 81 y) (plus 81 y) (stop_bit m) (jump_bit m)
unfolding third
third_bits m dx dy h =
    let x = lift dx in
    let y = lift dy in
    let a = (digit 81 x).one in
    let b = (digit 81 y).one in
    let e : marked_third m dx dy ≡ 1 + 2 * 1 + 4 * plus 81 x + 8 * minus 81 x + 16 * minus 81 y + 32 * plus 81 y + 64 * stop_bit m + 128 * jump_bit m = omega (arith, (mark_bits_lem m h).0) in
    rw e (bits_of 1 1 (plus 81 x) (minus 81 x) (minus 81 y) (plus 81 y) (stop_bit m) (jump_bit m) (omega arith) (omega arith) (omega arith) (omega arith) (omega arith) (omega arith) (omega arith) (omega arith))

-- what a record says
pub record Says (m : ℕ) (dx dy : ℤ) (a b c : ℕ) : Type 0 where
  pub good : bad a b c ≡ false
  pub mark : mark_of c ≡ m
  pub x : said_x a b c ≡ dx
  pub y : said_y a b c ≡ dy

module _ (m : ℕ) (dx dy : ℤ) (hm : m ≤ 2) (hx : nat_abs dx ≤ 121) (hy : nat_abs dy ≤ 121) where
  third_good : bad_third (marked_third m dx dy) ≡ false
  unfolding bad_third
  third_good =
      let n = third_bits m dx dy hm in
      let a = (digit 81 (lift dx)).one in
      let b = (digit 81 (lift dy)).one in
      rw (div-one (marked_third m dx dy), n.is0, n.is1, n.is2, n.is3, n.is4, n.is5, n.is6, n.is7, one_sign (plus 81 (lift dx)) (minus 81 (lift dx)) a, one_sign (minus 81 (lift dy)) (plus 81 (lift dy)) (omega arith)) (mark_bits_lem m hm).2

  third_mark : mark_of (marked_third m dx dy) ≡ m
  unfolding mark_of
  third_mark = let n = third_bits m dx dy hm in rw (n.is6, n.is7) (mark_bits_lem m hm).1

  pub record_says : Says m dx dy (lower 1 9 (lift dx) (lift dy)) (lower 3 27 (lift dx) (lift dy)) (marked_third m dx dy)
  unfolding bad said_x said_y
  record_says =
      let x = lift dx in
      let y = lift dy in
      let a = lower_bits 1 9 x y in
      let b = lower_bits 3 27 x y in
      let c = third_bits m dx dy hm in
      record {
        good = rw (lower_clear 1 9 x y, lower_clear 3 27 x y) third_good;
        mark = third_mark;
        x = rw (div-one (lower 1 9 x y), div-one (lower 3 27 x y), a.is0, a.is1, a.is2, a.is3, b.is0, b.is1, b.is2, b.is3, c.is2, c.is3) (told dx _ _ hx (digits_say x (lift_most dx hx)));
        y = rw (a.is4, a.is5, a.is6, a.is7, b.is4, b.is5, b.is6, b.is7, c.is4, c.is5) (told dy _ _ hy (digits_say y (lift_most dy hy)));
      }

-- [1]'s records are those of its kinds
pub kind_record : (k : Kind) (dx dy : ℤ) → record_of k dx dy ≡ marked_record (mark_for k) dx dy
unfolding record_of bytes_of marked_record third
kind_record Stitch dx dy = let e : third Stitch (lift dx) (lift dy) ≡ marked_third STITCH dx dy = omega arith in ap (λ (c : ℕ). lower 1 9 (lift dx) (lift dy) ∷ lower 3 27 (lift dx) (lift dy) ∷ c ∷ []) e
kind_record Jump dx dy = let e : third Jump (lift dx) (lift dy) ≡ marked_third JUMP dx dy = omega arith in ap (λ (c : ℕ). lower 1 9 (lift dx) (lift dy) ∷ lower 3 27 (lift dx) (lift dy) ∷ c ∷ []) e

-- ---- a record that is taken is the record of what it says

or_neither : (a b : Bool) → (a || b) ≡ false → (a ≡ false) × (b ≡ false)
or_neither true b e = clash refl e
or_neither false b e = (refl, e)

-- a byte by its bits
byte_sum : (n a b c d e f g r s t u v w x : ℕ) → a * 2 + r ≡ n → b * 2 + s ≡ a → c * 2 + t ≡ b → d * 2 + u ≡ c → e * 2 + v ≡ d → f * 2 + w ≡ e → g * 2 + x ≡ f → n ≡ r + 2 * s + 4 * t + 8 * u + 16 * v + 32 * w + 64 * x + 128 * g
byte_sum n a b c d e f g r s t u v w x h i j k l m o = omega arith

byte_is : (n : ℕ) → n < 256 → n ≡ bit_at 0 n + 2 * bit_at 1 n + 4 * bit_at 2 n + 8 * bit_at 3 n + 16 * bit_at 4 n + 32 * bit_at 5 n + 64 * bit_at 6 n + 128 * bit_at 7 n
byte_is n h =
    let top : n / 128 % 2 ≡ n / 128 = omega arith in
    let next : (k : ℕ) → n / (k * 2) * 2 + n / k % 2 ≡ n / k = λ k. rw (div-div-eq-div-mul n k 2) at (div-add-mod' (n / k) 2) in
    rw (div-one n, top) (byte_sum n (n / 2) (n / 4) (n / 8) (n / 16) (n / 32) (n / 64) (n / 128) (n % 2) (n / 2 % 2) (n / 4 % 2) (n / 8 % 2) (n / 16 % 2) (n / 32 % 2) (n / 64 % 2) (div-add-mod' n 2) (next 2) (next 4) (next 8) (next 16) (next 32) (next 64))

-- a lifted move's digits in base 3, by the bits that it is made of
thirded : (n m b : ℕ) → b ≤ 2 → n ≡ b + 3 * m → (n % 3 ≡ b) × (n / 3 ≡ m)
thirded n m b h e = (omega arith, omega arith)

thirds : (t d e f g h : ℕ) → d ≤ 2 → e ≤ 2 → f ≤ 2 → g ≤ 2 → h ≤ 2 → t ≡ d + 3 * e + 9 * f + 27 * g + 81 * h → (t / 1 % 3 ≡ d) × (t / 3 % 3 ≡ e) × (t / 9 % 3 ≡ f) × (t / 27 % 3 ≡ g) × (t / 81 % 3 ≡ h)
thirds t d e f g h ld le lf lg lh is =
    let s0 = thirded t (e + 3 * f + 9 * g + 27 * h) d ld (is ∙ omega arith) in
    let s1 = thirded (t / 3) (f + 3 * g + 9 * h) e le (s0.1 ∙ omega arith) in
    let s2 = thirded (t / 3 / 3) (g + 3 * h) f lf (s1.1 ∙ omega arith) in
    let s3 = thirded (t / 3 / 3 / 3) h g lg (s2.1 ∙ omega arith) in
    let e9 = div-div-eq-div-mul t 3 3 in
    let e27 = div-div-eq-div-mul t 9 3 in
    let e81 = div-div-eq-div-mul t 27 3 in
    (rw (div-one t) s0.0, s1.0, rw e9 at s2.0, rw (e9, e27) at s3.0, (rw (e9, e27, e81) at (ap (λ k. k % 3) s3.1)) ∙ omega arith)

-- a digit is one, one more where the weight is added, one less where it is taken off
below_three : (d p m : ℕ) → d + m ≡ p + 1 → p + m ≤ 1 → d ≤ 2
below_three d p m e h = omega arith

digit_back : (w t d p m : ℕ) → t / w % 3 ≡ d → d + m ≡ p + 1 → p + m ≤ 1 → (plus w t ≡ p) × (minus w t ≡ m)
digit_back w t d p m i e h = let g = digit w t in (omega (arith, i, e, g.is, g.one), omega (arith, i, e, g.is, g.one))

digit_for : (p m : ℕ) → p + m ≤ 1 → 1 + p - m + m ≡ p + 1
digit_for p m h = omega arith

sum_back : (t d e f g h p q r s u v w x y z : ℕ) → d + v ≡ p + 1 → e + w ≡ q + 1 → f + x ≡ r + 1 → g + y ≡ s + 1 → h + z ≡ u + 1 → t + (v + 3 * w + 9 * x + 27 * y + 81 * z) ≡ 121 + (p + 3 * q + 9 * r + 27 * s + 81 * u) → t ≡ d + 3 * e + 9 * f + 27 * g + 81 * h
sum_back t d e f g h p q r s u v w x y z a b c i j k = omega arith

-- the bits that a lifted move has
record Weights (t p q r s u v w x y z : ℕ) : Type 0 where
  pub one : (plus 1 t ≡ p) × (minus 1 t ≡ v)
  pub three : (plus 3 t ≡ q) × (minus 3 t ≡ w)
  pub nine : (plus 9 t ≡ r) × (minus 9 t ≡ x)
  pub more : (plus 27 t ≡ s) × (minus 27 t ≡ y)
  pub most : (plus 81 t ≡ u) × (minus 81 t ≡ z)

weights : (t p q r s u v w x y z : ℕ) → p + v ≤ 1 → q + w ≤ 1 → r + x ≤ 1 → s + y ≤ 1 → u + z ≤ 1 → t + (v + 3 * w + 9 * x + 27 * y + 81 * z) ≡ 121 + (p + 3 * q + 9 * r + 27 * s + 81 * u) → Weights t p q r s u v w x y z
weights t p q r s u v w x y z hp hq hr hs hu k =
    let a = digit_for p v hp in
    let b = digit_for q w hq in
    let c = digit_for r x hr in
    let i = digit_for s y hs in
    let j = digit_for u z hu in
    let n = thirds t (1 + p - v) (1 + q - w) (1 + r - x) (1 + s - y) (1 + u - z) (below_three _ p v a hp) (below_three _ q w b hq) (below_three _ r x c hr) (below_three _ s y i hs) (below_three _ u z j hu) (sum_back t (1 + p - v) (1 + q - w) (1 + r - x) (1 + s - y) (1 + u - z) p q r s u v w x y z a b c i j k) in
    record { one = digit_back 1 t _ p v n.0 a hp; three = digit_back 3 t _ q w n.1 b hq; nine = digit_back 9 t _ r x n.2 c hr; more = digit_back 27 t _ s y n.3 i hs; most = digit_back 81 t _ u z n.4 j hu }

lift_back : (p m : ℕ) → p ≤ 121 → m ≤ 121 → lift (pos p -ℤ pos m) + m ≡ 121 + p
lift_back p m hp hm = let z = pos p -ℤ pos m in elim (one_side z) [
  | inl e ↦ omega (arith, e, lift_is z, sub_parts_is (pos p) (pos m))
  | inr e ↦ omega (arith, e, lift_is z, sub_parts_is (pos p) (pos m))
]

small_back : (p m : ℕ) → p ≤ 121 → m ≤ 121 → nat_abs (pos p -ℤ pos m) ≤ 121
small_back p m hp hm = let z = pos p -ℤ pos m in elim (one_side z) [
  | inl e ↦ omega (arith, e, abs_parts z, sub_parts_is (pos p) (pos m))
  | inr e ↦ omega (arith, e, abs_parts z, sub_parts_is (pos p) (pos m))
]

-- two bits that are not both set
apart : (p m : ℕ) → p ≤ 1 → m ≤ 1 → eqb (p + m) 2 ≡ false → p + m ≤ 1
apart p m hp hm e = let n = eqb-false (p + m) 2 e in omega arith

bits_apart : (k n : ℕ) → both_at k n ≡ false → bit_at k n + bit_at (suc k) n ≤ 1
bits_apart k n e = apart (bit_at k n) (bit_at (suc k) n) (omega arith) (omega arith) e

-- the signs of a first or second byte
pub record Apart (n : ℕ) : Type 0 where
  pub first : bit_at 0 n + bit_at 1 n ≤ 1
  pub second : bit_at 2 n + bit_at 3 n ≤ 1
  pub third : bit_at 4 n + bit_at 5 n ≤ 1
  pub fourth : bit_at 6 n + bit_at 7 n ≤ 1

clear_apart : (n : ℕ) → clashes n ≡ false → Apart n
unfolding clashes
clear_apart n e =
    let p = or_neither (both_at 0 n) _ e in
    let q = or_neither (both_at 2 n) _ p.1 in
    let r = or_neither (both_at 4 n) _ q.1 in
    record { first = bits_apart 0 n p.0; second = bits_apart 2 n q.0; third = bits_apart 4 n r.0; fourth = bits_apart 6 n r.1 }

mark_back : (s j : ℕ) → s ≤ 1 → j ≤ 1 → ltb j s ≡ false → mark_bits (cond (eqb j 0) STITCH (cond (eqb s 0) JUMP STOP)) ≡ 64 * s + 128 * j
mark_back zero zero hs hj e = refl
mark_back zero (suc zero) hs hj e = refl
mark_back (suc zero) (suc zero) hs hj e = refl
mark_back (suc zero) zero hs hj e = clash refl e
mark_back (suc (suc s)) j hs hj e = absurd (omega arith)
mark_back zero (suc (suc j)) hs hj e = absurd (omega arith)
mark_back (suc zero) (suc (suc j)) hs hj e = absurd (omega arith)

mark_few : (s j : ℕ) → cond (eqb j 0) STITCH (cond (eqb s 0) JUMP STOP) ≤ 2
mark_few s j = go (eqb j 0) (eqb s 0)
  where
    go : (a b : Bool) → cond a STITCH (cond b JUMP STOP) ≤ 2
    go true b = omega arith
    go false true = omega arith
    go false false = omega arith

-- of the third byte: the signs of 81, the fixed bits, and the mark
record Third (c : ℕ) : Type 0 where
  pub x : bit_at 2 c + bit_at 3 c ≤ 1
  pub y : bit_at 4 c + bit_at 5 c ≤ 1
  pub fixed : (bit_at 0 c ≡ 1) × (bit_at 1 c ≡ 1)
  pub bits : mark_bits (mark_of c) ≡ 64 * bit_at 6 c + 128 * bit_at 7 c

both_set : (p q : ℕ) → p ≤ 1 → q ≤ 1 → p + q ≡ 2 → (p ≡ 1) × (q ≡ 1)
both_set p q hp hq e = (omega arith, omega arith)

third_says : (c : ℕ) → bad_third c ≡ false → Third c
unfolding bad_third mark_of
third_says c e =
    let p = or_neither (both_at 2 c) _ e in
    let q = or_neither (both_at 4 c) _ p.1 in
    let r = or_neither (not (both_at 0 c)) _ q.1 in
    record { x = bits_apart 2 c p.0; y = bits_apart 4 c q.0; fixed = both_set (bit_at 0 c) (bit_at 1 c) (omega arith) (omega arith) (eqb-true _ 2 (not-false (both_at 0 c) r.0)); bits = mark_back (bit_at 6 c) (bit_at 7 c) (omega arith) (omega arith) r.1 }

third_sum : (n a b c d e f g h : ℕ) → n ≡ a + 2 * b + 4 * c + 8 * d + 16 * e + 32 * f + 64 * g + 128 * h → a ≡ 1 → b ≡ 1 → 3 + 4 * c + 8 * d + (16 * e + 32 * f) + 0 + (64 * g + 128 * h) ≡ n
third_sum n a b c d e f g h is i j = omega arith

module _ (a b c : ℕ) (g : bad a b c ≡ false) where
  halves : (clashes a ≡ false) × (clashes b ≡ false) × (bad_third c ≡ false)
  unfolding bad
  halves = let p = or_neither (clashes a) _ g in let q = or_neither (clashes b) _ p.1 in (p.0, q.0, q.1)

  said_small : (added_x a b c ≤ 121) × (taken_x a b c ≤ 121) × (added_y a b c ≤ 121) × (taken_y a b c ≤ 121)
  said_small = (omega arith, omega arith, omega arith, omega arith)

  -- a move from -121 to 121 either way, and one of the three marks
  pub says_small : (nat_abs (said_x a b c) ≤ 121) × (nat_abs (said_y a b c) ≤ 121) × (mark_of c ≤ 2)
  unfolding said_x said_y mark_of
  says_small = let s = said_small in (small_back (added_x a b c) (taken_x a b c) s.0 s.1, small_back (added_y a b c) (taken_y a b c) s.2 s.3, mark_few (bit_at 6 c) (bit_at 7 c))

  weights_x : Weights (lift (said_x a b c)) (bit_at 0 a) (bit_at 0 b) (bit_at 2 a) (bit_at 2 b) (bit_at 2 c) (bit_at 1 a) (bit_at 1 b) (bit_at 3 a) (bit_at 3 b) (bit_at 3 c)
  unfolding said_x
  weights_x =
      let h = halves in
      let s = said_small in
      let i = clear_apart a h.0 in
      let j = clear_apart b h.1 in
      weights (lift (pos (added_x a b c) -ℤ pos (taken_x a b c))) _ _ _ _ _ _ _ _ _ _ i.first j.first i.second j.second (third_says c h.2).x (lift_back (added_x a b c) (taken_x a b c) s.0 s.1)

  weights_y : Weights (lift (said_y a b c)) (bit_at 7 a) (bit_at 7 b) (bit_at 5 a) (bit_at 5 b) (bit_at 5 c) (bit_at 6 a) (bit_at 6 b) (bit_at 4 a) (bit_at 4 b) (bit_at 4 c)
  unfolding said_y
  weights_y =
      let h = halves in
      let s = said_small in
      let i = clear_apart a h.0 in
      let j = clear_apart b h.1 in
      let t = third_says c h.2 in
      weights (lift (pos (added_y a b c) -ℤ pos (taken_y a b c))) _ _ _ _ _ _ _ _ _ _ (turned (bit_at 6 a) (bit_at 7 a) i.fourth) (turned (bit_at 6 b) (bit_at 7 b) j.fourth) (turned (bit_at 4 a) (bit_at 5 a) i.third) (turned (bit_at 4 b) (bit_at 5 b) j.third) (turned (bit_at 4 c) (bit_at 5 c) t.y) (lift_back (added_y a b c) (taken_y a b c) s.2 s.3)
    where
      turned : (p m : ℕ) → p + m ≤ 1 → m + p ≤ 1
      turned p m h = omega arith

  first_is : a < 256 → lower 1 9 (lift (said_x a b c)) (lift (said_y a b c)) ≡ a
  unfolding lower
  first_is h = let x = weights_x in let y = weights_y in rw (x.one.0, x.one.1, x.nine.0, x.nine.1, y.nine.1, y.nine.0, y.one.1, y.one.0) (omega (arith, byte_is a h))

  second_is : b < 256 → lower 3 27 (lift (said_x a b c)) (lift (said_y a b c)) ≡ b
  unfolding lower
  second_is h = let x = weights_x in let y = weights_y in rw (x.three.0, x.three.1, x.more.0, x.more.1, y.more.1, y.more.0, y.three.1, y.three.0) (omega (arith, byte_is b h))

  third_is : c < 256 → marked_third (mark_of c) (said_x a b c) (said_y a b c) ≡ c
  unfolding third
  third_is h = let x = weights_x in let y = weights_y in let t = third_says c halves.2 in rw (x.most.0, x.most.1, y.most.1, y.most.0, t.bits) (third_sum c _ _ _ _ _ _ _ _ (byte_is c h) t.fixed.0 t.fixed.1)

  pub only_record : a < 256 → b < 256 → c < 256 → marked_record (mark_of c) (said_x a b c) (said_y a b c) ≡ a ∷ b ∷ c ∷ []
  unfolding marked_record
  only_record ha hb hc = rw (first_is ha, second_is hb, third_is hc)
