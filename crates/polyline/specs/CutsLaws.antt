-- What is proved of a piece's stitches by its squared length. Assumes nothing.
use Rattle.std.specs.Prelude.{ℕ, ◌+◌, ◌%◌, ◌^◌, ◌≤◌, ◌<◌, ◌≡◌, refl, Bool, true, not, pos, Float}
use Rattle.std.proofs.Math.Nat.{mul-mod_left}
use Rattle.std.proofs.Common.{lt_of_not-le, arith, sym, inl, inr, le→leb, lit≤}
use Rattle.std.proofs.Math.Decide.{dec_le}
use Rattle.std.proofs.Math.Bool.{false}
use Rattle.std.proofs.Math.Dec.{T}
use Rattle.std.specs.Float.Ieee.Back.{unsigned_back, round_whole}
use Rattle.std.specs.Float.Ieee.{binary64, fits, round, mul, lt, le, is_nan, of_int, to_unsigned, in_float}
use Rattle.numbers.specs.Num.{◌⊗◌, ◌⊘◌, literal, zero64, real}
use Rattle.numbers.specs.Order.{finite, larger}
use Rattle.numbers.specs.Root.{root}
use Rattle.numbers.specs.Whole.{ceil}
use Rattle.numbers.specs.Value.{units_of, Within}
use Rattle.numbers.specs.Floors.{value_units}
use Rattle.numbers.specs.Laws as laws
use Rattle.numbers.proofs.Laws as laws_proved
use Rattle.geom.specs.Point.{one}
use Rattle.geom.specs.Steps.{steps}
use Rattle.polyline.specs.Line.{shortest}
use Rattle.polyline.specs.Cuts.{square_steps, between, Told}

shortest_above : (x : Float) → T (le shortest x) → T (lt zero64 x)
unfolding shortest literal round lt
shortest_above x h = laws.lt_le_trans zero64 shortest x tt h

shortest_fine : T (finite shortest)
unfolding shortest literal round finite
shortest_fine = tt

real_zero : real (pos 0) ≡ zero64
unfolding of_int round
real_zero = refl

real_one : real (pos 1) ≡ one
unfolding of_int round
real_one = refl

-- ---- the whole number after n, as a float
module _ (n : ℕ) (small : n < 2 ^ 52) where
  abbrev next : Float
  next = real (pos (n + 1))

  next_back : to_unsigned 64 next ≡ n + 1
  unfolding in_float
  next_back = (unsigned_back binary64 64 (n + 1) (le→leb (n + 1) (2 ^ 53) (omega arith)) (omega arith)).1

  next_fine : T (finite next)
  next_fine = laws.within_finite 53 next (laws.within_real 53 (pos (n + 1)) (lit≤ tt) (omega arith))

  next_whole : units_of next % 2 ^ 1074 ≡ 0
  unfolding of_int
  next_whole = rw (value_units next false (n + 1) (round_whole binary64 false (n + 1) (omega arith))).0 (mul-mod_left (n + 1) (2 ^ 1074))

  -- what is cut to n is at most n + 1
  cut_next : (h : Float) → T (not (is_nan h)) → to_unsigned 64 h ≡ n → T (le h next)
  cut_next h k e = elim (laws.le_or_lt h next k (laws.finite_number next next_fine)) [ inl l ↦ l | inr l ↦ absurd (past (laws.unsigned_mono 64 next h (laws.lt_le next h l))) ]
    where
      past : to_unsigned 64 next ≤ to_unsigned 64 h → ⊥
      past l = omega (arith, e, next_back)

  next_within : Within 53 next
  next_within = laws.within_real 53 (pos (n + 1)) (lit≤ tt) (omega arith)

  -- what is more than n and at most n + 1 is n + 1 steps
  module _ (x len : Float) (more : T (lt (real (pos n)) (x ⊘ len))) (most : T (le (x ⊘ len) next)) where
    abbrev ways : Float
    ways = x ⊘ len

    up : T (le zero64 ways)
    up = laws.le_trans zero64 (real (pos n)) ways (rw real_zero at (laws.real_mono (pos 0) (pos n) (le→leb 0 n (omega arith)))) (laws.lt_le (real (pos n)) ways more)

    fit : T (fits binary64 ways)
    fit = laws.div-fits binary64 x len

    number : T (not (is_nan (ceil ways)))
    number = laws.le_left (ceil ways) next (laws.ceil_le_whole ways next (laws.of_int-fits binary64 (pos (n + 1))) next_fine next_whole most)

    above : n < to_unsigned 64 (ceil ways)
    above = go (dec_le (to_unsigned 64 (ceil ways)) n)
      where
        go : Dec (to_unsigned 64 (ceil ways) ≤ n) → n < to_unsigned 64 (ceil ways)
        go (no f) = lt_of_not-le f
        go (yes l) =
            let k = to_unsigned 64 (ceil ways) in
            let w = laws.ceil_unsigned 53 ways (lit≤ tt) fit up (laws.within_between 53 zero64 ways next up most (laws.within_fin 53 false 0 (pos 0) (lit≤ tt)) next_within) in
            let e = laws.eq_le (ceil ways) (real (pos k)) (laws.eq_sym (real (pos k)) (ceil ways) w.back) in
            let s = laws.le_trans (ceil ways) (real (pos k)) (real (pos n)) e (laws.real_mono (pos k) (pos n) (le→leb k n l)) in
            absurd (laws.le_lt_clash (ceil ways) (real (pos n)) s (laws.lt_le_trans (real (pos n)) ways (ceil ways) more (laws.le_ceil ways fit (laws.le_left ways next most))))

    pub steps_next : steps x len ≡ n + 1
    unfolding steps is_nan
    steps_next =
        let c = ceil ways in
        let top = laws.ceil_le_whole ways next (laws.of_int-fits binary64 (pos (n + 1))) next_fine next_whole most in
        let one-top = rw real_one at (laws.real_mono (pos 1) (pos (n + 1)) (le→leb 1 (n + 1) (omega arith))) in
        omega (arith, above, next_back, laws.unsigned_mono 64 (larger c one) next (laws.larger_has (λ (v : Float). T (le v next)) c one top one-top), laws.unsigned_mono 64 c (larger c one) (laws.le_larger_left c one number tt))

not_less : (x y : Float) → T (le x y) → lt y x ≡ false
not_less x y h = go (lt y x) refl
  where
    go : (b : Bool) → lt y x ≡ b → b ≡ false
    go true e = absurd (laws.le_lt_clash x y h (laws.holds e))
    go false e = refl

-- 1e-17
abbrev pub small : Float
small = literal 1 (10 ^ 17)

square_small : T (lt (shortest ⊗ shortest) small)
unfolding shortest literal round mul lt
square_small = tt

shortest_fits : T (fits binary64 shortest)
unfolding shortest literal round fits
shortest_fits = tt

-- what is over 1e-17 has no root under 1e-9
pub not_shortest : (d : Float) → T (fits binary64 d) → T (lt small d) → lt (root d) shortest ≡ false
not_shortest d f h =
    let r = laws.lt_trans (shortest ⊗ shortest) small d square_small h in
    let z = laws.le_lt_trans zero64 (shortest ⊗ shortest) d (laws.square_up shortest shortest_fine) r in
    not_less shortest (root d) (laws_proved.root_over d shortest f shortest_fits shortest_fine z (shortest_above shortest (laws.le_refl shortest (laws.finite_number shortest shortest_fine))) r)

-- d's root lies between lo and hi, both long enough to be sewn, and len can be divided by
record Between (d lo hi len : Float) : Type 0 where
  long : T (le shortest lo)
  over : T (le lo (root d))
  under : T (le (root d) hi)
  lo_fine : T (finite lo)
  hi_fine : T (finite hi)
  len_fine : T (finite len)
  above : T (lt zero64 len)

module _ (d lo hi len : Float) where
  -- n is what the longest way is cut to, and the shortest takes more
  decided : (n : ℕ) → n < 2 ^ 52 → Between d lo hi len → n ≡ to_unsigned 64 (hi ⊘ len) → T (lt (real (pos n)) (lo ⊘ len)) → n + 1 ≡ square_steps d len
  unfolding square_steps
  decided n s b e l =
      let f = laws.between_finite lo (root d) hi b.lo_fine b.hi_fine b.over b.under in
      let p = laws.div_mono lo (root d) len b.lo_fine f b.len_fine b.above b.over in
      let q = laws.div_mono (root d) hi len f b.hi_fine b.len_fine b.above b.under in
      let k = cut_next n s (hi ⊘ len) (laws.le_right (root d ⊘ len) (hi ⊘ len) q) (sym e) in
      rw (not_less shortest (root d) (laws.le_trans shortest lo (root d) b.long b.over)) (sym (steps_next n s (root d) len (laws.lt_le_trans (real (pos n)) (lo ⊘ len) (root d ⊘ len) l p) (laws.le_trans (root d ⊘ len) (hi ⊘ len) (real (pos (n + 1))) q k)))

  -- a number between, by tests on squares; `most` is any bound
  tried : (most : Float) → T (finite most) → T (fits binary64 d) → T (fits binary64 lo) → T (fits binary64 hi)
      → T (le shortest lo) → T (le lo hi) → T (le hi most) → T (lt zero64 len) → T (le len most) → T (lt (lo ⊗ lo) d) → T (lt d (hi ⊗ hi)) → Between d lo hi len
  unfolding finite
  tried most m fd fl fh a b c p q r s =
      let h = laws.le_trans shortest lo hi a b in
      let f = laws.between_finite shortest lo most shortest_fine m a (laws.le_trans lo hi most b c) in
      let g = laws.between_finite shortest hi most shortest_fine m h c in
      let z = laws.le_lt_trans zero64 (lo ⊗ lo) d (laws.square_up lo f) r in
      record {
        long = a;
        over = laws_proved.root_over d lo fd fl f z (shortest_above lo a) r;
        under = laws_proved.root_under d hi fd fh g z (shortest_above hi h) s;
        lo_fine = f;
        hi_fine = g;
        len_fine = laws.between_finite zero64 len most tt m (laws.lt_le zero64 len p) q;
        above = p;
      }

-- every piece between takes as many
pub alike_steps : (lo hi len most : Float) → T (finite most) → T (fits binary64 lo) → T (fits binary64 hi) → T (le shortest lo) → T (le lo hi) → T (le hi most) → T (lt zero64 len) → T (le len most)
    → (n : ℕ) → n < 2 ^ 52 → n ≡ to_unsigned 64 (hi ⊘ len) → T (lt (real (pos n)) (lo ⊘ len)) → Told len (between lo hi (n + 1))
alike_steps lo hi len most m fl fh a b c p q n s e l = λ d f r t. (omega arith, decided d lo hi len n s (tried d lo hi len most m f fl fh a b c p q (laws.holds r) (laws.holds t)) e l)
