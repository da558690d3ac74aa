-- Signed numbers read as two counts, how far above zero and how far below: `omega` reads no ℤ. Assumes nothing.
use Rattle.std.specs.Prelude.{◌≡◌, refl, Bool, true, false, cond, ◌⊎◌, ℕ, zero, suc, ◌+◌, ◌-◌, ◌^◌, ◌<◌, ◌≤◌, T, ltb, ℤ, pos, negsuc, neg_ℤ, nat_abs, ◌+ℤ◌, ◌-ℤ◌}
use Rattle.std.proofs.Common.{ap, inl, inr, arith, ltb-true, ltb-false, leb-true, le-leb, SFits}
use Rattle.std.proofs.Math.IntN.{sub_ℕ}
use Rattle.std.specs.Int.Signed.{le_z, lt_z, non_neg}
use Rattle.std.specs.Int.{w64}
use Rattle.seqs.specs.Tests.{clash, refute}

abbrev pub above : ℤ → ℕ
above (pos n) = n
above (negsuc n) = 0

abbrev pub below : ℤ → ℕ
below (pos n) = 0
below (negsuc n) = suc n

pub one_side : (z : ℤ) → (above z ≡ 0) ⊎ (below z ≡ 0)
one_side (pos n) = inr refl
one_side (negsuc n) = inl refl

pub same_int : (a b : ℤ) → above a + below b ≡ above b + below a → a ≡ b
same_int (pos a) (pos b) h = let e : a ≡ b = omega arith in ap pos e
same_int (pos a) (negsuc b) h = absurd (omega arith)
same_int (negsuc a) (pos b) h = absurd (omega arith)
same_int (negsuc a) (negsuc b) h = let e : a ≡ b = omega arith in ap negsuc e

pub le_says : (a b : ℤ) → le_z a b ≡ true → above a + below b ≤ above b + below a
le_says (pos a) (pos b) h = omega (arith, leb-true a b h)
le_says (pos a) (negsuc b) h = clash h refl
le_says (negsuc a) (pos b) h = omega arith
le_says (negsuc a) (negsuc b) h = omega (arith, leb-true b a h)

pub le_makes : (a b : ℤ) → above a + below b ≤ above b + below a → le_z a b ≡ true
le_makes (pos a) (pos b) h = le-leb a b (omega arith)
le_makes (pos a) (negsuc b) h = absurd (omega arith)
le_makes (negsuc a) (pos b) h = refl
le_makes (negsuc a) (negsuc b) h = le-leb b a (omega arith)

pub lt_says : (a b : ℤ) → lt_z a b ≡ true → above a + below b < above b + below a
lt_says (pos a) (pos b) h = omega (arith, ltb-true a b h)
lt_says (pos a) (negsuc b) h = clash h refl
lt_says (negsuc a) (pos b) h = omega arith
lt_says (negsuc a) (negsuc b) h = omega (arith, ltb-true b a h)

pub lt_denies : (a b : ℤ) → lt_z a b ≡ false → above b + below a ≤ above a + below b
lt_denies (pos a) (pos b) h = omega (arith, ltb-false a b h)
lt_denies (pos a) (negsuc b) h = omega arith
lt_denies (negsuc a) (pos b) h = clash refl h
lt_denies (negsuc a) (negsuc b) h = omega (arith, ltb-false b a h)

-- a test the other way round
pub lt_not_le : (a b : ℤ) → lt_z b a ≡ true → le_z a b ≡ false
lt_not_le a b h = refute (le_z a b) (λ e. let z : ⊥ = omega (arith, le_says a b e, lt_says b a h) in absurd z)

pub not_lt_le : (a b : ℤ) → lt_z b a ≡ false → le_z a b ≡ true
not_lt_le a b h = le_makes a b (lt_denies b a h)

sub_parts : (a b : ℕ) → above (sub_ℕ a b) + b ≡ a + below (sub_ℕ a b)
sub_parts a b = go (ltb a b) refl
  where
    go : (t : Bool) → ltb a b ≡ t → above (cond t (negsuc (b - suc a)) (pos (a - b))) + b ≡ a + below (cond t (negsuc (b - suc a)) (pos (a - b)))
    go true e = omega (arith, ltb-true a b e)
    go false e = omega (arith, ltb-false a b e)

pub add_parts : (a b : ℤ) → above (a +ℤ b) + (below a + below b) ≡ above a + above b + below (a +ℤ b)
add_parts (pos a) (pos b) = omega arith
add_parts (pos a) (negsuc b) = omega (arith, sub_parts a (suc b))
add_parts (negsuc a) (pos b) = omega (arith, sub_parts b (suc a))
add_parts (negsuc a) (negsuc b) = omega arith

pub neg_above : (a : ℤ) → above (neg_ℤ a) ≡ below a
neg_above (pos zero) = refl
neg_above (pos (suc n)) = refl
neg_above (negsuc n) = refl

pub neg_below : (a : ℤ) → below (neg_ℤ a) ≡ above a
neg_below (pos zero) = refl
neg_below (pos (suc n)) = refl
neg_below (negsuc n) = refl

pub sub_parts_is : (a b : ℤ) → above (a -ℤ b) + (below a + above b) ≡ above a + below b + below (a -ℤ b)
sub_parts_is a b = omega (arith, add_parts a (neg_ℤ b), neg_above b, neg_below b)

pub abs_parts : (z : ℤ) → nat_abs z ≡ above z + below z
abs_parts (pos n) = omega arith
abs_parts (negsuc n) = omega arith

-- how far hi is above lo
pub gap : (lo hi : ℤ) → le_z lo hi ≡ true → nat_abs (hi -ℤ lo) + (above lo + below hi) ≡ above hi + below lo
gap lo hi h = elim (one_side (hi -ℤ lo)) [
  | inl e ↦ omega (arith, e, le_says lo hi h, sub_parts_is hi lo, abs_parts (hi -ℤ lo))
  | inr e ↦ omega (arith, e, le_says lo hi h, sub_parts_is hi lo, abs_parts (hi -ℤ lo))
]

pub gap_not_negative : (lo hi : ℤ) → le_z lo hi ≡ true → below (hi -ℤ lo) ≡ 0
gap_not_negative lo hi h = elim (one_side (hi -ℤ lo)) [
  | inl e ↦ omega (arith, e, le_says lo hi h, sub_parts_is hi lo)
  | inr e ↦ e
]

pub not_negative : (z : ℤ) → below z ≡ 0 → T (non_neg z)
not_negative (pos n) h = tt
not_negative (negsuc n) h = absurd (omega arith)

pub fits_says : (z : ℤ) → SFits w64 z → (above z < 2 ^ 63) × (below z ≤ 2 ^ 63)
fits_says (pos n) h = (h.sfits, omega arith)
fits_says (negsuc n) h = (omega arith, omega (arith, h.sfits))

pub fits_makes : (z : ℤ) → above z < 2 ^ 63 → below z ≤ 2 ^ 63 → SFits w64 z
fits_makes (pos n) h k = record { sfits = h }
fits_makes (negsuc n) h k = record { sfits = omega arith }

-- between two that fit
pub fits_between : (a b z : ℤ) → le_z a z ≡ true → le_z z b ≡ true → SFits w64 a → SFits w64 b → SFits w64 z
fits_between a b z h k f g =
    let x = le_says a z h in
    let y = le_says z b k in
    let p = fits_says a f in
    let q = fits_says b g in
    elim (one_side z) [
      | inl e ↦ fits_makes z (omega (arith, e)) (elim (one_side a) [ inl u ↦ omega (arith, e, u, x, p) | inr u ↦ omega (arith, e, u, x, p) ])
      | inr e ↦ fits_makes z (elim (one_side b) [ inl u ↦ omega (arith, e, u, y, q) | inr u ↦ omega (arith, e, u, y, q) ]) (omega (arith, e))
    ]
