-- Signed numbers by their sign: how many lie between two, remainders, and sums that fit. Assumes nothing.
use mathlib.Core.Path.{◌≡◌, refl, sym, ap, ◌∙◌}
use mathlib.Core.Bool.{Bool, true, false}
use Prim.Native.Nat.{ℕ, zero, suc, ◌+◌, ◌-◌, ◌*◌, ◌/◌, ◌%◌, ◌^◌, ◌<◌, ◌≤◌, min}
use native.Mathlib.Nat.{mod-lt, mod-eq_of_lt, add-mod, add-mul-mod_self_left, mod-add-div}
use native.Mathlib.Omega.{arith}
use lib.Ieee.{Float, to_signed}
use lib.Ieee.Casts.{to_signed_in}
use lib.Dec.{leb, ltb}
use lib.IntN.{ℤ, pos, negsuc, ◌+ℤ◌, ◌-ℤ◌, nat_abs, +ℤ_idr}
use lib.Signed.{lt_z}
use borrow.Author.Tests.{leb-true, ltb-true, ltb-false, le-leb, lt-leb, le-ltb}
use mir.Syntax.{w64}
use mir.Val.{SFits, to_z, of_z}
use mir.ValLaws.{to_z-of_z}
use mathlib.Core.Logic.{inl, inr}
use Rattle.seqs.specs.Tests.{clash, either}
use Rattle.seqs.specs.Slices.{capped}
use Rattle.seqs.specs.Capped.{capped_in, capped_cases}
use Rattle.std.specs.Int.{int_rem_euclid}
use Rattle.rules.specs.Fill.{how_many, rem_euclid}
use Rattle.rules.proofs.Stitches.{rem_below}
use Rattle.sewing.specs.declared.row.Row.{Row}
use Rattle.sewing.specs.Sewing.{most, Near, row_number, phase_of}

-- the machine's reading of a number that fits
pub read : (z : ℤ) → SFits w64 z → to_z w64 (of_z w64 z) ≡ z
read z f = to_z-of_z w64 z f

-- an unsigned number that fits, cast
pub cast : (n : ℕ) → n < 2 ^ 63 → to_z w64 n ≡ pos n
cast n h = read (pos n) (record { sfits = h })

-- a row with a needle point has the number of the first
pub first_fits : (w : Row) → 0 < w.n → Near w → SFits w64 w.m0
first_fits w h f = rw (+ℤ_idr w.m0) at (f 0 h)

-- ---- remainders

pub rem_is : (k : ℤ) (n : ℕ) → int_rem_euclid k (pos n) ≡ pos (rem_euclid k n)
unfolding rem_euclid
rem_is (pos a) n = refl
rem_is (negsuc a) n = refl

-- ---- how many from lo to hi

pub capped_min : (n : ℕ) → min (min n 18446744073709551615) 9223372036854775808 ≡ capped most n
capped_min n = elim (capped_cases most n) [ inl c ↦ omega (arith, c.0, c.1) | inr c ↦ omega (arith, c.0, c.1) ]

nat_abs_less : (a b : ℕ) → a ≤ b → nat_abs (pos b -ℤ pos a) ≡ b - a
nat_abs_less zero b h = omega arith
nat_abs_less (suc a) b h = rw (le-ltb b (suc a) h) (omega arith)

nat_abs_more : (a b : ℕ) → b ≤ a → nat_abs (negsuc b -ℤ negsuc a) ≡ a - b
nat_abs_more a b h = rw (le-ltb (suc a) (suc b) (omega arith)) (omega arith)

pub reach_none : (lo hi : ℤ) → lt_z hi lo ≡ true → 0 ≡ capped most (how_many lo hi)
unfolding how_many
reach_none (pos a) (pos b) h = rw (lt-leb a b (ltb-true b a h)) (sym (capped_in most 0 (omega arith)))
reach_none (pos a) (negsuc b) h = sym (capped_in most 0 (omega arith))
reach_none (negsuc a) (pos b) h = clash h refl
reach_none (negsuc a) (negsuc b) h = rw (lt-leb b a (ltb-true a b h)) (sym (capped_in most 0 (omega arith)))

pub reach_some : (lo hi : ℤ) → lt_z hi lo ≡ false → how_many lo hi ≡ nat_abs (hi -ℤ lo) + 1
unfolding how_many
reach_some (pos a) (pos b) h = rw (le-leb a b (ltb-false b a h))
reach_some (pos a) (negsuc b) h = clash refl h
reach_some (negsuc a) (pos b) h = refl
reach_some (negsuc a) (negsuc b) h = rw (le-leb b a (ltb-false a b h))

-- the numbers from lo to hi lie between them
pub reach_near : (lo hi : ℤ) → SFits w64 lo → SFits w64 hi → (i : ℕ) → i < capped most (how_many lo hi) → SFits w64 (lo +ℤ pos i)
unfolding how_many
reach_near lo hi f g i h = near lo hi f g i (omega (arith, capped_most (how_many lo hi)))
  where
    capped_most : (n : ℕ) → capped most n ≤ n
    capped_most n = elim (capped_cases most n) [ inl c ↦ omega (arith, c.1) | inr c ↦ omega (arith, c.0, c.1) ]

    below : (i a : ℕ) (b : ℕ) → a < 2 ^ 63 → b < 2 ^ 63 → i ≤ a + b + 1 → SFits w64 (negsuc a +ℤ pos i)
    below i a b p q h = elim (either (ltb i (suc a))) [
      | inl e ↦ rw e (record { sfits = omega (arith, ltb-true i (suc a) e) })
      | inr e ↦ rw e (record { sfits = omega (arith, ltb-false i (suc a) e) })
    ]

    near : (lo hi : ℤ) → SFits w64 lo → SFits w64 hi → (i : ℕ) → i < how_many lo hi → SFits w64 (lo +ℤ pos i)
    near (pos a) (pos b) f g i h = elim (either (leb a b)) [
      | inl e ↦ let l = leb-true a b e in record { sfits = omega (arith, g.sfits, rw (e, nat_abs_less a b l) at h) }
      | inr e ↦ absurd (omega (arith, rw e at h))
    ]
    near (pos a) (negsuc b) f g i h = absurd (omega arith)
    near (negsuc a) (pos b) f g i h = below i a b f.sfits g.sfits (omega arith)
    near (negsuc a) (negsuc b) f g i h = elim (either (leb b a)) [
      | inl e ↦ let l = leb-true b a e in below i a 0 f.sfits (omega arith) (omega (arith, rw (e, nat_abs_more a b l) at h))
      | inr e ↦ absurd (omega (arith, rw e at h))
    ]

-- ---- the remainder of a row's number, from that of the first row's

settle : (n x y u₁ u₂ u₃ v₁ v₂ v₃ : ℕ) → x < n → x + n * u₁ + n * u₂ + n * u₃ ≡ y + n * v₁ + n * v₂ + n * v₃ → x ≡ y % n
settle n x y u₁ u₂ u₃ v₁ v₂ v₃ h e = sym (mod-eq_of_lt h) ∙ sym (off x u₁ u₂ u₃) ∙ ap (λ k. k % n) e ∙ off y v₁ v₂ v₃
  where
    off : (x u v w : ℕ) → (x + n * u + n * v + n * w) % n ≡ x % n
    off x u v w = add-mul-mod_self_left (x + n * u + n * v) n w ∙ add-mul-mod_self_left (x + n * u) n v ∙ add-mul-mod_self_left x n u

pub rem_on : (k : ℤ) (r n : ℕ) → 0 < n → rem_euclid (k +ℤ pos r) n ≡ (rem_euclid k n + r % n) % n
unfolding rem_euclid
rem_on (pos a) r n h = add-mod a r n
rem_on (negsuc a) r n h = elim (either (ltb r (suc a))) [
  | inl e ↦
      let l = ltb-true r (suc a) e in
      let z = suc a - suc r in
      rw e (settle n (n - 1 - z % n) (n - 1 - a % n + r % n) (a / n) 0 0 (r / n) (z / n) 0 (omega arith)
      (omega (arith, mod-add-div a n, mod-add-div r n, mod-add-div z n, mod-lt a h, mod-lt r h, mod-lt z h)))
  | inr e ↦
      let l = ltb-false r (suc a) e in
      let z = r - suc a in
      rw e (settle n (z % n) (n - 1 - a % n + r % n) (z / n) (a / n) 1 (r / n) 0 0 (mod-lt z h)
      (omega (arith, mod-add-div a n, mod-add-div r n, mod-add-div z n, mod-lt a h, mod-lt r h, mod-lt z h)))
]

pub rem_back : (k : ℤ) (r n : ℕ) → 0 < n → rem_euclid (k -ℤ pos r) n ≡ (rem_euclid k n + (n - r % n)) % n
unfolding rem_euclid
rem_back k zero n h = rw (+ℤ_idr k) (settle n (rem_euclid k n) (rem_euclid k n + (n - 0 % n)) 1 0 0 0 0 0 (rem_below k n h) (omega (arith, mod-add-div 0 n, mod-lt 0 h)))
rem_back (pos a) (suc b) n h = elim (either (ltb a (suc b))) [
  | inl e ↦
      let l = ltb-true a (suc b) e in
      let z = suc b - suc a in
      rw e (settle n (n - 1 - z % n) (a % n + (n - suc b % n)) (suc b / n) 0 0 (a / n) (z / n) 0 (omega arith)
      (omega (arith, mod-add-div a n, mod-add-div (suc b) n, mod-add-div z n, mod-lt a h, mod-lt (suc b) h, mod-lt z h)))
  | inr e ↦
      let l = ltb-false a (suc b) e in
      let z = a - suc b in
      rw e (settle n (z % n) (a % n + (n - suc b % n)) (z / n) (suc b / n) 1 (a / n) 0 0 (mod-lt z h)
      (omega (arith, mod-add-div a n, mod-add-div (suc b) n, mod-add-div z n, mod-lt a h, mod-lt (suc b) h, mod-lt z h)))
]
rem_back (negsuc a) (suc b) n h =
    let z = suc (a + b) in
    settle n (n - 1 - z % n) (n - 1 - a % n + (n - suc b % n)) (a / n) (suc b / n) 1 (z / n) 0 0 (omega arith)
    (omega (arith, mod-add-div a n, mod-add-div (suc b) n, mod-add-div z n, mod-lt a h, mod-lt (suc b) h, mod-lt z h))

pub phase_is : (k : ℤ) (down : Bool) (r n : ℕ) → 0 < n → phase_of (rem_euclid k n) r n down ≡ rem_euclid (row_number k down r) n
unfolding phase_of
phase_is k true r n h = sym (rem_back k r n h)
phase_is k false r n h = sym (rem_on k r n h)

pub signed_fits : (x : Float) → SFits w64 (to_signed 63 x)
signed_fits x = record { sfits = to_signed_in 63 x }
