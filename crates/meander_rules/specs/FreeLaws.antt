-- Free points, and how many there are. Assumes nothing.
use Rattle.std.specs.Prelude.{ℕ, zero, suc, ◌+◌, ◌≤◌, ◌≡◌, refl, true, false, cond, List, [], ◌∷◌, eqb, length, get_or, set}
use Rattle.std.proofs.Common.{arith, inl, inr, get_or-set_other, eqb-true}
use Rattle.std.proofs.lemmas.Bool.{eqb-false}
use Rattle.seqs.specs.Tests.{either, clash}
use Rattle.meander_rules.specs.Meander.{is_free}

set_zero : (l : List ℕ) (n : ℕ) → get_or (set l n 0) n 0 ≡ 0
set_zero [] n = refl
set_zero (a ∷ l) zero = refl
set_zero (a ∷ l) (suc n) = set_zero l n

-- a point that is taken isn't free
pub taken : (free : List ℕ) (n : ℕ) → is_free (set free n 0) n ≡ false
unfolding is_free
taken free n = rw (set_zero free n)

-- the others are as they were
pub taken_other : (free : List ℕ) (n k : ℕ) → eqb k n ≡ false → is_free (set free n 0) k ≡ is_free free k
unfolding is_free
taken_other free n k h = rw (get_or-set_other free n k 0 0 (eqb-false k n h))

-- so none becomes free
pub taken_stays : (free : List ℕ) (n k : ℕ) → is_free free k ≡ false → is_free (set free n 0) k ≡ false
taken_stays free n k h = elim (either (eqb k n)) [ inl e ↦ rw (eqb-true k n e) (taken free n) | inr e ↦ rw (taken_other free n k e) h ]

-- how many are free
abbrev pub ones : List ℕ → ℕ
ones [] = 0
ones (a ∷ l) = cond (eqb a 1) 1 0 + ones l

pub ones_few : (l : List ℕ) → ones l ≤ length l
ones_few [] = omega arith
ones_few (a ∷ l) = elim (either (eqb a 1)) [ inl e ↦ rw e (omega (arith, ones_few l)) | inr e ↦ rw e (omega (arith, ones_few l)) ]

pub ones_taken : (l : List ℕ) (n : ℕ) → is_free l n ≡ true → ones (set l n 0) + 1 ≡ ones l
unfolding is_free
ones_taken [] n h = clash h refl
ones_taken (a ∷ l) zero h = rw h (omega arith)
ones_taken (a ∷ l) (suc n) h = omega (arith, ones_taken l n h)
