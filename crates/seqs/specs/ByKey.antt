-- Places ordered by keys, and where keys are equal by place: a strict order. Assumes nothing.
use Rattle.std.specs.Prelude.{◌≡◌, refl, Bool, true, false, cond, ◌⊎◌, ℕ, ◌≤◌, leb}
use Rattle.std.proofs.Common.{◌∙◌, inl, inr, arith, leb-true, leb-false, le-leb}
use Rattle.seqs.specs.Lists.{by_key, Keyed, Strict}
use Rattle.seqs.specs.Tests.{clash, refute}

module _ {ℓ} {B : Type ℓ} (before : B → B → Bool) (key : ℕ → B) (o : Keyed before key) where
  -- the key is before the other, or they are equal and the place is not behind
  abbrev Before : ℕ → ℕ → Type ℓ
  Before i j = (before (key i) (key j) ≡ true) ⊎ ((key i ≡ key j) × (i ≤ j))

  says : (i j : ℕ) → by_key before key i j ≡ true → Before i j
  says i j = go (before (key i) (key j)) (before (key j) (key i)) refl refl
    where
      go : (s t : Bool) → before (key i) (key j) ≡ s → before (key j) (key i) ≡ t → cond s true (cond t false (leb i j)) ≡ true → Before i j
      go true t e f h = inl e
      go false true e f h = clash h refl
      go false false e f h = inr (o.level i j e f, leb-true i j h)

  not_self : (i : ℕ) → before (key i) (key i) ≡ false
  not_self i = refute (before (key i) (key i)) (o.one_way i i)

  makes : (i j : ℕ) → Before i j → by_key before key i j ≡ true
  makes i j (inl e) = rw e
  makes i j (inr h) = rw (h.0, not_self j) (le-leb i j h.1)

  total : (i j : ℕ) → by_key before key i j ≡ false → by_key before key j i ≡ true
  total i j = go (before (key i) (key j)) (before (key j) (key i))
    where
      go : (s t : Bool) → cond s true (cond t false (leb i j)) ≡ false → cond t true (cond s false (leb j i)) ≡ true
      go true t h = clash refl h
      go false true h = refl
      go false false h = let l = leb-false i j h in le-leb j i (omega arith)

  through : (i j k : ℕ) → Before i j → Before j k → Before i k
  through i j k (inl e) (inl f) = inl (o.trans i j k e f)
  through i j k (inl e) (inr f) = inl (rw f.0 at e)
  through i j k (inr e) (inl f) = inl (rw e.0 f)
  through i j k (inr e) (inr f) = inr (e.0 ∙ f.0, omega (arith, e.1, f.1))

  meet : (i j : ℕ) → Before i j → Before j i → i ≡ j
  meet i j (inl e) (inl f) = clash f (o.one_way i j e)
  meet i j (inl e) (inr f) = clash e (rw f.0 (not_self i))
  meet i j (inr e) (inl f) = clash f (rw e.0 (not_self j))
  meet i j (inr e) (inr f) = omega (arith, e.1, f.1)

  pub by_key_strict : Strict (by_key before key)
  by_key_strict = record { total = total; trans = λ i j k h g. makes i k (through i j k (says i j h) (says j k g)); same = λ i j h g. meet i j (says i j h) (says j i g) }
