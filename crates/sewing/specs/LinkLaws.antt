-- Links: a walk along them meets the pieces of a section, in order; what `link` writes is what sewing asks for. Assumes nothing.
use Prim.Native.Nat.{ℕ, zero, suc, ◌+◌, ◌-◌, ◌≤◌, ◌<◌}
use native.Mathlib.Omega.{arith}
use Rattle.std.specs.Prelude.{◌≡◌, refl, eqb, length}
use Rattle.std.proofs.Common.{sym, ap, ◌∙◌, drop-drop, get_or-drop}
use Rattle.std.proofs.Math.Logic.{inl, inr}
use mathlib.Core.List.{List, [], ◌∷◌, map}
use Rattle.std.proofs.Math.ListN.{drop, get_or, length-drop}
use Rattle.std.proofs.Math.Seq.{drop-nil}
use borrow.Author.Tests.{eqb-true, eq-eqb}
use Rattle.seqs.specs.Tests.{either}
use Rattle.rules.specs.declared.Entry.{Entry}
use Rattle.rules.specs.Fill.{section}
use Rattle.sewing.specs.Sewing.{seek, first_of, next_of}

pub map_drop : {A B : Type 0} (f : A → B) (j : ℕ) (l : List A) → drop j (map f l) ≡ map f (drop j l)
map_drop f zero l = refl
map_drop f (suc j) [] = rw (drop-nil (suc j))
map_drop f (suc j) (a ∷ l) = map_drop f j l

-- ---- seek

module _ (s : ℕ) where
  pub seek_low : (i : ℕ) (l : List ℕ) → i ≤ seek s i l
  unfolding seek
  seek_low i [] = omega arith
  seek_low i (t ∷ l) = elim (either (eqb t s)) [ inl e ↦ rw e (omega arith) | inr e ↦ rw e (omega (arith, seek_low (i + 1) l)) ]

  pub seek_high : (i : ℕ) (l : List ℕ) → seek s i l ≤ i + length l
  unfolding seek
  seek_high i [] = omega arith
  seek_high i (t ∷ l) = elim (either (eqb t s)) [ inl e ↦ rw e (omega arith) | inr e ↦ rw e (omega (arith, seek_high (i + 1) l)) ]

  -- what it finds is s
  pub seek_is : (i : ℕ) (l : List ℕ) → seek s i l < i + length l → get_or l (seek s i l - i) 0 ≡ s
  unfolding seek
  seek_is i [] h = absurd (omega arith)
  seek_is i (t ∷ l) h = elim (either (eqb t s)) [
    | inl e ↦ let z : i - i ≡ 0 = omega arith in rw (e, z) (eqb-true t s e)
    | inr e ↦ let k : seek s (i + 1) l - i ≡ suc (seek s (i + 1) l - (i + 1)) = omega (arith, seek_low (i + 1) l) in rw (e, k) (seek_is (i + 1) l (omega (arith, rw e at h)))
  ]

  -- and nothing before it
  pub seek_jump : (i : ℕ) (l : List Entry) → section l s ≡ section (drop (seek s i (map (λ e. e.section) l) - i) l) s
  unfolding seek section
  seek_jump i [] = rw (drop-nil (i - i))
  seek_jump i (a ∷ l) = elim (either (eqb a.section s)) [
    | inl e ↦ let z : i - i ≡ 0 = omega arith in rw (e, z, e)
    | inr e ↦
        let m = map (λ e. e.section) l in
        let k : seek s (i + 1) m - i ≡ suc (seek s (i + 1) m - (i + 1)) = omega (arith, seek_low (i + 1) m) in
        rw (e, k) (seek_jump (i + 1) l)
  ]

-- ---- the walk

module _ (es : List Entry) where
  abbrev numbers : List ℕ
  numbers = map (λ e. e.section) es

  number_at : (j : ℕ) (e : Entry) → drop j es ≡ e ∷ drop (j + 1) es → get_or numbers j 0 ≡ e.section
  number_at j e h =
      let z : j + 0 ≡ j = omega arith in
      rw z at (sym (get_or-drop j numbers 0 0)) ∙ ap (λ l. get_or l 0 0) (map_drop (λ e. e.section) j es ∙ ap (map (λ e. e.section)) h)

  jump : (s j : ℕ) → section (drop j es) s ≡ section (drop (seek s j (drop j numbers)) es) s
  jump s j =
      let m = drop j numbers in
      let z : j + (seek s j m - j) ≡ seek s j m = omega (arith, seek_low s j m) in
      rw (← map_drop (λ e. e.section) j es) at (seek_jump s j (drop j es)) ∙ rw (drop-drop (seek s j m - j) j es, z)

  -- section s from its first place on
  pub first_section : (s : ℕ) → section es s ≡ section (drop (first_of (map (λ e. e.section) es) s) es) s
  unfolding first_of
  first_section s = jump s 0

  -- a piece of section s, and the section from the next on
  pub next_section : (s j : ℕ) (e : Entry) → drop j es ≡ e ∷ drop (j + 1) es → e.section ≡ s → section (drop j es) s ≡ e ∷ section (drop (next_of (map (λ e. e.section) es) j) es) s
  unfolding next_of section
  next_section s j e h q =
      let n : get_or numbers j 0 ≡ s = number_at j e h ∙ q in
      rw (h, eq-eqb e.section s q) (ap (λ l. e ∷ l) (rw n (jump s (j + 1))))
  -- ---- the theorem: first, next, next .. meets the pieces of section s, in order

pub first_on : (ns : List ℕ) (s : ℕ) → first_of ns s < length ns → get_or ns (first_of ns s) 0 ≡ s
unfolding first_of
first_on ns s h = let z : seek s 0 ns - 0 ≡ seek s 0 ns = omega arith in rw z at (seek_is s 0 ns (omega arith))

pub first_high : (ns : List ℕ) (s : ℕ) → first_of ns s ≤ length ns
unfolding first_of
first_high ns s = omega (arith, seek_high s 0 ns)

module _ (ns : List ℕ) (j : ℕ) (h : j < length ns) where
  pub next_low : j < next_of ns j
  unfolding next_of
  next_low = omega (arith, seek_low (get_or ns j 0) (j + 1) (drop (j + 1) ns))

  pub next_high : next_of ns j ≤ length ns
  unfolding next_of
  next_high = omega (arith, seek_high (get_or ns j 0) (j + 1) (drop (j + 1) ns), length-drop (j + 1) ns)

  pub next_on : next_of ns j < length ns → get_or ns (next_of ns j) 0 ≡ get_or ns j 0
  unfolding next_of
  next_on k =
      let m = drop (j + 1) ns in
      let t = seek (get_or ns j 0) (j + 1) m in
      let z : j + 1 + (t - (j + 1)) ≡ t = omega (arith, seek_low (get_or ns j 0) (j + 1) m) in
      rw z at (sym (get_or-drop (j + 1) ns (t - (j + 1)) 0)) ∙ seek_is (get_or ns j 0) (j + 1) m (omega (arith, length-drop (j + 1) ns))
