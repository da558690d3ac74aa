-- What is proved of a ring's marks: how many there are, what is left by them, and the places of the first and the last that is kept. Assumes nothing.
use Rattle.std.specs.Prelude.{Option, None}
use Prim.Native.Nat.{ℕ, suc, ◌+◌, ◌≤◌, ◌<◌}
use Rattle.std.proofs.Common.{arith, ◌∙◌}
use Rattle.std.specs.Prelude.{◌≡◌, true, false, ◌&&◌, cond, eqb, leb, length, get_or, set, replicate}
use Rattle.std.proofs.Math.Path.{refl, ap}
use Rattle.std.proofs.Math.Logic.{inl, inr}
use mathlib.Core.List.{List, [], ◌∷◌, ◌++◌}
use Rattle.std.proofs.lemmas.List.{length-map}
use borrow.Author.Tests.{eqb-true, eqb-false}
use Rattle.seqs.specs.Lists.{sift}
use Rattle.seqs.specs.Tests.{either}
use Rattle.geom.specs.declared.point.P.{P}
use Rattle.salvage.specs.Ring.{CLOSING, kept, left, same, stray, after, strays, last_of, closes, mark_last, closed, few, cleared, ring_marks}

-- how many are kept
abbrev pub count : List ℕ → ℕ
count ms = length (sift kept ms)

-- ---- one mark a corner

pub strays_length : (last : Option P) (ps : List P) → length (strays last ps) ≡ length ps
unfolding strays
strays_length last [] = refl
strays_length last (p ∷ ps) = ap suc (strays_length (after last (stray last p) p) ps)

mark_last_length : (ms : List ℕ) → length (mark_last ms) ≡ length ms
unfolding mark_last
mark_last_length [] = refl
mark_last_length (m ∷ ms) = elim (either (kept m && eqb (count ms) 0)) [ inl e ↦ rw e | inr e ↦ rw e (ap suc (mark_last_length ms)) ]

pub closed_length : (ps : List P) (ms : List ℕ) → length (closed ps ms) ≡ length ms
unfolding closed
closed_length ps ms = elim (either (closes (left ms ps))) [ inl e ↦ rw e (mark_last_length ms) | inr e ↦ rw e ]

cleared_length : (ps : List P) (ms : List ℕ) → length (cleared ps ms) ≡ length ms
unfolding cleared
cleared_length ps ms = elim (either (leb 3 (length (left ms ps)))) [ inl e ↦ rw e | inr e ↦ rw e (length-map ms few) ]

pub marks_length : (ps : List P) → length (ring_marks ps) ≡ length ps
unfolding ring_marks
marks_length ps = cleared_length ps (closed ps (strays None ps)) ∙ closed_length ps (strays None ps) ∙ strays_length None ps

-- ---- what is left

module _ {A : Type 0} where
  pub left_count : (ms : List ℕ) (l : List A) → length ms ≡ length l → length (left ms l) ≡ count ms
  unfolding left
  left_count [] l h = refl
  left_count (m ∷ ms) [] h = absurd (omega arith)
  left_count (m ∷ ms) (a ∷ l) h =
      let k = left_count ms l (omega arith) in
      elim (either (kept m)) [ inl e ↦ rw e (ap suc k) | inr e ↦ rw e k ]

  pub left_append : (ms ns : List ℕ) (l k : List A) → length ms ≡ length l → left (ms ++ ns) (l ++ k) ≡ left ms l ++ left ns k
  unfolding left
  left_append [] ns [] k h = refl
  left_append [] ns (a ∷ l) k h = absurd (omega arith)
  left_append (m ∷ ms) ns [] k h = absurd (omega arith)
  left_append (m ∷ ms) ns (a ∷ l) k h =
      let i = left_append ms ns l k (omega arith) in
      elim (either (kept m)) [ inl e ↦ rw e (ap (λ r. a ∷ r) i) | inr e ↦ rw e i ]

  pub left_all : (l : List A) → left (replicate (length l) 0) l ≡ l
  unfolding left
  left_all [] = refl
  left_all (a ∷ l) = ap (λ r. a ∷ r) (left_all l)

  pub left_none : (ms : List ℕ) (l : List A) → count ms ≡ 0 → left ms l ≡ []
  unfolding left
  left_none [] l h = refl
  left_none (m ∷ ms) [] h = refl
  left_none (m ∷ ms) (a ∷ l) h = elim (either (kept m)) [ inl e ↦ absurd (omega (arith, rw e at h)) | inr e ↦ rw e (left_none ms l (rw e at h)) ]

-- ---- the first that is kept, and the last: their places

unfoldable pub first_kept : List ℕ → ℕ
first_kept [] = 0
first_kept (m ∷ ms) = cond (kept m) 0 (suc (first_kept ms))

-- from place i on; l is the last so far
unfoldable pub last_kept : ℕ → ℕ → List ℕ → ℕ
last_kept i l [] = l
last_kept i l (m ∷ ms) = last_kept (i + 1) (cond (kept m) i l) ms

last_kept_none : (i l : ℕ) (ms : List ℕ) → count ms ≡ 0 → last_kept i l ms ≡ l
unfolding last_kept
last_kept_none i l [] h = refl
last_kept_none i l (m ∷ ms) h = elim (either (kept m)) [ inl e ↦ absurd (omega (arith, rw e at h)) | inr e ↦ rw e (last_kept_none (i + 1) l ms (rw e at h)) ]

last_kept_some : (i j l k : ℕ) (ms : List ℕ) → 0 < count ms → last_kept (i + j) l ms ≡ i + last_kept j k ms
unfolding last_kept
last_kept_some i j l k [] h = absurd (omega arith)
last_kept_some i j l k (m ∷ ms) h = elim (either (eqb (count ms) 0)) [
  | inl n ↦ elim (either (kept m)) [
    | inl e ↦ rw (e, last_kept_none (i + j + 1) (i + j) ms (eqb-true (count ms) 0 n), last_kept_none (j + 1) j ms (eqb-true (count ms) 0 n))
    | inr e ↦ absurd (omega (arith, rw e at h, eqb-true (count ms) 0 n))
  ]
  | inr n ↦
      let s : i + j + 1 ≡ i + (j + 1) = omega arith in
      rw s (last_kept_some i (j + 1) (cond (kept m) (i + j) l) (cond (kept m) j k) ms (omega (arith, eqb-false (count ms) 0 n)))
]

-- one place further where a later one is kept
last_kept_suc : (m : ℕ) (ms : List ℕ) → 0 < count ms → last_kept 0 0 (m ∷ ms) ≡ suc (last_kept 0 0 ms)
unfolding last_kept
last_kept_suc m ms h = last_kept_some 1 0 (cond (kept m) 0 0) 0 ms h ∙ omega arith

last_kept_one : (m : ℕ) (ms : List ℕ) → count ms ≡ 0 → last_kept 0 0 (m ∷ ms) ≡ 0
unfolding last_kept
last_kept_one m ms h = last_kept_none 1 (cond (kept m) 0 0) ms h ∙ elim (either (kept m)) [ inl e ↦ rw e | inr e ↦ rw e ]

-- of more than none either a later one is kept, or this is the only one
pub only : (m : ℕ) (ms : List ℕ) → 0 < count (m ∷ ms) → count ms ≡ 0 → kept m ≡ true
only m ms h n = elim (either (kept m)) [ inl e ↦ e | inr e ↦ absurd (omega (arith, rw e at h)) ]

pub mark_last_set : (ms : List ℕ) → 0 < count ms → mark_last ms ≡ set ms (last_kept 0 0 ms) CLOSING
unfolding mark_last
mark_last_set [] h = absurd (omega arith)
mark_last_set (m ∷ ms) h = elim (either (eqb (count ms) 0)) [
  | inl n ↦ rw (only m ms h (eqb-true (count ms) 0 n), n, last_kept_one m ms (eqb-true (count ms) 0 n))
  | inr n ↦
      let k : 0 < count ms = omega (arith, eqb-false (count ms) 0 n) in
      let f : (kept m && false) ≡ false = elim (either (kept m)) [ inl e ↦ rw e | inr e ↦ rw e ] in
      rw (n, f, last_kept_suc m ms k) (ap (λ r. m ∷ r) (mark_last_set ms k))
]

pub first_less : (ms : List ℕ) → 0 < count ms → first_kept ms < length ms
unfolding first_kept
first_less [] h = absurd (omega arith)
first_less (m ∷ ms) h = elim (either (kept m)) [ inl e ↦ rw e (omega arith) | inr e ↦ rw e (omega (arith, first_less ms (rw e at h))) ]

pub last_less : (ms : List ℕ) → 0 < count ms → last_kept 0 0 ms < length ms
last_less [] h = absurd (omega arith)
last_less (m ∷ ms) h = elim (either (eqb (count ms) 0)) [
  | inl n ↦ omega (arith, last_kept_one m ms (eqb-true (count ms) 0 n))
  | inr n ↦ let k : 0 < count ms = omega (arith, eqb-false (count ms) 0 n) in omega (arith, last_kept_suc m ms k, last_less ms k)
]

module _ (z : P) where
  first_left : (ms : List ℕ) (ps : List P) → length ms ≡ length ps → get_or (left ms ps) 0 z ≡ get_or ps (first_kept ms) z
  unfolding left first_kept
  first_left [] [] h = refl
  first_left [] (p ∷ ps) h = absurd (omega arith)
  first_left (m ∷ ms) [] h = absurd (omega arith)
  first_left (m ∷ ms) (p ∷ ps) h = elim (either (kept m)) [ inl e ↦ rw e | inr e ↦ rw e (first_left ms ps (omega arith)) ]

  last_left : (q : P) (ms : List ℕ) (ps : List P) → length ms ≡ length ps → 0 < count ms → last_of q (left ms ps) ≡ get_or ps (last_kept 0 0 ms) z
  unfolding left
  last_left q [] ps h k = absurd (omega arith)
  last_left q (m ∷ ms) [] h k = absurd (omega arith)
  last_left q (m ∷ ms) (p ∷ ps) h k = elim (either (eqb (count ms) 0)) [
    | inl n ↦ rw (only m ms k (eqb-true (count ms) 0 n), left_none ms ps (eqb-true (count ms) 0 n), last_kept_one m ms (eqb-true (count ms) 0 n))
    | inr n ↦
        let g : 0 < count ms = omega (arith, eqb-false (count ms) 0 n) in
        rw (last_kept_suc m ms g) (elim (either (kept m)) [ inl e ↦ rw e (last_left p ms ps (omega arith) g) | inr e ↦ rw e (last_left q ms ps (omega arith) g) ])
  ]

  two : (l : List P) → 2 ≤ length l → closes l ≡ same (get_or l 0 z) (last_of z l)
  unfolding closes
  two [] h = absurd (omega arith)
  two (p ∷ []) h = absurd (omega arith)
  two (p ∷ q ∷ l) h = refl

  pub closes_at : (ms : List ℕ) (ps : List P) → length ms ≡ length ps → 2 ≤ count ms → closes (left ms ps) ≡ same (get_or ps (first_kept ms) z) (get_or ps (last_kept 0 0 ms) z)
  closes_at ms ps h k = two (left ms ps) (omega (arith, left_count ms ps h)) ∙ rw (first_left ms ps h, last_left z ms ps h (omega arith))

pub closes_not : (l : List P) → length l < 2 → closes l ≡ false
unfolding closes
closes_not [] h = refl
closes_not (p ∷ []) h = refl
closes_not (p ∷ q ∷ l) h = absurd (omega arith)
