-- A changed book, read again: the sheets are those that were kept, in their order. Assumes nothing.
use Rattle.std.specs.Prelude.{ℕ, zero, suc, ◌+◌, ◌-◌, ◌≤◌, ◌<◌, ◌≡◌, true, false, not, ◌&&◌, leb, eqb, length, take, drop, replicate}
use Rattle.std.proofs.Common.{pos_of_ne-zero, arith, ap, subst, ◌∙◌, length-append, length-drop, length-take-le, le-leb, leb-true, leb-false, eqb-true}
use Rattle.std.proofs.Math.Path.{refl}
use Rattle.std.proofs.Math.Logic.{inl, inr}
use mathlib.Core.List.{List, [], ◌∷◌, ◌++◌, append_assoc}
use Rattle.std.proofs.lemmas.List.{take-append-le}
use Rattle.std.proofs.Math.Seq.{take-append_seam, drop-append_seam}
use Rattle.std.proofs.lemmas.Bool.{eqb-false, not-true}
use Rattle.refusal.specs.Refusal.{DONE}
use Rattle.seqs.specs.Reads.{part_on}
use Rattle.seqs.specs.Tests.{either, clash, and_both}
use Rattle.jobs.specs.Job.{value, number}
use Rattle.book.specs.declared.values.Values.{Values}
use Rattle.book.specs.Fetched.{Refused}
use Rattle.book.specs.Book.{ABSENT, number_of, size, sheets, joined, stands, good_sheet, good_sheets, ended, good_book, fetch_refusal, fetched, bytes, head_bytes, sheet_bytes, replaced, without, filled, store_bytes, store_refusal, after_store, remove_refusal, after_remove}
use Rattle.book.specs.BookLaws.{size_short, size_small, size_past, size_whole, size_fits, number_take, sheets_end, sheets_next}
use Rattle.book.specs.KeepLaws.{sheet_length}

-- a sheet by itself, with nothing behind it
pub record Whole (t : List ℕ) : Type 0 where
  pub is : size t ≡ length t
  pub some : 0 < length t

abbrev pub AllWhole : List (List ℕ) → Type 0
AllWhole [] = Unit
AllWhole (t ∷ ts) = Whole t × AllWhole ts

size_number : (s : List ℕ) → 0 < size s → size s ≡ 2 + number 0 2 s
size_number s p = elim (either (leb 2 (length s))) [
  | inl a ↦ elim (either (leb 3 (number 0 2 s))) [
    | inl b ↦ elim (either (leb (2 + number 0 2 s) (length s))) [
      | inl d ↦ size_whole s (leb-true 2 (length s) a) (leb-true 3 (number 0 2 s) b) (leb-true (2 + number 0 2 s) (length s) d)
      | inr d ↦ absurd (omega (arith, size_past s (leb-true 2 (length s) a) (leb-true 3 (number 0 2 s) b) (leb-false (2 + number 0 2 s) (length s) d)))
    ]
    | inr b ↦ absurd (omega (arith, size_small s (leb-true 2 (length s) a) (leb-false 3 (number 0 2 s) b)))
  ]
  | inr a ↦ absurd (omega (arith, size_short s (leb-false 2 (length s) a)))
]

-- what stands behind it doesn't matter
number_front : (t r : List ℕ) (at n : ℕ) → at + n ≤ length t → number at n (t ++ r) ≡ number at n t
unfolding number
number_front t r at n h = ap (value 0) (part_on (t ++ r) t at n (length t) h (take-append-le (length t) t r (omega arith)))

size_front : (t r : List ℕ) → Whole t → size (t ++ r) ≡ length t
size_front t r w =
    let p : 0 < size t = omega (arith, w.is, w.some) in
    let f = size_fits t p in
    let e = size_number t p in
    let q = number_front t r 0 2 (omega (arith, f.0, w.is)) in
    let l = length-append t r in
    size_whole (t ++ r) (omega (arith, l, f.0, w.is)) (omega (arith, q, e, f.0)) (omega (arith, q, e, l, w.is)) ∙ omega (arith, q, e, w.is)

size_zeros : (k : ℕ) → size (replicate k 0) ≡ 0
unfolding number value
size_zeros zero = size_short [] (omega arith)
size_zeros (suc zero) = size_short (0 ∷ []) (omega arith)
size_zeros (suc (suc k)) = let e : number 0 2 (0 ∷ 0 ∷ replicate k 0) ≡ 0 = refl in size_small (0 ∷ 0 ∷ replicate k 0) (omega arith) (omega (arith, e))

-- the bytes of whole sheets are cut into them again
pub sheets_back : (ts : List (List ℕ)) (z : List ℕ) → AllWhole ts → size z ≡ 0 → sheets (joined ts ++ z) ≡ ts
unfolding joined
sheets_back [] z w e = sheets_end z e
sheets_back (t ∷ ts) z w e =
    let r = joined ts ++ z in
    let n = size_front t r w.0 in
    let s : sheets (t ++ r) ≡ take (length t) (t ++ r) ∷ sheets (drop (length t) (t ++ r)) = subst (λ (k : ℕ). sheets (t ++ r) ≡ take k (t ++ r) ∷ sheets (drop k (t ++ r))) n (sheets_next (t ++ r) (omega (arith, n, w.0.some))) in
    rw (append_assoc t (joined ts) z) (s ∙ rw (take-append_seam t r, drop-append_seam t r, sheets_back ts z w.1 e))

pub filled_back : (m : ℕ) (ts : List (List ℕ)) → AllWhole ts → sheets (filled m (joined ts)) ≡ ts
unfolding filled
filled_back m ts w = sheets_back ts (replicate (m - length (joined ts)) 0) w (size_zeros (m - length (joined ts)))

-- ---- every sheet of a book is whole

first_whole : (s : List ℕ) → 0 < size s → Whole (take (size s) s)
first_whole s p =
    let f = size_fits s p in
    let e = size_number s p in
    let l = length-take-le (size s) s f.1 in
    let q = number_take s 0 2 (size s) (omega (arith, f.0)) in
    record { is = size_whole (take (size s) s) (omega (arith, l, f.0)) (omega (arith, q, e, f.0)) (omega (arith, q, e, l)) ∙ omega (arith, q, e, l); some = omega (arith, l, p) }

whole_from : (k : ℕ) (s : List ℕ) → length s ≤ k → AllWhole (sheets s)
whole_from zero s h = rw (sheets_end s (size_short s (omega arith))) tt
whole_from (suc k) s h = elim (either (eqb (size s) 0)) [
  | inl e ↦ rw (sheets_end s (eqb-true (size s) 0 e)) tt
  | inr e ↦
      let p = pos_of_ne-zero (eqb-false (size s) 0 e) in
      let f = size_fits s p in
      rw (sheets_next s p) (first_whole s p, whole_from k (drop (size s) s) (omega (arith, f.0, length-drop (size s) s)))
]

pub sheets_whole : (s : List ℕ) → AllWhole (sheets s)
sheets_whole s = whole_from (length s) s (omega arith)

length_says : (n : ℕ) (v : Values) → number 0 2 (sheet_bytes n v) ≡ 39
unfolding number value sheet_bytes head_bytes bytes
length_says n v = refl

-- and so is a sheet that is stored
pub stored_whole : (n : ℕ) (v : Values) → Whole (sheet_bytes n v)
stored_whole n v =
    let l = sheet_length n v in
    let q = length_says n v in
    record { is = size_whole (sheet_bytes n v) (omega (arith, l)) (omega (arith, q)) (omega (arith, q, l)) ∙ omega (arith, q, l); some = omega (arith, l) }

pub all_replaced : (n : ℕ) (t : List ℕ) (ts : List (List ℕ)) → Whole t → AllWhole ts → AllWhole (replaced n t ts)
unfolding replaced
all_replaced n t [] w a = (w, tt)
all_replaced n t (u ∷ us) w a = elim (either (eqb (number_of u) n)) [ inl e ↦ rw e (w, a.1) | inr e ↦ rw e (a.0, all_replaced n t us w a.1) ]

all_without : (n : ℕ) (ts : List (List ℕ)) → AllWhole ts → AllWhole (without n ts)
unfolding without
all_without n [] a = tt
all_without n (u ∷ us) a = elim (either (eqb (number_of u) n)) [ inl e ↦ rw e a.1 | inr e ↦ rw e (a.0, all_without n us a.1) ]

-- ---- the calls

pub store_back : (s : List ℕ) (n : ℕ) (v : Values) → store_refusal s n v ≡ DONE → sheets (after_store s n v) ≡ replaced n (sheet_bytes n v) (sheets s)
unfolding after_store store_bytes
store_back s n v e = rw e (filled_back (length s) (replaced n (sheet_bytes n v) (sheets s)) (all_replaced n (sheet_bytes n v) (sheets s) (stored_whole n v) (sheets_whole s)))

pub remove_back : (s : List ℕ) (n : ℕ) → remove_refusal s n ≡ DONE → sheets (after_remove s n) ≡ without n (sheets s)
unfolding after_remove
remove_back s n e = rw e (filled_back (length s) (without n (sheets s)) (all_without n (sheets s) (sheets_whole s)))

-- ---- a removed sheet doesn't stand

module _ (n : ℕ) where
  stays_out : (x : ℕ) (ts : List (List ℕ)) → stands x ts ≡ false → stands x (without n ts) ≡ false
  unfolding stands without
  stays_out x [] h = refl
  stays_out x (t ∷ ts) h = elim (either (eqb (number_of t) x)) [
    | inl e ↦ clash refl (rw e at h)
    | inr e ↦ elim (either (eqb (number_of t) n)) [ inl d ↦ rw d (rw e at h) | inr d ↦ rw (d, e) (stays_out x ts (rw e at h)) ]
  ]

  good_without : (ts : List (List ℕ)) → good_sheets ts ≡ true → good_sheets (without n ts) ≡ true
  unfolding good_sheets without
  good_without [] h = refl
  good_without (t ∷ ts) h =
      let a = and_both (good_sheet t) (not (stands (number_of t) ts) && good_sheets ts) h in
      let b = and_both (not (stands (number_of t) ts)) (good_sheets ts) a.1 in
      elim (either (eqb (number_of t) n)) [
        | inl e ↦ rw e b.1
        | inr e ↦ rw (e, a.0, stays_out (number_of t) ts (not-true (stands (number_of t) ts) b.0), good_without ts b.1)
      ]

  gone : (ts : List (List ℕ)) → good_sheets ts ≡ true → stands n (without n ts) ≡ false
  unfolding good_sheets stands without
  gone [] h = refl
  gone (t ∷ ts) h =
      let a = and_both (good_sheet t) (not (stands (number_of t) ts) && good_sheets ts) h in
      let b = and_both (not (stands (number_of t) ts)) (good_sheets ts) a.1 in
      elim (either (eqb (number_of t) n)) [
        | inl e ↦ rw e (subst (λ (x : ℕ). stands x ts ≡ false) (eqb-true (number_of t) n e) (not-true (stands (number_of t) ts) b.0))
        | inr e ↦ rw (e, e) (gone ts b.1)
      ]

ended_zeros : (k : ℕ) → ended (replicate k 0) ≡ true
unfolding ended number value
ended_zeros zero = refl
ended_zeros (suc zero) = refl
ended_zeros (suc (suc k)) = rw (le-leb 2 (length {A = ℕ} (0 ∷ 0 ∷ replicate k 0)) (omega arith))

rest_zeros : (m : ℕ) (ts : List (List ℕ)) → ended (drop (length (joined ts)) (filled m (joined ts))) ≡ true
unfolding filled
rest_zeros m ts = rw (drop-append_seam (joined ts) (replicate (m - length (joined ts)) 0)) (ended_zeros (m - length (joined ts)))

pub filled_good : (m : ℕ) (ts : List (List ℕ)) → AllWhole ts → good_sheets ts ≡ true → good_book (filled m (joined ts)) ≡ true
unfolding good_book
filled_good m ts w g = rw (filled_back m ts w, g, rest_zeros m ts)

pub good_sheets_lem : (s : List ℕ) → good_book s ≡ true → good_sheets (sheets s) ≡ true
unfolding good_book
good_sheets_lem s g = (and_both (good_sheets (sheets s)) (ended (drop (length (joined (sheets s))) s)) g).0

pub remove_good : (s : List ℕ) (n : ℕ) → remove_refusal s n ≡ DONE → good_book s ≡ true
unfolding remove_refusal
remove_good s n e = elim (either (good_book s)) [
  | inl g ↦ g
  | inr g ↦ let z : ◌≡◌ {A = ℕ} 1 0 = rw g at e in absurd (omega (arith, z))
]

pub after_remove_good : (s : List ℕ) (n : ℕ) → remove_refusal s n ≡ DONE → good_book (after_remove s n) ≡ true
unfolding after_remove
after_remove_good s n e = rw e (filled_good (length s) (without n (sheets s)) (all_without n (sheets s) (sheets_whole s)) (good_without n (sheets s) (good_sheets_lem s (remove_good s n e))))

pub removed_absent : (s : List ℕ) (n : ℕ) → remove_refusal s n ≡ DONE → fetched (after_remove s n) n ≡ Refused ABSENT
unfolding fetched fetch_refusal
removed_absent s n e = rw (after_remove_good s n e, remove_back s n e, gone n (sheets s) (good_sheets_lem s (remove_good s n e)))
