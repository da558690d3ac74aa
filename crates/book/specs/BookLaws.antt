-- A book, sheet by sheet. Assumes nothing.
use Prim.Native.Nat.{ℕ, zero, suc, ◌+◌, ◌-◌, ◌≤◌, ◌<◌}
use Rattle.std.proofs.Common.{pos_of_ne-zero, ◌∙◌, drop-drop, take-take, take-add, get_or-drop}
use native.Mathlib.Omega.{arith}
use Rattle.std.specs.Prelude.{◌≡◌, Bool, true, false, not, ◌&&◌, ◌⊎◌, leb, ltb, eqb}
use Rattle.std.proofs.Math.Path.{refl, sym, ap}
use Rattle.std.proofs.Math.Logic.{inl, inr}
use mathlib.Core.List.{List, [], ◌∷◌, ◌++◌, append_assoc, append-nil}
use Rattle.std.proofs.Math.ListN.{length, take, drop, get_or, length-append, length-drop}
use Rattle.std.proofs.Math.Seq.{get_or-take, length-take-le}
use borrow.Author.Tests.{le-leb, lt-leb, eq-eqb, ne_eqb, leb-true, leb-false, eqb-true, eqb-false, ltb-true, ltb-false}
use Rattle.seqs.specs.Reads.{part_on}
use Rattle.seqs.specs.Parts.{tail_lent}
use Rattle.seqs.specs.Tests.{either, clash, and_both}
use Rattle.jobs.specs.Job.{value, number, float}
use Rattle.book.specs.Book.{version_of, number_of, values_of, size, sheets_from, sheets, joined, stands, sheet_of, good_sheet, good_sheets, ended, good_book}

-- ---- the first sheet

module _ (s : List ℕ) where
  pub size_short : length s < 2 → size s ≡ 0
  unfolding size
  size_short h = rw (lt-leb 2 (length s) h)

  pub size_small : 2 ≤ length s → number 0 2 s < 3 → size s ≡ 0
  unfolding size
  size_small h k = rw (le-leb 2 (length s) h, lt-leb 3 (number 0 2 s) k)

  pub size_past : 2 ≤ length s → 3 ≤ number 0 2 s → length s < 2 + number 0 2 s → size s ≡ 0
  unfolding size
  size_past h k l = rw (le-leb 2 (length s) h, le-leb 3 (number 0 2 s) k, lt-leb (2 + number 0 2 s) (length s) l)

  pub size_whole : 2 ≤ length s → 3 ≤ number 0 2 s → 2 + number 0 2 s ≤ length s → size s ≡ 2 + number 0 2 s
  unfolding size
  size_whole h k l = rw (le-leb 2 (length s) h, le-leb 3 (number 0 2 s) k, le-leb (2 + number 0 2 s) (length s) l)

  pub size_fits : 0 < size s → (5 ≤ size s) × (size s ≤ length s)
  size_fits p = elim (either (leb 2 (length s))) [
    | inl a ↦ elim (either (leb 3 (number 0 2 s))) [
      | inl b ↦ elim (either (leb (2 + number 0 2 s) (length s))) [
        | inl d ↦
            let x = leb-true 3 (number 0 2 s) b in
            let y = leb-true (2 + number 0 2 s) (length s) d in
            let e = size_whole (leb-true 2 (length s) a) x y in
            (omega (arith, e, x), omega (arith, e, y))
        | inr d ↦ absurd (omega (arith, size_past (leb-true 2 (length s) a) (leb-true 3 (number 0 2 s) b) (leb-false (2 + number 0 2 s) (length s) d)))
      ]
      | inr b ↦ absurd (omega (arith, size_small (leb-true 2 (length s) a) (leb-false 3 (number 0 2 s) b)))
    ]
    | inr a ↦ absurd (omega (arith, size_short (leb-false 2 (length s) a)))
  ]

  -- what stands within the first n bytes
  pub number_take : (at n m : ℕ) → at + n ≤ m → number at n (take m s) ≡ number at n s
  unfolding number
  number_take at n m h = ap (value 0) (part_on (take m s) s at n m h (take-take m m s (omega arith)))

  pub number_of_lem : (n : ℕ) → 5 ≤ n → number_of (take n s) ≡ number_of s
  unfolding number_of
  number_of_lem n h = number_take 3 2 n h

  pub version_of_lem : (n : ℕ) → 5 ≤ n → version_of (take n s) ≡ version_of s
  unfolding version_of
  version_of_lem n h = get_or-take n s 2 0 (omega arith)

  pub values_of_lem : values_of (take 41 s) ≡ values_of s
  unfolding values_of float
  values_of_lem = rw (number_take 5 8 41 (omega arith), number_take 13 8 41 (omega arith), number_take 21 8 41 (omega arith), number_take 29 8 41 (omega arith), number_take 37 4 41 (omega arith))

-- at the code's places
pub number_at : (s : List ℕ) (at i n : ℕ) → number (at + i) n s ≡ number i n (drop at s)
unfolding number
number_at s at i n = rw (drop-drop i at s)

pub number_here : (s : List ℕ) (at n : ℕ) → number at n s ≡ number 0 n (drop at s)
unfolding number
number_here s at n = refl

pub float_at : (s : List ℕ) (at i : ℕ) → float (at + i) s ≡ float i (drop at s)
unfolding float
float_at s at i = rw (number_at s at i 8)

pub number_of_at : (s : List ℕ) (at : ℕ) → number (at + 3) 2 s ≡ number_of (drop at s)
unfolding number_of
number_of_at s at = number_at s at 3 2

pub version_at : (s : List ℕ) (at : ℕ) → version_of (drop at s) ≡ get_or s (at + 2) 0
unfolding version_of
version_at s at = get_or-drop at s 2 0

module _ (s : List ℕ) (at n : ℕ) (h : 5 ≤ n) (k : at + n ≤ length s) where
  pub sheet_one : get_or s (at + 2) 0 ≡ 1 → good_sheet (take n (drop at s)) ≡ eqb n 41
  unfolding good_sheet
  sheet_one e =
      let v : version_of (take n (drop at s)) ≡ 1 = version_of_lem (drop at s) n h ∙ version_at s at ∙ e in
      let l : length (take n (drop at s)) ≡ n = length-take-le n (drop at s) (omega (arith, length-drop at s)) in
      rw (eq-eqb _ 1 v, l)

  pub sheet_other : (get_or s (at + 2) 0 ≡ 1 → ⊥) → good_sheet (take n (drop at s)) ≡ leb 2 (get_or s (at + 2) 0)
  unfolding good_sheet
  sheet_other e =
      let v : version_of (take n (drop at s)) ≡ get_or s (at + 2) 0 = version_of_lem (drop at s) n h ∙ version_at s at in
      rw (v, ne_eqb _ 1 e)

-- ---- the sheets, one by one

sheets_same : (k m : ℕ) (s : List ℕ) → length s ≤ k → length s ≤ m → sheets_from k s ≡ sheets_from m s
unfolding sheets_from
sheets_same zero zero s h l = refl
sheets_same zero (suc m) s h l = rw (size_short s (omega arith))
sheets_same (suc k) zero s h l = rw (size_short s (omega arith))
sheets_same (suc k) (suc m) s h l = elim (either (eqb (size s) 0)) [
  | inl e ↦ rw e
  | inr e ↦
      let p = size_fits s (pos_of_ne-zero (eqb-false _ _ e)) in
      rw e (ap (λ r. take (size s) s ∷ r) (sheets_same k m (drop (size s) s) (omega (arith, p.0, length-drop (size s) s)) (omega (arith, p.0, length-drop (size s) s))))
]

module _ (s : List ℕ) where
  from_end : (k : ℕ) → size s ≡ 0 → sheets_from k s ≡ []
  unfolding sheets_from
  from_end zero h = refl
  from_end (suc k) h = rw (eq-eqb (size s) 0 h)

  from_next : (k : ℕ) → 0 < k → 0 < size s → sheets_from k s ≡ take (size s) s ∷ sheets_from (k - 1) (drop (size s) s)
  unfolding sheets_from
  from_next zero h p = absurd (omega arith)
  from_next (suc k) h p = let e : suc k - 1 ≡ k = omega arith in rw (ne_eqb (size s) 0 (λ z. absurd (omega arith)), e)

  pub sheets_end : size s ≡ 0 → sheets s ≡ []
  unfolding sheets
  sheets_end h = from_end (length s) h

  pub sheets_next : 0 < size s → sheets s ≡ take (size s) s ∷ sheets (drop (size s) s)
  unfolding sheets
  sheets_next p =
      let f = size_fits s p in
      let l = length-drop (size s) s in
      from_next (length s) (omega arith) p ∙ ap (λ r. take (size s) s ∷ r) (sheets_same (length s - 1) (length (drop (size s) s)) (drop (size s) s) (omega arith) (omega arith))

-- ---- lists of sheets

module _ (n : ℕ) where
  pub stands_behind : (a ts : List (List ℕ)) → stands n a ≡ false → stands n (a ++ ts) ≡ stands n ts
  unfolding stands
  stands_behind [] ts h = refl
  stands_behind (t ∷ a) ts h = elim (either (eqb (number_of t) n)) [ inl e ↦ clash refl (rw e at h) | inr e ↦ rw e (stands_behind a ts (rw e at h)) ]

  pub sheet_behind : (a ts : List (List ℕ)) → stands n a ≡ false → sheet_of n (a ++ ts) ≡ sheet_of n ts
  unfolding stands sheet_of
  sheet_behind [] ts h = refl
  sheet_behind (t ∷ a) ts h = elim (either (eqb (number_of t) n)) [ inl e ↦ clash refl (rw e at h) | inr e ↦ rw e (sheet_behind a ts (rw e at h)) ]

  pub stands_last : (a : List (List ℕ)) (t : List ℕ) → stands n a ≡ false → eqb (number_of t) n ≡ false → stands n (a ++ t ∷ []) ≡ false
  unfolding stands
  stands_last a t h e = stands_behind a (t ∷ []) h ∙ rw e

  -- a sheet of a good book is good
  pub good_of : (ts : List (List ℕ)) → good_sheets ts ≡ true → stands n ts ≡ true → good_sheet (sheet_of n ts) ≡ true
  unfolding good_sheets stands sheet_of
  good_of [] h k = clash k refl
  good_of (t ∷ ts) h k =
      let b = and_both (good_sheet t) (not (stands (number_of t) ts) && good_sheets ts) h in
      elim (either (eqb (number_of t) n)) [
        | inl e ↦ rw e b.0
        | inr e ↦ rw e (good_of ts (and_both (not (stands (number_of t) ts)) (good_sheets ts) b.1).1 (rw e at k))
      ]

pub joined_append : (a b : List (List ℕ)) → joined (a ++ b) ≡ joined a ++ joined b
unfolding joined
joined_append [] b = refl
joined_append (t ∷ a) b = ap (λ r. t ++ r) (joined_append a b) ∙ sym (append_assoc t (joined a) (joined b))

-- ---- the way to a place

-- the sheets before a place, none of them of that number
pub record Way (n : ℕ) (s : List ℕ) (at : ℕ) : Type 0 where
  pub passed : List (List ℕ)
  pub is : sheets s ≡ passed ++ sheets (drop at s)
  pub other : stands n passed ≡ false
  pub bytes : joined passed ≡ take at s
  pub fits : at ≤ length s

-- and at the place the sheet of that number, or none
pub record Placed (n : ℕ) (s : List ℕ) (at : ℕ) : Type 0 where
  pub way : Way n s at
  pub here : (size (drop at s) ≡ 0) ⊎ (number_of (drop at s) ≡ n)

pub way_start : (n : ℕ) (s : List ℕ) → Way n s 0
unfolding joined stands
way_start n s = record { passed = []; is = refl; other = refl; bytes = refl; fits = omega arith }

pub way_on : (n : ℕ) (s : List ℕ) (at k : ℕ) → Way n s at → k ≡ size (drop at s) → 0 < k → eqb (number_of (drop at s)) n ≡ false → Way n s (at + k)
unfolding joined
way_on n s at k w e p q =
    let d = drop at s in
    let f = size_fits d (omega (arith, e)) in
    let t = take (size d) d in
    let i : sheets s ≡ (w.passed ++ t ∷ []) ++ sheets (drop (at + k) s) =
    w.is ∙ ap (λ r. w.passed ++ r) (sheets_next d (omega (arith, e))) ∙ rw (drop-drop (size d) at s, e) (sym (append_assoc w.passed (t ∷ []) (sheets (drop (at + size d) s)))) in
    record {
      passed = w.passed ++ t ∷ [];
      is = i;
      other = stands_last n w.passed t w.other (rw (number_of_lem d (size d) f.0) q);
      bytes = joined_append w.passed (t ∷ []) ∙ rw (append-nil t, w.bytes, e) (sym (take-add at (size d) s));
      fits = omega (arith, e, f.1, length-drop at s, w.fits);
    }

-- what the place tells of the number
module _ (n : ℕ) (s : List ℕ) (at : ℕ) (p : Placed n s at) where
  pub placed_none : size (drop at s) ≡ 0 → stands n (sheets s) ≡ false
  unfolding stands
  placed_none e = rw (p.way.is, sheets_end (drop at s) e) (stands_behind n p.way.passed [] p.way.other)

  pub here_is : 0 < size (drop at s) → eqb (number_of (take (size (drop at s)) (drop at s))) n ≡ true
  here_is h = elim p.here [
    | inl e ↦ absurd (omega (arith, e))
    | inr e ↦ eq-eqb _ n (number_of_lem (drop at s) (size (drop at s)) (size_fits (drop at s) h).0 ∙ e)
  ]

  pub placed_stands : 0 < size (drop at s) → stands n (sheets s) ≡ true
  unfolding stands
  placed_stands h = rw (p.way.is, sheets_next (drop at s) h) (stands_behind n p.way.passed _ p.way.other ∙ rw (here_is h))

  pub placed_sheet : 0 < size (drop at s) → sheet_of n (sheets s) ≡ take (size (drop at s)) (drop at s)
  unfolding sheet_of
  placed_sheet h = rw (p.way.is, sheets_next (drop at s) h) (sheet_behind n p.way.passed _ p.way.other ∙ rw (here_is h))

  pub placed_is : stands n (sheets s) ≡ ltb 0 (size (drop at s))
  placed_is = elim (either (ltb 0 (size (drop at s)))) [
    | inl e ↦ placed_stands (ltb-true 0 (size (drop at s)) e) ∙ sym e
    | inr e ↦ placed_none (omega (arith, ltb-false 0 (size (drop at s)) e)) ∙ sym e
  ]

-- ---- framing

pub good_end : (s : List ℕ) → size s ≡ 0 → good_book s ≡ ended s
unfolding good_book good_sheets joined
good_end s h = rw (sheets_end s h)

-- of the sheet of k bytes at a place
module _ (s : List ℕ) (at k : ℕ) (e : k ≡ size (drop at s)) (p : 0 < k) where
  pub size_five : 5 ≤ k
  size_five = omega (arith, e, (size_fits (drop at s) (omega (arith, e, p))).0)

  pub sheets_on : sheets (drop at s) ≡ take k (drop at s) ∷ sheets (drop (at + k) s)
  sheets_on = rw (e, sheets_next (drop at s) (omega (arith, e, p)), drop-drop (size (drop at s)) at s)

  good_step_lem : good_book (drop at s) ≡ (good_sheet (take k (drop at s)) && (not (stands (number_of (drop at s)) (sheets (drop (at + k) s))) && good_sheets (sheets (drop (at + k) s)))) && ended (drop (length (joined (sheets (drop (at + k) s)))) (drop (at + k) s))
  unfolding good_book good_sheets joined
  good_step_lem =
      let f = size_fits (drop at s) (omega (arith, e, p)) in
      let m = length (joined (sheets (drop (at + k) s))) in
      let l : length (take k (drop at s) ++ joined (sheets (drop (at + k) s))) ≡ k + m = length-append (take k (drop at s)) (joined (sheets (drop (at + k) s))) ∙ rw (length-take-le k (drop at s) (omega (arith, e, f.1))) in
      let d : drop (k + m) (drop at s) ≡ drop m (drop (at + k) s) = sym (drop-drop m k (drop at s)) ∙ rw (drop-drop k at s) in
      rw (sheets_on, number_of_lem (drop at s) k size_five, l, d)

  pub good_bad : good_sheet (take k (drop at s)) ≡ false → good_book (drop at s) ≡ false
  good_bad h = good_step_lem ∙ rw h

  module _ (x : ℕ) (q : x ≡ number (at + 3) 2 s) (h : good_sheet (take k (drop at s)) ≡ true) where
    lent : {b : Bool} → stands x (sheets (take (length s - (at + k)) (drop (at + k) s))) ≡ b → stands (number_of (drop at s)) (sheets (drop (at + k) s)) ≡ b
    lent t = rw (q, number_of_at s at, tail_lent s s (at + k)) at t

    pub good_twice : stands x (sheets (take (length s - (at + k)) (drop (at + k) s))) ≡ true → good_book (drop at s) ≡ false
    good_twice t = good_step_lem ∙ rw (h, lent t)

    pub good_next : stands x (sheets (take (length s - (at + k)) (drop (at + k) s))) ≡ false → good_book (drop at s) ≡ good_book (drop (at + k) s)
    unfolding good_book
    good_next t = good_step_lem ∙ rw (h, lent t)

-- the sheet of a number in a good book
pub good_sheet_lem : (n : ℕ) (s : List ℕ) → good_book s ≡ true → stands n (sheets s) ≡ true → good_sheet (sheet_of n (sheets s)) ≡ true
unfolding good_book
good_sheet_lem n s h k = good_of n (sheets s) (and_both (good_sheets (sheets s)) _ h).0 k

-- of version 1, it is as long as its values need
pub good_length : (t : List ℕ) → good_sheet t ≡ true → version_of t ≡ 1 → length t ≡ 41
unfolding good_sheet
good_length t h v = eqb-true (length t) 41 (rw (eq-eqb (version_of t) 1 v) at h)
