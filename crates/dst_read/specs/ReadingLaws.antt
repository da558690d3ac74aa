-- A turn of the reading, where it stops, and how many records it has met. Assumes nothing.
use Prim.Native.Nat.{ℕ, zero, suc, ◌+◌, ◌-◌, ◌*◌, ◌≤◌, ◌<◌}
use native.Mathlib.Omega.{arith}
use Rattle.std.specs.Prelude.{◌≡◌, refl, Bool, true, false, cond, List, [], ◌∷◌, leb, length, drop, get_or}
use Rattle.std.proofs.Common.{◌∙◌, length-drop}
use borrow.Author.Tests.{le-leb, lt-leb, leb-false}
use Rattle.seqs.specs.Front.{next}
use Rattle.refusal.specs.Refusal.{DONE, SIZE}
use Rattle.dst.specs.Thread.{Whole}
use Rattle.dst_read.specs.Unread.{Verdict}
use Rattle.dst_read.specs.Names.{RECORD, CUT, most_records}
use Rattle.dst_read.specs.Record.{bad, is_end, mark_of}
use Rattle.dst_read.specs.Reading.{stop, verdict, goes, points_from, coordinates, marks_of}

-- ---- a turn, at record r of a file

three : (l : List ℕ) (i : ℕ) → i + 3 ≤ length l → drop i l ≡ get_or l i 0 ∷ get_or l (i + 1) 0 ∷ get_or l (i + 2) 0 ∷ drop (i + 3) l
three l i h =
    let e : i + 1 + 1 ≡ i + 2 = omega arith in
    let f : i + 2 + 1 ≡ i + 3 = omega arith in
    let b = rw e at (next l (i + 1) 0 (omega arith)) in
    let c = rw f at (next l (i + 2) 0 (omega arith)) in
    next l i 0 (omega arith) ∙ rw (b, c)

module _ (l : List ℕ) (r : ℕ) (h : 3 * r + 3 ≤ length l) where
  record_at : drop (3 * r) l ≡ get_or l (3 * r) 0 ∷ get_or l (3 * r + 1) 0 ∷ get_or l (3 * r + 2) 0 ∷ drop (3 * (r + 1)) l
  record_at = let e : 3 * (r + 1) ≡ 3 * r + 3 = omega arith in rw e (three l (3 * r) h)

  module _ (a b c : ℕ) (ea : a ≡ get_or l (3 * r) 0) (eb : b ≡ get_or l (3 * r + 1) 0) (ec : c ≡ get_or l (3 * r + 2) 0) where
    given : drop (3 * r) l ≡ a ∷ b ∷ c ∷ drop (3 * (r + 1)) l
    given = rw (ea, eb, ec) record_at

    pub verdict_end : is_end a b c ≡ true → stop DONE r ≡ verdict r (drop (3 * r) l)
    unfolding verdict
    verdict_end e = rw (given, e)

    pub verdict_size : is_end a b c ≡ false → most_records ≤ r → stop SIZE r ≡ verdict r (drop (3 * r) l)
    unfolding verdict
    verdict_size e m = rw (given, e, le-leb most_records r m)

    pub verdict_bad : is_end a b c ≡ false → r < most_records → bad a b c ≡ true → stop RECORD r ≡ verdict r (drop (3 * r) l)
    unfolding verdict
    verdict_bad e m t = rw (given, e, lt-leb most_records r m, t)

    pub verdict_next : is_end a b c ≡ false → r < most_records → bad a b c ≡ false → verdict (r + 1) (drop (3 * (r + 1)) l) ≡ verdict r (drop (3 * r) l)
    unfolding verdict
    verdict_next e m t = rw (given, e, lt-leb most_records r m, t)

    pub points_next : (at : Whole) (n : ℕ) → r < n → points_from at (n - r) (drop (3 * r) l) ≡ record { mark = mark_of c; to = goes at a b c } ∷ points_from (goes at a b c) (n - (r + 1)) (drop (3 * (r + 1)) l)
    unfolding points_from
    points_next at n m = let e : n - r ≡ suc (n - (r + 1)) = omega arith in rw (given, e)

verdict_short : (r : ℕ) (l : List ℕ) → length l < 3 → stop CUT r ≡ verdict r l
unfolding verdict
verdict_short r [] h = refl
verdict_short r (a ∷ []) h = refl
verdict_short r (a ∷ b ∷ []) h = refl
verdict_short r (a ∷ b ∷ c ∷ l) h = absurd (omega arith)

pub verdict_cut : (l : List ℕ) (r : ℕ) → length l < 3 * r + 3 → stop CUT r ≡ verdict r (drop (3 * r) l)
verdict_cut l r h = verdict_short r (drop (3 * r) l) (omega (arith, length-drop (3 * r) l))

-- ---- what a verdict says of the file

turn : (P : Verdict → Type 0) (e m t : Bool) {d s b n : Verdict} → P d → (m ≡ true → P s) → (m ≡ false → P b) → (m ≡ false → P n) → P (cond e d (cond m s (cond t b n)))
turn P true m t d s b n = d
turn P false true t d s b n = s refl
turn P false false true d s b n = b refl
turn P false false false d s b n = n refl

-- no record past the millionth is met
pub verdict_few : (r : ℕ) (l : List ℕ) → r ≤ most_records → (verdict r l).number ≤ most_records
unfolding verdict
verdict_few r [] h = h
verdict_few r (a ∷ []) h = h
verdict_few r (a ∷ b ∷ []) h = h
verdict_few r (a ∷ b ∷ c ∷ l) h = turn (λ v. v.number ≤ most_records) (is_end a b c) (leb most_records r) (bad a b c) h (λ m. h) (λ m. h) (λ m. verdict_few (r + 1) l (omega (arith, leb-false most_records r m)))

-- DONE is said of records that stand
pub verdict_stand : (r : ℕ) (l : List ℕ) → (verdict r l).answer ≡ DONE → 3 * (verdict r l).number ≤ length l + 3 * r
unfolding verdict
verdict_stand r [] e = absurd (omega arith)
verdict_stand r (a ∷ []) e = absurd (omega arith)
verdict_stand r (a ∷ b ∷ []) e = absurd (omega arith)
verdict_stand r (a ∷ b ∷ c ∷ l) e = turn (λ v. v.answer ≡ DONE → 3 * v.number ≤ suc (suc (suc (length l))) + 3 * r) (is_end a b c) (leb most_records r) (bad a b c) (λ q. omega arith) (λ m q. omega arith) (λ m q. omega arith) (λ m q. omega (arith, verdict_stand (r + 1) l q)) e

-- ---- the points of n records that stand are n

pub coordinates_length : (at : Whole) (n : ℕ) (l : List ℕ) → 3 * n ≤ length l → length (coordinates (points_from at n l)) ≡ 2 * n
unfolding points_from coordinates
coordinates_length at zero l h = refl
coordinates_length at (suc n) [] h = absurd (omega arith)
coordinates_length at (suc n) (a ∷ []) h = absurd (omega arith)
coordinates_length at (suc n) (a ∷ b ∷ []) h = absurd (omega arith)
coordinates_length at (suc n) (a ∷ b ∷ c ∷ l) h = omega (arith, coordinates_length (goes at a b c) n l (omega arith))

pub marks_length : (at : Whole) (n : ℕ) (l : List ℕ) → 3 * n ≤ length l → length (marks_of (points_from at n l)) ≡ n
unfolding points_from marks_of
marks_length at zero l h = refl
marks_length at (suc n) [] h = absurd (omega arith)
marks_length at (suc n) (a ∷ []) h = absurd (omega arith)
marks_length at (suc n) (a ∷ b ∷ []) h = absurd (omega arith)
marks_length at (suc n) (a ∷ b ∷ c ∷ l) h = omega (arith, marks_length (goes at a b c) n l (omega arith))
