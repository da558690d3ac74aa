-- What is proved of the limits' tests: a good number by its two ends, and the turns of a loop over numbers. Assumes nothing.
use Rattle.std.specs.Prelude.{ℕ, ◌+◌, ◌*◌, ◌/◌, ◌%◌, ◌≤◌, ◌<◌, ◌≡◌, Bool, true, false, ◌&&◌, List, leb, eqb, ℤ, pos, length, drop, get_or, Float}
use Rattle.std.proofs.Common.{arith, sym, ◌∙◌, mul-pos, lit≤, lt-ltb, eqb-true, eq-eqb, ne_eqb}
use Rattle.std.proofs.Math.Path.{refl}
use Rattle.std.proofs.Math.Bool.{and-false, and-true}
use Rattle.std.specs.Float.Ieee.{nan, neg, lt, le, eq, up, down, of_int, round}
use Rattle.std.specs.Float.{inf, fin}
use Rattle.std.specs.Float.Ieee.Fits.{up_pos, down_pos}
use Rattle.std.proofs.lemmas.Bool.{eqb-false}
use Rattle.numbers.specs.Num.{real}
use Rattle.numbers.specs.Order.{finite, magnitude}
use Rattle.numbers.specs.Value.{Within}
use Rattle.numbers.specs.Laws as laws
use Rattle.seqs.specs.Front.{next, none}
use Rattle.seqs.specs.Tests.{and_both}
use Rattle.geom.specs.Outline.{rising, Layout}
use Rattle.limits.specs.Limits.{most_rings, most_corners, largest, within, good_number, good_numbers, good_outline}

-- ---- a number: its size by two comparisons

eqb_sym : (a b : ℕ) → eqb a b ≡ eqb b a
eqb_sym a b = go (eqb a b) refl
  where
    go : (c : Bool) → eqb a b ≡ c → eqb a b ≡ eqb b a
    go true e = e ∙ sym (eq-eqb b a (sym (eqb-true a b e)))
    go false e = e ∙ sym (ne_eqb b a (λ q. eqb-false a b e (sym q)))

whole_pos : (m : ℕ) (d e : ℤ) → 0 < m → 0 < m * up d * down e
whole_pos m d e h = mul-pos (mul-pos h (up_pos d)) (down_pos e)

-- a negative number is at most one that isn't, where one of them is not 0
across : (m n : ℕ) (d e : ℤ) → 0 < m * up d * down e + n * up e * down d → le (fin true m d) (fin false n e) ≡ true
unfolding le lt
across m n d e h = rw (lt-ltb 0 (m * up d * down e + n * up e * down d) h)

-- two negative ones turn round
turned : (m n : ℕ) (d e : ℤ) → le (fin true m d) (fin true n e) ≡ le (fin false n e) (fin false m d)
unfolding le lt eq
turned m n d e = rw (eqb_sym (m * up d * down e) (n * up e * down d))

pub number_within : (x : Float) → within (neg largest) largest x ≡ good_number x
unfolding within good_number largest finite magnitude neg of_int round
number_within nan = unfold le in refl
number_within (inf true) = unfold le in refl
number_within (inf false) = unfold le in refl
number_within (fin false m e) = rw (across 3125 m (pos 5) e (omega (arith, whole_pos 3125 (pos 5) e (omega arith))))
number_within (fin true m e) = rw (turned 3125 m (pos 5) e, across m 3125 e (pos 5) (omega (arith, whole_pos 3125 (pos 5) e (omega arith)))) (and-true _)

-- an accepted number is at most 2 ^ 17 in size
pub good_within : (x : Float) → good_number x ≡ true → Within 17 x
unfolding good_number largest
good_within x h = laws.within_le 17 x (real (pos 100000)) (laws.holds (and_both (finite x) (le (magnitude x) (real (pos 100000))) h).1) (laws.within_real 17 (pos 100000) (lit≤ tt) (lit≤ tt))

-- ---- numbers

module _ (ok : Bool) (l : List Float) (i : ℕ) where
  pub numbers_good : i < length l → good_number (get_or l i nan) ≡ true → (ok && good_numbers (drop (i + 1) l)) ≡ (ok && good_numbers (drop i l))
  unfolding good_numbers
  numbers_good h g = rw (next l i nan h, g)

  pub numbers_bad : i < length l → good_number (get_or l i nan) ≡ false → false ≡ (ok && good_numbers (drop i l))
  unfolding good_numbers
  numbers_bad h g = rw (next l i nan h, g) (sym (and-false ok))

  pub numbers_end : length l ≤ i → ok ≡ (ok && good_numbers (drop i l))
  unfolding good_numbers
  numbers_end h = rw (none l i h) (sym (and-true ok))

-- ---- layout

-- an accepted outline can be lent ring by ring
pub outline_layout : (corners : List Float) (ends : List ℕ) → good_outline corners ends ≡ true → Layout corners ends
unfolding good_outline
outline_layout corners ends h =
    let p = and_both (eqb (length corners % 2) 0 && leb (length ends) most_rings && leb (length corners / 2) most_corners) (rising 0 ends (length corners / 2)) h in
    let q = and_both (eqb (length corners % 2) 0 && leb (length ends) most_rings) (leb (length corners / 2) most_corners) p.0 in
    let r = and_both (eqb (length corners % 2) 0) (leb (length ends) most_rings) q.0 in
    record { even = eqb-true _ _ r.0; rise = p.1 }
