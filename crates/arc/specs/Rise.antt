-- Running lengths rise, for a rail of accepted numbers. Assumes nothing.
use Rattle.std.specs.Prelude.{ℕ, zero, suc, ◌%◌, ◌≤◌, ◌<◌, ◌≡◌, true, List, [], ◌∷◌, T, length, get_or, Float}
use Rattle.std.proofs.Common.{arith, lit≤}
use Rattle.std.specs.Float.{nan, binary64}
use Rattle.std.specs.Float.Ieee.{le, fits}
use Rattle.numbers.specs.Num.{◌⊕◌, ◌⊖◌, ◌⊗◌, zero64}
use Rattle.numbers.specs.Value.{Within}
use Rattle.numbers.specs.Laws.{le_trans, add-fits, sum_up, square_up, holds, within_sub, within_finite, over_up}
use Rattle.numbers.proofs.Laws.{root_up}
use Rattle.seqs.specs.Lists.{All}
use Rattle.seqs.specs.Tests.{is_true, and_both}
use Rattle.geom.specs.declared.point.P.{P}
use Rattle.geom.specs.Point.{len, dist}
use Rattle.geom.specs.Outline.{points}
use Rattle.geom.specs.OutlineLaws.{points_length}
use Rattle.limits.specs.Limits.{good_number, good_numbers}
use Rattle.limits.specs.LimitsLaws.{good_within}
use Rattle.satinrules.specs.Arc.{lengths_from, lengths}
use Rattle.arc.specs.Rail.{Rising, Railed}
use Rattle.arc.specs.RailLaws.{lengths_count}

-- each at least the one before it
Chain : Float → List Float → Type 0
Chain s [] = Unit {0}
Chain s (c ∷ l) = T (le s c) × Chain c l

first : (s : Float) (l : List Float) → Chain s l → (j : ℕ) (t : Float) → j < length (s ∷ l) → T (le (get_or (s ∷ l) j nan) t) → T (le s t)
unfolding Chain
first s l c zero t h e = e
first s [] c (suc j) t h e = absurd (omega arith)
first s (x ∷ l) c (suc j) t h e = le_trans s x t c.0 (first x l c.1 j t (omega arith) e)

chained : (s : Float) (l : List Float) → Chain s l → (i j : ℕ) (t : Float) → i ≤ j → j < length (s ∷ l) → T (le (get_or (s ∷ l) j nan) t) → T (le (get_or (s ∷ l) i nan) t)
unfolding Chain
chained s l c zero j t h k e = first s l c j t k e
chained s l c (suc i) zero t h k e = absurd (omega arith)
chained s [] c (suc i) (suc j) t h k e = absurd (omega arith)
chained s (x ∷ l) c (suc i) (suc j) t h k e = chained x l c.1 i j t (omega arith) (omega arith) e

chain_rising : (s : Float) (l : List Float) → Chain s l → Rising (s ∷ l)
chain_rising s l c = record { rises = λ i j t h k e. is_true _ (chained s l c i j t h k (holds e)) }

-- ---- corners of accepted numbers

Small : P → Type 0
Small p = Within 17 p.x × Within 17 p.y

all_small : (l : List Float) → good_numbers l ≡ true → All Small (points l)
unfolding points good_numbers Small
all_small [] h = tt
all_small (x ∷ []) h = tt
all_small (x ∷ y ∷ l) h =
    let a = and_both (good_number x) (good_numbers (y ∷ l)) h in
    let b = and_both (good_number y) (good_numbers l) a.1 in
    ((good_within x a.0, good_within y b.0), all_small l b.1)

apart_up : (x y : Float) → Within 17 x → Within 17 y → T (le zero64 ((x ⊖ y) ⊗ (x ⊖ y)))
apart_up x y h k = square_up (x ⊖ y) (within_finite 18 (x ⊖ y) (within_sub 17 x y (lit≤ tt) h k))

dist_up : (p q : P) → Small p → Small q → T (le zero64 (dist p q))
unfolding dist len Small
dist_up p q h k =
    let x = p.x ⊖ q.x in
    let y = p.y ⊖ q.y in
    root_up (x ⊗ x ⊕ y ⊗ y) (add-fits binary64 (x ⊗ x) (y ⊗ y)) (sum_up (x ⊗ x) (y ⊗ y) (apart_up p.x q.x h.0 k.0) (apart_up p.y q.y h.1 k.1))

later_chain : (s : Float) (p : P) (ps : List P) → T (fits binary64 s) → T (le zero64 s) → Small p → All Small ps → Chain s (lengths_from s p ps)
unfolding Chain lengths_from
later_chain s p [] f z h hs = tt
later_chain s p (q ∷ ps) f z h hs =
    let g = over_up s (dist p q) f z (dist_up p q h hs.0) in
    (g, later_chain (s ⊕ dist p q) q ps (add-fits binary64 s (dist p q)) (le_trans zero64 s (s ⊕ dist p q) z g) hs.0 hs.1)

lengths_rise : (ps : List P) → 1 ≤ length ps → All Small ps → Rising (lengths ps)
unfolding lengths
lengths_rise [] n hs = absurd (omega arith)
lengths_rise (p ∷ ps) n hs = chain_rising zero64 (lengths_from zero64 p ps) (later_chain zero64 p ps (unfold fits in tt) (unfold le in tt) hs.0 hs.1)

-- what `at` asks of a rail and its running lengths
pub railed : (pts : List Float) → length pts % 2 ≡ 0 → 2 ≤ length pts → good_numbers pts ≡ true → Railed pts (lengths (points pts))
railed pts even two good = record {
  some = omega (arith, lengths_count (points pts), points_length pts);
  twice = omega (arith, lengths_count (points pts), points_length pts);
  rising = lengths_rise (points pts) (omega (arith, points_length pts)) (all_small pts good);
}
