-- What is proved of the passes: a pass by its pairs, and what each of them sews. Assumes nothing.
use Prim.Native.Nat.{ℕ, zero, suc, ◌+◌, ◌-◌, ◌*◌, ◌/◌, ◌%◌, ◌≤◌, ◌<◌}
use native.Mathlib.Omega.{arith}
use Rattle.std.specs.Prelude.{◌≡◌, Bool, true, false, cond, eqb, length, take, drop, get_or, Float}
use Rattle.std.proofs.Math.Path.{refl, ap}
use Rattle.std.proofs.Common.{◌∙◌, eq-eqb, ne_eqb, eqb-true}
use mathlib.Core.List.{List, [], ◌∷◌, ◌++◌, map}
use Rattle.std.proofs.lemmas.List.{length-reverse}
use Rattle.std.specs.Float.{nan}
use Rattle.std.proofs.lemmas.Bool.{eqb-false}
use Rattle.seqs.specs.Slices.{put}
use Rattle.seqs.specs.Front.{Front, front_at, next, none}
use Rattle.seqs.specs.Wrote.{put_room}
use Rattle.seqs.specs.Reverse.{get_d_reverse, place_below}
use Rattle.geom.specs.declared.point.P.{P}
use Rattle.geom.specs.Point.{point}
use Rattle.geom.specs.Outline.{points}
use Rattle.geom.specs.OutlineLaws.{points_length, points_at}
use Rattle.geom.specs.Sewing.{flat}
use Rattle.geom.specs.SewingLaws.{flat_length, points_room, points_put}
use Rattle.satinrules.specs.declared.Pair.{Pair}
use Rattle.satinrules.specs.Column.{middle, inset, alternate, turned_if}
use Rattle.satinrules.specs.Calls.{both_points}
use Rattle.passes.specs.declared.threads.Thread.{Thread}
use Rattle.passes.specs.declared.threads.Thread.TheVariants.{Middle, SideA, SideB, Alternate}
use Rattle.passes.specs.Threads.{pair_in, pairs_in, point_of, thread_from, thread_of}

-- ---- the pairs of a slice

pub pairs_in_length : (ps : List P) → length (pairs_in ps) ≡ length ps / 2
unfolding pairs_in
pairs_in_length [] = refl
pairs_in_length (p ∷ []) = refl
pairs_in_length (p ∷ q ∷ ps) = omega (arith, pairs_in_length ps)

-- what was laid is read back
pub pairs_in_both : (qs : List Pair) → pairs_in (both_points qs) ≡ qs
unfolding pairs_in both_points
pairs_in_both [] = refl
pairs_in_both (q ∷ qs) = ap (λ (r : List Pair). q ∷ r) (pairs_in_both qs)

pairs_in_at : (ps : List P) (j : ℕ) (z : P) → 2 * j + 1 < length ps → get_or (pairs_in ps) j (record { a = z; b = z }) ≡ record { a = get_or ps (2 * j) z; b = get_or ps (2 * j + 1) z }
unfolding pairs_in
pairs_in_at [] j z h = absurd (omega arith)
pairs_in_at (p ∷ []) j z h = absurd (omega arith)
pairs_in_at (p ∷ q ∷ ps) zero z h = refl
pairs_in_at (p ∷ q ∷ ps) (suc j) z h = let e : 2 * suc j ≡ suc (suc (2 * j)) = omega arith in let f : 2 * suc j + 1 ≡ suc (suc (2 * j + 1)) = omega arith in pairs_in_at ps j z (omega arith) ∙ rw (f, e)

abbrev pub no_pair : Pair
no_pair = record { a = point nan nan; b = point nan nan }

pub slice_at : (s : List Float) (j : ℕ) → j < length s / 4 → get_or (pairs_in (points s)) j no_pair ≡ pair_in s (4 * j)
slice_at s j h =
    let e : 2 * (2 * j) ≡ 4 * j = omega arith in
    let f : 2 * (2 * j + 1) ≡ 4 * j + 2 = omega arith in
    let p = rw e at (points_at s (2 * j) (point nan nan) (omega arith)) in
    let q = rw f at (points_at s (2 * j + 1) (point nan nan) (omega arith)) in
    pairs_in_at (points s) j (point nan nan) (omega (arith, points_length s)) ∙ rw (p, q)

pub slice_length : (s : List Float) → length (pairs_in (points s)) ≡ length s / 4
slice_length s = omega (arith, pairs_in_length (points s), points_length s)

-- ---- a pass

module _ (t : Thread) where
  pub thread_length : (j : ℕ) (qs : List Pair) → length (thread_from t j qs) ≡ length qs
  unfolding thread_from
  thread_length j [] = refl
  thread_length j (q ∷ qs) = ap suc (thread_length (j + 1) qs)

  thread_at : (k : ℕ) (qs : List Pair) (j : ℕ) (z : P) (y : Pair) → j < length qs → get_or (thread_from t k qs) j z ≡ point_of t (k + j) (get_or qs j y)
  unfolding thread_from
  thread_at k [] j z y h = absurd (omega arith)
  thread_at k (q ∷ qs) zero z y h = let e : k + 0 ≡ k = omega arith in rw e
  thread_at k (q ∷ qs) (suc j) z y h = let e : k + 1 + j ≡ k + suc j = omega arith in rw e at (thread_at (k + 1) qs j z y (omega arith))

pub turned_length : (l : List P) (back : Bool) → length (turned_if back l) ≡ length l
turned_length l true = length-reverse l
turned_length l false = refl

turned_at : (l : List P) (back : Bool) (r : ℕ) (z : P) → r < length l → get_or (turned_if back l) r z ≡ get_or l (cond back (length l - 1 - r) r) z
turned_at l true r z h = get_d_reverse l r z h
turned_at l false r z h = refl

-- the pass over the pairs of a slice
abbrev pub pass_over : List Float → Thread → Bool → List P
pass_over s t back = turned_if back (thread_of t (pairs_in (points s)))

pub pass_length : (s : List Float) (t : Thread) (back : Bool) → length (pass_over s t back) ≡ length s / 4
pass_length s t back = turned_length (thread_of t (pairs_in (points s))) back ∙ thread_length t 0 (pairs_in (points s)) ∙ slice_length s

pass_next : (s : List Float) (t : Thread) (back : Bool) (r : ℕ) → r < length s / 4
    → drop r (pass_over s t back) ≡ point_of t (cond back (length s / 4 - 1 - r) r) (pair_in s (4 * cond back (length s / 4 - 1 - r) r)) ∷ drop (r + 1) (pass_over s t back)
pass_next s t back r h =
    let l = thread_of t (pairs_in (points s)) in
    let n = thread_length t 0 (pairs_in (points s)) ∙ slice_length s in
    let j = cond back (length s / 4 - 1 - r) r in
    let z = point nan nan in
    let e : get_or (turned_if back l) r z ≡ get_or l j z = turned_at l back r z (omega (arith, n)) ∙ rw n in
    let o : 0 + j ≡ j = omega arith in
    let f : get_or l j z ≡ point_of t j (pair_in s (4 * j)) = (rw o at (thread_at t 0 (pairs_in (points s)) j z no_pair (omega (arith, slice_length s, place_below back r (length s / 4) h)))) ∙ ap (point_of t j) (slice_at s j (place_below back r (length s / 4) h)) in
    next (turned_if back l) r z (omega (arith, turned_length l back, n)) ∙ ap (λ (p : P). p ∷ drop (r + 1) (turned_if back l)) (e ∙ f)

pub pass_none : (s : List Float) (t : Thread) (back : Bool) (r : ℕ) → length s / 4 ≤ r → drop r (pass_over s t back) ≡ []
pass_none s t back r h = none (pass_over s t back) r (omega (arith, pass_length s t back))

-- the point at r is next
module _ {d₀ d : List Float} {to : ℕ} (k : ℕ) (s : List Float) (t : Thread) (back : Bool) (r : ℕ)
    (f : Front d₀ d to (flat (drop r (pass_over s t back))) (take k d₀ ++ flat (pass_over s t back)))
    (fits : k + 2 * (length s / 4) ≤ length d₀) (more : r < length s / 4) where
  abbrev here : P
  here = point_of t (cond back (length s / 4 - 1 - r) r) (pair_in s (4 * cond back (length s / 4 - 1 - r) r))

  up : Front d₀ d to (flat (here ∷ drop (r + 1) (pass_over s t back))) (take k d₀ ++ flat (pass_over s t back))
  up = front_at (ap flat (pass_next s t back r more)) f

  room : length (take k d₀ ++ flat (pass_over s t back)) ≤ length d₀
  room = put_room d₀ (flat (pass_over s t back)) k (omega (arith, fits, flat_length (pass_over s t back), pass_length s t back))

  pub pass_room : to + 2 ≤ length d
  pass_room = omega (arith, points_room (here ∷ []) (drop (r + 1) (pass_over s t back)) up room)

  pub pass_put : (y : List Float) → y ≡ put d to (flat (here ∷ [])) → Front d₀ y (to + 2) (flat (drop (r + 1) (pass_over s t back))) (take k d₀ ++ flat (pass_over s t back))
  pass_put y e = points_put (here ∷ []) (drop (r + 1) (pass_over s t back)) up room y e

-- ---- what each pass sews

middles : (j : ℕ) (qs : List Pair) → thread_from Middle j qs ≡ map middle qs
unfolding thread_from point_of
middles j [] = refl
middles j (q ∷ qs) = ap (λ (r : List P). middle q ∷ r) (middles (j + 1) qs)

sides_a : (j : ℕ) (qs : List Pair) → thread_from SideA j qs ≡ map (λ q. q.a) (map inset qs)
unfolding thread_from point_of
sides_a j [] = refl
sides_a j (q ∷ qs) = ap (λ (r : List P). (inset q).a ∷ r) (sides_a (j + 1) qs)

sides_b : (j : ℕ) (qs : List Pair) → thread_from SideB j qs ≡ map (λ q. q.b) (map inset qs)
unfolding thread_from point_of
sides_b j [] = refl
sides_b j (q ∷ qs) = ap (λ (r : List P). (inset q).b ∷ r) (sides_b (j + 1) qs)

alternates : (second : Bool) (j : ℕ) (qs : List Pair) → eqb (j % 2) 1 ≡ second → thread_from Alternate j qs ≡ alternate second (map inset qs)
unfolding thread_from point_of alternate
alternates second j [] e = refl
alternates true j (q ∷ qs) e = rw e (ap (λ (r : List P). (inset q).b ∷ r) (alternates false (j + 1) qs (ne_eqb ((j + 1) % 2) 1 (λ z. omega (arith, eqb-true (j % 2) 1 e)))))
alternates false j (q ∷ qs) e = rw e (ap (λ (r : List P). (inset q).a ∷ r) (alternates true (j + 1) qs (eq-eqb ((j + 1) % 2) 1 (odd_next j (eqb-false (j % 2) 1 e)))))
  where
    odd_next : (j : ℕ) → (j % 2 ≡ 1 → ⊥) → (j + 1) % 2 ≡ 1
    odd_next j h = omega (arith, h)

pub middle_thread : (qs : List Pair) → thread_of Middle qs ≡ map middle qs
middle_thread qs = middles 0 qs

pub a_thread : (qs : List Pair) → thread_of SideA qs ≡ map (λ q. q.a) (map inset qs)
a_thread qs = sides_a 0 qs

pub b_thread : (qs : List Pair) → thread_of SideB qs ≡ map (λ q. q.b) (map inset qs)
b_thread qs = sides_b 0 qs

pub alternate_thread : (qs : List Pair) → thread_of Alternate qs ≡ alternate false (map inset qs)
alternate_thread qs = alternates false 0 qs refl
