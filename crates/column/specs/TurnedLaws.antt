-- What is proved of points that are turned round in place, the ends of what is left exchanged at each turn. Assumes nothing.
use Rattle.std.specs.Prelude.{ℕ, zero, suc, ◌+◌, ◌-◌, ◌*◌, ◌%◌, ◌≤◌, ◌<◌, ◌≡◌, refl, length, set, get_or, Float}
use Rattle.std.proofs.Common.{arith, sym, ◌∙◌, length-append}
use Rattle.std.proofs.Math.Path.{ap}
use mathlib.Core.List.{List, [], ◌∷◌, ◌++◌, append_assoc, append-nil, reverse, reverse-cons, reverse-append}
use Rattle.std.proofs.Math.ListN.{length-set}
use Rattle.std.proofs.Math.Seq.{get_or-append_seam, set-append_seam, append_snoc}
use Rattle.std.specs.Float.Ieee.{nan}
use Rattle.seqs.specs.Slices.{put}
use Rattle.geom.specs.declared.point.P.{P}
use Rattle.geom.specs.Point.{point}
use Rattle.geom.specs.Outline.{points}
use Rattle.geom.specs.OutlineLaws.{corner_at, points_length, points_at}
use Rattle.geom.specs.Sewing.{flat}
use Rattle.geom.specs.SewingLaws.{flat_length, points_flat}
use Rattle.column.specs.Turned.{swapped}

-- ---- the ends of a list

-- a list that is not empty ends in a point
snoc_of : (x : P) (t : List P) → (m : List P) × (y : P) × (x ∷ t ≡ m ++ (y ∷ []))
snoc_of x [] = ([], x, refl)
snoc_of x (q ∷ t) = (x ∷ (snoc_of q t).0, (snoc_of q t).1, ap (λ (l : List P). x ∷ l) (snoc_of q t).2)

two : (l : List P) → 1 < length l → (x : P) × (m : List P) × (y : P) × (l ≡ x ∷ (m ++ (y ∷ [])))
two [] h = absurd (omega arith)
two (x ∷ []) h = absurd (omega arith)
two (x ∷ q ∷ t) h = (x, (snoc_of q t).0, (snoc_of q t).1, ap (λ (l : List P). x ∷ l) (snoc_of q t).2)

short : (l : List P) → length l ≤ 1 → reverse l ≡ l
short [] h = refl
short (x ∷ []) h = refl
short (x ∷ q ∷ t) h = absurd (omega arith)

ends_turned : (x : P) (m : List P) (y : P) → reverse (x ∷ (m ++ (y ∷ []))) ≡ y ∷ (reverse m ++ (x ∷ []))
ends_turned x m y = reverse-cons x (m ++ (y ∷ [])) ∙ ap (λ (l : List P). l ++ (x ∷ [])) (reverse-append m (y ∷ []))

swap_mid : (e m z : List P) (x y : P) → swapped (length e) (length (e ++ (x ∷ m))) (e ++ (x ∷ (m ++ (y ∷ z)))) ≡ e ++ (y ∷ (m ++ (x ∷ z)))
unfolding swapped
swap_mid [] m z x y = λ k. get_or-append_seam m y z (point nan nan) k ∷ set-append_seam m y z x k
swap_mid (p ∷ e) m z x y = ap (λ (l : List P). p ∷ l) (swap_mid e m z x y)

-- ---- the loop: xs is goal, but for the d points from i on, which are still to be turned

pub record Mid (xs goal : List P) (i d : ℕ) : Type 0 where
  e : List P
  mid : List P
  z : List P
  is : xs ≡ e ++ (mid ++ z)
  then : goal ≡ e ++ (reverse mid ++ z)
  at : length e ≡ i
  len : length mid ≡ d

pub mid_start : (xs : List P) → Mid xs (reverse xs) 0 (length xs)
mid_start xs = record { e = []; mid = xs; z = []; is = sym (append-nil xs); then = sym (append-nil (reverse xs)); at = refl; len = refl }

pub mid_done : {xs goal : List P} {i d : ℕ} → Mid xs goal i d → d ≤ 1 → xs ≡ goal
mid_done m h = m.is ∙ ap (λ (l : List P). m.e ++ (l ++ m.z)) (sym (short m.mid (omega (arith, m.len)))) ∙ sym m.then

-- the ends of what is left, exchanged
pub mid_step : {xs goal : List P} {i d : ℕ} (j k : ℕ) → Mid xs goal i d → 1 < d → j + 1 ≡ i + d → k + 2 ≡ d → Mid (swapped i j xs) goal (i + 1) k
mid_step {xs} {goal} {i} {d} j k w h q r =
    let tw : (x : P) × (m : List P) × (y : P) × (w.mid ≡ x ∷ (m ++ (y ∷ []))) = two w.mid (omega (arith, w.len)) in
    let x : P = tw.0 in
    let m : List P = tw.1 in
    let y : P = tw.2 in
    let s : length w.mid ≡ suc (length (m ++ (y ∷ []))) = ap length tw.3 in
    let d-is : d ≡ length m + 2 = omega (arith, w.len, s, length-append m (y ∷ [])) in
    let xs-is : xs ≡ w.e ++ (x ∷ (m ++ (y ∷ w.z))) = w.is ∙ ap (λ (l : List P). w.e ++ (l ++ w.z)) tw.3 ∙ ap (λ (l : List P). w.e ++ (x ∷ l)) (append_assoc m (y ∷ []) w.z) in
    let j-is : j ≡ length (w.e ++ (x ∷ m)) = omega (arith, q, d-is, w.at, length-append w.e (x ∷ m)) in
    record {
      e = w.e ++ (y ∷ []);
      mid = m;
      z = x ∷ w.z;
      is = (λ t. swapped (sym w.at t) (j-is t) (xs-is t)) ∙ swap_mid w.e m w.z x y ∙ sym (append_snoc w.e y (m ++ (x ∷ w.z)));
      then = w.then ∙ ap (λ (l : List P). w.e ++ (l ++ w.z)) (ap reverse tw.3 ∙ ends_turned x m y)
          ∙ ap (λ (l : List P). w.e ++ (y ∷ l)) (append_assoc (reverse m) (x ∷ []) w.z) ∙ sym (append_snoc w.e y (reverse m ++ (x ∷ w.z)));
      at = omega (arith, length-append w.e (y ∷ []), w.at);
      len = omega (arith, d-is, r);
    }

-- ---- points in a slice

pub flat_points : (l : List Float) → length l % 2 ≡ 0 → flat (points l) ≡ l
unfolding flat points
flat_points [] h = refl
flat_points (x ∷ []) h = let z : ⊥ = omega arith in absurd z
flat_points (x ∷ y ∷ l) h = ap (λ (r : List Float). x ∷ y ∷ r) (flat_points l (omega arith))

-- a point put into its place
put_one : (ps : List P) (i : ℕ) (p : P) → i < length ps → put (flat ps) (2 * i) (flat (p ∷ [])) ≡ flat (set ps i p)
unfolding flat
put_one [] i p h = absurd (omega arith)
put_one (q ∷ ps) zero p h = refl
put_one (q ∷ ps) (suc i) p h = let e : 2 * suc i ≡ suc (suc (2 * i)) = omega arith in rw e (ap (λ (l : List Float). q.x ∷ q.y ∷ l) (put_one ps i p (omega arith)))

module _ (s : List Float) (even : length s % 2 ≡ 0) (i j : ℕ) (hi : 2 * i + 1 < length s) (hj : 2 * j + 1 < length s) where
  first : put s (2 * i) (flat (corner_at s (2 * j) ∷ [])) ≡ flat (set (points s) i (corner_at s (2 * j)))
  first = rw (flat_points s even) at (put_one (points s) i (corner_at s (2 * j)) (omega (arith, points_length s)))

  -- two points written, each where the other stood
  pub swap_put : (d y : List Float) → d ≡ put s (2 * i) (flat (corner_at s (2 * j) ∷ [])) → y ≡ put d (2 * j) (flat (corner_at s (2 * i) ∷ [])) → y ≡ flat (swapped i j (points s))
  unfolding swapped
  swap_put d y e f =
      let z = point nan nan in
      f ∙ ap (λ (l : List Float). put l (2 * j) (flat (corner_at s (2 * i) ∷ []))) (e ∙ first)
      ∙ put_one (set (points s) i (corner_at s (2 * j))) j (corner_at s (2 * i)) (omega (arith, points_length s, length-set (points s) i (corner_at s (2 * j))))
      ∙ rw (points_at s i z hi, points_at s j z hj)

pub swap_size : (i j : ℕ) (ps : List P) → length (swapped i j ps) ≡ length ps
unfolding swapped
swap_size i j ps = length-set (set ps i (get_or ps j (point nan nan))) j (get_or ps i (point nan nan)) ∙ length-set ps i (get_or ps j (point nan nan))

-- ---- the turns of the loop, in the slice

pub turn_size : (s y : List Float) (i j : ℕ) → length s % 2 ≡ 0 → y ≡ flat (swapped i j (points s)) → length y ≡ length s
turn_size s y i j even e = ap length e ∙ omega (arith, flat_length (swapped i j (points s)), swap_size i j (points s), points_length s, even)

pub mid_turn : (s y : List Float) {goal : List P} (i n : ℕ) → Mid (points s) goal i (n - 2 * i) → 2 * i + 1 < n → y ≡ flat (swapped i (n - 1 - i) (points s)) → Mid (points y) goal (i + 1) (n - 2 * (i + 1))
mid_turn s y i n m h e = rw (ap points e ∙ points_flat (swapped i (n - 1 - i) (points s))) (mid_step (n - 1 - i) (n - 2 * (i + 1)) m (omega arith) (omega arith) (omega arith))

pub mid_end : (s : List Float) {goal : List P} {i d : ℕ} → length s % 2 ≡ 0 → Mid (points s) goal i d → d ≤ 1 → s ≡ flat goal
mid_end s even m h = sym (flat_points s even) ∙ ap flat (mid_done m h)
