-- In rows that rise the pieces that overlap one piece stand side by side, so that neighbours decide. Assumes nothing.
use Prim.Native.Nat.{ℕ, zero, suc, ◌+◌, ◌-◌, ◌≤◌, ◌<◌}
use native.Mathlib.Omega.{arith}
use Rattle.std.specs.Prelude.{◌≡◌, Bool, true, not, ◌&&◌, T, ltb, eqb, length, get_or, Float, Option, Some, None}
use Rattle.std.proofs.Math.Path.{refl, sym, ap}
use Rattle.std.proofs.Common.{◌∙◌, subst, true≢false, ne_eqb, lt-ltb, ltb-true}
use Rattle.std.proofs.Math.Bool.{false}
use mathlib.Core.List.{List, [], ◌∷◌, map}
use Rattle.std.proofs.lemmas.List.{length-map}
use Rattle.std.proofs.Math.ListN.{get_or-map}
use Rattle.std.specs.Float.Ieee.{le, lt}
use Rattle.std.specs.Float.Ieee.Bits.{is_true}
use Rattle.std.proofs.lemmas.Bool.{not-true, not-false}
use Rattle.numbers.specs.FloatOrder.{le_lt_trans, lt_le_trans}
use Rattle.numbers.specs.Laws.{holds}
use Rattle.seqs.specs.Lists.{upto, All}
use Rattle.seqs.specs.All.{all_map, sorted_at}
use Rattle.seqs.specs.Sift.{sift_none, sift_pass}
use Rattle.seqs.specs.Tests.{clash, refute, and_both}
use Rattle.seqs.specs.Upto.{upto_length, upto_at, upto_all, upto_jump}
use Rattle.geom.specs.declared.point.P.{P}
use Rattle.outlines.specs.declared.rule.FillRule.{FillRule}
use Rattle.rules.specs.declared.Settings.{Settings}
use Rattle.rules.specs.declared.Piece.{Piece}
use Rattle.rules.specs.Fill.{overlap}
use Rattle.rules.specs.Rise.{Onward}
use Rattle.sections.specs.declared.Row.{Row}
use Rattle.sections.specs.Mark.{piece_in, hits, over, under, count_of, only_at, joined_at, joins_at}
use Rattle.sections.specs.MarkLaws.{hits_next, count_kept, count_passed}
use Rattle.sections.specs.Rises.{xa_at, xb_at, Rising}

-- ---- tests

second : (a b : Bool) → (a && b) ≡ false → a ≡ true → b ≡ false
second true b e h = e
second false b e h = clash h refl

first : (a b : Bool) → (a && b) ≡ false → b ≡ true → a ≡ false
first true true e h = e
first true false e h = clash h refl
first false b e h = refl

neither : (a b : Bool) → b ≡ false → (a && b) ≡ false
neither true b e = e
neither false b e = refl

-- ---- places

module _ (p : ℕ → Bool) where
  pub hits_empty : (i n : ℕ) → ((u : ℕ) → i ≤ u → u < n → p u ≡ false) → hits p i n ≡ []
  hits_empty i n h = sift_none p (upto i (n - i)) (all_map (λ u b. h u b.0 (omega (arith, b))) (upto i (n - i)) (upto_all i (n - i)))

  -- there is one at j
  count_more : (k i j n : ℕ) → i + k ≡ j → j < n → p j ≡ true → suc (count_of p (j + 1) n) ≤ count_of p i n
  count_more zero i j n e h t = let z : i ≡ j = omega arith in rw z (omega (arith, count_kept p j n h t))
  count_more (suc k) i j n e h t = go (p i) refl (count_more k (i + 1) j n (omega arith) h t)
    where
      go : (b : Bool) → p i ≡ b → suc (count_of p (j + 1) n) ≤ count_of p (i + 1) n → suc (count_of p (j + 1) n) ≤ count_of p i n
      go true q rest = omega (arith, count_kept p i n (omega arith) q, rest)
      go false q rest = omega (arith, count_passed p i n (omega arith) q, rest)

  -- two neighbours
  pub count_two : (i j n : ℕ) → i ≤ j → j + 1 < n → p j ≡ true → p (j + 1) ≡ true → eqb (count_of p i n) 1 ≡ false
  count_two i j n a b t u = ne_eqb (count_of p i n) 1 (λ e. omega (arith, count_more (j - i) i j n (omega arith) (omega arith) t, count_kept p (j + 1) n b u))

  -- j alone
  pub count_only : (i j n : ℕ) → i ≤ j → j < n → p j ≡ true → ((u : ℕ) → i ≤ u → u < j → p u ≡ false) → ((u : ℕ) → j + 1 ≤ u → u < n → p u ≡ false) → eqb (count_of p i n) 1 ≡ true
  unfolding count_of
  count_only i j n a b t low high =
      let e : hits p i n ≡ j ∷ [] = upto_jump p n i j a (omega arith) low ∙ (rw t at (hits_next p j n b)) ∙ ap (λ m. j ∷ m) (hits_empty (j + 1) n high) in
      rw e

-- ---- rows that rise

module _ (l : List Float) (from to : ℕ) (r : Rising l from to) where
  abbrev row : List Piece
  row = map (piece_in l) (upto from (to - from))

  row_at_lem : (t : ℕ) → from ≤ t → t < to → get_or row (t - from) (piece_in l 0) ≡ piece_in l t
  row_at_lem t a b =
      let e : from + (t - from) ≡ t = omega arith in
      get_or-map (piece_in l) (upto from (to - from)) (t - from) 0 ∙ ap (piece_in l) (upto_at from (to - from) (t - from) 0 (omega arith) ∙ e)

  pub rise : (t u : ℕ) → from ≤ t → t < u → u < to → T (le (xa_at l t) (xa_at l u)) × T (le (xb_at l t) (xb_at l u))
  rise t u a b c =
      let k : length row ≡ to - from = length-map (upto from (to - from)) (piece_in l) ∙ upto_length from (to - from) in
      let h = sorted_at Onward row (t - from) (u - from) (piece_in l 0) (omega arith) (omega arith) r.up in
      subst (λ p. Onward p (piece_in l u)) (row_at_lem t a (omega arith)) (subst (λ p. Onward (get_or row (t - from) (piece_in l 0)) p) (row_at_lem u (omega arith) c) h)

  -- what lies left of x at t does so before t; what reaches past it, after t
  pub left_before : (x : Float) (t u : ℕ) → from ≤ u → u < t → t < to → lt x (xb_at l t) ≡ false → lt x (xb_at l u) ≡ false
  left_before x t u a b c e = refute (lt x (xb_at l u)) (λ h. clash (is_true _ (lt_le_trans x (xb_at l u) (xb_at l t) (holds h) (rise u t a b c).1)) e)

  pub past_after : (x : Float) (t u : ℕ) → from ≤ t → t < u → u < to → lt x (xb_at l t) ≡ true → lt x (xb_at l u) ≡ true
  past_after x t u a b c e = is_true _ (lt_le_trans x (xb_at l t) (xb_at l u) (holds e) (rise t u a b c).1)

  -- what starts right of x at t does so after t; what starts left of it, before t
  pub right_after : (x : Float) (t u : ℕ) → from ≤ t → t < u → u < to → lt (xa_at l t) x ≡ false → lt (xa_at l u) x ≡ false
  right_after x t u a b c e = refute (lt (xa_at l u) x) (λ h. clash (is_true _ (le_lt_trans (xa_at l t) (xa_at l u) x (rise t u a b c).0 (holds h))) e)

  pub begun_before : (x : Float) (t u : ℕ) → from ≤ u → u < t → t < to → lt (xa_at l t) x ≡ true → lt (xa_at l u) x ≡ true
  begun_before x t u a b c e = is_true _ (le_lt_trans (xa_at l u) (xa_at l t) x (rise u t a b c).0 (holds e))

-- ---- the open place that p overlaps

module _ (l : List Float) (b r : ℕ) (up : Rising l b r) (p : Piece) (t : ℕ) (low : b ≤ t) (high : t ≤ r) (before : (u : ℕ) → b ≤ u → u < t → lt p.xa (xb_at l u) ≡ false) where
  abbrev near : ℕ → Bool
  near = over l p

  from_t : hits near b r ≡ hits near t r
  unfolding overlap
  from_t = upto_jump near r b t low high (λ u a c. neither (lt (xa_at l u) p.xb) (lt p.xa (xb_at l u)) (before u a c))

  pub only_none : r ≤ t → None ≡ only_at (hits near b r)
  only_none h = sym (ap only_at (from_t ∙ hits_empty near t r (λ u a c. absurd (omega arith))))

  -- from a place on whose piece starts right of p
  after_t : (v : ℕ) → b ≤ v → v < r → lt (xa_at l v) p.xb ≡ false → hits near v r ≡ []
  unfolding overlap
  after_t v a c e = hits_empty near v r (λ u d f. side u d f)
    where
      side : (u : ℕ) → v ≤ u → u < r → near u ≡ false
      side u d f = rw (starts u d f)
        where
          starts : (u : ℕ) → v ≤ u → u < r → lt (xa_at l u) p.xb ≡ false
          starts u d f = go (u - v) refl
            where
              go : (k : ℕ) → u - v ≡ k → lt (xa_at l u) p.xb ≡ false
              go zero q = let z : u ≡ v = omega arith in rw z e
              go (suc k) q = right_after l b r up p.xb v u a (omega arith) f e

  module _ (here : t < r) (past : lt p.xa (xb_at l t) ≡ true) where
    pub only_right : over l p t ≡ false → None ≡ only_at (hits near b r)
    unfolding overlap
    only_right e = sym (ap only_at (from_t ∙ after_t t low here (first (lt (xa_at l t) p.xb) (lt p.xa (xb_at l t)) e past)))

    module _ (hit : over l p t ≡ true) where
      here_t : hits near t r ≡ t ∷ hits near (t + 1) r
      here_t = rw hit at (hits_next near t r here)

      pub only_two : t + 1 < r → over l p (t + 1) ≡ true → None ≡ only_at (hits near b r)
      only_two h e = sym (ap only_at (from_t ∙ here_t ∙ ap (λ m. t ∷ m) (rw e at (hits_next near (t + 1) r h))))

      pub only_last : r ≤ t + 1 → Some t ≡ only_at (hits near b r)
      only_last h = sym (ap only_at (from_t ∙ here_t ∙ ap (λ m. t ∷ m) (hits_empty near (t + 1) r (λ u a c. absurd (omega arith)))))

      pub only_one : t + 1 < r → over l p (t + 1) ≡ false → Some t ≡ only_at (hits near b r)
      unfolding overlap
      only_one h e =
          let reaches = past_after l b r up p.xa t (t + 1) low (omega arith) h past in
          sym (ap only_at (from_t ∙ here_t ∙ ap (λ m. t ∷ m) (after_t (t + 1) (omega arith) h (first (lt (xa_at l (t + 1)) p.xb) (lt p.xa (xb_at l (t + 1))) e reaches))))

-- ---- whether o overlaps j alone

module _ (l : List Float) (r s : ℕ) (up : Rising l r s) (o : Piece) (j : ℕ) (low : r ≤ j) (high : j < s) (hit : under l o j ≡ true) where
  ends : (lt o.xa (xb_at l j) ≡ true) × (lt (xa_at l j) o.xb ≡ true)
  unfolding overlap
  ends = and_both (lt o.xa (xb_at l j)) (lt (xa_at l j) o.xb) hit

  none_left : r < j → under l o (j - 1) ≡ false → (u : ℕ) → r ≤ u → u < j → under l o u ≡ false
  unfolding overlap
  none_left h e u a c = go (j - 1 - u) refl
    where
      back : lt o.xa (xb_at l (j - 1)) ≡ false
      back = first (lt o.xa (xb_at l (j - 1))) (lt (xa_at l (j - 1)) o.xb) e (begun_before l r s up o.xb j (j - 1) (omega arith) (omega arith) high ends.1)

      go : (k : ℕ) → j - 1 - u ≡ k → under l o u ≡ false
      go zero q = let z : u ≡ j - 1 = omega arith in rw z e
      go (suc k) q = rw (left_before l r s up o.xa (j - 1) u a (omega arith) (omega arith) back)

  none_right : j + 1 < s → under l o (j + 1) ≡ false → (u : ℕ) → j + 1 ≤ u → u < s → under l o u ≡ false
  unfolding overlap
  none_right h e u a c = go (u - (j + 1)) refl
    where
      ahead : lt (xa_at l (j + 1)) o.xb ≡ false
      ahead = second (lt o.xa (xb_at l (j + 1))) (lt (xa_at l (j + 1)) o.xb) e (past_after l r s up o.xa j (j + 1) low (omega arith) h ends.0)

      go : (k : ℕ) → u - (j + 1) ≡ k → under l o u ≡ false
      go zero q = let z : u ≡ j + 1 = omega arith in rw z e
      go (suc k) q = neither (lt o.xa (xb_at l u)) (lt (xa_at l u) o.xb) (right_after l r s up o.xb (j + 1) u (omega arith) (omega arith) c ahead)

  pub meets_left : r < j → under l o (j - 1) ≡ true → false ≡ eqb (count_of (under l o) r s) 1
  meets_left h e = let z : j - 1 + 1 ≡ j = omega arith in sym (count_two (under l o) r (j - 1) s (omega arith) (omega arith) e (ap (under l o) z ∙ hit))

  pub meets_right : j + 1 < s → under l o (j + 1) ≡ true → false ≡ eqb (count_of (under l o) r s) 1
  meets_right h e = sym (count_two (under l o) r j s low h hit e)

  -- j's neighbours, where it has them, are not overlapped
  pub meets_one : (r < j → under l o (j - 1) ≡ false) → (j + 1 < s → under l o (j + 1) ≡ false) → true ≡ eqb (count_of (under l o) r s) 1
  meets_one a b = sym (count_only (under l o) r j s low high hit (λ u c d. none_left (omega arith) (a (omega arith)) u c d) (λ u c d. none_right (omega arith) (b (omega arith)) u c d))

  -- by the tests of both neighbours
  pub meets_tested : {a b : Bool} → a ≡ not (ltb r j && under l o (j - 1)) → b ≡ not (ltb (j + 1) s && under l o (j + 1)) → a ≡ true → b ≡ eqb (count_of (under l o) r s) 1
  meets_tested {a} {b} ea eb t = go b refl
    where
      left : r < j → under l o (j - 1) ≡ false
      left h = second (ltb r j) (under l o (j - 1)) (not-true _ (sym ea ∙ t)) (lt-ltb r j h)

      go : (c : Bool) → b ≡ c → b ≡ eqb (count_of (under l o) r s) 1
      go true q = q ∙ meets_one left (λ h. second (ltb (j + 1) s) (under l o (j + 1)) (not-true _ (sym eb ∙ q)) (lt-ltb (j + 1) s h))
      go false q = let h = and_both (ltb (j + 1) s) (under l o (j + 1)) (not-false _ (sym eb ∙ q)) in q ∙ meets_right (ltb-true (j + 1) s h.0) h.1

  pub meets_blocked : {a : Bool} → a ≡ not (ltb r j && under l o (j - 1)) → a ≡ false → false ≡ eqb (count_of (under l o) r s) 1
  meets_blocked ea t = let h = and_both (ltb r j) (under l o (j - 1)) (not-false _ (sym ea ∙ t)) in meets_left (ltb-true r j h.0) h.1

-- ---- a search: what is known of the places from `from` up to `to`, of which those from lo up to hi are left

pub record Between (l : List Float) (x : Float) (from to lo hi : ℕ) : Type 0 where
  pub low : from ≤ lo
  pub order : lo ≤ hi
  pub high : hi ≤ to
  pub before : (u : ℕ) → from ≤ u → u < lo → lt x (xb_at l u) ≡ false
  pub after : (u : ℕ) → hi ≤ u → u < to → lt x (xb_at l u) ≡ true

module _ (l : List Float) (from to : ℕ) where
  pub between_all : (x : Float) → from ≤ to → Between l x from to from to
  between_all x h = record { low = omega arith; order = h; high = omega arith; before = λ u a b. absurd (omega arith); after = λ u a b. absurd (omega arith) }

  module _ (up : Rising l from to) (x : Float) (lo hi mid : ℕ) (k : Between l x from to lo hi) (a : lo ≤ mid) (b : mid < hi) where
    pub between_left : lt x (xb_at l mid) ≡ true → Between l x from to lo mid
    between_left e = record { low = k.low; order = a; high = omega (arith, k.high); before = k.before; after = λ u c d. go u c d (u - mid) refl }
      where
        go : (u : ℕ) → mid ≤ u → u < to → (j : ℕ) → u - mid ≡ j → lt x (xb_at l u) ≡ true
        go u c d zero q = let z : u ≡ mid = omega arith in rw z e
        go u c d (suc j) q = past_after l from to up x mid u (omega (arith, k.low)) (omega arith) d e

    pub between_right : lt x (xb_at l mid) ≡ false → Between l x from to (mid + 1) hi
    between_right e = record { low = omega (arith, k.low); order = omega arith; high = k.high; before = λ u c d. go u c d (mid - u) refl; after = k.after }
      where
        go : (u : ℕ) → from ≤ u → u < mid + 1 → (j : ℕ) → mid - u ≡ j → lt x (xb_at l u) ≡ false
        go u c d zero q = let z : u ≡ mid = omega arith in rw z e
        go u c d (suc j) q = left_before l from to up x mid u c (omega arith) (omega (arith, k.high)) e

-- ---- what j joins, by the only place that it overlaps

abbrev place : Option ℕ → ℕ
place (Some t) = t
place None = 0

abbrev is_at : Option ℕ → Bool
is_at (Some t) = true
is_at None = false

-- the only place that passes does pass
pub only_at_lem : (p : ℕ → Bool) (i n t : ℕ) → Some t ≡ only_at (hits p i n) → p t ≡ true
only_at_lem p i n t e = go (hits p i n) (sift_pass p (upto i (n - i))) e
  where
    go : (xs : List ℕ) → All (λ a. p a ≡ true) xs → Some t ≡ only_at xs → p t ≡ true
    go [] h q = absurd (true≢false (ap is_at q))
    go (a ∷ []) h q = ap p (ap place q) ∙ h.0
    go (a ∷ b ∷ xs) h q = absurd (true≢false (ap is_at q))

module _ (rings : List (List P)) (rule : FillRule) (g : Settings) (l : List Float) (w : List ℕ) (s : Row) (j : ℕ) where
  pub joins_nothing : None ≡ only_at (hits (over l (piece_in l j)) s.b0 s.r0) → None ≡ joins_at rings rule g l w s j
  unfolding joins_at
  joins_nothing e = ap (joined_at rings rule g l w s j) e

  pub joins_at_lem : {t : ℕ} → Some t ≡ only_at (hits (over l (piece_in l j)) s.b0 s.r0) → joined_at rings rule g l w s j (Some t) ≡ joins_at rings rule g l w s j
  unfolding joins_at
  joins_at_lem e = ap (joined_at rings rule g l w s j) e
