-- A turn of a walk: what it keeps, and that every turn uses up a point or a place of the stack. Assumes nothing.
use Prim.Native.Nat.{ℕ, zero, suc, ◌+◌, ◌*◌, ◌≤◌}
use native.Mathlib.Omega.{arith}
use Rattle.std.specs.Prelude.{◌≡◌, Bool, true, false, ◌&&◌, length, take, drop, set}
use Rattle.std.proofs.Math.Path.{refl, sym, ap}
use Rattle.std.proofs.Common.{◌∙◌, subst}
use Rattle.std.proofs.Math.Logic.{inl, inr}
use mathlib.Core.List.Memᴰ
use mathlib.Core.List.{List, [], ◌∷◌, ◌++◌, append_assoc, Memᴰ}
use Rattle.seqs.specs.Lists.{sift, All}
use Rattle.seqs.specs.Sift.{sift_in, sift_pass}
use Rattle.seqs.specs.Tests.{either, and_both}
use Rattle.meander_rules.specs.declared.Lattice.{Lattice}
use Rattle.meander_rules.specs.Meander.{Walk, neighbours, shuffle, is_free, open_way, go_on, go_back, move, turn_from, turn, turns}
use Rattle.meander_rules.specs.FreeLaws.{ones, ones_taken}
use Rattle.meander_rules.specs.ShuffleLaws.{shuffle_member}

-- ---- the first of those that pass a test

none_first : {a : ℕ} (s : List ℕ) → take 1 s ≡ [] → Memᴰ a s → ⊥
none_first [] e m = Memᴰ.not-nil m
none_first (b ∷ s) e m = let z : ◌≡◌ {A = ℕ} 1 0 = ap length e in omega (arith, z)

one_first : {n : ℕ} {ways : List ℕ} (P : ℕ → Type 0) (s : List ℕ) → All P s → take 1 s ≡ n ∷ ways → P n
one_first P [] h e = let z : ◌≡◌ {A = ℕ} 0 (suc _) = ap length e in absurd (omega (arith, z))
one_first P (b ∷ s) h e = rw (head_of e) at h.0
  where
    head_of : {n b : ℕ} {ways : List ℕ} → b ∷ [] ≡ n ∷ ways → b ≡ n
    head_of e = cc

module _ (g : Lattice) (link : ℕ → ℕ → Bool) where
  -- the way that is taken leads to a free point over an allowed link
  pub way_open : (free : List ℕ) (here : ℕ) (order : List ℕ) {n : ℕ} {ways : List ℕ} → open_way link free here order ≡ n ∷ ways → (is_free free n ≡ true) × (link here n ≡ true)
  unfolding open_way
  way_open free here order {n} e = and_both (is_free free n) (link here n) (one_first (λ a. (is_free free a && link here a) ≡ true) (sift (λ a. is_free free a && link here a) order) (sift_pass (λ a. is_free free a && link here a) order) e)

  -- where none is taken, none of the neighbours over an allowed link is free
  pub way_shut : (free : List ℕ) (here : ℕ) (order : List ℕ) → open_way link free here order ≡ [] → (n : ℕ) → Memᴰ n order → link here n ≡ true → is_free free n ≡ false
  unfolding open_way
  way_shut free here order e n m h = elim (either (is_free free n)) [
    | inl t ↦ absurd (none_first (sift (λ a. is_free free a && link here a) order) e (sift_in (λ a. is_free free a && link here a) order m (rw (t, h))))
    | inr f ↦ f
  ]

  -- what a step on and a step back keep, a turn keeps
  module _ (P : List ℕ → List ℕ → List ℕ → Type 0)
      (back : (free stack path : List ℕ) (here : ℕ) → ((n : ℕ) → Memᴰ n (neighbours g here) → link here n ≡ true → is_free free n ≡ false) → P free (here ∷ stack) path → P free stack (path ++ take 1 stack))
      (on : (free stack path : List ℕ) (here n : ℕ) → is_free free n ≡ true → link here n ≡ true → P free (here ∷ stack) path → P (set free n 0) (n ∷ here ∷ stack) (path ++ (n ∷ []))) where
    Holds : Walk → Type 0
    Holds w = P w.free w.stack w.path

    move_keeps : (free stack path : List ℕ) (here seed : ℕ) (order ways : List ℕ) → ((n : ℕ) → Memᴰ n (neighbours g here) → Memᴰ n order) → open_way link free here order ≡ ways
        → P free (here ∷ stack) path → Holds (move ways (record { free = free; stack = here ∷ stack; path = path; seed = seed }))
    unfolding Holds move go_back go_on
    move_keeps free stack path here seed order [] o e h = back free stack path here (λ n m l. way_shut free here order e n (o n m) l) h
    move_keeps free stack path here seed order (n ∷ ways) o e h = let p = way_open free here order e in on free stack path here n p.0 p.1 h

    from_keeps : (free stack path : List ℕ) (seed : ℕ) → P free stack path → Holds (turn_from g link stack (record { free = free; stack = stack; path = path; seed = seed }))
    unfolding Holds turn_from
    from_keeps free [] path seed h = h
    from_keeps free (here ∷ stack) path seed h =
        let s = shuffle (neighbours g here) seed in
        move_keeps free stack path here s.seed s.order (open_way link free here s.order) (λ n m. shuffle_member (neighbours g here) seed m) refl h

    pub turns_keep : (m : ℕ) (w : Walk) → P w.free w.stack w.path → P (turns g link m w).free (turns g link m w).stack (turns g link m w).path
    unfolding turns turn Holds
    turns_keep zero w h = h
    turns_keep (suc m) w h = turns_keep m (turn g link w) (from_keeps w.free w.stack w.path w.seed h)

  -- ---- two turns a point are enough

  abbrev pub left : Walk → ℕ
  left w = 2 * ones w.free + length w.stack

  move_less : (free stack path : List ℕ) (here seed : ℕ) (order ways : List ℕ) → open_way link free here order ≡ ways → left (move ways (record { free = free; stack = here ∷ stack; path = path; seed = seed })) + 1 ≡ left (record { free = free; stack = here ∷ stack; path = path; seed = seed })
  unfolding move go_back go_on
  move_less free stack path here seed order [] e = omega arith
  move_less free stack path here seed order (n ∷ ways) e = omega (arith, ones_taken free n (way_open free here order e).0)

  from_less : (free stack path : List ℕ) (here seed : ℕ) → left (turn g link (record { free = free; stack = here ∷ stack; path = path; seed = seed })) + 1 ≡ left (record { free = free; stack = here ∷ stack; path = path; seed = seed })
  unfolding turn turn_from
  from_less free stack path here seed = let s = shuffle (neighbours g here) seed in move_less free stack path here s.seed s.order (open_way link free here s.order) refl

  -- a turn uses one up
  pub turn_less : (w : Walk) (here : ℕ) (stack : List ℕ) → w.stack ≡ here ∷ stack → left (turn g link w) + 1 ≡ left w
  turn_less w here stack e = subst (λ (s : List ℕ). left (turn g link (record { free = w.free; stack = s; path = w.path; seed = w.seed })) + 1 ≡ left (record { free = w.free; stack = s; path = w.path; seed = w.seed })) (sym e) (from_less w.free stack w.path here w.seed)

  turn_over : (w : Walk) → w.stack ≡ [] → turn g link w ≡ w
  unfolding turn turn_from
  turn_over w e = rw e

  -- with an empty stack nothing happens any more
  pub turns_over : (m : ℕ) (w : Walk) → w.stack ≡ [] → turns g link m w ≡ w
  unfolding turns
  turns_over zero w e = refl
  turns_over (suc m) w e = ap (turns g link m) (turn_over w e) ∙ turns_over m w e

  pub turns_next : (m : ℕ) (w : Walk) → turns g link (m + 1) w ≡ turns g link m (turn g link w)
  unfolding turns
  turns_next m w = let e : m + 1 ≡ suc m = omega arith in rw e

  none_left : (s : List ℕ) → length s ≤ 0 → s ≡ []
  none_left [] h = refl
  none_left (a ∷ s) h = absurd (omega arith)

  -- more turns than are left are none more
  more_from : (m : ℕ) (w : Walk) (stack : List ℕ) → w.stack ≡ stack → left w ≤ suc m → ((v : Walk) → left v ≤ m → turns g link m v ≡ turns g link (left v) v) → turns g link (suc m) w ≡ turns g link (left w) w
  unfolding turns
  more_from m w [] e h ih = turns_over (suc m) w e ∙ sym (turns_over (left w) w e)
  more_from m w (here ∷ stack) e h ih =
      let l = turn_less w here stack e in
      ih (turn g link w) (omega (arith, l)) ∙ sym (turns_next (left (turn g link w)) w) ∙ ap (λ k. turns g link k w) l

  pub turns_more : (m : ℕ) (w : Walk) → left w ≤ m → turns g link m w ≡ turns g link (left w) w
  turns_more zero w h = let e : left w ≡ 0 = omega arith in rw e
  turns_more (suc m) w h = more_from m w w.stack refl h (turns_more m)

  -- by then the stack is empty
  end_from : (m : ℕ) (w : Walk) (stack : List ℕ) → w.stack ≡ stack → left w ≤ suc m → ((v : Walk) → left v ≤ m → (turns g link m v).stack ≡ []) → (turns g link (suc m) w).stack ≡ []
  unfolding turns
  end_from m w [] e h ih = ap (λ (v : Walk). v.stack) (turns_over (suc m) w e) ∙ e
  end_from m w (here ∷ stack) e h ih = ih (turn g link w) (omega (arith, turn_less w here stack e))

  pub turns_end : (m : ℕ) (w : Walk) → left w ≤ m → (turns g link m w).stack ≡ []
  unfolding turns
  turns_end zero w h = none_left w.stack (omega (arith, h))
  turns_end (suc m) w h = end_from m w w.stack refl h (turns_end m)

  -- ---- what stands on the path already doesn't matter

  -- the walk with q before its path
  abbrev pub behind : List ℕ → Walk → Walk
  behind q w = record { free = w.free; stack = w.stack; path = q ++ w.path; seed = w.seed }

  move_behind : (q ways : List ℕ) (w : Walk) → move ways (behind q w) ≡ behind q (move ways w)
  unfolding move go_back go_on
  move_behind q [] w = rw (append_assoc q w.path (take 1 (drop 1 w.stack)))
  move_behind q (n ∷ ways) w = rw (append_assoc q w.path (n ∷ []))

  from_behind : (q stack : List ℕ) (w : Walk) → turn_from g link stack (behind q w) ≡ behind q (turn_from g link stack w)
  unfolding turn_from
  from_behind q [] w = refl
  from_behind q (here ∷ stack) w =
      let s = shuffle (neighbours g here) w.seed in
      move_behind q (open_way link w.free here s.order) (record { free = w.free; stack = w.stack; path = w.path; seed = s.seed })

  pub turns_behind : (m : ℕ) (q : List ℕ) (w : Walk) → turns g link m (behind q w) ≡ behind q (turns g link m w)
  unfolding turns turn
  turns_behind zero q w = refl
  turns_behind (suc m) q w = ap (turns g link m) (from_behind q w.stack w) ∙ turns_behind m q (turn_from g link w.stack w)
