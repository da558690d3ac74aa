-- A step of a walk, in the slice that holds it. Assumes nothing.
use Rattle.std.specs.Prelude.{ℕ, ◌+◌, ◌-◌, ◌*◌, ◌≤◌, ◌<◌, ◌≡◌, refl, length, get_or, take, set}
use Rattle.std.proofs.Common.{arith, add-one, ◌∙◌, length-take-le, get_or-set_same, take-suc-set}
use mathlib.Core.List.{List, [], ◌∷◌, ◌++◌, append-nil}
use Rattle.std.proofs.Math.ListN.{drop, length-set}
use Rattle.std.proofs.Math.Seq.{take-set-le, take-set-lt, drop-set-lt}
use Rattle.std.proofs.lemmas.List.{drop-append-le}
use Rattle.seqs.specs.Reads.{part_next, part_none}
use Rattle.meander_rules.specs.Meander.{go_on, go_back}
use Rattle.wander.specs.declared.Steps.{Steps}
use Rattle.wander.specs.Walking.{walk_in, Sized, Stepped}

-- ---- a store, seen from the parts before it, behind it, and at its end

-- a store before the part
before_part : (w : List ℕ) (i a b v : ℕ) → i < a → a ≤ b → drop a (take b (set w i v)) ≡ drop a (take b w)
before_part w i a b v h k = rw (take-set-lt b w i v (omega arith)) (drop-set-lt a (take b w) i v h)

-- a store behind it
behind_part : (w : List ℕ) (i a b v : ℕ) → b ≤ i → drop a (take b (set w i v)) ≡ drop a (take b w)
behind_part w i a b v h = rw (take-set-le b w i v h)

-- one more at its end
end_part : (w : List ℕ) (i a v : ℕ) → a ≤ i → i < length w → drop a (take (i + 1) (set w i v)) ≡ drop a (take i w) ++ (v ∷ [])
end_part w i a v h k = rw (add-one i, take-suc-set w i v k) (drop-append-le a (take i w) (v ∷ []) (omega (arith, length-take-le i w (omega arith))))

-- one more at its front
front_part : (w : List ℕ) (i b v : ℕ) → i < b → b ≤ length w → drop i (take b (set w i v)) ≡ v ∷ drop (i + 1) (take b w)
front_part w i b v h k =
    part_next (set w i v) b i 0 h (omega (arith, length-set w i v))
    ∙ rw (get_or-set_same w i v 0 (omega arith), before_part w i (i + 1) b v (omega arith) (omega arith))

module _ (n : ℕ) (w : List ℕ) (s : Steps) (z : Sized n w s) where
  module _ (k : ℕ) (low : k < n) (free : n < s.top) (room : s.size < 2 * n) where
    abbrev w₁ : List ℕ
    w₁ = set w k 0

    abbrev w₂ : List ℕ
    w₂ = set w₁ (s.top - 1) k

    abbrev w₃ : List ℕ
    w₃ = set w₂ (2 * n + s.size) k

    pub second_room : s.top - 1 < length w₁
    second_room = omega (arith, z.top, z.room, length-set w k 0)

    pub third_room : 2 * n + s.size < length w₂
    third_room = omega (arith, z.room, length-set w k 0, length-set w₁ (s.top - 1) k)

    on_free : take n w₃ ≡ set (take n w) k 0
    on_free = take-set-le n w₂ (2 * n + s.size) k (omega arith) ∙ take-set-le n w₁ (s.top - 1) k (omega arith) ∙ take-set-lt n w k 0 low

    on_stack : drop (s.top - 1) (take (2 * n) w₃) ≡ k ∷ drop s.top (take (2 * n) w)
    on_stack =
        let e : s.top - 1 + 1 ≡ s.top = omega arith in
        behind_part w₂ (2 * n + s.size) (s.top - 1) (2 * n) k (omega arith)
        ∙ front_part w₁ (s.top - 1) (2 * n) k (omega (arith, z.top)) (omega (arith, z.room, length-set w k 0))
        ∙ rw (e, before_part w k s.top (2 * n) 0 (omega arith) z.top)

    on_path : drop (2 * n) (take (2 * n + (s.size + 1)) w₃) ≡ drop (2 * n) (take (2 * n + s.size) w) ++ (k ∷ [])
    on_path =
        let e : 2 * n + (s.size + 1) ≡ 2 * n + s.size + 1 = omega arith in
        rw e (end_part w₂ (2 * n + s.size) (2 * n) k (omega arith) third_room
        ∙ rw (before_part w₁ (s.top - 1) (2 * n) (2 * n + s.size) k (omega (arith, z.top)) (omega arith), before_part w k (2 * n) (2 * n + s.size) 0 (omega arith) (omega arith)))

    pub on_stepped : Stepped n w w₃ (record { top = s.top - 1; size = s.size + 1; seed = s.seed }) (go_on k (walk_in n w s))
    unfolding go_on
    on_stepped = record {
      is = rw (on_free, on_stack, on_path);
      top = omega (arith, z.top);
      size = omega arith;
      kept = drop-set-lt (4 * n) w₂ (2 * n + s.size) k (omega arith) ∙ drop-set-lt (4 * n) w₁ (s.top - 1) k (omega (arith, z.top)) ∙ drop-set-lt (4 * n) w k 0 (omega arith);
      long = length-set w₂ (2 * n + s.size) k ∙ length-set w₁ (s.top - 1) k ∙ length-set w k 0;
    }

  -- the stack is its top and what is behind it
  module _ (full : s.top < 2 * n) where
    pub stack_top : drop s.top (take (2 * n) w) ≡ get_or w s.top 0 ∷ drop (s.top + 1) (take (2 * n) w)
    stack_top = part_next w (2 * n) s.top 0 full (omega (arith, z.room))

    pub back_end : 2 * n ≤ s.top + 1 → Stepped n w w (record { top = s.top + 1; size = s.size; seed = s.seed }) (go_back (walk_in n w s))
    unfolding go_back
    back_end h =
        let e : drop (s.top + 1) (take (2 * n) w) ≡ [] = part_none w (2 * n) (s.top + 1) h (omega (arith, z.room)) in
        record {
          is = rw (stack_top, e, append-nil (drop (2 * n) (take (2 * n + s.size) w)));
          top = omega arith;
          size = z.size;
          kept = refl;
          long = refl;
        }

    module _ (more : s.top + 1 < 2 * n) (room : s.size < 2 * n) where
      abbrev u : List ℕ
      u = set w (2 * n + s.size) (get_or w (s.top + 1) 0)

      next : drop (s.top + 1) (take (2 * n) w) ≡ get_or w (s.top + 1) 0 ∷ drop (s.top + 1 + 1) (take (2 * n) w)
      next = part_next w (2 * n) (s.top + 1) 0 more (omega (arith, z.room))

      back_path : drop (2 * n) (take (2 * n + (s.size + 1)) u) ≡ drop (2 * n) (take (2 * n + s.size) w) ++ (get_or w (s.top + 1) 0 ∷ [])
      back_path =
          let e : 2 * n + (s.size + 1) ≡ 2 * n + s.size + 1 = omega arith in
          rw e (end_part w (2 * n + s.size) (2 * n) (get_or w (s.top + 1) 0) (omega arith) (omega (arith, z.room)))

      pub back_stepped : Stepped n w u (record { top = s.top + 1; size = s.size + 1; seed = s.seed }) (go_back (walk_in n w s))
      unfolding go_back
      back_stepped = record {
        is = rw (stack_top, take-set-le n w (2 * n + s.size) (get_or w (s.top + 1) 0) (omega arith), behind_part w (2 * n + s.size) (s.top + 1) (2 * n) (get_or w (s.top + 1) 0) (omega arith), back_path, next);
        top = omega arith;
        size = omega arith;
        kept = drop-set-lt (4 * n) w (2 * n + s.size) (get_or w (s.top + 1) 0) (omega arith);
        long = length-set w (2 * n + s.size) (get_or w (s.top + 1) 0);
      }
