-- A turn of the walk in a slice: its room, and what it leaves sound. Assumes nothing.
use Rattle.std.specs.Prelude.{ℕ, ◌+◌, ◌-◌, ◌*◌, ◌≤◌, ◌<◌, ◌≡◌, Bool, true, length, get_or, take, drop}
use Rattle.std.specs.Prelude.{Option, None, Some}
use Rattle.std.specs.Option.{option_to_list}
use Rattle.std.proofs.Common.{arith, ◌∙◌, subst, length-set, length-drop, length-take-le}
use Rattle.std.proofs.Math.Path.{refl, sym, ap}
use mathlib.Core.List.{List, [], ◌∷◌}
use Rattle.std.proofs.Math.ListN.{length-append}
use Rattle.seqs.specs.Lists.{All}
use Rattle.seqs.specs.Reads.{part_none}
use Rattle.meander_rules.specs.declared.Lattice.{Lattice}
use Rattle.meander_rules.specs.Meander.{Walk, Order, points_of, neighbours, shuffle, is_free, open_way, go_on, go_back, move, turn_from, turn, turns}
use Rattle.meander_rules.specs.FreeLaws.{ones, ones_taken}
use Rattle.meander_rules.specs.TurnLaws.{left, way_open, turns_keep, turn_less, turns_over, turns_next}
use Rattle.wander.specs.declared.Steps.{Steps}
use Rattle.wander.specs.Walking.{walk_in, Sized, Stepped, Sound, Ready, found, finish}
use Rattle.wander.specs.OpenLaws.{free_low, found_at, found_none}
use Rattle.wander.specs.SliceLaws.{stack_top}

module _ (n : ℕ) (w : List ℕ) (s : Steps) (z : Sized n w s) where
  stack_length : length (drop s.top (take (2 * n) w)) ≡ 2 * n - s.top
  stack_length = length-drop s.top (take (2 * n) w) ∙ ap (λ k. k - s.top) (length-take-le (2 * n) w (omega (arith, z.room)))

  pub path_length : length (drop (2 * n) (take (2 * n + s.size) w)) ≡ s.size
  path_length = length-drop (2 * n) (take (2 * n + s.size) w) ∙ omega (arith, length-take-le (2 * n + s.size) w (omega (arith, z.room, z.size)))

  -- with another random source
  abbrev pub with_seed : ℕ → Steps
  with_seed x = record { top = s.top; size = s.size; seed = x }

  pub seed_sized : (x : ℕ) → Sized n w (with_seed x)
  seed_sized x = record { few = z.few; room = z.room; top = z.top; size = z.size }

  module _ (o : Sound n (walk_in n w s)) where
    -- a free point has its places
    module _ (k : ℕ) (f : is_free (take n w) k ≡ true) where
      some : 1 ≤ ones (take n w)
      some = omega (arith, ones_taken (take n w) k f)

      pub on_top : n < s.top
      on_top = omega (arith, some, o.stack, stack_length, z.top)

      pub on_size : s.size < 2 * n
      on_size = omega (arith, some, o.path, path_length)

    pub back_top : n ≤ s.top
    back_top = omega (arith, o.stack, stack_length, z.top)

    pub back_size : s.top + 1 < 2 * n → s.size < 2 * n
    back_size h = omega (arith, o.path, path_length, stack_length)

    pub here_low : s.top < 2 * n → get_or w s.top 0 < n
    here_low h = (subst (All (λ (k : ℕ). k < n)) (stack_top n w s z h) o.low).0

-- ---- the turn

module _ (g : Lattice) (link : ℕ → ℕ → Bool) where
  module _ (w : List ℕ) (s : Steps) (z : Sized (points_of g) w s) (h : s.top < 2 * points_of g) where
    order : Order
    order = shuffle (neighbours g (get_or w s.top 0)) s.seed

    turn_is : {x : ℕ} → x ≡ (shuffle (neighbours g (get_or w s.top 0)) s.seed).seed
        → turn g link (walk_in (points_of g) w s) ≡ move (open_way link (take (points_of g) w) (get_or w s.top 0) (shuffle (neighbours g (get_or w s.top 0)) s.seed).order) (walk_in (points_of g) w (record { top = s.top; size = s.size; seed = x }))
    unfolding turn turn_from
    turn_is e = rw (stack_top (points_of g) w s z h, e)

    module _ {x : ℕ} (e : x ≡ (shuffle (neighbours g (get_or w s.top 0)) s.seed).seed) {k : ℕ} (f : found (points_of g) k ≡ open_way link (take (points_of g) w) (get_or w s.top 0) (shuffle (neighbours g (get_or w s.top 0)) s.seed).order) where
      pub picked_free : k < points_of g → is_free (take (points_of g) w) k ≡ true
      picked_free l = (way_open g link (take (points_of g) w) (get_or w s.top 0) (shuffle (neighbours g (get_or w s.top 0)) s.seed).order (sym f ∙ found_at (points_of g) k l)).0

      pub turn_on : k < points_of g → go_on k (walk_in (points_of g) w (record { top = s.top; size = s.size; seed = x })) ≡ turn g link (walk_in (points_of g) w s)
      unfolding move
      turn_on l = sym (turn_is e ∙ ap (λ (ways : List ℕ). move ways (walk_in (points_of g) w (record { top = s.top; size = s.size; seed = x }))) (sym f ∙ found_at (points_of g) k l))

      pub turn_back : points_of g ≤ k → go_back (walk_in (points_of g) w (record { top = s.top; size = s.size; seed = x })) ≡ turn g link (walk_in (points_of g) w s)
      unfolding move
      turn_back l = sym (turn_is e ∙ ap (λ (ways : List ℕ). move ways (walk_in (points_of g) w (record { top = s.top; size = s.size; seed = x }))) (sym f ∙ found_none (points_of g) k l))

    module _ {x : ℕ} (e : x ≡ (shuffle (neighbours g (get_or w s.top 0)) s.seed).seed) {o : Option ℕ} (f : option_to_list o ≡ open_way link (take (points_of g) w) (get_or w s.top 0) (shuffle (neighbours g (get_or w s.top 0)) s.seed).order) where
      pub way_free : (k : ℕ) → o ≡ Some k → is_free (take (points_of g) w) k ≡ true
      way_free k l = (way_open g link (take (points_of g) w) (get_or w s.top 0) (shuffle (neighbours g (get_or w s.top 0)) s.seed).order (sym f ∙ ap option_to_list l)).0

      pub way_low : (k : ℕ) → o ≡ Some k → k < points_of g
      way_low k l = omega (arith, free_low (take (points_of g) w) k (way_free k l), length-take-le (points_of g) w (omega (arith, z.room)))

      pub way_on : (k : ℕ) → o ≡ Some k → go_on k (walk_in (points_of g) w (record { top = s.top; size = s.size; seed = x })) ≡ turn g link (walk_in (points_of g) w s)
      unfolding move
      way_on k l = sym (turn_is e ∙ ap (λ (ways : List ℕ). move ways (walk_in (points_of g) w (record { top = s.top; size = s.size; seed = x }))) (sym f ∙ ap option_to_list l))

      pub way_back : o ≡ None → go_back (walk_in (points_of g) w (record { top = s.top; size = s.size; seed = x })) ≡ turn g link (walk_in (points_of g) w s)
      unfolding move
      way_back l = sym (turn_is e ∙ ap (λ (ways : List ℕ). move ways (walk_in (points_of g) w (record { top = s.top; size = s.size; seed = x }))) (sym f ∙ ap option_to_list l))

  -- ---- what stays sound

  module _ (n : ℕ) where
    Fair : List ℕ → List ℕ → List ℕ → Type 0
    Fair free stack path = (length free ≡ n) × (length stack + ones free ≤ n) × (length path + 2 * ones free + length stack ≤ 2 * n) × All (λ (k : ℕ). k < n) stack

    take_one : (s : List ℕ) → length (take 1 s) ≤ 1
    take_one [] = omega arith
    take_one (a ∷ s) = omega arith

    pub turns_sound : (m : ℕ) (x : Walk) → Sound n x → Sound n (turns g link m x)
    unfolding Fair
    turns_sound m x o =
        let q = turns_keep g link Fair
        (λ f s p here shut v. (v.0, omega (arith, v.1), omega (arith, v.2, length-append p (take 1 s), take_one s), v.3.1))
        (λ f s p here k t l v. (length-set f k 0 ∙ v.0, omega (arith, v.1, ones_taken f k t), omega (arith, v.2, ones_taken f k t, length-append p (k ∷ [])), (omega (arith, free_low f k t, v.0), v.3)))
        m x (o.size, o.stack, o.path, o.low) in
        record { size = q.0; stack = q.1; path = q.2; low = q.3 }

    zero_turns : (y : Walk) → turns g link 0 y ≡ y
    unfolding turns
    zero_turns y = refl

    pub turn_sound : (x : Walk) → Sound n x → Sound n (turn g link x)
    turn_sound x o = subst (Sound n) (turns_next g link 0 x ∙ zero_turns (turn g link x)) (turns_sound 1 x o)

  -- ---- to the end

  pub finish_turn : (x : Walk) (here : ℕ) (stack : List ℕ) → x.stack ≡ here ∷ stack → finish g link (turn g link x) ≡ finish g link x
  finish_turn x here stack e = sym (turns_next g link (left g link (turn g link x)) x) ∙ ap (λ k. turns g link k x) (turn_less g link x here stack e)

  pub finish_end : (x : Walk) → x.stack ≡ [] → finish g link x ≡ x
  finish_end x e = turns_over g link (left g link x) x e

-- a step is the step to an equal walk
pub stepped_at : {n : ℕ} {w w' : List ℕ} {r : Steps} {x y : Walk} → x ≡ y → Stepped n w w' r x → Stepped n w w' r y
stepped_at e p = record { is = p.is ∙ e; top = p.top; size = p.size; kept = p.kept; long = p.long }

-- a turn of the loop over turns, and its end
module _ (g : Lattice) (link : ℕ → ℕ → Bool) (w₀ w : List ℕ) (s₀ s : Steps) where
  pub record Walked : Type 0 where
    pub ready : Ready (points_of g) w s
    pub same : finish g link (walk_in (points_of g) w s) ≡ finish g link (walk_in (points_of g) w₀ s₀)
    pub kept : drop (4 * points_of g) w ≡ drop (4 * points_of g) w₀
    pub long : length w ≡ length w₀

module _ (g : Lattice) (link : ℕ → ℕ → Bool) (w₀ : List ℕ) (s₀ : Steps) where
  pub walked_start : Ready (points_of g) w₀ s₀ → Walked g link w₀ w₀ s₀ s₀
  walked_start r = record { ready = r; same = refl; kept = refl; long = refl }

  module _ (w : List ℕ) (s : Steps) (v : Walked g link w₀ w s₀ s) where
    pub walked_end : 2 * points_of g ≤ s.top → Stepped (points_of g) w₀ w s (finish g link (walk_in (points_of g) w₀ s₀))
    walked_end h =
        let n = points_of g in
        let z = v.ready.sized in
        let e : drop s.top (take (2 * n) w) ≡ [] = part_none w (2 * n) s.top h (omega (arith, z.room)) in
        record { is = sym (finish_end g link (walk_in n w s) e) ∙ v.same; top = z.top; size = z.size; kept = v.kept; long = v.long }

    module _ (h : s.top < 2 * points_of g) (w' : List ℕ) (r : Steps) (p : Stepped (points_of g) w w' r (turn g link (walk_in (points_of g) w s))) where
      pub walked_turn : Walked g link w₀ w' s₀ r
      walked_turn =
          let n = points_of g in
          let z = v.ready.sized in
          record {
            ready = record {
              sized = record { few = z.few; room = omega (arith, z.room, p.long); top = p.top; size = p.size };
              sound = subst (Sound n) (sym p.is) (turn_sound g link n (walk_in n w s) v.ready.sound);
            };
            same = ap (finish g link) p.is ∙ finish_turn g link (walk_in n w s) (get_or w s.top 0) (drop (s.top + 1) (take (2 * n) w)) (stack_top n w s z h) ∙ v.same;
            kept = p.kept ∙ v.kept;
            long = p.long ∙ v.long;
          }

      pub walked_less : left g link (walk_in (points_of g) w' r) < left g link (walk_in (points_of g) w s)
      walked_less =
          let n = points_of g in
          let e : left g link (walk_in n w' r) ≡ left g link (turn g link (walk_in n w s)) = ap (left g link) p.is in
          let l = turn_less g link (walk_in n w s) (get_or w s.top 0) (drop (s.top + 1) (take (2 * n) w)) (stack_top n w s v.ready.sized h) in
          omega (arith, e, l)
