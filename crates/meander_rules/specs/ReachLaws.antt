-- Every inside point that can be reached over allowed links from a walk's start is visited by that walk's end, and by the end of all walks every inside point is. Assumes nothing.
use Rattle.std.specs.Prelude.{ℕ, ◌*◌, ◌≤◌, ◌<◌, ◌≡◌, refl, Bool, true, ◌⊎◌, eqb}
use Rattle.std.proofs.Common.{arith, sym, ap, ◌∙◌, eqb-true}
use Rattle.std.proofs.Math.Logic.{inl, inr}
use mathlib.Core.List.Memᴰ
use mathlib.Core.List.{List, [], ◌∷◌, Memᴰ}
use Rattle.std.proofs.Math.ListN.{length, set, length-set}
use Rattle.seqs.specs.Lists.{upto, fold}
use Rattle.seqs.specs.Upto.{upto_length, upto_at}
use Rattle.seqs.specs.Tests.{either, clash}
use Rattle.meander_rules.specs.declared.Lattice.{Lattice}
use Rattle.meander_rules.specs.Meander.{Walk, Walks, points_of, is_free, walk_from, walked, start_at, walks_of}
use Rattle.meander_rules.specs.Reach.{Inside, Visited, Link, Reached, at_start, over, before}
use Rattle.meander_rules.specs.FreeLaws.{taken, taken_other, taken_stays, ones_few, ones_taken}
use Rattle.meander_rules.specs.ShuffleLaws.{member}
use Rattle.meander_rules.specs.TurnLaws.{turns_keep, turns_end}

module _ (g : Lattice) (link : ℕ → ℕ → Bool) where
  -- ---- one walk

  -- what isn't free stays so, and the list keeps its length
  pub walk_stays : (start : ℕ) (free : List ℕ) (seed k : ℕ) → Visited free k → Visited (walk_from g link start free seed).free k
  unfolding walk_from
  walk_stays start free seed k h =
      turns_keep g link (λ f s p. Visited f k) (λ f s p here shut v. v) (λ f s p here n t l v. taken_stays f n k v) (2 * points_of g)
      (record { free = set free start 0; stack = start ∷ []; path = start ∷ []; seed = seed }) (taken_stays free start k h)

  pub walk_length : (start : ℕ) (free : List ℕ) (seed : ℕ) → length (walk_from g link start free seed).free ≡ length free
  unfolding walk_from
  walk_length start free seed =
      turns_keep g link (λ f s p. length f ≡ length free) (λ f s p here shut v. v) (λ f s p here n t l v. length-set f n 0 ∙ v) (2 * points_of g)
      (record { free = set free start 0; stack = start ∷ []; path = start ∷ []; seed = seed }) (length-set free start 0)

  -- the start is visited
  pub walk_starts : (start : ℕ) (free : List ℕ) (seed : ℕ) → Visited (walk_from g link start free seed).free start
  unfolding walk_from
  walk_starts start free seed =
      turns_keep g link (λ f s p. Visited f start) (λ f s p here shut v. v) (λ f s p here n t l v. taken_stays f n start v) (2 * points_of g)
      (record { free = set free start 0; stack = start ∷ []; path = start ∷ []; seed = seed }) (taken free start)

  -- what it visits stands on its path
  pub walk_on_path : (start : ℕ) (free : List ℕ) (seed k : ℕ) → is_free free k ≡ true → Visited (walk_from g link start free seed).free k → Memᴰ k (walk_from g link start free seed).path
  unfolding walk_from
  walk_on_path start free seed k t =
      turns_keep g link (λ f s p. Visited f k → Memᴰ k p) (λ f s p here shut v h. Memᴰ.append_left _ (v h))
      (λ f s p here n u l v h. elim (either (eqb k n)) [ inl e ↦ Memᴰ.append_right p (Memᴰ.head (eqb-true k n e)) | inr e ↦ Memᴰ.append_left (n ∷ []) (v (sym (taken_other f n k e) ∙ h)) ])
      (2 * points_of g) (record { free = set free start 0; stack = start ∷ []; path = start ∷ []; seed = seed })
      (λ h. elim (either (eqb k start)) [ inl e ↦ Memᴰ.head (eqb-true k start e) | inr e ↦ clash t (sym (taken_other free start k e) ∙ h) ])

  -- it ends, with nothing left to go back to
  walk_ends : (start : ℕ) (free : List ℕ) (seed : ℕ) → is_free free start ≡ true → length free ≤ points_of g → (walk_from g link start free seed).stack ≡ []
  unfolding walk_from
  walk_ends start free seed t h =
      turns_end g link (2 * points_of g) (record { free = set free start 0; stack = start ∷ []; path = start ∷ []; seed = seed })
      (omega (arith, ones_taken free start t, ones_few free, h))

  module _ (first : List ℕ) where
    -- an allowed link from a visited point leads to a visited one
    pub Closed : List ℕ → Type 0
    Closed free = (k n : ℕ) → Inside first k → Visited free k → Link g link first k n → Visited free n

    -- and so of the points that the walk is done with: those not on its stack
    Done : List ℕ → List ℕ → Type 0
    Done free stack = (k : ℕ) → Inside first k → Visited free k → Memᴰ k stack ⊎ ((n : ℕ) → Link g link first k n → Visited free n)

    done_back : (free stack : List ℕ) (here : ℕ) → ((n : ℕ) → Link g link first here n → Visited free n) → Done free (here ∷ stack) → Done free stack
    unfolding Done
    done_back free stack here shut d k i v = elim (d k i v) [
      | inl m ↦ elim (Memᴰ.cases_cons m) [ inl e ↦ inr (λ n l. shut n (rw e at l)) | inr t ↦ inl t ]
      | inr c ↦ inr c
    ]

    done_on : (free stack : List ℕ) (n : ℕ) → Done free stack → Done (set free n 0) (n ∷ stack)
    unfolding Done
    done_on free stack n d k i v = elim (either (eqb k n)) [
      | inl e ↦ inl (Memᴰ.head (eqb-true k n e))
      | inr e ↦ elim (d k i (sym (taken_other free n k e) ∙ v)) [ inl m ↦ inl (Memᴰ.tail m) | inr c ↦ inr (λ b l. taken_stays free n b (c b l)) ]
    ]

    walk_done : (start : ℕ) (free : List ℕ) (seed : ℕ) → Closed free → Done (walk_from g link start free seed).free (walk_from g link start free seed).stack
    unfolding walk_from Closed Done
    walk_done start free seed c =
        turns_keep g link (λ f s p. Done f s) (λ f s p here shut d. done_back f s here (λ n l. shut n l.beside l.allowed) d) (λ f s p here n t l d. done_on f (here ∷ s) n d) (2 * points_of g)
        (record { free = set free start 0; stack = start ∷ []; path = start ∷ []; seed = seed })
        (done_on free [] start (λ k i v. inr (λ n l. c k n i v l)))

    pub walk_closed : (start : ℕ) (free : List ℕ) (seed : ℕ) → is_free free start ≡ true → length free ≤ points_of g → Closed free → Closed (walk_from g link start free seed).free
    unfolding Closed Done
    walk_closed start free seed t h c k n i v l = elim (walk_done start free seed c k i v) [ inl m ↦ absurd (Memᴰ.not-nil (rw (walk_ends start free seed t h) at m)) | inr d ↦ d n l ]

    -- ---- the walks one after the other

    -- after any of them: what isn't inside isn't free, the list is as long as at first, and links from visited points lead to visited ones
    pub record Kept (w : Walks) : Type 0 where
      pub stays : (k : ℕ) → Visited first k → Visited w.free k
      pub size : length w.free ≡ length first
      pub closed : Closed w.free

    module _ (fits : length first ≤ points_of g) where
      kept_walked : (start : ℕ) (w : Walks) → is_free w.free start ≡ true → Kept w → Kept (walked g link start w)
      unfolding walked
      kept_walked start w t q = record {
        stays = λ k v. walk_stays start w.free w.seed k (q.stays k v);
        size = walk_length start w.free w.seed ∙ q.size;
        closed = walk_closed start w.free w.seed t (omega (arith, fits, q.size)) q.closed;
      }

      kept_start : (start : ℕ) (w : Walks) → Kept w → Kept (start_at g link start w)
      unfolding start_at
      kept_start start w q = elim (either (is_free w.free start)) [ inl t ↦ rw t (kept_walked start w t q) | inr f ↦ rw f q ]

      kept_all : (l : List ℕ) (w : Walks) → Kept w → Kept (fold (start_at g link) w l)
      kept_all [] w q = q
      kept_all (k ∷ l) w q = kept_all l (start_at g link k w) (kept_start k w q)

      kept_first : (seed : ℕ) → Kept (record { paths = []; free = first; seed = seed })
      unfolding Closed
      kept_first seed = record { stays = λ k v. v; size = refl; closed = λ k n i v l. clash i v }

      -- before each walk
      pub kept_before : (seed start : ℕ) → Kept (before g link first seed start)
      kept_before seed start = kept_all (upto 0 start) (record { paths = []; free = first; seed = seed }) (kept_first seed)

      -- every inside point that can be reached over allowed links from a walk's start is visited by the walk's end
      module _ (seed start : ℕ) (t : is_free (before g link first seed start).free start ≡ true) where
        abbrev after : Walk
        after = walk_from g link start (before g link first seed start).free (before g link first seed start).seed

        pub reached_visited : {n : ℕ} → Reached g link first start n → Inside first n × Visited after.free n
        unfolding Closed
        reached_visited at_start = (inside, walk_starts start (before g link first seed start).free (before g link first seed start).seed)
          where
            inside : Inside first start
            inside = elim (either (is_free first start)) [ inl i ↦ i | inr f ↦ clash t ((kept_before seed start).stays start f) ]
        reached_visited (over {k} {n} r l) =
            let q = kept_before seed start in
            let h = reached_visited r in
            (l.in_it, walk_closed start (before g link first seed start).free (before g link first seed start).seed t (omega (arith, fits, q.size)) q.closed k n h.0 h.1 l)

        -- so it stands on this walk's path, if no walk before this one visited it
        pub reached_on_path : {n : ℕ} → Reached g link first start n → is_free (before g link first seed start).free n ≡ true → Memᴰ n after.path
        reached_on_path {n} r f = walk_on_path start (before g link first seed start).free (before g link first seed start).seed n f (reached_visited r).1

    -- ---- by the end of all walks every inside point is visited

    start_stays : (start : ℕ) (w : Walks) (k : ℕ) → Visited w.free k → Visited (start_at g link start w).free k
    unfolding start_at walked
    start_stays start w k v = elim (either (is_free w.free start)) [ inl t ↦ rw t (walk_stays start w.free w.seed k v) | inr f ↦ rw f v ]

    all_stay : (l : List ℕ) (w : Walks) (k : ℕ) → Visited w.free k → Visited (fold (start_at g link) w l).free k
    all_stay [] w k v = v
    all_stay (a ∷ l) w k v = all_stay l (start_at g link a w) k (start_stays a w k v)

    start_visits : (k : ℕ) (w : Walks) → Visited (start_at g link k w).free k
    unfolding start_at walked
    start_visits k w = elim (either (is_free w.free k)) [ inl t ↦ rw t (walk_starts k w.free w.seed) | inr f ↦ rw f f ]

    all_visit : {k : ℕ} (l : List ℕ) (w : Walks) → Memᴰ k l → Visited (fold (start_at g link) w l).free k
    all_visit [] w m = elim m [ ]
    all_visit {k} (a ∷ l) w (Memᴰ.head e) = all_stay l (start_at g link a w) k (rw (ap (λ b. start_at g link b w) (sym e)) (start_visits k w))
    all_visit (a ∷ l) w (Memᴰ.tail m) = all_visit l (start_at g link a w) m

    pub all_visited : (seed k : ℕ) → k < points_of g → Visited (walks_of g link first seed).free k
    unfolding walks_of
    all_visited seed k h =
        all_visit (upto 0 (points_of g)) (record { paths = []; free = first; seed = seed })
        (member (upto 0 (points_of g)) k (omega (arith, upto_length 0 (points_of g))) (upto_at 0 (points_of g) k 0 h ∙ omega arith))
