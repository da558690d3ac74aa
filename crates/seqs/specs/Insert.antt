-- Insertion from the back in a slice, and the sort that inserts one after the other. Assumes nothing.
use Rattle.std.specs.Prelude.{◌≡◌, refl, Bool, true, false, ◌&&◌, List, [], ◌∷◌, ◌++◌, ℕ, zero, suc, ◌+◌, ◌-◌, ◌≤◌, ◌<◌, length, take, drop, get_or, set}
use Rattle.std.proofs.Common.{sym, ap, ◌∙◌, subst, append_assoc, add-one, arith, length-append, length-drop, length-set, length-take-le, take-suc, take_all, take_at, drop_at, take-take, set-set, get_or-set_other, get_or-take}
use Rattle.std.proofs.Math.ListN.{get_or-append}
use Rattle.std.proofs.lemmas.List.{set_at, set-get_or}
use Rattle.std.proofs.Math.Seq.{split_at}
use Rattle.seqs.specs.Front.{next, none}
use Rattle.seqs.specs.Lists.{every, fold, insert_back, All}
use Rattle.seqs.specs.Tests.{clash, refute}
use Rattle.seqs.specs.All.{all_at}
use Rattle.seqs.specs.Each.{every_all, all_every}
use Rattle.seqs.specs.Reads.{part_next, part_none}
use Rattle.seqs.specs.Sort.{perm_length, back_perm}

module _ {ℓ} {A : Type ℓ} (le : A → A → Bool) where
  -- the place j: all from j on may stand behind e, and the one before j may not
  pub back_at : (e z : A) (l : List A) (j : ℕ) → j ≤ length l → All (λ b. le e b ≡ true) (drop j l) → (0 < j → le e (get_or l (j - 1) z) ≡ false) → insert_back le e l ≡ take j l ++ (e ∷ drop j l)
  back_at e z [] zero h k f = refl
  back_at e z [] (suc j) h k f = absurd (omega arith)
  back_at e z (b ∷ l) zero h k f = rw (k.0, all_every (le e) l k.1)
  back_at e z (b ∷ l) (suc j) h k f =
      let s : suc j - 1 ≡ j = omega arith in
      let g : le e (get_or (b ∷ l) j z) ≡ false = rw s at (f (omega arith)) in
      let t : (le e b && every (le e) l) ≡ false = refute (le e b && every (le e) l) (λ t. clash (all_at (λ c. le e c ≡ true) (b ∷ l) j z (omega arith) (every_all (le e) (b ∷ l) t)) g) in
      rw t (ap (λ r. b ∷ r) (back_at e z l j (omega arith) k (λ q. let u : j ≡ suc (j - 1) = omega arith in subst (λ i. le e (get_or (b ∷ l) i z) ≡ false) u g)))

  -- e is carried down through the first n of d₀: put at j, it stands between those before j and those from j on, which all may stand behind it
  pub record Carried (d₀ d : List A) (n j : ℕ) (e : A) : Type ℓ where
    pub low : j ≤ n
    pub room : n < length d₀
    pub size : length d ≡ length d₀
    pub put : set d j e ≡ (take j d₀ ++ (e ∷ drop j (take n d₀))) ++ drop (n + 1) d₀
    pub after : All (λ b. le e b ≡ true) (drop j (take n d₀))

  pub carried_start : (d : List A) (n : ℕ) (z : A) → n < length d → Carried d d n n (get_or d n z)
  carried_start d n z h =
      let e : drop n (take n d) ≡ [] = part_none d n n (omega arith) (omega arith) in
      record {
        low = omega arith;
        room = h;
        size = refl;
        put = set-get_or d n z ∙ split_at d n z h ∙ rw (e, add-one, append_assoc);
        after = rw e tt;
      }

  up : (d x s r : List A) (p e : A) (i j : ℕ) → length x ≡ i → j ≡ suc i → set d j e ≡ ((x ++ (p ∷ [])) ++ (e ∷ s)) ++ r → set (set d j p) i e ≡ (x ++ (e ∷ p ∷ s)) ++ r
  up d x s r p e i j h k q =
      let a : set d j p ≡ (x ++ (p ∷ [])) ++ (p ∷ (s ++ r)) =
      sym (set-set d j e p) ∙ ap (λ l. set l j p) (q ∙ append_assoc (x ++ (p ∷ [])) (e ∷ s) r) ∙ set_at (x ++ (p ∷ [])) e (s ++ r) p j (length-append x (p ∷ []) ∙ omega arith) in
      ap (λ l. set l i e) (a ∙ append_assoc x (p ∷ []) (p ∷ (s ++ r))) ∙ set_at x p (p ∷ (s ++ r)) e i h ∙ sym (append_assoc x (e ∷ p ∷ s) r)

  module _ {d₀ d : List A} {n j : ℕ} {e : A} (z : A) (c : Carried d₀ d n j e) where
    -- those before j stand as they came
    pub carried_read : 0 < j → get_or d (j - 1) z ≡ get_or d₀ (j - 1) z
    carried_read h =
        let l = c.low in
        let r = c.room in
        let t : length (take j d₀) ≡ j = length-take-le j d₀ (omega arith) in
        sym (get_or-set_other d j (j - 1) e z (λ q. omega arith)) ∙ ap (λ x. get_or x (j - 1) z) (c.put ∙ append_assoc (take j d₀) (e ∷ drop j (take n d₀)) (drop (n + 1) d₀))
        ∙ get_or-append (take j d₀) ((e ∷ drop j (take n d₀)) ++ drop (n + 1) d₀) z (j - 1) (omega arith) ∙ get_or-take j d₀ (j - 1) z (omega arith)

    -- a turn: the one before j goes one up
    pub carried_down : 0 < j → le e (get_or d (j - 1) z) ≡ true → Carried d₀ (set d j (get_or d (j - 1) z)) n (j - 1) e
    carried_down h t =
        let l = c.low in
        let r = c.room in
        let u : j - 1 + 1 ≡ j = omega arith in
        let v : suc (j - 1) ≡ j = omega arith in
        let p = carried_read h in
        let x : take j d₀ ≡ take (j - 1) d₀ ++ (get_or d (j - 1) z ∷ []) = rw p (ap (λ k. take k d₀) (sym v) ∙ take-suc d₀ (j - 1) z (omega arith)) in
        let s : drop (j - 1) (take n d₀) ≡ get_or d (j - 1) z ∷ drop j (take n d₀) = rw p (rw u at (part_next d₀ n (j - 1) z (omega arith) (omega arith))) in
        record {
          low = omega arith;
          room = r;
          size = length-set d j (get_or d (j - 1) z) ∙ c.size;
          put = rw s (up d (take (j - 1) d₀) (drop j (take n d₀)) (drop (n + 1) d₀) (get_or d (j - 1) z) e (j - 1) j (length-take-le (j - 1) d₀ (omega arith)) (omega arith) (rw x at c.put));
          after = rw s (t, c.after);
        }

    -- the end
    pub carried_end : (0 < j → le e (get_or d (j - 1) z) ≡ false) → set d j e ≡ insert_back le e (take n d₀) ++ drop (n + 1) d₀
    carried_end f =
        let l = c.low in
        let r = c.room in
        c.put ∙ rw (back_at e z (take n d₀) j (omega (arith, length-take-le n d₀ (omega arith))) c.after (λ h. rw (get_or-take n d₀ (j - 1) z (omega arith), ← carried_read h) (f h)), take-take j n d₀ l)

  -- ---- the sort: the first n are in order, and the rest stands as it came

  pub record Sorting (d₀ d : List A) (n : ℕ) : Type ℓ where
    pub low : n ≤ length d₀
    pub size : length d ≡ length d₀
    pub sofar : fold (insert_back le) (take n d) (drop n d) ≡ fold (insert_back le) [] d₀

  pub sorting_start : (d : List A) → Sorting d d 0
  sorting_start d = record { low = omega arith; size = refl; sofar = refl }

  pub sorting_step : {d₀ d d' : List A} {n : ℕ} (z : A) → Sorting d₀ d n → n < length d → d' ≡ insert_back le (get_or d n z) (take n d) ++ drop (n + 1) d → Sorting d₀ d' (n + 1)
  sorting_step {d₀} {d} {d'} {n} z s h e =
      let front : List A = insert_back le (get_or d n z) (take n d) in
      let q : length front ≡ n + 1 = perm_length (back_perm le (get_or d n z) (take n d)) ∙ omega (arith, length-take-le n d (omega arith)) in
      record {
        low = omega (arith, s.size);
        size = ap length e ∙ length-append front (drop (n + 1) d) ∙ omega (arith, q, length-drop (n + 1) d, s.size);
        sofar = rw (e, take_at front (drop (n + 1) d) (n + 1) q, drop_at front (drop (n + 1) d) (n + 1) q) (sym (ap (λ l. fold (insert_back le) (take n d) l) (next d n z h)) ∙ s.sofar);
      }

  pub sorting_end : {d₀ d : List A} {n : ℕ} → Sorting d₀ d n → length d ≤ n → d ≡ fold (insert_back le) [] d₀
  sorting_end {d₀} {d} {n} s h = rw (none d n h, take_all n d h) at s.sofar
