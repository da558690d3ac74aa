-- The turn of the loop that links pieces from the last back. Assumes nothing.
use mathlib.Core.Path.{◌≡◌, refl, sym, ap, ◌∙◌}
use mathlib.Core.Logic.{inl, inr}
use mathlib.Core.List.{List, ◌∷◌, ◌++◌, append_assoc}
use Rattle.std.proofs.Common.{length-take-le, length-drop, drop-drop}
use Rattle.seqs.specs.Wrote.{head_length}
use Prim.Native.Nat.{ℕ, zero, suc, ◌+◌, ◌-◌, ◌*◌, ◌≤◌, ◌<◌}
use native.Mathlib.Omega.{arith}
use lib.Dec.{eqb}
use lib.ListN.{length, take, drop, get_or, set, length-set, replicate, length-replicate}
use lib.Seq.{get_or-set_same, get_or-set_other, take-set-le, drop-set-lt}
use borrow.Author.Tests.{eqb-true, eqb-false}
use Rattle.seqs.specs.Tests.{either}
use Rattle.seqs.specs.Front.{next, none}
use Rattle.seqs.specs.Reads.{read_on, take_on}
use Rattle.seqs.specs.Slices.{Put}
use Rattle.sewing.specs.Sewing.{numbers_in, seek, next_of, links, Marked, Linking}
use Rattle.sewing.specs.LinkedLaws.{numbers_length, number_at, numbers_kept, put_length, put_kept, put_behind, put_read, linking_put}

module _ (n sections : ℕ) (d₀ : List ℕ) (m : Marked n sections d₀) where
  pub chain_start : ((s : ℕ) → s < sections → get_or d₀ (4 * n + s) 0 ≡ n) → Linking n sections n (numbers_in n d₀) d₀ d₀
  unfolding seek
  chain_start f = record {
    size = refl;
    kept = refl;
    nexts = λ j h k. absurd (omega arith);
    firsts = λ s h. f s h ∙ rw (none (numbers_in n d₀) n (omega (arith, numbers_length n d₀)));
    behind = refl;
  }

  module _ (i : ℕ) (h : i < n) (d : List ℕ) (l : Linking n sections (i + 1) (numbers_in n d₀) d₀ d) where
    -- a mark, read where links are being written
    pub mark_is : get_or d (n + 2 * i) 0 ≡ get_or (numbers_in n d₀) i 0
    mark_is = read_on d d₀ (n + 2 * i) (3 * n) 0 (omega arith) l.kept ∙ sym (number_at n d₀ i h)

    pub mark_below : get_or d (n + 2 * i) 0 < sections
    mark_below = rw (mark_is, number_at n d₀ i h) (m.below i h)

    pub chain_next : (s v : ℕ) → s ≡ get_or (numbers_in n d₀) i 0 → v ≡ get_or d (4 * n + s) 0 → s < sections → Linking n sections i (numbers_in n d₀) d₀ (set (set d (3 * n + i) v) (4 * n + s) i)
    unfolding seek next_of
    chain_next s v q w b = record {
      size = length-set (set d (3 * n + i) v) (4 * n + s) i ∙ length-set d (3 * n + i) v ∙ l.size;
      kept = take-set-le (3 * n) (set d (3 * n + i) v) (4 * n + s) i (omega arith) ∙ take-set-le (3 * n) d (3 * n + i) v (omega arith) ∙ l.kept;
      nexts = λ j a c. elim (either (eqb i j)) [
        | inl e ↦
            let z = eqb-true i j e in
            rw (← z)
            (get_or-set_other (set d (3 * n + i) v) (4 * n + s) (3 * n + i) i 0 (λ y. omega arith) ∙ get_or-set_same d (3 * n + i) v 0 (omega (arith, l.size, m.room))
            ∙ w ∙ l.firsts s b ∙ rw q)
        | inr e ↦
            let z = eqb-false i j e in
            get_or-set_other (set d (3 * n + i) v) (4 * n + s) (3 * n + j) i 0 (λ y. omega arith) ∙ get_or-set_other d (3 * n + i) (3 * n + j) v 0 (λ y. omega arith)
            ∙ l.nexts j (omega arith) c
      ];
      firsts = λ t a. elim (either (eqb s t)) [
        | inl e ↦
            let z = eqb-true s t e in
            rw (front, ← q, e, ← z)
            (get_or-set_same (set d (3 * n + i) v) (4 * n + s) i 0 (omega (arith, length-set d (3 * n + i) v, l.size, m.room)))
        | inr e ↦
            let z = eqb-false s t e in
            rw (front, ← q, e)
            (get_or-set_other (set d (3 * n + i) v) (4 * n + s) (4 * n + t) i 0 (λ y. omega arith) ∙ get_or-set_other d (3 * n + i) (4 * n + t) v 0 (λ y. omega arith)
            ∙ l.firsts t a)
      ];
      behind = drop-set-lt (4 * n + sections) (set d (3 * n + i) v) (4 * n + s) i (omega arith) ∙ drop-set-lt (4 * n + sections) d (3 * n + i) v (omega arith) ∙ l.behind;
    }
      where
        front : drop i (numbers_in n d₀) ≡ get_or (numbers_in n d₀) i 0 ∷ drop (i + 1) (numbers_in n d₀)
        front = next (numbers_in n d₀) i 0 (omega (arith, numbers_length n d₀))

-- ---- the table of firsts is cleared, then the pieces are linked

get_d_replicate : (n v i z : ℕ) → i < n → get_or (replicate n v) i z ≡ v
get_d_replicate zero v i z h = absurd (omega arith)
get_d_replicate (suc n) v zero z h = refl
get_d_replicate (suc n) v (suc i) z h = get_d_replicate n v i z (omega arith)

module _ (n sections : ℕ) (d d₁ : List ℕ) (m : Marked n sections d) (p : Put d d₁ (4 * n) (replicate sections n)) where
  size : length d₁ ≡ length d
  size = put_length d d₁ (replicate sections n) (4 * n) (omega (arith, length-replicate sections n, m.room)) p

  kept : take (4 * n) d₁ ≡ take (4 * n) d
  kept = put_kept d d₁ (replicate sections n) (4 * n) (omega (arith, m.room)) p

  pub cleared : Marked n sections d₁ × ((s : ℕ) → s < sections → get_or d₁ (4 * n + s) 0 ≡ n)
  cleared = (
    record { room = omega (arith, size, m.room); below = λ i h. rw (read_on d₁ d (n + 2 * i) (4 * n) 0 (omega arith) kept) (m.below i h) },
    λ s h. put_read d d₁ (replicate sections n) (4 * n) s 0 (omega (arith, m.room)) (omega (arith, length-replicate sections n)) p ∙ get_d_replicate sections n s 0 h,
  )

  pub link_end : (d₂ : List ℕ) → Linking n sections 0 (numbers_in n d₁) d₁ d₂ → Put d d₂ (3 * n) (links (numbers_in n d) sections)
  link_end d₂ l =
      let t : take (3 * n) d₁ ≡ take (3 * n) d = take_on d₁ d (3 * n) (4 * n) (omega arith) kept in
      let k = numbers_kept d₁ d n t in
      linking_put n sections (numbers_in n d) (numbers_length n d) d d₁ d₂ m.room size t
      (put_behind d d₁ (replicate sections n) (4 * n) (4 * n + sections) (ap (λ x. 4 * n + x) (length-replicate sections n)) m.room p)
      (rw k at l)

-- one value in each of m places from k on, as `fill` leaves it
pub fill_put : (d y : List ℕ) (k m v : ℕ) → k + m ≤ length d → y ≡ replicate (length (take (k + m - k) (drop k d))) v → Put d (take k d ++ (y ++ drop (k + m - k) (drop k d))) k (replicate m v)
fill_put d y k m v h e =
    let z : k + m - k ≡ m = omega arith in
    let n : length (take m (drop k d)) ≡ m = length-take-le m (drop k d) (omega (arith, length-drop k d)) in
    let q : y ≡ replicate m v = rw (z, n) at e in
    rw (z, q, drop-drop, append_assoc, head_length d (replicate m v) k (omega arith), length-replicate)
