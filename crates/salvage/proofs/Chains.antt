-- What the chains over marks find is what the definitions say. Assumes nothing.
use Rattle.std.proofs.Common.{◌≡◌, refl, sym, ap, ◌∙◌, ℕ, zero, suc, ◌+◌, ◌<◌, List, [], ◌∷◌, length, get_or, cond, inl, inr, arith, ◌==◌}
use Rattle.std.specs.Prelude.{Option, None, Some, MatchOption, count_by}
use Rattle.std.specs.Option.{unwrap_or}
use Rattle.std.proofs.lemmas.List.Recursion.{is_count_by}
use borrow.Author.Tests.{ne_eqb}
use Rattle.seqs.specs.Tests.{either}
use Rattle.salvage.specs.Ring.{kept}
use Rattle.salvage.specs.RingLaws.{count, first_kept, last_kept}

pub count_chain : (ms : List ℕ) → count ms ≡ count_by (λ m. m == 0) ms
count_chain ms = is_count_by count (λ m. m == 0) refl (λ x xs. elim (either (kept x)) [ inl e ↦ rw e (omega arith) | inr e ↦ rw e ]) ms

-- none is kept
abbrev pub NoneKept : List ℕ → Type 0
NoneKept ms = (k : ℕ) → k < length ms → get_or ms k 0 ≡ 0 → ⊥

-- the one at place i is the first that is kept, and the last
abbrev pub IsFirst : List ℕ → ℕ → Type 0
IsFirst ms i = (i < length ms) × (get_or ms i 0 ≡ 0) × ((k : ℕ) → k < i → get_or ms k 0 ≡ 0 → ⊥)

abbrev pub IsLast : List ℕ → ℕ → Type 0
IsLast ms i = (i < length ms) × (get_or ms i 0 ≡ 0) × ((k : ℕ) → i < k → k < length ms → get_or ms k 0 ≡ 0 → ⊥)

first_all : (ms : List ℕ) → NoneKept ms → first_kept ms ≡ length ms
unfolding first_kept
first_all [] n = refl
first_all (m ∷ ms) n = rw (ne_eqb m 0 (n 0 (omega arith))) (ap suc (first_all ms (λ k h. n (suc k) (omega arith))))

first_at : (ms : List ℕ) (i : ℕ) → i < length ms → get_or ms i 0 ≡ 0 → ((k : ℕ) → k < i → get_or ms k 0 ≡ 0 → ⊥) → first_kept ms ≡ i
unfolding first_kept
first_at [] i h e n = absurd (omega arith)
first_at (m ∷ ms) zero h e n = rw e
first_at (m ∷ ms) (suc i) h e n = rw (ne_eqb m 0 (n 0 (omega arith))) (ap suc (first_at ms i (omega arith) e (λ k l. n (suc k) (omega arith))))

pub first_chain : (ms : List ℕ) (r : Option ℕ) → MatchOption r (NoneKept ms) (IsFirst ms) → unwrap_or r (length ms) ≡ first_kept ms
first_chain ms None n = sym (first_all ms n)
first_chain ms (Some i) f = sym (first_at ms i f.0 f.1 f.2)

last_all : (i l : ℕ) (ms : List ℕ) → NoneKept ms → last_kept i l ms ≡ l
unfolding last_kept
last_all i l [] n = refl
last_all i l (m ∷ ms) n = rw (ne_eqb m 0 (n 0 (omega arith))) (last_all (i + 1) l ms (λ k h. n (suc k) (omega arith)))

last_at : (i l : ℕ) (ms : List ℕ) (j : ℕ) → j < length ms → get_or ms j 0 ≡ 0 → ((k : ℕ) → j < k → k < length ms → get_or ms k 0 ≡ 0 → ⊥) → last_kept i l ms ≡ i + j
unfolding last_kept
last_at i l [] j h e n = absurd (omega arith)
last_at i l (m ∷ ms) zero h e n = rw e (last_all (i + 1) i ms (λ k g. n (suc k) (omega arith) (omega arith)) ∙ omega arith)
last_at i l (m ∷ ms) (suc j) h e n = last_at (i + 1) (cond (kept m) i l) ms j (omega arith) e (λ k g b. n (suc k) (omega arith) (omega arith)) ∙ omega arith

pub last_chain : (ms : List ℕ) (r : Option ℕ) → MatchOption r (NoneKept ms) (IsLast ms) → unwrap_or r 0 ≡ last_kept 0 0 ms
last_chain ms None n = sym (last_all 0 0 ms n)
last_chain ms (Some i) f = omega (arith, last_at 0 0 ms i f.0 f.1 f.2)
