-- A shuffled list holds what the list held, and is as long. Assumes nothing.
use Rattle.std.specs.Prelude.{ℕ, zero, suc, ◌+◌, ◌-◌, ◌%◌, ◌<◌, ◌≡◌, refl, eqb, length, get_or, set}
use Rattle.std.proofs.Common.{arith, mod-lt, sym, ◌∙◌, inl, inr, eqb-true}
use mathlib.Core.List.{List, [], ◌∷◌, Memᴰ}
use Rattle.std.proofs.Math.ListN.{length-set}
use Rattle.std.proofs.Math.Seq.{get_or-set_same, get_or-set_other}
use Rattle.std.proofs.lemmas.Bool.{eqb-false}
use Rattle.seqs.specs.Tests.{either}
use Rattle.meander_rules.specs.Meander.{swap, next_seed, shuffle_from, shuffle}

-- a stands somewhere in the list
pub record Stands (a : ℕ) (l : List ℕ) : Type 0 where
  pub at : ℕ
  pub low : at < length l
  pub is : get_or l at 0 ≡ a

pub stands : {a : ℕ} (l : List ℕ) → Memᴰ a l → Stands a l
stands [] m = elim m [ ]
stands (b ∷ l) (Memᴰ.head e) = record { at = 0; low = omega arith; is = sym e }
stands (b ∷ l) (Memᴰ.tail m) = let s = stands l m in record { at = suc s.at; low = omega (arith, s.low); is = s.is }

pub member : {a : ℕ} (l : List ℕ) (i : ℕ) → i < length l → get_or l i 0 ≡ a → Memᴰ a l
member [] i h e = absurd (omega arith)
member (b ∷ l) zero h e = Memᴰ.head (sym e)
member (b ∷ l) (suc i) h e = Memᴰ.tail (member l i (omega arith) e)

module _ (l : List ℕ) (i j : ℕ) where
  pub swap_length : length (swap l i j) ≡ length l
  unfolding swap
  swap_length = length-set (set l i (get_or l j 0)) j (get_or l i 0) ∙ length-set l i (get_or l j 0)

  module _ (hi : i < length l) (hj : j < length l) where
    swap_first : get_or (swap l i j) j 0 ≡ get_or l i 0
    unfolding swap
    swap_first = get_or-set_same (set l i (get_or l j 0)) j (get_or l i 0) 0 (omega (arith, length-set l i (get_or l j 0)))

    swap_second : (i ≡ j → ⊥) → get_or (swap l i j) i 0 ≡ get_or l j 0
    unfolding swap
    swap_second h = get_or-set_other (set l i (get_or l j 0)) j i (get_or l i 0) 0 h ∙ get_or-set_same l i (get_or l j 0) 0 hi

    swap_else : (k : ℕ) → (k ≡ i → ⊥) → (k ≡ j → ⊥) → get_or (swap l i j) k 0 ≡ get_or l k 0
    unfolding swap
    swap_else k p q = get_or-set_other (set l i (get_or l j 0)) j k (get_or l i 0) 0 q ∙ get_or-set_other l i k (get_or l j 0) 0 p

    pub swap_stands : {a : ℕ} → Stands a l → Stands a (swap l i j)
    swap_stands s = elim (either (eqb s.at i)) [
      | inl e ↦ record { at = j; low = omega (arith, swap_length, hj); is = swap_first ∙ rw (sym (eqb-true s.at i e)) s.is }
      | inr e ↦ elim (either (eqb s.at j)) [
        | inl f ↦ let z = eqb-true s.at j f in record { at = i; low = omega (arith, swap_length, hi); is = swap_second (λ w. eqb-false s.at i e (z ∙ sym w)) ∙ rw (sym z) s.is }
        | inr f ↦ record { at = s.at; low = omega (arith, swap_length, s.low); is = swap_else s.at (eqb-false s.at i e) (eqb-false s.at j f) ∙ s.is }
      ]
    ]

shuffle_from_length : (i : ℕ) (l : List ℕ) (seed : ℕ) → length (shuffle_from i l seed).order ≡ length l
unfolding shuffle_from
shuffle_from_length zero l seed = refl
shuffle_from_length (suc i) l seed = shuffle_from_length i (swap l (suc i) (next_seed seed % (i + 2))) (next_seed seed) ∙ swap_length l (suc i) (next_seed seed % (i + 2))

pub shuffle_length : (l : List ℕ) (seed : ℕ) → length (shuffle l seed).order ≡ length l
unfolding shuffle
shuffle_length l seed = shuffle_from_length (length l - 1) l seed

shuffle_from_stands : {a : ℕ} (i : ℕ) (l : List ℕ) (seed : ℕ) → i < length l → Stands a l → Stands a (shuffle_from i l seed).order
unfolding shuffle_from
shuffle_from_stands zero l seed h s = s
shuffle_from_stands (suc i) l seed h s =
    let j = next_seed seed % (i + 2) in
    let small : j < i + 2 = mod-lt (next_seed seed) (omega arith) in
    shuffle_from_stands i (swap l (suc i) j) (next_seed seed) (omega (arith, swap_length l (suc i) j)) (swap_stands l (suc i) j h (omega (arith, small)) s)

pub shuffle_member : {a : ℕ} (l : List ℕ) (seed : ℕ) → Memᴰ a l → Memᴰ a (shuffle l seed).order
unfolding shuffle
shuffle_member l seed m =
    let s = stands l m in
    let t = shuffle_from_stands (length l - 1) l seed (omega (arith, s.low)) s in
    member (shuffle_from (length l - 1) l seed).order t.at t.low t.is
