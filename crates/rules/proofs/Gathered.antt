-- Crossings put in one after the other, those of equal x added: the order in which they come doesn't matter, and merging them once they are sorted gives the same list. Assumes nothing.
use Rattle.std.specs.Prelude.{◌≡◌, refl, Bool, true, false, not, cond, T, ℤ, ◌+ℤ◌, Float}
use Rattle.std.proofs.Common.{sym, ap, ◌∙◌, ⊎_elim, eq-eqb, ne_eqb}
use mathlib.Core.List.{List, [], ◌∷◌, Permᴰ}
use Rattle.std.proofs.Math.IntN.{+ℤ_comm, +ℤ_assoc}
use Rattle.std.specs.Float.{binary64}
use Rattle.std.specs.Float.Ieee.{fits, is_nan, to_bits, of_bits}
use Rattle.std.specs.Float.Ieee.Bits.{of_bits-to_bits}
use Rattle.numbers.specs.Order.{before}
use Rattle.numbers.specs.Laws.{before_irrefl, before_asym, before_trans, before_total, holds}
use Rattle.seqs.specs.Lists.{All, Sorted}
use Rattle.seqs.specs.Tests.{is_true, refute, clash}
use Rattle.seqs.specs.All.{all_perm}
use Rattle.rules.specs.Fill.{same_x, merged_from, merged}
use Rattle.rules.proofs.Merged.{either}

-- ---- numbers by `before`

-- a number that binary64 holds
abbrev pub Number : Float → Type 0
Number x = T (fits binary64 x) × T (not (is_nan x))

pub not_self : (x : Float) → before x x ≡ false
not_self x = refute (before x x) (λ e. absurd (before_irrefl x (holds e)))

pub one_way : (x z : Float) → before x z ≡ true → before z x ≡ false
one_way x z p = refute (before z x) (λ q. absurd (before_asym x z (holds p) (holds q)))

pub through : (x y z : Float) → before x y ≡ true → before y z ≡ true → before x z ≡ true
through x y z p q = is_true (before x z) (before_trans x y z (holds p) (holds q))

-- x stands before z, or behind it, or they are one
pub data Rel (x z : Float) : Type 0 where
  less : before x z ≡ true → before z x ≡ false → Rel x z
  more : before x z ≡ false → before z x ≡ true → Rel x z
  same : x ≡ z → Rel x z

pub rel : (x z : Float) → Number x → Number z → Rel x z
rel x z h k =
    ⊎_elim (λ p. let q = is_true (before x z) p in less q (one_way x z q))
    (λ r. ⊎_elim (λ p. let q = is_true (before z x) p in more (one_way z x q) q) (λ e. same e) r)
    (before_total x z h.0 k.0 h.1 k.1)

pub neither : (x z : Float) → Number x → Number z → before x z ≡ false → before z x ≡ false → x ≡ z
neither x z h k p q = elim (rel x z h k) [ less a b ↦ clash a p | more a b ↦ clash b q | same e ↦ e ]

-- ---- one crossing more, among crossings in order

abbrev pub add : Float → ℤ → List (Float × ℤ) → List (Float × ℤ)
add x d [] = (x, d) ∷ []
add x d (c ∷ l) = cond (before x c.0) ((x, d) ∷ c ∷ l) (cond (before c.0 x) (c ∷ add x d l) ((x, d +ℤ c.1) ∷ l))

-- all of them, the last one first
abbrev pub gathered : List (Float × ℤ) → List (Float × ℤ)
gathered [] = []
gathered (c ∷ cs) = add c.0 c.1 (gathered cs)

abbrev pub Numbers : List (Float × ℤ) → Type 0
Numbers cs = All (λ c. Number c.0) cs

add_numbers : (x : Float) (d : ℤ) (l : List (Float × ℤ)) → Number x → Numbers l → Numbers (add x d l)
add_numbers x d [] h k = (h, tt)
add_numbers x d (c ∷ l) h k = elim (rel x c.0 h k.0) [
  | less p q ↦ rw p (h, k)
  | more p q ↦ rw (p, q) (k.0, add_numbers x d l h k.1)
  | same e ↦ rw (e, not_self c.0) (k.0, k.1)
]

gathered_numbers : (cs : List (Float × ℤ)) → Numbers cs → Numbers (gathered cs)
gathered_numbers [] h = tt
gathered_numbers (c ∷ cs) h = add_numbers c.0 c.1 (gathered cs) h.0 (gathered_numbers cs h.1)

-- ---- the order in which they come doesn't matter

pub add_swap : (d f g : ℤ) → d +ℤ (f +ℤ g) ≡ f +ℤ (d +ℤ g)
add_swap d f g = sym (+ℤ_assoc d f g) ∙ ap (λ s. s +ℤ g) (+ℤ_comm d f) ∙ +ℤ_assoc f d g

-- in front of those that both stand before
two : (x z : Float) (d f : ℤ) (l : List (Float × ℤ)) → Rel x z → add x d l ≡ (x, d) ∷ l → add z f l ≡ (z, f) ∷ l → add x d ((z, f) ∷ l) ≡ add z f ((x, d) ∷ l)
two x z d f l (less p q) h k = rw (p, q, k)
two x z d f l (more p q) h k = rw (p, q, h)
two x z d f l (same e) h k = rw (e, not_self z) (ap (λ s. (z, s) ∷ l) (+ℤ_comm d f))

add_comm : (x z : Float) (d f : ℤ) (l : List (Float × ℤ)) → Number x → Number z → Numbers l → add x d (add z f l) ≡ add z f (add x d l)
add_comm x z d f [] h k n = two x z d f [] (rel x z h k) refl refl
add_comm x z d f (c ∷ l) h k n = elim (rel x c.0 h n.0) [
  | less p q ↦ elim (rel z c.0 k n.0) [
    | less r s ↦ let a : add x d (c ∷ l) ≡ (x, d) ∷ c ∷ l = rw p in
        let b : add z f (c ∷ l) ≡ (z, f) ∷ c ∷ l = rw r in
        ap (add x d) b ∙ two x z d f (c ∷ l) (rel x z h k) a b ∙ sym (ap (add z f) a)
    | more r s ↦ simp (p, q, r, s, through x c.0 z p s, one_way x z (through x c.0 z p s))
    | same e ↦ simp (e, p, q, not_self c.0)
  ]
  | more p q ↦ elim (rel z c.0 k n.0) [
    | less r s ↦ simp (p, q, r, s, through z c.0 x r q, one_way z x (through z c.0 x r q))
    | more r s ↦ simp (p, q, r, s) (ap (λ m. c ∷ m) (add_comm x z d f l h k n.1))
    | same e ↦ simp (e, p, q, not_self c.0)
  ]
  | same e ↦ elim (rel z c.0 k n.0) [
    | less r s ↦ simp (e, r, s, not_self c.0)
    | more r s ↦ simp (e, r, s, not_self c.0)
    | same t ↦ simp (e, t, not_self c.0) (ap (λ s. (c.0, s) ∷ l) (add_swap d f c.1))
  ]
]

pub gathered_perm : {cs ds : List (Float × ℤ)} → Permᴰ cs ds → Numbers cs → gathered cs ≡ gathered ds
gathered_perm Permᴰ.nil h = refl
gathered_perm (Permᴰ.cons {b = b} e p) h = rw e (ap (add b.0 b.1) (gathered_perm p h.1))
gathered_perm (Permᴰ.swap {a} {b} {l = l} e f) h = rw (← e, ← f) (add_comm a.0 b.0 a.1 b.1 (gathered l) h.0 h.1.0 (gathered_numbers l h.1.1))
gathered_perm (Permᴰ.trans p q) h = gathered_perm p h ∙ gathered_perm q (all_perm (λ c. Number c.0) p h)

-- ---- merging crossings that are in order

equal_bits : (x z : Float) → T (fits binary64 x) → T (fits binary64 z) → to_bits binary64 x ≡ to_bits binary64 z → x ≡ z
equal_bits x z h k e = sym (of_bits-to_bits binary64 x h) ∙ ap (of_bits binary64) e ∙ of_bits-to_bits binary64 z k

differ : (x z : Float) → Number x → Number z → before x z ≡ true → same_x x z ≡ false
unfolding same_x
differ x z h k p = ne_eqb (to_bits binary64 x) (to_bits binary64 z) (λ e. clash p (rw (equal_bits x z h.0 k.0 e) (not_self z)))

agree : (x z : Float) → x ≡ z → same_x x z ≡ true
unfolding same_x
agree x z e = eq-eqb (to_bits binary64 x) (to_bits binary64 z) (ap (to_bits binary64) e)

-- one more before the first, and one more at the first
add_before : (x z : Float) (d f : ℤ) (cs : List (Float × ℤ)) → before x z ≡ true → add x d (merged_from z f cs) ≡ (x, d) ∷ merged_from z f cs
unfolding merged_from
add_before x z d f [] p = rw p
add_before x z d f (c ∷ cs) p =
    either (λ l. add x d l ≡ (x, d) ∷ l) (same_x z c.0) (merged_from z (f +ℤ c.1) cs) ((z, f) ∷ merged_from c.0 c.1 cs)
    (add_before x z d (f +ℤ c.1) cs p) (rw p)

add_level : (x : Float) (d f : ℤ) (cs : List (Float × ℤ)) → add x d (merged_from x f cs) ≡ merged_from x (d +ℤ f) cs
unfolding merged_from
add_level x d f [] = rw (not_self x)
add_level x d f (c ∷ cs) = pick (same_x x c.0) (add_level x d (f +ℤ c.1) cs)
  where
    pick : (b : Bool) → add x d (merged_from x (f +ℤ c.1) cs) ≡ merged_from x (d +ℤ (f +ℤ c.1)) cs → add x d (cond b (merged_from x (f +ℤ c.1) cs) ((x, f) ∷ merged_from c.0 c.1 cs)) ≡ cond b (merged_from x (d +ℤ f +ℤ c.1) cs) ((x, d +ℤ f) ∷ merged_from c.0 c.1 cs)
    pick true h = rw (+ℤ_assoc d f c.1) h
    pick false h = rw (not_self x)

from_add : (x : Float) (d : ℤ) (cs : List (Float × ℤ)) → Number x → Numbers cs → All (λ e. before e.0 x ≡ false) cs → merged_from x d cs ≡ add x d (merged cs)
unfolding merged_from merged
from_add x d [] h k o = refl
from_add x d (c ∷ cs) h k o = elim (rel x c.0 h k.0) [
  | less p q ↦ rw (differ x c.0 h k.0 p) (sym (add_before x c.0 d c.1 cs p))
  | more p q ↦ clash q o.0
  | same e ↦ rw (agree x c.0 e) (rw e (sym (add_level c.0 d c.1 cs)))
]

pub merged_gathered : (cs : List (Float × ℤ)) → Numbers cs → Sorted (λ c e. before e.0 c.0 ≡ false) cs → merged cs ≡ gathered cs
unfolding merged
merged_gathered [] h o = refl
merged_gathered (c ∷ cs) h o = from_add c.0 c.1 cs h.0 h.1 o.0 ∙ ap (add c.0 c.1) (merged_gathered cs h.1 o.1)
