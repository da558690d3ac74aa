-- What is left of a ring is clean, and of a clean ring all is left. Assumes nothing.
use Rattle.std.specs.Prelude.{ℕ, ◌≤◌, ◌<◌, ◌≡◌, refl, true, false, cond, ◌⊎◌, List, [], ◌∷◌, map, eqb, leb, length, replicate}
use Rattle.std.proofs.Common.{arith, sym, ap, ◌∙◌, inl, inr, eqb-true, eq-eqb, le-leb, leb-true}
use Rattle.std.specs.Float.Ieee.{le, to_bits}
use Rattle.std.specs.Float.{binary64}
use Rattle.std.proofs.lemmas.Bool.{eqb-false}
use Rattle.numbers.specs.Order.{finite, magnitude}
use Rattle.seqs.specs.Tests.{either, clash, refute, and_both}
use Rattle.geom.specs.declared.point.P.{P}
use Rattle.limits.specs.Limits.{largest, good_number, good_point}
use Rattle.std.specs.Prelude.{Option, None, Some}
use Rattle.salvage.specs.Ring.{kept, left, same, finite_point, repeats, stray, strays, last_of, closes, mark_last, closed, few, cleared, ring_marks, kept_ring}
use Rattle.salvage.specs.RingLaws.{count, strays_length, left_all, left_count, left_none}

-- each corner good, and not the one before it
abbrev pub Apart : Option P → List P → Type 0
Apart last [] = Unit
Apart last (p ∷ ps) = (good_point p ≡ true) × (repeats last p ≡ false) × Apart (Some p) ps

pub record Clean (ps : List P) : Type 0 where
  pub apart : Apart None ps
  pub opens : closes ps ≡ false
  pub enough : (ps ≡ []) ⊎ (3 ≤ length ps)

-- ---- the first stage

good_finite : (p : P) → good_point p ≡ true → finite_point p ≡ true
unfolding good_point good_number
good_finite p g =
    let b = and_both (good_number p.x) (good_number p.y) g in
    rw ((and_both (finite p.x) (le (magnitude p.x) largest) b.0).0, (and_both (finite p.y) (le (magnitude p.y) largest) b.1).0)

stray_none : (last : Option P) (p : P) → good_point p ≡ true → repeats last p ≡ false → stray last p ≡ 0
unfolding stray
stray_none last p g r = rw (good_finite p g, g, r)

stray_good : (last : Option P) (p : P) → kept (stray last p) ≡ true → (good_point p ≡ true) × (repeats last p ≡ false)
unfolding stray
stray_good last p k = elim (either (finite_point p)) [
  | inl f ↦ elim (either (good_point p)) [
    | inl g ↦ elim (either (repeats last p)) [
      | inl r ↦ clash k (rw (f, g, r))
      | inr r ↦ (g, r)
    ]
    | inr g ↦ clash k (rw (f, g))
  ]
  | inr f ↦ clash k (rw f)
]

strays_apart : (last : Option P) (ps : List P) → Apart last (left (strays last ps) ps)
unfolding left strays
strays_apart last [] = tt
strays_apart last (p ∷ ps) = elim (either (kept (stray last p))) [
  | inl e ↦ let g = stray_good last p e in rw e (g.0, g.1, strays_apart (Some p) ps)
  | inr e ↦ rw e (strays_apart last ps)
]

apart_strays : (last : Option P) (ps : List P) → Apart last ps → strays last ps ≡ replicate (length ps) 0
unfolding strays
apart_strays last [] h = refl
apart_strays last (p ∷ ps) h = rw (stray_none last p h.0 h.1) (ap (λ r. 0 ∷ r) (apart_strays (Some p) ps h.2))

-- ---- the second

-- all but the last
abbrev pub init : {A : Type 0} → List A → List A
init [] = []
init (a ∷ []) = []
init (a ∷ b ∷ l) = a ∷ init (b ∷ l)

init_cons : {A : Type 0} (a : A) (l : List A) → 0 < length l → init (a ∷ l) ≡ a ∷ init l
init_cons a [] h = absurd (omega arith)
init_cons a (b ∷ l) h = refl

left_init : {A : Type 0} (ms : List ℕ) (l : List A) → length ms ≡ length l → left (mark_last ms) l ≡ init (left ms l)
unfolding left mark_last
left_init [] l h = refl
left_init (m ∷ ms) [] h = absurd (omega arith)
left_init (m ∷ ms) (a ∷ l) h =
    let i = left_init ms l (omega arith) in
    elim (either (kept m)) [
      | inl e ↦ elim (either (eqb (count ms) 0)) [
        | inl n ↦ rw (e, n, left_none ms l (eqb-true (count ms) 0 n))
        | inr n ↦ rw (e, n, e) (ap (λ r. a ∷ r) i ∙ sym (init_cons a (left ms l) (omega (arith, left_count ms l (omega arith), eqb-false (count ms) 0 n))))
      ]
      | inr e ↦ rw (e, e) i
    ]

unfoldable pub opened : List P → List P
opened ps = cond (closes ps) (init ps) ps

left_opened : (ps : List P) (ms : List ℕ) → length ms ≡ length ps → left (closed ps ms) ps ≡ opened (left ms ps)
unfolding closed opened
left_opened ps ms h = elim (either (closes (left ms ps))) [ inl e ↦ rw e (left_init ms ps h) | inr e ↦ rw e ]

apart_init : (last : Option P) (ps : List P) → Apart last ps → Apart last (init ps)
apart_init last [] h = tt
apart_init last (p ∷ []) h = tt
apart_init last (p ∷ q ∷ ps) h = (h.0, h.1, apart_init (Some p) (q ∷ ps) h.2)

same_join : (p a b : P) → same p a ≡ true → same p b ≡ true → same a b ≡ true
unfolding same
same_join p a b h k =
    let u = and_both (eqb (to_bits binary64 p.x) (to_bits binary64 a.x)) (eqb (to_bits binary64 p.y) (to_bits binary64 a.y)) h in
    let v = and_both (eqb (to_bits binary64 p.x) (to_bits binary64 b.x)) (eqb (to_bits binary64 p.y) (to_bits binary64 b.y)) k in
    rw (eq-eqb (to_bits binary64 a.x) (to_bits binary64 b.x) (sym (eqb-true (to_bits binary64 p.x) (to_bits binary64 a.x) u.0) ∙ eqb-true (to_bits binary64 p.x) (to_bits binary64 b.x) v.0))
    (eq-eqb (to_bits binary64 a.y) (to_bits binary64 b.y) (sym (eqb-true (to_bits binary64 p.y) (to_bits binary64 a.y) u.1) ∙ eqb-true (to_bits binary64 p.y) (to_bits binary64 b.y) v.1))

-- the last differs from the one before it
last_apart : (q r : P) (rs : List P) → Apart (Some q) (r ∷ rs) → same (last_of q (init (r ∷ rs))) (last_of r rs) ≡ false
last_apart q r [] h = h.1
last_apart q r (s ∷ rs) h = last_apart r s rs h.2

-- so what is left without a last corner equal to the first has no such corner
init_open : (ps : List P) → Apart None ps → closes ps ≡ true → closes (init ps) ≡ false
unfolding closes
init_open [] h e = clash e refl
init_open (p ∷ []) h e = clash e refl
init_open (p ∷ q ∷ []) h e = refl
init_open (p ∷ q ∷ r ∷ rs) h e =
    refute (same p (last_of q (init (r ∷ rs)))) (λ t. clash (same_join p (last_of q (init (r ∷ rs))) (last_of r rs) t e) (last_apart q r rs h.2.2))

opened_apart : (ps : List P) → Apart None ps → Apart None (opened ps) × (closes (opened ps) ≡ false)
unfolding opened
opened_apart ps h = elim (either (closes ps)) [ inl e ↦ rw e (apart_init None ps h, init_open ps h e) | inr e ↦ rw e (h, e) ]

-- ---- the third

unfoldable pub whole : List P → List P
whole ps = cond (leb 3 (length ps)) ps []

few_none : (ms : List ℕ) → count (map few ms) ≡ 0
few_none [] = refl
few_none (m ∷ ms) = elim (either (kept m)) [ inl e ↦ rw e (few_none ms) | inr e ↦ rw (e, e) (few_none ms) ]

left_whole : (ps : List P) (ms : List ℕ) → left (cleared ps ms) ps ≡ whole (left ms ps)
unfolding cleared whole
left_whole ps ms = elim (either (leb 3 (length (left ms ps)))) [ inl e ↦ rw e | inr e ↦ rw e (left_none (map few ms) ps (few_none ms)) ]

-- ---- all three

pub kept_is : (ps : List P) → kept_ring ps ≡ whole (opened (left (strays None ps) ps))
unfolding kept_ring ring_marks
kept_is ps =
    let a = strays None ps in
    left_whole ps (closed ps a) ∙ ap whole (left_opened ps a (strays_length None ps))

none_clean : Clean []
unfolding closes
none_clean = record { apart = tt; opens = refl; enough = inl refl }

whole_clean : (ps : List P) → Apart None ps → closes ps ≡ false → Clean (whole ps)
unfolding whole
whole_clean ps h o = elim (either (leb 3 (length ps))) [
  | inl e ↦ rw e (record { apart = h; opens = o; enough = inr (leb-true 3 (length ps) e) })
  | inr e ↦ rw e none_clean
]

pub kept_clean : (ps : List P) → Clean (kept_ring ps)
kept_clean ps =
    let h = opened_apart (left (strays None ps) ps) (strays_apart None ps) in
    rw (kept_is ps) (whole_clean (opened (left (strays None ps) ps)) h.0 h.1)

stays_open : (ps : List P) → closes ps ≡ false → opened ps ≡ ps
unfolding opened
stays_open ps o = rw o

stays_whole : (ps : List P) → (ps ≡ []) ⊎ (3 ≤ length ps) → whole ps ≡ ps
unfolding whole
stays_whole ps h = elim h [ inl e ↦ rw e | inr k ↦ rw (le-leb 3 (length ps) k) ]

pub clean_kept : (ps : List P) → Clean ps → kept_ring ps ≡ ps
clean_kept ps c =
    kept_is ps ∙ ap (λ r. whole (opened r)) (rw (apart_strays None ps c.apart) (left_all ps)) ∙ ap whole (stays_open ps c.opens) ∙ stays_whole ps c.enough
