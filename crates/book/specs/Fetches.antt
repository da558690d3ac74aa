-- A fetch after a change: the number that was stored says its values, and every other number answers as before. Assumes nothing.
use Rattle.std.specs.Prelude.{ℕ, ◌≤◌, ◌<◌, true, not, ◌&&◌, T, eqb, length}
use Rattle.std.proofs.Common.{arith, ap, ◌∙◌}
use Rattle.std.proofs.Math.Path.{◌≡◌, refl, sym, subst}
use Rattle.std.proofs.Math.Bool.{false}
use Rattle.std.proofs.Math.Logic.{inl, inr}
use mathlib.Core.List.{List, [], ◌∷◌}
use Rattle.std.specs.Float.{binary64}
use Rattle.std.specs.Float.Ieee.{fits}
use borrow.Author.Tests.{eq-eqb, ne_eqb, leb-true, eqb-true, eqb-false, not-true}
use Rattle.refusal.specs.Refusal.{DONE}
use Rattle.limits.specs.Limits.{good_spacing, good_len, good_inset, good_stagger}
use Rattle.seqs.specs.Tests.{either, and_both}
use Rattle.book.specs.declared.values.Values.{Values}
use Rattle.book.specs.Fetched.{Sheet}
use Rattle.book.specs.Book.{version_of, number_of, good_values, sheets, stands, sheet_of, good_sheet, good_sheets, good_book, sheet_refusal, fetch_refusal, fetched, bytes, head_bytes, value_bytes, bits, sheet_bytes, replaced, without, store_bytes, store_refusal, after_store, remove_refusal, after_remove}
use Rattle.book.specs.KeepLaws.{sheet_length}
use Rattle.book.specs.Back.{sheets_whole, stored_whole, all_replaced, filled_good, good_sheets_lem, store_back, remove_back, remove_good, after_remove_good}
use Rattle.book.specs.Stored.{number_back, values_back, sheet_replaced}

-- ---- the sheets of other numbers

module _ (n m : ℕ) (apart : m ≡ n → ⊥) where
  module _ (t : List ℕ) (e : number_of t ≡ n) where
    stands_replaced : (ts : List (List ℕ)) → stands m (replaced n t ts) ≡ stands m ts
    unfolding stands replaced
    stands_replaced [] = rw (ne_eqb (number_of t) m (λ d. apart (sym d ∙ e)))
    stands_replaced (u ∷ us) = elim (either (eqb (number_of u) n)) [
      | inl d ↦ rw (d, ne_eqb (number_of t) m (λ q. apart (sym q ∙ e)), ne_eqb (number_of u) m (λ q. apart (sym q ∙ eqb-true (number_of u) n d)))
      | inr d ↦ rw (d, stands_replaced us)
    ]

    sheet_of_replaced : (ts : List (List ℕ)) → sheet_of m (replaced n t ts) ≡ sheet_of m ts
    unfolding sheet_of replaced
    sheet_of_replaced [] = rw (ne_eqb (number_of t) m (λ d. apart (sym d ∙ e)))
    sheet_of_replaced (u ∷ us) = elim (either (eqb (number_of u) n)) [
      | inl d ↦ rw (d, ne_eqb (number_of t) m (λ q. apart (sym q ∙ e)), ne_eqb (number_of u) m (λ q. apart (sym q ∙ eqb-true (number_of u) n d)))
      | inr d ↦ rw (d, sheet_of_replaced us)
    ]

  stands_without : (ts : List (List ℕ)) → stands m (without n ts) ≡ stands m ts
  unfolding stands without
  stands_without [] = refl
  stands_without (u ∷ us) = elim (either (eqb (number_of u) n)) [
    | inl d ↦ rw (d, ne_eqb (number_of u) m (λ q. apart (sym q ∙ eqb-true (number_of u) n d)))
    | inr d ↦ rw (d, stands_without us)
  ]

  sheet_of_without : (ts : List (List ℕ)) → sheet_of m (without n ts) ≡ sheet_of m ts
  unfolding sheet_of without
  sheet_of_without [] = refl
  sheet_of_without (u ∷ us) = elim (either (eqb (number_of u) n)) [
    | inl d ↦ rw (d, ne_eqb (number_of u) m (λ q. apart (sym q ∙ eqb-true (number_of u) n d)))
    | inr d ↦ rw (d, sheet_of_without us)
  ]

-- ---- a stored sheet stands, and the book stays good

module _ (n : ℕ) (t : List ℕ) (e : number_of t ≡ n) where
  replaced_stands : (ts : List (List ℕ)) → stands n (replaced n t ts) ≡ true
  unfolding stands replaced
  replaced_stands [] = rw (eq-eqb (number_of t) n e)
  replaced_stands (u ∷ us) = elim (either (eqb (number_of u) n)) [ inl d ↦ rw (d, eq-eqb (number_of t) n e) | inr d ↦ rw (d, d) (replaced_stands us) ]

  good_replaced : (ts : List (List ℕ)) → good_sheet t ≡ true → good_sheets ts ≡ true → good_sheets (replaced n t ts) ≡ true
  unfolding good_sheets stands replaced
  good_replaced [] h g = rw h
  good_replaced (u ∷ us) h g =
      let a = and_both (good_sheet u) (not (stands (number_of u) us) && good_sheets us) g in
      let b = and_both (not (stands (number_of u) us)) (good_sheets us) a.1 in
      let f = not-true (stands (number_of u) us) b.0 in
      elim (either (eqb (number_of u) n)) [
        | inl d ↦ let k : stands (number_of t) us ≡ false = subst (λ (x : ℕ). stands x us ≡ false) (eqb-true (number_of u) n d ∙ sym e) f in rw (d, h, k, b.1)
        | inr d ↦ rw (d, a.0, stands_replaced n (number_of u) (eqb-false (number_of u) n d) t e us, f, good_replaced us h b.1)
      ]

-- ---- what a store that is done shows

module _ (s : List ℕ) (n : ℕ) (v : Values) (done : store_refusal s n v ≡ DONE) where
  store_good : good_book s ≡ true
  unfolding store_refusal
  store_good = elim (either (good_book s)) [ inl g ↦ g | inr g ↦ let z : ◌≡◌ {A = ℕ} 1 0 = rw g at done in absurd (omega (arith, z)) ]

  store_values : good_values v ≡ true
  unfolding store_refusal
  store_values = elim (either (good_values v)) [ inl g ↦ g | inr g ↦ let z : ◌≡◌ {A = ℕ} 3 0 = rw (store_good, g) at done in absurd (omega (arith, z)) ]

  store_stagger : v.stagger ≤ 1000
  unfolding good_values
  store_stagger =
      let a = and_both (good_spacing v.spacing) (good_len v.len && (good_inset v.inset && (good_inset v.pull && good_stagger v.stagger))) store_values in
      let b = and_both (good_len v.len) (good_inset v.inset && (good_inset v.pull && good_stagger v.stagger)) a.1 in
      let c = and_both (good_inset v.inset) (good_inset v.pull && good_stagger v.stagger) b.1 in
      leb-true v.stagger 1000 (and_both (good_inset v.pull) (good_stagger v.stagger) c.1).1

version_says : (n : ℕ) (v : Values) → version_of (sheet_bytes n v) ≡ 1
unfolding version_of sheet_bytes head_bytes value_bytes bits bytes
version_says n v = refl

stored_good : (n : ℕ) (v : Values) → good_sheet (sheet_bytes n v) ≡ true
unfolding good_sheet
stored_good n v = rw (version_says n v, sheet_length n v)

module _ (s : List ℕ) (n : ℕ) (v : Values) (small : n < 65536) (done : store_refusal s n v ≡ DONE) where
  after_store_good : good_book (after_store s n v) ≡ true
  unfolding after_store store_bytes
  after_store_good =
      rw done (filled_good (length s) (replaced n (sheet_bytes n v) (sheets s)) (all_replaced n (sheet_bytes n v) (sheets s) (stored_whole n v) (sheets_whole s)) (good_replaced n (sheet_bytes n v) (number_back n v small) (sheets s) (stored_good n v) (good_sheets_lem s (store_good s n v done))))

  -- what was stored is fetched
  pub stored_fetched : T (fits binary64 v.spacing) → T (fits binary64 v.len) → T (fits binary64 v.inset) → T (fits binary64 v.pull) → fetched (after_store s n v) n ≡ Sheet v
  unfolding fetched fetch_refusal sheet_refusal
  stored_fetched a b c d =
      let t = sheet_bytes n v in
      let e = number_back n v small in
      rw (after_store_good, store_back s n v done, replaced_stands n t e (sheets s), sheet_replaced n t (sheets s) e, version_says n v, values_back n v a b c d (store_stagger s n v done), store_values s n v done)

-- ---- a fetch by another number

same_answer : (s s' : List ℕ) (m : ℕ) → good_book s ≡ true → good_book s' ≡ true → stands m (sheets s') ≡ stands m (sheets s) → sheet_of m (sheets s') ≡ sheet_of m (sheets s) → fetched s' m ≡ fetched s m
unfolding fetched fetch_refusal
same_answer s s' m g g' a b = rw (g, g', a, b)

store_kept : (s : List ℕ) (n : ℕ) (v : Values) → eqb (store_refusal s n v) DONE ≡ false → after_store s n v ≡ s
unfolding after_store
store_kept s n v e = rw e

remove_kept : (s : List ℕ) (n : ℕ) → eqb (remove_refusal s n) DONE ≡ false → after_remove s n ≡ s
unfolding after_remove
remove_kept s n e = rw e

-- whatever the store answers
pub store_others : (s : List ℕ) (n m : ℕ) (v : Values) → n < 65536 → (m ≡ n → ⊥) → fetched (after_store s n v) m ≡ fetched s m
store_others s n m v small apart = elim (either (eqb (store_refusal s n v) DONE)) [
  | inl e ↦
      let d = eqb-true (store_refusal s n v) DONE e in
      let t = sheet_bytes n v in
      let p = number_back n v small in
      same_answer s (after_store s n v) m (store_good s n v d) (after_store_good s n v small d) (ap (stands m) (store_back s n v d) ∙ stands_replaced n m apart t p (sheets s)) (ap (sheet_of m) (store_back s n v d) ∙ sheet_of_replaced n m apart t p (sheets s))
  | inr e ↦ ap (λ (b : List ℕ). fetched b m) (store_kept s n v e)
]

-- and whatever the removal does
pub remove_others : (s : List ℕ) (n m : ℕ) → (m ≡ n → ⊥) → fetched (after_remove s n) m ≡ fetched s m
remove_others s n m apart = elim (either (eqb (remove_refusal s n) DONE)) [
  | inl e ↦
      let d = eqb-true (remove_refusal s n) DONE e in
      same_answer s (after_remove s n) m (remove_good s n d) (after_remove_good s n d) (ap (stands m) (remove_back s n d) ∙ stands_without n m apart (sheets s)) (ap (sheet_of m) (remove_back s n d) ∙ sheet_of_without n m apart (sheets s))
  | inr e ↦ ap (λ (b : List ℕ). fetched b m) (remove_kept s n e)
]
