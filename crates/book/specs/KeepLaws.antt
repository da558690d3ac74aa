-- What store and remove leave, by the place of the sheet. Assumes nothing.
use Rattle.std.specs.Prelude.{ℕ, zero, suc, ◌+◌, ◌-◌, ◌/◌, ◌%◌, ◌≤◌, ◌<◌, ◌≡◌, true, false, eqb, get_or, replicate, Float}
use Rattle.std.proofs.Common.{pos_of_ne-zero, arith, sym, ◌∙◌, length-append, length-drop, take-add, take_at, length-take-le}
use Rattle.std.proofs.Math.Path.{refl, ap}
use Rattle.std.proofs.Math.Logic.{inl, inr}
use mathlib.Core.List.{List, [], ◌∷◌, ◌++◌, append_assoc, append-nil}
use Rattle.std.proofs.Math.ListN.{length, take, drop}
use Rattle.std.proofs.Math.Seq.{take-append-add}
use borrow.Author.Tests.{le-leb, lt-leb, eq-eqb, ne_eqb, eqb-true, eqb-false}
use Rattle.refusal.specs.Refusal.{DONE, LAYOUT, SETTING, ROOM}
use Rattle.seqs.specs.Slices.{Put}
use Rattle.seqs.specs.Put.{put_length}
use Rattle.seqs.specs.Reads.{drop_take}
use Rattle.seqs.specs.Tests.{either, clash}
use Rattle.book.specs.declared.values.Values.{Values}
use Rattle.book.specs.Book.{ABSENT, VERSION, version_of, number_of, good_values, size, sheets, joined, stands, sheet_of, good_book, bytes, head_bytes, bits, value_bytes, sheet_bytes, replaced, without, filled, current, store_bytes, store_refusal, after_store, remove_refusal, after_remove}
use Rattle.book.specs.BookLaws.{Placed, placed_none, placed_stands, here_is, size_short, size_fits, sheets_end, sheets_next, sheets_on, joined_append}
use Rattle.book.specs.FetchLaws.{sheet_version, sheet_size}

-- ---- a sheet's bytes

pub bytes_length : (k v : ℕ) → length (bytes k v) ≡ k
unfolding bytes
bytes_length zero v = refl
bytes_length (suc k) v = length-append (bytes k (v / 256)) (v % 256 ∷ []) ∙ omega (arith, bytes_length k (v / 256))

pub head_length : (n : ℕ) → length (head_bytes n) ≡ 5
unfolding head_bytes
head_length n =
    length-append (bytes 2 39 ++ bytes 1 1) (bytes 2 n) ∙ omega (arith, bytes_length 2 39, bytes_length 1 1, bytes_length 2 n, length-append (bytes 2 39) (bytes 1 1))

pub bits_length : (x : Float) → length (bits x) ≡ 8
unfolding bits
bits_length x = bytes_length 8 _

pub values_length : (v : Values) → length (value_bytes v) ≡ 36
unfolding value_bytes
values_length v =
    let a = bits v.spacing in
    let b = bits v.len in
    let d = bits v.inset in
    let e = bits v.pull in
    let f = bytes 4 v.stagger in
    length-append (((a ++ b) ++ d) ++ e) f ∙ omega (arith, length-append ((a ++ b) ++ d) e, length-append (a ++ b) d, length-append a b, bits_length v.spacing, bits_length v.len, bits_length v.inset, bits_length v.pull, bytes_length 4 v.stagger)

pub sheet_length : (n : ℕ) (v : Values) → length (sheet_bytes n v) ≡ 41
unfolding sheet_bytes
sheet_length n v = omega (arith, length-append (head_bytes n) (value_bytes v), head_length n, values_length v)

-- ---- lists of sheets

module _ (n : ℕ) where
  pub replaced_behind : (t : List ℕ) (a ts : List (List ℕ)) → stands n a ≡ false → replaced n t (a ++ ts) ≡ a ++ replaced n t ts
  unfolding stands replaced
  replaced_behind t [] ts h = refl
  replaced_behind t (u ∷ a) ts h = elim (either (eqb (number_of u) n)) [ inl e ↦ clash refl (rw e at h) | inr e ↦ rw e (ap (λ r. u ∷ r) (replaced_behind t a ts (rw e at h))) ]

  pub without_behind : (a ts : List (List ℕ)) → stands n a ≡ false → without n (a ++ ts) ≡ a ++ without n ts
  unfolding stands without
  without_behind [] ts h = refl
  without_behind (u ∷ a) ts h = elim (either (eqb (number_of u) n)) [ inl e ↦ clash refl (rw e at h) | inr e ↦ rw e (ap (λ r. u ∷ r) (without_behind a ts (rw e at h))) ]

-- the sheets' bytes are the front of the list
joined_from : (k : ℕ) (s : List ℕ) → length s ≤ k → joined (sheets s) ≡ take (length (joined (sheets s))) s
unfolding joined
joined_from zero s h = rw (sheets_end s (size_short s (omega arith)))
joined_from (suc k) s h = elim (either (eqb (size s) 0)) [
  | inl e ↦ rw (sheets_end s (eqb-true (size s) 0 e))
  | inr e ↦
      let p = pos_of_ne-zero (eqb-false (size s) 0 e) in
      let f = size_fits s p in
      let j = joined (sheets (drop (size s) s)) in
      let i : j ≡ take (length j) (drop (size s) s) = joined_from k (drop (size s) s) (omega (arith, f.0, length-drop (size s) s)) in
      let l : length (take (size s) s ++ j) ≡ size s + length j = length-append (take (size s) s) j ∙ rw (length-take-le (size s) s f.1) in
      rw (sheets_next s p, l, take-add (size s) (length j) s) (ap (λ r. take (size s) s ++ r) i)
]

pub joined_front : (s : List ℕ) → joined (sheets s) ≡ take (length (joined (sheets s))) s
joined_front s = joined_from (length s) s (omega arith)

-- a sheet further on, the end is the same
pub end_on : (s : List ℕ) (at k : ℕ) → k ≡ size (drop at s) → 0 < k → at + length (joined (sheets (drop at s))) ≡ at + k + length (joined (sheets (drop (at + k) s)))
unfolding joined
end_on s at k e p =
    let f = size_fits (drop at s) (omega (arith, e, p)) in
    let j = joined (sheets (drop (at + k) s)) in
    rw (sheets_on s at k e p) (omega (arith, length-append (take k (drop at s)) j, length-take-le k (drop at s) (omega (arith, e, f.1))))

pub end_here : (s : List ℕ) → size s ≡ 0 → length (joined (sheets s)) ≡ 0
unfolding joined
end_here s e = rw (sheets_end s e)

-- what zeroing leaves
pub filled_is : (d l : List ℕ) (k m : ℕ) → take k d ≡ l → k ≤ length d → length d ≡ m → take k d ++ replicate (length d - k) 0 ≡ filled m l
unfolding filled
filled_is d l k m e h q =
    let n : length l ≡ k = ap length (sym e) ∙ length-take-le k d h in
    rw (e, n, q)

module _ (n : ℕ) (s : List ℕ) where
  pub store_layout : (v : Values) → good_book s ≡ false → (store_refusal s n v ≡ LAYOUT) × (after_store s n v ≡ s)
  unfolding store_refusal after_store
  store_layout v g = (rw g, rw g)

  pub remove_layout : good_book s ≡ false → (remove_refusal s n ≡ LAYOUT) × (after_remove s n ≡ s)
  unfolding remove_refusal after_remove
  remove_layout g = (rw g, rw g)

  module _ (g : good_book s ≡ true) where
    pub store_setting : (v : Values) → good_values v ≡ false → (store_refusal s n v ≡ SETTING) × (after_store s n v ≡ s)
    unfolding store_refusal after_store
    store_setting v b = (rw (g, b), rw (g, b))

    module _ (at : ℕ) (p : Placed n s at) where
      -- ---- none stands
      module _ (z : size (drop at s) ≡ 0) where
        pub remove_absent : (remove_refusal s n ≡ ABSENT) × (after_remove s n ≡ s)
        unfolding remove_refusal after_remove
        remove_absent = let e = placed_none n s at p z in (rw (g, e), rw (g, e))

        module _ (v : Values) (b : good_values v ≡ true) where
          none_later : current n (sheets s) ≡ true
          unfolding current
          none_later = rw (placed_none n s at p z)

          new_bytes : store_bytes s n v ≡ take at s ++ sheet_bytes n v
          unfolding store_bytes joined replaced
          new_bytes =
              rw (p.way.is, sheets_end (drop at s) z, replaced_behind n (sheet_bytes n v) p.way.passed [] p.way.other, joined_append p.way.passed (sheet_bytes n v ∷ []), append-nil (sheet_bytes n v), p.way.bytes)

          new_length : length (store_bytes s n v) ≡ at + 41
          new_length = ap length new_bytes ∙ length-append (take at s) (sheet_bytes n v) ∙ omega (arith, sheet_length n v, length-take-le at s p.way.fits)

          pub store_room : length s - at < 41 → (store_refusal s n v ≡ ROOM) × (after_store s n v ≡ s)
          unfolding store_refusal after_store
          store_room h =
              let e = lt-leb (length (store_bytes s n v)) (length s) (omega (arith, new_length, p.way.fits)) in
              (rw (g, b, none_later, e), rw (g, b, none_later, e))

          module _ (h : at + 41 ≤ length s) where
            pub store_new : store_refusal s n v ≡ DONE
            unfolding store_refusal
            store_new = rw (g, b, none_later, le-leb (length (store_bytes s n v)) (length s) (omega (arith, new_length)))

            pub new_left : (d d' : List ℕ) → Put s d at (sheet_bytes n v) → d' ≡ take (at + 41) d ++ replicate (length d - (at + 41)) 0 → d' ≡ after_store s n v
            unfolding after_store
            new_left d d' w e =
                let l = put_length s (sheet_bytes n v) at (omega (arith, sheet_length n v)) in
                let a : length (take at s ++ sheet_bytes n v) ≡ at + 41 = ap length (sym new_bytes) ∙ new_length in
                let k : take (at + 41) d ≡ store_bytes s n v = rw (w, new_bytes) (take_at (take at s ++ sheet_bytes n v) _ (at + 41) a) in
                let q : length d ≡ length s = ap length w ∙ l in
                rw store_new (e ∙ filled_is d (store_bytes s n v) (at + 41) (length s) k (omega (arith, q)) q)

      -- ---- one stands
      module _ (k : ℕ) (z : k ≡ size (drop at s)) (o : 0 < k) where
        there : 0 < size (drop at s)
        there = omega (arith, z, o)

        pub end_is : length (joined (sheets s)) ≡ at + k + length (joined (sheets (drop (at + k) s)))
        end_is =
            let e = end_on s at k z o in
            let j : joined (sheets s) ≡ take at s ++ joined (sheets (drop at s)) = ap joined p.way.is ∙ joined_append p.way.passed (sheets (drop at s)) ∙ rw p.way.bytes in
            ap length j ∙ length-append (take at s) (joined (sheets (drop at s))) ∙ omega (arith, length-take-le at s p.way.fits, e)

        module _ (later : get_or s (at + 2) 0 ≡ 1 → ⊥) where
          not_one : eqb (version_of (sheet_of n (sheets s))) 1 ≡ false
          not_one = ne_eqb (version_of (sheet_of n (sheets s))) 1 (λ e. later (sym (sheet_version n s g at p there) ∙ e))

          pub store_later : (v : Values) → good_values v ≡ true → (store_refusal s n v ≡ VERSION) × (after_store s n v ≡ s)
          unfolding store_refusal after_store current
          store_later v b = (rw (g, b, placed_stands n s at p there, not_one), rw (g, b, placed_stands n s at p there, not_one))

          pub remove_later : (remove_refusal s n ≡ VERSION) × (after_remove s n ≡ s)
          unfolding remove_refusal after_remove
          remove_later = (rw (g, placed_stands n s at p there, not_one), rw (g, placed_stands n s at p there, not_one))

        module _ (one : get_or s (at + 2) 0 ≡ 1) where
          is_one : eqb (version_of (sheet_of n (sheets s))) 1 ≡ true
          is_one = eq-eqb (version_of (sheet_of n (sheets s))) 1 (sheet_version n s g at p there ∙ one)

          pub remove_done : remove_refusal s n ≡ DONE
          unfolding remove_refusal
          remove_done = rw (g, placed_stands n s at p there, is_one)

          number_here : eqb (number_of (take k (drop at s))) n ≡ true
          number_here = rw z (here_is n s at p there)

          removed_bytes : joined (without n (sheets s)) ≡ take at s ++ joined (sheets (drop (at + k) s))
          unfolding without
          removed_bytes =
              rw (p.way.is, sheets_on s at k z o, without_behind n p.way.passed (take k (drop at s) ∷ sheets (drop (at + k) s)) p.way.other, number_here, joined_append p.way.passed (sheets (drop (at + k) s)), p.way.bytes)

          stored_bytes : (v : Values) → store_bytes s n v ≡ (take at s ++ sheet_bytes n v) ++ joined (sheets (drop (at + k) s))
          unfolding store_bytes replaced joined
          stored_bytes v =
              rw (p.way.is, sheets_on s at k z o, replaced_behind n (sheet_bytes n v) p.way.passed (take k (drop at s) ∷ sheets (drop (at + k) s)) p.way.other, number_here, joined_append p.way.passed (sheet_bytes n v ∷ sheets (drop (at + k) s)), p.way.bytes) (sym (append_assoc (take at s) (sheet_bytes n v) (joined (sheets (drop (at + k) s)))))

          pub whole_size : k ≡ 41
          whole_size = z ∙ sheet_size n s g at p there one

          module _ (end : ℕ) (ends : end ≡ length (joined (sheets s))) (fits : end ≤ length s) where
            rest_bytes : joined (sheets (drop (at + k) s)) ≡ take (end - (at + k)) (drop (at + k) s)
            rest_bytes =
                let l : length (joined (sheets (drop (at + k) s))) ≡ end - (at + k) = omega (arith, ends, end_is) in
                joined_front (drop (at + k) s) ∙ rw l

            pub end_below : at + k ≤ end
            end_below = omega (arith, ends, end_is)

            pub removed_left : (d d' : List ℕ) → take (at + (end - (at + k))) d ≡ take at s ++ drop (at + k) (take end s) → length d ≡ length s → d' ≡ take (end - k) d ++ replicate (length d - (end - k)) 0 → d' ≡ after_remove s n
            unfolding after_remove
            removed_left d d' m q e =
                let b = end_below in
                let i : at + (end - (at + k)) ≡ end - k = omega (arith, b) in
                let j : at + k + (end - (at + k)) ≡ end = omega (arith, b) in
                let r : joined (sheets (drop (at + k) s)) ≡ drop (at + k) (take end s) = rest_bytes ∙ drop_take (at + k) (end - (at + k)) s ∙ rw j in
                let l : take (end - k) d ≡ joined (without n (sheets s)) = rw (removed_bytes, r, ← i) m in
                rw remove_done (e ∙ filled_is d (joined (without n (sheets s))) (end - k) (length s) l (omega (arith, fits, q)) q)

            module _ (v : Values) (b : good_values v ≡ true) where
              whole_length : length (take at s ++ sheet_bytes n v) ≡ at + k
              whole_length = length-append (take at s) (sheet_bytes n v) ∙ omega (arith, sheet_length n v, length-take-le at s p.way.fits, whole_size)

              stored_length : length (store_bytes s n v) ≡ end
              stored_length = ap length (stored_bytes v) ∙ length-append (take at s ++ sheet_bytes n v) (joined (sheets (drop (at + k) s))) ∙ omega (arith, whole_length, ends, end_is)

              pub store_over : store_refusal s n v ≡ DONE
              unfolding store_refusal current
              store_over = rw (g, b, placed_stands n s at p there, is_one, le-leb (length (store_bytes s n v)) (length s) (omega (arith, stored_length, fits)))

              pub stored_left : (d d' : List ℕ) → Put s d at (sheet_bytes n v) → d' ≡ take end d ++ replicate (length d - end) 0 → d' ≡ after_store s n v
              unfolding after_store
              stored_left d d' w e =
                  let c = end_below in
                  let x = take at s ++ sheet_bytes n v in
                  let l = put_length s (sheet_bytes n v) at (omega (arith, sheet_length n v, c, fits, whole_size)) in
                  let q : length d ≡ length s = ap length w ∙ l in
                  let i : end ≡ length x + (end - (at + k)) = omega (arith, c, whole_length) in
                  let m : take end d ≡ store_bytes s n v = rw (w, stored_bytes v, rest_bytes) (ap (λ (r : ℕ). take r (x ++ drop (length x) s)) i ∙ take-append-add x (drop (length x) s) (end - (at + k)) ∙ rw whole_length) in
                  rw store_over (e ∙ filled_is d (store_bytes s n v) end (length s) m (omega (arith, fits, q)) q)
