-- The numbers of the rows in the order met are the fill's. Assumes nothing.
use Rattle.std.specs.Prelude.{ℕ, zero, suc, ◌+◌, ◌-◌, ◌≤◌, ◌<◌, ◌≡◌, refl, Bool, true, false, cond, List, [], ◌∷◌, ◌++◌, map, reverse, ℤ, pos, negsuc, nat_abs, ◌+ℤ◌, ◌-ℤ◌, length}
use Rattle.std.proofs.Common.{add-one, arith, sym, ap, ◌∙◌, inl, inr}
use Rattle.std.proofs.lemmas.List.{reverse-append, map-append}
use Rattle.std.proofs.Math.IntN.{suc_ℤ}
use Rattle.std.specs.Int.Signed.{le_z}
use Rattle.seqs.specs.Lists.{upto, All}
use Rattle.seqs.specs.All.{all_map}
use Rattle.seqs.specs.Tests.{either}
use Rattle.seqs.specs.Capped.{capped_in}
use Rattle.seqs.specs.Upto.{upto_append, upto_all}
use Rattle.seqs.specs.Ints.{above, below, same_int, add_parts, sub_parts_is, gap}
use Rattle.rules.specs.declared.Settings.{Settings}
use Rattle.rules.specs.declared.Edge.{Edge}
use Rattle.rules.specs.Fill.{k_lo, k_hi, how_many, through, row_numbers, met}
use Rattle.edges.specs.Span.{rows_of}
use Rattle.edges.specs.SpanLaws.{through_length}
use Rattle.sweep.specs.Swept.{numbers}

module _ {A : Type 0} where
  map_same : {B : Type 0} (f g : B → A) (l : List B) → All (λ b. f b ≡ g b) l → map f l ≡ map g l
  map_same f g [] h = refl
  map_same f g (b ∷ l) h = rw h.0 (ap (λ r. g b ∷ r) (map_same f g l h.1))

  shift : (f : ℕ → A) (i n : ℕ) → map f (upto (i + 1) n) ≡ map (λ r. f (r + 1)) (upto i n)
  shift f i zero = refl
  shift f i (suc n) = ap (λ r. f (i + 1) ∷ r) (shift f (i + 1) n)

  -- counted down
  down : (f : ℕ → A) (n : ℕ) → map (λ r. f (n - 1 - r)) (upto 0 n) ≡ reverse (map f (upto 0 n))
  down f zero = refl
  down f (suc n) =
      let h : suc n - 1 - 0 ≡ n = omega arith in
      let s : (r : ℕ) → suc n - 1 - (r + 1) ≡ n - 1 - r = λ r. omega arith in
      let z : 0 + n ≡ n = omega arith in
      let split : upto 0 (suc n) ≡ upto 0 n ++ (n ∷ []) = ap (upto 0) (sym (add-one n)) ∙ upto_append 0 n 1 ∙ ap (λ k. upto 0 n ++ (k ∷ [])) z in
      let last : reverse (map f (upto 0 (suc n))) ≡ f n ∷ reverse (map f (upto 0 n)) = ap (λ l. reverse (map f l)) split ∙ ap reverse (map-append f (upto 0 n) (n ∷ [])) ∙ reverse-append (map f (upto 0 n)) (f n ∷ []) in
      let rest : map (λ r. f (suc n - 1 - r)) (upto 1 n) ≡ map (λ r. f (n - 1 - r)) (upto 0 n) = shift (λ r. f (suc n - 1 - r)) 0 n ∙ (λ i. map (λ r. f (s r i)) (upto 0 n)) in
      (λ i. f (h i) ∷ (rest ∙ down f n) i) ∙ sym last

-- r rows back from the last is as far on from the first
back_on : (lo hi : ℤ) (r : ℕ) → r < how_many lo hi → hi -ℤ pos r ≡ lo +ℤ pos (how_many lo hi - 1 - r)
unfolding how_many
back_on lo hi r h = elim (either (le_z lo hi)) [
  | inl e ↦ let n = rw e at h in
      rw e
      (let m = nat_abs (hi -ℤ lo) + 1 - 1 - r in
      same_int (hi -ℤ pos r) (lo +ℤ pos m) (omega (arith, n, gap lo hi e, sub_parts_is hi (pos r), add_parts lo (pos m))))
  | inr e ↦ let n = rw e at h in absurd (omega (arith, n))
]

module _ (lo hi : ℤ) where
  abbrev count : ℕ
  count = how_many lo hi

  ordered_down : map (λ r. hi -ℤ pos r) (upto 0 count) ≡ reverse (map (λ r. lo +ℤ pos r) (upto 0 count))
  ordered_down =
      map_same (λ r. hi -ℤ pos r) (λ r. lo +ℤ pos (count - 1 - r)) (upto 0 count) (all_map (λ r b. back_on lo hi r (omega (arith, b))) (upto 0 count) (upto_all 0 count))
      ∙ down (λ r. lo +ℤ pos r) count

pub numbers_met : (g : Settings) (es : List Edge) (upward : Bool) → length (row_numbers g es) ≤ 4096 → numbers (rows_of g es) upward 0 ≡ met upward (row_numbers g es)
unfolding numbers rows_of met row_numbers through
numbers_met g [] true h = rw (capped_in 4096 0 (omega arith))
numbers_met g [] false h = rw (capped_in 4096 0 (omega arith))
numbers_met g (e ∷ es) upward h =
    let lo = k_lo g (e ∷ es) in
    let hi = k_hi g (e ∷ es) in
    let n = through_length lo hi in
    let c = capped_in 4096 (length (through lo hi)) h ∙ n in
    let z : how_many lo hi - 0 ≡ how_many lo hi = omega arith in
    rw (c, z) (go lo hi upward)
  where
    go : (lo hi : ℤ) (upward : Bool) → map (λ r. cond upward (hi -ℤ pos r) (lo +ℤ pos r)) (upto 0 (how_many lo hi)) ≡ cond upward (reverse (map (λ r. lo +ℤ pos r) (upto 0 (how_many lo hi)))) (map (λ r. lo +ℤ pos r) (upto 0 (how_many lo hi)))
    go lo hi true = ordered_down lo hi
    go lo hi false = refl

-- one row on
suc_parts : (z : ℤ) → above (suc_ℤ z) + below z ≡ above z + 1 + below (suc_ℤ z)
suc_parts (pos n) = omega arith
suc_parts (negsuc zero) = omega arith
suc_parts (negsuc (suc n)) = omega arith

pub number_on : (lo : ℤ) (j : ℕ) → lo +ℤ pos (j + 1) ≡ suc_ℤ (lo +ℤ pos j)
number_on lo j = same_int (lo +ℤ pos (j + 1)) (suc_ℤ (lo +ℤ pos j)) (omega (arith, add_parts lo (pos (j + 1)), add_parts lo (pos j), suc_parts (lo +ℤ pos j)))

pub number_back : (hi : ℤ) (j : ℕ) → hi -ℤ pos j ≡ suc_ℤ (hi -ℤ pos (j + 1))
number_back hi j = same_int (hi -ℤ pos j) (suc_ℤ (hi -ℤ pos (j + 1))) (omega (arith, sub_parts_is hi (pos (j + 1)), sub_parts_is hi (pos j), suc_parts (hi -ℤ pos (j + 1))))
