-- A number's bytes, written from the back.
use mathlib.Core.Path.{◌≡◌, refl, sym, ◌∙◌}
use mathlib.Core.List.{List, [], ◌∷◌, ◌++◌, append_assoc}
use Prim.Native.Nat.{ℕ, zero, suc, ◌+◌, ◌-◌, ◌/◌, ◌%◌, ◌≤◌, ◌<◌}
use native.Mathlib.Nat.{lt_irrefl}
use native.Mathlib.Omega.{arith}
use lib.ListN.{length, take, drop, set, length-set, take-append-drop}
use lib.Seq.{drop-set-lt, get_or-set_same, take-set-le}
use Rattle.seqs.specs.Slices.{Put}
use Rattle.seqs.specs.Front.{next}
use Rattle.seqs.specs.Wrote.{head_length}
use Rattle.seqs.specs.Reads.{take_on}
use Rattle.book.specs.Book.{bytes}
use Rattle.book.specs.KeepLaws.{bytes_length}

-- `rest` is still to be written before place at + i
pub record Back (d₀ d : List ℕ) (at i : ℕ) (rest whole : List ℕ) : Type 0 where
  pub size : length d ≡ length d₀
  pub kept : take (at + i) d ≡ take (at + i) d₀
  pub tail : rest ++ drop (at + i) d ≡ whole ++ drop (at + length whole) d₀

pub back_start : (d : List ℕ) (at k n : ℕ) → Back d d at k (bytes k n) (bytes k n)
back_start d at k n = record { size = refl; kept = refl; tail = rw (bytes_length k n) }

pub back_turn : {d₀ d : List ℕ} {at : ℕ} {whole : List ℕ} (n i : ℕ) → 0 < i → at + i ≤ length d₀ → Back d₀ d at i (bytes i n) whole
    → Back d₀ (set d (at + (i - 1)) (n % 256)) at (i - 1) (bytes (i - 1) (n / 256)) whole
unfolding bytes
back_turn n zero p h r = absurd (lt_irrefl 0 p)
back_turn {d₀} {d} {at} {whole} n (suc i) p h r =
    let e : suc i - 1 ≡ i = omega arith in
    let g = n % 256 in
    let l : at + i < length d = omega (arith, r.size) in
    let l' : at + i < length (set d (at + i) g) = rw length-set l in
    let j : at + i + 1 ≡ at + suc i = omega arith in
    let c : drop (at + i) (set d (at + i) g) ≡ g ∷ drop (at + suc i) d =
    next (set d (at + i) g) (at + i) 0 l' ∙ rw (get_or-set_same d (at + i) g 0 l, drop-set-lt (at + i + 1) d (at + i) g (omega arith), j) in
    rw e (record {
      size = length-set d (at + i) g ∙ r.size;
      kept = take-set-le (at + i) d (at + i) g (omega arith) ∙ take_on d d₀ (at + i) (at + suc i) (omega arith) r.kept;
      tail = rw c (sym (append_assoc (bytes i (n / 256)) (g ∷ []) (drop (at + suc i) d)) ∙ r.tail);
    })

pub back_end : {d₀ d : List ℕ} {at : ℕ} {whole : List ℕ} (n : ℕ) → at ≤ length d₀ → Back d₀ d at 0 (bytes 0 n) whole → Put d₀ d at whole
unfolding bytes
back_end {d₀} {d} {at} {whole} n h r =
    let z : at + 0 ≡ at = omega arith in
    let k : take at d ≡ take at d₀ = rw z at r.kept in
    let t : drop at d ≡ whole ++ drop (at + length whole) d₀ = rw z at r.tail in
    sym (take-append-drop at d) ∙ rw (k, t, head_length d₀ whole at h) (sym (append_assoc (take at d₀) whole (drop (at + length whole) d₀)))
