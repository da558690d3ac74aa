-- A slice read at i in which some of what is read is stored at j, behind what was kept before. Assumes nothing.
use Rattle.std.specs.Prelude.{◌≡◌, refl, Bool, true, false, List, [], ◌∷◌, ◌++◌, ℕ, ◌+◌, ◌≤◌, ◌<◌, length, take, drop, get_or, set}
use Rattle.std.proofs.Common.{sym, ap, ◌∙◌, subst, append_assoc, append-nil, add-one, arith, length-set, take-suc-set, drop-set-lt}
use Rattle.seqs.specs.Front.{next}
use Rattle.seqs.specs.Lists.{keep_if, sift}
use Rattle.seqs.specs.Reads.{drop_on, part_next}

-- d₀ as it came, d as it is now; `rest` is what will still be kept of `whole`
pub record Move {ℓ} {A : Type ℓ} (d₀ d : List A) (i j : ℕ) (rest whole : List A) : Type ℓ where
  pub low : j ≤ i
  pub at : i ≤ length d₀
  pub size : length d ≡ length d₀
  pub done : take j d ++ rest ≡ whole
  pub ahead : drop i d ≡ drop i d₀

module _ {ℓ} {A : Type ℓ} where
  -- m elements stand at the front from the start on, and reading begins at i
  pub move_start : (d rest : List A) (i m : ℕ) → m ≤ i → i ≤ length d → Move d d i m rest (take m d ++ rest)
  move_start d rest i m h k = record { low = h; at = k; size = refl; done = refl; ahead = refl }

  pub move_at : {d₀ d : List A} {i j : ℕ} {rest rest' whole : List A} → rest ≡ rest' → Move d₀ d i j rest whole → Move d₀ d i j rest' whole
  move_at {d₀} {d} {i} {j} {whole = whole} e f = subst (λ r. Move d₀ d i j r whole) e f

  -- what is read is what stood there
  pub move_read : {d₀ d : List A} {i j : ℕ} {rest whole : List A} (z : A) → Move d₀ d i j rest whole → i < length d → get_or d i z ≡ get_or d₀ i z
  move_read {d₀} {d} {i} z f h = ap (λ l. get_or l 0 z) (sym (next d i z h) ∙ f.ahead ∙ next d₀ i z (omega (arith, f.size)))

  -- an element passed over, and one kept
  pub move_skip : {d₀ d : List A} {i j : ℕ} {rest whole : List A} → Move d₀ d i j rest whole → i < length d → Move d₀ d (i + 1) j rest whole
  move_skip {d₀} {d} {i} f h = record { low = omega (arith, f.low); at = omega (arith, f.size); size = f.size; done = f.done; ahead = drop_on d d₀ i (i + 1) (omega arith) f.ahead }

  pub move_keep : {d₀ d : List A} {i j : ℕ} {x : A} {rest whole : List A} → Move d₀ d i j (x ∷ rest) whole → i < length d → Move d₀ (set d j x) (i + 1) (j + 1) rest whole
  move_keep {d₀} {d} {i} {j} {x} f h = record {
    low = omega (arith, f.low);
    at = omega (arith, f.size);
    size = length-set d j x ∙ f.size;
    done = rw (add-one, take-suc-set d j x (omega (arith, f.low)), append_assoc) f.done;
    ahead = drop-set-lt (i + 1) d j x (omega (arith, f.low)) ∙ drop_on d d₀ i (i + 1) (omega arith) f.ahead;
  }

  -- the same by the test of what is read
  pub move_kept : {d₀ d : List A} {i j : ℕ} {l : List A} (rest : List A) {whole : List A} (z : A) {b : Bool} → l ≡ keep_if b (get_or d₀ i z) rest → b ≡ true → Move d₀ d i j l whole → i < length d → Move d₀ (set d j (get_or d i z)) (i + 1) (j + 1) rest whole
  move_kept rest z e t f h = move_keep (move_at (e ∙ rw (t, move_read z f h)) f) h

  pub move_passed : {d₀ d : List A} {i j : ℕ} {l : List A} (rest : List A) {whole : List A} (z : A) {b : Bool} → l ≡ keep_if b (get_or d₀ i z) rest → b ≡ false → Move d₀ d i j l whole → i < length d → Move d₀ d (i + 1) j rest whole
  move_passed rest z e t f h = move_skip (move_at (e ∙ rw t) f) h

  -- a turn of a loop that sifts the first n
  pub sift_next : (p : A → Bool) (d : List A) (n i : ℕ) (z : A) → i < n → n ≤ length d → sift p (drop i (take n d)) ≡ keep_if (p (get_or d i z)) (get_or d i z) (sift p (drop (i + 1) (take n d)))
  sift_next p d n i z h k = rw (part_next d n i z h k)

  pub move_end : {d₀ d : List A} {i j : ℕ} {whole : List A} → Move d₀ d i j [] whole → take j d ≡ whole
  move_end {d = d} {j = j} f = sym (append-nil (take j d)) ∙ f.done
