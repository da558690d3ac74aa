-- What `link` leaves is what sewing asks for, and the row list stays as it was. Assumes nothing.
use Rattle.std.specs.Prelude.{ℕ, zero, suc, ◌+◌, ◌*◌, ◌^◌, ◌≤◌, ◌<◌, ◌≡◌, refl, Float}
use native.Mathlib.Omega.{arith}
use Rattle.std.proofs.Math.Path.{sym, ap}
use Rattle.std.proofs.Common.{◌∙◌, length-append, take-append-drop, length-drop, length-take-le, drop-drop, take_at, drop_at, get_or-append-add}
use mathlib.Core.List.{List, [], ◌∷◌, ◌++◌, map, append_assoc}
use Rattle.std.proofs.Math.ListN.{length, take, drop, get_or, length-map, get_or-append}
use Rattle.seqs.specs.Lists.{upto}
use Rattle.seqs.specs.Front.{next}
use Rattle.seqs.specs.Reads.{read_on}
use Rattle.seqs.specs.Slices.{Put}
use Rattle.seqs.specs.Wrote.{head_length}
use Rattle.seqs.specs.Upto.{upto_length}
use Rattle.sewing.specs.declared.Field.{Field}
use Rattle.sewing.specs.Sewing.{entry_at, entries_in, numbers_in, first_of, next_of, links, Linking, Linked}
use Rattle.sewing.specs.RowLaws.{map_upto}

-- ---- the row list

pub numbers_length : (n : ℕ) (d : List ℕ) → length (numbers_in n d) ≡ n
unfolding numbers_in
numbers_length n d = length-map (upto 0 n) (λ i. get_or d (n + 2 * i) 0) ∙ upto_length 0 n

-- the numbers of the entries
pub numbers_are : (f : Field) (floats : List Float) (d : List ℕ) → map (λ e. e.section) (entries_in f floats d) ≡ numbers_in f.pieces d
unfolding entries_in numbers_in entry_at
numbers_are f floats d = go (upto 0 f.pieces)
  where
    go : (l : List ℕ) → map (λ e. e.section) (map (entry_at f floats d) l) ≡ map (λ i. get_or d (f.pieces + 2 * i) 0) l
    go [] = refl
    go (i ∷ l) = ap (λ r. get_or d (f.pieces + 2 * i) 0 ∷ r) (go l)

pub entries_length : (f : Field) (floats : List Float) (d : List ℕ) → length (entries_in f floats d) ≡ f.pieces
unfolding entries_in
entries_length f floats d = length-map (upto 0 f.pieces) (entry_at f floats d) ∙ upto_length 0 f.pieces

map_at : {A : Type 0} (g : ℕ → A) (i n k : ℕ) (z : A) → k < n → get_or (map g (upto i n)) k z ≡ g (i + k)
map_at g i zero k z h = absurd (omega arith)
map_at g i (suc n) zero z h = let e : i + 0 ≡ i = omega arith in rw e
map_at g i (suc n) (suc k) z h = let e : i + 1 + k ≡ i + suc k = omega arith in map_at g (i + 1) n k z (omega arith) ∙ rw e

pub number_at : (n : ℕ) (d : List ℕ) (i : ℕ) → i < n → get_or (numbers_in n d) i 0 ≡ get_or d (n + 2 * i) 0
unfolding numbers_in
number_at n d i h = let e : 0 + i ≡ i = omega arith in map_at (λ i. get_or d (n + 2 * i) 0) 0 n i 0 h ∙ rw e

pub entries_next : (f : Field) (floats : List Float) (d : List ℕ) (j : ℕ) → j < f.pieces → drop j (entries_in f floats d) ≡ entry_at f floats d j ∷ drop (j + 1) (entries_in f floats d)
unfolding entries_in
entries_next f floats d j h =
    let e : 0 + j ≡ j = omega arith in
    next (entries_in f floats d) j (entry_at f floats d j) (omega (arith, entries_length f floats d))
    ∙ ap (λ a. a ∷ drop (j + 1) (entries_in f floats d)) (map_at (entry_at f floats d) 0 f.pieces j (entry_at f floats d j) h ∙ rw e)

-- what stands before the links is kept, and so is the list
module _ (d e : List ℕ) where
  pub numbers_kept : (n : ℕ) → take (3 * n) d ≡ take (3 * n) e → numbers_in n d ≡ numbers_in n e
  unfolding numbers_in
  numbers_kept n h = map_upto (λ i. get_or d (n + 2 * i) 0) (λ i. get_or e (n + 2 * i) 0) 0 0 n (λ t k. read_on d e (n + 2 * (0 + t)) (3 * n) 0 (omega arith) h)

  pub entries_kept : (f : Field) (floats : List Float) → take (3 * f.pieces) d ≡ take (3 * f.pieces) e → entries_in f floats d ≡ entries_in f floats e
  unfolding entries_in entry_at
  entries_kept f floats h =
      let n = f.pieces in
      map_upto (entry_at f floats d) (entry_at f floats e) 0 0 n
      (λ t k. rw (read_on d e (0 + t) (3 * n) 0 (omega arith) h, read_on d e (n + 2 * (0 + t)) (3 * n) 0 (omega arith) h, read_on d e (n + 2 * (0 + t) + 1) (3 * n) 0 (omega arith) h))

-- ---- what is put into a slice

module _ {A : Type 0} (d₀ d m : List A) (k : ℕ) where
  pub put_length : k + length m ≤ length d₀ → Put d₀ d k m → length d ≡ length d₀
  put_length h p = ap length p ∙ length-append (take k d₀ ++ m) (drop (length (take k d₀ ++ m)) d₀) ∙ omega (arith, head_length d₀ m k (omega arith), length-drop (length (take k d₀ ++ m)) d₀)

  pub put_kept : k ≤ length d₀ → Put d₀ d k m → take k d ≡ take k d₀
  put_kept h p = ap (take k) (p ∙ append_assoc (take k d₀) m (drop (length (take k d₀ ++ m)) d₀)) ∙ take_at (take k d₀) (m ++ drop (length (take k d₀ ++ m)) d₀) k (length-take-le k d₀ h)

  pub put_behind : (j : ℕ) → k + length m ≡ j → j ≤ length d₀ → Put d₀ d k m → drop j d ≡ drop j d₀
  put_behind j e h p =
      let l : length (take k d₀ ++ m) ≡ j = head_length d₀ m k (omega arith) ∙ e in
      ap (drop j) p ∙ drop_at (take k d₀ ++ m) (drop (length (take k d₀ ++ m)) d₀) j l ∙ rw l

  pub put_read : (i : ℕ) (z : A) → k ≤ length d₀ → i < length m → Put d₀ d k m → get_or d (k + i) z ≡ get_or m i z
  put_read i z h l p =
      ap (λ x. get_or x (k + i) z) p
      ∙ get_or-append (take k d₀ ++ m) (drop (length (take k d₀ ++ m)) d₀) z (k + i) (omega (arith, head_length d₀ m k h))
      ∙ rw (length-take-le k d₀ h) at (get_or-append-add (take k d₀) m i z)

-- ---- links that are written

-- a part by its elements
part_is : (g : ℕ → ℕ) (i k n : ℕ) (d : List ℕ) → k + n ≤ length d → ((j : ℕ) → j < n → get_or d (k + j) 0 ≡ g (i + j)) → take n (drop k d) ≡ map g (upto i n)
part_is g i k zero d h f = refl
part_is g i k (suc n) d h f =
    let a : k + 0 ≡ k = omega arith in
    let b : i + 0 ≡ i = omega arith in
    let z : get_or d k 0 ≡ g i = rw (a, b) at (f 0 (omega arith)) in
    let r = part_is g (i + 1) (k + 1) n d (omega arith) (λ j l. let c : k + 1 + j ≡ k + suc j = omega arith in let e : i + 1 + j ≡ i + suc j = omega arith in rw (c, e) (f (suc j) (omega arith))) in
    ap (take (suc n)) (next d k 0 (omega arith)) ∙ (λ p. z p ∷ r p)

links_length : (numbers : List ℕ) (n : ℕ) → length (links numbers n) ≡ length numbers + n
unfolding links
links_length numbers n =
    length-append (map (next_of numbers) (upto 0 (length numbers))) (map (first_of numbers) (upto 0 n))
    ∙ omega (arith, length-map (upto 0 (length numbers)) (next_of numbers), upto_length 0 (length numbers), length-map (upto 0 n) (first_of numbers), upto_length 0 n)

module _ (n sections : ℕ) (numbers : List ℕ) (size : length numbers ≡ n) where
  -- all pieces are linked
  pub linking_put : (d₀ d₁ d : List ℕ) → 4 * n + sections ≤ length d₀ → length d₁ ≡ length d₀ → take (3 * n) d₁ ≡ take (3 * n) d₀ → drop (4 * n + sections) d₁ ≡ drop (4 * n + sections) d₀ → Linking n sections 0 numbers d₁ d → Put d₀ d (3 * n) (links numbers sections)
  unfolding links first_of
  linking_put d₀ d₁ d h l t u k =
      let z : length (take (3 * n) d₀ ++ links numbers sections) ≡ 4 * n + sections = head_length d₀ (links numbers sections) (3 * n) (omega arith) ∙ omega (arith, links_length numbers sections) in
      let e : 3 * n + n ≡ 4 * n = omega arith in
      let a : take n (drop (3 * n) d) ≡ map (next_of numbers) (upto 0 (length numbers)) = part_is (next_of numbers) 0 (3 * n) n d (omega (arith, k.size)) (λ j q. let o : 0 + j ≡ j = omega arith in k.nexts j (omega arith) q ∙ rw o) ∙ rw size in
      let b : take sections (drop (4 * n) d) ≡ map (first_of numbers) (upto 0 sections) = part_is (first_of numbers) 0 (4 * n) sections d (omega (arith, k.size)) (λ s q. let o : 0 + s ≡ s = omega arith in k.firsts s q ∙ rw o) in
      sym (take-append-drop (3 * n) d)
      ∙ (λ p. (k.kept ∙ t) p ++ (sym (take-append-drop n (drop (3 * n) d))) p)
      ∙ ap (λ x. take (3 * n) d₀ ++ (take n (drop (3 * n) d) ++ x)) (drop-drop n (3 * n) d ∙ ap (λ x. drop x d) e ∙ sym (take-append-drop sections (drop (4 * n) d)) ∙ ap (λ x. take sections (drop (4 * n) d) ++ x) (drop-drop sections (4 * n) d ∙ k.behind ∙ u))
      ∙ rw (a, b, z, append_assoc, append_assoc)

  -- where the links are written, each is read
  module _ (d₀ d : List ℕ) (h : 4 * n + sections ≤ length d₀) (p : Put d₀ d (3 * n) (links numbers sections)) where
    own : List ℕ
    own = map (next_of numbers) (upto 0 (length numbers))

    own_length : length own ≡ n
    unfolding own
    own_length = length-map (upto 0 (length numbers)) (next_of numbers) ∙ upto_length 0 (length numbers) ∙ size

    reads : (i : ℕ) → i < n + sections → get_or d (3 * n + i) 0 ≡ get_or (links numbers sections) i 0
    reads i l = put_read d₀ d (links numbers sections) (3 * n) i 0 (omega arith) (omega (arith, links_length numbers sections)) p

    pub linked_next : (i : ℕ) → i < n → get_or d (3 * n + i) 0 ≡ next_of numbers i
    unfolding links own
    linked_next i l =
        let o : 0 + i ≡ i = omega arith in
        reads i (omega arith)
        ∙ get_or-append own (map (first_of numbers) (upto 0 sections)) 0 i (omega (arith, own_length))
        ∙ map_at (next_of numbers) 0 (length numbers) i 0 (omega (arith, size)) ∙ rw o

    pub linked_first : (t : ℕ) → t < sections → get_or d (4 * n + t) 0 ≡ first_of numbers t
    unfolding links own
    linked_first t l =
        let o : 0 + t ≡ t = omega arith in
        let e : 3 * n + (n + t) ≡ 4 * n + t = omega arith in
        rw e at (reads (n + t) (omega arith))
        ∙ rw own_length at (get_or-append-add own (map (first_of numbers) (upto 0 sections)) t 0)
        ∙ map_at (first_of numbers) 0 sections t 0 l ∙ rw o

-- what `link` leaves
pub linked : (f : Field) (sections : ℕ) (floats : List Float) (d₀ d : List ℕ) → f.stagger < 2 ^ 32 → 3 * f.pieces ≤ length floats → 4 * f.pieces + sections ≤ length d₀
    → Put d₀ d (3 * f.pieces) (links (numbers_in f.pieces d₀) sections) → Linked f sections floats d
linked f sections floats d₀ d g h r p =
    let n = f.pieces in
    let ns = numbers_in n d₀ in
    let k = numbers_kept d d₀ n (put_kept d₀ d (links ns sections) (3 * n) (omega arith) p) in
    let z = numbers_length n d₀ in
    record {
      stagger = g;
      pieces = h;
      numbers = omega (arith, put_length d₀ d (links ns sections) (3 * n) (omega (arith, links_length ns sections, z)) p);
      nexts = λ i l. rw k (linked_next n sections ns z d₀ d r p i l);
      firsts = λ t l. rw k (linked_first n sections ns z d₀ d r p t l);
    }

-- and of fewer sections
pub linked_less : (f : Field) (sections s : ℕ) (floats : List Float) (d : List ℕ) → s ≤ sections → Linked f sections floats d → Linked f s floats d
linked_less f sections s floats d h l = record { stagger = l.stagger; pieces = l.pieces; numbers = omega (arith, l.numbers); nexts = l.nexts; firsts = λ t k. l.firsts t (omega arith) }
