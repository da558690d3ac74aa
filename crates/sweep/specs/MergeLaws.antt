-- What is proved of merging: it orders, and halves in order make a whole in order. Assumes nothing.
use Rattle.std.specs.Prelude.{ℕ, ◌+◌, ◌-◌, ◌*◌, ◌≤◌, ◌<◌, ◌≡◌, Bool, cond, get_or, set, slice_get, Some, None}
use Rattle.std.proofs.Common.{arith, ◌∙◌, add-one, append-nil, append_assoc, drop_at, drop-cons, length-append, length-drop, length-set, take-add, take_all, take_at, take-suc-set, take-take}
use Rattle.std.proofs.Math.Path.{refl, sym, ap}
use Rattle.std.proofs.Math.Bool.{true, false}
use Rattle.std.proofs.Math.Logic.{inl, inr}
use mathlib.Core.List.Permᴰ
use mathlib.Core.List.{List, [], ◌∷◌, ◌++◌, Permᴰ}
use Rattle.std.proofs.Math.ListN.{length, take, drop}
use Rattle.std.proofs.Math.Seq.{length-take-le, drop-drop, take-append-add}
use Rattle.std.proofs.lemmas.List.{take-append-drop, take-append-le}
use Rattle.seqs.specs.Lists.{fold, insert_back, sort_by, upto, All, Ordered, Strict}
use Rattle.seqs.specs.Tests.{either, clash}
use Rattle.seqs.specs.All.{all_map, all_perm, all_append}
use Rattle.seqs.specs.Sort.{sort_perm, sort_ordered, backs_sort, ordered_sort}
use Rattle.seqs.specs.Slices.{put}
use Rattle.seqs.specs.Put.{put_length, put_then}
use Rattle.seqs.specs.Wrote.{head_length}
use Rattle.seqs.specs.Reads.{drop_take, take_on, part_on, drop_on, whole}
use Rattle.seqs.specs.Parts.{head_size, head_is}
use Rattle.seqs.specs.Upto.{upto_length}
use Rattle.rules.specs.declared.Edge.{Edge}
use Rattle.sweep.specs.declared.key.Key.{Key}
use Rattle.sweep.specs.declared.key.Key.TheVariants.{Top, Bottom}
use Rattle.sweep.specs.Swept.{by, ordered, waiting}
use Rattle.sweep.specs.SweptLaws.{ordered_length}
use Rattle.sweep.specs.Merge.{into, merge_by, left_next, PartOrdered, Waited}

-- ---- one step

module _ {A : Type 0} (le : A → A → Bool) where
  pub merge_left : {l : List A} (m : List A) (a : A) (r : List A) → l ≡ a ∷ r → left_next le l m ≡ true → merge_by le l m ≡ a ∷ merge_by le r m
  unfolding merge_by into left_next
  merge_left m a r e h = rw e (go m (rw e at h))
    where
      go : (m : List A) → left_next le (a ∷ r) m ≡ true → into le a (merge_by le r) m ≡ a ∷ merge_by le r m
      go [] h = refl
      go (b ∷ m) h = rw h

  pub merge_right : (l : List A) {m : List A} (b : A) (r : List A) → m ≡ b ∷ r → left_next le l m ≡ false → merge_by le l m ≡ b ∷ merge_by le l r
  unfolding merge_by into left_next
  merge_right l b r e h = rw e (go l (rw e at h))
    where
      go : (l : List A) → left_next le l (b ∷ r) ≡ false → merge_by le l (b ∷ r) ≡ b ∷ merge_by le l r
      go [] h = refl
      go (a ∷ l) h = rw h

  pub merge_none : {l m : List A} → l ≡ [] → m ≡ [] → merge_by le l m ≡ []
  unfolding merge_by
  merge_none e f = rw (e, f)

  -- the next one of all is there
  pub left_some : (l m : List A) → left_next le l m ≡ true → 0 < length l
  unfolding left_next
  left_some [] m h = clash h refl
  left_some (a ∷ l) m h = omega arith

  pub right_some : (l m : List A) → left_next le l m ≡ false → 0 < length l + length m → 0 < length m
  unfolding left_next
  right_some [] m h k = omega arith
  right_some (a ∷ l) [] h k = clash refl h
  right_some (a ∷ l) (b ∷ m) h k = omega arith

  -- ---- merging only reorders

  into_perm : (a : A) (on : List A → List A) (l : List A) → ((m : List A) → Permᴰ (on m) (l ++ m)) → (m : List A) → Permᴰ (into le a on m) (a ∷ (l ++ m))
  unfolding into
  into_perm a on l h [] = Permᴰ.cons refl (h [])
  into_perm a on l h (b ∷ m) = go (le a b) (into_perm a on l h m)
    where
      go : (t : Bool) → Permᴰ (into le a on m) (a ∷ (l ++ m)) → Permᴰ (cond t (a ∷ on (b ∷ m)) (b ∷ into le a on m)) (a ∷ (l ++ (b ∷ m)))
      go true p = Permᴰ.cons refl (h (b ∷ m))
      go false p = Permᴰ.trans (Permᴰ.cons refl p) (Permᴰ.trans (Permᴰ.swap refl refl) (Permᴰ.cons refl (Permᴰ.symm (Permᴰ.middle b l m))))

  pub merge_perm : (l m : List A) → Permᴰ (merge_by le l m) (l ++ m)
  unfolding merge_by
  merge_perm [] m = Permᴰ.refl m
  merge_perm (a ∷ l) m = into_perm a (merge_by le l) l (merge_perm l) m

  -- ---- and orders

  module _ (o : Strict le) where
    abbrev Behind : A → List A → Type 0
    Behind a l = All (λ b. le a b ≡ true) l

    behind_both : (a : A) (l m : List A) → Behind a l → Behind a m → Behind a (l ++ m)
    behind_both a l m h k = all_append (λ b. le a b ≡ true) l m h k

    behind_on : (a b : A) (l : List A) → le a b ≡ true → Behind b l → Behind a l
    behind_on a b l e h = all_map (λ c t. o.trans a b c e t) l h

    into_ordered : (a : A) (l : List A) → Behind a l → ((m : List A) → Ordered le m → Ordered le (merge_by le l m)) → (m : List A) → Ordered le m → Ordered le (into le a (merge_by le l) m)
    unfolding into
    into_ordered a l h on [] k = (all_perm (λ b. le a b ≡ true) (Permᴰ.symm (merge_perm l [])) (behind_both a l [] h tt), on [] tt)
    into_ordered a l h on (b ∷ m) k = elim (either (le a b)) [
      | inl e ↦ rw e (all_perm (λ c. le a c ≡ true) (Permᴰ.symm (merge_perm l (b ∷ m))) (behind_both a l (b ∷ m) h (e, behind_on a b m e k.0)), on (b ∷ m) k)
      | inr e ↦ rw e (all_perm (λ c. le b c ≡ true) (Permᴰ.symm (into_perm a (merge_by le l) l (merge_perm l) m)) (o.total a b e, behind_both b l m (behind_on b a l (o.total a b e) h) k.0), into_ordered a l h on m k.1)
    ]

    merge_ordered : (l m : List A) → Ordered le l → Ordered le m → Ordered le (merge_by le l m)
    unfolding merge_by
    merge_ordered [] m h k = k
    merge_ordered (a ∷ l) m h k = into_ordered a l h.0 (λ r q. merge_ordered l r h.1 q) m k

    both_perm : {l l' m m' : List A} → Permᴰ l l' → Permᴰ m m' → Permᴰ (l ++ m) (l' ++ m')
    both_perm {l} {l'} {m} {m'} p q = Permᴰ.trans (Permᴰ.append_left l q) (Permᴰ.append_right m' p)

    pub merge_sorts : (l m : List A) → merge_by le (fold (insert_back le) [] l) (fold (insert_back le) [] m) ≡ fold (insert_back le) [] (l ++ m)
    merge_sorts l m =
        rw (backs_sort le o l, backs_sort le o m, backs_sort le o (l ++ m))
        (ordered_sort le o (merge_by le (sort_by le l) (sort_by le m)) (merge_ordered (sort_by le l) (sort_by le m) (sort_ordered le o.total o.trans l) (sort_ordered le o.total o.trans m))
        (Permᴰ.trans (merge_perm (sort_by le l) (sort_by le m)) (both_perm (sort_perm le l) (sort_perm le m))))

-- halves in order, merged
pub ordered_halves : (key : Key) (es : List Edge) → Strict (by key es) → (n : ℕ) (l : List ℕ) → merge_by (by key es) (ordered key es (take n l)) (ordered key es (drop n l)) ≡ ordered key es l
unfolding ordered
ordered_halves key es o n l = merge_sorts (by key es) o (take n l) (drop n l) ∙ ap (fold (insert_back (by key es)) []) (take-append-drop n l)

-- as the code goes: the merged halves stand at the front of the room
pub sorted_halves : (key : Key) (es : List Edge) → Strict (by key es) → (n : ℕ) (l : List ℕ) {a b x y m : List ℕ} → a ≡ take n l → b ≡ drop n l → x ≡ ordered key es a → y ≡ ordered key es b
    → m ≡ merge_by (by key es) x y → (rest : List ℕ) → take (length l) (m ++ rest) ≡ ordered key es l
sorted_halves key es o n l {m = m} front back left right both rest =
    let e : m ≡ ordered key es l = rw (right, left, back, front) at both ∙ ordered_halves key es o n l in
    take_at m rest (length l) (ap length e ∙ ordered_length key es l) ∙ e

-- ---- merging, as the code goes: what is left of the parts is still to be put

module _ {A : Type 0} (le : A → A → Bool) where
  -- the next one, by the first of each part
  pub next_right : (l m : List A) → None ≡ slice_get l 0 → left_next le l m ≡ false
  unfolding left_next
  next_right [] m h = refl
  next_right (a ∷ l) m h = absurd (cc)

  pub next_left : (l m : List A) (a : A) → Some a ≡ slice_get l 0 → None ≡ slice_get m 0 → left_next le l m ≡ true
  unfolding left_next
  next_left [] m a h k = absurd (cc)
  next_left (a ∷ l) [] x h k = refl
  next_left (a ∷ l) (b ∷ m) x h k = absurd (cc)

  pub next_by : (l m : List A) (a b : A) → Some a ≡ slice_get l 0 → Some b ≡ slice_get m 0 → left_next le l m ≡ le a b
  unfolding left_next
  next_by [] m a b h k = absurd (cc)
  next_by (x ∷ l) [] a b h k = absurd (cc)
  next_by (x ∷ l) (y ∷ m) a b h k = cc

  pub record Merging (d : List A) (i : ℕ) (a b whole : List A) : Type 0 where
    pub count : i + (length a + length b) ≡ length d
    pub sofar : take i d ++ merge_by le a b ≡ whole

  module _ {d : List A} {i : ℕ} {a b whole : List A} (z : A) (v : Merging d i a b whole) where
    -- the one that is put is x, the first of either
    step : (x : A) (a' b' : List A) → merge_by le a b ≡ x ∷ merge_by le a' b' → i < length d → take (i + 1) (set d i x) ++ merge_by le a' b' ≡ whole
    step x a' b' e h = rw (add-one, take-suc-set d i x h, append_assoc) (rw e at v.sofar)

    pub merging_left : left_next le a b ≡ true → i < length d → Merging (set d i (get_or a 0 z)) (i + 1) (drop 1 a) b whole
    merging_left e h =
        let s : 0 < length a = left_some le a b e in
        let n : a ≡ get_or a 0 z ∷ drop 1 a = drop-cons a 0 z s in
        record { count = omega (arith, length-set d i (get_or a 0 z), length-drop 1 a, v.count); sofar = step (get_or a 0 z) (drop 1 a) b (merge_left le b (get_or a 0 z) (drop 1 a) n e) h }

    pub merging_right : left_next le a b ≡ false → i < length d → Merging (set d i (get_or b 0 z)) (i + 1) a (drop 1 b) whole
    merging_right e h =
        let s : 0 < length b = right_some le a b e (omega (arith, v.count)) in
        let n : b ≡ get_or b 0 z ∷ drop 1 b = drop-cons b 0 z s in
        record { count = omega (arith, length-set d i (get_or b 0 z), length-drop 1 b, v.count); sofar = step (get_or b 0 z) a (drop 1 b) (merge_right le a (get_or b 0 z) (drop 1 b) n e) h }

    pub merging_end : length d ≤ i → d ≡ whole
    merging_end h =
        let f : a ≡ [] = empty a (omega (arith, v.count)) in
        let g : b ≡ [] = empty b (omega (arith, v.count)) in
        sym (take_all i d h) ∙ sym (append-nil (take i d)) ∙ ap (λ l. take i d ++ l) (sym (merge_none le f g)) ∙ v.sofar
      where
        empty : (l : List A) → length l ≤ 0 → l ≡ []
        empty [] h = refl
        empty (x ∷ l) h = absurd (omega arith)

-- ---- blocks that are put

module _ {A : Type 0} (d m : List A) (k : ℕ) (h : k + length m ≤ length d) where
  put_whole : length (take k d ++ m) ≡ k + length m
  put_whole = head_length d m k (omega arith)

  pub put_before : (j : ℕ) → j ≤ k → take j (put d k m) ≡ take j d
  put_before j g = take_on (put d k m) d j k g (take-append-le k (take k d ++ m) (drop (length (take k d ++ m)) d) (omega (arith, put_whole)) ∙ take_at (take k d) m k (length-take-le k d (omega arith)))

  pub put_behind : (j : ℕ) → k + length m ≤ j → drop j (put d k m) ≡ drop j d
  put_behind j g = drop_on (put d k m) d (length (take k d ++ m)) j (omega (arith, put_whole)) (drop_at (take k d ++ m) (drop (length (take k d ++ m)) d) (length (take k d ++ m)) refl)

  pub put_there : take (length m) (drop k (put d k m)) ≡ m
  put_there =
      let rest = drop (length (take k d ++ m)) d in
      ap (λ l. take (length m) (drop k l)) (append_assoc (take k d) m rest) ∙ ap (take (length m)) (drop_at (take k d) (m ++ rest) k (length-take-le k d (omega arith))) ∙ take_at m rest (length m) refl

  -- one block over another of its length
  pub put_over : (b : List A) → length b ≡ length m → put (put d k m) k b ≡ put d k b
  put_over b e =
      let q : length (take k d ++ b) ≡ k + length m = head_length d b k (omega arith) ∙ omega (arith, e) in
      rw (put_before k (omega arith), q, put_behind (k + length m) (omega arith))

  -- the first e of it, where the block stands among them
  pub put_first : (e : ℕ) → k + length m ≤ e → e ≤ length d → take e (put d k m) ≡ put (take e d) k m
  put_first e g f =
      let p = take k d ++ m in
      let s : length p + (e - length p) ≡ e = omega (arith, put_whole) in
      let t : take e (p ++ drop (length p) d) ≡ p ++ drop (length p) (take e d) = rw s at (take-append-add p (drop (length p) d) (e - length p) ∙ ap (λ (l : List A). p ++ l) (drop_take (length p) (e - length p) d)) in
      rw (take-take k e d (omega arith)) t

-- ---- a part in order

part_length : {A : Type 0} (d : List A) (from n : ℕ) → from + n ≤ length d → length (take n (drop from d)) ≡ n
part_length d from n h = length-take-le n (drop from d) (omega (arith, length-drop from d))

-- a part of the first e is that part
first_part : {A : Type 0} (d : List A) (e from n : ℕ) → from + n ≤ e → take n (drop from d) ≡ take n (drop from (take e d))
first_part d e from n h = part_on d (take e d) from n e h (sym (take-take e e d (omega arith)))

-- two parts that stand one after the other
module _ {A : Type 0} (d x y : List A) (from h n : ℕ) (is : take n (drop from d) ≡ x ++ y) (size : length x ≡ h) (half : h ≤ n) where
  left_part : drop from (take (from + h) d) ≡ x
  left_part = sym (drop_take from h d) ∙ sym (take-take h n (drop from d) half) ∙ ap (take h) is ∙ take_at x y h size

  right_part : drop (from + h) (take (from + n) d) ≡ y
  right_part = sym (drop-drop h from (take (from + n) d)) ∙ ap (drop h) (sym (drop_take from n d) ∙ is) ∙ drop_at x y h size

module _ (key : Key) (es : List Edge) (e from n : ℕ) (d : List ℕ) (within : from + n ≤ e) (room : 2 * e ≤ length d) where
  size_e : length (take e d) ≡ e
  size_e = length-take-le e d (omega arith)

  -- by insertion
  inserted : (y : List ℕ) → y ≡ ordered key es (take n (drop from d)) → PartOrdered key es e from n d (take from d ++ (y ++ drop n (drop from d)))
  inserted y f =
      let c : length y ≡ n = ap length f ∙ ordered_length key es (take n (drop from d)) ∙ part_length d from n (omega arith) in
      let w : from + n ≡ length (take from d ++ y) = omega (arith, c, head_length d y from (omega arith)) in
      let q : drop n (drop from d) ≡ drop (length (take from d ++ y)) d = drop-drop n from d ∙ ap (λ (k : ℕ). drop k d) w in
      let p : take from d ++ (y ++ drop n (drop from d)) ≡ put d from y = rw q (sym (append_assoc (take from d) y (drop (length (take from d ++ y)) d))) in
      let g : y ≡ ordered key es (take n (drop from (take e d))) = f ∙ ap (ordered key es) (first_part d e from n within) in
      record {
        size = ap length p ∙ put_length d y from (omega (arith, c));
        is = ap (take e) p ∙ put_first d y from (omega (arith, c)) e (omega (arith, c)) (omega arith) ∙ ap (put (take e d) from) g;
      }

  pub part_inserted : (k : ℕ) → k ≡ n → (y : List ℕ) → y ≡ ordered key es (take k (drop from d)) → PartOrdered key es e from n d (take from d ++ (y ++ drop k (drop from d)))
  part_inserted k z y f = rw z (inserted y (rw z at f))

  -- by halves
  module _ (strict : Strict (by key es)) (h : ℕ) (half : h ≤ n) {d₁ d₂ d₃ : List ℕ}
      (one : PartOrdered key es e from h d d₁) (two : PartOrdered key es e (from + h) (n - h) d₁ d₂)
      (three : d₃ ≡ put d₂ (e + from) (merge_by (by key es) (drop from (take (from + h) d₂)) (drop (from + h) (take (from + n) d₂)))) where
    x : List ℕ
    x = take h (drop from (take e d))

    y : List ℕ
    y = take (n - h) (drop (from + h) (take e d))

    s : List ℕ
    s = ordered key es (take n (drop from (take e d)))

    x_size : length (ordered key es x) ≡ h
    unfolding x
    x_size = ordered_length key es x ∙ part_length (take e d) from h (omega (arith, size_e))

    y_size : length (ordered key es y) ≡ n - h
    unfolding y
    y_size = ordered_length key es y ∙ part_length (take e d) (from + h) (n - h) (omega (arith, size_e))

    s_size : length s ≡ n
    unfolding s
    s_size = ordered_length key es (take n (drop from (take e d))) ∙ part_length (take e d) from n (omega (arith, size_e))

    both_size : length (ordered key es x ++ ordered key es y) ≡ n
    both_size = length-append (ordered key es x) (ordered key es y) ∙ omega (arith, x_size, y_size)

    joined : x ++ y ≡ take n (drop from (take e d))
    unfolding x y
    joined =
        let z : h + (n - h) ≡ n = omega arith in
        rw (← drop-drop h from (take e d)) (sym (rw z at (take-add h (n - h) (drop from (take e d)))))

    after_one : take e d₁ ≡ put (take e d) from (ordered key es x)
    unfolding x
    after_one = one.is

    y_kept : take (n - h) (drop (from + h) (take e d₁)) ≡ y
    unfolding y
    y_kept = ap (λ l. take (n - h) (drop (from + h) l)) after_one ∙ ap (take (n - h)) (put_behind (take e d) (ordered key es x) from (omega (arith, x_size, size_e)) (from + h) (omega (arith, x_size)))

    after_two : take e d₂ ≡ put (take e d) from (ordered key es x ++ ordered key es y)
    after_two = put_then (take e d) (take e d₁) (take e d₂) (ordered key es x) (ordered key es y) from (from + h) (omega (arith, x_size, size_e)) after_one (omega (arith, x_size)) (rw y_kept at two.is)

    stands : take n (drop from d₂) ≡ ordered key es x ++ ordered key es y
    stands = first_part d₂ e from n within ∙ ap (λ l. take n (drop from l)) after_two ∙ (rw both_size at (put_there (take e d) (ordered key es x ++ ordered key es y) from (omega (arith, both_size, size_e))))

    merged : merge_by (by key es) (drop from (take (from + h) d₂)) (drop (from + h) (take (from + n) d₂)) ≡ s
    unfolding s ordered
    merged =
        rw (left_part d₂ (ordered key es x) (ordered key es y) from h n stands x_size half, right_part d₂ (ordered key es x) (ordered key es y) from h n stands x_size half, ← joined)
        (merge_sorts (by key es) strict x y)

    sizes_two : length d₂ ≡ length d
    sizes_two = two.size ∙ one.size

    after_three : d₃ ≡ put d₂ (e + from) s
    after_three = three ∙ ap (put d₂ (e + from)) merged

    pub size_three : length d₃ ≡ length d
    size_three = ap length after_three ∙ put_length d₂ s (e + from) (omega (arith, s_size, sizes_two)) ∙ sizes_two

    first_three : take e d₃ ≡ put (take e d) from (ordered key es x ++ ordered key es y)
    first_three = ap (take e) after_three ∙ put_before d₂ s (e + from) (omega (arith, s_size, sizes_two)) e (omega arith) ∙ after_two

    module _ {d₄ : List ℕ} (four : d₄ ≡ put d₃ from (take n (drop (e + from) d₃))) where
      after_four : d₄ ≡ put d₃ from s
      after_four =
          let t : take n (drop (e + from) d₃) ≡ s = ap (λ l. take n (drop (e + from) l)) after_three ∙ (rw s_size at (put_there d₂ s (e + from) (omega (arith, s_size, sizes_two)))) in
          four ∙ ap (put d₃ from) t

      pub part_halves : PartOrdered key es e from n d d₄
      unfolding s
      part_halves = record {
        size = ap length after_four ∙ put_length d₃ s from (omega (arith, s_size, size_three)) ∙ size_three;
        is = ap (take e) after_four ∙ put_first d₃ s from (omega (arith, s_size, size_three)) e (omega (arith, s_size)) (omega (arith, size_three)) ∙ ap (λ l. put l from s) first_three
            ∙ put_over (take e d) (ordered key es x ++ ordered key es y) from (omega (arith, both_size, size_e)) s (omega (arith, s_size, both_size));
      }

-- ---- all places

module _ (upward : Bool) (es : List Edge) (e : ℕ) (d y : List ℕ) (room : 2 * e ≤ length d) (up : y ≡ upto 0 (length (take e d))) where
  counted : length y ≡ e
  counted = ap length up ∙ upto_length 0 (length (take e d)) ∙ length-take-le e d (omega arith)

  pub counted_size : length (y ++ drop e d) ≡ length d
  counted_size = head_size d y e (omega arith) counted

  pub waited : {key : Key} → key ≡ cond upward Bottom Top → {d' : List ℕ} → length es ≡ e → PartOrdered key es e 0 e (y ++ drop e d) d' → Waited upward es e d d'
  unfolding waiting
  waited {key} k {d'} n v =
      let h : take e (y ++ drop e d) ≡ y = head_is d y e (omega arith) counted in
      let t : take e y ≡ y = take_all e y (omega (arith, counted)) in
      let w : take e d' ≡ put y 0 (ordered key es (take e y)) = rw h at v.is in
      let u : put y 0 (ordered key es (take e y)) ≡ ordered key es y = rw t (whole (ordered key es y) y (ordered_length key es y)) in
      let q : length (take e d) ≡ length es = length-take-le e d (omega arith) ∙ sym n in
      record { size = v.size ∙ counted_size; is = w ∙ u ∙ ap (ordered key es) (up ∙ ap (upto 0) q) ∙ ap (λ (x : Key). ordered x es (upto 0 (length es))) k }
