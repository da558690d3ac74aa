-- A slice into which blocks are put one after the other. Assumes nothing.
use Rattle.std.specs.Prelude.{◌≡◌, refl, List, [], ◌++◌, ℕ, ◌+◌, ◌≤◌, length, take, drop}
use Rattle.std.proofs.Common.{sym, ap, ◌∙◌, append_assoc, append-nil, arith, length-append, length-drop, take-append-drop, length-take-le, take_at, drop_at, drop-drop}
use Rattle.seqs.specs.Slices.{put}
use Rattle.seqs.specs.Wrote.{head_length}

module _ {ℓ} {A : Type ℓ} where
  pub put_none : (d : List A) (k : ℕ) → k ≤ length d → d ≡ put d k []
  put_none d k h = rw (append-nil, length-take-le k d h) (sym (take-append-drop k d))

  pub put_length : (d m : List A) (k : ℕ) → k + length m ≤ length d → length (put d k m) ≡ length d
  put_length d m k h =
      length-append (take k d ++ m) (drop (length (take k d ++ m)) d)
      ∙ omega (arith, head_length d m k (omega arith), length-drop (length (take k d ++ m)) d)

  -- behind what is put, all is as it was
  put_drop : (d m : List A) (k j : ℕ) → drop (length (take k d ++ m) + j) (put d k m) ≡ drop (length (take k d ++ m) + j) d
  put_drop d m k j =
      let p = take k d ++ m in
      sym (drop-drop j (length p) (put d k m)) ∙ ap (drop j) (drop_at p (drop (length p) d) (length p) refl) ∙ drop-drop j (length p) d

  -- a block after a block is one block
  pub put_put : (d a b : List A) (k : ℕ) → k + length a ≤ length d → put (put d k a) (k + length a) b ≡ put d k (a ++ b)
  put_put d a b k h =
      let p = take k d ++ a in
      let t : take (k + length a) (put d k a) ≡ p = take_at p (drop (length p) d) (k + length a) (head_length d a k (omega arith)) in
      let q : length (p ++ b) ≡ length p + length b = length-append p b in
      rw (t, q, put_drop d a k (length b), ← q) (ap (λ (l : List A). l ++ drop (length l) d) (append_assoc (take k d) a b))

  -- the same of what two calls leave, the second from where the first ended
  pub put_then : (d d₁ y a b : List A) (k n : ℕ) → k + length a ≤ length d → d₁ ≡ put d k a → n ≡ k + length a → y ≡ put d₁ n b → y ≡ put d k (a ++ b)
  put_then d d₁ y a b k n h e f g = (rw (e, f) at g) ∙ put_put d a b k h
