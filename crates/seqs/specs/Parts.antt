-- What a slice is after a part of it was lent and left as y: the first n elements, or all from n on. Assumes nothing.
use Rattle.std.specs.Prelude.{◌≡◌, List, ◌++◌, ℕ, ◌-◌, ◌≤◌, length, take, drop}
use Rattle.std.proofs.Common.{ap, ◌∙◌, append-nil, arith, length-append, length-drop, length-take-le, take_at, drop_at, take_all}
use Rattle.std.proofs.lemmas.List.{take-append-le}
use Rattle.seqs.specs.Front.{none}
use Rattle.seqs.specs.Reads.{drop_on}

module _ {ℓ} {A : Type ℓ} (d y : List A) (n : ℕ) where
  module _ (h : n ≤ length d) (k : length y ≡ n) where
    pub head_size : length (y ++ drop n d) ≡ length d
    head_size = length-append y (drop n d) ∙ omega (arith, length-drop n d)

    pub head_take : (j : ℕ) → j ≤ n → take j (y ++ drop n d) ≡ take j y
    head_take j g = take-append-le j y (drop n d) (omega arith)

    pub head_is : take n (y ++ drop n d) ≡ y
    head_is = take_at y (drop n d) n k

    pub head_later : (j : ℕ) → n ≤ j → drop j (y ++ drop n d) ≡ drop j d
    head_later j g = drop_on (y ++ drop n d) d n j g (drop_at y (drop n d) n k)

  module _ (h : n ≤ length d) (k : length y ≡ length d - n) where
    whole : take n d ++ (y ++ drop (length d - n) (drop n d)) ≡ take n d ++ y
    whole = rw (none (drop n d) (length d - n) (omega (arith, length-drop n d)), append-nil y)

    pub tail_size : length (take n d ++ (y ++ drop (length d - n) (drop n d))) ≡ length d
    tail_size = ap length whole ∙ length-append (take n d) y ∙ omega (arith, length-take-le n d h)

    pub tail_kept : take n (take n d ++ (y ++ drop (length d - n) (drop n d))) ≡ take n d
    tail_kept = ap (take n) whole ∙ take_at (take n d) y n (length-take-le n d h)

    pub tail_is : drop n (take n d ++ (y ++ drop (length d - n) (drop n d))) ≡ y
    tail_is = ap (drop n) whole ∙ drop_at (take n d) y n (length-take-le n d h)

  -- the part as it was lent
  pub tail_lent : take (length d - n) (drop n d) ≡ drop n d
  tail_lent = take_all (length d - n) (drop n d) (omega (arith, length-drop n d))
