-- The ways on from a grid point, one after the other; and a turn of the shuffle. Assumes nothing.
use Rattle.std.specs.Prelude.{ℕ, zero, suc, ◌+◌, ◌-◌, ◌*◌, ◌/◌, ◌%◌, ◌≤◌, ◌<◌, ◌≡◌, refl, Bool, true, false, List, [], ◌∷◌, ◌++◌, ltb, length, take, drop, get_or, set}
use Rattle.std.proofs.Common.{arith, sym, ap, ◌∙◌, append_assoc, length-append, take_at, ltb-true}
use native.Mathlib.Nat.{zero-mul, mul-zero, mod-le, div-add-mod', mul-le-mul_left, mul-one, zero-div}
use Rattle.seqs.specs.Lists.{keep_if}
use Rattle.seqs.specs.Slices.{put}
use Rattle.seqs.specs.Put.{put_then}
use Rattle.meander_rules.specs.declared.Lattice.{Lattice}
use Rattle.meander_rules.specs.Meander.{next_seed, neighbours, swap, shuffle_from}

-- a grid with a point has columns and rows
pub some_columns : (a b k : ℕ) → k < a * b → 0 < a
some_columns zero b k h = absurd (omega (arith, zero-mul b, h))
some_columns (suc a) b k h = omega arith

some_rows : (a b k : ℕ) → k < a * b → 0 < b
some_rows a zero k h = absurd (omega (arith, mul-zero a, h))
some_rows a (suc b) k h = omega arith

pub few_columns : (a b k : ℕ) → k < a * b → a ≤ a * b
few_columns a b k h = rw (mul-one a) at (mul-le-mul_left a (some_rows a b k h))

-- what a test on the column or the row tells
pub back_column : (a k : ℕ) → ltb 0 (k % a) ≡ true → 1 ≤ k
back_column a k h = omega (arith, ltb-true 0 (k % a) h, mod-le k a)

pub back_row : (a k : ℕ) → ltb 0 (k / a) ≡ true → a ≤ k
back_row a k h = go (k / a) (div-add-mod' k a) (ltb-true 0 (k / a) h)
  where
    go : (q : ℕ) → q * a + k % a ≡ k → 0 < q → a ≤ k
    go zero e p = absurd (omega arith)
    go (suc q) e p = omega (arith, e, suc_times q a)
      where
        suc_times : (q a : ℕ) → suc q * a ≡ q * a + a
        suc_times q a = native.Mathlib.Nat.suc-mul q a

-- the ways as they are put
keep_before : (t : Bool) (a : ℕ) (l : List ℕ) → keep_if t a l ≡ keep_if t a [] ++ l
keep_before true a l = refl
keep_before false a l = refl

pub keep_few : (t : Bool) (a : ℕ) → length (keep_if t a []) ≤ 1
keep_few true a = omega arith
keep_few false a = omega arith

pub ways_are : (g : Lattice) (here : ℕ) → (keep_if (ltb 0 (here % g.columns)) (here - 1) [] ++ keep_if (ltb (here % g.columns + 1) g.columns) (here + 1) []) ++ (keep_if (ltb 0 (here / g.columns)) (here - g.columns) [] ++ keep_if (ltb (here / g.columns + 1) g.rows) (here + g.columns) []) ≡ neighbours g here
unfolding neighbours
ways_are g here =
    let a = ltb 0 (here % g.columns) in
    let b = ltb (here % g.columns + 1) g.columns in
    let c = ltb 0 (here / g.columns) in
    let d = ltb (here / g.columns + 1) g.rows in
    let last = keep_if d (here + g.columns) [] in
    let third = keep_if c (here - g.columns) last in
    append_assoc (keep_if a (here - 1) []) (keep_if b (here + 1) []) (keep_if c (here - g.columns) [] ++ last)
    ∙ ap (λ (r : List ℕ). keep_if a (here - 1) [] ++ (keep_if b (here + 1) [] ++ r)) (sym (keep_before c (here - g.columns) last))
    ∙ ap (λ (r : List ℕ). keep_if a (here - 1) [] ++ r) (sym (keep_before b (here + 1) third))
    ∙ sym (keep_before a (here - 1) (keep_if b (here + 1) third))

-- and added one by one
pub ways_added : (g : Lattice) (here : ℕ) → ((keep_if (ltb 0 (here % g.columns)) (here - 1) [] ++ keep_if (ltb (here % g.columns + 1) g.columns) (here + 1) []) ++ keep_if (ltb 0 (here / g.columns)) (here - g.columns) []) ++ keep_if (ltb (here / g.columns + 1) g.rows) (here + g.columns) [] ≡ neighbours g here
ways_added g here = append_assoc (keep_if (ltb 0 (here % g.columns)) (here - 1) [] ++ keep_if (ltb (here % g.columns + 1) g.columns) (here + 1) []) (keep_if (ltb 0 (here / g.columns)) (here - g.columns) []) (keep_if (ltb (here / g.columns + 1) g.rows) (here + g.columns) []) ∙ ways_are g here

pub keep_same : (t : Bool) {a b : ℕ} → (t ≡ true → a ≡ b) → keep_if t a [] ≡ keep_if t b []
keep_same true h = ap (λ (k : ℕ). k ∷ []) (h refl)
keep_same false h = refl

-- four blocks put one after the other
put_four : (d₀ d₁ d₂ d₃ d₄ m₁ m₂ m₃ m₄ : List ℕ) (a b c r : ℕ) → length m₁ ≤ 1 → length m₂ ≤ 1 → length m₃ ≤ 1 → length m₄ ≤ 1 → 4 ≤ length d₀
    → d₁ ≡ put d₀ 0 m₁ → a ≡ 0 + length m₁ → d₂ ≡ put d₁ a m₂ → b ≡ a + length m₂ → d₃ ≡ put d₂ b m₃ → c ≡ b + length m₃ → d₄ ≡ put d₃ c m₄ → r ≡ c + length m₄
    → (d₄ ≡ put d₀ 0 (((m₁ ++ m₂) ++ m₃) ++ m₄)) × (r ≡ length (((m₁ ++ m₂) ++ m₃) ++ m₄))
put_four d₀ d₁ d₂ d₃ d₄ m₁ m₂ m₃ m₄ a b c r h₁ h₂ h₃ h₄ h e₁ f₁ e₂ f₂ e₃ f₃ e₄ f₄ =
    let l₂ = length-append m₁ m₂ in
    let l₃ = length-append (m₁ ++ m₂) m₃ in
    let l₄ = length-append ((m₁ ++ m₂) ++ m₃) m₄ in
    let p₂ = put_then d₀ d₁ d₂ m₁ m₂ 0 a (omega arith) e₁ f₁ e₂ in
    let p₃ = put_then d₀ d₂ d₃ (m₁ ++ m₂) m₃ 0 b (omega (arith, l₂)) p₂ (omega (arith, l₂, f₁, f₂)) e₃ in
    (put_then d₀ d₃ d₄ ((m₁ ++ m₂) ++ m₃) m₄ 0 c (omega (arith, l₂, l₃)) p₃ (omega (arith, l₂, l₃, f₁, f₂, f₃)) e₄, omega (arith, l₂, l₃, l₄, f₁, f₂, f₃, f₄))

module _ (g : Lattice) (here : ℕ) (d₀ d₁ d₂ d₃ d₄ : List ℕ) (a b c r : ℕ) (h : 4 ≤ length d₀) where
  pub ways_put : d₁ ≡ put d₀ 0 (keep_if (ltb 0 (here % g.columns)) (here - 1) []) → a ≡ 0 + length (keep_if (ltb 0 (here % g.columns)) (here - 1) [])
      → d₂ ≡ put d₁ a (keep_if (ltb (here % g.columns + 1) g.columns) (here + 1) []) → b ≡ a + length (keep_if (ltb (here % g.columns + 1) g.columns) (here + 1) [])
      → d₃ ≡ put d₂ b (keep_if (ltb 0 (here / g.columns)) (here - g.columns) []) → c ≡ b + length (keep_if (ltb 0 (here / g.columns)) (here - g.columns) [])
      → d₄ ≡ put d₃ c (keep_if (ltb (here / g.columns + 1) g.rows) (here + g.columns) []) → r ≡ c + length (keep_if (ltb (here / g.columns + 1) g.rows) (here + g.columns) [])
      → (take r d₄ ≡ neighbours g here) × (r ≡ length (neighbours g here))
  ways_put e₁ f₁ e₂ f₂ e₃ f₃ e₄ f₄ =
      let m₁ = keep_if (ltb 0 (here % g.columns)) (here - 1) [] in
      let m₂ = keep_if (ltb (here % g.columns + 1) g.columns) (here + 1) [] in
      let m₃ = keep_if (ltb 0 (here / g.columns)) (here - g.columns) [] in
      let m₄ = keep_if (ltb (here / g.columns + 1) g.rows) (here + g.columns) [] in
      let p = put_four d₀ d₁ d₂ d₃ d₄ m₁ m₂ m₃ m₄ a b c r (keep_few (ltb 0 (here % g.columns)) (here - 1)) (keep_few (ltb (here % g.columns + 1) g.columns) (here + 1)) (keep_few (ltb 0 (here / g.columns)) (here - g.columns)) (keep_few (ltb (here / g.columns + 1) g.rows) (here + g.columns)) h e₁ f₁ e₂ f₂ e₃ f₃ e₄ f₄ in
      let all = ((m₁ ++ m₂) ++ m₃) ++ m₄ in
      let same : all ≡ neighbours g here = append_assoc (m₁ ++ m₂) m₃ m₄ ∙ ways_are g here in
      (ap (take r) p.0 ∙ take_at all (drop (length all) d₀) r (sym p.1) ∙ same, p.1 ∙ ap length same)

-- a turn of the shuffle: n places are left to be swapped
pub shuffle_turn : (l : List ℕ) (seed n : ℕ) → 1 < n → shuffle_from (n - 1) l seed ≡ shuffle_from (n - 1 - 1) (set (set l (n - 1) (get_or l (next_seed seed % n) 0)) (next_seed seed % n) (get_or l (n - 1) 0)) (next_seed seed)
unfolding shuffle_from swap
shuffle_turn l seed zero h = absurd (omega arith)
shuffle_turn l seed (suc zero) h = absurd (omega arith)
shuffle_turn l seed (suc (suc n)) h =
    let e : suc (suc n) - 1 ≡ suc n = omega arith in
    let f : suc n - 1 ≡ n = omega arith in
    let g : n + 2 ≡ suc (suc n) = omega arith in
    rw (e, f, g)

pub shuffle_end : (l : List ℕ) (seed n : ℕ) → n ≤ 1 → shuffle_from (n - 1) l seed ≡ record { order = l; seed = seed }
unfolding shuffle_from
shuffle_end l seed n h = let e : n - 1 ≡ 0 = omega arith in rw e
