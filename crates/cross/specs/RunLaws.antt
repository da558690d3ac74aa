-- Runs of adjacent cells, found by a scan. Assumes nothing.
use Rattle.std.specs.Prelude.{ℕ, zero, suc, ◌+◌, ◌-◌, ◌≤◌, ◌<◌, ◌≡◌, refl, Bool, true, false, List, [], ◌∷◌, eqb, ltb}
use Rattle.std.proofs.Common.{arith, ◌∙◌, inl, inr, eq-eqb, ne_eqb, ltb-true, ltb-false}
use Rattle.std.proofs.Math.Path.{ap}
use Rattle.seqs.specs.Lists.{upto, sift, All}
use Rattle.seqs.specs.All.{all_map, all_sift}
use Rattle.seqs.specs.Tests.{either}
use Rattle.seqs.specs.Upto.{upto_all, upto_none, upto_kept, upto_passed}
use Rattle.patterns_rules.specs.declared.Run.{Run}
use Rattle.patterns_rules.specs.Patterns.{joined, runs}
use Rattle.cross.specs.Cells.{runs_in, First, Stop, Next}

abbrev run : ℕ → ℕ → Run
run i n = record { first = i; many = n }

-- the first run starts with the first cell
joined_first : (i : ℕ) (rs : List Run) → (r : Run) × (rest : List Run) × (joined i rs ≡ r ∷ rest) × (r.first ≡ i)
unfolding joined
joined_first i [] = (run i 1, [], refl, refl)
joined_first i (r ∷ rs) = elim (either (eqb r.first (i + 1))) [
  | inl e ↦ (run i (r.many + 1), rs, rw e, refl)
  | inr e ↦ (run i 1, r ∷ rs, rw e, refl)
]

-- a cell with none next to it is a run
alone : (i : ℕ) (cells : List ℕ) → All (λ j. i + 1 < j) cells → joined i (runs cells) ≡ run i 1 ∷ runs cells
unfolding joined runs
alone i [] h = refl
alone i (j ∷ cells) h =
    let w = joined_first j (runs cells) in
    rw w.2 (rw (ne_eqb w.0.first (i + 1) (λ e. omega (arith, w.3, h.0))))

-- a cell next to a run joins it
joins : (i n : ℕ) (rs : List Run) → joined i (run (i + 1) n ∷ rs) ≡ run i (n + 1) ∷ rs
unfolding joined
joins i n rs = rw (eq-eqb (i + 1) (i + 1) refl)

module _ (inside : ℕ → Bool) (n : ℕ) where
  pub runs_none : (i : ℕ) → n ≤ i → runs_in inside n i ≡ []
  unfolding runs
  runs_none i h = rw (upto_none n i h)

  pub runs_skip : (i : ℕ) → i < n → inside i ≡ false → runs_in inside n i ≡ runs_in inside n (i + 1)
  runs_skip i h e = ap runs (upto_passed inside n i h e)

  runs_cell : (i : ℕ) → i < n → inside i ≡ true → runs_in inside n i ≡ joined i (runs_in inside n (i + 1))
  unfolding runs
  runs_cell i h e = ap runs (upto_kept inside n i h e)

  later : (i : ℕ) → All (λ j. i ≤ j) (sift inside (upto i (n - i)))
  later i = all_sift (λ j. i ≤ j) inside (upto i (n - i)) (all_map (λ j h. h.0) (upto i (n - i)) (upto_all i (n - i)))

  -- cell i, and the next not inside
  runs_last : (i : ℕ) → i < n → inside i ≡ true → (i + 1 < n → inside (i + 1) ≡ false) → runs_in inside n i ≡ run i 1 ∷ runs_in inside n (i + 1)
  runs_last i h e stop = runs_cell i h e ∙ elim (either (ltb (i + 1) n)) [
    | inl t ↦
        let l = ltb-true (i + 1) n t in
        let s = runs_skip (i + 1) l (stop l) in
        rw s (alone i (sift inside (upto (i + 1 + 1) (n - (i + 1 + 1)))) (all_map (λ j h. omega (arith, h)) (sift inside (upto (i + 1 + 1) (n - (i + 1 + 1)))) (later (i + 1 + 1))))
    | inr t ↦ rw (runs_none (i + 1) (ltb-false (i + 1) n t)) (unfold joined in refl)
  ]

  -- k + 1 cells from i on, and the next not inside
  pub runs_run : (k i : ℕ) → i + k < n → ((j : ℕ) → i ≤ j → j ≤ i + k → inside j ≡ true) → (i + k + 1 < n → inside (i + k + 1) ≡ false) → runs_in inside n i ≡ run i (k + 1) ∷ runs_in inside n (i + k + 1)
  runs_run zero i h all stop =
      let e : i + 0 ≡ i = omega arith in
      rw e (runs_last i (omega arith) (all i (omega arith) (omega arith)) (rw e at stop))
  runs_run (suc k) i h all stop =
      let e : i + 1 + k + 1 ≡ i + suc k + 1 = omega arith in
      let d : i + 1 + k ≡ i + suc k = omega arith in
      let f : k + 1 + 1 ≡ suc k + 1 = omega arith in
      let r = runs_run k (i + 1) (omega arith) (λ j a b. all j (omega arith) (omega arith)) (rw (← d) at stop) in
      let j = joins i (k + 1) (runs_in inside n (i + 1 + k + 1)) in
      rw (r, j, e, f) at (runs_cell i (omega arith) (all i (omega arith) (omega arith)))

  -- ---- what the scans answer

  pub first_past : (i r : ℕ) → i ≤ r → r ≤ n → n ≤ r → runs_in inside n i ≡ runs_in inside n r → First inside n i r
  first_past i r low high past e = record { low = low; high = high; skips = e; found = λ h. absurd (omega arith) }

  pub first_here : (i r : ℕ) → i ≤ r → r < n → inside r ≡ true → runs_in inside n i ≡ runs_in inside n r → First inside n i r
  first_here i r low high t e = record { low = low; high = omega arith; skips = e; found = λ h. t }

  -- none is left
  pub next_none : {i a : ℕ} → First inside n i a → n ≤ a → Next inside n i (run a 0)
  next_none {i} {a} f h = record { low = f.low; high = omega (arith, f.high); ends = λ e. f.skips ∙ runs_none a h; goes = λ e. absurd (omega arith) }

  -- from a up to b, where the scan stopped
  a_run : (a b : ℕ) → a < n → inside a ≡ true → Stop inside n (a + 1) b → runs_in inside n a ≡ run a (b - a) ∷ runs_in inside n (a + (b - a))
  a_run a b h t s =
      let k = b - (a + 1) in
      let e : a + k + 1 ≡ b = omega (arith, s.low) in
      let c : k + 1 ≡ b - a = omega (arith, s.low) in
      let d : a + (b - a) ≡ b = omega (arith, s.low) in
      rw d (rw (c, e) at (runs_run k a (omega (arith, s.low, s.high)) (λ j x y. here j x (omega (arith, e))) (rw (← e) at s.stops)))
    where
      here : (j : ℕ) → a ≤ j → j < b → inside j ≡ true
      here j x y = elim (either (ltb a j)) [
        | inl l ↦ s.all j (omega (arith, ltb-true a j l)) y
        | inr l ↦ let z : j ≡ a = omega (arith, ltb-false a j l) in rw z t
      ]

  pub next_run : {i a b : ℕ} → First inside n i a → a < n → Stop inside n (a + 1) b → Next inside n i (run a (b - a))
  next_run {i} {a} {b} f h s = record {
    low = f.low;
    high = omega (arith, s.low, s.high);
    ends = λ e. absurd (omega (arith, s.low));
    goes = λ g. f.skips ∙ a_run a b h (f.found h) s;
  }

-- one cell more
pub all_on : (inside : ℕ → Bool) (i j : ℕ) → ((t : ℕ) → i ≤ t → t < j → inside t ≡ true) → inside j ≡ true → (t : ℕ) → i ≤ t → t < j + 1 → inside t ≡ true
all_on inside i j all e t a b = elim (either (ltb t j)) [
  | inl l ↦ all t a (ltb-true t j l)
  | inr l ↦ let z : t ≡ j = omega (arith, ltb-false t j l) in rw z e
]
