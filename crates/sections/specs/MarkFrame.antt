-- A row's marks look only at the marks of the row before, which stay while the row's own are written. Assumes nothing.
use Rattle.std.specs.Prelude.{ℕ, zero, suc, ◌+◌, ◌-◌, ◌*◌, ◌≤◌, ◌<◌, ◌≡◌, refl, Bool, true, false, cond, ◌&&◌, List, [], ◌∷◌, ◌++◌, eqb, take, get_or, Float, Some, None}
use Rattle.std.proofs.Common.{arith, ap, ◌∙◌}
use Rattle.seqs.specs.Lists.{upto, All}
use Rattle.seqs.specs.All.{all_sift}
use Rattle.seqs.specs.Reads.{read_on, fuel_more, fuel_none}
use Rattle.geom.specs.declared.point.P.{P}
use Rattle.outlines.specs.declared.rule.FillRule.{FillRule}
use Rattle.rules.specs.declared.Settings.{Settings}
use Rattle.rules.specs.declared.Entry.{Entry}
use Rattle.rules.specs.Fill.{connects}
use Rattle.sections.specs.declared.Row.{Row}
use Rattle.sections.specs.Mark.{piece_in, entry_in, hits, over, under, count_of, only_at, joined_at, joins_at, mark_by, mark_at, after_at, flat_mark, row_marks, row_new, Low}

below : (i n m : ℕ) → i + n ≤ m → All (λ t. t < m) (upto i n)
below i zero m h = tt
below i (suc n) m h = (omega arith, below (i + 1) n m (omega arith))

hits_below : (p : ℕ → Bool) (i n : ℕ) → i ≤ n → All (λ t. t < n) (hits p i n)
hits_below p i n h = all_sift (λ t. t < n) p (upto i (n - i)) (below i (n - i) n (omega arith))

module _ (rings : List (List P)) (rule : FillRule) (g : Settings) (l : List Float) (w v : List ℕ) (s : Row) (kept : take (s.n + 2 * s.r0) w ≡ take (s.n + 2 * s.r0) v) where
  mark_on : (t : ℕ) → t < s.r0 → (get_or w (s.n + 2 * t) 0 ≡ get_or v (s.n + 2 * t) 0) × (get_or w (s.n + 2 * t + 1) 0 ≡ get_or v (s.n + 2 * t + 1) 0)
  mark_on t h = (read_on w v (s.n + 2 * t) (s.n + 2 * s.r0) 0 (omega arith) kept, read_on w v (s.n + 2 * t + 1) (s.n + 2 * s.r0) 0 (omega arith) kept)

  entry_on : (t : ℕ) → t < s.r0 → entry_in l w s.n t ≡ entry_in l v s.n t
  entry_on t h = let e = mark_on t h in rw (e.0, e.1)

  -- what j joins among places of the row before, and so its mark
  mark_by_lem : (new j : ℕ) (xs : List ℕ) → All (λ t. t < s.r0) xs → mark_by rings rule g l w s new (joined_at rings rule g l w s j (only_at xs)) ≡ mark_by rings rule g l v s new (joined_at rings rule g l v s j (only_at xs))
  mark_by_lem new j [] a = refl
  mark_by_lem new j (t ∷ []) a =
      let e = mark_on t a.0 in
      ap (λ (o : Entry). mark_by rings rule g l w s new (cond (eqb (count_of (under l (piece_in l t)) s.r0 s.r1) 1 && connects rings rule g o (piece_in l j)) (Some t) None)) (entry_on t a.0)
      ∙ same (eqb (count_of (under l (piece_in l t)) s.r0 s.r1) 1 && connects rings rule g (entry_in l v s.n t) (piece_in l j)) e.0 e.1
    where
      same : (b : Bool) → get_or w (s.n + 2 * t) 0 ≡ get_or v (s.n + 2 * t) 0 → get_or w (s.n + 2 * t + 1) 0 ≡ get_or v (s.n + 2 * t + 1) 0
          → mark_by rings rule g l w s new (cond b (Some t) None) ≡ mark_by rings rule g l v s new (cond b (Some t) None)
      same true p q = rw (p, q)
      same false p q = refl
  mark_by_lem new j (t ∷ u ∷ xs) a = refl

  pub mark_kept : (new j : ℕ) → s.b0 ≤ s.r0 → mark_at rings rule g l w s new j ≡ mark_at rings rule g l v s new j
  unfolding mark_at joins_at
  mark_kept new j h = mark_by_lem new j (hits (over l (piece_in l j)) s.b0 s.r0) (hits_below (over l (piece_in l j)) s.b0 s.r0 h)

  pub low_kept : (most : ℕ) → Low s.n s.b0 s.r0 v most → Low s.n s.b0 s.r0 w most
  low_kept most low t b h = let e = mark_on t h in omega (arith, low t b h, e.1)

module _ (rings : List (List P)) (rule : FillRule) (g : Settings) (l : List Float) (w : List ℕ) (s : Row) (new j n : ℕ) where
  pub row_next : j < n → (row_marks rings rule g l w s new j (n - j) ≡ flat_mark (mark_at rings rule g l w s new j) ++ row_marks rings rule g l w s (after_at new (mark_at rings rule g l w s new j)) (j + 1) (n - (j + 1)))
      × (row_new rings rule g l w s new j (n - j) ≡ row_new rings rule g l w s (after_at new (mark_at rings rule g l w s new j)) (j + 1) (n - (j + 1)))
  unfolding row_marks row_new
  row_next h = let e = fuel_more n j h in (rw e, rw e)

  pub row_none : n ≤ j → (row_marks rings rule g l w s new j (n - j) ≡ []) × (row_new rings rule g l w s new j (n - j) ≡ new)
  unfolding row_marks row_new
  row_none h = let e = fuel_none n j h in (rw e, rw e)
