-- The nearest crossing is the next of the row's crossings in their order, those of equal x taken as one. Assumes nothing.
use Rattle.std.specs.Prelude.{◌+◌, ◌^◌, ◌≤◌, ◌<◌, ◌≡◌, Bool, not, ◌&&◌, List, [], ◌∷◌, ◌++◌, ℤ, pos, negsuc, ◌+ℤ◌, length, T, Float, Option, Some}
use Rattle.std.proofs.Common.{arith, ◌∙◌, subst, true≢false, inl, inr}
use Rattle.std.proofs.Math.Path.{refl, sym, ap}
use Rattle.std.proofs.Math.Bool.{true, false, cond}
use Rattle.std.proofs.Math.IntN.{+ℤ_assoc}
use Rattle.std.specs.Float.{inf}
use Rattle.std.specs.Float.Ieee.{fits, le, lt, is_nan}
use Rattle.numbers.specs.Num.{◌⊕◌, ◌⊖◌, ◌⊗◌, literal}
use Rattle.numbers.specs.Order.{before, magnitude}
use Rattle.numbers.specs.FloatOrder.{le_lt_clash}
use Rattle.seqs.specs.Lists.{keep_if, sift, fold, All, Sorted}
use Rattle.seqs.specs.Each.{fold_append}
use Rattle.seqs.specs.Tests.{either}
use Rattle.seqs.specs.All.{all_map, all_sift, sorted_sift}
use Rattle.seqs.specs.Sift.{sift_pass, sift_all, sift_absorb}
use Rattle.rules.specs.declared.Edge.{Edge}
use Rattle.geom.specs.declared.point.P.{P}
use Rattle.rules.specs.Fill.{dir, edge_of, kept_side}
use Rattle.rules.proofs.Gathered.{Number, Numbers, less, more, same, rel, not_self, one_way, through, add, gathered}
use Rattle.rules.specs.Drawn.{crosses, cross_at, unsorted}
use Rattle.edges.specs.Table.{found}
use Rattle.sweep.specs.declared.piece.Crossing.{Crossing}
use Rattle.rowwise.specs.declared.crossing.Ask.{Ask}
use Rattle.rowwise.specs.Nearest.{none_yet, nearer, meet, between, behind, sides_behind, Inner, Clear}

-- ---- a side of a ring

module _ (q : Ask) (m : Crossing) (e : Edge) {s : Option Edge} (is : s ≡ Some e) where
  -- it crosses the row
  pub side_meets : {r : Crossing} → le e.y0 q.y ≡ true → lt q.y e.y1 ≡ true → r ≡ nearer q (e.x0 ⊕ (q.y ⊖ e.y0) ⊗ e.dxdy, cond e.falls (pos 1) (negsuc 0)) m → r ≡ fold (meet q) m (found s)
  unfolding dir
  side_meets a b h = rw (is, a, b) h

  -- it has ended, or has not begun
  pub side_ended : le e.y0 q.y ≡ true → lt q.y e.y1 ≡ false → m ≡ fold (meet q) m (found s)
  side_ended a b = rw (is, a, b)

  pub side_later : le e.y0 q.y ≡ false → m ≡ fold (meet q) m (found s)
  side_later a = rw (is, a)

-- ---- a side that the row does not pass through

below_not : (x y : Float) → lt y x ≡ true → le x y ≡ false
below_not x y h = go (le x y) refl
  where
    go : (b : Bool) → le x y ≡ b → b ≡ false
    go true e = absurd (le_lt_clash x y (subst T (sym e) tt) (subst T (sym h) tt))
    go false e = refl

module _ (q : Ask) (m : Crossing) where
  above : (e : Edge) → lt q.y e.y0 ≡ true → fold (meet q) m (e ∷ []) ≡ m
  above e h = rw (below_not e.y0 q.y h)

  under : (e : Edge) → lt q.y e.y1 ≡ false → fold (meet q) m (e ∷ []) ≡ m
  under e h = go (le e.y0 q.y)
    where
      go : (b : Bool) → cond (b && lt q.y e.y1) (nearer q (cross_at q.y e) m) m ≡ m
      go true = rw h
      go false = refl

  -- an edge begins at one of the two heights and ends at the other
  of_two : (a b : P) (u v : Bool) → lt q.y a.y ≡ u → lt q.y b.y ≡ v → cond u (not v) v ≡ false → (f : Bool) → fold (meet q) m (edge_of a b f ∷ []) ≡ m
  unfolding edge_of
  of_two a b true true eu ev h f = above (edge_of a b f) eu
  of_two a b false false eu ev h f = under (edge_of a b f) ev
  of_two a b true false eu ev h f = absurd (true≢false h)
  of_two a b false true eu ev h f = absurd (true≢false h)

  passed_by : (a b : P) → between q.y a.y b.y ≡ false → fold (meet q) m (kept_side (a, b)) ≡ m
  unfolding kept_side
  passed_by a b h = go (lt (magnitude (a.y ⊖ b.y)) (literal 1 (10 ^ 9))) (lt a.y b.y)
    where
      turned : (u v : Bool) → cond u (not v) v ≡ false → cond v (not u) u ≡ false
      turned true true h = refl
      turned true false h = absurd (true≢false h)
      turned false true h = absurd (true≢false h)
      turned false false h = refl

      go : (d r : Bool) → fold (meet q) m (cond d [] (cond r (edge_of a b true ∷ []) (edge_of b a false ∷ []))) ≡ m
      go true true = refl
      go true false = refl
      go false true = of_two a b (lt q.y a.y) (lt q.y b.y) refl refl h true
      go false false = of_two b a (lt q.y b.y) (lt q.y a.y) refl refl (turned (lt q.y a.y) (lt q.y b.y) h) false

  pub passed_over : (a b : P) (es : List Edge) → between q.y a.y b.y ≡ false → fold (meet q) m es ≡ fold (meet q) m (kept_side (a, b) ++ es)
  passed_over a b es h = sym (ap (λ n. fold (meet q) n es) (passed_by a b h)) ∙ sym (fold_append (meet q) m (kept_side (a, b)) es)

-- ---- gathered crossings rise strictly

module _ (P : Float → Type 0) where
  add_all : (x : Float) (d : ℤ) (l : List (Float × ℤ)) → P x → All (λ c. P c.0) l → All (λ c. P c.0) (add x d l)
  add_all x d [] h k = (h, tt)
  add_all x d (c ∷ l) h k = go (before x c.0) (before c.0 x) (add_all x d l h k.1)
    where
      go : (s t : Bool) → All (λ c. P c.0) (add x d l) → All (λ c. P c.0) (cond s ((x, d) ∷ c ∷ l) (cond t (c ∷ add x d l) ((x, d +ℤ c.1) ∷ l)))
      go true t r = (h, k)
      go false true r = (k.0, r)
      go false false r = (h, k.1)

  pub gathered_all : (cs : List (Float × ℤ)) → All (λ c. P c.0) cs → All (λ c. P c.0) (gathered cs)
  gathered_all [] h = tt
  gathered_all (c ∷ cs) h = add_all c.0 c.1 (gathered cs) h.0 (gathered_all cs h.1)

abbrev Rising : List (Float × ℤ) → Type 0
Rising l = Sorted (λ c e. before c.0 e.0 ≡ true) l

add_rising : (x : Float) (d : ℤ) (l : List (Float × ℤ)) → Number x → Numbers l → Rising l → Rising (add x d l)
add_rising x d [] h n r = (tt, tt)
add_rising x d (c ∷ l) h n r = elim (rel x c.0 h n.0) [
  | less p q ↦ rw p ((p, all_map (λ e t. through x c.0 e.0 p t) l r.0), r)
  | more p q ↦ rw (p, q) (add_all (λ z. before c.0 z ≡ true) x d l q r.0, add_rising x d l h n.1 r.1)
  | same e ↦ rw (e, not_self c.0) (r.0, r.1)
]

gathered_rising : (cs : List (Float × ℤ)) → Numbers cs → Rising (gathered cs)
gathered_rising [] h = tt
gathered_rising (c ∷ cs) h = add_rising c.0 c.1 (gathered cs) h.0 (gathered_all Number cs h.1) (gathered_rising cs h.1)

-- ---- those behind a

module _ (a : Float) where
  abbrev past : Float × ℤ → Bool
  past c = before a c.0

  sift_add : (x : Float) (d : ℤ) (l : List (Float × ℤ)) → Number x → Numbers l → before a x ≡ true → sift past (add x d l) ≡ add x d (sift past l)
  sift_add x d [] h n b = rw b
  sift_add x d (c ∷ l) h n b = elim (rel x c.0 h n.0) [
    | less p q ↦ simp (p, b, through a x c.0 b p)
    | more p q ↦ elim (either (before a c.0)) [
      | inl t ↦ simp (p, q, t) (ap (λ r. c ∷ r) (sift_add x d l h n.1 b))
      | inr t ↦ simp (p, q, t) (sift_add x d l h n.1 b)
    ]
    | same e ↦ let t : before a c.0 ≡ true = rw e at b in simp (e, t, not_self c.0)
  ]

  sift_drop : (x : Float) (d : ℤ) (l : List (Float × ℤ)) → Number x → Numbers l → before a x ≡ false → sift past (add x d l) ≡ sift past l
  sift_drop x d [] h n b = rw b
  sift_drop x d (c ∷ l) h n b = elim (rel x c.0 h n.0) [
    | less p q ↦ rw (p, b)
    | more p q ↦ rw (p, q) (ap (keep_if (before a c.0) c) (sift_drop x d l h n.1 b))
    | same e ↦ let t : before a c.0 ≡ false = rw e at b in simp (e, t, not_self c.0)
  ]

  gathered_sift : (cs : List (Float × ℤ)) → Numbers cs → gathered (sift past cs) ≡ sift past (gathered cs)
  gathered_sift [] h = refl
  gathered_sift (c ∷ cs) h = elim (either (before a c.0)) [
    | inl e ↦ rw e (ap (add c.0 c.1) (gathered_sift cs h.1) ∙ sym (sift_add c.0 c.1 (gathered cs) h.0 (gathered_all Number cs h.1) e))
    | inr e ↦ rw e (gathered_sift cs h.1 ∙ sym (sift_drop c.0 c.1 (gathered cs) h.0 (gathered_all Number cs h.1) e))
  ]

-- ---- the first of them

-- of two crossings the first; those of equal x as one
abbrev sooner : Float × ℤ → Float × ℤ → Float × ℤ
sooner c e = cond (before c.0 e.0) c (cond (before e.0 c.0) e (c.0, c.1 +ℤ e.1))

abbrev last : Float × ℤ
last = (inf false, pos 0)

abbrev first : List (Float × ℤ) → Float × ℤ
first [] = last
first (c ∷ l) = c

first_add : (x : Float) (d : ℤ) (l : List (Float × ℤ)) → before x (inf false) ≡ true → first (add x d l) ≡ sooner (x, d) (first l)
first_add x d [] h = rw h
first_add x d (c ∷ l) h = go (before x c.0) (before c.0 x)
  where
    go : (s t : Bool) → first (cond s ((x, d) ∷ c ∷ l) (cond t (c ∷ add x d l) ((x, d +ℤ c.1) ∷ l))) ≡ cond s (x, d) (cond t c (x, d +ℤ c.1))
    go true t = refl
    go false true = refl
    go false false = refl

-- the code's step: the new one before the nearest so far, or behind it, or one with it
abbrev closer : Float × ℤ → Float × ℤ → Float × ℤ
closer c m = cond (before c.0 m.0) c (cond (before m.0 c.0) m (m.0, m.1 +ℤ c.1))

closer_sooner : (c m e : Float × ℤ) → Number c.0 → Number m.0 → Number e.0 → sooner (closer c m) e ≡ sooner m (sooner c e)
closer_sooner c m e h k n = elim (rel c.0 m.0 h k) [
  | less p q ↦ elim (rel c.0 e.0 h n) [
    | less r s ↦ simp (p, q, r, s)
    | more r s ↦ let t = through e.0 c.0 m.0 s p in simp (p, q, r, s, t, one_way e.0 m.0 t)
    | same r ↦ simp (p, q, ← r, not_self c.0)
  ]
  | more p q ↦ elim (rel c.0 e.0 h n) [
    | less r s ↦ let t = through m.0 c.0 e.0 q r in simp (p, q, r, s, t)
    | more r s ↦ simp (p, q, r, s)
    | same r ↦ simp (p, q, ← r, not_self c.0)
  ]
  | same p ↦ elim (rel c.0 e.0 h n) [
    | less r s ↦ simp (← p, r, s, not_self c.0)
    | more r s ↦ simp (← p, r, s, not_self c.0)
    | same r ↦ simp (← p, ← r, not_self c.0) (ap (λ d. (c.0, d)) (+ℤ_assoc m.1 c.1 e.1))
  ]
]

-- ---- the scan over all crossings

module _ (q : Ask) where
  -- by edges, and by the crossings that they have
  by_crossings : (m : Crossing) (es : List Edge) → fold (meet q) m es ≡ fold (nearer q) m (unsorted q.y es)
  by_crossings m [] = refl
  by_crossings m (e ∷ es) = elim (either (crosses q.y e)) [ inl t ↦ rw t (by_crossings (nearer q (cross_at q.y e) m) es) | inr t ↦ rw t (by_crossings m es) ]

  -- those that were passed change nothing
  abbrev step : Float × ℤ → Crossing → Crossing
  step c m =
      cond (before c.0 m.x) (record { x = c.0; dir = c.1; next = q.at + 1 })
      (cond (before m.x c.0) m (record { x = m.x; dir = m.dir +ℤ c.1; next = m.next + 1 }))

  only_behind : (m : Crossing) (cs : List (Float × ℤ)) → fold (nearer q) m cs ≡ fold step m (sift (past q.after) cs)
  only_behind m [] = refl
  only_behind m (c ∷ cs) = elim (either (before q.after c.0)) [ inl t ↦ rw t (only_behind (step c m) cs) | inr t ↦ rw t (only_behind m cs) ]

  abbrev shown : Crossing → Float × ℤ
  shown m = (m.x, m.dir)

  step_closer : (c : Float × ℤ) (m : Crossing) → shown (step c m) ≡ closer c (shown m)
  step_closer c m = go (before c.0 m.x) (before m.x c.0)
    where
      go : (s t : Bool) → shown (cond s (record { x = c.0; dir = c.1; next = q.at + 1 }) (cond t m (record { x = m.x; dir = m.dir +ℤ c.1; next = m.next + 1 }))) ≡ cond s c (cond t (shown m) (m.x, m.dir +ℤ c.1))
      go true t = refl
      go false true = refl
      go false false = refl

  -- whichever of the two it is
  step_has : (P : Float → Type 0) (c : Float × ℤ) (m : Crossing) → P c.0 → P m.x → P (step c m).x
  step_has P c m h k = go (before c.0 m.x) (before m.x c.0)
    where
      go : (s t : Bool) → P (cond s (record { x = c.0; dir = c.1; next = q.at + 1 }) (cond t m (record { x = m.x; dir = m.dir +ℤ c.1; next = m.next + 1 }))).x
      go true t = h
      go false true = k
      go false false = k

  last_number : Number (inf false)
  unfolding fits is_nan
  last_number = (tt, tt)

  first_number : (l : List (Float × ℤ)) → Numbers l → Number (first l).0
  first_number [] h = last_number
  first_number (c ∷ l) h = h.0

  -- the scan finds the first
  scan_first : (m : Crossing) (cs : List (Float × ℤ)) → Number m.x → before m.x (inf false) ≡ true → All (λ c. Inner c.0) cs → shown (fold step m cs) ≡ sooner (shown m) (first (gathered cs))
  scan_first m [] h b k = rw b
  scan_first m (c ∷ cs) h b k =
      let f = first (gathered cs) in
      scan_first (step c m) cs (step_has Number c m k.0.0 h) (step_has (λ x. before x (inf false) ≡ true) c m k.0.2 b) k.1
      ∙ ap (λ s. sooner s f) (step_closer c m)
      ∙ closer_sooner c (shown m) f k.0.0 h (first_number (gathered cs) (gathered_all Number cs (all_map (λ c h. h.0) cs k.1)))
      ∙ ap (sooner (shown m)) (sym (first_add c.0 c.1 (gathered cs) k.0.2))

  -- a side is passed with it
  scan_on : (m : Crossing) (cs : List (Float × ℤ)) → q.at < m.next → q.at < (fold step m cs).next
  scan_on m [] h = h
  scan_on m (c ∷ cs) h = scan_on (step c m) cs (go (before c.0 m.x) (before m.x c.0))
    where
      go : (s t : Bool) → q.at < (cond s (record { x = c.0; dir = c.1; next = q.at + 1 }) (cond t m (record { x = m.x; dir = m.dir +ℤ c.1; next = m.next + 1 }))).next
      go true t = omega arith
      go false true = h
      go false false = omega arith

  step_new : (c : Float × ℤ) (m : Crossing) → before c.0 m.x ≡ true → step c m ≡ record { x = c.0; dir = c.1; next = q.at + 1 }
  step_new c m p = rw p

  step_old : (c : Float × ℤ) (m : Crossing) → before c.0 m.x ≡ false → before m.x c.0 ≡ true → step c m ≡ m
  step_old c m p s = rw (p, s)

  step_one : (c : Float × ℤ) (m : Crossing) → c.0 ≡ m.x → step c m ≡ record { x = m.x; dir = m.dir +ℤ c.1; next = m.next + 1 }
  step_one c m e = rw (e, not_self m.x)

  -- no side is passed twice: n of the crossings cs, to the m's
  abbrev Counted : Crossing → List (Float × ℤ) → Crossing → Type 0
  Counted m cs r = r.next + length (sift (past r.x) cs) ≤ cond (before r.x m.x) q.at m.next + length cs

  scan_count : (m : Crossing) (cs : List (Float × ℤ)) → Number m.x → Numbers cs → q.at ≤ m.next → Counted m cs (fold step m cs)
  scan_count m [] h k l = rw (not_self m.x) (omega arith)
  scan_count m (c ∷ cs) h k l = elim (rel c.0 m.x k.0 h) [
    | less p s ↦
        let n : Crossing = record { x = c.0; dir = c.1; next = q.at + 1 } in
        subst (λ n. Counted m (c ∷ cs) (fold step n cs)) (sym (step_new c m p)) (new (fold step n cs) p (scan_count n cs k.0 k.1 (omega arith)))
    | more p s ↦ subst (λ n. Counted m (c ∷ cs) (fold step n cs)) (sym (step_old c m p s)) (old (fold step m cs) (scan_count m cs h k.1 l))
    | same e ↦
        let n : Crossing = record { x = m.x; dir = m.dir +ℤ c.1; next = m.next + 1 } in
        subst (λ n. Counted m (c ∷ cs) (fold step n cs)) (sym (step_one c m e)) (one (fold step n cs) e (scan_count n cs h k.1 (omega arith)))
  ]
    where
      low : (b : Bool) → q.at ≤ cond b q.at m.next
      low true = omega arith
      low false = l

      new : (r : Crossing) → before c.0 m.x ≡ true → Counted (record { x = c.0; dir = c.1; next = q.at + 1 }) cs r → Counted m (c ∷ cs) r
      new r p h = elim (either (before r.x c.0)) [
        | inl t ↦ rw (t, through r.x c.0 m.x t p) (omega (arith, rw t at h))
        | inr t ↦ rw t (omega (arith, rw t at h, low (before r.x m.x)))
      ]

      old : (r : Crossing) → Counted m cs r → Counted m (c ∷ cs) r
      old r h = elim (either (before r.x c.0)) [ inl t ↦ rw t (omega (arith, h)) | inr t ↦ rw t (omega (arith, h)) ]

      one : (r : Crossing) → c.0 ≡ m.x → Counted (record { x = m.x; dir = m.dir +ℤ c.1; next = m.next + 1 }) cs r → Counted m (c ∷ cs) r
      one r e h = elim (either (before r.x m.x)) [ inl t ↦ rw (e, t) (omega (arith, rw t at h)) | inr t ↦ rw (e, t) (omega (arith, rw t at h)) ]

-- ---- the crossings behind one

abbrev rest : List (Float × ℤ) → List (Float × ℤ)
rest [] = []
rest (c ∷ l) = l

some_first : (x : Float) (d : ℤ) (l : List (Float × ℤ)) → add x d l ≡ first (add x d l) ∷ rest (add x d l)
some_first x d [] = refl
some_first x d (c ∷ l) = go (before x c.0) (before c.0 x)
  where
    go : (s t : Bool) → let m = cond s ((x, d) ∷ c ∷ l) (cond t (c ∷ add x d l) ((x, d +ℤ c.1) ∷ l)) in m ≡ first m ∷ rest m
    go true t = refl
    go false true = refl
    go false false = refl

tail_behind : (a : Float) (cs : List (Float × ℤ)) → Numbers cs → (f : Float × ℤ) (t : List (Float × ℤ)) → sift (past a) (gathered cs) ≡ f ∷ t → t ≡ sift (past f.0) (gathered cs)
tail_behind a cs h f t e =
    let up : Rising (f ∷ t) = subst Rising e (sorted_sift (λ c e. before c.0 e.0 ≡ true) (past a) (gathered cs) (gathered_rising cs h)) in
    let on : All (λ c. before a c.0 ≡ true) (f ∷ t) = subst (All (λ c. before a c.0 ≡ true)) e (sift_pass (past a) (gathered cs)) in
    let own : sift (past f.0) (f ∷ t) ≡ t = rw (not_self f.0) (sift_all (past f.0) t up.0) in
    sym own ∙ ap (sift (past f.0)) (sym e) ∙ sift_absorb (past a) (past f.0) (λ c b. through a f.0 c.0 on.0 b) (gathered cs)

module _ (q : Ask) (es : List Edge) (clear : Clear q.y es) {r : Crossing} (is : r ≡ fold (meet q) (none_yet q.at) es) where
  abbrev cs : List (Float × ℤ)
  cs = unsorted q.y es

  numbers : Numbers cs
  numbers = all_map (λ c h. h.0) cs clear.inner

  scanned : r ≡ fold (step q) (none_yet q.at) (sift (past q.after) cs)
  scanned = is ∙ by_crossings q (none_yet q.at) es ∙ only_behind q (none_yet q.at) cs

  is_behind : behind q.y es q.after ≡ gathered (sift (past q.after) cs)
  unfolding behind
  is_behind = sym (gathered_sift q.after cs numbers)

  -- no side is passed: there is none left
  pub nearest_none : r.next ≡ q.at → behind q.y es q.after ≡ []
  nearest_none z = go (sift (past q.after) cs) refl (all_sift (λ c. Inner c.0) (past q.after) cs clear.inner)
    where
      go : (l : List (Float × ℤ)) → sift (past q.after) cs ≡ l → All (λ c. Inner c.0) l → behind q.y es q.after ≡ []
      go [] e h = is_behind ∙ ap gathered e
      go (c ∷ l) e h =
          let n : Crossing = record { x = c.0; dir = c.1; next = q.at + 1 } in
          let s : r ≡ fold (step q) n l = scanned ∙ ap (fold (step q) (none_yet q.at)) e ∙ ap (λ n. fold (step q) n l) (step_new q c (none_yet q.at) h.0.2) in
          absurd (omega (arith, scan_on q n l (omega arith), ap (λ (m : Crossing). m.next) s))

  next_is : q.at < r.next → sift (past q.after) (gathered cs) ≡ (r.x, r.dir) ∷ rest (gathered (sift (past q.after) cs))
  next_is z = go (sift (past q.after) cs) refl (all_sift (λ c. Inner c.0) (past q.after) cs clear.inner)
    where
      go : (l : List (Float × ℤ)) → sift (past q.after) cs ≡ l → All (λ c. Inner c.0) l → sift (past q.after) (gathered cs) ≡ (r.x, r.dir) ∷ rest (gathered (sift (past q.after) cs))
      go [] e h = absurd (omega (arith, z, ap (λ (m : Crossing). m.next) (scanned ∙ ap (fold (step q) (none_yet q.at)) e)))
      go (c ∷ l) e h =
          let n : Crossing = record { x = c.0; dir = c.1; next = q.at + 1 } in
          let s : r ≡ fold (step q) n l = scanned ∙ ap (fold (step q) (none_yet q.at)) e ∙ ap (λ n. fold (step q) n l) (step_new q c (none_yet q.at) h.0.2) in
          let f : (r.x, r.dir) ≡ first (gathered (c ∷ l)) = ap (shown q) s ∙ scan_first q n l h.0.0 h.0.2 h.1 ∙ sym (first_add c.0 c.1 (gathered l) h.0.2) in
          sym (gathered_sift q.after cs numbers) ∙ ap gathered e ∙ some_first c.0 c.1 (gathered l) ∙ sym (λ i. f i ∷ rest (gathered (e i)))

  -- a side is passed: it is the next, and behind it there are fewer sides
  module _ (z : q.at < r.next) where
    pub nearest_next : behind q.y es q.after ≡ (r.x, r.dir) ∷ behind q.y es r.x
    unfolding behind
    nearest_next = next_is z ∙ ap (λ t. (r.x, r.dir) ∷ t) (tail_behind q.after cs numbers (r.x, r.dir) (rest (gathered (sift (past q.after) cs))) (next_is z))

    farther : before q.after r.x ≡ true
    farther = (subst (All (λ c. before q.after c.0 ≡ true)) (next_is z) (sift_pass (past q.after) (gathered cs))).0

    pub nearest_fewer : r.next + sides_behind q.y es r.x ≤ q.at + sides_behind q.y es q.after
    unfolding sides_behind
    nearest_fewer =
        let l = sift (past q.after) cs in
        let k = scan_count q (none_yet q.at) l (last_number q) (all_sift (λ c. Number c.0) (past q.after) cs numbers) (omega arith) in
        let s = sift_absorb (past q.after) (past r.x) (λ c b. through q.after r.x c.0 farther b) cs in
        omega (arith, rw (← scanned, s) at k, both (before r.x (inf false)))
      where
        both : (b : Bool) → cond b q.at q.at ≡ q.at
        both true = refl
        both false = refl
