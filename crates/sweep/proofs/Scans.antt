-- The turns of a scan over a row's places. Assumes nothing.
use Prim.Native.Nat.{ℕ, ◌+◌, ◌-◌, ◌≤◌, ◌<◌}
use mathlib.Core.Path.{◌≡◌, sym, ap, ◌∙◌}
use native.Mathlib.Omega.{arith}
use mathlib.Core.Bool.{Bool, true, false, cond, not, ◌&&◌}
use mathlib.Core.List.{List, [], ◌∷◌, map}
use lib.IntN.{ℤ, pos, negsuc, ◌+ℤ◌}
use lib.ListN.{length, take, drop, get_or, length-drop}
use Rattle.std.proofs.lemmas.List.{get_or-drop}
use Rattle.seqs.specs.Parts.{tail_lent}
use lib.Ieee.{Float}
use Rattle.numbers.specs.Num.{◌⊕◌, ◌⊖◌, ◌⊗◌}
use Rattle.seqs.specs.Lists.{keep_if}
use Rattle.seqs.specs.Front.{next, none}
use Rattle.outlines.specs.Inside.{inside}
use Rattle.rules.specs.declared.Edge.{Edge}
use Rattle.rules.specs.Fill.{edge, cross_x, dir, crossing, same_x, merged_from, merged, crossings}
use Rattle.sweep.specs.declared.piece.Cut.{Cut}
use Rattle.sweep.specs.declared.piece.Span.{Span}
use Rattle.sweep.specs.declared.piece.Crossing.{Crossing}
use Rattle.sweep.specs.declared.piece.Scan.{Scan}
use Rattle.sweep.specs.SweptLaws.{cuts_next, cuts_none}
use Rattle.sweep.specs.Swept.{Crossed, cut_ends, wide_span, cuts_from, rest_of, passed}

-- the places behind `at`, as they are lent
module _ (l : List ℕ) (at i : ℕ) {next : ℕ} (is : next ≡ at + 1 + i) where
  pub lent_read : get_or (take (length l - (at + 1)) (drop (at + 1) l)) i 0 ≡ get_or l next 0
  lent_read = rw (tail_lent l [] (at + 1)) (get_or-drop (at + 1) l i 0 ∙ ap (λ k. get_or l k 0) (sym is))

  pub lent_in : i < length (take (length l - (at + 1)) (drop (at + 1) l)) → next < length l
  lent_in h = let t = rw (tail_lent l [] (at + 1)) at h in omega (arith, length-drop (at + 1) l)

  pub lent_all : at < length l → length (take (length l - (at + 1)) (drop (at + 1) l)) ≤ i → length l ≤ next
  lent_all k h = let t = rw (tail_lent l [] (at + 1)) at h in omega (arith, length-drop (at + 1) l)

-- a crossing at x of direction d is merged with those from place i on
module _ (es : List Edge) (y : Float) (l : List ℕ) where
  abbrev pub merged_at : Float → ℤ → ℕ → List (Float × ℤ)
  merged_at x d i = merged_from x d (map (crossing es y) (drop i l))

  pub merge_first : (i : ℕ) {t : Edge} → i < length l → t ≡ edge es (get_or l i 0)
      → crossings es y (drop i l) ≡ merged_at (t.x0 ⊕ (y ⊖ t.y0) ⊗ t.dxdy) (cond t.falls (pos 1) (negsuc 0)) (i + 1)
  unfolding crossings merged crossing cross_x dir
  merge_first i h e = rw (next l i 0 h, e)

  module _ (x : Float) (d : ℤ) (i : ℕ) {t : Edge} (h : i < length l) (e : t ≡ edge es (get_or l i 0)) where
    pub merge_same : same_x x (t.x0 ⊕ (y ⊖ t.y0) ⊗ t.dxdy) ≡ true → merged_at x d i ≡ merged_at x (d +ℤ cond t.falls (pos 1) (negsuc 0)) (i + 1)
    unfolding merged_from crossing cross_x dir
    merge_same s = rw (next l i 0 h, ← e, s)

    pub merge_other : same_x x (t.x0 ⊕ (y ⊖ t.y0) ⊗ t.dxdy) ≡ false → merged_at x d i ≡ (x, d) ∷ crossings es y (drop i l)
    unfolding merged_from crossings merged crossing cross_x dir
    merge_other s = rw (next l i 0 h, ← e, s)

  pub merge_none : (x : Float) (d : ℤ) (i : ℕ) → length l ≤ i → merged_at x d i ≡ (x, d) ∷ crossings es y (drop i l)
  unfolding merged_from crossings merged
  merge_none x d i h = rw (none l i h)

module _ (c : Cut) (es : List Edge) (l : List ℕ) (s : Scan) where
  -- the scan past the next crossing x, and the piece that may end there
  rest_next : (x : Crossing) → Crossed es c.y l s.at x
      → let t = passed c s x in
      let q = cut_ends c (t.start, x.x) in
      rest_of c es l s ≡ keep_if ((inside c.rule s.w && not (inside c.rule t.w)) && wide_span c q) q (rest_of c es l t)
  unfolding cuts_from
  rest_next x h = rw h.is (cuts_next c s.w s.start x.x x.dir (crossings es c.y (drop x.next l)))

  pub rest_none : length l ≤ s.at → rest_of c es l s ≡ []
  unfolding cuts_from crossings merged
  rest_none h = rw (none l s.at h) (cuts_none c s.w s.start)

  -- what the calls of a turn ensure, put together
  pub scan_turn : {x : Crossing} {ends : Bool} {s' : Scan} {q : Span} → Crossed es c.y l s.at x
      → s' ≡ passed c s x → q ≡ cut_ends c (s'.start, x.x)
      → ends ≡ ((inside c.rule s.w && not (inside c.rule s'.w)) && wide_span c q)
      → rest_of c es l s ≡ keep_if ends q (rest_of c es l s')
  scan_turn {x} h e1 e2 e3 = rw (e3, e2, e1) (rest_next x h)
