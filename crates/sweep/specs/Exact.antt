-- Mission, demand 3, of every fill that is accepted: the pieces that the code's sweep finds, down or up, are those of each row taken alone.
-- Assumes nothing.
use Rattle.std.specs.Prelude.{◌≡◌, Bool, not, cond, ℕ, zero, suc, ◌+◌, ◌-◌, ◌^◌, pos, ◌+ℤ◌, ◌-ℤ◌, length, Float}
use Rattle.std.proofs.Math.Path.{ap, subst}
use Rattle.std.proofs.Common.{◌∙◌}
use Rattle.std.proofs.Math.Bool.{true, false}
use mathlib.Core.List.{List, [], ◌∷◌, map, append-nil, Permᴰ, IsChain}
use Rattle.std.proofs.Math.Dec.{T}
use Rattle.std.specs.Float.Ieee.{nan, binary64, neg, le, lt, fits, is_nan}
use Rattle.std.specs.Float.{inf, fin}
use Rattle.std.specs.Float.Ieee.Fits.{add-fits, neg-fits}
use Rattle.numbers.specs.Num.{◌⊖◌, literal}
use Rattle.numbers.specs.Order.{before, magnitude}
use Rattle.numbers.specs.FloatOrder.{neg_le}
use Rattle.numbers.specs.Laws.{neg_neg}
use Rattle.seqs.specs.Lists.{each, fold, insert_back, by_key, upto, All, Sorted, Strict}
use Rattle.seqs.specs.All.{all_map, all_append, sorted_map}
use Rattle.seqs.specs.Each.{each_map}
use Rattle.seqs.specs.Sort.{backs_perm, backs_sort}
use Rattle.seqs.specs.ByKey.{by_key_strict}
use Rattle.geom.specs.declared.point.P.{P}
use Rattle.outlines.specs.declared.rule.FillRule.{FillRule}
use Rattle.geom.specs.Outline.{rings}
use Rattle.rules.specs.declared.Settings.{Settings}
use Rattle.rules.specs.declared.Edge.{Edge}
use Rattle.rules.specs.Fill.{edge_of, kept_side, sides, turned, edges, edge, no_edge, row_at, row_numbers, pieces_of, met}
use Rattle.rules.specs.Alls.{all_get, all_parts, all_reverse}
use Rattle.rules.specs.Accepted.{Accepted, Checked, checked}
use Rattle.rules.specs.Edges.{within_number, edges_good, sides_all}
use Rattle.rules.specs.Rows.{Fair, rows_fair, rows_fall, rows_strict}
use Rattle.rules.specs.Keys.{keyed, sorted_up}
use Rattle.edges.specs.declared.rows.Rows.{Rows}
use Rattle.edges.specs.Span.{rows_of, row_number}
use Rattle.sweep.specs.declared.key.Key.TheVariants.{Top, Bottom}
use Rattle.sweep.specs.Swept.{key_of, by, ordered, waiting, numbers, swept_all}
use Rattle.sweep.specs.Met.{numbers_met, number_on, number_back}
use Rattle.sweep.specs.Alone.{onward, sooner, swept_alone}

-- ---- places in order of keys that are numbers

keys_rise : (key : ℕ → Float) → ((i : ℕ) → T (fits binary64 (key i))) → ((i : ℕ) → T (not (is_nan (key i)))) → (l : List ℕ) → Sorted (λ i j. T (le (key i) (key j))) (fold (insert_back (by_key before key)) [] l)
keys_rise key fit number l = rw (backs_sort (by_key before key) (by_key_strict before key (keyed key fit number)) l) (sorted_up key fit number l)

-- ---- a turned corner's y is an f64, and so is an edge's y1

abbrev Fit : P → Type 0
Fit p = T (fits binary64 p.y)

turned_fit : (g : Settings) (ring : List P) → All Fit (turned g ring)
unfolding turned
turned_fit g [] = tt
turned_fit g (p ∷ ring) = (add-fits binary64 _ _, turned_fit g ring)

abbrev Ends : Edge → Type 0
Ends e = T (fits binary64 e.y0) × T (fits binary64 e.y1)

kept_fit : (ab : P × P) → Fit ab.0 × Fit ab.1 → All Ends (kept_side ab)
unfolding kept_side edge_of
kept_fit (a, b) h = two (lt (magnitude (a.y ⊖ b.y)) (literal 1 (10 ^ 9))) (lt a.y b.y)
  where
    two : (s t : Bool) → All Ends (cond s [] (cond t (edge_of a b true ∷ []) (edge_of b a false ∷ [])))
    two true t = tt
    two false true = (h, tt)
    two false false = ((h.1, h.0), tt)

edges_fit : (g : Settings) (outline : List (List P)) → All Ends (edges g outline)
unfolding edges
edges_fit g [] = tt
edges_fit g (ring ∷ outline) =
    all_append Ends (each kept_side (sides (turned g ring))) (edges g outline)
    (all_parts (λ ab. Fit ab.0 × Fit ab.1) Ends kept_side kept_fit (sides (turned g ring)) (sides_all Fit (turned g ring) (turned_fit g ring)))
    (edges_fit g outline)

-- ---- an accepted fill

module _ (outline : List (List P)) (g : Settings) (cyc : ℕ) (ok : Checked outline g cyc) where
  abbrev es : List Edge
  es = edges g outline

  number : (i : ℕ) → T (not (is_nan (edge es i).y0)) × T (not (is_nan (edge es i).y1))
  unfolding is_nan
  number i = all_get (λ e. T (not (is_nan e.y0)) × T (not (is_nan e.y1))) no_edge (tt, tt) es (all_map (λ e h. (within_number 19 e.y0 h.y0, within_number 19 e.y1 h.y1)) es (edges_good outline g cyc ok)) i

  fit : (i : ℕ) → Ends (edge es i)
  unfolding fits
  fit i = all_get Ends no_edge (tt, tt) es (edges_fit g outline) i

  neg_number : (x : Float) → T (not (is_nan x)) → T (not (is_nan (neg x)))
  unfolding is_nan neg
  neg_number nan h = h
  neg_number (inf s) h = tt
  neg_number (fin s m e) h = tt

  waits_strict : (upward : Bool) → Strict (by (cond upward Bottom Top) es)
  waits_strict true = by_key_strict before (key_of Bottom es) (keyed (key_of Bottom es) (λ i. neg-fits binary64 (edge es i).y1 (fit i).1) (λ i. neg_number (edge es i).y1 (number i).1))
  waits_strict false = by_key_strict before (key_of Top es) (keyed (key_of Top es) (λ i. (fit i).0) (λ i. (number i).0))

  in_order : (upward : Bool) → Sorted (λ i j. T (sooner upward es i j)) (waiting upward es)
  unfolding waiting ordered
  in_order true =
      sorted_map (λ i j h. subst T (λ t. le (neg_neg (edge es j).y1 t) (neg_neg (edge es i).y1 t)) (neg_le (neg (edge es i).y1) (neg (edge es j).y1) h)) (fold (insert_back (by Bottom es)) [] (upto 0 (length es)))
      (keys_rise (key_of Bottom es) (λ i. neg-fits binary64 (edge es i).y1 (fit i).1) (λ i. neg_number (edge es i).y1 (number i).1) (upto 0 (length es)))
  in_order false = keys_rise (key_of Top es) (λ i. (fit i).0) (λ i. (number i).0) (upto 0 (length es))

  all_places : (upward : Bool) → Permᴰ (waiting upward es) (upto 0 (length es))
  unfolding waiting ordered
  all_places upward = rw append-nil at (backs_perm (by (cond upward Bottom Top) es) [] (upto 0 (length es)))

  -- rows one after the other go one way
  step : (w : Rows) (upward : Bool) (j : ℕ) → Fair (row_number w upward j) → Fair (row_number w upward (j + 1)) → T (onward upward (row_at g (row_number w upward j)) (row_at g (row_number w upward (j + 1))))
  step w true j h k = rw (number_back w.hi j) (rows_fall outline g cyc ok (w.hi -ℤ pos (j + 1)) k (rw (number_back w.hi j) at h))
  step w false j h k = rw (number_on w.lo j) (rows_fall outline g cyc ok (w.lo +ℤ pos j) h (rw (number_on w.lo j) at k))

  chain : (w : Rows) (upward : Bool) (i n : ℕ) → All Fair (map (row_number w upward) (upto i n)) → IsChain (λ a b. T (onward upward (row_at g a) (row_at g b))) (map (row_number w upward) (upto i n))
  chain w upward i zero h = IsChain.nil
  chain w upward i (suc zero) h = IsChain.singleton (row_number w upward i)
  chain w upward i (suc (suc n)) h = IsChain.cons-cons (step w upward i h.0 h.1.0) (chain w upward (i + 1) (suc n) h.1)

  met_fair : (upward : Bool) → All Fair (met upward (row_numbers g es))
  unfolding met
  met_fair true = all_reverse Fair (row_numbers g es) (rows_fair outline g cyc ok)
  met_fair false = rows_fair outline g cyc ok

  fair : (upward : Bool) → All Fair (numbers (rows_of g es) upward 0)
  fair upward = rw (numbers_met g es upward ok.rows) (met_fair upward)

  pub swept_exact : (rule : FillRule) (upward : Bool) → swept_all upward rule g es (numbers (rows_of g es) upward 0) ≡ map (pieces_of rule g es) (met upward (row_numbers g es))
  unfolding swept_all numbers
  swept_exact rule upward =
      swept_alone upward rule g es Fair (rows_strict outline g cyc ok) (waiting upward es) (all_places upward) (in_order upward) (numbers (rows_of g es) upward 0) (fair upward)
      (chain (rows_of g es) upward 0 ((rows_of g es).n - 0) (fair upward))
      ∙ ap (map (pieces_of rule g es)) (numbers_met g es upward ok.rows)

-- the places that wait have a strict order
pub sweep_strict : (corners : List Float) (ends : List ℕ) (g : Settings) (stagger : ℕ) → Accepted corners ends g stagger → (upward : Bool) → Strict (by (cond upward Bottom Top) (edges g (rings corners ends)))
sweep_strict corners ends g stagger accepted upward = waits_strict (rings corners ends) g stagger (checked corners ends g stagger accepted) upward

module _ (corners : List Float) (ends : List ℕ) (g : Settings) (stagger : ℕ) (accepted : Accepted corners ends g stagger) (rule : FillRule) (upward : Bool) where
  -- row by row
  pub sweep_exact : swept_all upward rule g (edges g (rings corners ends)) (numbers (rows_of g (edges g (rings corners ends))) upward 0) ≡ map (pieces_of rule g (edges g (rings corners ends))) (met upward (row_numbers g (edges g (rings corners ends))))
  sweep_exact = swept_exact (rings corners ends) g stagger (checked corners ends g stagger accepted) rule upward

  -- all pieces in the order met
  pub pieces_exact :
      each (λ r. r) (swept_all upward rule g (edges g (rings corners ends)) (numbers (rows_of g (edges g (rings corners ends))) upward 0))
      ≡ each (pieces_of rule g (edges g (rings corners ends))) (met upward (row_numbers g (edges g (rings corners ends))))
  pieces_exact = ap (each (λ r. r)) sweep_exact ∙ each_map (pieces_of rule g (edges g (rings corners ends))) (met upward (row_numbers g (edges g (rings corners ends))))
