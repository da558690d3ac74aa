-- Places in the order of keys that are numbers. Assumes nothing.
use Rattle.std.specs.Prelude.{◌≡◌, refl, Bool, true, false, not, cond, List, ℕ, T, leb, Float}
use Rattle.std.proofs.Common.{subst, ⊎_elim}
use Rattle.std.specs.Float.{binary64}
use Rattle.std.specs.Float.Ieee.{fits, le, is_nan}
use Rattle.numbers.specs.Order.{before}
use Rattle.numbers.specs.Laws.{before_asym, before_trans, before_total, not_before_le, holds}
use Rattle.seqs.specs.Lists.{by_key, sort_by, Sorted, Keyed}
use Rattle.seqs.specs.Tests.{is_true, refute, clash}
use Rattle.seqs.specs.All.{sorted_map}
use Rattle.seqs.specs.ByKey.{by_key_strict}
use Rattle.seqs.specs.Sort.{sort_ordered}

module _ (key : ℕ → Float) (fit : (i : ℕ) → T (fits binary64 (key i))) (number : (i : ℕ) → T (not (is_nan (key i)))) where
  -- `before` orders them
  pub keyed : Keyed before key
  keyed = record {
    one_way = λ i j e. refute (before (key j) (key i)) (λ d. absurd (before_asym (key i) (key j) (holds e) (holds d)));
    trans = λ i j k d e. is_true (before (key i) (key k)) (before_trans (key i) (key j) (key k) (holds d) (holds e));
    level = λ i j d e. ⊎_elim (λ h. absurd (subst T d h)) (λ r. ⊎_elim (λ h. absurd (subst T e h)) (λ q. q) r) (before_total (key i) (key j) (fit i) (fit j) (number i) (number j));
  }

  not_behind : (i j : ℕ) → by_key before key i j ≡ true → before (key j) (key i) ≡ false
  not_behind i j = go (before (key i) (key j)) (before (key j) (key i)) (keyed.one_way i j)
    where
      go : (s t : Bool) → (s ≡ true → t ≡ false) → cond s true (cond t false (leb i j)) ≡ true → t ≡ false
      go true t f e = f refl
      go false true f e = clash e refl
      go false false f e = refl

  -- sorted by it, none is before an earlier one
  pub sorted_before : (l : List ℕ) → Sorted (λ i j. before (key j) (key i) ≡ false) (sort_by (by_key before key) l)
  sorted_before l =
      let o = by_key_strict before key keyed in
      sorted_map not_behind (sort_by (by_key before key) l) (sort_ordered (by_key before key) o.total o.trans l)

  -- and they never fall
  pub sorted_up : (l : List ℕ) → Sorted (λ i j. T (le (key i) (key j))) (sort_by (by_key before key) l)
  sorted_up l = sorted_map (λ i j e. not_before_le (key i) (key j) (number i) (number j) (λ d. clash (is_true (before (key j) (key i)) d) e)) (sort_by (by_key before key) l) (sorted_before l)
