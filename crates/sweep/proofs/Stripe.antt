-- The stripe of places through a row. Assumes nothing.
use Rattle.std.specs.Prelude.{ℕ, ◌≤◌, ◌≡◌, Bool, List, ◌++◌, length, take, drop, Float}
use Rattle.std.proofs.Common.{arith, ap, ◌∙◌, length-take-le}
use Rattle.seqs.specs.Reads.{drop_on}
use Rattle.seqs.specs.Parts.{head_size, head_is, head_later}
use Rattle.rules.specs.declared.Edge.{Edge}
use Rattle.sweep.specs.declared.key.Key.TheVariants.{X}
use Rattle.sweep.specs.declared.active.Live.{Live}
use Rattle.sweep.specs.Swept.{ordered, enters, stays, places, Retained, Admitted, Gathered}
use Rattle.sweep.specs.SweptLaws.{ordered_length}

module _ (upward : Bool) (es : List Edge) (y : Float) (live : Live) {r : ℕ} {d d1 d2 s : List ℕ} {l : Live} (le : live.m ≤ live.next)
    (one : Retained (stays upward es y) live.m d d1 r) (two : Admitted (stays upward es y) (enters upward es y) r live.next d1 d2 l) (sorted : s ≡ ordered (X y) es (take l.m d2)) where
  -- those that wait still stand
  still : drop live.next d1 ≡ drop live.next d
  still = drop_on d1 d live.m live.next le one.later

  fits : l.m ≤ length d2
  fits = omega (arith, two.few, two.on, two.size)

  count : length s ≡ l.m
  count = ap length sorted ∙ ordered_length (X y) es (take l.m d2) ∙ length-take-le l.m d2 fits

  pub gathered : Gathered upward es y live d (s ++ drop l.m d2) l
  unfolding places
  gathered = record {
    size = head_size d2 s l.m fits count ∙ two.size ∙ one.size;
    few = two.few;
    on = omega (arith, two.on, one.size);
    active = head_is d2 s l.m fits count ∙ sorted ∙ rw (two.active, one.active, still);
    waits = head_later d2 s l.m fits count l.next two.few ∙ two.waits ∙ rw still;
  }
