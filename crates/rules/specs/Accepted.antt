-- What the checks of an accepted fill say of its numbers. Assumes nothing.
use Rattle.std.specs.Prelude.{◌≡◌, refl, Bool, true, false, not, ◌&&◌, cond, List, [], ◌∷◌, ℕ, suc, ◌-◌, ◌≤◌, T, ltb, leb, pos, negsuc, length, drop, Float}
use Rattle.std.proofs.Common.{arith}
use Rattle.std.specs.Float.Ieee.{le}
use borrow.Author.Tests.{ltb-false, leb-true}
use Rattle.refusal.specs.Refusal.{DONE}
use Rattle.numbers.specs.Num.{◌⊕◌, ◌⊗◌, literal, half, real}
use Rattle.numbers.specs.Order.{finite, magnitude}
use Rattle.numbers.specs.Laws.{holds}
use Rattle.seqs.specs.Lists.{All}
use Rattle.seqs.specs.All.{all_take}
use Rattle.seqs.specs.Tests.{and_both}
use Rattle.geom.specs.declared.point.P.{P}
use Rattle.geom.specs.Outline.{points, cut, rings}
use Rattle.limits.specs.Limits.{largest, within, good_number, good_numbers, good_outline, good_spacing, good_len, good_inset, good_turn}
use Rattle.rules.specs.Alls.{all_drop}
use Rattle.rules.specs.declared.Settings.{Settings}
use Rattle.rules.specs.Fill.{edges, row_numbers, good_settings, gate}

-- not one of the table's 1 to 5
abbrev pub Accepted : List Float → List ℕ → Settings → ℕ → Type 0
Accepted corners ends g stagger = gate corners ends g stagger DONE ≡ DONE

-- at most 100,000 in size
abbrev pub Small : Float → Type 0
Small x = T (le (magnitude x) (largest))

abbrev pub Corner : P → Type 0
Corner p = Small p.x × Small p.y

-- ends included
pub record Range (lo hi x : Float) : Type 0 where
  pub least : T (le lo x)
  pub most : T (le x hi)

pub record Checked (outline : List (List P)) (g : Settings) (cyc : ℕ) : Type 0 where
  pub corners : All (All Corner) outline
  pub spacing : Range half (real (pos 1000)) g.spacing
  pub len : Range (real (pos 1)) (real (pos 1000)) g.len
  pub inset : Range (real (negsuc 99)) (real (pos 100)) g.inset
  pub pull : Range (real (negsuc 99)) (real (pos 100)) g.pull
  pub stagger : cyc ≤ 1000
  pub cosine : T (finite g.cosine)
  pub sine : T (finite g.sine)
  pub unit : Range (literal 999999 1000000) (literal 1000001 1000000) (g.cosine ⊗ g.cosine ⊕ g.sine ⊗ g.sine)
  pub rows : length (row_numbers g (edges g outline)) ≤ 4096

range : (lo hi x : Float) → within lo hi x ≡ true → Range lo hi x
unfolding within
range lo hi x e = let h = and_both (le lo x) (le x hi) e in record { least = holds h.0; most = holds h.1 }

-- a check that was passed
passed : (b : Bool) (n r : ℕ) → cond (not b) (suc n) r ≡ 0 → (b ≡ true) × (r ≡ 0)
passed true n r e = (refl, e)
passed false n r e = let z : ⊥ = omega arith in absurd z

few : (b : Bool) (n : ℕ) → cond b (suc n) 0 ≡ 0 → b ≡ false
few true n e = let z : ⊥ = omega arith in absurd z
few false n e = refl

all_numbers : (l : List Float) → good_numbers l ≡ true → All Small l
unfolding good_numbers good_number
all_numbers [] e = tt
all_numbers (x ∷ l) e =
    let h = and_both (finite x && le (magnitude x) largest) (good_numbers l) e in
    (holds (and_both (finite x) (le (magnitude x) largest) h.0).1, all_numbers l h.1)

all_points : (l : List Float) → All Small l → All Corner (points l)
unfolding points
all_points [] h = tt
all_points (x ∷ []) h = tt
all_points (x ∷ y ∷ l) h = ((h.0, h.1.0), all_points l h.1.1)

all_cut : (a : ℕ) (ends : List ℕ) (l : List P) → All Corner l → All (All Corner) (cut a ends l)
unfolding cut
all_cut a [] l h = tt
all_cut a (e ∷ es) l h = (all_take Corner (e - a) (drop a l) (all_drop Corner a l h), all_cut e es l h)

module _ (corners : List Float) (ends : List ℕ) (g : Settings) (stagger : ℕ) where
  pub laid_out : Accepted corners ends g stagger → good_outline corners ends ≡ true
  unfolding gate
  laid_out e = (passed (good_outline corners ends) 0 _ e).0

  pub checked : Accepted corners ends g stagger → Checked (rings corners ends) g stagger
  unfolding gate good_settings good_spacing good_len good_inset good_turn rings
  checked e =
      let one = passed (good_outline corners ends) 0 _ e in
      let two = passed (good_numbers corners) 1 _ one.1 in
      let three = passed (good_settings g stagger) 2 _ two.1 in
      let four = passed (good_turn g.cosine g.sine) 3 _ three.1 in
      let many = few (ltb 4096 (length (row_numbers g (edges g (rings corners ends))))) 4 four.1 in
      let w1 = within half (real (pos 1000)) g.spacing in
      let w2 = within (real (pos 1)) (real (pos 1000)) g.len in
      let w3 = within (real (negsuc 99)) (real (pos 100)) g.inset in
      let w4 = within (real (negsuc 99)) (real (pos 100)) g.pull in
      let s5 = and_both (w1 && w2 && w3 && w4) (leb stagger 1000) three.0 in
      let s4 = and_both (w1 && w2 && w3) w4 s5.0 in
      let s3 = and_both (w1 && w2) w3 s4.0 in
      let s2 = and_both w1 w2 s3.0 in
      let t3 = and_both (finite g.cosine && finite g.sine) (within (literal 999999 1000000) (literal 1000001 1000000) (g.cosine ⊗ g.cosine ⊕ g.sine ⊗ g.sine)) four.0 in
      let t2 = and_both (finite g.cosine) (finite g.sine) t3.0 in
      record {
        corners = all_cut 0 ends (points corners) (all_points corners (all_numbers corners two.0));
        spacing = range half (real (pos 1000)) g.spacing s2.0;
        len = range (real (pos 1)) (real (pos 1000)) g.len s2.1;
        inset = range (real (negsuc 99)) (real (pos 100)) g.inset s3.1;
        pull = range (real (negsuc 99)) (real (pos 100)) g.pull s4.1;
        stagger = leb-true stagger 1000 s5.1;
        cosine = holds t2.0;
        sine = holds t2.1;
        unit = range (literal 999999 1000000) (literal 1000001 1000000) (g.cosine ⊗ g.cosine ⊕ g.sine ⊗ g.sine) t3.1;
        rows = ltb-false 4096 (length (row_numbers g (edges g (rings corners ends)))) many;
      }
