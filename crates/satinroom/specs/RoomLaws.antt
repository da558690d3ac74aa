-- What the tests on the way make of the room. Assumes nothing.
use Rattle.std.specs.Prelude.{ℕ, ◌≡◌, true, false, List, [], ◌∷◌, ◌++◌, Float}
use Rattle.std.proofs.Math.Path.{ap}
use Rattle.std.proofs.Common.{◌∙◌, arith, max}
use Rattle.std.proofs.lemmas.Bool.Decides.{nat_tests}
use borrow.Author.Tests.{ne_eqb}
use Rattle.refusal.specs.Refusal.{DONE}
use Rattle.seqs.specs.Each.{fold_append}
use Rattle.geom.specs.declared.point.P.{P}
use Rattle.geom.specs.Outline.{points}
use Rattle.satinrules.specs.declared.Satin.{Satin}
use Rattle.satinrules.specs.Settings.{zigzag_underlay_spacing}
use Rattle.satinrules.specs.Pairs.{ends_of, few, count_of}
use Rattle.satinrules.specs.Column.{only_if, bit, spacing_of}
use Rattle.satinrules.specs.Calls.{rails_of, underlay_steps, top_steps, pass_steps, most}
use Rattle.satin.specs.Underlay.{runs}
use Rattle.satinroom.specs.Room.{Room, room, largest_from, room_for, room_after}

pub most_max : (m n : ℕ) → max m n ≡ most m n
most_max m n = grind (arith, nat_tests)

module _ (ends : P) (sync : List P) where
  -- one pass after the other
  largest_then : (m : ℕ) (ss ts : List Float) → largest_from ends sync m (ss ++ ts) ≡ largest_from ends sync (largest_from ends sync m ss) ts
  unfolding largest_from
  largest_then m ss ts = fold_append (λ s n. most n (count_of ends sync s)) m ss ts

  pub largest_three : (g : Satin) → largest_from ends sync 0 (pass_steps g) ≡ largest_from ends sync (largest_from ends sync (largest_from ends sync 0 (only_if (runs g) (g.run_len ∷ []))) (only_if (bit g 4) (zigzag_underlay_spacing ∷ []))) (only_if true (spacing_of g ∷ []))
  unfolding pass_steps underlay_steps top_steps
  largest_three g =
      largest_then 0 (underlay_steps g) (top_steps g)
      ∙ ap (λ (m : ℕ). largest_from ends sync m (top_steps g)) (largest_then 0 (only_if (runs g) (g.run_len ∷ [])) (only_if (bit g 4) (zigzag_underlay_spacing ∷ [])))

module _ (a b sync ss : List Float) where
  -- the checks in front refuse
  pub room_refused : {n k : ℕ} → n ≡ k → (n ≡ 0 → ⊥) → room n 0 ≡ room_after k (rails_of a b sync) ss
  unfolding room_after
  room_refused {n} e h = rw (← e, ne_eqb n 0 h)

  module _ {n k : ℕ} (e : n ≡ k) (z : n ≡ 0) where
    pub room_few : few (rails_of a b []) ≡ true → room DONE 0 ≡ room_after k (rails_of a b sync) ss
    unfolding room_after few rails_of
    room_few f = rw (← e, z, f)

    pub room_open : few (rails_of a b []) ≡ false → {ends : P} {m : ℕ} {r : Room} → ends ≡ ends_of (rails_of a b []) → m ≡ largest_from ends (points sync) 0 ss → r ≡ room_for (rails_of a b sync) m → r ≡ room_after k (rails_of a b sync) ss
    unfolding room_after few rails_of ends_of
    room_open f p q t = t ∙ rw (q, p, ← e, z, f)
