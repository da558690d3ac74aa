-- What is proved of both calls by their tests. Assumes nothing.
use Rattle.std.specs.Prelude.{ℕ, ◌≡◌, Bool, true, false, List, eqb, Float}
use Rattle.std.proofs.Common.{◌∙◌, inl, inr}
use borrow.Author.Tests.{ne_eqb}
use Rattle.refusal.specs.Refusal.{DONE, SETTING}
use Rattle.refusal.specs.Sewn.{sewn}
use Rattle.refusal.specs.Sewn.{Sewn}
use Rattle.seqs.specs.Tests.{either}
use Rattle.satinrules.specs.declared.Satin.{Satin}
use Rattle.satinrules.specs.Settings.{good_satin}
use Rattle.satinrules.specs.Pairs.{few}
use Rattle.satinrules.specs.Calls.{rails_of, good_rails, passed}
use Rattle.halves.specs.Answers.{Underlaid}
use Rattle.halves.specs.Answers.{underlaid, underlay_refusal, top_refusal}
use Rattle.halves.specs.Sewing.{underlay_passed, top_passed}

-- what was sewn, with where the thread ends
pub told_is : (n points : ℕ) (far : Bool) {s : Sewn} {f : Bool} {u : Underlaid} → u ≡ underlaid s.answer s.points f → s ≡ sewn n points → f ≡ far → u ≡ underlaid n points far
told_is n points far t e h = t ∙ rw (e, h) (elim (either (eqb n 0)) [ inl q ↦ rw q | inr q ↦ rw (q, q) ])

module _ (a b sync : List Float) (g : Satin) (work room : ℕ) where
  -- ---- underlay

  pub rails_under : {n : ℕ} → n ≡ good_rails a b sync → (n ≡ 0 → ⊥) → underlay_refusal a b sync g work room ≡ n
  unfolding underlay_refusal
  rails_under {n} e h = rw (← e, ne_eqb n 0 h)

  module _ (rails : good_rails a b sync ≡ 0) where
    pub setting_under : good_satin g ≡ false → underlay_refusal a b sync g work room ≡ SETTING
    unfolding underlay_refusal
    setting_under e = rw (rails, e)

    module _ (ok : good_satin g ≡ true) where
      pub few_under : few (rails_of a b sync) ≡ true → underlay_refusal a b sync g work room ≡ DONE
      unfolding underlay_refusal passed
      few_under e = rw (rails, ok, e)

      pub on_under : underlay_refusal a b sync g work room ≡ underlay_passed a b sync g work room
      unfolding underlay_refusal underlay_passed
      on_under = rw (rails, ok)

  -- ---- top

  module _ (far : Bool) where
    pub rails_over : {n : ℕ} → n ≡ good_rails a b sync → (n ≡ 0 → ⊥) → top_refusal a b sync g far work room ≡ n
    unfolding top_refusal
    rails_over {n} e h = rw (← e, ne_eqb n 0 h)

    module _ (rails : good_rails a b sync ≡ 0) where
      pub setting_over : good_satin g ≡ false → top_refusal a b sync g far work room ≡ SETTING
      unfolding top_refusal
      setting_over e = rw (rails, e)

      module _ (ok : good_satin g ≡ true) where
        pub few_over : few (rails_of a b sync) ≡ true → top_refusal a b sync g far work room ≡ DONE
        unfolding top_refusal passed
        few_over e = rw (rails, ok, e)

        pub on_over : top_refusal a b sync g far work room ≡ top_passed a b sync g far work room
        unfolding top_refusal top_passed
        on_over = rw (rails, ok)
