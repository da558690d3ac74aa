-- What is proved of the call `column` by its tests. Assumes nothing.
use Rattle.std.specs.Prelude.{ℕ, ◌≡◌, true, false, List, Float}
use borrow.Author.Tests.{ne_eqb}
use Rattle.refusal.specs.Refusal.{DONE, SETTING}
use Rattle.satinrules.specs.declared.Satin.{Satin}
use Rattle.satinrules.specs.Settings.{good_satin}
use Rattle.satinrules.specs.Pairs.{few}
use Rattle.satinrules.specs.Calls.{rails_of, good_rails, passed, column_refusal}
use Rattle.column.specs.Halves.{column_passed}

-- ---- the answer

module _ (a b sync : List Float) (g : Satin) (work room : ℕ) where
  pub refused_rails : {n : ℕ} → n ≡ good_rails a b sync → (n ≡ 0 → ⊥) → column_refusal a b sync g work room ≡ n
  unfolding column_refusal
  refused_rails {n} e h = rw (← e, ne_eqb n 0 h)

  module _ (rails : good_rails a b sync ≡ 0) where
    pub refused_setting : good_satin g ≡ false → column_refusal a b sync g work room ≡ SETTING
    unfolding column_refusal
    refused_setting e = rw (rails, e)

    module _ (ok : good_satin g ≡ true) where
      pub passed_few : few (rails_of a b sync) ≡ true → column_refusal a b sync g work room ≡ DONE
      unfolding column_refusal passed
      passed_few e = rw (rails, ok, e)

      pub passed_on : column_refusal a b sync g work room ≡ column_passed a b sync g work room
      unfolding column_refusal column_passed
      passed_on = rw (rails, ok)
