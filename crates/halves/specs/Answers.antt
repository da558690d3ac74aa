-- The two halves of a column as calls of their own: who is turned away, in the order of document 01's table and for the half's own passes, and what a call leaves in each slice. Definitions only.
use Rattle.std.specs.Prelude.{ℕ, Bool, false, cond, List, eqb, length, Result, Ok, Err, Float}
use Rattle.refusal.specs.Refusal.{DONE, SETTING, unless, ◌then◌}
use Rattle.refusal.specs.Refusal.{number}
use Rattle.refusal.specs.declared.Refusal.{Refusal}
use Rattle.refusal.specs.Sewn.{Sewn, sewn, output}
use Rattle.geom.specs.Sewing.{flat}
use Rattle.satinrules.specs.declared.Satin.{Satin}
use Rattle.satinrules.specs.Settings.{good_satin}
use Rattle.satinrules.specs.Column.{underlay, far_end, top}
use Rattle.satinrules.specs.Calls.{rails_of, good_rails, underlay_steps, top_steps, passed, worked}
use Rattle.halves.specs.declared.Underlaid as sewn_under

-- ---- underlay

-- what the call says: a number of the table, how many points were sewn, and whether the thread ends at the far end
pub record Underlaid : Type 0 where
  pub answer : ℕ
  pub points : ℕ
  pub far : Bool

abbrev pub said_underlaid : Result sewn_under.Underlaid Refusal → Underlaid
said_underlaid (Ok u) = record { answer = DONE; points = u.points; far = u.far }
said_underlaid (Err e) = record { answer = number e; points = 0; far = false }

-- a refusal sews nothing, and no thread ends at the far end
abbrev pub underlaid : ℕ → ℕ → Bool → Underlaid
underlaid n points far = cond (eqb n DONE) (record { answer = DONE; points = points; far = far }) (record { answer = n; points = 0; far = false })

unfoldable pub underlay_refusal : List Float → List Float → List Float → Satin → ℕ → ℕ → ℕ
underlay_refusal a b sync g work room =
    let r = rails_of a b sync in
    good_rails a b sync then unless SETTING (good_satin g) then passed r (underlay_steps g) (underlay r g) work room

unfoldable pub underlay_said : List Float → List Float → List Float → Satin → ℕ → ℕ → Underlaid
underlay_said a b sync g work room =
    let r = rails_of a b sync in
    underlaid (underlay_refusal a b sync g work room) (length (underlay r g)) (far_end r g)

unfoldable pub underlay_output : List Float → List Float → List Float → Satin → ℕ → List Float → List Float
underlay_output a b sync g work out = output (underlay_refusal a b sync g work (length out)) (flat (underlay (rails_of a b sync) g)) out

unfoldable pub underlay_work : List Float → List Float → List Float → Satin → List Float → ℕ → List Float
underlay_work a b sync g work room = worked (underlay_refusal a b sync g (length work) room) work

-- ---- top: `far` says that the thread is at the far end

unfoldable pub top_refusal : List Float → List Float → List Float → Satin → Bool → ℕ → ℕ → ℕ
top_refusal a b sync g far work room =
    let r = rails_of a b sync in
    good_rails a b sync then unless SETTING (good_satin g) then passed r (top_steps g) (top far r g) work room

unfoldable pub top_sewn : List Float → List Float → List Float → Satin → Bool → ℕ → ℕ → Sewn
top_sewn a b sync g far work room = sewn (top_refusal a b sync g far work room) (length (top far (rails_of a b sync) g))

unfoldable pub top_output : List Float → List Float → List Float → Satin → Bool → ℕ → List Float → List Float
top_output a b sync g far work out = output (top_refusal a b sync g far work (length out)) (flat (top far (rails_of a b sync) g)) out

unfoldable pub top_work : List Float → List Float → List Float → Satin → Bool → List Float → ℕ → List Float
top_work a b sync g far work room = worked (top_refusal a b sync g far (length work) room) work
