-- Which number the plain finding of the pieces gives, and what it hands on. Assumes nothing.
use Rattle.std.specs.Prelude.{ℕ, ◌≡◌, Bool, ◌||◌, List, replicate, Float}
use Rattle.std.proofs.Common.{arith, subst}
use Rattle.std.proofs.Math.Dec.{ltb}
use Rattle.std.proofs.Math.ListN.{length}
use borrow.Author.Tests.{le-ltb}
use Rattle.refusal.specs.Refusal.{WORK, ROOM, unless}
use Rattle.geom.specs.Outline.{rings}
use Rattle.outlines.specs.declared.rule.FillRule.{FillRule}
use Rattle.rules.specs.declared.Settings.{Settings}
use Rattle.rules.specs.Fill.{row_list}
use Rattle.rules.specs.Calls.{worked}
use Rattle.rules.specs.CallLaws.{room_told}
use Rattle.finding.specs.declared.Plan.{Plan}
use Rattle.finding.specs.Stages.{Passed}
use Rattle.rowwise.specs.Rows.{plain_floats, plain_wholes, Holds}
use Rattle.tatami.specs.Stages.{Lent}
use Rattle.tatami.specs.RoomLaws.{worked_late}
use Rattle.plain.specs.Found.{Found, FindingOf, FoundIn}
use Rattle.plain.specs.Found.Found.{Short, Held}
use Rattle.plain.specs.Plain.{plain_roomed}

-- what was found in slices d and a, of the lengths lent
module _ (corners : List Float) (ends : List ℕ) (t : Plan) {d : List Float} {a : List ℕ} {r : Found} (f : FoundIn corners ends t d a r) where
  pub work_short : r ≡ Short → (floats wholes : ℕ) → length d ≡ floats → length a ≡ wholes → (fits : Bool) → plain_roomed corners ends t.rule t.g t.upward floats wholes fits ≡ WORK
  unfolding plain_roomed
  work_short e floats wholes same alike fits = rw (rw (same, alike) at (subst (FindingOf corners ends t d a) e f.is))

  module _ (n : ℕ) (same : r ≡ Held n) where
    pub held : Holds corners ends t n d a
    held = subst (FindingOf corners ends t d a) same f.is

    pub work_held : (floats wholes : ℕ) → length d ≡ floats → length a ≡ wholes → (fits : Bool) → plain_roomed corners ends t.rule t.g t.upward floats wholes fits ≡ unless ROOM fits
    unfolding plain_roomed
    work_held floats wholes sf sw fits =
        let i = length (row_list (rings corners ends) t.rule t.g t.upward) in
        rw (le-ltb floats (plain_floats i) (omega (arith, held.floats, held.pieces, sf)), le-ltb wholes (plain_wholes i) (omega (arith, held.wholes, held.pieces, sw))) (room_told fits)

    -- as the later stages are lent it
    pub lent : Passed corners ends t → Lent corners ends t n d a
    lent p = record { passed = p; laid = held.laid; floats = omega (arith, held.floats); wholes = omega (arith, held.wholes) }

module _ (corners : List Float) (ends : List ℕ) (rule : FillRule) (g : Settings) (stagger : ℕ) (upward : Bool) where
  -- WORK, ROOM and DONE leave zeros
  pub worked_plain : (floats wholes : ℕ) (fits : Bool) {A : Type 0} (z : A) (l : List A) → worked (plain_roomed corners ends rule g upward floats wholes fits) z l ≡ replicate (length l) z
  unfolding plain_roomed
  worked_plain floats wholes fits z l = let i = length (row_list (rings corners ends) rule g upward) in worked_late (ltb floats (plain_floats i) || ltb wholes (plain_wholes i)) fits z l
