-- What the gate and the finder found is all that a call of the plain engine leaves. Assumes nothing.
use Rattle.std.specs.Prelude.{ℕ, ◌≡◌, Bool, List, ℤ, Float, Result, Ok, Err, ◌≤◌}
use Rattle.std.proofs.Common.{arith, sym, ap, ◌∙◌}
use Rattle.std.proofs.Math.ListN.{length}
use borrow.Author.Tests.{le-ltb}
use Rattle.geom.specs.Outline.{rings}
use Rattle.outlines.specs.declared.rule.FillRule.{FillRule}
use Rattle.rules.specs.declared.Settings.{Settings}
use Rattle.rules.specs.Fill.{row_list, tatami, gate}
use Rattle.rules.specs.Calls.{sewn_fits, list_fits}
use Rattle.rules.specs.CallLaws.{room_told, gate_through}
use Rattle.rules.specs.Accepted.{Accepted}
use Rattle.finding.specs.declared.Plan.{Plan}
use Rattle.refusal.specs.declared.Refusal.{Refusal}
use Rattle.refusal.specs.Refusal.{DONE, number}
use Rattle.finding.specs.Stages.{Passed}
use Rattle.finding.specs.declared.find.Found.{Found}
use Rattle.rowwise.specs.Rows.{plain_floats, plain_wholes, FindingOf, FoundIn}
use Rattle.tatami.specs.declared.Filled.{Filled as Sewn}
use Rattle.tatami.specs.Left.{said_filled, said_listed, Left, LeftList, left, left_by, left_list, left_list_by}
use Rattle.tatami.specs.Stages.{Handed, told}
use Rattle.tatami.specs.Outcomes.{left_stopped, left_lent, list_stopped, list_lent}
use Rattle.plain.specs.Plain.{plain_roomed, plain_refusal, plain_tatami_answer, plain_tatami_left, plain_row_list_answer, plain_row_list_left}

-- ---- WORK

-- what was found in slices d and a
module _ (corners : List Float) (ends : List ℕ) (t : Plan) (d : List Float) (a : List ℕ) where
  handed_by : (r : Result Found Refusal) → FindingOf corners ends t d a r → Passed corners ends t → Handed corners ends t d a r
  handed_by (Err e) f p = f.0
  handed_by (Ok found) f p =
      let k = f.1 in
      rw f.0
      (record {
        few = omega arith;
        floats = omega arith;
        wholes = omega arith;
        lent = record { passed = p; laid = k.laid; floats = omega (arith, k.floats); wholes = omega (arith, k.wholes) };
      })

  told_by : (r : Result Found Refusal) → FindingOf corners ends t d a r → (fits : Bool) → told r fits ≡ plain_roomed corners ends t.rule t.g t.upward (length d) (length a) fits
  unfolding plain_roomed
  told_by (Err e) f fits = rw f.1
  told_by (Ok found) f fits =
      let k = f.1 in
      let i = length (row_list (rings corners ends) t.rule t.g t.upward) in
      rw (le-ltb (length d) (plain_floats i) (omega (arith, k.floats, k.pieces)), le-ltb (length a) (plain_wholes i) (omega (arith, k.wholes, k.pieces))) (sym (room_told fits))

  module _ {r : Result Found Refusal} (f : FoundIn corners ends t d a r) where
    pub handed : Passed corners ends t → Handed corners ends t d a r
    handed = handed_by r f.is

    -- the number, in slices as long as those that were lent
    pub told_is : (floats wholes : ℕ) → length d ≡ floats → length a ≡ wholes → (fits : Bool) → told r fits ≡ plain_roomed corners ends t.rule t.g t.upward floats wholes fits
    told_is floats wholes s w fits = rw (← s, ← w) (told_by r f.is fits)

-- ---- all that a call leaves

module _ (corners : List Float) (ends : List ℕ) (rule : FillRule) (g : Settings) (stagger : ℕ) (upward : Bool) where
  module _ (points floats : List Float) (stops wholes : List ℕ) where
    pub plain_refused : {r : Result Sewn Refusal} (e : Refusal) → r ≡ Err e → (gate corners ends g stagger DONE ≡ number e) × (1 ≤ number e) × (number e ≤ 5) → left (said_filled r) points stops floats wholes ≡ plain_tatami_left corners ends rule g stagger upward points stops floats wholes
    unfolding plain_tatami_left plain_tatami_answer plain_refusal
    plain_refused e is h = rw is (left_stopped corners ends g stagger (tatami (rings corners ends) rule g stagger upward) points floats stops wholes (number e) _ h)

    pub plain_done : (floats' : List Float) (wholes' : List ℕ) (found : Result Found Refusal) {l : Left} → Accepted corners ends g stagger → length floats' ≡ length floats → length wholes' ≡ length wholes
        → let ss = tatami (rings corners ends) rule g stagger upward in
        let fits = sewn_fits ss (length points) (length stops) in
        told found fits ≡ plain_roomed corners ends rule g upward (length floats) (length wholes) fits
        → l ≡ left_by (told found fits) ss points stops floats' wholes'
        → l ≡ plain_tatami_left corners ends rule g stagger upward points stops floats wholes
    unfolding plain_tatami_left plain_tatami_answer plain_refusal
    plain_done floats' wholes' found ok f w n h =
        let ss = tatami (rings corners ends) rule g stagger upward in
        let fits = sewn_fits ss (length points) (length stops) in
        h ∙ left_lent found fits floats _ wholes _ f w ss points stops ∙ ap (λ n. left_by n ss points stops floats wholes) (n ∙ sym (gate_through corners ends g stagger _ ok))

  module _ (ys floats : List Float) (rows : List ℤ) (sections wholes : List ℕ) where
    pub plain_list_refused : {r : Result ℕ Refusal} (e : Refusal) → r ≡ Err e → (gate corners ends g stagger DONE ≡ number e) × (1 ≤ number e) × (number e ≤ 5) → left_list (said_listed r) ys rows sections floats wholes ≡ plain_row_list_left corners ends rule g stagger upward ys rows sections floats wholes
    unfolding plain_row_list_left plain_row_list_answer plain_refusal
    plain_list_refused e is h = rw is (list_stopped corners ends g stagger (row_list (rings corners ends) rule g upward) ys floats rows sections wholes (number e) _ h)

    pub plain_list_done : (floats' : List Float) (wholes' : List ℕ) (found : Result Found Refusal) {l : LeftList} → Accepted corners ends g stagger → length floats' ≡ length floats → length wholes' ≡ length wholes
        → let es = row_list (rings corners ends) rule g upward in
        let fits = list_fits (length es) (length ys) (length rows) (length sections) in
        told found fits ≡ plain_roomed corners ends rule g upward (length floats) (length wholes) fits
        → l ≡ left_list_by (told found fits) es ys rows sections floats' wholes'
        → l ≡ plain_row_list_left corners ends rule g stagger upward ys rows sections floats wholes
    unfolding plain_row_list_left plain_row_list_answer plain_refusal
    plain_list_done floats' wholes' found ok f w n h =
        let es = row_list (rings corners ends) rule g upward in
        let fits = list_fits (length es) (length ys) (length rows) (length sections) in
        h ∙ list_lent found fits floats _ wholes _ f w es ys rows sections ∙ ap (λ n. left_list_by n es ys rows sections floats wholes) (n ∙ sym (gate_through corners ends g stagger _ ok))
