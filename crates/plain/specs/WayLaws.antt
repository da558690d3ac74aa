-- What the gate and the finder found is all that a call of the plain engine leaves, of the gate's answer in its old shape. Assumes nothing.
use Rattle.std.specs.Prelude.{ℕ, ◌≡◌, Bool, List, ℤ, Float}
use Rattle.std.proofs.Math.ListN.{length}
use Rattle.numbers.specs.Num.{zero64}
use Rattle.geom.specs.Outline.{rings}
use Rattle.outlines.specs.declared.rule.FillRule.{FillRule}
use Rattle.rules.specs.declared.Settings.{Settings}
use Rattle.rules.specs.Fill.{row_list, tatami}
use Rattle.rules.specs.Calls.{sewn_fits, list_fits}
use Rattle.rules.specs.Accepted.{Accepted}
use Rattle.finding.specs.Stages.{Zeroed}
use Rattle.tatami.specs.Left.{Filled, Listed, left, left_list}
use Rattle.tatami.specs.Stages.{Sewed, Noted}
use Rattle.tatami.specs.Way.{Way, Gated}
use Rattle.tatami.specs.Way.Way.{Refused}
use Rattle.tatami.specs.WayLaws.{left_stopped, list_stopped}
use Rattle.tatami.specs.Outcomes.{left_through, list_through}
use Rattle.plain.specs.Plain.{plain_roomed, plain_refusal, plain_tatami_answer, plain_tatami_left, plain_row_list_answer, plain_row_list_left}
use Rattle.plain.specs.WorkLaws.{worked_plain}

module _ (corners : List Float) (ends : List ℕ) (rule : FillRule) (g : Settings) (stagger : ℕ) (upward : Bool) where
  module _ (points floats : List Float) (stops wholes : List ℕ) where
    pub plain_refused : {r : Way} (n : ℕ) → Gated corners ends g stagger r → r ≡ Refused n → left (record { answer = n; sections = 0; points = 0 }) points stops floats wholes ≡ plain_tatami_left corners ends rule g stagger upward points stops floats wholes
    unfolding plain_tatami_left plain_tatami_answer plain_refusal
    plain_refused n f e = left_stopped corners ends g stagger (tatami (rings corners ends) rule g stagger upward) points floats stops wholes n _ f e

    pub plain_done : {points' d floats' : List Float} {stops' e wholes' : List ℕ} {r : Filled} → Accepted corners ends g stagger
        → Sewed (plain_roomed corners ends rule g upward (length floats) (length wholes) (sewn_fits (tatami (rings corners ends) rule g stagger upward) (length points) (length stops))) (tatami (rings corners ends) rule g stagger upward) points points' stops stops' r
        → Zeroed zero64 d floats' → length floats' ≡ length floats → Zeroed 0 e wholes' → length wholes' ≡ length wholes
        → left r points' stops' floats' wholes' ≡ plain_tatami_left corners ends rule g stagger upward points stops floats wholes
    unfolding plain_tatami_left plain_tatami_answer plain_refusal
    plain_done ok h f ef w ew =
        let ss = tatami (rings corners ends) rule g stagger upward in
        let fits = sewn_fits ss (length points) (length stops) in
        left_through corners ends g stagger ss points floats stops wholes (plain_roomed corners ends rule g upward (length floats) (length wholes) fits) ok h
        f ef (worked_plain corners ends rule g stagger upward (length floats) (length wholes) fits zero64 floats) w ew (worked_plain corners ends rule g stagger upward (length floats) (length wholes) fits 0 wholes)

  module _ (ys floats : List Float) (rows : List ℤ) (sections wholes : List ℕ) where
    pub plain_list_refused : {r : Way} (n : ℕ) → Gated corners ends g stagger r → r ≡ Refused n → left_list (record { answer = n; pieces = 0 }) ys rows sections floats wholes ≡ plain_row_list_left corners ends rule g stagger upward ys rows sections floats wholes
    unfolding plain_row_list_left plain_row_list_answer plain_refusal
    plain_list_refused n f e = list_stopped corners ends g stagger (row_list (rings corners ends) rule g upward) ys floats rows sections wholes n _ f e

    pub plain_list_done : {ys' d floats' : List Float} {rows' : List ℤ} {sections' e wholes' : List ℕ} {r : Listed} → Accepted corners ends g stagger
        → Noted (plain_roomed corners ends rule g upward (length floats) (length wholes) (list_fits (length (row_list (rings corners ends) rule g upward)) (length ys) (length rows) (length sections))) (row_list (rings corners ends) rule g upward) ys ys' rows rows' sections sections' r
        → Zeroed zero64 d floats' → length floats' ≡ length floats → Zeroed 0 e wholes' → length wholes' ≡ length wholes
        → left_list r ys' rows' sections' floats' wholes' ≡ plain_row_list_left corners ends rule g stagger upward ys rows sections floats wholes
    unfolding plain_row_list_left plain_row_list_answer plain_refusal
    plain_list_done ok h f ef w ew =
        let es = row_list (rings corners ends) rule g upward in
        let fits = list_fits (length es) (length ys) (length rows) (length sections) in
        list_through corners ends g stagger es ys floats rows sections wholes (plain_roomed corners ends rule g upward (length floats) (length wholes) fits) ok h
        f ef (worked_plain corners ends rule g stagger upward (length floats) (length wholes) fits zero64 floats) w ew (worked_plain corners ends rule g stagger upward (length floats) (length wholes) fits 0 wholes)
