-- What the gate and the stages found is all that a call leaves, of the gate's answer in its old shape. Assumes nothing.
use Rattle.std.specs.Prelude.{ℕ, ◌≡◌, List, ℤ, length, Bool, Float}
use Rattle.std.proofs.Math.Path.{subst}
use Rattle.numbers.specs.Num.{zero64}
use Rattle.outlines.specs.declared.rule.FillRule.{FillRule}
use Rattle.geom.specs.Outline.{rings}
use Rattle.geom.specs.declared.point.P.{P}
use Rattle.rules.specs.declared.Settings.{Settings}
use Rattle.rules.specs.declared.Entry.{Entry}
use Rattle.rules.specs.Fill.{row_list, tatami, gate, refusal, roomed}
use Rattle.rules.specs.Calls.{sewn_fits, tatami_answer, list_fits, row_list_answer}
use Rattle.rules.specs.Accepted.{Accepted}
use Rattle.finding.specs.Stages.{Zeroed}
use Rattle.tatami.specs.Left.{Filled, Listed, left, left_by, left_list, left_list_by, tatami_left, row_list_left}
use Rattle.tatami.specs.Stages.{Sewed, Noted}
use Rattle.tatami.specs.Way.{Way, Gated}
use Rattle.tatami.specs.Way.Way.{Refused}
use Rattle.tatami.specs.RoomLaws.{worked_zero}
use Rattle.tatami.specs.Outcomes.{left_through, list_through, left_stopped as left_stopped_by, list_stopped as list_stopped_by}

module _ (corners : List Float) (ends : List ℕ) (g : Settings) (stagger : ℕ) where
  module _ (ss : List (List P)) (points floats : List Float) (stops wholes : List ℕ) where
    pub left_stopped : {r : Way} (n rest : ℕ) → Gated corners ends g stagger r → r ≡ Refused n
        → left (record { answer = n; sections = 0; points = 0 }) points stops floats wholes ≡ left_by (gate corners ends g stagger rest) ss points stops floats wholes
    unfolding Gated
    left_stopped n rest f e = left_stopped_by corners ends g stagger ss points floats stops wholes n rest (subst (Gated corners ends g stagger) e f)

  module _ (es : List Entry) (ys floats : List Float) (rows : List ℤ) (sections wholes : List ℕ) where
    pub list_stopped : {r : Way} (n rest : ℕ) → Gated corners ends g stagger r → r ≡ Refused n
        → left_list (record { answer = n; pieces = 0 }) ys rows sections floats wholes ≡ left_list_by (gate corners ends g stagger rest) es ys rows sections floats wholes
    unfolding Gated
    list_stopped n rest f e = list_stopped_by corners ends g stagger es ys floats rows sections wholes n rest (subst (Gated corners ends g stagger) e f)

module _ (corners : List Float) (ends : List ℕ) (rule : FillRule) (g : Settings) (stagger : ℕ) (upward : Bool) where
  module _ (points floats : List Float) (stops wholes : List ℕ) where
    pub left_refused : {r : Way} (n : ℕ) → Gated corners ends g stagger r → r ≡ Refused n → left (record { answer = n; sections = 0; points = 0 }) points stops floats wholes ≡ tatami_left corners ends rule g stagger upward points stops floats wholes
    unfolding tatami_left tatami_answer refusal
    left_refused n f e = left_stopped corners ends g stagger (tatami (rings corners ends) rule g stagger upward) points floats stops wholes n _ f e

    pub left_done : {points' d floats' : List Float} {stops' e wholes' : List ℕ} {r : Filled} → Accepted corners ends g stagger
        → Sewed (roomed corners ends rule g upward (length floats) (length wholes) (sewn_fits (tatami (rings corners ends) rule g stagger upward) (length points) (length stops))) (tatami (rings corners ends) rule g stagger upward) points points' stops stops' r
        → Zeroed zero64 d floats' → length floats' ≡ length floats → Zeroed 0 e wholes' → length wholes' ≡ length wholes
        → left r points' stops' floats' wholes' ≡ tatami_left corners ends rule g stagger upward points stops floats wholes
    unfolding tatami_left tatami_answer refusal
    left_done ok h f ef w ew =
        let ss = tatami (rings corners ends) rule g stagger upward in
        let fits = sewn_fits ss (length points) (length stops) in
        left_through corners ends g stagger ss points floats stops wholes (roomed corners ends rule g upward (length floats) (length wholes) fits) ok h
        f ef (worked_zero corners ends rule g upward (length floats) (length wholes) fits zero64 floats) w ew (worked_zero corners ends rule g upward (length floats) (length wholes) fits 0 wholes)

  module _ (ys floats : List Float) (rows : List ℤ) (sections wholes : List ℕ) where
    pub list_refused : {r : Way} (n : ℕ) → Gated corners ends g stagger r → r ≡ Refused n → left_list (record { answer = n; pieces = 0 }) ys rows sections floats wholes ≡ row_list_left corners ends rule g stagger upward ys rows sections floats wholes
    unfolding row_list_left row_list_answer refusal
    list_refused n f e = list_stopped corners ends g stagger (row_list (rings corners ends) rule g upward) ys floats rows sections wholes n _ f e

    pub list_done : {ys' d floats' : List Float} {rows' : List ℤ} {sections' e wholes' : List ℕ} {r : Listed} → Accepted corners ends g stagger
        → Noted (roomed corners ends rule g upward (length floats) (length wholes) (list_fits (length (row_list (rings corners ends) rule g upward)) (length ys) (length rows) (length sections))) (row_list (rings corners ends) rule g upward) ys ys' rows rows' sections sections' r
        → Zeroed zero64 d floats' → length floats' ≡ length floats → Zeroed 0 e wholes' → length wholes' ≡ length wholes
        → left_list r ys' rows' sections' floats' wholes' ≡ row_list_left corners ends rule g stagger upward ys rows sections floats wholes
    unfolding row_list_left row_list_answer refusal
    list_done ok h f ef w ew =
        let es = row_list (rings corners ends) rule g upward in
        let fits = list_fits (length es) (length ys) (length rows) (length sections) in
        list_through corners ends g stagger es ys floats rows sections wholes (roomed corners ends rule g upward (length floats) (length wholes) fits) ok h
        f ef (worked_zero corners ends rule g upward (length floats) (length wholes) fits zero64 floats) w ew (worked_zero corners ends rule g upward (length floats) (length wholes) fits 0 wholes)
