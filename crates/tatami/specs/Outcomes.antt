-- What the gate and the stages found is all that a call leaves. Assumes nothing.
use Rattle.std.specs.Prelude.{ℕ, zero, suc, ◌≤◌, ◌≡◌, Bool, List, ◌++◌, ℤ, length, drop, replicate, Float, Result, Err}
use Rattle.std.proofs.Common.{arith, ◌∙◌}
use Rattle.std.proofs.Math.Path.{sym, ap}
use Rattle.std.proofs.lemmas.List.{length-replicate}
use Rattle.refusal.specs.Refusal.{DONE, number}
use Rattle.refusal.specs.Sewn.{output}
use Rattle.numbers.specs.Num.{zero64}
use Rattle.outlines.specs.declared.rule.FillRule.{FillRule}
use Rattle.geom.specs.Outline.{rings}
use Rattle.rules.specs.declared.Settings.{Settings}
use Rattle.rules.specs.declared.Entry.{Entry}
use Rattle.rules.specs.Fill.{row_list, tatami, gate, roomed, refusal}
use Rattle.geom.specs.declared.point.P.{P}
use Rattle.geom.specs.Sewing.{flat}
use Rattle.rules.specs.Calls.{worked, sewn_points, sewn_ends, sewn_fits, tatami_answer, listed_floats, listed_rows, listed_sections, list_fits, row_list_answer}
use Rattle.rules.specs.CallLaws.{gate_through, gate_stop}
use Rattle.rules.specs.Accepted.{Accepted}
use Rattle.refusal.specs.declared.Refusal.{Refusal}
use Rattle.tatami.specs.Left.{Filled, Listed, said_filled, said_listed, Left, LeftList, filled, listed, left, left_by, left_list, left_list_by, tatami_left, row_list_left}
use Rattle.finding.specs.declared.find.Found.{Found}
use Rattle.tatami.specs.declared.Filled.{Filled as Sewn}
use Rattle.finding.specs.Stages.{Zeroed}
use Rattle.tatami.specs.Stages.{Sewed, Noted, told}
use Rattle.tatami.specs.RoomLaws.{counted_none, output_none, worked_none, worked_told}

-- what is put to the front, said otherwise
pub front_is : {A : Type 0} (m m' d : List A) (k : ℕ) {x : List A} → m ≡ m' → length m ≡ k → x ≡ m ++ drop k d → x ≡ m' ++ drop (length m') d
front_is m m' d k e l h = h ∙ ap (λ j. m ++ drop j d) (sym l) ∙ ap (λ y. y ++ drop (length y) d) e

-- a slice of zeros, by its length
pub zeroed : {A : Type 0} (z : A) {d d' : List A} (l : List A) → Zeroed z d d' → length d' ≡ length l → d' ≡ replicate (length l) z
zeroed z {d} l e h = e.is ∙ ap (λ n. replicate n z) (sym (length-replicate (length d) z) ∙ ap length (sym e.is) ∙ h)

-- what was found is all that a stage leaves, whatever stands in the working slices
module _ (found : Result Found Refusal) (fits : Bool) where
  both_zero : {A : Type 0} (z : A) (l l' : List A) → length l ≡ length l' → worked (told found fits) z l ≡ worked (told found fits) z l'
  both_zero z l l' e = worked_told found fits z l ∙ ap (λ n. replicate n z) e ∙ sym (worked_told found fits z l')

  module _ (floats : List Float) (wholes : List ℕ) {floats' : List Float} {wholes' : List ℕ} where
    pub left_told : (ss : List (List P)) (points : List Float) (stops : List ℕ) {points' : List Float} {stops' : List ℕ} {r : Filled} → Sewed (told found fits) ss points points' stops stops' r
        → floats' ≡ replicate (length floats) zero64 → wholes' ≡ replicate (length wholes) 0 → left r points' stops' floats' wholes' ≡ left_by (told found fits) ss points stops floats wholes
    left_told ss points stops h f w = let zf = f ∙ sym (worked_told found fits zero64 floats) in let zw = w ∙ sym (worked_told found fits 0 wholes) in λ i. left (h.0 i) (h.1 i) (h.2 i) (zf i) (zw i)

    pub list_told : (es : List Entry) (ys : List Float) (rows : List ℤ) (sections : List ℕ) {ys' : List Float} {rows' : List ℤ} {sections' : List ℕ} {r : Listed} → Noted (told found fits) es ys ys' rows rows' sections sections' r
        → floats' ≡ replicate (length floats) zero64 → wholes' ≡ replicate (length wholes) 0 → left_list r ys' rows' sections' floats' wholes' ≡ left_list_by (told found fits) es ys rows sections floats wholes
    list_told es ys rows sections h f w = let zf = f ∙ sym (worked_told found fits zero64 floats) in let zw = w ∙ sym (worked_told found fits 0 wholes) in λ i. left_list (h.0 i) (h.1 i) (h.2 i) (h.3 i) (zf i) (zw i)

  module _ (floats floats' : List Float) (wholes wholes' : List ℕ) (f : length floats' ≡ length floats) (w : length wholes' ≡ length wholes) where
    pub left_lent : (ss : List (List P)) (points : List Float) (stops : List ℕ) → left_by (told found fits) ss points stops floats' wholes' ≡ left_by (told found fits) ss points stops floats wholes
    left_lent ss points stops = let zf = both_zero zero64 _ _ f in let zw = both_zero 0 _ _ w in λ i. left (filled (told found fits) ss) (output (told found fits) (flat (sewn_points ss)) points) (output (told found fits) (sewn_ends 0 ss) stops) (zf i) (zw i)

    pub list_lent : (es : List Entry) (ys : List Float) (rows : List ℤ) (sections : List ℕ) → left_list_by (told found fits) es ys rows sections floats' wholes' ≡ left_list_by (told found fits) es ys rows sections floats wholes
    list_lent es ys rows sections =
        let n = told found fits in
        let zf = both_zero zero64 _ _ f in
        let zw = both_zero 0 _ _ w in
        λ i. left_list (listed n es) (output n (listed_floats es) ys) (output n (listed_rows es) rows) (output n (listed_sections es) sections) (zf i) (zw i)

-- a refusal of the gate is the answer, whatever comes after; and what comes after is the answer where the gate lets it through
module _ (corners : List Float) (ends : List ℕ) (g : Settings) (stagger : ℕ) where
  pub stopped : (n rest : ℕ) → gate corners ends g stagger DONE ≡ n → 1 ≤ n → gate corners ends g stagger rest ≡ n
  stopped zero rest e h = absurd (omega arith)
  stopped (suc n) rest e h = gate_stop corners ends g stagger rest n e

  module _ (ss : List (List P)) (points floats : List Float) (stops wholes : List ℕ) where
    pub left_stopped : (n rest : ℕ) → (gate corners ends g stagger DONE ≡ n) × (1 ≤ n) × (n ≤ 5)
        → left (record { answer = n; sections = 0; points = 0 }) points stops floats wholes ≡ left_by (gate corners ends g stagger rest) ss points stops floats wholes
    left_stopped n rest h =
        let sections = sym (counted_none h.1 (length ss)) in
        let many = sym (counted_none h.1 (length (sewn_points ss))) in
        let p = sym (output_none h.1 (flat (sewn_points ss)) points) in
        let q = sym (output_none h.1 (sewn_ends 0 ss) stops) in
        let zf = sym (worked_none h.1 zero64 floats h.2) in
        let zw = sym (worked_none h.1 0 wholes h.2) in
        (λ i. left (record { answer = n; sections = sections i; points = many i }) (p i) (q i) (zf i) (zw i)) ∙ ap (λ n. left_by n ss points stops floats wholes) (sym (stopped n rest h.0 h.1))

    pub left_through : {points' d floats' : List Float} {stops' e wholes' : List ℕ} {r : Filled} (n : ℕ) → Accepted corners ends g stagger → Sewed n ss points points' stops stops' r
        → Zeroed zero64 d floats' → length floats' ≡ length floats → worked n zero64 floats ≡ replicate (length floats) zero64
        → Zeroed 0 e wholes' → length wholes' ≡ length wholes → worked n 0 wholes ≡ replicate (length wholes) 0
        → left r points' stops' floats' wholes' ≡ left_by (gate corners ends g stagger n) ss points stops floats wholes
    left_through n ok h f ef of w ew ow =
        let zf = zeroed zero64 floats f ef ∙ sym of in
        let zw = zeroed 0 wholes w ew ∙ sym ow in
        (λ i. left (h.0 i) (h.1 i) (h.2 i) (zf i) (zw i)) ∙ ap (λ n. left_by n ss points stops floats wholes) (sym (gate_through corners ends g stagger n ok))

  module _ (es : List Entry) (ys floats : List Float) (rows : List ℤ) (sections wholes : List ℕ) where
    pub list_stopped : (n rest : ℕ) → (gate corners ends g stagger DONE ≡ n) × (1 ≤ n) × (n ≤ 5)
        → left_list (record { answer = n; pieces = 0 }) ys rows sections floats wholes ≡ left_list_by (gate corners ends g stagger rest) es ys rows sections floats wholes
    list_stopped n rest h =
        let many = sym (counted_none h.1 (length es)) in
        let p = sym (output_none h.1 (listed_floats es) ys) in
        let q = sym (output_none h.1 (listed_rows es) rows) in
        let u = sym (output_none h.1 (listed_sections es) sections) in
        let zf = sym (worked_none h.1 zero64 floats h.2) in
        let zw = sym (worked_none h.1 0 wholes h.2) in
        (λ i. left_list (record { answer = n; pieces = many i }) (p i) (q i) (u i) (zf i) (zw i)) ∙ ap (λ n. left_list_by n es ys rows sections floats wholes) (sym (stopped n rest h.0 h.1))

    pub list_through : {ys' d floats' : List Float} {rows' : List ℤ} {sections' e wholes' : List ℕ} {r : Listed} (n : ℕ) → Accepted corners ends g stagger → Noted n es ys ys' rows rows' sections sections' r
        → Zeroed zero64 d floats' → length floats' ≡ length floats → worked n zero64 floats ≡ replicate (length floats) zero64
        → Zeroed 0 e wholes' → length wholes' ≡ length wholes → worked n 0 wholes ≡ replicate (length wholes) 0
        → left_list r ys' rows' sections' floats' wholes' ≡ left_list_by (gate corners ends g stagger n) es ys rows sections floats wholes
    list_through n ok h f ef of w ew ow =
        let zf = zeroed zero64 floats f ef ∙ sym of in
        let zw = zeroed 0 wholes w ew ∙ sym ow in
        (λ i. left_list (h.0 i) (h.1 i) (h.2 i) (h.3 i) (zf i) (zw i)) ∙ ap (λ n. left_list_by n es ys rows sections floats wholes) (sym (gate_through corners ends g stagger n ok))

module _ (corners : List Float) (ends : List ℕ) (rule : FillRule) (g : Settings) (stagger : ℕ) (upward : Bool) where
  module _ (points floats : List Float) (stops wholes : List ℕ) where
    pub left_refused : {r : Result Sewn Refusal} (e : Refusal) → r ≡ Err e → (gate corners ends g stagger DONE ≡ number e) × (1 ≤ number e) × (number e ≤ 5) → left (said_filled r) points stops floats wholes ≡ tatami_left corners ends rule g stagger upward points stops floats wholes
    unfolding tatami_left tatami_answer refusal
    left_refused e is h = rw is (left_stopped corners ends g stagger (tatami (rings corners ends) rule g stagger upward) points floats stops wholes (number e) _ h)

    pub left_done : (floats' : List Float) (wholes' : List ℕ) (found : Result Found Refusal) {l : Left} → Accepted corners ends g stagger → length floats' ≡ length floats → length wholes' ≡ length wholes
        → let ss = tatami (rings corners ends) rule g stagger upward in
        let fits = sewn_fits ss (length points) (length stops) in
        told found fits ≡ roomed corners ends rule g upward (length floats) (length wholes) fits
        → l ≡ left_by (told found fits) ss points stops floats' wholes'
        → l ≡ tatami_left corners ends rule g stagger upward points stops floats wholes
    unfolding tatami_left tatami_answer refusal
    left_done floats' wholes' found ok f w n h =
        let ss = tatami (rings corners ends) rule g stagger upward in
        let fits = sewn_fits ss (length points) (length stops) in
        h ∙ left_lent found fits floats _ wholes _ f w ss points stops ∙ ap (λ n. left_by n ss points stops floats wholes) (n ∙ sym (gate_through corners ends g stagger _ ok))

  module _ (ys floats : List Float) (rows : List ℤ) (sections wholes : List ℕ) where
    pub list_refused : {r : Result ℕ Refusal} (e : Refusal) → r ≡ Err e → (gate corners ends g stagger DONE ≡ number e) × (1 ≤ number e) × (number e ≤ 5) → left_list (said_listed r) ys rows sections floats wholes ≡ row_list_left corners ends rule g stagger upward ys rows sections floats wholes
    unfolding row_list_left row_list_answer refusal
    list_refused e is h = rw is (list_stopped corners ends g stagger (row_list (rings corners ends) rule g upward) ys floats rows sections wholes (number e) _ h)

    pub list_done : (floats' : List Float) (wholes' : List ℕ) (found : Result Found Refusal) {l : LeftList} → Accepted corners ends g stagger → length floats' ≡ length floats → length wholes' ≡ length wholes
        → let es = row_list (rings corners ends) rule g upward in
        let fits = list_fits (length es) (length ys) (length rows) (length sections) in
        told found fits ≡ roomed corners ends rule g upward (length floats) (length wholes) fits
        → l ≡ left_list_by (told found fits) es ys rows sections floats' wholes'
        → l ≡ row_list_left corners ends rule g stagger upward ys rows sections floats wholes
    unfolding row_list_left row_list_answer refusal
    list_done floats' wholes' found ok f w n h =
        let es = row_list (rings corners ends) rule g upward in
        let fits = list_fits (length es) (length ys) (length rows) (length sections) in
        h ∙ list_lent found fits floats _ wholes _ f w es ys rows sections ∙ ap (λ n. left_list_by n es ys rows sections floats wholes) (n ∙ sym (gate_through corners ends g stagger _ ok))
