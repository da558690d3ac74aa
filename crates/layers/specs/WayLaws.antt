-- What the stages found is all that the call leaves, of the gate's answer in its old shape. Assumes nothing.
use Rattle.std.specs.Prelude.{ℕ, ◌≡◌, Bool, List, length, Float}
use Rattle.std.proofs.Common.{◌∙◌}
use Rattle.std.proofs.Math.Path.{sym, ap, subst}
use Rattle.refusal.specs.Refusal.{DONE}
use Rattle.numbers.specs.Num.{zero64}
use Rattle.geom.specs.Outline.{rings}
use Rattle.outlines.specs.declared.rule.FillRule.{FillRule}
use Rattle.rules.specs.declared.Settings.{Settings}
use Rattle.rules.specs.Fill.{tatami}
use Rattle.rules.specs.Calls.{sewn_fits}
use Rattle.rules.specs.CallLaws.{gate_through}
use Rattle.rules.specs.Accepted.{Accepted}
use Rattle.finding.specs.Stages.{Zeroed}
use Rattle.tatami.specs.Left.{Filled, left, left_by}
use Rattle.tatami.specs.Stages.{Sewed}
use Rattle.tatami.specs.Way.{Way, Gated}
use Rattle.tatami.specs.Way.Way.{Refused}
use Rattle.tatami.specs.Outcomes.{zeroed, stopped}
use Rattle.layers.specs.Layers.{layer_roomed, layer_refusal, layer_left}
use Rattle.layers.specs.Stages.{Standing}
use Rattle.layers.specs.LayerLaws.{gate_own}
use Rattle.layers.specs.Outcomes.{nothing, left_none, worked_zero}

module _ (corners : List Float) (ends : List ℕ) (rule : FillRule) (g : Settings) (stagger : ℕ) (upward : Bool) (points floats : List Float) (stops wholes : List ℕ) where
  module _ {e places : ℕ} {table : List Float} (s : Standing corners ends g.cosine g.sine e table places) where
    pub layer_refused : {r : Way} (n : ℕ) → Gated corners ends g stagger r → r ≡ Refused n → left (nothing n) points stops floats wholes ≡ layer_left DONE corners ends rule g stagger upward points stops floats wholes
    unfolding layer_left layer_refusal Gated
    layer_refused n f is =
        let h = subst (Gated corners ends g stagger) is f in
        let ss = tatami (rings corners ends) rule g stagger upward in
        let rest = layer_roomed corners ends rule g upward (length floats) (length wholes) (sewn_fits ss (length points) (length stops)) in
        left_none n corners ends rule g stagger upward points floats stops wholes h.1 h.2
        ∙ ap (λ n. left_by n ss points stops floats wholes) (sym (stopped corners ends g stagger n rest h.0 h.1) ∙ gate_own corners ends g stagger rest s)

    pub layer_done : {points' d floats' : List Float} {stops' c wholes' : List ℕ} {r : Filled} → Accepted corners ends g stagger
        → Sewed (layer_roomed corners ends rule g upward (length floats) (length wholes) (sewn_fits (tatami (rings corners ends) rule g stagger upward) (length points) (length stops))) (tatami (rings corners ends) rule g stagger upward) points points' stops stops' r
        → Zeroed zero64 d floats' → length floats' ≡ length floats → Zeroed 0 c wholes' → length wholes' ≡ length wholes
        → left r points' stops' floats' wholes' ≡ layer_left DONE corners ends rule g stagger upward points stops floats wholes
    unfolding layer_left layer_refusal
    layer_done ok h f ef w ew =
        let ss = tatami (rings corners ends) rule g stagger upward in
        let fits = sewn_fits ss (length points) (length stops) in
        let n = layer_roomed corners ends rule g upward (length floats) (length wholes) fits in
        let zf = zeroed zero64 floats f ef ∙ sym (worked_zero corners ends rule g upward (length floats) (length wholes) fits zero64 floats) in
        let zw = zeroed 0 wholes w ew ∙ sym (worked_zero corners ends rule g upward (length floats) (length wholes) fits 0 wholes) in
        (λ i. left (h.0 i) (h.1 i) (h.2 i) (zf i) (zw i)) ∙ ap (λ n. left_by n ss points stops floats wholes) (sym (gate_through corners ends g stagger n ok) ∙ gate_own corners ends g stagger n s)
