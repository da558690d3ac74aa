-- What the stages found is all that the call leaves. Assumes nothing.
use Rattle.std.specs.Prelude.{ℕ, ◌*◌, ◌≤◌, ◌≡◌, refl, Bool, true, false, not, ◌||◌, cond, List, ltb, length, replicate, Float, Result, Err}
use Rattle.std.proofs.Common.{arith, ◌∙◌, ne_eqb}
use Rattle.std.proofs.Math.Path.{sym, ap}
use Rattle.std.proofs.lemmas.List.{length-replicate}
use Rattle.refusal.specs.declared.Refusal.{Refusal}
use Rattle.refusal.specs.Refusal.{number, DONE, WORK, ROOM, ◌then◌}
use Rattle.numbers.specs.Num.{zero64}
use Rattle.geom.specs.Outline.{rings}
use Rattle.geom.specs.Sewing.{flat}
use Rattle.outlines.specs.declared.rule.FillRule.{FillRule}
use Rattle.rules.specs.declared.Settings.{Settings}
use Rattle.rules.specs.Fill.{row_list, tatami, gate}
use Rattle.rules.specs.Calls.{worked, sewn_points, sewn_ends, sewn_fits}
use Rattle.rules.specs.CallLaws.{gate_through}
use Rattle.rules.specs.Accepted.{Accepted}
use Rattle.finding.specs.Stages.{Zeroed}
use Rattle.tatami.specs.declared.Filled.{Filled as Sewn}
use Rattle.tatami.specs.Left.{Filled, said_filled, Left, left, left_by}
use Rattle.finding.specs.declared.find.Found.{Found}
use Rattle.tatami.specs.Stages.{told as told_found}
use Rattle.tatami.specs.RoomLaws.{counted_none, output_none, worked_none}
use Rattle.tatami.specs.Outcomes.{stopped, left_lent}
use Rattle.layers.specs.declared.Layer.{Layer}
use Rattle.layers.specs.Layers.{table_refusal, layer_roomed, layer_refusal, layer_left, settings_of, Slices, twice, twice_by, twice_left}
use Rattle.layers.specs.Stages.{Standing}
use Rattle.layers.specs.LayerLaws.{gate_own}

-- zeros are as many
pub zeroed_length : {A : Type 0} {z : A} {d d' : List A} → Zeroed z d d' → length d' ≡ length d
zeroed_length {z = z} {d = d} h = ap length h.is ∙ length-replicate (length d) z

-- a slice of zeros, by its length
zeroed : {A : Type 0} (z : A) {d d' : List A} (l : List A) → Zeroed z d d' → length d' ≡ length l → d' ≡ replicate (length l) z
zeroed z {d} l e h = e.is ∙ ap (λ n. replicate n z) (sym (length-replicate (length d) z) ∙ ap length (sym e.is) ∙ h)

-- nothing sewn, under the number n
abbrev pub nothing : ℕ → Filled
nothing n = record { answer = n; sections = 0; points = 0 }

-- a refusal of 1 to 5 leaves every slice
pub left_none : (n : ℕ) (corners : List Float) (ends : List ℕ) (rule : FillRule) (g : Settings) (stagger : ℕ) (upward : Bool) (points floats : List Float) (stops wholes : List ℕ) → 1 ≤ n → n ≤ 5
    → left (nothing n) points stops floats wholes ≡ left_by n (tatami (rings corners ends) rule g stagger upward) points stops floats wholes
left_none n corners ends rule g stagger upward points floats stops wholes h k =
    let ss = tatami (rings corners ends) rule g stagger upward in
    let sections = sym (counted_none h (length ss)) in
    let many = sym (counted_none h (length (sewn_points ss))) in
    let p = sym (output_none h (flat (sewn_points ss)) points) in
    let q = sym (output_none h (sewn_ends 0 ss) stops) in
    let zf = sym (worked_none h zero64 floats k) in
    let zw = sym (worked_none h 0 wholes k) in
    λ i. left (record { answer = n; sections = sections i; points = many i }) (p i) (q i) (zf i) (zw i)

-- WORK, ROOM and DONE leave zeros
pub worked_zero : (corners : List Float) (ends : List ℕ) (rule : FillRule) (g : Settings) (upward : Bool) (floats wholes : ℕ) (fits : Bool) {A : Type 0} (z : A) (l : List A)
    → worked (layer_roomed corners ends rule g upward floats wholes fits) z l ≡ replicate (length l) z
unfolding layer_roomed
worked_zero corners ends rule g upward floats wholes fits z l =
    let i = length (row_list (rings corners ends) rule g upward) in
    go (ltb floats (4 * i) || ltb wholes (6 * i)) fits
  where
    go : (a b : Bool) → worked (cond a WORK (cond (not b) ROOM DONE)) z l ≡ replicate (length l) z
    go true b = refl
    go false true = refl
    go false false = refl

module _ (corners : List Float) (ends : List ℕ) (rule : FillRule) (g : Settings) (stagger : ℕ) (upward : Bool) (points floats : List Float) (stops wholes : List ℕ) where
  -- ---- the table is refused
  pub layer_given : (n : ℕ) → 1 ≤ n → n ≤ 5 → left (nothing n) points stops floats wholes ≡ layer_left n corners ends rule g stagger upward points stops floats wholes
  unfolding layer_left
  layer_given n h k =
      let ss = tatami (rings corners ends) rule g stagger upward in
      let own = layer_refusal corners ends rule g stagger upward (length floats) (length wholes) (sewn_fits ss (length points) (length stops)) in
      let same : (n then own) ≡ n = rw (ne_eqb n 0 (λ e. omega arith)) in
      left_none n corners ends rule g stagger upward points floats stops wholes h k ∙ ap (λ m. left_by m ss points stops floats wholes) (sym same)

  pub layer_short : {d floats' : List Float} {e wholes' : List ℕ} → Zeroed zero64 d floats' → length floats' ≡ length floats → Zeroed 0 e wholes' → length wholes' ≡ length wholes
      → left (nothing WORK) points stops floats' wholes' ≡ layer_left WORK corners ends rule g stagger upward points stops floats wholes
  unfolding layer_left
  layer_short f ef w ew = let zf = zeroed zero64 floats f ef in let zw = zeroed 0 wholes w ew in λ i. left (nothing WORK) points stops (zf i) (zw i)

  -- ---- the table stands
  module _ {e places : ℕ} {table : List Float} (s : Standing corners ends g.cosine g.sine e table places) where
    pub layer_refused : {r : Result Sewn Refusal} (e : Refusal) → r ≡ Err e → (gate corners ends g stagger DONE ≡ number e) × (1 ≤ number e) × (number e ≤ 5) → left (said_filled r) points stops floats wholes ≡ layer_left DONE corners ends rule g stagger upward points stops floats wholes
    unfolding layer_left layer_refusal
    layer_refused e is h =
        rw is (
        let n = number e in
        let ss = tatami (rings corners ends) rule g stagger upward in
        let rest = layer_roomed corners ends rule g upward (length floats) (length wholes) (sewn_fits ss (length points) (length stops)) in
        left_none n corners ends rule g stagger upward points floats stops wholes h.1 h.2
        ∙ ap (λ n. left_by n ss points stops floats wholes) (sym (stopped corners ends g stagger n rest h.0 h.1) ∙ gate_own corners ends g stagger rest s))

    pub layer_done : (floats' : List Float) (wholes' : List ℕ) (found : Result Found Refusal) {l : Left} → Accepted corners ends g stagger → length floats' ≡ length floats → length wholes' ≡ length wholes
        → let ss = tatami (rings corners ends) rule g stagger upward in
        let fits = sewn_fits ss (length points) (length stops) in
        told_found found fits ≡ layer_roomed corners ends rule g upward (length floats) (length wholes) fits
        → l ≡ left_by (told_found found fits) ss points stops floats' wholes'
        → l ≡ layer_left DONE corners ends rule g stagger upward points stops floats wholes
    unfolding layer_left layer_refusal
    layer_done floats' wholes' found ok f w n h =
        let ss = tatami (rings corners ends) rule g stagger upward in
        let fits = sewn_fits ss (length points) (length stops) in
        let m = layer_roomed corners ends rule g upward (length floats) (length wholes) fits in
        h ∙ left_lent found fits floats _ wholes _ f w ss points stops ∙ ap (λ n. left_by n ss points stops floats wholes) (n ∙ sym (gate_through corners ends g stagger m ok) ∙ gate_own corners ends g stagger m s)

-- ---- both

module _ (corners : List Float) (ends : List ℕ) (rule : FillRule) (cosine sine : Float) (first second : Layer) (a b : Slices) (table : List Float) (places : List ℕ) where
  told : {n : ℕ} → table_refusal corners ends cosine sine (length table) (length places) ≡ n → {t : Left} {u : Left} {table' : List Float} {places' : List ℕ}
      → t ≡ layer_left n corners ends rule (settings_of first cosine sine) first.stagger first.upward a.points a.stops a.floats a.wholes
      → u ≡ layer_left n corners ends rule (settings_of second cosine sine) second.stagger second.upward b.points b.stops b.floats b.wholes
      → table' ≡ worked n zero64 table → places' ≡ worked n 0 places
      → twice t u table' places' ≡ twice_left corners ends rule cosine sine first second a b table places
  unfolding twice_left
  told e h k f w = (λ i. twice (h i) (k i) (f i) (w i)) ∙ ap (λ n. twice_by n corners ends rule cosine sine first second a b table places) (sym e)

  pub twice_refused : (n : ℕ) → table_refusal corners ends cosine sine (length table) (length places) ≡ n → 1 ≤ n → n ≤ 5 → {table' : List Float} → table' ≡ table
      → twice (left (nothing n) a.points a.stops a.floats a.wholes) (left (nothing n) b.points b.stops b.floats b.wholes) table' places ≡ twice_left corners ends rule cosine sine first second a b table places
  twice_refused n e h k same =
      told e
      (layer_given corners ends rule (settings_of first cosine sine) first.stagger first.upward a.points a.floats a.stops a.wholes n h k)
      (layer_given corners ends rule (settings_of second cosine sine) second.stagger second.upward b.points b.floats b.stops b.wholes n h k)
      (same ∙ sym (worked_none h zero64 table k)) (sym (worked_none h 0 places k))

  module _ {d table' : List Float} {c places' : List ℕ} (f : Zeroed zero64 d table') (ef : length table' ≡ length table) (w : Zeroed 0 c places') (ew : length places' ≡ length places) where
    pub twice_short : table_refusal corners ends cosine sine (length table) (length places) ≡ WORK
        → {d₁ d₂ floats' floats'' : List Float} {c₁ c₂ wholes' wholes'' : List ℕ}
        → Zeroed zero64 d₁ floats' → length floats' ≡ length a.floats → Zeroed 0 c₁ wholes' → length wholes' ≡ length a.wholes
        → Zeroed zero64 d₂ floats'' → length floats'' ≡ length b.floats → Zeroed 0 c₂ wholes'' → length wholes'' ≡ length b.wholes
        → twice (left (nothing WORK) a.points a.stops floats' wholes') (left (nothing WORK) b.points b.stops floats'' wholes'') table' places' ≡ twice_left corners ends rule cosine sine first second a b table places
    twice_short e p ep q eq r er s es =
        told e
        (layer_short corners ends rule (settings_of first cosine sine) first.stagger first.upward a.points a.floats a.stops a.wholes p ep q eq)
        (layer_short corners ends rule (settings_of second cosine sine) second.stagger second.upward b.points b.floats b.stops b.wholes r er s es)
        (zeroed zero64 table f ef) (zeroed 0 places w ew)

    pub twice_done : table_refusal corners ends cosine sine (length table) (length places) ≡ DONE → {t : Left} {u : Left}
        → t ≡ layer_left DONE corners ends rule (settings_of first cosine sine) first.stagger first.upward a.points a.stops a.floats a.wholes
        → u ≡ layer_left DONE corners ends rule (settings_of second cosine sine) second.stagger second.upward b.points b.stops b.floats b.wholes
        → twice t u table' places' ≡ twice_left corners ends rule cosine sine first second a b table places
    twice_done e h k = told e h k (zeroed zero64 table f ef) (zeroed 0 places w ew)
