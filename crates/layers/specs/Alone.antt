-- Once the table stands, a fill not refused for WORK answers as a lone call with document 01's full need lent does, also when the other is refused. Assumes nothing.
use Rattle.std.specs.Prelude.{ℕ, ◌*◌, ◌≤◌, ◌≡◌, Bool, not, ◌||◌, List, Float}
use Rattle.std.proofs.Common.{arith, ◌∙◌, subst}
use Rattle.std.proofs.Math.Path.{refl, sym}
use Rattle.std.proofs.Math.Bool.{true, false, cond}
use Rattle.std.proofs.Math.Dec.{ltb}
use Rattle.std.proofs.Math.ListN.{length}
use borrow.Author.Tests.{le-ltb}
use Rattle.refusal.specs.Refusal.{DONE, LAYOUT, NUMBER, SETTING, TURN, SIZE, WORK, ROOM}
use Rattle.geom.specs.declared.point.P.{P}
use Rattle.geom.specs.Outline.{rings}
use Rattle.outlines.specs.declared.rule.FillRule.{FillRule}
use Rattle.limits.specs.Limits.{most_rows, good_outline, good_numbers, good_turn}
use Rattle.rules.specs.declared.Settings.{Settings}
use Rattle.rules.specs.Fill.{edges, row_numbers, row_list, tatami, good_settings, gate, need_floats, need_wholes, roomed, refusal}
use Rattle.rules.specs.Calls.{sewn_fits, tatami_answer}
use Rattle.tatami.specs.Left.{Left, tatami_left}
use Rattle.layers.specs.declared.Layer.{Layer}
use Rattle.layers.specs.Layers.{table_of, table_refusal, layer_roomed, layer_refusal, layer_left, settings_of, Slices, Twice, twice_left}

-- two calls say the same and leave the same outputs
pub record Same (a b : Left) : Type 0 where
  pub said : a.said ≡ b.said
  pub points : a.points ≡ b.points
  pub ends : a.ends ≡ b.ends

-- a table that stands passed 1, 2 and 4
pub record Passes (corners : List Float) (ends : List ℕ) (cosine sine : Float) : Type 0 where
  pub outline : good_outline corners ends ≡ true
  pub numbers : good_numbers corners ≡ true
  pub turn : good_turn cosine sine ≡ true

module _ (corners : List Float) (ends : List ℕ) (cosine sine : Float) where
  pub table_passes : (floats wholes : ℕ) → table_refusal corners ends cosine sine floats wholes ≡ DONE → Passes corners ends cosine sine
  unfolding table_refusal
  table_passes floats wholes h =
      let e = length (table_of corners ends cosine sine) in
      go (good_outline corners ends) (good_numbers corners) (good_turn cosine sine) (cond (ltb floats (6 * e) || ltb wholes (4 * e)) WORK DONE) refl refl refl h
    where
      go : (a b c : Bool) (rest : ℕ) → good_outline corners ends ≡ a → good_numbers corners ≡ b → good_turn cosine sine ≡ c → cond (not a) LAYOUT (cond (not b) NUMBER (cond (not c) TURN rest)) ≡ DONE → Passes corners ends cosine sine
      go true true true rest x y z h = record { outline = x; numbers = y; turn = z }
      go true true false rest x y z h = absurd (omega arith)
      go true false c rest x y z h = absurd (omega arith)
      go false b c rest x y z h = absurd (omega arith)

-- one fill: `floats` and `wholes` are its own slices, `lentFloats` and `lentWholes` what the lone call is lent
module _ (corners : List Float) (ends : List ℕ) (rule : FillRule) (g : Settings) (stagger : ℕ) (upward : Bool) (points : List Float) (stops : List ℕ) (p : Passes corners ends g.cosine g.sine) where
  abbrev sections : List (List P)
  sections = tatami (rings corners ends) rule g stagger upward

  abbrev fits : Bool
  fits = sewn_fits sections (length points) (length stops)

  own : ℕ → ℕ
  own rest = cond (not (good_settings g stagger)) SETTING (cond (ltb most_rows (length (row_numbers g (edges g (rings corners ends))))) SIZE rest)

  -- where WORK is not the answer, only ROOM and DONE are left of what comes after 5
  settled : (floats wholes : ℕ) → (own (layer_roomed corners ends rule g upward floats wholes fits) ≡ WORK → ⊥) → own (layer_roomed corners ends rule g upward floats wholes fits) ≡ own (cond (not fits) ROOM DONE)
  unfolding own layer_roomed
  settled floats wholes h =
      let i = length (row_list (rings corners ends) rule g upward) in
      go (good_settings g stagger) (ltb most_rows (length (row_numbers g (edges g (rings corners ends))))) (ltb floats (4 * i) || ltb wholes (6 * i)) h
    where
      go : (a b c : Bool) → (cond (not a) SETTING (cond b SIZE (cond c WORK (cond (not fits) ROOM DONE))) ≡ WORK → ⊥)
          → cond (not a) SETTING (cond b SIZE (cond c WORK (cond (not fits) ROOM DONE))) ≡ cond (not a) SETTING (cond b SIZE (cond (not fits) ROOM DONE))
      go false b c h = refl
      go true true c h = refl
      go true false false h = refl
      go true false true h = absurd (h refl)

  lone : (floats wholes : ℕ) → need_floats (length (edges g (rings corners ends))) (length (row_list (rings corners ends) rule g upward)) ≤ floats
      → need_wholes (length (edges g (rings corners ends))) (length (row_list (rings corners ends) rule g upward)) ≤ wholes
      → tatami_answer corners ends rule g stagger upward floats wholes (length points) (length stops) ≡ own (cond (not fits) ROOM DONE)
  unfolding tatami_answer refusal gate roomed own
  lone floats wholes f w =
      let e = length (edges g (rings corners ends)) in
      let i = length (row_list (rings corners ends) rule g upward) in
      rw (p.outline, p.numbers, p.turn, le-ltb floats (need_floats e i) f, le-ltb wholes (need_wholes e i) w)

  pub layer_alone : (floats lentFloats : List Float) (wholes lentWholes : List ℕ)
      → ((layer_left DONE corners ends rule g stagger upward points stops floats wholes).said.answer ≡ WORK → ⊥)
      → need_floats (length (edges g (rings corners ends))) (length (row_list (rings corners ends) rule g upward)) ≤ length lentFloats
      → need_wholes (length (edges g (rings corners ends))) (length (row_list (rings corners ends) rule g upward)) ≤ length lentWholes
      → Same (layer_left DONE corners ends rule g stagger upward points stops floats wholes) (tatami_left corners ends rule g stagger upward points stops lentFloats lentWholes)
  unfolding layer_left layer_refusal tatami_left own
  layer_alone floats lentFloats wholes lentWholes h f w =
      let n : layer_refusal corners ends rule g stagger upward (length floats) (length wholes) fits ≡ tatami_answer corners ends rule g stagger upward (length lentFloats) (length lentWholes) (length points) (length stops) = settled (length floats) (length wholes) h ∙ sym (lone (length lentFloats) (length lentWholes) f w) in
      record { said = rw n; points = rw n; ends = rw n }

-- ---- both

module _ (corners : List Float) (ends : List ℕ) (rule : FillRule) (cosine sine : Float) (first second : Layer) (a b : Slices) (table : List Float) (places : List ℕ)
    (stands : table_refusal corners ends cosine sine (length table) (length places) ≡ DONE) where
  abbrev both : Twice
  both = twice_left corners ends rule cosine sine first second a b table places

  given : (t : Layer) (l : Slices) (lentFloats : List Float) (lentWholes : List ℕ) (n : ℕ) → n ≡ DONE
      → ((layer_left n corners ends rule (settings_of t cosine sine) t.stagger t.upward l.points l.stops l.floats l.wholes).said.answer ≡ WORK → ⊥)
      → need_floats (length (edges (settings_of t cosine sine) (rings corners ends))) (length (row_list (rings corners ends) rule (settings_of t cosine sine) t.upward)) ≤ length lentFloats
      → need_wholes (length (edges (settings_of t cosine sine) (rings corners ends))) (length (row_list (rings corners ends) rule (settings_of t cosine sine) t.upward)) ≤ length lentWholes
      → Same (layer_left n corners ends rule (settings_of t cosine sine) t.stagger t.upward l.points l.stops l.floats l.wholes) (tatami_left corners ends rule (settings_of t cosine sine) t.stagger t.upward l.points l.stops lentFloats lentWholes)
  given t l lentFloats lentWholes n e =
      subst (λ n. ((layer_left n corners ends rule (settings_of t cosine sine) t.stagger t.upward l.points l.stops l.floats l.wholes).said.answer ≡ WORK → ⊥)
      → need_floats (length (edges (settings_of t cosine sine) (rings corners ends))) (length (row_list (rings corners ends) rule (settings_of t cosine sine) t.upward)) ≤ length lentFloats
      → need_wholes (length (edges (settings_of t cosine sine) (rings corners ends))) (length (row_list (rings corners ends) rule (settings_of t cosine sine) t.upward)) ≤ length lentWholes
      → Same (layer_left n corners ends rule (settings_of t cosine sine) t.stagger t.upward l.points l.stops l.floats l.wholes) (tatami_left corners ends rule (settings_of t cosine sine) t.stagger t.upward l.points l.stops lentFloats lentWholes)) (sym e)
      (λ h f w. layer_alone corners ends rule (settings_of t cosine sine) t.stagger t.upward l.points l.stops (table_passes corners ends cosine sine (length table) (length places) stands) l.floats lentFloats l.wholes lentWholes h f w)

  -- the first fill as a lone call, whatever the second is
  pub first_alone : (lentFloats : List Float) (lentWholes : List ℕ) → (both.first.said.answer ≡ WORK → ⊥)
      → need_floats (length (edges (settings_of first cosine sine) (rings corners ends))) (length (row_list (rings corners ends) rule (settings_of first cosine sine) first.upward)) ≤ length lentFloats
      → need_wholes (length (edges (settings_of first cosine sine) (rings corners ends))) (length (row_list (rings corners ends) rule (settings_of first cosine sine) first.upward)) ≤ length lentWholes
      → Same both.first (tatami_left corners ends rule (settings_of first cosine sine) first.stagger first.upward a.points a.stops lentFloats lentWholes)
  unfolding twice_left
  first_alone lentFloats lentWholes h f w = given first a lentFloats lentWholes (table_refusal corners ends cosine sine (length table) (length places)) stands h f w

  -- the second, whatever the first is
  pub second_alone : (lentFloats : List Float) (lentWholes : List ℕ) → (both.second.said.answer ≡ WORK → ⊥)
      → need_floats (length (edges (settings_of second cosine sine) (rings corners ends))) (length (row_list (rings corners ends) rule (settings_of second cosine sine) second.upward)) ≤ length lentFloats
      → need_wholes (length (edges (settings_of second cosine sine) (rings corners ends))) (length (row_list (rings corners ends) rule (settings_of second cosine sine) second.upward)) ≤ length lentWholes
      → Same both.second (tatami_left corners ends rule (settings_of second cosine sine) second.stagger second.upward b.points b.stops lentFloats lentWholes)
  unfolding twice_left
  second_alone lentFloats lentWholes h f w = given second b lentFloats lentWholes (table_refusal corners ends cosine sine (length table) (length places)) stands h f w
