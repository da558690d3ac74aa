-- Request [8]: the plain engine "gives the same row list, sections and stitches as the sweep on every accepted input", and "may accept where the sweep gives WORK". Assumes nothing.
use Prim.Native.Nat.{ℕ, zero, suc, ◌≤◌}
use Rattle.std.proofs.Common.{arith, ◌∙◌, le-ltb, ltb-false}
use Rattle.std.specs.Prelude.{◌≡◌, Bool, true, false, not, ◌||◌, cond, List, ltb, ℤ, length, Float}
use Rattle.std.proofs.Math.Path.{refl, sym, ap}
use Rattle.refusal.specs.Refusal.{DONE, WORK, ROOM, unless}
use Rattle.seqs.specs.Tests.{clash}
use Rattle.geom.specs.Outline.{rings}
use Rattle.outlines.specs.declared.rule.FillRule.{FillRule}
use Rattle.rules.specs.declared.Settings.{Settings}
use Rattle.rules.specs.Fill.{edges, row_list, tatami, gate, need_floats, need_wholes, roomed, refusal}
use Rattle.rules.specs.Calls.{sewn_fits, list_fits, tatami_answer, row_list_answer}
use Rattle.rules.specs.CallLaws.{gate_through, gate_stop}
use Rattle.rules.specs.Accepted.{Accepted}
use Rattle.fillroom.specs.Room.{room_of}
use Rattle.fillroom.specs.Enough.{enough}
use Rattle.rowwise.specs.Rows.{plain_floats, plain_wholes}
use Rattle.tatami.specs.Left.{Left, left_by, tatami_left, LeftList, left_list_by, row_list_left}
use Rattle.plain.specs.Plain.{plain_roomed, plain_refusal, plain_tatami_answer, plain_tatami_left, plain_row_list_answer, plain_row_list_left}

-- a slice that is long enough for the sweep is long enough for the plain engine
less : (n a b : ℕ) → a ≤ b → ltb n b ≡ false → ltb n a ≡ false
less n a b h e = le-ltb n a (omega (arith, ltb-false n b e))

-- a test for WORK, and what is told where it fails
abbrev told : Bool → Bool → ℕ
told short fits = cond short WORK (cond (not fits) ROOM DONE)

late : (s t fits : Bool) → (s ≡ true → t ≡ true) → (told t fits ≡ WORK → ⊥) → told s fits ≡ told t fits
late s true fits h k = absurd (k refl)
late false false fits h k = refl
late true false fits h k = clash (h refl) refl

both_late : (s t fits : Bool) → (told s fits ≡ WORK → ⊥) → (told t fits ≡ WORK → ⊥) → told s fits ≡ told t fits
both_late true t fits h k = absurd (h refl)
both_late false true fits h k = absurd (k refl)
both_late false false fits h k = refl

module _ (corners : List Float) (ends : List ℕ) (g : Settings) (stagger : ℕ) where
  -- two numbers that come after the gate are one where neither is WORK: the gate's own refusals are the same
  gated : (a b : ℕ) → ((gate corners ends g stagger a ≡ WORK → ⊥) → (gate corners ends g stagger b ≡ WORK → ⊥) → ((a ≡ WORK → ⊥) → (b ≡ WORK → ⊥) → a ≡ b) → gate corners ends g stagger a ≡ gate corners ends g stagger b)
  gated a b = go (gate corners ends g stagger DONE) refl
    where
      go : (n : ℕ) → gate corners ends g stagger DONE ≡ n → (gate corners ends g stagger a ≡ WORK → ⊥) → (gate corners ends g stagger b ≡ WORK → ⊥) → ((a ≡ WORK → ⊥) → (b ≡ WORK → ⊥) → a ≡ b) → gate corners ends g stagger a ≡ gate corners ends g stagger b
      go zero e h k f =
          let p = gate_through corners ends g stagger a e in
          let q = gate_through corners ends g stagger b e in
          p ∙ f (λ z. h (p ∙ z)) (λ z. k (q ∙ z)) ∙ sym q
      go (suc n) e h k f = gate_stop corners ends g stagger a n e ∙ sym (gate_stop corners ends g stagger b n e)

module _ (corners : List Float) (ends : List ℕ) (rule : FillRule) (g : Settings) (stagger : ℕ) (bottomUp : Bool) where
  abbrev e : ℕ
  e = length (edges g (rings corners ends))

  abbrev i : ℕ
  i = length (row_list (rings corners ends) rule g bottomUp)

  abbrev short : ℕ → ℕ → Bool
  short floats wholes = ltb floats (need_floats e i) || ltb wholes (need_wholes e i)

  abbrev plain_short : ℕ → ℕ → Bool
  plain_short floats wholes = ltb floats (plain_floats i) || ltb wholes (plain_wholes i)

  -- the plain engine needs no more
  shorter : (floats wholes : ℕ) → plain_short floats wholes ≡ true → short floats wholes ≡ true
  shorter floats wholes = go (ltb floats (need_floats e i)) (ltb wholes (need_wholes e i)) (ltb floats (plain_floats i)) (ltb wholes (plain_wholes i)) (less floats (plain_floats i) (need_floats e i) (omega arith)) (less wholes (plain_wholes i) (need_wholes e i) (omega arith))
    where
      go : (a b c d : Bool) → (a ≡ false → c ≡ false) → (b ≡ false → d ≡ false) → (c || d) ≡ true → (a || b) ≡ true
      go true b c d f h k = refl
      go false true c d f h k = refl
      go false false c d f h k = sym (λ j. f refl j || h refl j) ∙ k

  -- ---- answers

  -- whatever each is lent: where neither answers WORK, the answers are one
  pub answers_agree : (floats wholes floats' wholes' : ℕ) (fits : Bool) → (refusal corners ends rule g stagger bottomUp floats wholes fits ≡ WORK → ⊥) → (plain_refusal corners ends rule g stagger bottomUp floats' wholes' fits ≡ WORK → ⊥)
      → plain_refusal corners ends rule g stagger bottomUp floats' wholes' fits ≡ refusal corners ends rule g stagger bottomUp floats wholes fits
  unfolding plain_refusal refusal plain_roomed roomed
  answers_agree floats wholes floats' wholes' fits h k =
      gated corners ends g stagger (told (plain_short floats' wholes') fits) (told (short floats wholes) fits) k h (both_late (plain_short floats' wholes') (short floats wholes) fits)

  -- lent the same, the plain engine never answers WORK where the sweep does not, and answers what the sweep answers
  module _ (floats wholes : ℕ) (fits : Bool) (h : refusal corners ends rule g stagger bottomUp floats wholes fits ≡ WORK → ⊥) where
    never_work : plain_refusal corners ends rule g stagger bottomUp floats wholes fits ≡ WORK → ⊥
    unfolding plain_refusal refusal plain_roomed roomed
    never_work = go (gate corners ends g stagger DONE) refl
      where
        go : (n : ℕ) → gate corners ends g stagger DONE ≡ n → gate corners ends g stagger (told (plain_short floats wholes) fits) ≡ WORK → ⊥
        go zero c z =
            let t = told (short floats wholes) fits in
            let p = gate_through corners ends g stagger t c in
            let q = late (plain_short floats wholes) (short floats wholes) fits (shorter floats wholes) (λ w. h (p ∙ w)) in
            h (p ∙ sym q ∙ sym (gate_through corners ends g stagger (told (plain_short floats wholes) fits) c) ∙ z)
        go (suc n) c z = h (gate_stop corners ends g stagger (told (short floats wholes) fits) n c ∙ sym (gate_stop corners ends g stagger (told (plain_short floats wholes) fits) n c) ∙ z)

    pub same_answer : plain_refusal corners ends rule g stagger bottomUp floats wholes fits ≡ refusal corners ends rule g stagger bottomUp floats wholes fits
    same_answer = answers_agree floats wholes floats wholes fits h never_work

  -- ---- all that a call leaves

  -- lent the same slices, where the sweep does not answer WORK: what is said, the points, the sections' ends and the working slices are one
  pub tatami_same : (points : List Float) (stops : List ℕ) (floats : List Float) (wholes : List ℕ)
      → (tatami_answer corners ends rule g stagger bottomUp (length floats) (length wholes) (length points) (length stops) ≡ WORK → ⊥)
      → plain_tatami_left corners ends rule g stagger bottomUp points stops floats wholes ≡ tatami_left corners ends rule g stagger bottomUp points stops floats wholes
  unfolding plain_tatami_left plain_tatami_answer tatami_left tatami_answer
  tatami_same points stops floats wholes h =
      let ss = tatami (rings corners ends) rule g stagger bottomUp in
      ap (λ n. left_by n ss points stops floats wholes) (same_answer (length floats) (length wholes) (sewn_fits ss (length points) (length stops)) h)

  pub row_list_same : (ys : List Float) (rows : List ℤ) (sections : List ℕ) (floats : List Float) (wholes : List ℕ)
      → (row_list_answer corners ends rule g stagger bottomUp (length floats) (length wholes) (length ys) (length rows) (length sections) ≡ WORK → ⊥)
      → plain_row_list_left corners ends rule g stagger bottomUp ys rows sections floats wholes ≡ row_list_left corners ends rule g stagger bottomUp ys rows sections floats wholes
  unfolding plain_row_list_left plain_row_list_answer row_list_left row_list_answer
  row_list_same ys rows sections floats wholes h =
      let es = row_list (rings corners ends) rule g bottomUp in
      ap (λ n. left_list_by n es ys rows sections floats wholes) (same_answer (length floats) (length wholes) (list_fits (length es) (length ys) (length rows) (length sections)) h)

  -- the same outputs, and each engine working slices of its own: where neither answers WORK, what is said and both outputs are one
  pub tatami_agrees : (points : List Float) (stops : List ℕ) (floats : List Float) (wholes : List ℕ) (floats' : List Float) (wholes' : List ℕ)
      → (tatami_answer corners ends rule g stagger bottomUp (length floats) (length wholes) (length points) (length stops) ≡ WORK → ⊥)
      → (plain_tatami_answer corners ends rule g stagger bottomUp (length floats') (length wholes') (length points) (length stops) ≡ WORK → ⊥)
      → let one = tatami_left corners ends rule g stagger bottomUp points stops floats wholes in
      let two = plain_tatami_left corners ends rule g stagger bottomUp points stops floats' wholes' in
      (two.said ≡ one.said) × (two.points ≡ one.points) × (two.ends ≡ one.ends)
  unfolding plain_tatami_left plain_tatami_answer tatami_left tatami_answer
  tatami_agrees points stops floats wholes floats' wholes' h k =
      let ss = tatami (rings corners ends) rule g stagger bottomUp in
      let q = answers_agree (length floats) (length wholes) (length floats') (length wholes') (sewn_fits ss (length points) (length stops)) h k in
      let by : ℕ → Left = λ n. left_by n ss points stops floats wholes in
      (ap (λ n. (by n).said) q, ap (λ n. (by n).points) q, ap (λ n. (by n).ends) q)

  pub row_list_agrees : (ys : List Float) (rows : List ℤ) (sections : List ℕ) (floats : List Float) (wholes : List ℕ) (floats' : List Float) (wholes' : List ℕ)
      → (row_list_answer corners ends rule g stagger bottomUp (length floats) (length wholes) (length ys) (length rows) (length sections) ≡ WORK → ⊥)
      → (plain_row_list_answer corners ends rule g stagger bottomUp (length floats') (length wholes') (length ys) (length rows) (length sections) ≡ WORK → ⊥)
      → let one = row_list_left corners ends rule g stagger bottomUp ys rows sections floats wholes in
      let two = plain_row_list_left corners ends rule g stagger bottomUp ys rows sections floats' wholes' in
      (two.said ≡ one.said) × (two.ys ≡ one.ys) × (two.rows ≡ one.rows) × (two.sections ≡ one.sections)
  unfolding plain_row_list_left plain_row_list_answer row_list_left row_list_answer
  row_list_agrees ys rows sections floats wholes floats' wholes' h k =
      let es = row_list (rings corners ends) rule g bottomUp in
      let q = answers_agree (length floats) (length wholes) (length floats') (length wholes') (list_fits (length es) (length ys) (length rows) (length sections)) h k in
      let by : ℕ → LeftList = λ n. left_list_by n es ys rows sections floats wholes in
      (ap (λ n. (by n).said) q, ap (λ n. (by n).ys) q, ap (λ n. (by n).rows) q, ap (λ n. (by n).sections) q)

-- ---- room that is always enough

-- what `fill_room` says is enough for both
module _ (corners : List Float) (ends : List ℕ) (g : Settings) (stagger : ℕ) (accepted : Accepted corners ends g stagger) where
  not_work : (fits : Bool) → unless ROOM fits ≡ WORK → ⊥
  not_work true e = omega arith
  not_work false e = omega arith

  pub room_for_both : (rule : FillRule) (bottomUp fits : Bool) → plain_refusal corners ends rule g stagger bottomUp (room_of corners ends g stagger).floats (room_of corners ends g stagger).wholes fits ≡ unless ROOM fits
  room_for_both rule bottomUp fits =
      let e = enough corners ends g stagger accepted rule bottomUp fits in
      same_answer corners ends rule g stagger bottomUp (room_of corners ends g stagger).floats (room_of corners ends g stagger).wholes fits (λ w. not_work fits (sym e ∙ w)) ∙ e
