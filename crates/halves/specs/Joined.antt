-- The old stitches are the two lists joined: where both halves answer DONE, the second told what the first said, `column` leaves the first list and then the second. Assumes nothing.
use Rattle.std.specs.Prelude.{ℕ, suc, ◌+◌, ◌*◌, ◌≤◌, ◌≡◌, refl, Bool, false, List, [], ◌++◌, leb, eqb, take, drop, Float}
use Rattle.std.proofs.Common.{arith, ◌∙◌, take_at, eq-eqb, eqb-true, le-leb, leb-true}
use Rattle.std.proofs.Math.Path.{sym}
use Rattle.std.proofs.Math.Bool.{true}
use Rattle.std.proofs.Math.Logic.{inl, inr}
use Rattle.std.proofs.Math.ListN.{length, length-append}
use Rattle.refusal.specs.Refusal.{DONE, SETTING, SIZE, WORK, unless, ◌then◌}
use Rattle.refusal.specs.Sewn.{sewn}
use Rattle.refusal.specs.Sewn.{Sewn}
use Rattle.seqs.specs.Tests.{either, clash}
use Rattle.geom.specs.declared.point.P.{P}
use Rattle.geom.specs.Sewing.{flat, fitted}
use Rattle.geom.specs.SewingLaws.{flat_length, flat_append}
use Rattle.satinrules.specs.declared.Satin.{Satin}
use Rattle.satinrules.specs.Settings.{good_satin}
use Rattle.satinrules.specs.Pairs.{Rails, ends_of, few}
use Rattle.satinrules.specs.Column.{underlay, far_end, top, column}
use Rattle.satinrules.specs.Calls.{rails_of, good_rails, underlay_steps, top_steps, pass_steps, sized, most, most_of, need, passed, column_refusal, column_sewn, column_output}
use Rattle.satinrules.specs.CallLaws.{most_left, most_right, answer_fitted, no_underlay, no_top}
use Rattle.column.specs.Sized.{sized_at}
use Rattle.column.specs.SizedLaws.{sized_halves, halves_sized, most_halves}
use Rattle.halves.specs.Answers.{Underlaid}
use Rattle.halves.specs.Answers.{underlaid, underlay_refusal, underlay_said, underlay_output, top_refusal, top_sewn, top_output}

-- ---- an answer that is DONE went through each test

through : (n m : ℕ) → (n then m) ≡ DONE → (n ≡ DONE) × (m ≡ DONE)
through n m h = elim (either (eqb n 0)) [ inl e ↦ (eqb-true n 0 e, rw e at h) | inr e ↦ clash (eq-eqb n 0 (rw e at h)) e ]

tested : (n : ℕ) (t : Bool) → unless (suc n) t ≡ DONE → t ≡ true
tested n true h = refl
tested n false h = let z : ⊥ = omega (arith, h) in absurd z

module _ (r : Rails) (ss : List Float) (ps : List P) (work room : ℕ) (some : few r ≡ false) (h : passed r ss ps work room ≡ DONE) where
  opened : (unless SIZE (sized r ss) then unless WORK (leb (need r (most_of r ss)) work) then fitted ps room) ≡ DONE
  unfolding passed
  opened = rw some at h

  was_sized : sized r ss ≡ true
  was_sized = tested 4 (sized r ss) (through (unless SIZE (sized r ss)) _ opened).0

  had_work : need r (most_of r ss) ≤ work
  had_work = leb-true _ _ (tested 5 _ (through (unless WORK (leb (need r (most_of r ss)) work)) _ (through (unless SIZE (sized r ss)) _ opened).1).0)

few_done : (r : Rails) (ss : List Float) (ps : List P) (work room : ℕ) → few r ≡ true → passed r ss ps work room ≡ DONE
unfolding passed
few_done r ss ps work room e = rw e

fit_done : (ps : List P) (room : ℕ) → length (flat ps) ≤ room → fitted ps room ≡ DONE
unfolding fitted
fit_done ps room h = rw (le-leb (length (flat ps)) room h)

-- SIZE and N over both halves
sized_both : (r : Rails) (g : Satin) → sized r (underlay_steps g) ≡ true → sized r (top_steps g) ≡ true → sized r (pass_steps g) ≡ true
unfolding sized sized_at
sized_both r g h k = sized_halves (ends_of r) r.sync g ∙ rw (h, k)

need_both : (r : Rails) (g : Satin) (work : ℕ) → need r (most_of r (underlay_steps g)) ≤ work → need r (most_of r (top_steps g)) ≤ work → need r (most_of r (pass_steps g)) ≤ work
unfolding need
need_both r g work h k =
    let m = most_of r (underlay_steps g) in
    let n = most_of r (top_steps g) in
    rw (most_halves r g) (elim (either (leb m n)) [ inl e ↦ rw e k | inr e ↦ rw e h ])

module _ (a b sync : List Float) (g : Satin) (work : ℕ) where
  abbrev rails : Rails
  rails = rails_of a b sync

  module _ (room₁ room₂ room : ℕ) (far : Bool) (first : underlay_refusal a b sync g work room₁ ≡ DONE) (second : top_refusal a b sync g far work room₂ ≡ DONE) where
    under : (good_rails a b sync ≡ DONE) × (unless SETTING (good_satin g) ≡ DONE) × (passed rails (underlay_steps g) (underlay rails g) work room₁ ≡ DONE)
    unfolding underlay_refusal
    under = let t = through (good_rails a b sync) _ first in let s = through (unless SETTING (good_satin g)) _ t.1 in (t.0, s.0, s.1)

    over : passed rails (top_steps g) (top far rails g) work room₂ ≡ DONE
    unfolding top_refusal
    over = (through (unless SETTING (good_satin g)) _ (through (good_rails a b sync) _ second).1).1

    -- the joined call asks for no more than both, but for the room of both lists
    pub column_done : length (flat (column rails g)) ≤ room → column_refusal a b sync g work room ≡ DONE
    unfolding column_refusal
    column_done fits = rw (under.0, tested 2 (good_satin g) under.1) (elim (either (few rails)) [ inl e ↦ few_passed e | inr e ↦ passed_both e ])
      where
        few_passed : few rails ≡ true → passed rails (pass_steps g) (column rails g) work room ≡ DONE
        few_passed e = few_done rails (pass_steps g) (column rails g) work room e

        passed_both : few rails ≡ false → passed rails (pass_steps g) (column rails g) work room ≡ DONE
        passed_both e =
            answer_fitted rails (pass_steps g) (column rails g) work room e
            (sized_both rails g (was_sized rails (underlay_steps g) (underlay rails g) work room₁ e under.2) (was_sized rails (top_steps g) (top far rails g) work room₂ e over))
            (need_both rails g work (had_work rails (underlay_steps g) (underlay rails g) work room₁ e under.2) (had_work rails (top_steps g) (top far rails g) work room₂ e over))
            ∙ fit_done (column rails g) room fits

-- ---- what is enough to work in for the column is enough for either half

sized_each : (r : Rails) (g : Satin) → sized r (pass_steps g) ≡ true → (sized r (underlay_steps g) ≡ true) × (sized r (top_steps g) ≡ true)
unfolding sized sized_at
sized_each r g h = halves_sized (ends_of r) r.sync g h

need_below : (r : Rails) (m n work : ℕ) → m ≤ n → need r n ≤ work → need r m ≤ work
unfolding need
need_below r m n work h k = omega (arith, h, k)

no_room : (ps : List P) (room : ℕ) → ps ≡ [] → fitted ps room ≡ DONE
unfolding fitted flat
no_room ps room e = rw (e, le-leb 0 room (omega arith))

module _ (a b sync : List Float) (g : Satin) (work room : ℕ) (h : column_refusal a b sync g work room ≡ DONE) where
  abbrev both : Rails
  both = rails_of a b sync

  whole : (good_rails a b sync ≡ DONE) × (unless SETTING (good_satin g) ≡ DONE) × (passed both (pass_steps g) (column both g) work room ≡ DONE)
  unfolding column_refusal
  whole = let t = through (good_rails a b sync) _ h in let s = through (unless SETTING (good_satin g)) _ t.1 in (t.0, s.0, s.1)

  module _ (some : few both ≡ false) where
    each_sized : (sized both (underlay_steps g) ≡ true) × (sized both (top_steps g) ≡ true)
    each_sized = sized_each both g (was_sized both (pass_steps g) (column both g) work room some whole.2)

    the_need : need both (most (most_of both (underlay_steps g)) (most_of both (top_steps g))) ≤ work
    the_need = rw (most_halves both g) at (had_work both (pass_steps g) (column both g) work room some whole.2)

  pub under_alone : (room₁ : ℕ) → underlay_refusal a b sync g work room₁ ≡ fitted (underlay both g) room₁
  unfolding underlay_refusal
  under_alone room₁ = rw (whole.0, tested 2 (good_satin g) whole.1) (elim (either (few both)) [
    | inl e ↦ few_done both (underlay_steps g) (underlay both g) work room₁ e ∙ sym (no_room (underlay both g) room₁ (no_underlay both g e))
    | inr e ↦ answer_fitted both (underlay_steps g) (underlay both g) work room₁ e (each_sized e).0 (need_below both _ _ work (most_left (most_of both (underlay_steps g)) (most_of both (top_steps g))) (the_need e))
  ])

  pub top_alone : (room₂ : ℕ) (far : Bool) → top_refusal a b sync g far work room₂ ≡ fitted (top far both g) room₂
  unfolding top_refusal
  top_alone room₂ far = rw (whole.0, tested 2 (good_satin g) whole.1) (elim (either (few both)) [
    | inl e ↦ few_done both (top_steps g) (top far both g) work room₂ e ∙ sym (no_room (top far both g) room₂ (no_top both g e far))
    | inr e ↦ answer_fitted both (top_steps g) (top far both g) work room₂ e (each_sized e).1 (need_below both _ _ work (most_right (most_of both (underlay_steps g)) (most_of both (top_steps g))) (the_need e))
  ])

-- ---- what the calls leave

-- what is said is DONE where nothing is refused
said_done : (n points : ℕ) (far : Bool) → (underlaid n points far).answer ≡ DONE → n ≡ DONE
said_done n points far h = elim (either (eqb n 0)) [ inl e ↦ eqb-true n 0 e | inr e ↦ rw e at h ]

sewn_done : (n points : ℕ) → (sewn n points).answer ≡ DONE → n ≡ DONE
sewn_done n points h = elim (either (eqb n 0)) [ inl e ↦ eqb-true n 0 e | inr e ↦ rw e at h ]

-- the answer at the front of an output
front : (ps : List P) (out : List Float) → take (2 * length ps) (flat ps ++ drop (length (flat ps)) out) ≡ flat ps
front ps out = take_at (flat ps) (drop (length (flat ps)) out) (2 * length ps) (flat_length ps)

module _ (a b sync : List Float) (g : Satin) (work : ℕ) (out₁ out₂ out : List Float) where
  -- what the first call says, and the second, told that
  abbrev first : Underlaid
  first = underlay_said a b sync g work (length out₁)

  abbrev second : Sewn
  second = top_sewn a b sync g (underlay_said a b sync g work (length out₁)).far work (length out₂)

  module _ (done₁ : first.answer ≡ DONE) (done₂ : second.answer ≡ DONE) where
    abbrev r : Rails
    r = rails_of a b sync

    under_done : underlay_refusal a b sync g work (length out₁) ≡ DONE
    unfolding underlay_said
    under_done = said_done (underlay_refusal a b sync g work (length out₁)) (length (underlay r g)) (far_end r g) done₁

    first_is : first ≡ record { answer = DONE; points = length (underlay r g); far = far_end r g }
    unfolding underlay_said
    first_is = rw under_done

    top_done : top_refusal a b sync g (far_end r g) work (length out₂) ≡ DONE
    unfolding top_sewn
    top_done = sewn_done (top_refusal a b sync g (far_end r g) work (length out₂)) (length (top (far_end r g) r g)) (rw first_is at done₂)

    second_is : top_sewn a b sync g (far_end r g) work (length out₂) ≡ record { answer = DONE; points = length (top (far_end r g) r g) }
    unfolding top_sewn
    second_is = rw top_done

    module _ (fits : 2 * (first.points + second.points) ≤ length out) where
      both_fit : length (flat (column r g)) ≤ length out
      unfolding column
      both_fit =
          let h : 2 * (length (underlay r g) + length (top (far_end r g) r g)) ≤ length out = rw second_is at (rw first_is at fits) in
          omega (arith, flat_length (column r g), length-append (underlay r g) (top (far_end r g) r g))

      done : column_refusal a b sync g work (length out) ≡ DONE
      done = column_done a b sync g work (length out₁) (length out₂) (length out) (far_end r g) under_done top_done both_fit

      -- as many points as both, the first list and then the second, and the rest as it was
      pub joined : (column_sewn a b sync g work (length out) ≡ record { answer = DONE; points = first.points + second.points })
          × (column_output a b sync g work out ≡ (take (2 * first.points) (underlay_output a b sync g work out₁) ++ take (2 * second.points) (top_output a b sync g first.far work out₂)) ++ drop (2 * (first.points + second.points)) out)
      unfolding column_sewn column_output underlay_output top_output column
      joined =
          let u = underlay r g in
          let t = top (far_end r g) r g in
          let n : length (u ++ t) ≡ length u + length t = length-append u t in
          let m : length (flat (u ++ t)) ≡ 2 * (length u + length t) = omega (arith, flat_length (u ++ t), n) in
          rw (first_is, second_is, done, under_done, top_done, front u out₁, front t out₂) (rw n, rw (m, flat_append u t))
