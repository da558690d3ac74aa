-- What is proved of both halves together: their count, where they stand, and which answer it is. Assumes nothing.
use Rattle.std.specs.Prelude.{ℕ, ◌+◌, ◌-◌, ◌*◌, ◌≤◌, ◌<◌, ◌≡◌, Bool, true, false, leb, take, drop, replicate, Float}
use Rattle.std.proofs.Common.{arith, sym, ◌∙◌, inl, inr, length-take-le, drop_at}
use Rattle.std.proofs.Math.Path.{ap}
use mathlib.Core.List.{List, [], ◌++◌, append_assoc}
use Rattle.std.proofs.Math.ListN.{length, length-append}
use Rattle.refusal.specs.Refusal.{SIZE, WORK}
use Rattle.numbers.specs.Num.{zero64}
use Rattle.seqs.specs.Slices.{put, capped}
use Rattle.seqs.specs.Tests.{either}
use Rattle.seqs.specs.Wrote.{head_length}
use Rattle.seqs.specs.Capped.{capped_on}
use Rattle.geom.specs.declared.point.P.{P}
use Rattle.geom.specs.Outline.{points}
use Rattle.geom.specs.Sewing.{flat, fitted}
use Rattle.geom.specs.SewingLaws.{flat_length, flat_append, points_flat}
use Rattle.satinrules.specs.declared.Satin.{Satin}
use Rattle.satinrules.specs.Pairs.{ends_of, few, pairs}
use Rattle.satinrules.specs.Column.{after_zigzag, far_end, spacing_of, stitches, styled, underlay, top, column}
use Rattle.satinrules.specs.Calls.{rails_of, underlay_steps, pass_steps, sized, most_of, need, worked}
use Rattle.satin.specs.Underlay.{underlay_count}
use Rattle.satinrules.specs.CallLaws.{far_is, most_left, most_right, answer_size, answer_work, answer_fitted}
use Rattle.passes.specs.Threads.{pairs_in}
use Rattle.satin.specs.PassedLaws.{need_room}
use Rattle.satin.specs.UnderlayLaws.{underlay_count_lem, run_size, fit_laid, fit_stitches}
use Rattle.column.specs.declared.sized.Passes.{Passes}
use Rattle.satin.specs.declared.underlay.Under.{Under}
use Rattle.column.specs.Sized.{sized_at, under_of, passes_of, most_under, most_in, TopLaid}
use Rattle.column.specs.SizedLaws.{underlay_small, most_small, halves_sized, run_fit, zigzag_fit, under_is, passes_top, run_room, zigzag_room}
use Rattle.column.specs.Topping.{top_of}
use Rattle.column.specs.ToppingLaws.{top_is, top_length}
use Rattle.column.specs.Halves.{UnderReady, Ready, path_in, top_path, column_passed}

-- ---- what is asked for

-- the underlay's passes that were worked out, where the working slice holds the most of them twice
pub under_ready : (a b sync : List Float) (g : Satin) {ends : P} (e : ends ≡ ends_of (rails_of a b [])) (some : few (rails_of a b sync) ≡ false) {u : Under} (f : u ≡ under_of ends (points sync) g)
    → sized_at ends (points sync) (underlay_steps g) ≡ true → (work : ℕ) → 8 * most_under u ≤ work → UnderReady a b sync g ends u work
under_ready a b sync g {ends} e some {u} f ok work h =
    let small : most_under u ≤ 65537 = rw f (underlay_small ends (points sync) g ok) in
    record {
      run = run_fit a b sync g e some f ok;
      zigzag = zigzag_fit a b sync g e some f ok;
      small_n = omega (arith, small, most_left u.n u.m);
      small_m = omega (arith, small, most_right u.n u.m);
      room_n = run_room u work h;
      room_m = zigzag_room u work h;
    }

-- the passes that were worked out, where the working slice is of the need
pub ready : (a b sync : List Float) (g : Satin) {ends : P} (e : ends ≡ ends_of (rails_of a b [])) (some : few (rails_of a b sync) ≡ false) {p : Passes} (f : p ≡ passes_of ends (points sync) g)
    → sized_at ends (points sync) (pass_steps g) ≡ true → (work : ℕ) → need (rails_of a b sync) (most_in p) ≤ work → Ready a b sync g ends p work
ready a b sync g {ends} e some {p} f ok work h =
    let small : most_in p ≤ 65537 = rw f (most_small ends (points sync) g ok) in
    let room : 8 * most_in p ≤ work = need_room a b sync (most_in p) work h in
    record {
      under = under_ready a b sync g e some (under_is a b sync g e some f ok) (halves_sized ends (points sync) g ok).0 work (omega (arith, room, most_left (most_under p.under) p.t));
      top = passes_top a b sync g e some f ok;
      small_t = omega (arith, small, most_right (most_under p.under) p.t);
      room_t = omega (arith, room, most_right (most_under p.under) p.t);
    }

pub ready_same : {a b sync : List Float} {g : Satin} {ends : P} {p : Passes} {n m : ℕ} → Ready a b sync g ends p n → m ≡ n → Ready a b sync g ends p m
ready_same w e = rw e w

-- the top's stitches go over the pairs that were laid, and stand behind them
pub stitched : {a b sync : List Float} {g : Satin} {ends : P} {p : Passes} (d y : List Float) → Ready a b sync g ends p (length d) → TopLaid a b sync ends p d → y ≡ put d (4 * p.t) (flat (stitches g (pairs_in (points (take (4 * p.t) d))))) → (length y ≡ length d) × (path_in p y ≡ top_path a b sync g)
stitched {g = g} {p = p} d y w l e =
    let q = fit_laid w.top d (ap (λ (k : ℕ). take (4 * k) d) (sym w.top.count) ∙ l) in
    fit_stitches w.top g d y w.room_t (e ∙ ap (λ qs. put d (4 * p.t) (flat (stitches g qs))) q)

-- a part of n numbers, as it is lent
pub lent_path : (from n : ℕ) (w m : List Float) → take n (drop from w) ≡ m → take (from + n - from) (drop from w) ≡ m
lent_path from n w m e = let z : from + n - from ≡ n = omega arith in rw z e

-- b is put from where a will end, and a is put before it
put_before : (d d₁ y a b : List Float) (k : ℕ) → k ≡ length a → k + length b ≤ length d → d₁ ≡ put d k b → y ≡ put d₁ 0 a → y ≡ put d 0 (a ++ b)
put_before d d₁ y a b k at h e f =
    let rest = drop (length (take k d ++ b)) d in
    let n : length (take k d ++ b) ≡ length (a ++ b) = omega (arith, head_length d b k (omega arith), length-append a b) in
    let q : drop k d₁ ≡ b ++ rest = ap (drop k) (e ∙ append_assoc (take k d) b rest) ∙ drop_at (take k d) (b ++ rest) k (length-take-le k d (omega arith)) in
    let s : drop (length a) d₁ ≡ b ++ drop (length (a ++ b)) d = ap (λ (j : ℕ). drop j d₁) (sym at) ∙ q ∙ ap (λ (j : ℕ). b ++ drop j d) n in
    f ∙ ap (λ (l : List Float). a ++ l) s ∙ sym (append_assoc a b (drop (length (a ++ b)) d))

-- ---- both halves, over the path s of the top's stitches

-- the top over that path
pub path_top : (a b sync : List Float) (g : Satin) (far : Bool) (s : List Float) → s ≡ top_path a b sync g → top_of far g (points s) ≡ top far (rails_of a b sync) g
path_top a b sync g far s e = ap (λ (l : List Float). top_of far g (points l)) e ∙ ap (top_of far g) (points_flat (stitches g (pairs (rails_of a b sync) (spacing_of g)))) ∙ sym (top_is far (rails_of a b sync) g)

module _ {a b sync : List Float} {g : Satin} {ends : P} {p : Passes} {work : ℕ} (w : Ready a b sync g ends p work) (s : List Float) (e : s ≡ top_path a b sync g) (u : ℕ) (at : u ≡ underlay_count g p.under.n p.under.m) where
  -- the far end, on rails that were accepted
  far : after_zigzag g ≡ far_end (rails_of a b sync) g
  far = sym (far_is (rails_of a b sync) g w.top.some)

  on_top : top_of (after_zigzag g) g (points s) ≡ top (far_end (rails_of a b sync) g) (rails_of a b sync) g
  on_top = path_top a b sync g (after_zigzag g) s e ∙ ap (λ (f : Bool). top f (rails_of a b sync) g) far

  under : length (underlay (rails_of a b sync) g) ≡ u
  under = underlay_count_lem g w.under.run w.under.zigzag ∙ sym at

  both_length : length (column (rails_of a b sync) g) ≡ u + length (top_of (after_zigzag g) g (points s))
  unfolding column
  both_length = omega (arith, length-append (underlay (rails_of a b sync) g) (top (far_end (rails_of a b sync) g) (rails_of a b sync) g), under, ap length on_top)

  pub both_count : (room : ℕ) {k r : ℕ} → k ≡ capped room (length (styled g.split g.style (points s))) → r ≡ capped room (k + u) → r ≡ capped room (length (column (rails_of a b sync) g))
  both_count room f h =
      let n = length (styled g.split g.style (points s)) in
      let q : n + u ≡ length (column (rails_of a b sync) g) = omega (arith, both_length, top_length (after_zigzag g) g (points s)) in
      h ∙ ap (λ (j : ℕ). capped room (j + u)) f ∙ capped_on room n u ∙ ap (capped room) q

  module _ {f : Bool} (q : f ≡ after_zigzag g) (d : List Float) (fits : 2 * length (column (rails_of a b sync) g) ≤ length d) where
    pub behind_room : 2 * u + 2 * length (top_of f g (points s)) ≤ length d
    behind_room = rw q (omega (arith, fits, both_length))

    module _ (d₁ : List Float) (h : d₁ ≡ put d (2 * u) (flat (top_of f g (points s)))) where
      behind_size : length d₁ ≡ length d
      behind_size = run_size d d₁ (top_of f g (points s)) (2 * u) behind_room h

      pub before_room : 2 * length (underlay (rails_of a b sync) g) ≤ length d₁
      before_room = omega (arith, behind_room, behind_size, under)

      pub halves_put : (y : List Float) → y ≡ put d₁ 0 (flat (underlay (rails_of a b sync) g)) → y ≡ put d 0 (flat (column (rails_of a b sync) g))
      unfolding column
      halves_put y k =
          let r = rails_of a b sync in
          let t = top (far_end r g) r g in
          let is : top_of f g (points s) ≡ t = rw q on_top in
          put_before d d₁ y (flat (underlay r g)) (flat t) (2 * u) (omega (arith, under, flat_length (underlay r g))) (omega (arith, behind_room, flat_length t, ap length is)) (h ∙ ap (λ (l : List P). put d (2 * u) (flat l)) is) k
          ∙ ap (put d 0) (sym (flat_append (underlay r g) t))

-- ---- which answer it is

module _ (a b sync : List Float) (g : Satin) (work room : ℕ) (some : few (rails_of a b sync) ≡ false) where
  pub column_size : sized (rails_of a b sync) (pass_steps g) ≡ false → column_passed a b sync g work room ≡ SIZE
  unfolding column_passed
  column_size h = answer_size (rails_of a b sync) (pass_steps g) (column (rails_of a b sync) g) work room some h

  module _ (ok : sized (rails_of a b sync) (pass_steps g) ≡ true) where
    pub column_work_lem : work < need (rails_of a b sync) (most_of (rails_of a b sync) (pass_steps g)) → column_passed a b sync g work room ≡ WORK
    unfolding column_passed
    column_work_lem h = answer_work (rails_of a b sync) (pass_steps g) (column (rails_of a b sync) g) work room some ok h

    pub column_fitted : need (rails_of a b sync) (most_of (rails_of a b sync) (pass_steps g)) ≤ work → column_passed a b sync g work room ≡ fitted (column (rails_of a b sync) g) room
    unfolding column_passed
    column_fitted h = answer_fitted (rails_of a b sync) (pass_steps g) (column (rails_of a b sync) g) work room some ok h

-- DONE and ROOM leave the working slice all zero
pub worked_fitted : (ps : List P) (room : ℕ) (w : List Float) → worked (fitted ps room) w ≡ replicate (length w) zero64
unfolding fitted
worked_fitted ps room w = elim (either (leb (length (flat ps)) room)) [ inl e ↦ rw e | inr e ↦ rw e ]
