-- What each number of document 01 leaves, and which number a stage's findings give. Assumes nothing.
use Rattle.std.specs.Prelude.{ℕ, ◌*◌, ◌/◌, ◌≤◌, ◌<◌, ◌≡◌, refl, Bool, true, false, not, ◌&&◌, ◌||◌, cond, List, map, ltb, leb, replicate, ℤ, Float, Result, Ok, Err, Some, None}
use Rattle.std.proofs.Common.{arith, sym, ap, ◌∙◌, subst, length-drop}
use Rattle.std.proofs.Math.Bool.{and-false}
use Rattle.std.proofs.Math.ListN.{length}
use Rattle.std.proofs.lemmas.List.{length-map}
use borrow.Author.Tests.{le-ltb, le-leb, lt-leb, leb-true, ne_eqb}
use Rattle.refusal.specs.Refusal.{DONE, WORK, ROOM}
use Rattle.refusal.specs.Sewn.{output}
use Rattle.seqs.specs.Lists.{upto}
use Rattle.sewing.specs.Within.{within, within_some, within_none}
use Rattle.seqs.specs.Tests.{and_both}
use Rattle.seqs.specs.Upto.{upto_length}
use Rattle.geom.specs.declared.point.P.{P}
use Rattle.outlines.specs.declared.rule.FillRule.{FillRule}
use Rattle.geom.specs.Outline.{rings}
use Rattle.rules.specs.declared.Settings.{Settings}
use Rattle.rules.specs.declared.Entry.{Entry}
use Rattle.rules.specs.Fill.{edges, section, row_list, sewn, need_floats, need_wholes, roomed}
use Rattle.rules.specs.Calls.{counted, worked, sewn_points, list_fits}
use Rattle.rules.specs.CallLaws.{room_told}
use Rattle.sewing.specs.declared.Field.{Field}
use Rattle.sewing.specs.Sewing.{entries_in, Linked}
use Rattle.sewing.specs.Tatami.{sewn_tatami}
use Rattle.finding.specs.declared.Plan.{Plan}
use Rattle.finding.specs.declared.find.Found.{Found}
use Rattle.finding.specs.Stages.{Passed, Finding, FoundIn}
use Rattle.refusal.specs.declared.Refusal.{Refusal}
use Rattle.tatami.specs.Left.{Filled, Listed}
use Rattle.tatami.specs.Stages.{Handed, told, field_of, Sectioned, sewn_in, tatami_of, Sewed, sewn_room, list_of, Noted}
use Rattle.finding.specs.FindLaws.{few_edges}

-- ---- WORK

-- what was found in slices d and a
module _ (corners : List Float) (ends : List ℕ) (t : Plan) (d : List Float) (a : List ℕ) where
  handed_by : (r : Result Found Refusal) → Finding corners ends t d a r → Passed corners ends t → Handed corners ends t d a r
  handed_by (Err e) f p = f.0
  handed_by (Ok f) k p =
      let e = f.edges in
      let few : e ≤ 1024 = omega (arith, k.count, few_edges corners ends t p) in
      record {
        few = few;
        floats = omega (arith, k.floats);
        wholes = omega (arith, k.wholes);
        lent = record {
          passed = p;
          laid = k.laid;
          floats = omega (arith, k.floats, length-drop (6 * e) d);
          wholes = omega (arith, k.wholes, length-drop (4 * e) a);
        };
      }

  told_by : (r : Result Found Refusal) → Finding corners ends t d a r → (fits : Bool) → told r fits ≡ roomed corners ends t.rule t.g t.upward (length d) (length a) fits
  unfolding roomed
  told_by (Err e) f fits = rw f.1
  told_by (Ok f) k fits =
      let edgesOf = length (edges t.g (rings corners ends)) in
      let pieces_of = length (list_of corners ends t) in
      rw (
        le-ltb (length d) (need_floats edgesOf pieces_of) (omega (arith, k.floats, k.count, k.pieces)),
        le-ltb (length a) (need_wholes edgesOf pieces_of) (omega (arith, k.wholes, k.count, k.pieces)),
      )
      (sym (room_told fits))

  module _ {r : Result Found Refusal} (f : FoundIn corners ends t d a r) where
    pub handed : Passed corners ends t → Handed corners ends t d a r
    handed = handed_by r f.is

    -- the number, in slices as long as those that were lent
    pub told_is : (floats wholes : ℕ) → length d ≡ floats → length a ≡ wholes → (fits : Bool) → told r fits ≡ roomed corners ends t.rule t.g t.upward floats wholes fits
    told_is floats wholes s w fits = rw (← s, ← w) (told_by r f.is fits)

-- ---- ROOM

module _ (ss : List (List P)) (points : List Float) (ends : List ℕ) where
  pub room_ends : length ends < length ss → sewn_room ss points ends ≡ ROOM
  room_ends h = rw (lt-leb (length ss) (length ends) h, and-false (leb (2 * length (sewn_points ss)) (length points)))

  pub room_points : None ≡ within (length points / 2) (length (sewn_points ss)) → sewn_room ss points ends ≡ ROOM
  room_points e = rw (lt-leb (2 * length (sewn_points ss)) (length points) (omega (arith, within_none (length points / 2) (length (sewn_points ss)) e)))

  module _ {c : ℕ} (e : Some c ≡ within (length points / 2) (length (sewn_points ss))) where
    pub points_are : c ≡ length (sewn_points ss)
    points_are = (within_some (length points / 2) (length (sewn_points ss)) e).0

    pub points_fit : 2 * length (sewn_points ss) ≤ length points
    points_fit = omega (arith, (within_some (length points / 2) (length (sewn_points ss)) e).1)

    pub room_enough : length ss ≤ length ends → sewn_room ss points ends ≡ DONE
    room_enough k = rw (le-leb (2 * length (sewn_points ss)) (length points) points_fit, le-leb (length ss) (length ends) k)

-- the row list's
pub list_room_lem : (n a b c : ℕ) → list_fits n a b c ≡ true → (3 * n ≤ a) × (n ≤ b) × (n ≤ c)
list_room_lem n a b c h =
    let one = and_both (leb (3 * n) a && leb n b) (leb n c) h in
    let two = and_both (leb (3 * n) a) (leb n b) one.0 in
    (leb-true (3 * n) a two.0, leb-true n b two.1, leb-true n c one.1)

pub sewn_count : (f : Field) (sections : ℕ) (pieces : List Float) (numbers : List ℕ) → length (sewn_in f sections pieces numbers) ≡ sections
sewn_count f sections pieces numbers =
    length-map (map (section (entries_in f pieces numbers)) (upto 0 sections)) (sewn f.g f.stagger) ∙ length-map (upto 0 sections) (section (entries_in f pieces numbers)) ∙ upto_length 0 sections

module _ {corners : List Float} {ends : List ℕ} {t : Plan} {n : ℕ} {pieces : List Float} {numbers : List ℕ} {s : ℕ} (k : Sectioned corners ends t n pieces numbers s) (f : Field) (e : f ≡ field_of t n) where
  pub sewn_is : sewn_in f s pieces numbers ≡ tatami_of corners ends t
  sewn_is =
      ap (λ f. sewn_in f s pieces numbers) e
      ∙ ap (λ s. sewn_in (field_of t n) s pieces numbers) k.count
      ∙ sewn_tatami (rings corners ends) t.rule (field_of t n) t.upward pieces numbers k.entries

  pub field_linked : Linked f s pieces numbers
  field_linked = subst (λ f. Linked f s pieces numbers) (sym e) k.linked

-- the same of other words for the sections, or for the number
pub sewed_of : (points : List Float) (ends : List ℕ) {ss ss' : List (List P)} {points' : List Float} {ends' : List ℕ} {r : Filled} → ss ≡ ss' → Sewed (sewn_room ss points ends) ss points points' ends ends' r → Sewed (sewn_room ss' points ends) ss' points points' ends ends' r
sewed_of points ends {points' = points'} {ends' = ends'} {r = r} e h = subst (λ ss. Sewed (sewn_room ss points ends) ss points points' ends ends' r) e h

pub sewed_by : (ss : List (List P)) (points : List Float) (ends : List ℕ) {n m : ℕ} {points' : List Float} {ends' : List ℕ} {r : Filled} → n ≡ m → Sewed m ss points points' ends ends' r → Sewed n ss points points' ends ends' r
sewed_by ss points ends {points' = points'} {ends' = ends'} {r = r} e h = subst (λ n. Sewed n ss points points' ends ends' r) (sym e) h

pub noted_by : (es : List Entry) (ys : List Float) (rows : List ℤ) (sections : List ℕ) {n m : ℕ} {ys' : List Float} {rows' : List ℤ} {sections' : List ℕ} {r : Listed} → n ≡ m → Noted m es ys ys' rows rows' sections sections' r → Noted n es ys ys' rows rows' sections sections' r
noted_by es ys rows sections {ys' = ys'} {rows' = rows'} {sections' = sections'} {r = r} e h = subst (λ n. Noted n es ys ys' rows rows' sections sections' r) (sym e) h

-- ---- what a number leaves

module _ {n : ℕ} (h : 1 ≤ n) where
  pub counted_none : (c : ℕ) → counted n c ≡ 0
  counted_none c = rw (ne_eqb n 0 (λ e. omega arith))

  pub output_none : {A : Type 0} (answer out : List A) → output n answer out ≡ out
  output_none answer out = rw (ne_eqb n 0 (λ e. omega arith))

  pub worked_none : {A : Type 0} (z : A) (l : List A) → n ≤ 5 → worked n z l ≡ l
  worked_none z l k = rw (le-leb 1 n h, le-leb n 5 k)

-- WORK, ROOM and DONE leave zeros
pub worked_told : (found : Result Found Refusal) (fits : Bool) {A : Type 0} (z : A) (l : List A) → worked (told found fits) z l ≡ replicate (length l) z
worked_told (Err e) fits z l = refl
worked_told (Ok f) true z l = refl
worked_told (Ok f) false z l = refl

pub worked_late : (short fits : Bool) {A : Type 0} (z : A) (l : List A) → worked (cond short WORK (cond (not fits) ROOM DONE)) z l ≡ replicate (length l) z
worked_late true fits z l = refl
worked_late false true z l = refl
worked_late false false z l = refl

pub worked_zero : (corners : List Float) (ends : List ℕ) (rule : FillRule) (g : Settings) (upward : Bool) (floats wholes : ℕ) (fits : Bool) {A : Type 0} (z : A) (l : List A)
    → worked (roomed corners ends rule g upward floats wholes fits) z l ≡ replicate (length l) z
unfolding roomed
worked_zero corners ends rule g upward floats wholes fits z l =
    let e = length (edges g (rings corners ends)) in
    let i = length (row_list (rings corners ends) rule g upward) in
    worked_late (ltb floats (need_floats e i) || ltb wholes (need_wholes e i)) fits z l
