-- A turn goes on to the next window; behind the last one come the ends. Assumes nothing.
use Rattle.std.proofs.Common.{rules, sym, ap, ◌∙◌, ◌≡◌, ◌+◌, ◌-◌, ◌∷◌, [], List, length}
use Rattle.std.specs.Prelude.{Option, None, Some, MatchOption, ltb, ◌&&◌, false}
use Rattle.std.specs.Float.Ieee.{lt}
use Rattle.std.specs.Iterator.{MakesProgress, at_most}
use Rattle.numbers.specs.Num.{◌⊖◌, ◌⊕◌}
use Rattle.geom.specs.declared.point.P.{P}
use Rattle.polyline.specs.Line.{shortest}
use Rattle.satinrules.specs.Pairs.{centre}
use Rattle.pairing.specs.Walk.{option_list, places_left}
use Rattle.pairing.specs.WalkLaws.{left_here, left_next, left_none, none_left, none_here}
use Rattle.pairing.proofs.places.PlacesIterator.next.Goals as goal
use Rattle.pairing.proofs.places.PlacesIterator.next.Goals.{then-self-eq0, else-self-eq0+then-not-self}

-- the ends, once
taken : (now view : List P) (end r : Option P) → now ≡ option_list end → view ≡ [] → r ≡ end → MatchOption r ((now ≡ []) × (view ≡ [])) (λ x. now ≡ x ∷ view)
taken now view None r a b e = rw e (a, b)
taken now view (Some x) r a b e = rw (e, b) a

nearer : (now view : List P) (end r : Option P) → now ≡ option_list end → view ≡ [] → r ≡ end → MakesProgress {S = List P} {A = P} (λ s. Unit {0}) (λ s. at_most (length s)) now r view
nearer now view None r a b e = rw (e, a, b) (search rules)
nearer now view (Some x) r a b e = rw (e, a, b) (search rules)

pub loop-self-preserved : goal.loop-self-preserved
loop-self-preserved c =
    let i = c.loop-self.self-inside in
    let over : (lt i.s (centre i.window.from i.window.to ⊖ shortest) && ltb 0 i.left) ≡ false = elim c.if-self-eq0.branch [
      | then-self-eq0 w ↦ none_left _ _ _ w.if-self-eq0.true
      | else-self-eq0+then-not-self w ↦ none_here _ _ _ (rw c.loop-self.invariant.1 at w.if-not-self.true)
    ] in
    let s = c.in-Some.ensures.steps in
    (rw c.centre.ensures (sym (left_next i.step i.window.from i.window.to i.windows i.s i.left i.ends over c.in-Some.w.from c.in-Some.w.to c.next.new.self s.0 s.1 s.2) ∙ c.loop-self.invariant.0), c.end-self-inside.ensures)

pub returns-in_default-clause-steps : goal.returns-in_default-clause-steps
returns-in_default-clause-steps c =
    let i = c.loop-self.self-inside in
    let over : (lt i.s (centre i.window.from i.window.to ⊖ shortest) && ltb 0 i.left) ≡ false = elim c.if-self-eq0.branch [
      | then-self-eq0 w ↦ none_left _ _ _ w.if-self-eq0.true
      | else-self-eq0+then-not-self w ↦ none_here _ _ _ (rw c.loop-self.invariant.1 at w.if-not-self.true)
    ] in
    let s = c.in_default.ensures.steps in
    let none = left_none i.step i.window.from i.window.to i.windows i.s i.left i.ends over s.0 in
    let after = left_none i.step i.window.from i.window.to i.windows i.s i.left None over s.0 in
    taken _ _ i.ends _ (sym c.loop-self.invariant.0 ∙ none) (rw (s.1, c.take.ensures.after) after) c.take.ensures.value

pub returns-in_default-clause-goes : goal.returns-in_default-clause-goes
returns-in_default-clause-goes c =
    let i = c.loop-self.self-inside in
    let over : (lt i.s (centre i.window.from i.window.to ⊖ shortest) && ltb 0 i.left) ≡ false = elim c.if-self-eq0.branch [
      | then-self-eq0 w ↦ none_left _ _ _ w.if-self-eq0.true
      | else-self-eq0+then-not-self w ↦ none_here _ _ _ (rw c.loop-self.invariant.1 at w.if-not-self.true)
    ] in
    let s = c.in_default.ensures.steps in
    let none = left_none i.step i.window.from i.window.to i.windows i.s i.left i.ends over s.0 in
    let after = left_none i.step i.window.from i.window.to i.windows i.s i.left None over s.0 in
    nearer _ _ i.ends _ (sym c.loop-self.invariant.0 ∙ none) (rw (s.1, c.take.ensures.after) after) c.take.ensures.value

pub returns-clause-steps : goal.returns-clause-steps
returns-clause-steps c =
    let i = c.loop-self.self-inside in
    let here = left_here i.step i.window.from i.window.to i.windows i.s i.left i.ends (rw c.loop-self.invariant.1 at c.if-not-self.false) (search rules) in
    rw c.place-place.ensures (sym c.loop-self.invariant.0 ∙ here)

pub returns-clause-goes : goal.returns-clause-goes
returns-clause-goes c =
    let i = c.loop-self.self-inside in
    let here = left_here i.step i.window.from i.window.to i.windows i.s i.left i.ends (rw c.loop-self.invariant.1 at c.if-not-self.false) (search rules) in
    let e : length c.args.self.now ≡ length (places_left i.step i.window.from i.window.to i.windows (i.s ⊕ i.step) (i.left - 1) i.ends) + 1 = ap length (sym c.loop-self.invariant.0 ∙ here) ∙ search rules in
    search rules
