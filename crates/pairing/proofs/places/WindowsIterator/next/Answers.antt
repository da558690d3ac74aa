-- A turn passes over a sync point that isn't kept; the first that is ends the window, and where there is none the ends do. Assumes nothing.
use Rattle.std.proofs.Common.{rules, refl, sym, ap, ◌∙◌, ◌≡◌, ◌+◌, length}
use Rattle.satinrules.specs.Pairs.{kept}
use Rattle.pairing.specs.WalkLaws.{kept_grows, kept_skips, kept_whole}
use Rattle.pairing.proofs.places.WindowsIterator.next.Goals as goal

pub returns-then-grows-clause-steps : goal.returns-then-grows-clause-steps
returns-then-grows-clause-steps c =
    let l = c.loop-q in
    let i = l.self-inside in
    let s = c.self.inside in
    let w = kept_whole s.ends s.from s.sync s.done c.args.self.now c.if-self.false c.self.view_is in
    let g = sym c.grows.ensures ∙ c.if-grows.true in
    (w.0, refl, rw l.invariant.0 (w.1 ∙ rw (← l.invariant.2) (sym l.invariant.3) ∙ ap (kept i.ends s.from) c.in-Some.ensures.steps ∙ kept_grows i.ends s.from c.in-Some.q c.next.new.self g))

pub returns-then-grows-clause-goes : goal.returns-then-grows-clause-goes
returns-then-grows-clause-goes c =
    let l = c.loop-q in
    let i = l.self-inside in
    let s = c.self.inside in
    let w = kept_whole s.ends s.from s.sync s.done c.args.self.now c.if-self.false c.self.view_is in
    let g = sym c.grows.ensures ∙ c.if-grows.true in
    let e : length c.args.self.now.1 ≡ length (kept i.ends c.in-Some.q c.next.new.self) + 1 = ap length (w.1 ∙ rw (← l.invariant.2) (sym l.invariant.3) ∙ ap (kept i.ends s.from) c.in-Some.ensures.steps ∙ kept_grows i.ends s.from c.in-Some.q c.next.new.self g) ∙ search rules in
    rw l.invariant.0 (search rules)

pub loop-q-preserved : goal.loop-q-preserved
loop-q-preserved c =
    let l = c.loop-q in
    let i = l.self-inside in
    let s = c.self.inside in
    let g = sym c.grows.ensures ∙ c.if-grows.false in
    (l.invariant.0, l.invariant.1, l.invariant.2, sym (kept_skips i.ends s.from c.in-Some.q c.next.new.self g) ∙ ap (kept i.ends s.from) (sym c.in-Some.ensures.steps) ∙ l.invariant.3)

pub returns-clause-steps : goal.returns-clause-steps
unfolding kept
returns-clause-steps c =
    let l = c.loop-q in
    let i = l.self-inside in
    let s = c.self.inside in
    let w = kept_whole s.ends s.from s.sync s.done c.args.self.now c.if-self.false c.self.view_is in
    (w.0, refl, w.1 ∙ rw (← l.invariant.2) (sym l.invariant.3) ∙ ap (kept i.ends s.from) c.in_default.ensures.steps.0)

pub returns-clause-goes : goal.returns-clause-goes
unfolding kept
returns-clause-goes c =
    let l = c.loop-q in
    let i = l.self-inside in
    let s = c.self.inside in
    let w = kept_whole s.ends s.from s.sync s.done c.args.self.now c.if-self.false c.self.view_is in
    let e : length c.args.self.now.1 ≡ 1 = ap length (w.1 ∙ rw (← l.invariant.2) (sym l.invariant.3) ∙ ap (kept i.ends s.from) c.in_default.ensures.steps.0) in
    search rules
