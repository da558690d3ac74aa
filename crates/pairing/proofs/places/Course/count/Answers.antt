use Rattle.std.proofs.Common.{arith, ap, length, inl, ◌≡◌, List, [], ◌∷◌}
use Rattle.std.specs.Prelude.{Option, MatchOption}
use Rattle.std.proofs.lemmas.Iterator.Consumers.{YieldsList-from_shown, count_from_yields_List}
use Rattle.geom.specs.declared.point.P.{P}
use Rattle.geom.specs.Outline.{points}
use Rattle.pairing.specs.WalkLaws.{places_bound}
use Rattle.pairing.proofs.places.Course.count.Goals as goal

pub count-requires-clause-fits : goal.count-requires-clause-fits
count-requires-clause-fits c = inl (rw c.of.ensures (omega (arith, places_bound c.args.self.ends (points c.args.self.sync.now) c.args.pass, c.requires)))

pub returns : goal.returns
returns c =
    let steps = λ (s : List P) (r : Option P) (t : List P). MatchOption r ((s ≡ []) × (t ≡ [])) (λ p. s ≡ p ∷ t) in
    rw (← c.of.ensures) (count_from_yields_List {steps = steps} _ _ c.count.ensures.ran (YieldsList-from_shown steps (λ x. x) (λ s. s) (λ s t h. ap length h.0) (λ s x t h. h) _))
