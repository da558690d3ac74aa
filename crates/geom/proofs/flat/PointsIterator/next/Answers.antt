use Rattle.std.proofs.Common.{rules, sym, ap, ◌∙◌, ◌≡◌, ◌+◌, List, ◌∷◌, length}
use Rattle.std.proofs.Math.ListN.{drop}
use Rattle.geom.specs.declared.point.P.{P}
use Rattle.geom.specs.Outline.{points}
use Rattle.std.proofs.lemmas.List.{take_rest}
use Rattle.std.specs.Prelude.{Float}
use Rattle.geom.specs.OutlineLaws.{corner_at, points_next, points_end}
use Rattle.geom.proofs.flat.PointsIterator.next.Goals as goal

pub returns-then-self-lt2-clause-steps : goal.returns-then-self-lt2-clause-steps
returns-then-self-lt2-clause-steps c =
    let e = sym c.self.view_is ∙ points_end c.self.inside.rest.now 0 (search rules) in (e, e)

pub returns-clause-steps : goal.returns-clause-steps
returns-clause-steps c =
    let r = c.self.inside.rest.now in
    sym c.self.view_is ∙ points_next r 0 (search rules) ∙ ap (λ (l : List Float). corner_at r 0 ∷ points l) (sym (take_rest r 2))

pub returns-clause-goes : goal.returns-clause-goes
returns-clause-goes c =
    let r = c.self.inside.rest.now in
    let e : length c.args.self.now ≡ length (points (drop 2 r)) + 1 = ap (λ (l : List P). length l) (sym c.self.view_is ∙ points_next r 0 (search rules)) ∙ search rules in
    rw (take_rest r 2) (search rules)
