-- `meander` meets its contract: each answer follows from the tests on the way to it. Assumes nothing.
use mathlib.Core.Path.{sym, ◌∙◌}
use lib.ListN.{length}
use Rattle.geom.specs.Outline.{rings}
use Rattle.meander_rules.specs.Answers.{meander_refusal, meander_said, meander_points, meander_ends, meander_wholes}
use Rattle.meander.specs.StoppedLaws.{lines_are, need_is, few_columns, few_rows, answer_works}
use Rattle.meander.proofs.meander.Goals as goal

pub on_lattice-requires : goal.on_lattice-requires
on_lattice-requires c = let a = c.args in let o = c.in_ok-o.ensures.2 in
    (few_columns a.corners.now a.ends.now a.rule a.spacing a.len a.seed o c.lattice_of-g.ensures, few_rows a.corners.now a.ends.now a.rule a.spacing a.len a.seed o c.lattice_of-g.ensures)

pub returns : goal.returns
unfolding meander_ends meander_points meander_refusal meander_said meander_wholes
returns c = let a = c.args in let o = c.in_ok-o.ensures.2 in
    let q = rw (c.in_ok-o.ensures.0, c.in_ok-o.ensures.1) at c.on_lattice.ensures in
    let ls = lines_are a.corners.now a.ends.now a.rule a.spacing a.len a.seed o c.lattice_of-g.ensures in
    let nd = need_is a.corners.now a.ends.now a.rule a.spacing a.len a.seed o c.lattice_of-g.ensures in
    let w = rw (ls, nd) at (answer_works (rings a.corners.now a.ends.now) a.rule c.lattice_of-g.result a.len a.seed (length a.out.now) (length a.stops.now) (length a.wholes.now)) in
    rw (o, sym c.good_numbers.ensures ∙ c.in_ok-unless.ensures, sym c.good_spacing.ensures ∙ c.in_ok-unless-2.ensures, sym c.good_len.ensures ∙ c.in_ok-unless-3.ensures) (rw (ls, nd) at q.0.says, rw (ls, nd) at q.0.points, rw (ls, nd) at q.0.ends, rw w q.1)
