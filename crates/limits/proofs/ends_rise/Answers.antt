use mathlib.Core.Path.{sym, ◌∙◌}
use borrow.Author.Tests.{lt-leb, le-leb}
use Rattle.geom.specs.OutlineLaws.{rising_next, rising_none}
use borrow.Author.Rules.{rules}
use Rattle.limits.proofs.ends_rise.Goals as goal

pub returns-then-e-a : goal.returns-then-e-a
returns-then-e-a c =
    let l = c.loop-e in
    sym (rw (lt-leb _ _ c.if-e-a.true) at (rising_next l.a c.args.ends.now l.e-index c.args.n (search rules))) ∙ l.invariant

pub loop-e-preserved : goal.loop-e-preserved
loop-e-preserved c =
    let l = c.loop-e in
    sym (rw (le-leb _ _ c.if-e-a.false) at (rising_next l.a c.args.ends.now l.e-index c.args.n (search rules))) ∙ l.invariant

pub returns : goal.returns
returns c =
    let l = c.loop-e in
    sym (rising_none l.a c.args.ends.now l.e-index c.args.n (search rules)) ∙ l.invariant
