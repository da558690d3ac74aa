use mathlib.Core.Path.{sym, ◌∙◌}
use native.Mathlib.Omega.{arith}
use lib.ListN.{drop}
use Rattle.book.specs.KeepLaws.{end_on, end_here}
use Rattle.book.proofs.walk.book_end.Goals as goal

pub loop-n-preserved : goal.loop-n-preserved
loop-n-preserved c =
    let l = c.loop-n in
    (sym (end_on c.args.s.now l.at c.in-Some.n c.in-Some.ensures.0 c.in-Some.ensures.1) ∙ l.invariant.0, c.in-Some.ensures.2)

pub returns : goal.returns
returns c =
    let l = c.loop-n in
    (omega (arith, l.invariant.0, end_here (drop l.at c.args.s.now) c.in_default.ensures), l.invariant.1)
