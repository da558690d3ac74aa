-- The limits decide, or the root. Assumes nothing.
use Rattle.std.proofs.Common.{sym, subst, T}
use Rattle.sewing.specs.Sewing.{cuts_for}
use Rattle.sewing.proofs.stitch.cuts_for.Goals as goal

pub returns-then-d-m : goal.returns-then-d-m
returns-then-d-m c = sym ((c.args.t.now.decide _ c.in-Some.is).none c.args.d (subst T (sym c.well_formed.0.1) tt) c.if-d-m.true)

pub returns-then-d-m-2 : goal.returns-then-d-m-2
returns-then-d-m-2 c = sym ((c.args.t.now.decide _ c.in-Some.is).once c.args.d (subst T (sym c.well_formed.0.1) tt) c.if-m-d.true c.if-d-m-2.true)

pub returns : goal.returns
unfolding cuts_for
returns c = rw c.root.ensures at c.cuts_at.ensures
