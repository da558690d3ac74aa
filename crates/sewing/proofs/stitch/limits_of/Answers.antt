-- Three squares whose roots are known, or none. Assumes nothing.
use native.Mathlib.Omega.{arith}
use Rattle.sewing.specs.Sewing.{Decides}
use Rattle.sewing.proofs.Shortcut.{limits_told, for_some}
use Rattle.sewing.proofs.stitch.limits_of.Goals as goal

pub returns-then-cuts_at-le1 : goal.returns-then-cuts_at-le1
returns-then-cuts_at-le1 c =
    for_some (Decides c.args.len) _ (limits_told c.args.len _ _ (c.is_own_root.ensures c.if-is_own_root.true) (c.is_own_root-then-is_own_root.ensures c.if-is_own_root-2.true) (c.is_own_root-then-is_own_root-2.ensures c.if-is_own_root-3.true) (omega (arith, c.cuts_at.ensures, c.if-cuts_at-eq0.true)) (omega (arith, c.cuts_at-then-cuts_at-eq0.ensures, c.if-cuts_at-ge1.true)) (omega (arith, c.cuts_at-then-cuts_at-ge1.ensures, c.if-cuts_at-le1.true)))
