use mathlib.Core.Path.{sym, subst, ◌∙◌}
use Prim.Native.Nat.{◌≤◌}
use native.Mathlib.Omega.{arith}
use lib.Dec.{T}
use Rattle.numbers.specs.Rounding.{rounded}
use Rattle.dst.specs.LiftedLaws.{lowered_up, lowered_down}
use Rattle.dst.specs.RoundingLaws.{nearest_small, nearest_counted}
use Rattle.dst.proofs.rounding.lifted.Goals as goal

pub returns-then-is_negative : goal.returns-then-is_negative
unfolding rounded
returns-then-is_negative c =
    let is = c.nearest-n.ensures ∙ nearest_counted c.args.x c.requires in
    let small : c.nearest-n.result ≤ 100000 = rw is (nearest_small c.args.x (subst T (sym c.well_formed.0.1) tt) c.requires) in
    (rw (sym c.is_negative.ensures ∙ c.if-is_negative.true, ← is) (lowered_down c.nearest-n.result small), omega arith)

pub returns : goal.returns
unfolding rounded
returns c =
    let is = c.nearest-n.ensures ∙ nearest_counted c.args.x c.requires in
    let small : c.nearest-n.result ≤ 100000 = rw is (nearest_small c.args.x (subst T (sym c.well_formed.0.1) tt) c.requires) in
    (rw (sym c.is_negative.ensures ∙ c.if-is_negative.false, ← is) (lowered_up c.nearest-n.result), omega arith)

pub overflow_sub-result : goal.overflow_sub-result
overflow_sub-result c =
    let is = c.nearest-n.ensures ∙ nearest_counted c.args.x c.requires in
    let small : c.nearest-n.result ≤ 100000 = rw is (nearest_small c.args.x (subst T (sym c.well_formed.0.1) tt) c.requires) in
    omega arith

pub overflow_add-result : goal.overflow_add-result
overflow_add-result c =
    let is = c.nearest-n.ensures ∙ nearest_counted c.args.x c.requires in
    let small : c.nearest-n.result ≤ 100000 = rw is (nearest_small c.args.x (subst T (sym c.well_formed.0.1) tt) c.requires) in
    omega arith
