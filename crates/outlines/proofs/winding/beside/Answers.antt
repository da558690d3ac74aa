use mathlib.Core.Path.{◌≡◌}
use mathlib.Core.Bool.{true}
use Prim.Native.Nat.{◌*◌, ◌+◌}
use lib.ListN.{get_or}
use lib.Ieee.{nan, lt, le}
use Rattle.outlines.proofs.Blocks.{beside_above, beside_below, beside_left}
use Rattle.outlines.proofs.winding.beside.Goals as goal

pub returns-then-p-t : goal.returns-then-p-t
returns-then-p-t c =
    let above : lt c.args.p.y (get_or c.args.t.now (3 * c.args.b) nan) ≡ true = c.if-p-t.true in
    λ h. beside_above c.args.t.now c.args.b c.args.p above

pub returns-then-t-k : goal.returns-then-t-k
returns-then-t-k c =
    let below : le (get_or c.args.t.now (3 * c.args.b + 1) nan) c.args.p.y ≡ true = c.if-t-k.true in
    λ h. beside_below c.args.t.now c.args.b c.args.p below

pub returns : goal.returns
returns c =
    λ h.
    let r = c.right_of.ensures h in
    beside_left c.args.t.now c.args.b c.args.p r.0 r.1 r.2
