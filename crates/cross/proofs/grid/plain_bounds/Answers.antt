-- `plain_bounds` meets its contract: the corners that are left are still to widen bounds that are alike. Assumes nothing.
use mathlib.Core.Path.{refl, subst}
use mathlib.Core.Logic.{inl}
use lib.Ieee.{is_nan, of_bits}
use Rattle.patterns_rules.specs.declared.Bounds.{Bounds}
use Rattle.patterns_rules.specs.Patterns.{widen, nowhere}
use Rattle.cross.specs.Cells.{Alike}
use Rattle.cross.specs.SideLaws.{least_side, most_side}
use Rattle.cross.proofs.grid.plain_bounds.Goals as goal

pub loop-q-init : goal.loop-q-init
unfolding is_nan of_bits
loop-q-init c =
    rw (c.into_iter-q-iterator.ensures.into_iter_gives, c.of-q-items.ensures)
    (nowhere, record { left = record { number = tt; like = inl refl }; top = record { number = tt; like = inl refl }; right = record { number = tt; like = inl refl }; bottom = record { number = tt; like = inl refl } }, refl)

pub loop-q-preserved : goal.loop-q-preserved
loop-q-preserved c =
    let l = c.loop-q in
    let b = l.invariant.0 in
    let i = l.invariant.1 in
    let q = c.in-Some.q in (
      widen q b,
      record {
        left = rw c.least-left.ensures (least_side l.left b.left q.x i.left);
        top = rw c.least-top.ensures (least_side l.top b.top q.y i.top);
        right = rw c.most-right.ensures (most_side l.right b.right q.x i.right);
        bottom = rw c.most-bottom.ensures (most_side l.bottom b.bottom q.y i.bottom);
      },
      rw c.in-Some.ensures.steps at l.invariant.2,
    )

pub returns : goal.returns
returns c =
    let l = c.loop-q in
    let e = rw c.in-None.ensures.steps.0 at l.invariant.2 in
    subst (λ (v : Bounds). Alike (record { left = l.left; top = l.top; right = l.right; bottom = l.bottom }) v) e l.invariant.1
