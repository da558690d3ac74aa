-- `add` meets its contract: the count past half the slice, or under it and exact. Assumes nothing.
use mathlib.Core.Path.{◌≡◌, ap, ◌∙◌}
use Prim.Native.Nat.{◌*◌, ◌/◌, ◌≤◌}
use native.Mathlib.Omega.{arith}
use lib.ListN.{length}
use Rattle.seqs.specs.Wrote.{wrote_full}
use Rattle.geom.specs.Sewing.{flat}
use Rattle.geom.specs.SewingLaws.{flat_length}
use Rattle.clip.specs.Clip.{added}
use Rattle.trail.specs.Trail.{held}
use Rattle.trail.specs.Parts.{held_min, held_most, held_back, put_wrote}
use borrow.Author.Rules.{rules}
use Rattle.trail.proofs.pen.add.Goals as goal

pub returns-then-to-out : goal.returns-then-to-out
returns-then-to-out c =
    let a = c.args in
    let ps = added a.kept a.on a.p a.q in
    let e : c.saturating_add-to.result ≡ held a.n (length ps) = c.saturating_add-to.ensures ∙ held_min a.n c.added.result ∙ ap (held a.n) c.added.ensures.0 in
    (wrote_full a.out.now (flat ps) (2 * a.n) (omega (arith, e, flat_length ps, held_most a.n (length ps))), e)

pub put_added-requires : goal.put_added-requires
put_added-requires c =
    let a = c.args in
    let ps = added a.kept a.on a.p a.q in
    let e : c.saturating_add-to.result ≡ held a.n (length ps) = c.saturating_add-to.ensures ∙ held_min a.n c.added.result ∙ ap (held a.n) c.added.ensures.0 in
    let few : c.saturating_add-to.result ≤ length a.out.now / 2 = search rules in
    omega (arith, e, flat_length ps, held_back a.n (length ps) (omega (arith, e, few)))

pub returns : goal.returns
returns c =
    let a = c.args in
    let ps = added a.kept a.on a.p a.q in
    let e : c.saturating_add-to.result ≡ held a.n (length ps) = c.saturating_add-to.ensures ∙ held_min a.n c.added.result ∙ ap (held a.n) c.added.ensures.0 in
    let few : c.saturating_add-to.result ≤ length a.out.now / 2 = search rules in
    (put_wrote a.out.now (flat ps) (2 * a.n) (omega (arith, e, flat_length ps, held_back a.n (length ps) (omega (arith, e, few)))) c.put_added.ensures, e)
