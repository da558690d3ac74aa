-- `put_stitches` meets its contract: the stitches of the pairs from k on are to be written from `to` on. Assumes nothing.
use mathlib.Core.Path.{◌∙◌}
use Prim.Native.Nat.{◌*◌}
use native.Mathlib.Omega.{arith}
use lib.ListN.{take}
use Rattle.seqs.specs.Front.{front_from, front_at}
use Rattle.seqs.specs.Wrote.{put_end}
use Rattle.geom.specs.Outline.{points}
use Rattle.geom.specs.Sewing.{flat}
use Rattle.geom.specs.SewingLaws.{flat_none}
use Rattle.satinrules.specs.Column.{stitches}
use Rattle.passes.specs.Threads.{pairs_in}
use Rattle.passes.specs.TopLaws.{pair_kept, stitches_start, stitches_none, stitch_room, stitch_put}
use borrow.Author.Rules.{rules}
use Rattle.passes.proofs.top.put_stitches.Goals as goal

pub overflow_mul-to : goal.overflow_mul-to
overflow_mul-to c = omega (arith, c.requires.1, c.well_formed)

pub loop-k-init : goal.loop-k-init
loop-k-init c =
    let a = c.args in
    let s = stitches_start a.w.now a.n (omega (arith, c.requires.1)) a.g c.requires.0 in
    (search rules, rw (c.pair_in-o.ensures, ← s) (front_from a.w.now (flat (stitches a.g (pairs_in (points (take (4 * a.n) a.w.now))))) (4 * a.n) (omega (arith, c.requires.1))))

pub pair_in-q-requires : goal.pair_in-q-requires
pair_in-q-requires c = omega (arith, c.requires.1, c.loop-k.invariant.1.len)

pub put_pair-requires : goal.put_pair-requires
put_pair-requires c =
    let a = c.args in
    let l = c.loop-k in
    stitch_room a.w.now a.n (omega (arith, c.requires.1)) c.requires.1 a.g l.second l.o l.k (search rules) l.invariant.1

pub overflow_add-to : goal.overflow_add-to
overflow_add-to c =
    let a = c.args in
    let l = c.loop-k in
    omega (arith, stitch_room a.w.now a.n (omega (arith, c.requires.1)) c.requires.1 a.g l.second l.o l.k (search rules) l.invariant.1, l.invariant.1.len, c.well_formed)

pub loop-k-preserved : goal.loop-k-preserved
loop-k-preserved c =
    let a = c.args in
    let l = c.loop-k in
    let q = c.pair_in-q.ensures ∙ pair_kept a.w.now a.n (omega (arith, c.requires.1)) (flat (stitches a.g (pairs_in (points (take (4 * a.n) a.w.now))))) l.invariant.1 l.invariant.0 l.k (search rules) in
    let e = rw (c.stitch.ensures, q) at c.put_pair.ensures in
    (search rules, rw q (stitch_put a.w.now a.n (omega (arith, c.requires.1)) c.requires.1 a.g l.second l.o l.k (search rules) l.invariant.1 _ e))

pub shape_of-w : goal.shape_of-w
shape_of-w c = c.loop-k.invariant.1.len

pub returns : goal.returns
returns c =
    let a = c.args in
    let l = c.loop-k in
    (put_end (flat (stitches a.g (pairs_in (points (take (4 * a.n) a.w.now))))) (4 * a.n) (omega (arith, c.requires.1)) (front_at (flat_none (stitches_none a.w.now a.n (omega (arith, c.requires.1)) a.g l.second l.o l.k (search rules))) l.invariant.1)).0
