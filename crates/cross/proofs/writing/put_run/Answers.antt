use native.Mathlib.Omega.{arith}
use mathlib.Core.Path.{sym, ap, ◌∙◌}
use mathlib.Core.List.{reverse}
use Prim.Native.Nat.{◌+◌, ◌*◌}
use lib.ListN.{length}
use Rattle.seqs.specs.Lists.{upto, each}
use Rattle.seqs.specs.Upto.{upto_length}
use Rattle.seqs.specs.Slices.{put}
use Rattle.seqs.specs.Put.{put_then, put_length}
use Rattle.geom.specs.Sewing.{flat}
use Rattle.geom.specs.SewingLaws.{flat_length, flat_append}
use Rattle.patterns_rules.specs.Patterns.{out_over, back_over, out_and_back}
use Rattle.cross.specs.RowLaws.{half_out}
use Rattle.cross.proofs.writing.put_run.Goals as goal

pub put_out-requires : goal.put_out-requires
put_out-requires c = (c.requires.0, omega (arith, c.requires.1))

pub put_back-requires : goal.put_back-requires
put_back-requires c = let a = c.args in
    let cells = upto a.run.first a.run.many in
    let e = ap length c.put_out.ensures ∙ put_length a.out.now (flat (each (out_over a.badge.grid a.y) cells)) a.k (omega (arith, c.requires.1, flat_length (each (out_over a.badge.grid a.y) cells), half_out a.badge.grid a.y cells, upto_length a.run.first a.run.many)) in
    (c.requires.0, omega (arith, e, c.requires.1))

pub returns : goal.returns
unfolding out_and_back
returns c = let a = c.args in
    let cells = upto a.run.first a.run.many in
    let x = each (out_over a.badge.grid a.y) cells in
    let y = each (back_over a.badge.grid a.y) (reverse cells) in
    put_then a.out.now _ _ (flat x) (flat y) a.k (a.k + 4 * a.run.many) (omega (arith, c.requires.1, flat_length x, half_out a.badge.grid a.y cells, upto_length a.run.first a.run.many)) c.put_out.ensures (omega (arith, flat_length x, half_out a.badge.grid a.y cells, upto_length a.run.first a.run.many)) c.put_back.ensures ∙ ap (put a.out.now a.k) (sym (flat_append x y))
