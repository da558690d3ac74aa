-- `put_rails` meets its contract: one rail's running lengths after the other's. Assumes nothing.
use mathlib.Core.Path.{ap, ◌∙◌}
use native.Mathlib.Omega.{arith}
use Prim.Native.Nat.{◌/◌}
use lib.ListN.{length}
use Rattle.seqs.specs.Put.{put_then, put_length}
use Rattle.geom.specs.Outline.{points}
use Rattle.satinrules.specs.Arc.{lengths}
use Rattle.pairing.specs.StoreLaws.{rail_count, rails_size, laid_made}
use Rattle.pairing.proofs.store.put_rails.Goals as goal

pub put_lengths-requires : goal.put_lengths-requires
put_lengths-requires c = omega (arith, c.requires.1, rail_count c.args.a.now)

pub put_lengths-requires-2 : goal.put_lengths-requires-2
put_lengths-requires-2 c =
    let a = c.args in
    let s = ap length c.put_lengths.ensures ∙ put_length a.rails.now (lengths (points a.a.now)) 0 (omega (arith, c.requires.1, rail_count a.a.now)) in
    omega (arith, c.requires.1, s, rail_count a.b.now)

pub shape_of-rails : goal.shape_of-rails
shape_of-rails c =
    let a = c.args in
    rails_size a.a.now a.b.now a.rails.now c.requires.1 _ (put_then a.rails.now _ _ (lengths (points a.a.now)) (lengths (points a.b.now)) 0 (length a.a.now / 2) (omega (arith, c.requires.1, rail_count a.a.now)) c.put_lengths.ensures (omega (arith, rail_count a.a.now)) c.put_lengths-2.ensures)

pub returns : goal.returns
returns c =
    let a = c.args in
    laid_made a.a.now a.b.now a.rails.now c.requires.1 _ (put_then a.rails.now _ _ (lengths (points a.a.now)) (lengths (points a.b.now)) 0 (length a.a.now / 2) (omega (arith, c.requires.1, rail_count a.a.now)) c.put_lengths.ensures (omega (arith, rail_count a.a.now)) c.put_lengths-2.ensures) c.requires.0
