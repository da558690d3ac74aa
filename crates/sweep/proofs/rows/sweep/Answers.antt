use Rattle.std.proofs.Common.{arith}
use Rattle.edges.specs.TableLaws.{in_length}
use Rattle.sweep.proofs.Split.{same_edges, laid_behind}
use Rattle.sweep.proofs.rows.sweep.Goals as goal

pub lay-requires : goal.lay-requires
lay-requires c =
    let a = c.args in
    let r = c.requires.0 in
    let n = in_length a.e a.floats.now in
    rw (same_edges a.e a.floats.now c.split_at_mut-edges.ensures.front c.new.ensures)
    record { room = omega (arith, n, c.split_at_mut-places.ensures.front_len); edges = omega (arith, n, r.edges); rows = r.rows; strict = c.requires.1 }

pub returns : goal.returns
returns c =
    let a = c.args in
    let r = c.requires.0 in
    let s = c.split_at_mut-edges.ensures in
    let p = c.split_at_mut-places.ensures in
    let l = rw (same_edges a.e a.floats.now s.front c.new.ensures, s.back, p.back) at c.lay.ensures in
    laid_behind a.e _ _ _ r.floats r.wholes s.front (omega (arith, c.lay.auto.places, p.front_len)) l
