use mathlib.Core.Path.{sym, ◌∙◌}
use Rattle.cross.specs.GridLaws.{grid_some, grid_none}
use Rattle.seqs.specs.Signed.{cast_back}
use Rattle.cross.proofs.grid.grid_of.Goals as goal

pub returns-then-is_finite : goal.returns-then-is_finite
returns-then-is_finite c =
    let l = cast_back c.floor.result c.to_i64-left.ensures in
    let t = cast_back c.floor-2.result c.to_i64-top.ensures in
    let r = cast_back c.ceil.result c.to_i64.ensures in
    let d = cast_back c.ceil-then-is_finite.result c.to_i64-then-is_finite.ensures in
    rw (← c.bounds-b.ensures, l, t) (grid_some c.bounds-b.result c.args.cell c.floor.ensures c.to_i64-left.ensures c.floor-2.ensures c.to_i64-top.ensures (sym c.is_finite.ensures ∙ c.if-is_finite.true) c.ceil.ensures c.to_i64.ensures c.ceil-then-is_finite.ensures c.to_i64-then-is_finite.ensures (rw (l, r) at c.how_many-columns.ensures) (rw (t, d) at c.how_many-rows.ensures))

pub returns : goal.returns
returns c =
    let l = cast_back c.floor.result c.to_i64-left.ensures in
    let t = cast_back c.floor-2.result c.to_i64-top.ensures in
    rw (← c.bounds-b.ensures, l, t) (grid_none c.bounds-b.result c.args.cell c.floor.ensures c.to_i64-left.ensures c.floor-2.ensures c.to_i64-top.ensures (sym c.is_finite.ensures ∙ c.if-is_finite.false))
