use Rattle.std.proofs.Common.{rules, refl}
use Rattle.rowwise.specs.RowLaws.{short_floats, short_wholes, holds}
use Rattle.rowwise.proofs.find.find.Goals as goal
use Rattle.rowwise.proofs.find.find.Goals.{then-floats-pieces-via-then-floats-pieces, then-floats-pieces-via-else-floats-pieces+then-wholes-pieces}

pub returns-then-floats-pieces : goal.returns-then-floats-pieces
returns-then-floats-pieces c =
    let t = c.args.t in
    elim c.then-floats-pieces.branch [
      | then-floats-pieces-via-then-floats-pieces w ↦ record { is = (refl, short_floats t.outline.corners.now t.outline.ends.now t c.all_rows-pieces.ensures _ w.if-floats-pieces.true) }
      | then-floats-pieces-via-else-floats-pieces+then-wholes-pieces w ↦ record { is = (refl, short_wholes t.outline.corners.now t.outline.ends.now t c.all_rows-pieces.ensures _ w.if-wholes-pieces.true) }
    ]

pub returns : goal.returns
returns c = let t = c.args.t in record { is = (refl, holds t.outline.corners.now t.outline.ends.now t c.all_rows-pieces.ensures (search rules) (search rules) (search rules) (search rules)) }
