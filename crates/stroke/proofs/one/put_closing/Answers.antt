use mathlib.Core.Path.{ap, ◌∙◌}
use native.Mathlib.Omega.{arith}
use lib.ListN.{length}
use Rattle.seqs.specs.Put.{put_none}
use Rattle.polyline.specs.Line.{piece}
use Rattle.geom.specs.SewingLaws.{flat_length, flat_none}
use Rattle.polyline.proofs.LineLaws.{piece_length}
use Rattle.stroke.specs.Closing.{closing}
use Rattle.stroke.proofs.Closing.{closing_on, closing_short, closing_open}
use borrow.Author.Rules.{rules}
use Rattle.stroke.proofs.one.put_closing.Goals as goal

pub put_piece-requires : goal.put_piece-requires
put_piece-requires c =
    let a = c.args in
    let n = rw (c.corner-a.ensures, c.corner-b.ensures) at c.piece_steps.ensures in
    let e = ap length (closing_on a.line.now a.closed a.len c.if-closed.true (search rules)) ∙ piece_length _ _ a.len in
    omega (arith, c.requires, flat_length (closing a.line.now a.closed a.len), e, n)

pub returns-then-n-gt2 : goal.returns-then-n-gt2
unfolding piece
returns-then-n-gt2 c =
    let a = c.args in
    let e = closing_on a.line.now a.closed a.len c.if-closed.true (search rules) in
    rw (e, ← c.corner-a.ensures, ← c.corner-b.ensures, ← c.piece_steps.ensures) c.put_piece.ensures.0

pub returns-else-n-gt2 : goal.returns-else-n-gt2
returns-else-n-gt2 c =
    let a = c.args in
    rw (flat_none (closing_short a.line.now a.closed a.len c.if-closed.true (search rules))) (put_none a.out.now a.k (omega (arith, c.requires)))

pub returns-else-closed : goal.returns-else-closed
returns-else-closed c =
    let a = c.args in
    rw (flat_none (closing_open a.line.now a.closed a.len c.if-closed.false)) (put_none a.out.now a.k (omega (arith, c.requires)))
