use mathlib.Core.Path.{sym, ap}
use lib.ListN.{length}
use Rattle.polyline.proofs.LineLaws.{piece_length}
use Rattle.stroke.proofs.Closing.{closing_on, closing_short, closing_open}
use borrow.Author.Rules.{rules}
use Rattle.stroke.proofs.one.closing_steps.Goals as goal

pub returns-then-n-gt2 : goal.returns-then-n-gt2
returns-then-n-gt2 c =
    let a = c.args in
    rw (closing_on a.line.now a.closed a.len c.if-closed.true (search rules), piece_length, ← c.corner.ensures, ← c.corner-then-n-gt2.ensures) c.piece_steps.ensures

pub returns-else-n-gt2 : goal.returns-else-n-gt2
returns-else-n-gt2 c = sym (ap length (closing_short c.args.line.now c.args.closed c.args.len c.if-closed.true (search rules)))

pub returns-else-closed : goal.returns-else-closed
returns-else-closed c = sym (ap length (closing_open c.args.line.now c.args.closed c.args.len c.if-closed.false))
