-- `pieces_of` meets its contract: pieces between those that tell as many, or none. Assumes nothing.
use mathlib.Core.Path.{refl}
use lib.Ieee.{of_bits}
use Rattle.polyline.specs.AlikeLaws.{told_none}
use borrow.Author.Rules.{rules}
use Rattle.polyline.proofs.alike.pieces_of.Goals as goal

pub returns-then-alike-n : goal.returns-then-alike-n
returns-then-alike-n c = (rw c.if-alike-n.true at (c.alike.ensures (rw c.if-alike-n.true (search rules))), refl)

pub returns-else-alike-n : goal.returns-else-alike-n
unfolding of_bits
returns-else-alike-n c = (told_none c.args.len c.args.n, refl)

pub returns-else-n-gt0 : goal.returns-else-n-gt0
unfolding of_bits
returns-else-n-gt0 c = (told_none c.args.len c.args.n, refl)
