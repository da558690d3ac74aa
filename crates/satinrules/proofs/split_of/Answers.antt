use mathlib.Core.Path.{◌≡◌}
use mathlib.Core.Bool.{true}
use lib.Ieee.{of_bits, eq}
use Rattle.satinrules.specs.Settings.{split_of}
use Rattle.satinrules.proofs.split_of.Goals as goal

pub returns-then-x : goal.returns-then-x
unfolding split_of of_bits
returns-then-x c = let zero : eq c.args.x _ ≡ true = c.if-x.true in rw zero

pub returns-else-x : goal.returns-else-x
unfolding split_of of_bits
returns-else-x c = rw c.if-x.false
