use lib.Ieee.{of_bits, round}
use Rattle.std.proofs.Common.{inl, inr}
use Rattle.numbers.specs.Num.{literal}
use Rattle.satinrules.specs.Column.{spaced}
use Rattle.passes.proofs.top.spaced.Goals as goal

pub returns-in-Plain : goal.returns-in-Plain
unfolding spaced
returns-in-Plain c = elim c.in-Plain.is [ inl e ↦ rw e | inr e ↦ rw e ]

pub returns-in-Zigzag : goal.returns-in-Zigzag
unfolding literal of_bits round spaced
returns-in-Zigzag c = rw c.in-Zigzag.is
