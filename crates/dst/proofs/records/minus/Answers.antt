use Rattle.std.proofs.Common.{◌%◌, ◌/◌, eqb, ◌∙◌, arith}
use Rattle.dst.specs.Records.{minus}
use Rattle.dst.proofs.Bits.{bit_is}
use Rattle.dst.proofs.records.minus.Goals as goal

pub returns : goal.returns
unfolding minus
returns c =
    let b = bit_is (eqb (c.args.t / c.args.w % 3) 0) in
    (c.from.ensures ∙ b.0, omega (arith, b, c.from.ensures))
