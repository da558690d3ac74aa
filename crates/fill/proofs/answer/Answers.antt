-- One listing, or two by the version byte. Assumes nothing.
use Rattle.fill.proofs.Lines.{printed_short, printed_two, printed_one}
use borrow.Author.Rules.{rules}
use Rattle.fill.proofs.answer.Goals as goal

pub returns-then-bytes-lt5 : goal.returns-then-bytes-lt5
returns-then-bytes-lt5 c = record { out_after = rw (printed_short c.args.bytes.now c.if-bytes-lt5.true) c.answer1.ensures.out_after; value = rw (printed_short c.args.bytes.now c.if-bytes-lt5.true) c.answer1.ensures.value }

pub returns-then-bytes-eq2 : goal.returns-then-bytes-eq2
returns-then-bytes-eq2 c = record { out_after = rw (printed_two c.args.bytes.now c.if-bytes-lt5.false c.if-bytes-eq2.true) c.answer2.ensures.out_after; value = rw (printed_two c.args.bytes.now c.if-bytes-lt5.false c.if-bytes-eq2.true) c.answer2.ensures.value }

pub returns : goal.returns
returns c = record { out_after = rw (printed_one c.args.bytes.now c.if-bytes-lt5.false c.if-bytes-eq2.false) c.answer1-2.ensures.out_after; value = rw (printed_one c.args.bytes.now c.if-bytes-lt5.false c.if-bytes-eq2.false) c.answer1-2.ensures.value }
