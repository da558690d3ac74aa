-- The invariant: what is left is as good as the whole, and the size of the sheet that is reached.
use mathlib.Core.Path.{sym, ◌∙◌}
use native.Mathlib.Omega.{arith}
use lib.ListN.{drop}
use Rattle.seqs.specs.Tests.{passed, failed}
use Rattle.book.specs.BookLaws.{size_five, good_bad, good_twice, good_next, good_end}
use mathlib.Core.Bool.{not}
use mathlib.Core.Path.{ap}
use Rattle.book.proofs.framing.good_book.Goals as goal

pub good_sheet-requires : goal.good_sheet-requires
good_sheet-requires c = (size_five c.args.s.now c.loop-n.at c.in-Some.n c.in-Some.ensures.0 c.in-Some.ensures.1, c.in-Some.ensures.2)

pub returns-then-not-good_sheet : goal.returns-then-not-good_sheet
returns-then-not-good_sheet c =
    let l = c.loop-n in
    sym (sym l.invariant.0 ∙ good_bad c.args.s.now l.at c.in-Some.n c.in-Some.ensures.0 c.in-Some.ensures.1 (failed c.good_sheet.ensures (ap not c.if-not-good_sheet.true)))

pub number_at-number-requires : goal.number_at-number-requires
number_at-number-requires c =
    let f = size_five c.args.s.now c.loop-n.at c.in-Some.n c.in-Some.ensures.0 c.in-Some.ensures.1 in
    (omega (arith, f, c.in-Some.ensures.2), omega arith)

pub returns-then-stands : goal.returns-then-stands
returns-then-stands c =
    let l = c.loop-n in
    sym (sym l.invariant.0 ∙ good_twice c.args.s.now l.at c.in-Some.n c.in-Some.ensures.0 c.in-Some.ensures.1 _ c.number_at-number.ensures.0 (passed c.good_sheet.ensures (ap not c.if-not-good_sheet.false)) (sym c.stands.ensures ∙ c.if-stands.true))

pub loop-n-preserved : goal.loop-n-preserved
loop-n-preserved c =
    let l = c.loop-n in
    (sym (good_next c.args.s.now l.at c.in-Some.n c.in-Some.ensures.0 c.in-Some.ensures.1 _ c.number_at-number.ensures.0 (passed c.good_sheet.ensures (ap not c.if-not-good_sheet.false)) (sym c.stands.ensures ∙ c.if-stands.false)) ∙ l.invariant.0, c.in-Some.ensures.2)

pub returns : goal.returns
returns c =
    let l = c.loop-n in
    c.ends_at.ensures ∙ sym (good_end (drop l.at c.args.s.now) c.in_default.ensures) ∙ l.invariant.0
