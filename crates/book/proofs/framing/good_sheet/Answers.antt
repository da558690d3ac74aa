use mathlib.Core.Path.{sym}
use Rattle.book.specs.BookLaws.{sheet_one, sheet_other}
use Rattle.book.proofs.framing.good_sheet.Goals as goal

pub returns-then-version-eq1 : goal.returns-then-version-eq1
returns-then-version-eq1 c = sym (sheet_one c.args.s.now c.args.at c.args.n c.requires.0 c.requires.1 c.if-version-eq1.true)

pub returns : goal.returns
returns c = sym (sheet_other c.args.s.now c.args.at c.args.n c.requires.0 c.requires.1 c.if-version-eq1.false)
