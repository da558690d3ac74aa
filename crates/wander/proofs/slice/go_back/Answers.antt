-- `go_back` meets its contract. Assumes nothing.
use Rattle.wander.specs.SliceLaws.{back_end, back_stepped}
use borrow.Author.Rules.{rules}
use Rattle.wander.proofs.slice.go_back.Goals as goal

pub returns-then-top-n : goal.returns-then-top-n
returns-then-top-n c = back_stepped c.args.n c.args.w.now c.args.s c.requires.0 c.requires.2 (search rules) (c.requires.3 (search rules))

pub returns : goal.returns
returns c = back_end c.args.n c.args.w.now c.args.s c.requires.0 c.requires.2 (search rules)
