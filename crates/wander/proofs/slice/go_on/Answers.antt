-- `go_on` meets its contract. Assumes nothing.
use Rattle.wander.specs.SliceLaws.{second_room, third_room, on_stepped}
use Rattle.wander.proofs.slice.go_on.Goals as goal

pub bounds-w-top : goal.bounds-w-top
bounds-w-top c = second_room c.args.n c.args.w.now c.args.s c.requires.0 c.args.k c.requires.1 c.requires.2 c.requires.3

pub bounds-w-at : goal.bounds-w-at
bounds-w-at c = third_room c.args.n c.args.w.now c.args.s c.requires.0 c.args.k c.requires.1 c.requires.2 c.requires.3

pub returns : goal.returns
returns c = on_stepped c.args.n c.args.w.now c.args.s c.requires.0 c.args.k c.requires.1 c.requires.2 c.requires.3
