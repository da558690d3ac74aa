use mathlib.Core.Path.{sym}
use Prim.Native.Nat.{◌+◌}
use native.Mathlib.Omega.{arith}
use Rattle.seqs.specs.Capped.{capped_in, capped_over}
use Rattle.geom.proofs.sewing.add_within.Goals as goal

pub returns-then-c-room : goal.returns-then-c-room
returns-then-c-room c = sym (capped_over c.args.room (c.args.c + c.args.s) (omega arith))

pub returns-then-s-room : goal.returns-then-s-room
returns-then-s-room c = sym (capped_over c.args.room (c.args.c + c.args.s) (omega arith))

pub returns : goal.returns
returns c = sym (capped_in c.args.room (c.args.c + c.args.s) (omega arith))
