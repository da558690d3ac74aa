use Prim.Native.Nat.{◌-◌}
use native.Mathlib.Omega.{arith}
use Rattle.dst.specs.LiftedLaws.{cut_most, cut_up, cut_down}
use Rattle.dst.proofs.way.cut.Goals as goal

pub returns-then-a-b : goal.returns-then-a-b
returns-then-a-b c = let p = c.requires in let a = c.args in (cut_up a.a a.b a.n a.i (omega arith), omega (arith, cut_most a.i a.n (a.b - a.a) p.2 p.3))

pub returns : goal.returns
returns c = let p = c.requires in let a = c.args in let m = cut_most a.i a.n (a.a - a.b) p.2 p.3 in (cut_down a.a a.b a.n a.i (omega arith) (omega arith), omega arith)
