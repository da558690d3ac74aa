-- From the last piece back. Assumes nothing.
use Prim.Native.Nat.{◌≤◌}
use Rattle.sewing.specs.Sewing.{numbers_in, Linking}
use Rattle.sewing.proofs.links.chain.Given as goal

abbrev pub invariant-loop-i : goal.invariant-loop-i
invariant-loop-i l = (l.i ≤ l.n) × Linking l.n l.sections l.i (numbers_in l.n l.initial.wholes) l.initial.wholes l.wholes
