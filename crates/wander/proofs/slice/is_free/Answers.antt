-- `is_free` meets its contract. Assumes nothing.
use native.Mathlib.Omega.{arith}
use Prim.Native.Nat.{◌≤◌}
use lib.ListN.{length, take, get_or-eq_default}
use lib.Seq.{get_or-take, length-take-le}
use borrow.Author.Tests.{le-ltb}
use Rattle.meander_rules.specs.Meander.{is_free}
use borrow.Author.Rules.{rules}
use Rattle.wander.proofs.slice.is_free.Goals as goal

pub returns-then-k-n : goal.returns-then-k-n
unfolding is_free
returns-then-k-n c = rw (get_or-take c.args.n c.args.w.now c.args.k 0 (search rules))

pub returns-else-k-n : goal.returns-else-k-n
unfolding is_free
returns-else-k-n c = let h : length (take c.args.n c.args.w.now) ≤ c.args.k = omega (arith, length-take-le c.args.n c.args.w.now c.requires, c.if-k-n.false) in rw (le-ltb c.args.k c.args.n c.if-k-n.false, get_or-eq_default (take c.args.n c.args.w.now) 0 h)
