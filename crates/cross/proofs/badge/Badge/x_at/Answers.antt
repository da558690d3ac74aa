use native.Mathlib.Omega.{arith}
use lib.IntN.{pos, ◌+ℤ◌}
use mir.Syntax.{w64}
use mir.ValLaws.{to_z-of_z}
use Rattle.seqs.specs.Signed.{cast}
use Rattle.patterns_rules.specs.Patterns.{x_at}
use borrow.Author.Rules.{rules}
use Rattle.cross.proofs.badge.Badge.x_at.Goals as goal

pub overflow_cast-i : goal.overflow_cast-i
overflow_cast-i c = record { sfits = omega (arith, c.args.self.laid.columns, c.requires) }

pub overflow_add-self : goal.overflow_add-self
overflow_add-self c = let g = c.args.self.grid in let s = c.args.self.laid in
    rw (to_z-of_z w64 g.left s.left, cast c.args.i 4096 (omega (arith, s.columns, c.requires)) (search rules)) (s.column c.args.i c.requires)

pub returns : goal.returns
unfolding x_at
returns c = let g = c.args.self.grid in let s = c.args.self.laid in
    rw (c.of_i64.ensures, to_z-of_z w64 g.left s.left, cast c.args.i 4096 (omega (arith, s.columns, c.requires)) (search rules), to_z-of_z w64 (g.left +ℤ pos c.args.i) (s.column c.args.i c.requires))
