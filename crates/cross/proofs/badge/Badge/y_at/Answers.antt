use native.Mathlib.Omega.{arith}
use lib.IntN.{pos, ◌+ℤ◌}
use mir.Syntax.{w64}
use mir.ValLaws.{to_z-of_z}
use Rattle.seqs.specs.Signed.{cast}
use Rattle.patterns_rules.specs.Patterns.{y_at}
use borrow.Author.Rules.{rules}
use Rattle.cross.proofs.badge.Badge.y_at.Goals as goal

pub overflow_cast-r : goal.overflow_cast-r
overflow_cast-r c = record { sfits = omega (arith, c.args.self.laid.rows, c.requires) }

pub overflow_add-self : goal.overflow_add-self
overflow_add-self c = let g = c.args.self.grid in let s = c.args.self.laid in
    rw (to_z-of_z w64 g.top s.top, cast c.args.r 4096 (omega (arith, s.rows, c.requires)) (search rules)) (s.row c.args.r c.requires)

pub returns : goal.returns
unfolding y_at
returns c = let g = c.args.self.grid in let s = c.args.self.laid in
    rw (c.of_i64.ensures, to_z-of_z w64 g.top s.top, cast c.args.r 4096 (omega (arith, s.rows, c.requires)) (search rules), to_z-of_z w64 (g.top +ℤ pos c.args.r) (s.row c.args.r c.requires))
