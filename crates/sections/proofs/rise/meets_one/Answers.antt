-- By the neighbours. Assumes nothing.
use Rattle.std.proofs.Common.{rules, ◌≡◌, not, ltb, ◌&&◌, ◌+◌, ◌-◌, ap}
use Rattle.sections.specs.Mark.{under}
use Rattle.sections.specs.RiseLaws.{meets_tested, meets_blocked}
use Rattle.sections.proofs.rise.meets_one.Goals as goal

pub returns-then-not-before : goal.returns-then-not-before
returns-then-not-before c =
    let a = c.args in
    let x : not c.if-l-j.before ≡ not (ltb a.l.s.r0 a.j && under a.l.pieces.now a.o (a.j - 1)) = search rules in
    let y : not c.if-j-l.behind ≡ not (ltb (a.j + 1) a.l.s.r1 && under a.l.pieces.now a.o (a.j + 1)) = search rules in
    meets_tested a.l.pieces.now a.l.s.r0 a.l.s.r1 a.l.here a.o a.j c.requires.0 c.requires.1 c.requires.2 x y (ap not c.if-not-before.true)

pub returns-else-not-before : goal.returns-else-not-before
returns-else-not-before c =
    let a = c.args in
    let x : not c.if-l-j.before ≡ not (ltb a.l.s.r0 a.j && under a.l.pieces.now a.o (a.j - 1)) = search rules in
    rw c.if-not-before.false (meets_blocked a.l.pieces.now a.l.s.r0 a.l.s.r1 a.l.here a.o a.j c.requires.0 c.requires.1 c.requires.2 x (ap not c.if-not-before.false))
