use mathlib.Core.Path.{sym, ◌∙◌}
use native.Mathlib.Omega.{arith}
use lib.ListN.{drop, length-drop}
use Rattle.book.specs.BookLaws.{size_short, size_small, size_past, size_whole, number_here}
use Rattle.book.proofs.walk.size_at.Goals as goal

pub returns-then-s-at-lt2 : goal.returns-then-s-at-lt2
returns-then-s-at-lt2 c = size_short (drop c.args.at c.args.s.now) (omega (arith, length-drop c.args.at c.args.s.now))

pub returns-then-n-lt3 : goal.returns-then-n-lt3
returns-then-n-lt3 c =
    let s = c.args.s.now in
    let at = c.args.at in
    let e = sym (number_here s at 2) ∙ sym c.number_at-n.ensures.0 in
    size_small (drop at s) (omega (arith, length-drop at s)) (omega (arith, e))

pub returns-then-s-at : goal.returns-then-s-at
returns-then-s-at c =
    let s = c.args.s.now in
    let at = c.args.at in
    let e = sym (number_here s at 2) ∙ sym c.number_at-n.ensures.0 in
    size_past (drop at s) (omega (arith, length-drop at s)) (omega (arith, e)) (omega (arith, e, length-drop at s))

pub returns : goal.returns
returns c =
    let s = c.args.s.now in
    let at = c.args.at in
    let e = sym (number_here s at 2) ∙ sym c.number_at-n.ensures.0 in
    (omega (arith, e, size_whole (drop at s) (omega (arith, length-drop at s)) (omega (arith, e)) (omega (arith, e, length-drop at s))), omega arith, omega arith)
