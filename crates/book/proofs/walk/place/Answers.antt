use mathlib.Core.Path.{sym, ◌∙◌}
use mathlib.Core.Logic.{inl, inr}
use native.Mathlib.Omega.{arith}
use borrow.Author.Tests.{ne_eqb}
use Rattle.book.specs.BookLaws.{way_start, way_on, size_five, number_of_at}
use borrow.Author.Rules.{rules}
use Rattle.book.proofs.walk.place.Goals as goal

pub loop-n-init : goal.loop-n-init
loop-n-init c = way_start _ _

pub size_at-requires : goal.size_at-requires
size_at-requires c = c.loop-n.invariant.fits

pub overflow_add-at : goal.overflow_add-at
overflow_add-at c = let f = size_five c.args.s.now c.loop-n.at c.in-Some.n c.in-Some.ensures.0 c.in-Some.ensures.1 in search rules

pub number_at-requires : goal.number_at-requires
number_at-requires c =
    let f = size_five c.args.s.now c.loop-n.at c.in-Some.n c.in-Some.ensures.0 c.in-Some.ensures.1 in
    (omega (arith, f, c.in-Some.ensures.2), omega arith)

pub returns-then-number_at-sought : goal.returns-then-number_at-sought
returns-then-number_at-sought c = record { way = c.loop-n.invariant; here = inr (sym (number_of_at c.args.s.now c.loop-n.at) ∙ sym c.number_at.ensures.0 ∙ c.if-number_at-sought.true ∙ c.from-sought.ensures) }

pub loop-n-preserved : goal.loop-n-preserved
loop-n-preserved c = way_on _ c.args.s.now c.loop-n.at c.in-Some.n c.loop-n.invariant c.in-Some.ensures.0 c.in-Some.ensures.1 (ne_eqb _ _ (λ e. c.if-number_at-sought.false (c.number_at.ensures.0 ∙ number_of_at c.args.s.now c.loop-n.at ∙ e ∙ sym c.from-sought.ensures)))

pub returns : goal.returns
returns c = record { way = c.loop-n.invariant; here = inl c.in_default.ensures }
