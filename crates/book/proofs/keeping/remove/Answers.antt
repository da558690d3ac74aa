use mathlib.Core.Path.{◌≡◌, sym, ◌∙◌}
use native.Mathlib.Omega.{arith}
use borrow.Author.Tests.{eqb-true, eqb-false}
use Rattle.std.specs.Prelude.{Err}
use Rattle.refusal.specs.declared.Refusal.TheVariants.{Layout, Version}
use Rattle.book.specs.BookLaws.{size_five}
use Rattle.book.specs.KeepLaws.{remove_layout, remove_absent, remove_later, remove_done, removed_left, end_below}
use borrow.Author.Rules.{rules}
use Rattle.book.proofs.keeping.remove.Goals as goal

pub returns-in_err-unless : goal.returns-in_err-unless
returns-in_err-unless c = let r : c.from_residual.result ≡ Err Layout = search rules in let e = remove_layout c.args.number c.args.book.now (sym c.good_book.ensures ∙ c.in_err-unless.ensures.1) in rw r (record { value = sym e.0; book_after = sym e.1 })

pub size_at-requires : goal.size_at-requires
size_at-requires c = c.place-at.ensures.way.fits

pub returns-in_default : goal.returns-in_default
returns-in_default c =
    let e = remove_absent c.args.number c.args.book.now (sym c.good_book.ensures ∙ c.in_ok-unless.ensures) c.place-at.result c.place-at.ensures c.in_default.ensures in record { value = sym e.0; book_after = sym e.1 }

pub overflow_add-at : goal.overflow_add-at
overflow_add-at c = let f = size_five c.args.book.now c.place-at.result c.in-Some.n c.in-Some.ensures.0 c.in-Some.ensures.1 in search rules

pub bounds-book-at : goal.bounds-book-at
bounds-book-at c =
    let f = size_five c.args.book.now c.place-at.result c.in-Some.n c.in-Some.ensures.0 c.in-Some.ensures.1 in
    omega (arith, f, c.in-Some.ensures.2)

pub returns-in_err-unless-2 : goal.returns-in_err-unless-2
returns-in_err-unless-2 c = let r : c.from_residual-in_err-unless-2.result ≡ Err Version = search rules in
    let e = remove_later c.args.number c.args.book.now (sym c.good_book.ensures ∙ c.in_ok-unless.ensures) c.place-at.result c.place-at.ensures c.in-Some.n c.in-Some.ensures.0 c.in-Some.ensures.1 (eqb-false _ 1 c.in_err-unless-2.ensures.1) in rw r (record { value = sym e.0; book_after = sym e.1 })

pub move_down-requires : goal.move_down-requires
move_down-requires c =
    let f = end_below c.args.number c.args.book.now (sym c.good_book.ensures ∙ c.in_ok-unless.ensures) c.place-at.result c.place-at.ensures c.in-Some.n c.in-Some.ensures.0 c.in-Some.ensures.1 (eqb-true _ 1 c.in_ok-unless-2.ensures) c.book_end-end.result c.book_end-end.ensures.0 c.book_end-end.ensures.1 in
    (omega arith, f, c.book_end-end.ensures.1)

pub overflow_sub-end : goal.overflow_sub-end
overflow_sub-end c =
    let f = end_below c.args.number c.args.book.now (sym c.good_book.ensures ∙ c.in_ok-unless.ensures) c.place-at.result c.place-at.ensures c.in-Some.n c.in-Some.ensures.0 c.in-Some.ensures.1 (eqb-true _ 1 c.in_ok-unless-2.ensures) c.book_end-end.result c.book_end-end.ensures.0 c.book_end-end.ensures.1 in
    search rules

pub zero_from-requires : goal.zero_from-requires
zero_from-requires c = omega (arith, c.book_end-end.ensures.1, c.move_down.ensures.1)

pub returns : goal.returns
returns c =
    let e = remove_done c.args.number c.args.book.now (sym c.good_book.ensures ∙ c.in_ok-unless.ensures) c.place-at.result c.place-at.ensures c.in-Some.n c.in-Some.ensures.0 c.in-Some.ensures.1 (eqb-true _ 1 c.in_ok-unless-2.ensures) in
    let f = removed_left c.args.number c.args.book.now (sym c.good_book.ensures ∙ c.in_ok-unless.ensures) c.place-at.result c.place-at.ensures c.in-Some.n c.in-Some.ensures.0 c.in-Some.ensures.1 (eqb-true _ 1 c.in_ok-unless-2.ensures) c.book_end-end.result c.book_end-end.ensures.0 c.book_end-end.ensures.1 _ _ c.move_down.ensures.0 c.move_down.ensures.1 c.zero_from.ensures in record { value = sym e; book_after = f }
