use mathlib.Core.Path.{◌≡◌, refl, sym, ◌∙◌}
use native.Mathlib.Omega.{arith}
use borrow.Author.Tests.{eqb-true, eqb-false}
use Rattle.book.proofs.Sizes.{sized, unsized}
use Rattle.std.specs.Prelude.{Err}
use Rattle.refusal.specs.declared.Refusal.TheVariants.{Layout, Absent, Version, Setting}
use Rattle.book.specs.BookLaws.{size_five}
use Rattle.book.specs.FetchLaws.{fetched_layout, fetched_absent, fetched_later, sheet_long, fetched_setting, fetched_done}
use borrow.Author.Rules.{rules}
use Rattle.book.proofs.fetching.fetch.Goals as goal

pub returns-in_err-unless : goal.returns-in_err-unless
returns-in_err-unless c =
    let r : c.from_residual.result ≡ Err Layout = search rules in
    rw r (sym (fetched_layout _ _ (sym c.good_book.ensures ∙ c.in_err-unless.ensures.1)))

pub size_at-requires : goal.size_at-requires
size_at-requires c = c.place-at.ensures.way.fits

pub returns-in_err-unless-2 : goal.returns-in_err-unless-2
returns-in_err-unless-2 c =
    let r : c.from_residual-in_err-unless-2.result ≡ Err Absent = search rules in
    rw r (sym (fetched_absent _ _ (sym c.good_book.ensures ∙ c.in_ok-unless.ensures) _ c.place-at.ensures (unsized c.args.book.now c.place-at.result c.size_at.result c.size_at.ensures (sym c.is_some.ensures ∙ c.in_err-unless-2.ensures.1))))

pub overflow_add-at : goal.overflow_add-at
overflow_add-at c =
    let h = sized c.args.book.now c.place-at.result c.size_at.result c.size_at.ensures (sym c.is_some.ensures ∙ c.in_ok-unless-2.ensures) in
    let f = size_five c.args.book.now c.place-at.result _ refl h.0 in
    search rules

pub bounds-book-at : goal.bounds-book-at
bounds-book-at c =
    let h = sized c.args.book.now c.place-at.result c.size_at.result c.size_at.ensures (sym c.is_some.ensures ∙ c.in_ok-unless-2.ensures) in
    omega (arith, size_five c.args.book.now c.place-at.result _ refl h.0, h.1)

pub returns-in_err-unless-3 : goal.returns-in_err-unless-3
returns-in_err-unless-3 c =
    let r : c.from_residual-in_err-unless-3.result ≡ Err Version = search rules in
    rw r (sym (fetched_later _ _ (sym c.good_book.ensures ∙ c.in_ok-unless.ensures) _ c.place-at.ensures (sized c.args.book.now c.place-at.result c.size_at.result c.size_at.ensures (sym c.is_some.ensures ∙ c.in_ok-unless-2.ensures)).0 (eqb-false _ 1 c.in_err-unless-3.ensures.1)))

pub values_at-v-requires : goal.values_at-v-requires
values_at-v-requires c = sheet_long _ _ (sym c.good_book.ensures ∙ c.in_ok-unless.ensures) _ c.place-at.ensures (sized c.args.book.now c.place-at.result c.size_at.result c.size_at.ensures (sym c.is_some.ensures ∙ c.in_ok-unless-2.ensures)).0 (eqb-true _ 1 c.in_ok-unless-3.ensures)

pub returns-in_err-unless-4 : goal.returns-in_err-unless-4
returns-in_err-unless-4 c =
    let r : c.from_residual-in_err-unless-4.result ≡ Err Setting = search rules in
    rw r (sym (fetched_setting _ _ (sym c.good_book.ensures ∙ c.in_ok-unless.ensures) _ c.place-at.ensures (sized c.args.book.now c.place-at.result c.size_at.result c.size_at.ensures (sym c.is_some.ensures ∙ c.in_ok-unless-2.ensures)).0 (eqb-true _ 1 c.in_ok-unless-3.ensures) (rw c.values_at-v.ensures at (sym c.good_values.ensures ∙ c.in_err-unless-4.ensures.1))))

pub returns : goal.returns
returns c = rw c.values_at-v.ensures (sym (fetched_done _ _ (sym c.good_book.ensures ∙ c.in_ok-unless.ensures) _ c.place-at.ensures (sized c.args.book.now c.place-at.result c.size_at.result c.size_at.ensures (sym c.is_some.ensures ∙ c.in_ok-unless-2.ensures)).0 (eqb-true _ 1 c.in_ok-unless-3.ensures) (rw c.values_at-v.ensures at (sym c.good_values.ensures ∙ c.in_ok-unless-4.ensures))))
