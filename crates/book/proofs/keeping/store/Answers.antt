use mathlib.Core.Path.{◌≡◌, refl, sym, ◌∙◌}
use Prim.Native.Nat.{◌-◌}
use lib.ListN.{length}
use native.Mathlib.Omega.{arith}
use borrow.Author.Tests.{leb-true, leb-false, eqb-true, eqb-false}
use Rattle.std.specs.Prelude.{Err, true, false}
use Rattle.std.specs.Option.{is_some}
use Rattle.refusal.specs.declared.Refusal.TheVariants.{Layout, Setting, Room, Version}
use Rattle.book.proofs.Sizes.{sized, unsized}
use Rattle.book.specs.BookLaws.{size_five}
use Rattle.book.specs.KeepLaws.{store_layout, store_setting, store_room, store_new, new_left, store_later, store_over, stored_left, whole_size}
use borrow.Author.Rules.{rules}
use Rattle.book.proofs.keeping.store.Goals as goal

pub returns-in_err-unless : goal.returns-in_err-unless
returns-in_err-unless c = let r : c.from_residual.result ≡ Err Layout = search rules in let e = store_layout c.args.number c.args.book.now c.args.v (sym c.good_book.ensures ∙ c.in_err-unless.ensures.1) in rw r (record { value = sym e.0; book_after = sym e.1 })

pub returns-in_err-unless-2 : goal.returns-in_err-unless-2
returns-in_err-unless-2 c = let r : c.from_residual-in_err-unless-2.result ≡ Err Setting = search rules in
    let e = store_setting c.args.number c.args.book.now (sym c.good_book.ensures ∙ c.in_ok-unless.ensures) c.args.v (sym c.good_values.ensures ∙ c.in_err-unless-2.ensures.1) in rw r (record { value = sym e.0; book_after = sym e.1 })

pub size_at-requires : goal.size_at-requires
size_at-requires c = c.place-at.ensures.way.fits

pub overflow_sub-book : goal.overflow_sub-book
overflow_sub-book c = let f = c.place-at.ensures.way.fits in search rules

pub returns-in_err-unless-3 : goal.returns-in_err-unless-3
returns-in_err-unless-3 c = let r : c.from_residual-in_err-unless-3.result ≡ Err Room = search rules in
    let e = store_room c.args.number c.args.book.now (sym c.good_book.ensures ∙ c.in_ok-unless.ensures) c.place-at.result c.place-at.ensures (let no : is_some c.size_at.result ≡ false = search rules in unsized c.args.book.now c.place-at.result c.size_at.result c.size_at.ensures no) c.args.v (sym c.good_values.ensures ∙ c.in_ok-unless-2.ensures) (leb-false 41 (length c.args.book.now - c.place-at.result) c.in_err-unless-3.ensures.1) in rw r (record { value = sym e.0; book_after = sym e.1 })

pub put_sheet-requires : goal.put_sheet-requires
put_sheet-requires c = omega (arith, leb-true 41 _ c.in_ok-unless-3.ensures, c.place-at.ensures.way.fits)

pub returns-then-is_none : goal.returns-then-is_none
returns-then-is_none c =
    let e = store_new c.args.number c.args.book.now (sym c.good_book.ensures ∙ c.in_ok-unless.ensures) c.place-at.result c.place-at.ensures (let no : is_some c.size_at.result ≡ false = search rules in unsized c.args.book.now c.place-at.result c.size_at.result c.size_at.ensures no) c.args.v (sym c.good_values.ensures ∙ c.in_ok-unless-2.ensures) (omega (arith, leb-true 41 _ c.in_ok-unless-3.ensures, c.place-at.ensures.way.fits)) in
    let f = new_left c.args.number c.args.book.now (sym c.good_book.ensures ∙ c.in_ok-unless.ensures) c.place-at.result c.place-at.ensures (let no : is_some c.size_at.result ≡ false = search rules in unsized c.args.book.now c.place-at.result c.size_at.result c.size_at.ensures no) c.args.v (sym c.good_values.ensures ∙ c.in_ok-unless-2.ensures) (omega (arith, leb-true 41 _ c.in_ok-unless-3.ensures, c.place-at.ensures.way.fits)) _ _ c.put_sheet.ensures c.zero_from.ensures in record { value = sym e; book_after = f }

pub overflow_add-at-2 : goal.overflow_add-at-2
overflow_add-at-2 c = let f = size_five c.args.book.now c.place-at.result _ refl (let yes : is_some c.size_at.result ≡ true = search rules in sized c.args.book.now c.place-at.result c.size_at.result c.size_at.ensures yes).0 in search rules

pub bounds-book-at : goal.bounds-book-at
bounds-book-at c =
    let f = size_five c.args.book.now c.place-at.result _ refl (let yes : is_some c.size_at.result ≡ true = search rules in sized c.args.book.now c.place-at.result c.size_at.result c.size_at.ensures yes).0 in
    omega (arith, f, (let yes : is_some c.size_at.result ≡ true = search rules in sized c.args.book.now c.place-at.result c.size_at.result c.size_at.ensures yes).1)

pub returns-in_err-unless-4 : goal.returns-in_err-unless-4
returns-in_err-unless-4 c = let r : c.from_residual-in_err-unless-4.result ≡ Err Version = search rules in
    let e = store_later c.args.number c.args.book.now (sym c.good_book.ensures ∙ c.in_ok-unless.ensures) c.place-at.result c.place-at.ensures _ refl (let yes : is_some c.size_at.result ≡ true = search rules in sized c.args.book.now c.place-at.result c.size_at.result c.size_at.ensures yes).0 (eqb-false _ 1 c.in_err-unless-4.ensures.1) c.args.v (sym c.good_values.ensures ∙ c.in_ok-unless-2.ensures) in rw r (record { value = sym e.0; book_after = sym e.1 })

pub put_sheet-requires-2 : goal.put_sheet-requires-2
put_sheet-requires-2 c =
    let f = whole_size c.args.number c.args.book.now (sym c.good_book.ensures ∙ c.in_ok-unless.ensures) c.place-at.result c.place-at.ensures _ refl (let yes : is_some c.size_at.result ≡ true = search rules in sized c.args.book.now c.place-at.result c.size_at.result c.size_at.ensures yes).0 (eqb-true _ 1 c.in_ok-unless-4.ensures) in
    omega (arith, f, (let yes : is_some c.size_at.result ≡ true = search rules in sized c.args.book.now c.place-at.result c.size_at.result c.size_at.ensures yes).1)

pub returns : goal.returns
returns c =
    let e = store_over c.args.number c.args.book.now (sym c.good_book.ensures ∙ c.in_ok-unless.ensures) c.place-at.result c.place-at.ensures _ refl (let yes : is_some c.size_at.result ≡ true = search rules in sized c.args.book.now c.place-at.result c.size_at.result c.size_at.ensures yes).0 (eqb-true _ 1 c.in_ok-unless-4.ensures) c.book_end-end.result c.book_end-end.ensures.0 c.book_end-end.ensures.1 c.args.v (sym c.good_values.ensures ∙ c.in_ok-unless-2.ensures) in
    let f = stored_left c.args.number c.args.book.now (sym c.good_book.ensures ∙ c.in_ok-unless.ensures) c.place-at.result c.place-at.ensures _ refl (let yes : is_some c.size_at.result ≡ true = search rules in sized c.args.book.now c.place-at.result c.size_at.result c.size_at.ensures yes).0 (eqb-true _ 1 c.in_ok-unless-4.ensures) c.book_end-end.result c.book_end-end.ensures.0 c.book_end-end.ensures.1 c.args.v (sym c.good_values.ensures ∙ c.in_ok-unless-2.ensures) _ _ c.put_sheet-2.ensures c.zero_from-2.ensures in record { value = sym e; book_after = f }
