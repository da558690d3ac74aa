-- What is fetched, by the place of the sheet. Assumes nothing.
use Rattle.std.specs.Prelude.{ℕ, ◌+◌, ◌≤◌, ◌<◌, ◌≡◌, true, false, List, length, drop, get_or}
use Rattle.std.proofs.Common.{arith, sym, ap, ◌∙◌, length-drop, length-take-le}
use borrow.Author.Tests.{eq-eqb, ne_eqb}
use Rattle.refusal.specs.Refusal.{LAYOUT, SETTING}
use Rattle.book.specs.Fetched.{Sheet, Refused}
use Rattle.book.specs.Book.{ABSENT, VERSION, version_of, values_of, good_values, size, sheets, sheet_of, good_book, sheet_refusal, fetch_refusal, fetched}
use Rattle.book.specs.BookLaws.{Placed, placed_none, placed_stands, placed_sheet, size_fits, version_of_lem, version_at, values_of_lem, good_sheet_lem, good_length}

module _ (n : ℕ) (s : List ℕ) where
  pub fetched_layout : good_book s ≡ false → fetched s n ≡ Refused LAYOUT
  unfolding fetched fetch_refusal
  fetched_layout g = rw g

  module _ (g : good_book s ≡ true) (at : ℕ) (p : Placed n s at) where
    pub fetched_absent : size (drop at s) ≡ 0 → fetched s n ≡ Refused ABSENT
    unfolding fetched fetch_refusal
    fetched_absent e = rw (g, placed_none n s at p e)

    module _ (h : 0 < size (drop at s)) where
      pub sheet_version : version_of (sheet_of n (sheets s)) ≡ get_or s (at + 2) 0
      sheet_version = rw (placed_sheet n s at p h) (version_of_lem (drop at s) (size (drop at s)) (size_fits (drop at s) h).0 ∙ version_at s at)

      pub fetched_later : (get_or s (at + 2) 0 ≡ 1 → ⊥) → fetched s n ≡ Refused VERSION
      unfolding fetched fetch_refusal sheet_refusal
      fetched_later v = rw (g, placed_stands n s at p h, ne_eqb (version_of (sheet_of n (sheets s))) 1 (λ e. v (sym sheet_version ∙ e)))

      module _ (v : get_or s (at + 2) 0 ≡ 1) where
        -- a version 1 sheet of a good book has 41 bytes
        pub sheet_size : size (drop at s) ≡ 41
        sheet_size =
            let l : length (sheet_of n (sheets s)) ≡ 41 = good_length (sheet_of n (sheets s)) (good_sheet_lem n s g (placed_stands n s at p h)) (sheet_version ∙ v) in
            sym (length-take-le (size (drop at s)) (drop at s) (size_fits (drop at s) h).1) ∙ ap length (sym (placed_sheet n s at p h)) ∙ l

        pub sheet_long : at + 41 ≤ length s
        sheet_long = omega (arith, sheet_size, (size_fits (drop at s) h).1, length-drop at s, h)

        sheet_values : values_of (sheet_of n (sheets s)) ≡ values_of (drop at s)
        sheet_values = rw (placed_sheet n s at p h, sheet_size) (values_of_lem (drop at s))

        one : version_of (sheet_of n (sheets s)) ≡ 1
        one = sheet_version ∙ v

        pub fetched_setting : good_values (values_of (drop at s)) ≡ false → fetched s n ≡ Refused SETTING
        unfolding fetched fetch_refusal sheet_refusal
        fetched_setting b = rw (g, placed_stands n s at p h, eq-eqb (version_of (sheet_of n (sheets s))) 1 one, sheet_values, b)

        pub fetched_done : good_values (values_of (drop at s)) ≡ true → fetched s n ≡ Sheet (values_of (drop at s))
        unfolding fetched fetch_refusal sheet_refusal
        fetched_done b = rw (g, placed_stands n s at p h, eq-eqb (version_of (sheet_of n (sheets s))) 1 one, sheet_values, b)
