-- Request [13]'s framing on single books, of the definitions, by computation.
use Rattle.std.specs.Prelude.{ℕ, ◌≡◌, refl, false, true, List, [], ◌∷◌}
use Rattle.jobs.specs.Job.{value, number}
use Rattle.book.specs.Book.{version_of, number_of, size, sheets_from, sheets, joined, stands, sheet_of, good_sheet, good_sheets, ended, good_book, sheet_refusal, fetch_refusal, remove_refusal}

-- two sheets of later versions, and what follows the end isn't read
abbrev two : List ℕ
two = 0 ∷ 3 ∷ 2 ∷ 0 ∷ 7 ∷ 0 ∷ 4 ∷ 9 ∷ 1 ∷ 0 ∷ 5 ∷ 0 ∷ 0 ∷ 8 ∷ 8 ∷ []

pub passed_over : (sheets two ≡ (0 ∷ 3 ∷ 2 ∷ 0 ∷ 7 ∷ []) ∷ (0 ∷ 4 ∷ 9 ∷ 1 ∷ 0 ∷ 5 ∷ []) ∷ []) × (good_book two ≡ true)
unfolding value number version_of number_of size sheets_from sheets joined stands good_sheet good_sheets ended good_book
passed_over = (refl, refl)

-- VERSION for 7 and for 256, ABSENT for 5
pub named : (fetch_refusal two 7 ≡ 11) × (fetch_refusal two 5 ≡ 10) × (remove_refusal two 256 ≡ 11) × (remove_refusal two 5 ≡ 10)
unfolding value number version_of number_of size sheets_from sheets joined stands sheet_of good_sheet good_sheets ended good_book sheet_refusal fetch_refusal remove_refusal
named = (refl, refl, refl, refl)

-- version 0; a length of 2; past the list's end; a number twice; a version 1 sheet of another length; one byte left
pub framing : (good_book (0 ∷ 3 ∷ 0 ∷ 0 ∷ 7 ∷ []) ≡ false)
    × (good_book (0 ∷ 2 ∷ 2 ∷ 0 ∷ []) ≡ false)
    × (good_book (0 ∷ 4 ∷ 2 ∷ 0 ∷ 7 ∷ []) ≡ false)
    × (good_book (0 ∷ 3 ∷ 2 ∷ 0 ∷ 7 ∷ 0 ∷ 3 ∷ 3 ∷ 0 ∷ 7 ∷ []) ≡ false)
    × (good_book (0 ∷ 3 ∷ 1 ∷ 0 ∷ 7 ∷ []) ≡ false)
    × (good_book (0 ∷ 3 ∷ 2 ∷ 0 ∷ 7 ∷ 9 ∷ []) ≡ true)
unfolding value number version_of number_of size sheets_from sheets joined stands good_sheet good_sheets ended good_book
framing = (refl, refl, refl, refl, refl, refl)
