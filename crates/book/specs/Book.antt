-- The machines' sheet book, as bytes: request [13]. All big-endian; floats are their 64 bits. Definitions only.
use Rattle.std.specs.Prelude.{ℕ, zero, suc, ◌+◌, ◌-◌, ◌/◌, ◌%◌, Bool, true, false, not, ◌&&◌, cond, List, [], ◌∷◌, ◌++◌, leb, eqb, length, take, drop, replicate, Float}
use Rattle.std.specs.Float.{binary64}
use Rattle.std.specs.Float.Ieee.{to_bits}
use Rattle.refusal.specs.Refusal.{DONE, LAYOUT, SETTING, ROOM, unless, ◌then◌}
use Rattle.limits.specs.Limits.{good_spacing, good_len, good_inset, good_stagger}
use Rattle.jobs.specs.Job.{number, float, byte}
use Rattle.book.specs.declared.values.Values.{Values}
use Rattle.book.specs.Fetched.{Fetched}
use Rattle.book.specs.Fetched.{Sheet, Refused}

abbrev pub ABSENT : ℕ
ABSENT = 10

abbrev pub VERSION : ℕ
VERSION = 11

-- ---- a sheet is its bytes: a 16-bit length of what follows, a version byte, a 16-bit number, and the values

unfoldable pub version_of : List ℕ → ℕ
version_of t = byte 2 t

unfoldable pub number_of : List ℕ → ℕ
number_of t = number 3 2 t

-- a version 1 sheet: 39 bytes follow its length
abbrev pub whole : ℕ
whole = 41

-- spacing, len, inset, pull, and stagger in 32 bits
unfoldable pub values_of : List ℕ → Values
values_of t = record { spacing = float 5 t; len = float 13 t; inset = float 21 t; pull = float 29 t; stagger = number 37 4 t }

-- document 01's ranges
unfoldable pub good_values : Values → Bool
good_values v = good_spacing v.spacing && (good_len v.len && (good_inset v.inset && (good_inset v.pull && good_stagger v.stagger)))

-- ---- the book is its sheets

-- the bytes of the whole sheet that s begins with: none where the book ends, or where the length is 1, 2 or past the list's end
unfoldable pub size : List ℕ → ℕ
size s = cond (leb 2 (length s) && (leb 3 (number 0 2 s) && leb (2 + number 0 2 s) (length s))) (2 + number 0 2 s) 0

unfoldable pub sheets_from : ℕ → List ℕ → List (List ℕ)
sheets_from zero s = []
sheets_from (suc k) s = cond (eqb (size s) 0) [] (take (size s) s ∷ sheets_from k (drop (size s) s))

-- the whole sheets from the front on, in order
unfoldable pub sheets : List ℕ → List (List ℕ)
sheets s = sheets_from (length s) s

unfoldable pub joined : List (List ℕ) → List ℕ
joined [] = []
joined (t ∷ ts) = t ++ joined ts

-- a sheet of that number stands, of whatever version
unfoldable pub stands : ℕ → List (List ℕ) → Bool
stands n [] = false
stands n (t ∷ ts) = cond (eqb (number_of t) n) true (stands n ts)

unfoldable pub sheet_of : ℕ → List (List ℕ) → List ℕ
sheet_of n [] = []
sheet_of n (t ∷ ts) = cond (eqb (number_of t) n) t (sheet_of n ts)

-- ---- framing

-- version 0, or a version 1 sheet of another length, is bad; of a later version only the length counts
unfoldable pub good_sheet : List ℕ → Bool
good_sheet t = cond (eqb (version_of t) 1) (eqb (length t) whole) (leb 2 (version_of t))

-- every sheet good, and no number twice
unfoldable pub good_sheets : List (List ℕ) → Bool
good_sheets [] = true
good_sheets (t ∷ ts) = good_sheet t && (not (stands (number_of t) ts) && good_sheets ts)

-- fewer than two bytes, or a zero length
unfoldable pub ended : List ℕ → Bool
ended s = cond (leb 2 (length s)) (eqb (number 0 2 s) 0) true

-- behind the last whole sheet the book ends
unfoldable pub good_book : List ℕ → Bool
good_book s = good_sheets (sheets s) && ended (drop (length (joined (sheets s))) s)

-- ---- fetch

-- of a sheet that stands, by its bytes
unfoldable pub sheet_refusal : List ℕ → ℕ
sheet_refusal t = unless VERSION (eqb (version_of t) 1) then unless SETTING (good_values (values_of t))

unfoldable pub fetch_refusal : List ℕ → ℕ → ℕ
fetch_refusal s n = unless LAYOUT (good_book s) then unless ABSENT (stands n (sheets s)) then sheet_refusal (sheet_of n (sheets s))

unfoldable pub fetched : List ℕ → ℕ → Fetched
fetched s n = cond (eqb (fetch_refusal s n) DONE) (Sheet (values_of (sheet_of n (sheets s)))) (Refused (fetch_refusal s n))

-- ---- store and remove

-- k big-endian bytes of a number
unfoldable pub bytes : ℕ → ℕ → List ℕ
bytes zero v = []
bytes (suc k) v = bytes k (v / 256) ++ v % 256 ∷ []

-- the length of what follows, the version, and the number
unfoldable pub head_bytes : ℕ → List ℕ
head_bytes n = (bytes 2 39 ++ bytes 1 1) ++ bytes 2 n

unfoldable pub bits : Float → List ℕ
bits x = bytes 8 (to_bits binary64 x)

unfoldable pub value_bytes : Values → List ℕ
value_bytes v = (((bits v.spacing ++ bits v.len) ++ bits v.inset) ++ bits v.pull) ++ bytes 4 v.stagger

unfoldable pub sheet_bytes : ℕ → Values → List ℕ
sheet_bytes n v = head_bytes n ++ value_bytes v

-- t in the place of the sheet with a number, or last
unfoldable pub replaced : ℕ → List ℕ → List (List ℕ) → List (List ℕ)
replaced n t [] = t ∷ []
replaced n t (u ∷ us) = cond (eqb (number_of u) n) (t ∷ us) (u ∷ replaced n t us)

unfoldable pub without : ℕ → List (List ℕ) → List (List ℕ)
without n [] = []
without n (u ∷ us) = cond (eqb (number_of u) n) us (u ∷ without n us)

-- the sheets' bytes, and zeros behind the last
unfoldable pub filled : ℕ → List ℕ → List ℕ
filled m l = l ++ replicate (m - length l) 0

-- no sheet of a later version stands under the number
unfoldable pub current : ℕ → List (List ℕ) → Bool
current n ts = cond (stands n ts) (eqb (version_of (sheet_of n ts)) 1) true

unfoldable pub store_bytes : List ℕ → ℕ → Values → List ℕ
store_bytes s n v = joined (replaced n (sheet_bytes n v) (sheets s))

unfoldable pub store_refusal : List ℕ → ℕ → Values → ℕ
store_refusal s n v =
    unless LAYOUT (good_book s) then unless SETTING (good_values v) then unless VERSION (current n (sheets s)) then unless ROOM (leb (length (store_bytes s n v)) (length s))

-- a refusal changes no byte
unfoldable pub after_store : List ℕ → ℕ → Values → List ℕ
after_store s n v = cond (eqb (store_refusal s n v) DONE) (filled (length s) (store_bytes s n v)) s

unfoldable pub remove_refusal : List ℕ → ℕ → ℕ
remove_refusal s n = unless LAYOUT (good_book s) then unless ABSENT (stands n (sheets s)) then unless VERSION (eqb (version_of (sheet_of n (sheets s))) 1)

unfoldable pub after_remove : List ℕ → ℕ → List ℕ
after_remove s n = cond (eqb (remove_refusal s n) DONE) (filled (length s) (joined (without n (sheets s)))) s
