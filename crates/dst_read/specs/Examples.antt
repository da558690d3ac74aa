-- Request [5]'s words on single records and files, of the definitions, by computation.
use Rattle.std.specs.Prelude.{◌≡◌, refl, true, false, [], ◌∷◌, pos, negsuc}
use Rattle.refusal.specs.Refusal.{DONE, SIZE, ROOM}
use Rattle.dst.specs.Said.{said_x, said_y}
use Rattle.dst.specs.Records.{plus, minus, lower, third}
use Rattle.dst.specs.Thread.{whole}
use Rattle.dst_read.specs.Names.{RECORD, CUT, STITCH, JUMP, STOP}
use Rattle.dst_read.specs.Record.{clashes, bad_third, bad, is_end, mark_of}
use Rattle.dst_read.specs.Reading.{stop, verdict, points_from}
use Rattle.dst_read.specs.Answers.{points_read, read_refusal, dst_read}
use Rattle.dst_read.specs.Told.{marked_record}

-- both signs of x's 1, of y's 27, of y's 81; a fixed bit missing; bit 6 alone
pub turned_away : (bad 3 0 3 ≡ true) × (bad 0 48 3 ≡ true) × (bad 0 0 51 ≡ true) × (bad 0 0 2 ≡ true) × (bad 0 0 1 ≡ true) × (bad 0 0 67 ≡ true)
unfolding bad clashes bad_third
turned_away = (refl, refl, refl, refl, refl, refl)

-- a zero move of each mark
pub marks : (bad 0 0 3 ≡ false) × (mark_of 3 ≡ STITCH) × (bad 0 0 131 ≡ false) × (mark_of 131 ≡ JUMP) × (bad 0 0 195 ≡ false) × (mark_of 195 ≡ STOP) × (marked_record STOP (pos 0) (pos 0) ≡ 0 ∷ 0 ∷ 195 ∷ [])
unfolding bad clashes bad_third mark_of marked_record lower third plus minus
marks = (refl, refl, refl, refl, refl, refl, refl)

-- 122 to the right as [1] writes it, a stop, and something behind the end
pub files : (points_read (5 ∷ 10 ∷ 135 ∷ 5 ∷ 10 ∷ 7 ∷ 64 ∷ 0 ∷ 195 ∷ 0 ∷ 0 ∷ 243 ∷ 9 ∷ []) ≡ record { mark = JUMP; to = whole (pos 61) (pos 0) } ∷ record { mark = STITCH; to = whole (pos 122) (pos 0) } ∷ record { mark = STOP; to = whole (pos 122) (negsuc 0) } ∷ [])
    × (points_read (0 ∷ 0 ∷ 243 ∷ []) ≡ [])
unfolding points_read points_from verdict is_end bad clashes bad_third mark_of said_x said_y
files = (refl, refl)

-- the bytes run out, or break off inside a record; a bad record behind a good one; before the end is met nothing else is; SIZE at the millionth, ahead of RECORD; ROOM last
pub answers : (verdict 0 [] ≡ stop CUT 0)
    × (verdict 0 (0 ∷ 0 ∷ 3 ∷ 0 ∷ 0 ∷ []) ≡ stop CUT 1)
    × (verdict 0 (0 ∷ 0 ∷ 3 ∷ 3 ∷ 0 ∷ 3 ∷ 0 ∷ []) ≡ stop RECORD 1)
    × (verdict 1000000 (0 ∷ 0 ∷ 243 ∷ []) ≡ stop DONE 1000000)
    × (verdict 1000000 (3 ∷ 0 ∷ 3 ∷ []) ≡ stop SIZE 1000000)
    × (verdict 1000000 (3 ∷ 0 ∷ []) ≡ stop CUT 1000000)
    × (dst_read (3 ∷ 0 ∷ 3 ∷ []) 0 0 ≡ record { answer = RECORD; points = 0; number = 0 })
    × (dst_read (0 ∷ 0 ∷ 3 ∷ 0 ∷ 0 ∷ 243 ∷ []) 2 1 ≡ record { answer = DONE; points = 1; number = 0 })
    × (dst_read (0 ∷ 0 ∷ 3 ∷ 0 ∷ 0 ∷ 243 ∷ []) 1 1 ≡ record { answer = ROOM; points = 0; number = 0 })
    × (dst_read (0 ∷ 0 ∷ 3 ∷ 0 ∷ 0 ∷ 243 ∷ []) 2 0 ≡ record { answer = ROOM; points = 0; number = 0 })
    × (dst_read (0 ∷ 0 ∷ 3 ∷ 0 ∷ []) 0 0 ≡ record { answer = CUT; points = 0; number = 0 })
unfolding verdict is_end bad clashes bad_third read_refusal dst_read
answers = (refl, refl, refl, refl, refl, refl, refl, refl, refl, refl, refl)
