-- Working room for a fill by its corners and rows. Definitions only.
use Rattle.std.specs.Prelude.{ℕ, ◌*◌, ◌/◌, cond, List, eqb, length, Float, Result, Ok, Err}
use Rattle.refusal.specs.declared.Refusal.{Refusal}
use Rattle.refusal.specs.Refusal.{DONE, number}
use Rattle.geom.specs.Outline.{rings}
use Rattle.rules.specs.declared.Settings.{Settings}
use Rattle.rules.specs.Fill.{edges, row_numbers, gate, need_floats, need_wholes}
use Rattle.fillroom.specs.declared.Room.{Room as Lent}

-- what is said: one of 1 to 5 and no room, or DONE and how many floats and whole numbers are enough
pub record Room : Type 0 where
  pub answer : ℕ
  pub floats : ℕ
  pub wholes : ℕ

abbrev pub said_room : Result Lent Refusal → Room
said_room (Ok r) = record { answer = DONE; floats = r.floats; wholes = r.wholes }
said_room (Err e) = record { answer = number e; floats = 0; wholes = 0 }

-- with at most as many kept edges as corners, and in each row at most half as many pieces
unfoldable pub room_for : ℕ → ℕ → Room
room_for corners rows =
    let pieces = corners / 2 * rows in
    record { answer = DONE; floats = need_floats corners pieces; wholes = need_wholes corners pieces }

-- the room, or the number of the refusal and none
unfoldable pub room_of : List Float → List ℕ → Settings → ℕ → Room
room_of corners ends g stagger =
    let n = gate corners ends g stagger DONE in
    cond (eqb n DONE) (room_for (length corners / 2) (length (row_numbers g (edges g (rings corners ends))))) (record { answer = n; floats = 0; wholes = 0 })
