-- A room is told as a count is. Assumes nothing.
use Rattle.std.specs.Prelude.{ℕ, ◌≡◌, refl, Result, Ok, Err}
use Rattle.refusal.specs.declared.Refusal.{Refusal}
use Rattle.refusal.specs.Sewn.{said_sewn}
use Rattle.satinroom.specs.Room.{said_room}

pub room_answer : (r : Result ℕ Refusal) → (said_sewn r).answer ≡ (said_room r).answer
room_answer (Ok n) = refl
room_answer (Err e) = refl

pub room_floats : (r : Result ℕ Refusal) → (said_sewn r).points ≡ (said_room r).floats
room_floats (Ok n) = refl
room_floats (Err e) = refl
