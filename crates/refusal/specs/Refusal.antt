-- Document 01's table of answers, by name and number; and what a call that answers one value says: the number, and the value where it is DONE.
use Rattle.std.specs.Prelude.{ℕ, Bool, true, false, cond, eqb, List, [], ◌∷◌, Result, Ok, Err}
use Rattle.refusal.specs.declared.Refusal.{Refusal}
use Rattle.refusal.specs.declared.Refusal.TheVariants.{Layout, Number, Setting, Turn, Size, Work, Room, Record, Cut, Absent, Version}

abbrev pub DONE : ℕ
DONE = 0

abbrev pub LAYOUT : ℕ
LAYOUT = 1

abbrev pub NUMBER : ℕ
NUMBER = 2

abbrev pub SETTING : ℕ
SETTING = 3

abbrev pub TURN : ℕ
TURN = 4

abbrev pub SIZE : ℕ
SIZE = 5

abbrev pub WORK : ℕ
WORK = 6

abbrev pub ROOM : ℕ
ROOM = 7

-- the number of a refusal
abbrev pub number : Refusal → ℕ
number Layout = LAYOUT
number Number = NUMBER
number Setting = SETTING
number Turn = TURN
number Size = SIZE
number Work = WORK
number Room = ROOM
number Record = 8
number Cut = 9
number Absent = 10
number Version = 11

-- a check answers DONE where its test holds, and its number where it doesn't
abbrev pub unless : ℕ → Bool → ℕ
unless n true = DONE
unless n false = n

-- checks in order: the first that applies answers
infixr 20 ◌then◌
abbrev pub ◌then◌ : ℕ → ℕ → ℕ
n then m = cond (eqb n DONE) m n

pub record Answer (A : Type 0) : Type 0 where
  pub number : ℕ
  pub values : List A

module _ {A : Type 0} where
  abbrev pub done : A → Answer A
  done v = record { number = DONE; values = v ∷ [] }

  abbrev pub refused : ℕ → Answer A
  refused n = record { number = n; values = [] }

  -- the value where the test holds, and NUMBER where it doesn't
  abbrev pub number_unless : Bool → A → Answer A
  number_unless true v = done v
  number_unless false v = refused NUMBER

  -- the value where no check applies, and the number of the one that does
  abbrev pub answer : ℕ → A → Answer A
  answer n v = cond (eqb n DONE) (done v) (refused n)

  -- what a result says
  abbrev pub said : Result A Refusal → Answer A
  said (Ok v) = done v
  said (Err e) = refused (number e)
