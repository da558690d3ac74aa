-- Working room for `pairs` and `column` by the largest n of their passes. Definitions only.
use Rattle.std.specs.Prelude.{ℕ, ◌+◌, cond, List, [], ◌∷◌, leb, eqb, Float, Result, Ok, Err}
use Rattle.refusal.specs.Refusal.{DONE, SETTING, SIZE, unless, ◌then◌}
use Rattle.seqs.specs.Lists.{fold}
use Rattle.geom.specs.declared.point.P.{P}
use Rattle.limits.specs.Limits.{most_pairs, good_step}
use Rattle.satinrules.specs.declared.Satin.{Satin}
use Rattle.satinrules.specs.Settings.{good_satin}
use Rattle.satinrules.specs.Pairs.{Rails, ends_of, few, count_of}
use Rattle.satinrules.specs.Calls.{rails_of, good_rails, pass_steps, most, need}
use Rattle.refusal.specs.Refusal.{number}
use Rattle.refusal.specs.declared.Refusal.{Refusal}

-- one of 1 to 5 and no room, or DONE and how many floats are enough
pub record Room : Type 0 where
  pub answer : ℕ
  pub floats : ℕ

abbrev pub said_room : Result ℕ Refusal → Room
said_room (Ok n) = record { answer = DONE; floats = n }
said_room (Err e) = record { answer = number e; floats = 0 }

abbrev pub room : ℕ → ℕ → Room
room answer floats = record { answer = answer; floats = floats }

-- the largest n of the passes of these steps, and m
unfoldable pub largest_from : P → List P → ℕ → List Float → ℕ
largest_from ends sync m ss = fold (λ s n. most n (count_of ends sync s)) m ss

-- SIZE, or the need of one pair more than n: a pass has no more
unfoldable pub room_for : Rails → ℕ → Room
room_for r n = cond (leb n most_pairs) (room DONE (need r (n + 1))) (room SIZE 0)

-- the number of the checks in front and no room; no room for rails of too few corners; or the room for passes of these steps
unfoldable pub room_after : ℕ → Rails → List Float → Room
room_after n r ss = cond (eqb n DONE) (cond (few r) (room DONE 0) (room_for r (largest_from (ends_of r) r.sync 0 ss))) (room n 0)

unfoldable pub pairs_room_of : List Float → List Float → List Float → Float → Room
pairs_room_of a b sync step = room_after (good_rails a b sync then unless SETTING (good_step step)) (rails_of a b sync) (step ∷ [])

unfoldable pub column_room_of : List Float → List Float → List Float → Satin → Room
column_room_of a b sync g = room_after (good_rails a b sync then unless SETTING (good_satin g)) (rails_of a b sync) (pass_steps g)
