-- No fill that is lent its room is refused for want of working room. Assumes nothing.
use Rattle.std.specs.Prelude.{ℕ, ◌*◌, ◌/◌, ◌≤◌, ◌≡◌, Bool, List, Float}
use Rattle.std.proofs.Math.Nat.{le_trans}
use Rattle.std.proofs.Common.{mul-le-mul_right, arith, ◌∙◌}
use Rattle.std.proofs.Math.Path.{refl}
use Rattle.std.proofs.Math.ListN.{length}
use borrow.Author.Tests.{le-ltb}
use Rattle.refusal.specs.Refusal.{ROOM, unless}
use Rattle.geom.specs.Outline.{rings}
use Rattle.outlines.specs.declared.rule.FillRule.{FillRule}
use Rattle.rules.specs.declared.Settings.{Settings}
use Rattle.rules.specs.Fill.{edges, row_numbers, row_list, need_floats, need_wholes, roomed, refusal}
use Rattle.rules.specs.Accepted.{Accepted, laid_out}
use Rattle.rules.specs.CallLaws.{gate_through, room_told}
use Rattle.rules.proofs.Counts.{edges_of_corners, pieces_half}
use Rattle.fillroom.specs.Room.{room_for, room_of}

half_le : (a b : ℕ) → a ≤ b → a / 2 ≤ b / 2
half_le a b h = omega arith

module _ (corners : List Float) (ends : List ℕ) (g : Settings) (stagger : ℕ) (accepted : Accepted corners ends g stagger) where
  room_is : room_of corners ends g stagger ≡ room_for (length corners / 2) (length (row_numbers g (edges g (rings corners ends))))
  unfolding room_of
  room_is = rw accepted refl

  -- WORK is never the answer: what is left to be told is ROOM
  pub enough : (rule : FillRule) (bottomUp fits : Bool) → refusal corners ends rule g stagger bottomUp (room_of corners ends g stagger).floats (room_of corners ends g stagger).wholes fits ≡ unless ROOM fits
  unfolding refusal roomed room_for
  enough rule bottomUp fits =
      let c = length corners / 2 in
      let n = length (row_numbers g (edges g (rings corners ends))) in
      let e = edges_of_corners corners ends g (laid_out corners ends g stagger accepted) in
      let i = le_trans (pieces_half (rings corners ends) rule g bottomUp) (mul-le-mul_right n (half_le (length (edges g (rings corners ends))) c e)) in
      let floats = le-ltb (need_floats c (c / 2 * n)) (need_floats (length (edges g (rings corners ends))) (length (row_list (rings corners ends) rule g bottomUp))) (omega (arith, e, i)) in
      let wholes = le-ltb (need_wholes c (c / 2 * n)) (need_wholes (length (edges g (rings corners ends))) (length (row_list (rings corners ends) rule g bottomUp))) (omega (arith, e, i)) in
      gate_through corners ends g stagger _ accepted ∙ rw (room_is, floats, wholes) (room_told fits)
