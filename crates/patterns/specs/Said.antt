-- The answer of `bounds`: the number and the value of each case. Definitions only.
use Rattle.std.specs.Prelude.{ℕ, Result, Ok, Err}
use Rattle.refusal.specs.declared.Refusal.{Refusal}
use Rattle.refusal.specs.Refusal.{Answer, done, refused, number}
use Rattle.patterns_rules.specs.declared.Bounds.{Bounds}

-- the bounds, or the number of a refusal
pub data Box : Type 0 where
  Around : Bounds → Box
  Refused : ℕ → Box

abbrev pub said_box : Box → Answer Bounds
said_box (Around b) = done b
said_box (Refused n) = refused n

abbrev pub box_of : Result Bounds Refusal → Box
box_of (Ok b) = Around b
box_of (Err e) = Refused (number e)
