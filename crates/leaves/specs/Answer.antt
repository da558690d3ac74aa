-- Document 01's answers of the leaves: the number and the value of each case, and when NUMBER is given. Definitions only.
use Rattle.std.specs.Prelude.{ℕ, cond, ◌&&◌, Float, Result, Ok, Err}
use Rattle.std.specs.Float.Ieee.{le}
use Rattle.std.specs.declared.cmp.Ordering.{Ordering}
use Rattle.std.specs.declared.cmp.Ordering.TheVariants.{Less, Equal, Greater}
use Rattle.refusal.specs.declared.Refusal.{Refusal}
use Rattle.refusal.specs.Refusal.{Answer, number, done, refused, number_unless}
use Rattle.numbers.specs.Num.{zero64}
use Rattle.numbers.specs.Root.{root}
use Rattle.numbers.specs.Whole.{floor, ceil}
use Rattle.numbers.specs.Order.{finite, before, smaller, larger, magnitude}

-- 0 before, 1 the same, 2 after
abbrev pub place : Ordering → ℕ
place Less = 0
place Equal = 1
place Greater = 2

abbrev pub said_order : Result Ordering Refusal → Answer ℕ
said_order (Ok o) = done (place o)
said_order (Err e) = refused (number e)

unfoldable pub root_answer : Float → Answer Float
root_answer x = number_unless (finite x && le zero64 x) (root x)

unfoldable pub floor_answer : Float → Answer Float
floor_answer x = number_unless (finite x) (floor x)

unfoldable pub ceil_answer : Float → Answer Float
ceil_answer x = number_unless (finite x) (ceil x)

unfoldable pub magnitude_answer : Float → Answer Float
magnitude_answer x = number_unless (finite x) (magnitude x)

unfoldable pub smaller_answer : Float → Float → Answer Float
smaller_answer a b = number_unless (finite a && finite b) (smaller a b)

unfoldable pub larger_answer : Float → Float → Answer Float
larger_answer a b = number_unless (finite a && finite b) (larger a b)

unfoldable pub order_answer : Float → Float → Answer ℕ
order_answer a b = number_unless (finite a && finite b) (cond (before a b) 0 (cond (before b a) 2 1))
