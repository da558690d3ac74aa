-- The satin settings: the four constants, what is accepted, and what the maker says. Definitions only.
use Rattle.std.specs.Prelude.{Bool, true, ◌&&◌, cond, Option, None, Some, Float}
use Rattle.std.specs.Float.Ieee.{eq}
use Rattle.refusal.specs.Refusal.{SETTING, Answer, unless, answer}
use Rattle.numbers.specs.Num.{literal, zero64}
use Rattle.limits.specs.Limits.{good_spacing, good_len, good_inset, good_underlay, good_split}
use Rattle.satinrules.specs.declared.Satin.{Satin}

-- 2.5: rail points closer than this count as crowded
unfoldable pub short_dist : Float
short_dist = literal 5 2

-- 0.15: how far crowded alternate stitches are pulled in, as a fraction of the width
unfoldable pub short_inset : Float
short_inset = literal 15 100

-- 4.0: underlay sits this far inside the rails
unfoldable pub underlay_inset : Float
underlay_inset = literal 4 1

-- 30.0: the zigzag underlay's peaks are this far apart
unfoldable pub zigzag_underlay_spacing : Float
zigzag_underlay_spacing = literal 30 1

-- a split is absent, or a length of 0.5 to 1,000
unfoldable pub good_split_set : Option Float → Bool
good_split_set None = true
good_split_set (Some max) = good_split max

-- spacing 0.5 to 1,000; pull -100 to 100; underlay 0 to 7; run_len 1 to 1,000
unfoldable pub good_satin : Satin → Bool
good_satin g = good_spacing g.spacing && (good_inset g.pull && (good_underlay g.underlay && (good_len g.run_len && good_split_set g.split)))

-- the split that a number says: 0 of either sign is none
unfoldable pub split_of : Float → Option Float
split_of x = cond (eq x zero64) None (Some x)

-- ---- what the maker says

unfoldable pub made_answer : Satin → Answer Satin
made_answer g = answer (unless SETTING (good_satin g)) g
