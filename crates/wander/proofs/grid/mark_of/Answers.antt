-- `mark_of` meets its contract. Assumes nothing.
use mathlib.Core.Path.{◌≡◌, refl}
use mathlib.Core.Bool.{Bool, true, false}
use mir.Val.{bool_byte}
use Rattle.meander_rules.specs.Meander.{inside_at}
use Rattle.wander.specs.Walking.{mark_of}
use Rattle.wander.proofs.grid.mark_of.Goals as goal

byte : (b : Bool) → bool_byte b ≡ mark_of b
byte true = refl
byte false = refl

pub returns : goal.returns
unfolding inside_at
returns c = rw (c.from.ensures, c.has.ensures, c.place.ensures) (byte _)
