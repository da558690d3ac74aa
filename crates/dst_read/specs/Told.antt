-- What the theorems say of a file that [1] wrote: the record of a move with a mark, and the points that its marks give back. Definitions only.
use Rattle.std.specs.Prelude.{ℕ, ◌+◌, cond, List, [], ◌∷◌, eqb, ℤ}
use Rattle.dst.specs.declared.records.Kind.{Kind}
use Rattle.dst.specs.declared.records.Kind.TheVariants.{Stitch, Jump}
use Rattle.dst.specs.Records.{lift, lower, third}
use Rattle.dst.specs.Thread.{Whole, Mark}
use Rattle.dst_read.specs.Names.{STITCH, JUMP}
use Rattle.dst_read.specs.Reading.{Marked}

-- bit 7 for a jump, bits 6 and 7 for a stop
abbrev pub mark_bits : ℕ → ℕ
mark_bits m = cond (eqb m STITCH) 0 (cond (eqb m JUMP) 128 192)

-- the third byte of a stitch, and those bits
abbrev pub marked_third : ℕ → ℤ → ℤ → ℕ
marked_third m dx dy = third Stitch (lift dx) (lift dy) + mark_bits m

unfoldable pub marked_record : ℕ → ℤ → ℤ → List ℕ
marked_record m dx dy = lower 1 9 (lift dx) (lift dy) ∷ lower 3 27 (lift dx) (lift dy) ∷ marked_third m dx dy ∷ []

-- [1]'s kinds and points, with marks
abbrev pub mark_for : Kind → ℕ
mark_for Stitch = STITCH
mark_for Jump = JUMP

abbrev pub marked : Mark → Marked
marked m = record { mark = mark_for m.kind; to = m.to }

-- the points that are sewn
abbrev pub sewn : List Marked → List Whole
sewn [] = []
sewn (p ∷ ps) = cond (eqb p.mark STITCH) (p.to ∷ sewn ps) (sewn ps)
