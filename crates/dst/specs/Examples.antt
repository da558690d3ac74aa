-- Request [1]'s words on single numbers, of the definitions, by computation.
use Rattle.std.specs.Prelude.{◌-◌, ◌^◌, ◌≡◌, refl, false, true, [], ◌∷◌, pos, negsuc}
use Rattle.std.specs.Float.{fin}
use Rattle.std.specs.Float.Ieee.{neg}
use Rattle.numbers.specs.Num.{half}
use Rattle.numbers.specs.Order.{negative}
use Rattle.numbers.specs.Value.{units_of}
use Rattle.geom.specs.Point.{point}
use Rattle.dst.specs.declared.records.Kind.TheVariants.{Stitch, Jump}
use Rattle.numbers.specs.Rounding.{nearest_whole, rounded}
use Rattle.dst.specs.Records.{plus, minus, lower, third, bytes_of, record_of}
use Rattle.dst.specs.Thread.{whole, origin, rounded_point, parts, cut_at, cuts_from, way, thread, records_from, dst_bytes}

-- 0.5 and -0.5 go away from zero; the number below 0.5 goes to it
pub halves : (rounded half ≡ pos 1) × (rounded (neg half) ≡ negsuc 0) × (rounded (fin false (2 ^ 53 - 1) (negsuc 53)) ≡ pos 0) × (rounded (fin true 5 (negsuc 0)) ≡ negsuc 2) × (rounded (fin true 0 (pos 0)) ≡ pos 0)
unfolding rounded nearest_whole units_of negative neg
halves = (refl, refl, refl, refl, refl)

-- one step either way, a weight of each byte, and the ends
pub records : (record_of Stitch (pos 1) (pos 0) ≡ 1 ∷ 0 ∷ 3 ∷ [])
    × (record_of Stitch (negsuc 0) (pos 0) ≡ 2 ∷ 0 ∷ 3 ∷ [])
    × (record_of Stitch (pos 0) (pos 1) ≡ 128 ∷ 0 ∷ 3 ∷ [])
    × (record_of Stitch (pos 0) (negsuc 8) ≡ 16 ∷ 0 ∷ 3 ∷ [])
    × (record_of Stitch (pos 3) (pos 27) ≡ 0 ∷ 33 ∷ 3 ∷ [])
    × (record_of Stitch (pos 81) (pos 0) ≡ 0 ∷ 0 ∷ 7 ∷ [])
    × (record_of Stitch (pos 2) (pos 0) ≡ 2 ∷ 1 ∷ 3 ∷ [])
    × (record_of Jump (pos 121) (negsuc 120) ≡ 85 ∷ 85 ∷ 151 ∷ [])
    × (record_of Jump (pos 0) (pos 0) ≡ 0 ∷ 0 ∷ 131 ∷ [])
unfolding record_of bytes_of lower third plus minus
records = (refl, refl, refl, refl, refl, refl, refl, refl, refl)

-- 122 is cut at 61; -3 and 365 in four, toward zero
pub cuts : (way origin (whole (pos 122) (pos 0)) ≡ record { kind = Jump; to = whole (pos 61) (pos 0) } ∷ record { kind = Stitch; to = whole (pos 122) (pos 0) } ∷ [])
    × (way origin (whole (negsuc 2) (pos 365)) ≡ record { kind = Jump; to = whole (pos 0) (pos 91) } ∷ record { kind = Jump; to = whole (negsuc 0) (pos 182) } ∷ record { kind = Jump; to = whole (negsuc 1) (pos 273) } ∷ record { kind = Stitch; to = whole (negsuc 2) (pos 365) } ∷ [])
unfolding way parts cuts_from cut_at
cuts = (refl, refl)

-- no point: the end alone; (1, 0) and (1, 0) again: a zero move is still a stitch
pub files : (dst_bytes [] ≡ 0 ∷ 0 ∷ 243 ∷ [])
    × (dst_bytes (point (fin false 1 (pos 0)) (fin false 0 (pos 0)) ∷ point (fin false 1 (pos 0)) (fin false 0 (pos 0)) ∷ []) ≡ 1 ∷ 0 ∷ 3 ∷ 0 ∷ 0 ∷ 3 ∷ 0 ∷ 0 ∷ 243 ∷ [])
unfolding dst_bytes records_from thread way rounded_point rounded nearest_whole units_of negative parts cuts_from cut_at record_of bytes_of lower third plus minus
files = (refl, refl)
