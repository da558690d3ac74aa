-- IEEE 754's squareRoot of an f64, rounded to nearest, as a function that computes. Definitions only.
use Rattle.std.specs.Prelude.{ℕ, zero, suc, ◌+◌, ◌-◌, ◌*◌, ◌/◌, ◌^◌, true, false, cond, leb, Float}
use Rattle.std.specs.Float.{nan, inf, fin}
use Rattle.std.specs.Float.Ieee.{up, down, size, odd}

-- the whole root of n, for an n of at most 2 * d binary digits: digit by digit
unfoldable pub isqrt : ℕ → ℕ → ℕ
isqrt zero n = 0
isqrt (suc d) n = let r = isqrt d (n / 4) in cond (leb ((2 * r + 1) * (2 * r + 1)) n) (2 * r + 1) (2 * r)

-- the whole number nearest to the root of n, for n of at most 2 * d digits: a half lies above q * q + q
unfoldable pub near_root : ℕ → ℕ → ℕ
unfolding isqrt
near_root d n = let q = isqrt d n in q + cond (leb (n - q * q) q) 0 1

-- the root of n squares of the smallest value, 2 ^ -1074: of n it drops 2 * k digits, so that as many are left as give a root of 53
unfoldable pub root_units : ℕ → Float
unfolding odd near_root size
root_units n =
    let k = (size n + 1 - 106) / 2 in
    odd 54 false (near_root 53 (n / 4 ^ k)) k 1074

-- the square root: of a zero the zero itself, below zero nan
unfoldable pub root : Float → Float
unfolding root_units
root nan = nan
root (inf true) = nan
root (inf false) = inf false
root (fin s zero e) = fin s zero e
root (fin true (suc m) e) = nan
root (fin false (suc m) e) = root_units (suc m * up e * 2 ^ 1074 / down e * 2 ^ 1074)
