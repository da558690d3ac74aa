use Rattle.std.proofs.Common.{◌≡◌, ℕ, ◌+◌, ◌-◌, ◌*◌, ◌/◌, ◌%◌, ◌^◌, sym, ap, ◌∙◌, arith}
use lib.Count.{count_leading_zeros}
use Rattle.numbers.specs.Root.{root, root_units}
use Rattle.numbers.specs.Decode.{read_low, read_mid, root_odd}
use Rattle.leaves.proofs.Near.{moved, moved_same, placed_same}
use Rattle.leaves.proofs.digits.root_pattern.Goals as goal

pub overflow_sub-z : goal.overflow_sub-z
overflow_sub-z c = omega (arith, moved c.args.b c.requires.0 c.if-b-lt4503599627370496.true)

pub overflow_cast-z : goal.overflow_cast-z
overflow_cast-z c = omega (arith, moved c.args.b c.requires.0 c.if-b-lt4503599627370496.true)

pub overflow_shl-b : goal.overflow_shl-b
overflow_shl-b c = omega (arith, moved c.args.b c.requires.0 c.if-b-lt4503599627370496.true)

pub overflow_cast-z-then-b-lt4503599627370496 : goal.overflow_cast-z-then-b-lt4503599627370496
overflow_cast-z-then-b-lt4503599627370496 c = omega (arith, moved c.args.b c.requires.0 c.if-b-lt4503599627370496.true)

pub overflow_sub-z-then-b-lt4503599627370496 : goal.overflow_sub-z-then-b-lt4503599627370496
overflow_sub-z-then-b-lt4503599627370496 c = omega (arith, moved c.args.b c.requires.0 c.if-b-lt4503599627370496.true)

pub root_units-requires : goal.root_units-requires
root_units-requires c = omega (arith, moved c.args.b c.requires.0 c.if-b-lt4503599627370496.true)

pub returns-then-b-lt4503599627370496 : goal.returns-then-b-lt4503599627370496
returns-then-b-lt4503599627370496 c =
    let b = c.args.b in
    let m = moved c.args.b c.requires.0 c.if-b-lt4503599627370496.true in
    let y = count_leading_zeros 64 b - 11 in
    c.root_units.ensures
    ∙ ap (λ (x : ℕ). root_units (x * 2 ^ (1074 - y))) m.kept
    ∙ ap (root_units) (moved_same b y (omega (arith, m)))
    ∙ sym (ap (root) (read_low b c.if-b-lt4503599627370496.true) ∙ root_odd 53 b 0 c.requires.0)

pub returns-else-b-lt4503599627370496 : goal.returns-else-b-lt4503599627370496
returns-else-b-lt4503599627370496 c =
    let b = c.args.b in
    let e = b / 2 ^ 52 in
    let d = 2 ^ 52 + b % 2 ^ 52 in
    let low : b - e * 2 ^ 52 % 2 ^ 64 + 2 ^ 52 ≡ d = omega (arith, c.requires.1) in
    c.root_units-else-b-lt4503599627370496.ensures
    ∙ ap (λ (x : ℕ). root_units (x * 2 ^ (e + 1073))) low
    ∙ ap (root_units) (placed_same d e (omega arith))
    ∙ sym (ap (root) (read_mid b c.if-b-lt4503599627370496.false c.requires.1) ∙ root_odd 53 d (e - 1) (omega arith))
