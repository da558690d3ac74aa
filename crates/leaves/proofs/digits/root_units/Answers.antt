use Rattle.std.proofs.Common.{◌≡◌, ℕ, ◌-◌, ◌*◌, ◌/◌, ◌%◌, ◌^◌, ◌≤◌, Bool, not, T, sym, ap, ◌∙◌, subst, mul-one, arith}
use lib.Ieee.{odd}
use Rattle.numbers.specs.Root.{near_root}
use Rattle.numbers.specs.Encode.{encode, encode_no_nan}
use Rattle.numbers.specs.Decode.{root_units_at}
use Rattle.leaves.proofs.digits.root_units.Goals as goal

-- the shift by 52 loses nothing
shifted : (k : ℕ) → k ≤ 2047 → k * 4503599627370496 % 18446744073709551616 ≡ k * 4503599627370496
shifted k h = omega (arith, h)

pub float_from_bits-result : goal.float_from_bits-result
float_from_bits-result c =
    let k = (c.args.a - 52) / 2 in
    let f = c.near_root-q.ensures in
    rw (shifted k (omega arith)) (subst (λ (b : Bool). T (not b)) (sym (encode_no_nan c.near_root-q.result k f.1 f.2 (omega arith))) tt)

pub float_from_bits-result-else-k-a : goal.float_from_bits-result-else-k-a
float_from_bits-result-else-k-a c =
    let k = (c.args.a - 52) / 2 in
    let f = c.near_root-q-else-k-a.ensures in
    rw (shifted k (omega arith)) (subst (λ (b : Bool). T (not b)) (sym (encode_no_nan c.near_root-q-else-k-a.result k f.1 f.2 (omega arith))) tt)

pub returns-then-k-a : goal.returns-then-k-a
returns-then-k-a c =
    let d = c.args.d in
    let a = c.args.a in
    let p = c.requires in
    let k = (a - 52) / 2 in
    let f = c.near_root-q.ensures in
    rw (shifted k (omega arith)) (encode c.near_root-q.result k f.1 f.2 (omega arith)
    ∙ ap (λ (q : ℕ). odd 54 Bool.false q k 1074) (f.0 ∙ ap (λ (x : ℕ). near_root 53 (x * 2 ^ 52)) (sym (mul-one d)))
    ∙ sym (root_units_at d a k 0 p.0 p.1 (omega arith) (omega arith)))

pub returns-else-k-a : goal.returns-else-k-a
returns-else-k-a c =
    let d = c.args.d in
    let a = c.args.a in
    let p = c.requires in
    let k = (a - 52) / 2 in
    let f = c.near_root-q-else-k-a.ensures in
    rw (shifted k (omega arith)) (encode c.near_root-q-else-k-a.result k f.1 f.2 (omega arith)
    ∙ ap (λ (q : ℕ). odd 54 Bool.false q k 1074) (f.0 ∙ ap (λ (x : ℕ). near_root 53 (x * 2 ^ 52)) (omega arith))
    ∙ sym (root_units_at d a k 1 p.0 p.1 (omega arith) (omega arith)))
