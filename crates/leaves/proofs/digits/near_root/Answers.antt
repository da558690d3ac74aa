use Rattle.std.proofs.Common.{arith}
use Rattle.leaves.proofs.Near.{root_large, near_down, near_up}
use Rattle.leaves.proofs.digits.near_root.Goals as goal

pub returns-then-rest-root : goal.returns-then-rest-root
returns-then-rest-root c =
    let w = c.args.w in
    let p = c.requires in
    let r = c.root_digits-r.result in
    let f = c.root_digits-r.ensures in
    let g = root_large w r.root r.rest p.0 f.0 f.1 in
    (near_down w r.root r.rest p.1 f.0 f.1 c.if-rest-root.true, g, omega (arith, f.2))

pub returns-else-rest-root : goal.returns-else-rest-root
returns-else-rest-root c =
    let w = c.args.w in
    let p = c.requires in
    let r = c.root_digits-r.result in
    let f = c.root_digits-r.ensures in
    let g = root_large w r.root r.rest p.0 f.0 f.1 in
    (near_up w r.root r.rest p.1 f.0 f.1 c.if-rest-root.false, omega (arith, g), omega (arith, f.2))
