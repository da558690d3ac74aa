use Rattle.std.proofs.Common.{◌≡◌, ◌+◌, ◌-◌, ◌≤◌, length, drop, length-drop, arith}
use Rattle.std.proofs.lemmas.List.{drop-take}
use Rattle.std.proofs.lemmas.List.Edits.{take-paste}
use Rattle.book.proofs.writing.move_down.Goals as goal

pub returns : goal.returns
returns c =
    let a = c.args in
    let s = a.s.now in
    let n : a.from + (a.end - a.from) ≡ a.end = omega arith in
    let room : a.end - a.from ≤ length (drop a.from s) = omega (arith, length-drop a.from s) in
    let part = rw n at (drop-take a.from (a.end - a.from) s) in
    (rw (c.copy_within.ensures.after, part) (take-paste s a.to (drop a.from s) (a.end - a.from) (omega arith) room), c.copy_within.ensures.len)
