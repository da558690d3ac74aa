-- A file that [1] wrote, with anything behind it, gives back its rounded points, the cut points of jumps marked as jumps. Assumes nothing.
use Rattle.std.specs.Prelude.{ℕ, zero, suc, ◌+◌, ◌-◌, ◌*◌, ◌≤◌, ◌<◌, ◌≡◌, refl, Bool, true, false, cond, eqb, leb, length, nat_abs}
use Rattle.std.proofs.Common.{arith, ◌∙◌}
use Rattle.std.proofs.Math.Path.{ap}
use Rattle.std.proofs.Math.Logic.{inl, inr}
use mathlib.Core.List.{List, [], ◌∷◌, ◌++◌, append_assoc, map, map-append}
use borrow.Author.Tests.{le-leb, lt-leb, leb-true, leb-false, lt-ltb, le-ltb}
use Rattle.seqs.specs.Tests.{either}
use Rattle.refusal.specs.Refusal.{DONE, SIZE, ROOM, unless, ◌then◌}
use Rattle.geom.specs.declared.point.P.{P}
use Rattle.dst.specs.declared.records.Kind.{Kind}
use Rattle.dst.specs.declared.records.Kind.TheVariants.{Stitch, Jump}
use Rattle.dst.specs.Records.{lift, lower, record_of, end_record}
use Rattle.dst.specs.Thread.{Whole, Mark, origin, rounded_point, move, parts, cut, cuts_from, way, thread, records_from, dst_bytes}
use Rattle.dst.specs.ThreadLaws.{Steps, parts_some, there, cut_last, thread_steps}
use Rattle.dst_read.specs.Names.{STITCH, most_records}
use Rattle.dst_read.specs.Record.{bad, is_end}
use Rattle.dst_read.specs.Reading.{stop, verdict, Marked, points_from}
use Rattle.dst_read.specs.Answers.{points_read, read_refusal}
use Rattle.dst_read.specs.Told.{marked_third, marked_record, mark_for, marked, sewn}
use Rattle.dst_read.proofs.RecordLaws.{Says, good_goes_on, record_says, kind_record}

-- ---- a record that is taken

few_marks : (k : Kind) → mark_for k ≤ 2
few_marks Stitch = omega arith
few_marks Jump = omega arith

module _ (a b c : ℕ) (l : List ℕ) (good : bad a b c ≡ false) where
  taken : (r : ℕ) → r < most_records → verdict r (a ∷ b ∷ c ∷ l) ≡ verdict (r + 1) l
  unfolding verdict
  taken r h = rw (good_goes_on a b c good, lt-leb most_records r h, good)

  too_many : (r : ℕ) → most_records ≤ r → verdict r (a ∷ b ∷ c ∷ l) ≡ stop SIZE r
  unfolding verdict
  too_many r h = rw (good_goes_on a b c good, le-leb most_records r h)

-- ---- a record that [1] wrote

module _ (at : Whole) (m : Mark) (hx : nat_abs (move at m.to).x ≤ 121) (hy : nat_abs (move at m.to).y ≤ 121) (l : List ℕ) where
  said : Says (mark_for m.kind) (move at m.to).x (move at m.to).y (lower 1 9 (lift (move at m.to).x) (lift (move at m.to).y)) (lower 3 27 (lift (move at m.to).x) (lift (move at m.to).y)) (marked_third (mark_for m.kind) (move at m.to).x (move at m.to).y)
  said = record_says (mark_for m.kind) (move at m.to).x (move at m.to).y (few_marks m.kind) hx hy

  written : record_of m.kind (move at m.to).x (move at m.to).y ++ l ≡ lower 1 9 (lift (move at m.to).x) (lift (move at m.to).y) ∷ lower 3 27 (lift (move at m.to).x) (lift (move at m.to).y) ∷ marked_third (mark_for m.kind) (move at m.to).x (move at m.to).y ∷ l
  unfolding marked_record
  written = ap (λ (b : List ℕ). b ++ l) (kind_record m.kind (move at m.to).x (move at m.to).y)

  record_taken : (r : ℕ) → r < most_records → verdict r (record_of m.kind (move at m.to).x (move at m.to).y ++ l) ≡ verdict (r + 1) l
  record_taken r h = rw written (taken _ _ _ l said.good r h)

  record_past : (r : ℕ) → most_records ≤ r → verdict r (record_of m.kind (move at m.to).x (move at m.to).y ++ l) ≡ stop SIZE r
  record_past r h = rw written (too_many _ _ _ l said.good r h)

  record_goes : (n : ℕ) → points_from at (suc n) (record_of m.kind (move at m.to).x (move at m.to).y ++ l) ≡ marked m ∷ points_from m.to n l
  unfolding points_from
  record_goes n = rw (written, said.mark, said.x, said.y, there at.x m.to.x, there at.y m.to.y)

-- ---- the records of marks, and the end

end_met : (r : ℕ) (rest : List ℕ) → verdict r (end_record ++ rest) ≡ stop DONE r
unfolding verdict is_end
end_met r rest = refl

after : (at : Whole) (m : Mark) (ms : List Mark) (l : List ℕ) → records_from at (m ∷ ms) ++ l ≡ record_of m.kind (move at m.to).x (move at m.to).y ++ (records_from m.to ms ++ l)
unfolding records_from
after at m ms l = append_assoc (record_of m.kind (move at m.to).x (move at m.to).y) (records_from m.to ms) l

marks_done : (at : Whole) (ms : List Mark) (rest : List ℕ) (r : ℕ) → Steps at ms → r + length ms ≤ most_records → verdict r (records_from at ms ++ (end_record ++ rest)) ≡ stop DONE (r + length ms)
unfolding records_from
marks_done at [] rest r h f = let e : r + 0 ≡ r = omega arith in rw e (end_met r rest)
marks_done at (m ∷ ms) rest r h f =
    let e : r + suc (length ms) ≡ r + 1 + length ms = omega arith in
    ap (verdict r) (after at m ms (end_record ++ rest)) ∙ record_taken at m h.0 h.1 (records_from m.to ms ++ (end_record ++ rest)) r (omega arith) ∙ rw e (marks_done m.to ms rest (r + 1) h.2 (omega arith))

marks_many : (at : Whole) (ms : List Mark) (l : List ℕ) (r : ℕ) → Steps at ms → r ≤ most_records → most_records < r + length ms → verdict r (records_from at ms ++ l) ≡ stop SIZE most_records
marks_many at [] l r h f g = absurd (omega arith)
marks_many at (m ∷ ms) l r h f g = ap (verdict r) (after at m ms l) ∙ elim (either (leb most_records r)) [
  | inl e ↦ let i : r ≡ most_records = omega (arith, leb-true most_records r e) in record_past at m h.0 h.1 (records_from m.to ms ++ l) r (omega (arith, i)) ∙ ap (stop SIZE) i
  | inr e ↦ let i = leb-false most_records r e in record_taken at m h.0 h.1 (records_from m.to ms ++ l) r i ∙ marks_many m.to ms l (r + 1) h.2 (omega arith) (omega arith)
]

marks_back : (at : Whole) (ms : List Mark) (l : List ℕ) → Steps at ms → points_from at (length ms) (records_from at ms ++ l) ≡ map marked ms
unfolding points_from
marks_back at [] l h = refl
marks_back at (m ∷ ms) l h = ap (points_from at (suc (length ms))) (after at m ms l) ∙ record_goes at m h.0 h.1 (records_from m.to ms ++ l) (length ms) ∙ ap (λ (p : List Marked). marked m ∷ p) (marks_back m.to ms l h.2)

-- ---- a file

module _ (ps : List P) (rest : List ℕ) where
  laid : dst_bytes ps ++ rest ≡ records_from origin (thread origin ps) ++ (end_record ++ rest)
  unfolding dst_bytes
  laid = append_assoc (records_from origin (thread origin ps)) end_record rest

  -- it is read to its end, and gives back the needle's way
  pub file_done : length (thread origin ps) ≤ most_records → verdict 0 (dst_bytes ps ++ rest) ≡ stop DONE (length (thread origin ps))
  file_done h =
      let e : 0 + length (thread origin ps) ≡ length (thread origin ps) = omega arith in
      ap (verdict 0) laid ∙ (rw e at (marks_done origin (thread origin ps) rest 0 (thread_steps origin ps) (omega arith)))

  pub file_back : length (thread origin ps) ≤ most_records → points_read (dst_bytes ps ++ rest) ≡ map marked (thread origin ps)
  unfolding points_read
  file_back h = rw (file_done h, laid) (marks_back origin (thread origin ps) (end_record ++ rest) (thread_steps origin ps))

  pub file_many : most_records < length (thread origin ps) → verdict 0 (dst_bytes ps ++ rest) ≡ stop SIZE most_records
  file_many h = ap (verdict 0) laid ∙ marks_many origin (thread origin ps) (end_record ++ rest) 0 (thread_steps origin ps) (omega arith) (omega arith)

  -- so the call answers by the count of records and the room alone
  pub file_answers : (room marks : ℕ) → let n = length (thread origin ps) in read_refusal (dst_bytes ps ++ rest) room marks ≡ unless SIZE (leb n most_records) then unless ROOM (leb (2 * n) room) then unless ROOM (leb n marks)
  unfolding read_refusal
  file_answers room marks = elim (either (leb (length (thread origin ps)) most_records)) [
    | inl e ↦ rw (file_done (leb-true (length (thread origin ps)) most_records e), e)
    | inr e ↦ rw (file_many (leb-false (length (thread origin ps)) most_records e), e)
  ]

-- ---- its stitches are the rounded points, in their order

sewn_append : (l m : List Marked) → sewn (l ++ m) ≡ sewn l ++ sewn m
sewn_append [] m = refl
sewn_append (p ∷ l) m = go (eqb p.mark STITCH) (sewn_append l m)
  where
    go : (b : Bool) → sewn (l ++ m) ≡ sewn l ++ sewn m → cond b (p.to ∷ sewn (l ++ m)) (sewn (l ++ m)) ≡ cond b (p.to ∷ sewn l) (sewn l) ++ sewn m
    go true e = ap (λ (k : List Whole). p.to ∷ k) e
    go false e = e

-- of cuts i to i + left of n, the last is n
cuts_sewn : (a d : Whole) (n i left : ℕ) → i + left ≡ n → sewn (map marked (cuts_from a d n i (suc left))) ≡ cut a d n n ∷ []
unfolding cuts_from
cuts_sewn a d n i zero e = let f : i ≡ n = omega arith in rw (f, le-ltb n n (omega arith))
cuts_sewn a d n i (suc left) e = rw (lt-ltb i n (omega arith)) (cuts_sewn a d n (i + 1) left (omega arith))

way_sewn : (a b : Whole) → sewn (map marked (way a b)) ≡ b ∷ []
unfolding way
way_sewn a b =
    let d = move a b in
    let e : parts d ≡ suc (parts d - 1) = omega (arith, parts_some d) in
    ap (λ (k : ℕ). sewn (map marked (cuts_from a d (parts d) 1 k))) e ∙ cuts_sewn a d (parts d) 1 (parts d - 1) (omega (arith, parts_some d)) ∙ ap (λ (w : Whole). w ∷ []) (cut_last a b (parts d) (parts_some d))

thread_sewn : (a : Whole) (ps : List P) → sewn (map marked (thread a ps)) ≡ map rounded_point ps
unfolding thread
thread_sewn a [] = refl
thread_sewn a (p ∷ ps) =
    let b = rounded_point p in
    ap sewn (map-append marked (way a b) (thread b ps)) ∙ sewn_append (map marked (way a b)) (map marked (thread b ps)) ∙ rw (way_sewn a b, thread_sewn b ps)

pub comes_back : (ps : List P) (rest : List ℕ) → length (thread origin ps) ≤ most_records → sewn (points_read (dst_bytes ps ++ rest)) ≡ map rounded_point ps
comes_back ps rest h = ap sewn (file_back ps rest h) ∙ thread_sewn origin ps
