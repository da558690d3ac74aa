-- The lent slices cut in two: the table and the places, and behind them what is laid. Assumes nothing.
use Rattle.std.specs.Prelude.{ℕ, ◌+◌, ◌-◌, ◌*◌, ◌≤◌, ◌≡◌, List, ◌++◌, length, take, drop, Float}
use Rattle.std.proofs.Common.{arith, ap, sym, ◌∙◌, append_assoc, drop-drop, take-add, length-append, length-drop, length-take-le, take-take, drop_at}
use Rattle.std.proofs.Math.Seq.{take-append-add}
use Rattle.seqs.specs.Slices.{Wrote}
use Rattle.rules.specs.declared.Edge.{Edge}
use Rattle.rules.specs.declared.Piece.{Piece}
use Rattle.edges.specs.Table.{edges_in}
use Rattle.edges.specs.TableLaws.{in_kept}
use Rattle.sweep.specs.Swept.{Laid}
use Rattle.sweep.specs.Laying.{Written}

-- the table that is read is the one that was lent
pub same_edges : (e : ℕ) (d : List Float) {t : List Float} {es : List Edge} → t ≡ take (6 * e) d → es ≡ edges_in e t → es ≡ edges_in e d
same_edges e d {t} f is = is ∙ in_kept e (6 * e) t d (omega arith) (ap (take (6 * e)) f ∙ take-take (6 * e) (6 * e) d (omega arith))

-- what is written behind the first s is written there in the whole
wrote_behind : {A : Type 0} (s : ℕ) (d : List A) {y x m : List A} {k : ℕ} → s ≤ length d → y ≡ take s d → Wrote (drop s d) x k m → Wrote d (y ++ x) (s + k) m
wrote_behind s d {y} {x} {m} {k} h f w =
    let n : length (take s d) ≡ s = length-take-le s d h in
    let z : length (drop s d) ≡ length d - s = length-drop s d in
    rw f record {
      size = length-append (take s d) x ∙ omega (arith, w.size);
      kept = (rw n at (take-append-add (take s d) x k)) ∙ ap (λ l. take s d ++ l) w.kept ∙ sym (take-add s k d);
      is = λ g. ap (λ l. take s d ++ l) (w.is (omega arith)) ∙ rw (take-add s k d, append_assoc, append_assoc, append_assoc) (ap (λ l. take s d ++ (take k (drop s d) ++ (m ++ l))) (drop-drop (k + length m) s d ∙ ap (λ j. drop j d) (omega arith)));
    }

pub laid_behind : (e n : ℕ) (rows : List (List Piece)) {d y x : List Float} {a : List ℕ} (p : List ℕ) {w : List ℕ} → 6 * e ≤ length d → 4 * e ≤ length a → y ≡ take (6 * e) d → length p ≡ 4 * e
    → Written n rows (drop (6 * e) d) x (drop (4 * e) a) w → Laid e n rows d (y ++ x) a (p ++ w)
laid_behind e n rows {d} {a = a} p {w} fits room table places l = record {
  size = length-append p w ∙ omega (arith, l.counts.size, length-drop (4 * e) a);
  pieces = record { wrote = wrote_behind (6 * e) d fits table l.pieces.wrote; count = l.pieces.count };
  counts = rw (drop_at p w (4 * e) places) l.counts;
}
