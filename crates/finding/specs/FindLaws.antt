-- What the sweep lays out for an accepted fill are the pieces of its rows, each row taken alone. Assumes nothing.
use Rattle.std.specs.Prelude.{ℕ, ◌+◌, ◌*◌, ◌/◌, ◌%◌, ◌≤◌, ◌<◌, ◌≡◌, refl, true, ◌&&◌, cond, List, ◌++◌, ltb, leb, eqb, take, drop, Float}
use Rattle.std.proofs.Common.{arith, ap, ◌∙◌, subst, length-drop, take_at, lt-ltb, leb-true}
use Rattle.std.proofs.Math.Path.{sym}
use Rattle.std.proofs.Math.Bool.{or-true}
use Rattle.std.proofs.Math.ListN.{length, length-map}
use Rattle.seqs.specs.Lists.{each, Strict}
use Rattle.seqs.specs.Records.{Added}
use Rattle.seqs.specs.Each.{each_length}
use Rattle.seqs.specs.Tests.{and_both}
use Rattle.geom.specs.Outline.{rings, rising}
use Rattle.limits.specs.Limits.{good_outline}
use Rattle.limits.specs.LimitsLaws.{outline_layout}
use Rattle.rules.specs.declared.Edge.{Edge}
use Rattle.rules.specs.Fill.{edges, row_list, need_floats, need_wholes}
use Rattle.rules.specs.PieceTable.{piece_block, row_counts}
use Rattle.rules.proofs.Sections.{entries_pieces}
use Rattle.rules.specs.Accepted.{laid_out, checked}
use Rattle.rules.proofs.Theorems.{edges_bounded, pieces_bounded}
use Rattle.edges.specs.Table.{edge_block, edge_place, edges_in, Outline}
use Rattle.edges.specs.TableLaws.{built}
use Rattle.edges.specs.Span.{Spanned}
use Rattle.edges.specs.SpanLaws.{spanned}
use Rattle.sweep.specs.declared.key.Key.TheVariants.{Top, Bottom}
use Rattle.sweep.specs.Swept.{by, numbers, swept_all, Lent, Laid}
use Rattle.sweep.specs.Exact.{sweep_exact, sweep_strict}
use Rattle.sweep.specs.LaidLaws.{laid_count, counts_length, wrote_there}
use Rattle.finding.specs.declared.Plan.{Plan}
use Rattle.finding.specs.Stages.{Passed, alone, short, Holds}

-- what a plan holds
pub passed : (t : Plan) → Passed t.outline.corners.now t.outline.ends.now t
passed t = record { accepted = t.accepted; rows = t.spanned }

take_front : {A : Type 0} (m l d : List A) (n : ℕ) → length m ≡ n → d ≡ m ++ l → take n d ≡ m
take_front m l d n h e = ap (take n) e ∙ take_at m l n h

pub outline_of : (corners : List Float) (ends : List ℕ) → good_outline corners ends ≡ true → Outline corners ends
unfolding good_outline
outline_of corners ends h =
    let one = and_both (eqb (length corners % 2) 0 && leb (length ends) 255 && leb (length corners / 2) 1024) (rising 0 ends (length corners / 2)) h in
    let two = and_both (eqb (length corners % 2) 0 && leb (length ends) 255) (leb (length corners / 2) 1024) one.0 in
    let y = outline_layout corners ends h in
    record { layout = y; few = omega (arith, y.even, leb-true (length corners / 2) 1024 two.1) }

module _ (corners : List Float) (ends : List ℕ) (t : Plan) where
  abbrev es : List Edge
  es = edges t.g (rings corners ends)

  abbrev pieces : ℕ
  pieces = length (row_list (rings corners ends) t.rule t.g t.upward)

  -- ---- a slice that is too short

  pub short_floats : (floats wholes : ℕ) → floats < need_floats (length es) pieces → short corners ends t floats wholes ≡ true
  short_floats floats wholes h = rw (lt-ltb floats (need_floats (length es) pieces) h)

  pub short_wholes : (floats wholes : ℕ) → wholes < need_wholes (length es) pieces → short corners ends t floats wholes ≡ true
  short_wholes floats wholes h = rw (lt-ltb wholes (need_wholes (length es) pieces) h) (or-true (ltb floats (need_floats (length es) pieces)))

  pub alone_count : length (each (λ r. r) (alone corners ends t)) ≡ pieces
  unfolding row_list
  alone_count = sym (ap length (entries_pieces (rings corners ends) t.rule t.g _ 0 (alone corners ends t))) ∙ length-map (row_list (rings corners ends) t.rule t.g t.upward) (λ e. e.piece)

  module _ (p : Passed corners ends t) where
    pub outlined : Outline corners ends
    outlined = outline_of corners ends (laid_out corners ends t.g t.stagger p.accepted)

    pub few_edges : length es ≤ 1024
    few_edges = edges_bounded corners ends t.g t.stagger p.accepted

    pub spans_rows : Spanned t.rows
    spans_rows = rw p.rows (spanned t.g es (checked corners ends t.g t.stagger p.accepted).rows)

    -- the table that was built, swept
    module _ (e : ℕ) {d d₁ : List Float} (b : Added edge_place edge_block d d₁ 0 e es) where
      pub edge_count : e ≡ length es
      edge_count = omega (arith, b.count)

      pub lent : (a : List ℕ) → length d₁ ≡ length d → 6 * e ≤ length d → 4 * e ≤ length a → Lent d₁ a e t.rows
      lent a s h k = record { floats = omega arith; wholes = k; edges = omega (arith, edge_count, few_edges); rows = spans_rows }

      pub lent_strict : 5 * e ≤ length d → Strict (by (cond t.upward Bottom Top) (edges_in e d₁))
      lent_strict h = rw (built es b h) (sweep_strict corners ends t.g t.stagger p.accepted t.upward)

      pub swept_alone : 5 * e ≤ length d → swept_all t.upward t.rule t.g (edges_in e d₁) (numbers t.rows t.upward 0) ≡ alone corners ends t
      swept_alone h = rw (built es b h, p.rows) (sweep_exact corners ends t.g t.stagger p.accepted t.rule t.upward)

      module _ (n : ℕ) {d₂ : List Float} {a a₂ : List ℕ} (h : 5 * e ≤ length d)
          (l : Laid e n (swept_all t.upward t.rule t.g (edges_in e d₁) (numbers t.rows t.upward 0)) d₁ d₂ a a₂) where
        laid : Laid e n (alone corners ends t) d₁ d₂ a a₂
        laid = subst (λ rows. Laid e n rows d₁ d₂ a a₂) (swept_alone h) l

        pub piece_count : n ≡ pieces
        piece_count = laid_count e n (alone corners ends t) laid ∙ alone_count

        pub few_found : n ≤ 2097152
        few_found = omega (arith, piece_count, pieces_bounded corners ends t.g t.stagger p.accepted t.rule t.upward)

        pub holds : need_floats e n ≤ length d₁ → need_wholes e n ≤ length a → length d₂ ≡ length d₁ → Holds corners ends t e n d₂ a₂
        holds f k s =
            let flat = each (λ r. r) (alone corners ends t) in
            let c = laid_count e n (alone corners ends t) laid in
            let z : 6 * e + 3 * 0 ≡ 6 * e = omega arith in
            let u = each_length piece_block 3 (λ q. refl) flat in
            let v = counts_length 0 (alone corners ends t) in
            record {
              count = edge_count;
              pieces = piece_count;
              floats = omega arith;
              wholes = omega (arith, l.size);
              laid = record {
                count = c;
                floats = take_front (each piece_block flat) _ (drop (6 * e) d₂) (3 * n) (omega (arith, c, u)) (rw z at (wrote_there (6 * e + 3 * 0) (each piece_block flat) laid.pieces.wrote (omega (arith, c, u))));
                counts = take_front (row_counts 0 (alone corners ends t)) _ (drop (4 * e) a₂) n (omega (arith, c, v)) (wrote_there 0 (row_counts 0 (alone corners ends t)) laid.counts (omega (arith, c, v, length-drop (4 * e) a)));
              };
            }
