-- One fill over a table that stands: the edges are its own, and what is laid is what a lone fill would lay. Assumes nothing.
use Rattle.std.specs.Prelude.{ℕ, ◌*◌, ◌≤◌, ◌<◌, ◌≡◌, refl, Bool, true, false, cond, not, ◌||◌, List, ltb, Float, Result, Ok, Err, Option, Some, None}
use Rattle.std.proofs.Common.{arith, ap, sym, ◌∙◌, subst}
use Rattle.std.proofs.Math.Bool.{or-true}
use Rattle.std.proofs.Math.ListN.{length}
use borrow.Author.Tests.{lt-ltb, le-ltb, ltb-false}
use Rattle.refusal.specs.declared.Refusal.{Refusal}
use Rattle.refusal.specs.declared.Refusal.TheVariants.{Work}
use Rattle.refusal.specs.Refusal.{number, DONE, SETTING, SIZE, WORK, ROOM, unless}
use Rattle.seqs.specs.Records.{Added}
use Rattle.geom.specs.Outline.{rings}
use Rattle.limits.specs.Limits.{most_rows, good_outline, good_numbers, good_turn}
use Rattle.rules.specs.declared.Settings.{Settings}
use Rattle.rules.specs.Fill.{turned, edges, row_numbers, good_settings, gate}
use Rattle.rules.proofs.Counts.{edges_few}
use Rattle.rules.specs.CallLaws.{room_told}
use Rattle.rules.proofs.Theorems.{pieces_bounded}
use Rattle.edges.specs.Table.{edge_block, edge_place, edges_in}
use Rattle.edges.specs.TableLaws.{in_length, built}
use Rattle.sweep.specs.Swept.{numbers, swept_all}
use Rattle.sweep.specs.Exact.{sweep_exact, sweep_strict}
use Rattle.finding.specs.declared.Plan.{Plan}
use Rattle.finding.specs.Stages.{Passed, alone}
use Rattle.finding.specs.FindLaws.{alone_count, few_edges, spans_rows}
use Rattle.laying.specs.Laying.{Lent, Laid}
use Rattle.laying.specs.LayingLaws.{laid_count, laid_floats, laid_counts}
use Rattle.finding.specs.declared.find.Found.{Found}
use Rattle.tatami.specs.Stages.{Lent as Sewable, Handed, told, list_of}
use Rattle.layers.specs.declared.Layer.{Layer}
use Rattle.layers.specs.Layers.{turn_of, table_of, table_refusal, settings_of, layer_roomed}
use Rattle.layers.specs.Stages.{Standing, Preparing, Prepared, found_of}

-- a fill's edges at the table's angle are the table's
pub table_edges : (corners : List Float) (ends : List ℕ) (g : Settings) → table_of corners ends g.cosine g.sine ≡ edges g (rings corners ends)
unfolding table_of edges turned
table_edges corners ends g = refl

-- ---- the table

module _ (corners : List Float) (ends : List ℕ) (cosine sine : Float) (a : good_outline corners ends ≡ true) where
  pub table_few : length (table_of corners ends cosine sine) ≤ 1024
  unfolding table_of
  table_few = edges_few corners ends (turn_of cosine sine) a

  module _ (b : good_numbers corners ≡ true) (c : good_turn cosine sine ≡ true) where
    pub table_floats : (floats wholes : ℕ) → floats < 6 * length (table_of corners ends cosine sine) → table_refusal corners ends cosine sine floats wholes ≡ WORK
    unfolding table_refusal
    table_floats floats wholes h = rw (a, b, c, lt-ltb floats (6 * length (table_of corners ends cosine sine)) h)

    pub table_wholes : (floats wholes : ℕ) → wholes < 4 * length (table_of corners ends cosine sine) → table_refusal corners ends cosine sine floats wholes ≡ WORK
    unfolding table_refusal
    table_wholes floats wholes h =
        let e = length (table_of corners ends cosine sine) in
        rw (a, b, c, lt-ltb wholes (4 * e) h, or-true (ltb floats (6 * e)))

    pub table_stands : (e : ℕ) {t t' : List Float} (places : ℕ) → Added edge_place edge_block t t' 0 e (table_of corners ends cosine sine) → length t' ≡ length t → 6 * e ≤ length t → 4 * e ≤ places
        → (table_refusal corners ends cosine sine (length t) places ≡ DONE) × Standing corners ends cosine sine e t' places
    unfolding table_refusal
    table_stands e {t} {t'} places h s f w =
        let es = table_of corners ends cosine sine in
        let n : e ≡ length es = omega (arith, h.count) in
        (rw (a, b, c, le-ltb (length t) (6 * length es) (omega arith), le-ltb places (4 * length es) (omega arith)), record { outline = a; numbers = b; turn = c; edges = built es h (omega arith); floats = omega arith; wholes = w })

-- the table that was built
pub table_added : (corners : List Float) (ends : List ℕ) (cosine sine : Float) {g : Settings} {t t' : List Float} {e : ℕ} → g ≡ turn_of cosine sine → Added edge_place edge_block t t' 0 e (edges g (rings corners ends)) → Added edge_place edge_block t t' 0 e (table_of corners ends cosine sine)
unfolding table_of
table_added corners ends cosine sine h b = rw h at b

-- what was prepared, once it is known which
module _ (corners : List Float) (ends : List ℕ) (cosine sine : Float) (t : List Float) {t' : List Float} (places : ℕ) {r : Result (Option ℕ) Refusal} (h : Prepared corners ends cosine sine t t' places r) where
  pub prepared_refused : {n : Refusal} → r ≡ Err n → (table_refusal corners ends cosine sine (length t) places ≡ number n) × (1 ≤ number n) × (number n ≤ 5) × (t' ≡ t)
  prepared_refused e = subst (Preparing corners ends cosine sine t t' places) e h.is

  pub prepared_short : r ≡ Ok None → table_refusal corners ends cosine sine (length t) places ≡ WORK
  prepared_short e = subst (Preparing corners ends cosine sine t t' places) e h.is

  pub prepared_stands : {e : ℕ} → r ≡ Ok (Some e) → (table_refusal corners ends cosine sine (length t) places ≡ DONE) × Standing corners ends cosine sine e t' places
  prepared_stands e = subst (Preparing corners ends cosine sine t t' places) e h.is

-- ---- one fill

-- a table stands for each fill's settings
pub standing_for : (corners : List Float) (ends : List ℕ) (cosine sine : Float) (t : Layer) {g : Settings} {e : ℕ} {table : List Float} {places : ℕ} → g ≡ settings_of t cosine sine → Standing corners ends cosine sine e table places → Standing corners ends g.cosine g.sine e table places
standing_for corners ends cosine sine t h s = rw h s

-- where the table stands, the gate asks for 3 and 5
pub gate_own : (corners : List Float) (ends : List ℕ) (g : Settings) (stagger rest : ℕ) {e places : ℕ} {table : List Float} → Standing corners ends g.cosine g.sine e table places
    → gate corners ends g stagger rest ≡ cond (not (good_settings g stagger)) SETTING (cond (ltb most_rows (length (row_numbers g (edges g (rings corners ends))))) SIZE rest)
unfolding gate
gate_own corners ends g stagger rest s = rw (s.outline, s.numbers, s.turn)

module _ (corners : List Float) (ends : List ℕ) (t : Plan) where
  -- 4I and 6I
  pub own_floats : (floats wholes : ℕ) (fits : Bool) → floats < 4 * length (list_of corners ends t) → layer_roomed corners ends t.rule t.g t.upward floats wholes fits ≡ WORK
  unfolding layer_roomed
  own_floats floats wholes fits h = rw (lt-ltb floats (4 * length (list_of corners ends t)) h)

  pub own_wholes : (floats wholes : ℕ) (fits : Bool) → wholes < 6 * length (list_of corners ends t) → layer_roomed corners ends t.rule t.g t.upward floats wholes fits ≡ WORK
  unfolding layer_roomed
  own_wholes floats wholes fits h = rw (lt-ltb wholes (6 * length (list_of corners ends t)) h, or-true (ltb floats (4 * length (list_of corners ends t))))

  pub own_enough : (floats wholes : ℕ) (fits : Bool) → 4 * length (list_of corners ends t) ≤ floats → 6 * length (list_of corners ends t) ≤ wholes
      → layer_roomed corners ends t.rule t.g t.upward floats wholes fits ≡ unless ROOM fits
  unfolding layer_roomed
  own_enough floats wholes fits f w = rw (le-ltb floats (4 * length (list_of corners ends t)) f, le-ltb wholes (6 * length (list_of corners ends t)) w) (room_told fits)

  module _ (p : Passed corners ends t) {e places : ℕ} {table : List Float} (s : Standing corners ends t.g.cosine t.g.sine e table places) where
    own_edges : edges_in e table ≡ edges t.g (rings corners ends)
    own_edges = s.edges ∙ table_edges corners ends t.g

    pub layable : (l : List ℕ) → length l ≡ places → Lent table l e t.upward t.rows
    layable l h =
        record {
          built = omega (arith, s.floats);
          room = omega (arith, s.wholes);
          edges = omega (arith, in_length e table, ap length own_edges, few_edges corners ends t p);
          rows = spans_rows corners ends t p;
          strict = rw own_edges (sweep_strict corners ends t.g t.stagger p.accepted t.upward);
        }

    pub swept_own : swept_all t.upward t.rule t.g (edges_in e table) (numbers t.rows t.upward 0) ≡ alone corners ends t
    swept_own = rw (own_edges, p.rows) (sweep_exact corners ends t.g t.stagger p.accepted t.rule t.upward)

    module _ (n : ℕ) {d d' : List Float} {a a' : List ℕ} (l : Laid n (swept_all t.upward t.rule t.g (edges_in e table) (numbers t.rows t.upward 0)) d d' a a') where
      laid : Laid n (alone corners ends t) d d' a a'
      laid = subst (λ rows. Laid n rows d d' a a') swept_own l

      pub own_count : n ≡ length (list_of corners ends t)
      own_count = laid_count n (alone corners ends t) laid ∙ alone_count corners ends t

      pub own_few : n ≤ 2097152
      own_few = omega (arith, own_count, pieces_bounded corners ends t.g t.stagger p.accepted t.rule t.upward)

      pub own_pieces : length d' ≡ length d → length a' ≡ length a → 4 * n ≤ length d → 6 * n ≤ length a → Sewable corners ends t n d' a'
      own_pieces sd sa f w =
          record {
            passed = p;
            laid = record { count = laid_count n (alone corners ends t) laid; floats = laid_floats n (alone corners ends t) laid (omega arith); counts = laid_counts n (alone corners ends t) laid (omega arith) };
            floats = omega arith;
            wholes = omega arith;
          }

      module _ (sd : length d' ≡ length d) (sa : length a' ≡ length a) {found : Result Found Refusal} (is : found ≡ found_of n (length d') (length a')) where
        pub own_handed : Handed corners ends t d' a' found
        own_handed = rw is (go (ltb (length d') (4 * n)) refl (ltb (length a') (6 * n)) refl)
          where
            go : (f : Bool) → ltb (length d') (4 * n) ≡ f → (w : Bool) → ltb (length a') (6 * n) ≡ w → Handed corners ends t d' a' (cond {A = Result Found Refusal} (f || w) (Err Work) (Ok (record { edges = 0; pieces = n })))
            go true ef w ew = refl
            go false ef true ew = refl
            go false ef false ew =
                let f = ltb-false (length d') (4 * n) ef in
                let w = ltb-false (length a') (6 * n) ew in
                record { few = omega arith; floats = omega arith; wholes = omega arith; lent = own_pieces sd sa (omega arith) (omega arith) }

        pub own_told : (fits : Bool) → told found fits ≡ layer_roomed corners ends t.rule t.g t.upward (length d) (length a) fits
        unfolding layer_roomed
        own_told fits = rw (is, ← sd, ← sa, ← own_count) (go (ltb (length d') (4 * n) || ltb (length a') (6 * n)))
          where
            go : (b : Bool) → told (cond {A = Result Found Refusal} b (Err Work) (Ok (record { edges = 0; pieces = n }))) fits ≡ cond b WORK (cond (not fits) ROOM DONE)
            go true = refl
            go false = sym (room_told fits)
