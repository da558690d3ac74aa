-- What was prepared, of a table in its old shape. Assumes nothing.
use Rattle.std.specs.Prelude.{ℕ, ◌≤◌, ◌≡◌, List, Float}
use Rattle.std.proofs.Common.{subst}
use Rattle.std.proofs.Math.ListN.{length}
use Rattle.refusal.specs.Refusal.{DONE, WORK}
use Rattle.layers.specs.Layers.{table_refusal}
use Rattle.layers.specs.Stages.{Standing}
use Rattle.layers.specs.Table.{Table, Preparing, Prepared}
use Rattle.layers.specs.Table.Table.{Refused, Short, Stands}

-- what was prepared, once it is known which
module _ (corners : List Float) (ends : List ℕ) (cosine sine : Float) (t : List Float) {t' : List Float} (places : ℕ) {r : Table} (h : Prepared corners ends cosine sine t t' places r) where
  pub prepared_refused : {n : ℕ} → r ≡ Refused n → (table_refusal corners ends cosine sine (length t) places ≡ n) × (1 ≤ n) × (n ≤ 5) × (t' ≡ t)
  prepared_refused e = subst (Preparing corners ends cosine sine t t' places) e h.is

  pub prepared_short : r ≡ Short → table_refusal corners ends cosine sine (length t) places ≡ WORK
  prepared_short e = subst (Preparing corners ends cosine sine t t' places) e h.is

  pub prepared_stands : {e : ℕ} → r ≡ Stands e → (table_refusal corners ends cosine sine (length t) places ≡ DONE) × Standing corners ends cosine sine e t' places
  prepared_stands e = subst (Preparing corners ends cosine sine t t' places) e h.is
