-- A table as it was prepared, in the shape that theorems name it by: cited by theorems alone. Definitions only.
use Rattle.std.specs.Prelude.{ℕ, ◌≤◌, ◌≡◌, List, length, Float}
use Rattle.refusal.specs.Refusal.{DONE, WORK}
use Rattle.layers.specs.Layers.{table_refusal}
use Rattle.layers.specs.Stages.{Standing}

pub data Table : Type 0 where
  Refused : ℕ → Table
  Short : Table
  Stands : ℕ → Table

-- the table, prepared: refused with nothing changed, too short, or standing
abbrev pub Preparing : List Float → List ℕ → Float → Float → List Float → List Float → ℕ → Table → Type 0
Preparing corners ends cosine sine table table' places (Table.Refused n) = (table_refusal corners ends cosine sine (length table) places ≡ n) × (1 ≤ n) × (n ≤ 5) × (table' ≡ table)
Preparing corners ends cosine sine table table' places Table.Short = table_refusal corners ends cosine sine (length table) places ≡ WORK
Preparing corners ends cosine sine table table' places (Table.Stands e) = (table_refusal corners ends cosine sine (length table) places ≡ DONE) × Standing corners ends cosine sine e table' places

pub record Prepared (corners : List Float) (ends : List ℕ) (cosine sine : Float) (table table' : List Float) (places : ℕ) (r : Table) : Type 0 where
  pub size : length table' ≡ length table
  pub is : Preparing corners ends cosine sine table table' places r
