-- What the stages of two fills over one table hand on. Definitions only.
use Rattle.std.specs.Prelude.{ℕ, ◌*◌, ◌≤◌, ◌≡◌, true, ◌||◌, cond, List, ltb, length, Float, Result, Ok, Err, Option, Some, None}
use Rattle.refusal.specs.Refusal.{DONE, WORK, number}
use Rattle.refusal.specs.declared.Refusal.{Refusal}
use Rattle.refusal.specs.declared.Refusal.TheVariants.{Work}
use Rattle.limits.specs.Limits.{good_outline, good_numbers, good_turn}
use Rattle.numbers.specs.Num.{zero64}
use Rattle.edges.specs.Table.{edges_in}
use Rattle.finding.specs.Stages.{Zeroed}
use Rattle.finding.specs.declared.find.Found.{Found}
use Rattle.layers.specs.Layers.{table_of, table_refusal}

-- a table of e edges that stands, beside a slice of `places` whole numbers for the sweep
pub record Standing (corners : List Float) (ends : List ℕ) (cosine sine : Float) (e : ℕ) (table : List Float) (places : ℕ) : Type 0 where
  pub outline : good_outline corners ends ≡ true
  pub numbers : good_numbers corners ≡ true
  pub turn : good_turn cosine sine ≡ true
  pub edges : edges_in e table ≡ table_of corners ends cosine sine
  pub floats : 6 * e ≤ length table
  pub wholes : 4 * e ≤ places

-- the table, prepared: refused with nothing changed, too short, or standing
abbrev pub Preparing : List Float → List ℕ → Float → Float → List Float → List Float → ℕ → Result (Option ℕ) Refusal → Type 0
Preparing corners ends cosine sine table table' places (Err e) = (table_refusal corners ends cosine sine (length table) places ≡ number e) × (1 ≤ number e) × (number e ≤ 5) × (table' ≡ table)
Preparing corners ends cosine sine table table' places (Ok None) = table_refusal corners ends cosine sine (length table) places ≡ WORK
Preparing corners ends cosine sine table table' places (Ok (Some e)) = (table_refusal corners ends cosine sine (length table) places ≡ DONE) × Standing corners ends cosine sine e table' places

pub record Prepared (corners : List Float) (ends : List ℕ) (cosine sine : Float) (table table' : List Float) (places : ℕ) (r : Result (Option ℕ) Refusal) : Type 0 where
  pub size : length table' ≡ length table
  pub is : Preparing corners ends cosine sine table table' places r

-- every working slice made zero
pub record Cleared (t t' d d' f f' : List Float) (p p' a a' w w' : List ℕ) : Type 0 where
  pub table : Zeroed zero64 t t'
  pub places : Zeroed 0 p p'
  pub floats : Zeroed zero64 d d'
  pub wholes : Zeroed 0 a a'
  pub floats2 : Zeroed zero64 f f'
  pub wholes2 : Zeroed 0 w w'

-- what was found of n pieces with no edge in front of them, in slices of `floats` and `wholes` numbers
abbrev pub found_of : ℕ → ℕ → ℕ → Result Found Refusal
found_of n floats wholes = cond (ltb floats (4 * n) || ltb wholes (6 * n)) (Err Work) (Ok (record { edges = 0; pieces = n }))
