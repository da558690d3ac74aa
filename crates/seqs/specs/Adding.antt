-- The loop of a call that adds records to a table. Assumes nothing.
use Rattle.std.specs.Prelude.{◌≡◌, refl, List, [], ◌∷◌, ◌++◌, ℕ, ◌+◌, ◌*◌, ◌<◌, length, set}
use Rattle.std.proofs.Common.{sym, ap, ◌∙◌, subst, append-nil, arith, length-append}
use Rattle.seqs.specs.Lists.{each}
use Rattle.seqs.specs.Slices.{Wrote}
use Rattle.seqs.specs.Each.{each_append, each_length}
use Rattle.seqs.specs.Wrote.{Run, run_start, run_at, run_step, run_end, wrote_none, wrote_stores}
use Rattle.seqs.specs.Records.{Added}

-- one element is stored
pub run_push {ℓ} : {A : Type ℓ} {d₀ d : List A} {k₀ k : ℕ} {v : A} {rest whole : List A} → Run d₀ d k₀ k (v ∷ rest) whole → k < length d → Run d₀ (set d k v) k₀ (k + 1) rest whole
run_push {d = d} {k = k} {v = v} {rest = rest} r h = run_step (v ∷ []) rest r (wrote_stores d k (v ∷ []))

module _ {ℓ κ} {A : Type ℓ} {B : Type κ} (at : ℕ → ℕ) (enc : B → List A) where
  -- of `whole`, that is added from record n₀ on, `rest` is left, and n records stand
  pub record Adding (d₀ d : List A) (n₀ n : ℕ) (rest whole : List B) : Type ℓ where
    pub run : Run d₀ d (at n₀) (at n) (each enc rest) (each enc whole)
    pub count : n + length rest ≡ n₀ + length whole

  pub adding_start : (d : List A) (n : ℕ) (whole : List B) → Adding d d n n whole whole
  adding_start d n whole = record { run = run_start d (each enc whole) (at n); count = refl }

  pub adding_at : {d₀ d : List A} {n₀ n : ℕ} {rest rest' whole : List B} → rest ≡ rest' → Adding d₀ d n₀ n rest whole → Adding d₀ d n₀ n rest' whole
  adding_at {d₀} {d} {n₀} {n} {whole = whole} e r = subst (λ l. Adding d₀ d n₀ n l whole) e r

  pub adding_end : {d₀ d : List A} {n₀ n : ℕ} {whole : List B} → Adding d₀ d n₀ n [] whole → Added at enc d₀ d n₀ n whole
  adding_end r = record { wrote = run_end r.run; count = omega (arith, r.count) }

  pub added_none : (d : List A) (n : ℕ) → Added at enc d d n n []
  added_none d n = record { wrote = wrote_none d (at n); count = omega arith }

  module _ (w : ℕ) (width : (b : B) → length (enc b) ≡ w) (on : (n m : ℕ) → at (n + m) ≡ at n + w * m) where
    pub adding_step : {d₀ d d' : List A} {n₀ n r : ℕ} (m rest : List B) {whole : List B} → Adding d₀ d n₀ n (m ++ rest) whole → Added at enc d d' n r m → Adding d₀ d' n₀ r rest whole
    adding_step {d₀} {d} {d'} {n₀} {n} {r} m rest {whole} a b =
        let k : at n + length (each enc m) ≡ at r = ap (λ l. at n + l) (each_length enc w width m) ∙ sym (on n (length m)) ∙ ap at (sym b.count) in
        record {
          run = subst (λ j. Run d₀ d' (at n₀) j (each enc rest) (each enc whole)) k (run_step (each enc m) (each enc rest) (run_at (each_append enc m rest) a.run) b.wrote);
          count = omega (arith, a.count, b.count, length-append m rest);
        }

    -- one record, written by a call of its own
    pub added_one : {d d' : List A} {n : ℕ} {b : B} → Wrote d d' (at n) (enc b) → Added at enc d d' n (n + 1) (b ∷ [])
    added_one {d} {d'} {n} {b} h = record { wrote = rw (append-nil (enc b)) h; count = refl }
