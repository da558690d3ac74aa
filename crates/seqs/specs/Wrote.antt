-- Writing a list in parts, from some place on, with or without room for it. Assumes nothing.
use Rattle.std.specs.Prelude.{◌≡◌, refl, List, [], ◌∷◌, ◌++◌, ℕ, suc, ◌+◌, ◌≤◌, ◌<◌, length, take, set}
use Rattle.std.proofs.Common.{sym, ap, ◌∙◌, subst, add-one, arith, length-append, length-take-le}
use Rattle.std.proofs.lemmas.List.{take-set-le}
use Rattle.std.proofs.lemmas.List.Edits.{sets, sets-eq}
use Rattle.std.proofs.Math.Seq.{length-sets}
use Rattle.seqs.specs.Front.{Front, front_from, front_end, front_count, block_front}
use Rattle.seqs.specs.Slices.{Wrote, Put, stores_from, stores}
use Rattle.seqs.specs.Reads.{take_on}

-- the loop of a writer: from k₀ on `whole` is being written, and from k on `rest` is left
pub record Run {ℓ} {A : Type ℓ} (d₀ d : List A) (k₀ k : ℕ) (rest whole : List A) : Type ℓ where
  pub size : length d ≡ length d₀
  pub low : k₀ ≤ k
  pub kept : take k₀ d ≡ take k₀ d₀
  pub count : k + length rest ≡ k₀ + length whole
  pub front : k₀ + length whole ≤ length d₀ → Front d₀ d k rest (take k₀ d₀ ++ whole)

module _ {ℓ} {A : Type ℓ} where
  -- what stands before k, and what is written behind it
  pub head_length : (d m : List A) (k : ℕ) → k ≤ length d → length (take k d ++ m) ≡ k + length m
  head_length d m k h = length-append (take k d) m ∙ ap (λ j. j + length m) (length-take-le k d h)

  pub run_start : (d whole : List A) (k : ℕ) → Run d d k k whole whole
  run_start d whole k = record { size = refl; low = omega arith; kept = refl; count = refl; front = λ h. front_from d whole k (omega arith) }

  pub run_at : {d₀ d : List A} {k₀ k : ℕ} {rest rest' whole : List A} → rest ≡ rest' → Run d₀ d k₀ k rest whole → Run d₀ d k₀ k rest' whole
  run_at {d₀} {d} {k₀} {k} {whole = whole} e r = subst (λ l. Run d₀ d k₀ k l whole) e r

  -- a part m is written
  pub run_step : {d₀ d d' : List A} {k₀ k : ℕ} (m rest : List A) {whole : List A} → Run d₀ d k₀ k (m ++ rest) whole → Wrote d d' k m → Run d₀ d' k₀ (k + length m) rest whole
  run_step {d₀} {d} {d'} {k₀} {k} m rest {whole} r w =
      let a : length (m ++ rest) ≡ length m + length rest = length-append m rest in
      record {
        size = w.size ∙ r.size;
        low = omega (arith, r.low);
        kept = take_on d' d k₀ k r.low w.kept ∙ r.kept;
        count = omega (arith, r.count);
        front = λ h.
            let room : k + length m ≤ length d = omega (arith, r.count, r.size) in
            subst (λ l. Front d₀ l (k + length m) rest (take k₀ d₀ ++ whole)) (sym (w.is room)) (block_front m rest (r.front h) room);
      }

  -- all is written: `count` says that k is k₀ + length whole, room or not
  pub run_end : {d₀ d : List A} {k₀ k : ℕ} {whole : List A} → Run d₀ d k₀ k [] whole → Wrote d₀ d k₀ whole
  run_end {d₀} {k₀ = k₀} {whole = whole} r =
      record { size = r.size; kept = r.kept; is = λ h. front_end (r.front h) ∙ rw (head_length d₀ whole k₀ (omega arith)) }

  pub wrote_none : (d : List A) (k : ℕ) → Wrote d d k []
  wrote_none d k = run_end (run_start d [] k)

  pub wrote_full : (d m : List A) (k : ℕ) → length d < k + length m → Wrote d d k m
  wrote_full d m k h = record { size = refl; kept = refl; is = λ g. absurd (omega arith) }

  -- what has room is put there
  pub wrote_put : {d d' : List A} {k : ℕ} {m : List A} → Wrote d d' k m → k + length m ≤ length d → Put d d' k m
  wrote_put {d} {k = k} {m = m} w h = rw (head_length d m k (omega arith)) (w.is h)

  -- a writer that starts at k: the room that `front_room_block` asks for, and the last turn
  pub put_room : (d m : List A) (k : ℕ) → k + length m ≤ length d → length (take k d ++ m) ≤ length d
  put_room d m k h = omega (arith, head_length d m k (omega arith))

  pub put_end : {d₀ d : List A} {n : ℕ} (m : List A) (k : ℕ) → k ≤ length d₀ → Front d₀ d n [] (take k d₀ ++ m) → Put d₀ d k m × (n ≡ k + length m)
  put_end {d₀} m k h f = (front_end f, omega (arith, front_count f, head_length d₀ m k h))

  -- ---- stores of a list that is written out

  stores_from_lem : (d : List A) (k j : ℕ) (m : List A) → stores_from d k j m ≡ sets d (k + j) m
  stores_from_lem d k j [] = refl
  stores_from_lem d k j (a ∷ m) = let e : k + suc j ≡ suc (k + j) = omega arith in stores_from_lem (set d (k + j) a) k (suc j) m ∙ rw e

  stores_sets : (d : List A) (k : ℕ) (m : List A) → stores d k m ≡ sets d k m
  stores_sets d k [] = refl
  stores_sets d k (a ∷ m) = stores_from_lem (set d k a) k 1 m ∙ rw add-one

  take_sets : (k i : ℕ) (d m : List A) → k ≤ i → take k (sets d i m) ≡ take k d
  take_sets k i d [] h = refl
  take_sets k i d (a ∷ m) h = take_sets k (suc i) (set d i a) m (omega arith) ∙ take-set-le k d i a h

  pub wrote_stores : (d : List A) (k : ℕ) (m : List A) → Wrote d (stores d k m) k m
  wrote_stores d k m = rw stores_sets (record { size = length-sets d k m; kept = take_sets k k d m (omega arith); is = sets-eq m d k })
