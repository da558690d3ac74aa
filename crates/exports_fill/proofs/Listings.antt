-- A list's pieces are told as a count is. Assumes nothing.
use Rattle.std.specs.Prelude.{ℕ, ◌≡◌, refl, Result, Ok, Err}
use Rattle.std.proofs.Common.{◌∙◌}
use Rattle.refusal.specs.declared.Refusal.{Refusal}
use Rattle.refusal.specs.Sewn.{said_sewn}
use Rattle.tatami.specs.Left.{said_listed}
use Rattle.exports_fill.specs.Fills.{listed}

listed_count : (r : Result ℕ Refusal) → listed (said_sewn r).answer (said_sewn r).points ≡ said_listed r
listed_count (Ok n) = refl
listed_count (Err e) = refl

pub listed_told : (r : Result ℕ Refusal) {n p : ℕ} → n ≡ (said_sewn r).answer → p ≡ (said_sewn r).points → listed n p ≡ said_listed r
listed_told r e f = (λ i. listed (e i) (f i)) ∙ listed_count r
