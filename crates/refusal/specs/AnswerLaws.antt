-- An answer that says a value says no other, and no refusal. Assumes nothing.
use Rattle.std.specs.Prelude.{ℕ, ◌≡◌, cond, eqb, [], ◌∷◌, length, Result, Ok, Err}
use Rattle.std.proofs.Math.Path.{refl}
use Rattle.std.proofs.Common.{arith, sym, ap, ◌∙◌}
use Rattle.refusal.specs.declared.Refusal.{Refusal}
use Rattle.refusal.specs.declared.Refusal.TheVariants.{Layout, Number, Setting, Turn, Size, Work, Room, Record, Cut, Absent, Version}
use Rattle.refusal.specs.Refusal.{Answer, done, refused, number, said}
use Rattle.refusal.specs.Sewn.{Sewn, Written, said_sewn, said_written}

module _ {A : Type 0} where
  pub done_one : {v w : A} → done v ≡ done w → v ≡ w
  done_one {v} {w} e = let l : v ∷ [] ≡ w ∷ [] = ap (λ (a : Answer A). a.values) e in cc

  pub done_refused : {v : A} {n : ℕ} → done v ≡ refused n → ⊥
  done_refused e = let l = ap (λ (a : Answer A). length a.values) e in omega arith

  pub refused_done : {v : A} {n : ℕ} → refused n ≡ done v → ⊥
  refused_done e = let l = ap (λ (a : Answer A). length a.values) e in omega arith

pub refused_one : (A : Type 0) {m n : ℕ} → refused {A = A} m ≡ refused n → m ≡ n
refused_one A e = ap (λ (a : Answer A). a.number) e

-- ---- a refusal has its number alone, and what a result says is said by no other

-- the refusal of a number
refusal_of : ℕ → Refusal
refusal_of n =
    cond (eqb n 1) Layout (cond (eqb n 2) Number (cond (eqb n 3) Setting (cond (eqb n 4) Turn (cond (eqb n 5) Size
    (cond (eqb n 6) Work (cond (eqb n 7) Room (cond (eqb n 8) Record (cond (eqb n 9) Cut (cond (eqb n 10) Absent Version)))))))))

of_number : (e : Refusal) → refusal_of (number e) ≡ e
unfolding refusal_of
of_number Layout = refl
of_number Number = refl
of_number Setting = refl
of_number Turn = refl
of_number Size = refl
of_number Work = refl
of_number Room = refl
of_number Record = refl
of_number Cut = refl
of_number Absent = refl
of_number Version = refl

pub number_one : (e f : Refusal) → number e ≡ number f → e ≡ f
number_one e f h = sym (of_number e) ∙ ap refusal_of h ∙ of_number f

pub number_some : (e : Refusal) → number e ≡ 0 → ⊥
number_some Layout h = omega arith
number_some Number h = omega arith
number_some Setting h = omega arith
number_some Turn h = omega arith
number_some Size h = omega arith
number_some Work h = omega arith
number_some Room h = omega arith
number_some Record h = omega arith
number_some Cut h = omega arith
number_some Absent h = omega arith
number_some Version h = omega arith

pub said_one : {A : Type 0} (r s : Result A Refusal) → said r ≡ said s → r ≡ s
said_one (Ok v) (Ok w) e = ap Ok (done_one e)
said_one (Ok v) (Err f) e = absurd (done_refused e)
said_one (Err f) (Ok v) e = absurd (refused_done e)
said_one {A} (Err f) (Err g) e = ap Err (number_one f g (refused_one A e))

pub said_sewn_one : (r s : Result ℕ Refusal) → said_sewn r ≡ said_sewn s → r ≡ s
said_sewn_one (Ok n) (Ok m) e = ap Ok (ap (λ (x : Sewn). x.points) e)
said_sewn_one (Ok n) (Err f) e = absurd (number_some f (sym (ap (λ (x : Sewn). x.answer) e)))
said_sewn_one (Err f) (Ok n) e = absurd (number_some f (ap (λ (x : Sewn). x.answer) e))
said_sewn_one (Err f) (Err g) e = ap Err (number_one f g (ap (λ (x : Sewn). x.answer) e))

pub said_written_one : (r s : Result ℕ Refusal) → said_written r ≡ said_written s → r ≡ s
said_written_one (Ok n) (Ok m) e = ap Ok (ap (λ (x : Written). x.bytes) e)
said_written_one (Ok n) (Err f) e = absurd (number_some f (sym (ap (λ (x : Written). x.answer) e)))
said_written_one (Err f) (Ok n) e = absurd (number_some f (ap (λ (x : Written). x.answer) e))
said_written_one (Err f) (Err g) e = ap Err (number_one f g (ap (λ (x : Written). x.answer) e))

-- bytes written are counted as points sewn are
pub written_count : (r : Result ℕ Refusal) → (said_written r).bytes ≡ (said_sewn r).points
written_count (Ok n) = refl
written_count (Err e) = refl

pub written_answer : (r : Result ℕ Refusal) → (said_written r).answer ≡ (said_sewn r).answer
written_answer (Ok n) = refl
written_answer (Err e) = refl
