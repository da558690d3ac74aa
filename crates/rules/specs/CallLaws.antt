-- What is proved of a call's answer and outputs. The first five checks decide alone: what comes after them is asked only where none of them refuses. Assumes nothing.
use Rattle.std.specs.Prelude.{◌≡◌, refl, Bool, true, false, not, cond, List, [], ◌∷◌, ℕ, suc, ◌+◌, ltb, length, Float}
use Rattle.std.proofs.Common.{ap, arith}
use Rattle.refusal.specs.Refusal.{DONE, LAYOUT, NUMBER, SETTING, TURN, SIZE, ROOM, unless}
use Rattle.geom.specs.declared.point.P.{P}
use Rattle.geom.specs.Outline.{rings}
use Rattle.limits.specs.Limits.{good_outline, good_numbers, good_turn}
use Rattle.rules.specs.declared.Settings.{Settings}
use Rattle.rules.specs.Fill.{edges, row_numbers, good_settings, gate}
use Rattle.rules.specs.Calls.{sewn_ends}

chain : Bool → Bool → Bool → Bool → Bool → ℕ → ℕ
chain a b c d e rest = cond (not a) LAYOUT (cond (not b) NUMBER (cond (not c) SETTING (cond (not d) TURN (cond e SIZE rest))))

through : (a b c d e : Bool) (rest : ℕ) → chain a b c d e DONE ≡ DONE → chain a b c d e rest ≡ rest
unfolding chain
through true true true true false rest h = refl
through true true true true true rest h = let z : ⊥ = omega arith in absurd z
through true true true false e rest h = let z : ⊥ = omega arith in absurd z
through true true false d e rest h = let z : ⊥ = omega arith in absurd z
through true false c d e rest h = let z : ⊥ = omega arith in absurd z
through false b c d e rest h = let z : ⊥ = omega arith in absurd z

stop : (a b c d e : Bool) (rest n : ℕ) → chain a b c d e DONE ≡ suc n → chain a b c d e rest ≡ suc n
unfolding chain
stop true true true true false rest n h = let z : ⊥ = omega arith in absurd z
stop true true true true true rest n h = h
stop true true true false e rest n h = h
stop true true false d e rest n h = h
stop true false c d e rest n h = h
stop false b c d e rest n h = h

module _ (corners : List Float) (ends : List ℕ) (g : Settings) (stagger rest : ℕ) where
  pub gate_through : gate corners ends g stagger DONE ≡ DONE → gate corners ends g stagger rest ≡ rest
  unfolding gate chain
  gate_through h = through (good_outline corners ends) (good_numbers corners) (good_settings g stagger) (good_turn g.cosine g.sine) (ltb 4096 (length (row_numbers g (edges g (rings corners ends))))) rest h

  pub gate_stop : (n : ℕ) → gate corners ends g stagger DONE ≡ suc n → gate corners ends g stagger rest ≡ suc n
  unfolding gate chain
  gate_stop n h = stop (good_outline corners ends) (good_numbers corners) (good_settings g stagger) (good_turn g.cosine g.sine) (ltb 4096 (length (row_numbers g (edges g (rings corners ends))))) rest n h

-- ROOM, told two ways
pub room_told : (fits : Bool) → cond (not fits) ROOM DONE ≡ unless ROOM fits
room_told true = refl
room_told false = refl

-- ---- the output of tatami

pub ends_length : (n : ℕ) (ss : List (List P)) → length (sewn_ends n ss) ≡ length ss
unfolding sewn_ends
ends_length n [] = refl
ends_length n (s ∷ ss) = ap suc (ends_length (n + length s) ss)
