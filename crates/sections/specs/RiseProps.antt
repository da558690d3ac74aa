-- That pieces rise is a fact: it has one proof at most. Assumes nothing.
use Rattle.std.specs.Prelude.{ℕ, List, [], ◌∷◌, Float}
use Rattle.std.proofs.Math.Dec.{T_prop}
use Rattle.std.proofs.Math.Path.{refl}
use Rattle.seqs.specs.Lists.{All, Sorted}
use Rattle.rules.specs.declared.Piece.{Piece}
use Rattle.rules.specs.Rise.{Onward, Rise}
use Rattle.sections.specs.Rises.{Rising}

all_prop : {A : Type 0} (P : A → Type 0) → ((a : A) → IsProp (P a)) → (l : List A) → IsProp (All P l)
all_prop P h [] = λ x y. refl
all_prop P h (a ∷ l) = let p = h a in let q = all_prop P h l in λ x y i. (p x.0 y.0 i, q x.1 y.1 i)

sorted_prop : {A : Type 0} (R : A → A → Type 0) → ((a b : A) → IsProp (R a b)) → (l : List A) → IsProp (Sorted R l)
sorted_prop R h [] = λ x y. refl
sorted_prop R h (a ∷ l) = let p = all_prop (R a) (h a) l in let q = sorted_prop R h l in λ x y i. (p x.0 y.0 i, q x.1 y.1 i)

onward_prop : (p q : Piece) → IsProp (Onward p q)
onward_prop p q = hlevel T_prop

rise_prop : (l : List Piece) → IsProp (Rise l)
rise_prop l = sorted_prop Onward onward_prop l

pub rising_prop : (l : List Float) (from to : ℕ) → IsProp (Rising l from to)
rising_prop l from to = hlevel rise_prop
