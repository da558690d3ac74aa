-- The sweep holds of every row what a test of all elements against that row alone finds. Assumes nothing.
use Rattle.std.specs.Prelude.{◌≡◌, refl, Bool, true, ◌&&◌}
use Rattle.std.proofs.Common.{sym, ap, ◌∙◌}
use mathlib.Core.List.{List, [], ◌∷◌, ◌++◌, map, append_assoc, IsChain, Permᴰ}
use Rattle.seqs.specs.Lists.{sift, take_while, drop_while, sweep_by, All, Sorted, Sorts}
use Rattle.seqs.specs.All.{all_map, all_append, sorted_map}
use Rattle.seqs.specs.Sift.{sift_append, sift_both, sift_all, sift_absorb, sift_perm}
use Rattle.seqs.specs.While.{while_split, while_pass, while_sift, sorted_while}

-- a starts no later than b
abbrev pub Earlier {ℓ κ} : {A : Type ℓ} {Y : Type κ} → (Y → A → Bool) → A → A → Type κ
Earlier {Y = Y} starts a b = (y : Y) → starts y b ≡ true → starts y a ≡ true

module _ {ℓ κ} {A : Type ℓ} {Y : Type κ} (starts lives : Y → A → Bool) where
  -- row z comes after row y: what has started by y has by z, and what goes on at z does at y
  pub record Below (y z : Y) : Type ℓ where
    pub begins : (a : A) → starts y a ≡ true → starts z a ≡ true
    pub goes_on : (a : A) → lives z a ≡ true → lives y a ≡ true

  abbrev pub crosses : Y → A → Bool
  crosses y a = starts y a && lives y a

  module _ (order : Y → List A → List A) (o : (y : Y) → Sorts (order y)) where
    -- `past`, the elements taken up so far, have all started by y, and the active ones are those of them that go on, in any order
    run : (y : Y) (ys : List Y) (past active waiting : List A) → IsChain Below (y ∷ ys) → All (λ a. starts y a ≡ true) past → Permᴰ active (sift (lives y) past) → Sorted (Earlier starts) waiting
        → sweep_by starts lives order active waiting ys ≡ map (λ z. order z (sift (crosses z) (past ++ waiting))) ys
    run y [] past active waiting c b p s = refl
    run y (z ∷ ys) past active waiting (IsChain.cons-cons d c) b p s =
        let pushed : List A = take_while (starts z) waiting in
        let left : List A = drop_while (starts z) waiting in
        let begun : All (λ a. starts z a ≡ true) past = all_map d.begins past b in
        let now : Permᴰ (sift (lives z) active ++ sift (lives z) pushed) (sift (lives z) (past ++ pushed)) =
        rw (sift_append (lives z) past pushed, ← sift_absorb (lives y) (lives z) d.goes_on past) (mathlib.Core.List.Permᴰ.append_right (sift (lives z) pushed) (sift_perm (lives z) p)) in
        let alone : sift (crosses z) (past ++ waiting) ≡ sift (lives z) (past ++ pushed) =
        sift_both (starts z) (lives z) (past ++ waiting) ∙ ap (sift (lives z)) (sift_append (starts z) past waiting
        ∙ λ i. sift_all (starts z) past begun i ++ sym (while_sift (starts z) waiting (sorted_map (λ a b e. e z) waiting s)) i) in
        let whole : (past ++ pushed) ++ left ≡ past ++ waiting = append_assoc past pushed left ∙ ap (λ r. past ++ r) (while_split (starts z) waiting) in
        let later = run z ys (past ++ pushed) (order z (sift (lives z) active ++ sift (lives z) pushed)) left c
        (all_append (λ a. starts z a ≡ true) past pushed begun (while_pass (starts z) waiting))
        (mathlib.Core.List.Permᴰ.trans ((o z).perm (sift (lives z) active ++ sift (lives z) pushed)) now)
        (sorted_while (starts z) (Earlier starts) waiting s) in
        λ i. ((o z).same now ∙ ap (order z) (sym alone)) i ∷ (later ∙ ap (λ r. map (λ v. order v (sift (crosses v) r)) ys) whole) i

    -- rows that never go up, and the elements waiting in the order of their starts
    pub sweep_alone : (ys : List Y) (waiting places : List A) → IsChain Below ys → Sorted (Earlier starts) waiting → Permᴰ waiting places
        → sweep_by starts lives order [] waiting ys ≡ map (λ z. order z (sift (crosses z) places)) ys
    sweep_alone [] waiting places c s p = refl
    sweep_alone (y ∷ ys) waiting places c s p =
        run y (y ∷ ys) [] [] waiting (IsChain.cons-cons (record { begins = λ a t. t; goes_on = λ a t. t }) c) tt mathlib.Core.List.Permᴰ.nil s
        ∙ ap (λ f. map f (y ∷ ys)) (λ i z. (o z).same (sift_perm (crosses z) p) i)
