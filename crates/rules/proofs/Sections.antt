-- Sections, of any rows: in each, row numbers go by one and neighbours overlap strictly; the entries are the rows' pieces, each once, in order.
-- Assumes nothing.
use Rattle.std.proofs.Math.Path.{◌≡◌, refl, sym, ap, subst}
use Rattle.std.proofs.Common.{◌∙◌, suc-le-suc, length-append}
use Rattle.std.specs.Prelude.{Bool, ◌&&◌, ◌⊎◌, ◌≢◌, ℕ, suc, ◌+◌, ◌≤◌, ◌<◌, leb, ℤ}
use Rattle.std.proofs.Math.Bool.{true, false, cond}
use mathlib.Core.List.{List, [], ◌∷◌, ◌++◌, map, append-nil, append_assoc, Memᴰ, IsChain, IsChain-cons-cons, map-append}
use Rattle.std.proofs.Math.Option.{Option, none, some}
use Rattle.std.proofs.Math.Logic.{inl, inr}
use Rattle.std.proofs.Math.Nat.{le_trans}
use native.Mathlib.Omega.{arith}
use Rattle.std.proofs.Math.Dec.{eqb}
use Rattle.std.proofs.Math.ListN.{length}
use borrow.Author.Tests.{ne_eqb, eqb-true, eqb-false, leb-true, leb-false}
use Rattle.seqs.specs.Lists.{keep_if, sift, each, All}
use Rattle.seqs.specs.Tests.{either, and_both}
use Rattle.seqs.specs.All.{all_map, all_append, all_mem}
use Rattle.seqs.specs.Sift.{sift_append, sift_none, sift_in, sift_from, sift_pass}
use Rattle.geom.specs.declared.point.P.{P}
use Rattle.outlines.specs.declared.rule.FillRule.{FillRule}
use Rattle.rules.specs.declared.Settings.{Settings}
use Rattle.rules.specs.declared.Piece.{Piece}
use Rattle.rules.specs.declared.Entry.{Entry}
use Rattle.rules.specs.Fill.{overlap, connects, only, joined, joins, entry, after, row_entries, begun, entries, section}

-- ---- lists

module _ {A : Type 0} where
  pub chain_snoc : (R : A → A → Type 0) (l : List A) (o m : A) → IsChain R (l ++ (o ∷ [])) → R o m → IsChain R ((l ++ (o ∷ [])) ++ (m ∷ []))
  chain_snoc R [] o m h q = IsChain.cons-cons q (IsChain.singleton m)
  chain_snoc R (a ∷ []) o m h q = IsChain.cons-cons (IsChain-cons-cons.0 h).0 (IsChain.cons-cons q (IsChain.singleton m))
  chain_snoc R (a ∷ b ∷ l) o m h q = let k = IsChain-cons-cons.0 h in IsChain.cons-cons k.0 (chain_snoc R (b ∷ l) o m k.1 q)

  -- no member, or one
  Lone : List A → Type 0
  Lone l = (l ≡ []) ⊎ ((a : A) × (l ≡ a ∷ []))

-- no entry, or one that begins its section
Fresh : List Entry → Type 0
Fresh l = (l ≡ []) ⊎ ((e : Entry) × (l ≡ e ∷ []) × (e.nth ≡ 0))

-- the first entry is at place 0
abbrev pub Begins : List Entry → Type 0
Begins [] = Unit {0}
Begins (e ∷ l) = e.nth ≡ 0

begins_snoc : (l : List Entry) (a e : Entry) → Begins (l ++ (a ∷ [])) → Begins ((l ++ (a ∷ [])) ++ (e ∷ []))
begins_snoc [] a e h = h
begins_snoc (b ∷ l) a e h = h

-- e comes right after o in a section that goes with `step` from row to row
pub record Next (step : ℤ → ℤ) (o e : Entry) : Type 0 where
  pub by_one : e.piece.k ≡ step o.piece.k
  pub overlaps : overlap o.piece e.piece ≡ true
  pub place : e.nth ≡ o.nth + 1

-- ---- what a piece joins

record Joined (opens : List Entry) (row : List Piece) (p : Piece) (o : Entry) : Type 0 where
  among : Memᴰ o opens
  over : overlap o.piece p ≡ true
  lone : length (sift (overlap o.piece) row) ≡ 1

in_section : ℕ → Entry → Bool
in_section s e = eqb e.section s

module _ (rings : List (List P)) (rule : FillRule) (g : Settings) (opens : List Entry) (row : List Piece) where
  no_some : {X : Type 0} {o : Entry} → ◌≡◌ {A = Option Entry} none (some o) → X
  no_some e = let z : ◌≡◌ {A = ℕ} 0 1 = cc in absurd (omega arith)

  some_inj : {a o : Entry} → ◌≡◌ {A = Option Entry} (some a) (some o) → a ≡ o
  some_inj e = cc

  found : (p : Piece) (o : Entry) → joins rings rule g opens row p ≡ some o → Joined opens row p o
  unfolding joins joined
  found p o e = go (sift (λ q. overlap q.piece p) opens) refl e
    where
      this : (a : Entry) → sift (λ q. overlap q.piece p) opens ≡ a ∷ [] → (t : Bool) → (t ≡ true → length (sift (overlap a.piece) row) ≡ 1) → cond t (some a) none ≡ some o → Joined opens row p o
      this a q true f e =
          let m : Memᴰ a (sift (λ q. overlap q.piece p) opens) = subst (Memᴰ a) (sym q) (mathlib.Core.List.Memᴰ.head refl) in
          subst (Joined opens row p) (some_inj e)
          (record {
            among = sift_from (λ q. overlap q.piece p) opens m;
            over = all_mem (λ x. overlap x.piece p ≡ true) (sift (λ q. overlap q.piece p) opens) (sift_pass (λ q. overlap q.piece p) opens) m;
            lone = f refl;
          })
      this a q false f e = no_some e

      go : (l : List Entry) → sift (λ q. overlap q.piece p) opens ≡ l → joined rings rule g row p (only l) ≡ some o → Joined opens row p o
      go [] q e = no_some e
      go (a ∷ []) q e =
          this a q (eqb (length (sift (overlap a.piece) row)) 1 && connects rings rule g a p)
          (λ t. eqb-true (length (sift (overlap a.piece) row)) 1 (and_both (eqb (length (sift (overlap a.piece) row)) 1) (connects rings rule g a p) t).0) e
      go (a ∷ b ∷ l) q e = no_some e

  -- ---- one row's entries in the section s, of the pieces ps

  of_row : ℕ → ℕ → List Piece → List Entry
  of_row s new ps = sift (in_section s) (row_entries rings rule g opens row new ps)

  -- an old section that the row before has none of gets none
  old_none : (s : ℕ) → sift (in_section s) opens ≡ [] → (new : ℕ) (ps : List Piece) → s < new → of_row s new ps ≡ []
  unfolding of_row row_entries in_section
  old_none s e new [] h = refl
  old_none s e new (p ∷ ps) h = go (joins rings rule g opens row p) refl (λ n k. old_none s e n ps k)
    where
      go : (o : Option Entry) → joins rings rule g opens row p ≡ o → ((n : ℕ) → s < n → of_row s n ps ≡ []) → sift (in_section s) (entry p new o ∷ row_entries rings rule g opens row (after new o) ps) ≡ []
      go none q ih = rw (ne_eqb new s (λ z. omega arith)) (ih (new + 1) (omega arith))
      go (some o) q ih = case (either (eqb o.section s))
        where
          case : (eqb o.section s ≡ true) ⊎ (eqb o.section s ≡ false) → keep_if (eqb o.section s) (entry p new (some o)) (of_row s new ps) ≡ []
          case (inl t) = absurd (mathlib.Core.List.Memᴰ.not-nil (subst (Memᴰ o) e (sift_in (in_section s) opens (found p o q).among t)))
          case (inr t) = rw t (ih new h)

  -- a section that begins in this row
  new_lone : (s base : ℕ) → All (λ e. e.section < base) opens → base ≤ s → (new : ℕ) (ps : List Piece) → base ≤ new → (s < new → of_row s new ps ≡ []) × Fresh (of_row s new ps)
  unfolding of_row row_entries Fresh in_section
  new_lone s base b h new [] k = ((λ _. refl), inl refl)
  new_lone s base b h new (p ∷ ps) k = go (joins rings rule g opens row p) refl (λ n. new_lone s base b h n ps)
    where
      go : (o : Option Entry) → joins rings rule g opens row p ≡ o → ((n : ℕ) → base ≤ n → (s < n → of_row s n ps ≡ []) × Fresh (of_row s n ps))
          → (s < new → sift (in_section s) (entry p new o ∷ row_entries rings rule g opens row (after new o) ps) ≡ []) × Fresh (sift (in_section s) (entry p new o ∷ row_entries rings rule g opens row (after new o) ps))
      go none q ih = case (either (eqb new s))
        where
          case : (eqb new s ≡ true) ⊎ (eqb new s ≡ false) → (s < new → keep_if (eqb new s) (entry p new none) (of_row s (new + 1) ps) ≡ []) × Fresh (keep_if (eqb new s) (entry p new none) (of_row s (new + 1) ps))
          case (inl t) =
              let e : new ≡ s = eqb-true new s t in
              ((λ l. absurd (omega arith)), inr (entry p new none, rw t (ap (λ r. entry p new none ∷ r) ((ih (new + 1) (omega arith)).0 (omega arith))), refl))
          case (inr t) = ((λ l. rw t ((ih (new + 1) (omega arith)).0 (omega arith))), rw t (ih (new + 1) (omega arith)).1)
      go (some o) q ih =
          let l : o.section < base = all_mem (λ e. e.section < base) opens b (found p o q).among in
          let t : eqb o.section s ≡ false = ne_eqb o.section s (λ z. omega arith) in
          ((λ l. rw t ((ih new k).0 l)), rw t (ih new k).1)

  -- an old section whose one piece in the row before is a's
  record Goes (step : ℤ → ℤ) (a : Entry) (ps : List Piece) (l : List Entry) : Type 0 where
    on : All (Next step a) l
    few : length l ≤ length (sift (overlap a.piece) ps)
    only_if_lem : All (λ _. length (sift (overlap a.piece) row) ≡ 1) l

  grows : (b : Bool) (p : Piece) (l : List Piece) → length l ≤ length (keep_if b p l)
  grows true p l = omega arith
  grows false p l = omega arith

  module _ (step : ℤ → ℤ) (K : ℤ) (hb : All (λ e. e.piece.k ≡ K) opens) where
    old_one : (s : ℕ) (a : Entry) → sift (in_section s) opens ≡ a ∷ [] → (new : ℕ) (ps : List Piece) → s < new → All (λ p. p.k ≡ step K) ps → Goes step a ps (of_row s new ps)
    unfolding of_row row_entries in_section
    old_one s a e new [] h hk = record { on = tt; few = omega arith; only_if_lem = tt }
    old_one s a e new (p ∷ ps) h hk = go (joins rings rule g opens row p) refl (λ n l. old_one s a e n ps l hk.1)
      where
        pass : {l : List Entry} → Goes step a ps l → Goes step a (p ∷ ps) l
        pass r = record { on = r.on; few = le_trans r.few (grows (overlap a.piece p) p (sift (overlap a.piece) ps)); only_if_lem = r.only_if_lem }

        go : (o : Option Entry) → joins rings rule g opens row p ≡ o → ((n : ℕ) → s < n → Goes step a ps (of_row s n ps)) → Goes step a (p ∷ ps) (sift (in_section s) (entry p new o ∷ row_entries rings rule g opens row (after new o) ps))
        go none q ih = rw (ne_eqb new s (λ z. omega arith)) (pass (ih (new + 1) (omega arith)))
        go (some o) q ih = case (either (eqb o.section s))
          where
            take : a ≡ o → Goes step a ps (of_row s new ps) → Goes step a (p ∷ ps) (entry p new (some o) ∷ of_row s new ps)
            take z r =
                let f = found p o q in
                let ok : overlap a.piece p ≡ true = subst (λ c. overlap c.piece p ≡ true) (sym z) f.over in
                let ka : a.piece.k ≡ K = subst (λ c. c.piece.k ≡ K) (sym z) (all_mem (λ e. e.piece.k ≡ K) opens hb f.among) in
                record {
                  on = (record { by_one = hk.0 ∙ ap step (sym ka); overlaps = ok; place = ap (λ c. c.nth + 1) (sym z) }, r.on);
                  few = rw ok (suc-le-suc r.few);
                  only_if_lem = (subst (λ c. length (sift (overlap c.piece) row) ≡ 1) (sym z) f.lone, r.only_if_lem);
                }

            case : (eqb o.section s ≡ true) ⊎ (eqb o.section s ≡ false) → Goes step a (p ∷ ps) (keep_if (eqb o.section s) (entry p new (some o)) (of_row s new ps))
            case (inl t) = rw t (take (sym (mathlib.Core.List.Memᴰ.eq_of_singleton (subst (Memᴰ o) e (sift_in (in_section s) opens (found p o q).among t)))) (ih new h))
            case (inr t) = rw t (pass (ih new h))

    -- the section s in this row: nothing, or one piece, which begins it or comes next after the one of the row before
    View : ℕ → ℕ → Type 0
    View s base =
        (of_row s base row ≡ [])
        ⊎ ((e : Entry) × (of_row s base row ≡ e ∷ []) × (((base ≤ s) × (e.nth ≡ 0)) ⊎ ((a : Entry) × (sift (in_section s) opens ≡ a ∷ []) × Next step a e)))

    one_at_most : (a : Entry) (l : List Entry) → Goes step a row l → (l ≡ []) ⊎ ((e : Entry) × (l ≡ e ∷ []) × Next step a e)
    one_at_most a [] r = inl refl
    one_at_most a (e ∷ []) r = inr (e, refl, r.on.0)
    one_at_most a (e ∷ f ∷ l) r = let c = r.only_if_lem.0 in let f = r.few in absurd (omega arith)

    view : (s base : ℕ) → All (λ e. e.section < base) opens → Lone (sift (in_section s) opens) → All (λ p. p.k ≡ step K) row → View s base
    unfolding View Lone Fresh
    view s base b lone hr = go (leb base s) refl
      where
        old : s < base → Lone (sift (in_section s) opens) → View s base
        old h (inl e) = inl (old_none s e base row h)
        old h (inr (a, e)) = elim (one_at_most a (of_row s base row) (old_one s a e base row h hr)) [ inl z ↦ inl z | inr z ↦ inr (z.0, z.1, inr (a, e, z.2)) ]

        fresh : base ≤ s → Fresh (of_row s base row) → View s base
        fresh h (inl e) = inl e
        fresh h (inr (m, e, z)) = inr (m, e, inl (h, z))

        go : (t : Bool) → leb base s ≡ t → View s base
        go true e = let h = leb-true base s e in fresh h (new_lone s base b h base row (omega arith)).1
        go false e = old (leb-false base s e) lone

    view_lone : (s base : ℕ) → View s base → Lone (of_row s base row)
    unfolding View Lone
    view_lone s base (inl e) = inl e
    view_lone s base (inr z) = inr (z.0, z.1)

  -- the sections that these begin are numbered from `new` up
  pub bound : (base : ℕ) → All (λ e. e.section < base) opens → (new : ℕ) (ps : List Piece) → base ≤ new → All (λ e. e.section < new + begun (row_entries rings rule g opens row new ps)) (row_entries rings rule g opens row new ps)
  unfolding row_entries begun
  bound base b new [] h = tt
  bound base b new (p ∷ ps) h = go (joins rings rule g opens row p) refl (λ n. bound base b n ps)
    where
      go : (o : Option Entry) → joins rings rule g opens row p ≡ o → ((n : ℕ) → base ≤ n → All (λ e. e.section < n + begun (row_entries rings rule g opens row n ps)) (row_entries rings rule g opens row n ps))
          → All (λ e. e.section < new + begun (entry p new o ∷ row_entries rings rule g opens row (after new o) ps)) (entry p new o ∷ row_entries rings rule g opens row (after new o) ps)
      go none q ih = (omega arith, all_map (λ m l. omega arith) (row_entries rings rule g opens row (new + 1) ps) (ih (new + 1) (omega arith)))
      go (some o) q ih =
          let l : o.section < base = all_mem (λ e. e.section < base) opens b (found p o q).among in
          let rest = row_entries rings rule g opens row new ps in
          let same : begun (entry p new (some o) ∷ rest) ≡ begun rest = rw (ne_eqb (o.nth + 1) 0 (λ z. omega arith)) in
          subst (λ (n : ℕ). All (λ e. e.section < new + n) (entry p new (some o) ∷ rest)) (sym same) (omega arith, ih new h)

  -- and each of these numbers is some entry's
  begins : (s new : ℕ) (ps : List Piece) → new ≤ s → s < new + begun (row_entries rings rule g opens row new ps) → (of_row s new ps ≡ []) → ⊥
  unfolding row_entries begun of_row in_section
  begins s new [] h k z = omega arith
  begins s new (p ∷ ps) h k z = go (joins rings rule g opens row p) refl (λ n. begins s n ps) k z
    where
      go : (o : Option Entry) → joins rings rule g opens row p ≡ o → ((n : ℕ) → n ≤ s → s < n + begun (row_entries rings rule g opens row n ps) → (of_row s n ps ≡ []) → ⊥)
          → s < new + begun (entry p new o ∷ row_entries rings rule g opens row (after new o) ps) → sift (in_section s) (entry p new o ∷ row_entries rings rule g opens row (after new o) ps) ≡ [] → ⊥
      go none q ih k z = case (either (eqb new s)) z
        where
          case : (eqb new s ≡ true) ⊎ (eqb new s ≡ false) → keep_if (eqb new s) (entry p new none) (of_row s (new + 1) ps) ≡ [] → ⊥
          case (inl t) z = let y : ◌≡◌ {A = ℕ} 0 (suc (length (of_row s (new + 1) ps))) = sym (ap length (rw t at z)) in omega arith
          case (inr t) z = let d : new ≢ s = eqb-false new s t in ih (new + 1) (omega arith) (omega arith) (rw t at z)
      go (some o) q ih k z = case (eqb o.section s) z
        where
          case : (b : Bool) → keep_if b (entry p new (some o)) (of_row s new ps) ≡ [] → ⊥
          case true z = let y : ◌≡◌ {A = ℕ} 0 (suc (length (of_row s new ps))) = sym (ap length z) in omega arith
          case false z = ih new h (rw (ne_eqb (o.nth + 1) 0 (λ z. omega arith)) at k) z

  are : (Q : Piece → Type 0) (new : ℕ) (ps : List Piece) → All Q ps → All (λ e. Q e.piece) (row_entries rings rule g opens row new ps)
  unfolding row_entries
  are Q new [] h = tt
  are Q new (p ∷ ps) h = go (joins rings rule g opens row p) (λ n. are Q n ps h.1)
    where
      go : (o : Option Entry) → ((n : ℕ) → All (λ e. Q e.piece) (row_entries rings rule g opens row n ps)) → All (λ e. Q e.piece) (entry p new o ∷ row_entries rings rule g opens row (after new o) ps)
      go none ih = (h.0, ih (new + 1))
      go (some o) ih = (h.0, ih new)

  row_pieces : (new : ℕ) (ps : List Piece) → map (λ e. e.piece) (row_entries rings rule g opens row new ps) ≡ ps
  unfolding row_entries
  row_pieces new [] = refl
  row_pieces new (p ∷ ps) = go (joins rings rule g opens row p) (λ n. row_pieces n ps)
    where
      go : (o : Option Entry) → ((n : ℕ) → map (λ e. e.piece) (row_entries rings rule g opens row n ps) ≡ ps) → map (λ e. e.piece) (entry p new o ∷ row_entries rings rule g opens row (after new o) ps) ≡ p ∷ ps
      go none ih = ap (λ r. p ∷ r) (ih (new + 1))
      go (some o) ih = ap (λ r. p ∷ r) (ih new)

-- ---- all the rows

split_empty : {A : Type 0} (l m : List A) → l ++ m ≡ [] → (l ≡ []) × (m ≡ [])
split_empty [] m e = (refl, e)
split_empty (a ∷ l) m e = let y : ◌≡◌ {A = ℕ} 0 (suc (length (l ++ m))) = sym (ap length e) in absurd (omega arith)

module _ (rings : List (List P)) (rule : FillRule) (g : Settings) where
  -- the entries are the rows' pieces, each once, in order
  pub entries_pieces : (opens : List Entry) (base : ℕ) (rows : List (List Piece)) → map (λ e. e.piece) (entries rings rule g opens base rows) ≡ each (λ r. r) rows
  unfolding entries
  entries_pieces opens base [] = refl
  entries_pieces opens base (row ∷ rows) =
      let es = row_entries rings rule g opens row base row in
      map-append (λ e. e.piece) es (entries rings rule g es (base + begun es) rows)
      ∙ λ i. row_pieces rings rule g opens row base row i ++ entries_pieces es (base + begun es) rows i

  -- a section that the entries begin has an entry
  pub all_begin : (s : ℕ) (opens : List Entry) (base : ℕ) (rows : List (List Piece)) → base ≤ s → s < base + begun (entries rings rule g opens base rows) → section (entries rings rule g opens base rows) s ≡ [] → ⊥
  unfolding entries section begun of_row in_section
  all_begin s opens base [] h k z = omega arith
  all_begin s opens base (row ∷ rows) h k z =
      let es : List Entry = row_entries rings rule g opens row base row in
      go (λ l m. all_begin s es (base + begun es) rows l m) (leb (base + begun es) s) refl
    where
      es : List Entry
      es = row_entries rings rule g opens row base row

      more : List Entry
      more = entries rings rule g es (base + begun es) rows

      apart : (of_row rings rule g opens row s base row ≡ []) × (section more s ≡ [])
      apart = split_empty (of_row rings rule g opens row s base row) (section more s) (sym (sift_append (in_section s) es more) ∙ z)

      both : begun (es ++ more) ≡ begun es + begun more
      both = ap length (sift_append (λ e. eqb e.nth 0) es more) ∙ length-append (sift (λ e. eqb e.nth 0) es) (sift (λ e. eqb e.nth 0) more)

      go : (base + begun es ≤ s → s < base + begun es + begun more → section more s ≡ [] → ⊥) → (b : Bool) → leb (base + begun es) s ≡ b → ⊥
      go ih true e = ih (leb-true (base + begun es) s e) (omega (arith, both)) apart.1
      go ih false e = begins rings rule g opens row s base row h (leb-false (base + begun es) s e) apart.0

module _ (rings : List (List P)) (rule : FillRule) (g : Settings) (row_of : ℤ → List Piece) (named : (k : ℤ) → All (λ p. p.k ≡ k) (row_of k)) (step : ℤ → ℤ) where
  -- a section so far
  Run : List Entry → Type 0
  Run l = IsChain (Next step) l × Begins l

  grow : (past opens es : List Entry) (base s : ℕ) → All (λ e. e.section < base) past → All (λ e. e.section < base) opens → Run (sift (in_section s) (past ++ opens))
      → (sift (in_section s) es ≡ []) ⊎ ((e : Entry) × (sift (in_section s) es ≡ e ∷ []) × (((base ≤ s) × (e.nth ≡ 0)) ⊎ ((a : Entry) × (sift (in_section s) opens ≡ a ∷ []) × Next step a e)))
      → Run (sift (in_section s) ((past ++ opens) ++ es))
  unfolding in_section Run
  grow past opens es base s hp hb c (inl e) = rw (sift_append (in_section s) (past ++ opens) es, e, append-nil (sift (in_section s) (past ++ opens))) c
  grow past opens es base s hp hb c (inr (m, e, inl (h, z))) =
      rw (sift_append (in_section s) (past ++ opens) es, e, sift_none (in_section s) (past ++ opens) (all_map (λ x l. ne_eqb x.section s (λ z. omega arith)) (past ++ opens) (all_append (λ x. x.section < base) past opens hp hb)))
      (IsChain.singleton m, z)
  grow past opens es base s hp hb c (inr (m, e, inr (a, f, n))) =
      let d : Run (sift (in_section s) past ++ (a ∷ [])) = rw (sift_append (in_section s) past opens, f) at c in
      rw (sift_append (in_section s) (past ++ opens) es, e, sift_append (in_section s) past opens, f)
      (chain_snoc (Next step) (sift (in_section s) past) a m d.0 n, begins_snoc (sift (in_section s) past) a m d.1)

  run : (past opens : List Entry) (base : ℕ) (K : ℤ) (ks : List ℤ) → All (λ e. e.section < base) past → All (λ e. e.section < base) opens → ((s : ℕ) → Lone (sift (in_section s) opens))
      → All (λ e. e.piece.k ≡ K) opens → IsChain (λ a b. b ≡ step a) (K ∷ ks) → ((s : ℕ) → Run (sift (in_section s) (past ++ opens)))
      → (s : ℕ) → Run (sift (in_section s) ((past ++ opens) ++ entries rings rule g opens base (map row_of ks)))
  unfolding entries View of_row
  run past opens base K [] hp hb lone hk h c s = rw (append-nil (past ++ opens)) (c s)
  run past opens base K (k ∷ ks) hp hb lone hk h c s =
      let row = row_of k in
      let es : List Entry = row_entries rings rule g opens row base row in
      let e = IsChain-cons-cons.0 h in
      let v : (t : ℕ) → View rings rule g opens row step K hk t base = λ t. view rings rule g opens row step K hk t base hb (lone t) (all_map (λ p z. z ∙ e.0) row (named k)) in
      subst (λ l. Run (sift (in_section s) l)) (append_assoc (past ++ opens) es (entries rings rule g es (base + begun es) (map row_of ks)))
      (run (past ++ opens) es (base + begun es) k ks
      (all_map (λ m l. omega arith) (past ++ opens) (all_append (λ m. m.section < base) past opens hp hb))
      (bound rings rule g opens row base hb base row (omega arith))
      (λ t. view_lone rings rule g opens row step K hk t base (v t))
      (are rings rule g opens row (λ p. p.k ≡ k) base row (named k))
      e.1
      (λ t. grow past opens es base t hp hb (c t) (v t))
      s)

  -- in each section of rows that go by `step`, pieces go by `step` and overlap, and places from 0
  pub section_chain : (back : ℤ → ℤ) → ((k : ℤ) → step (back k) ≡ k) → (ks : List ℤ) → IsChain (λ a b. b ≡ step a) ks → (s : ℕ) → IsChain (Next step) (section (entries rings rule g [] 0 (map row_of ks)) s) × Begins (section (entries rings rule g [] 0 (map row_of ks)) s)
  unfolding Lone section entries in_section Run
  section_chain back undo [] h s = (IsChain.nil, tt)
  section_chain back undo (k ∷ ks) h s = run [] [] 0 (back k) (k ∷ ks) tt tt (λ t. inl refl) tt (IsChain.cons-cons (sym (undo k)) h) (λ t. (IsChain.nil, tt)) s
