-- Laws of the places that marking goes through. Assumes nothing.
use Rattle.std.specs.Prelude.{ℕ, suc, ◌+◌, ◌<◌, ◌≡◌, Bool, true, false, ◌&&◌, List}
use Rattle.std.proofs.Math.Path.{ap}
use Rattle.std.proofs.Common.{◌∙◌}
use Rattle.std.proofs.Math.ListN.{length}
use Rattle.seqs.specs.Lists.{keep_if}
use Rattle.seqs.specs.Reads.{fuel_more}
use Rattle.geom.specs.declared.point.P.{P}
use Rattle.outlines.specs.declared.rule.FillRule.{FillRule}
use Rattle.rules.specs.declared.Settings.{Settings}
use Rattle.rules.specs.declared.Piece.{Piece}
use Rattle.rules.specs.declared.Entry.{Entry}
use Rattle.rules.specs.Fill.{link_ends, link_inside, connects}
use Rattle.sections.specs.Mark.{hits, count_of}

module _ (p : ℕ → Bool) (i n : ℕ) where
  pub hits_next : i < n → hits p i n ≡ keep_if (p i) i (hits p (i + 1) n)
  hits_next h = rw (fuel_more n i h)

  pub count_kept : i < n → p i ≡ true → count_of p i n ≡ suc (count_of p (i + 1) n)
  unfolding count_of
  count_kept h t = ap length (rw t at (hits_next h))

  pub count_passed : i < n → p i ≡ false → count_of p i n ≡ count_of p (i + 1) n
  unfolding count_of
  count_passed h t = ap length (rw t at (hits_next h))

-- the three points of a link, from its two ends
pub three : (rings : List (List P)) (rule : FillRule) (g : Settings) (o : Entry) (next : Piece) {a b : P} {r s t : Bool}
    → a ≡ (link_ends o next).0 → b ≡ (link_ends o next).1 → r ≡ link_inside rings rule g (a, b) 1 → s ≡ link_inside rings rule g (a, b) 2 → t ≡ link_inside rings rule g (a, b) 3
    → (r && s && t) ≡ connects rings rule g o next
unfolding connects
three rings rule g o next p q x y z = (λ i. x i && y i && z i) ∙ (λ i. link_inside rings rule g (p i, q i) 1 && link_inside rings rule g (p i, q i) 2 && link_inside rings rule g (p i, q i) 3)
