-- A finite value as a fraction with its sign taken apart: x is (plus x - less x) / den x. Then `le` and `lt` compare sums of products.
use Rattle.std.specs.Prelude.{◌≡◌, refl, Bool, true, false, ◌&&◌, ◌||◌, ℕ, zero, suc, ◌+◌, ◌*◌, ◌≤◌, ◌<◌, T, ltb, eqb, Float}
use Rattle.std.proofs.Common.{sym, inl, inr, eq-zero-or-pos, eq-or-lt_of_le, arith, ltb→lt, lt→ltb, eqb→eq}
use Rattle.std.specs.Float.{nan, inf, fin}
use Rattle.std.specs.Float.Ieee.{up, down, below, level, lt, le}
use Rattle.std.specs.Float.Ieee.Fits.{and_l, and_r, and_i, eq→eqb}
use Rattle.std.specs.Float.Ieee.Positive.{den}
use Rattle.numbers.specs.Order.{finite}

abbrev pub over : Bool → ℕ → ℕ
over true a = 0
over false a = a

abbrev pub under : Bool → ℕ → ℕ
under true a = a
under false a = 0

abbrev pub plus : Float → ℕ
plus nan = 0
plus (inf s) = 0
plus (fin s m e) = over s (m * up e)

abbrev pub less : Float → ℕ
less nan = 0
less (inf s) = 0
less (fin s m e) = under s (m * up e)

-- ---- ±a / p against ±b / q
pub nothing : (a q b : ℕ) → 0 < q → a * q + b ≤ 0 → a ≡ 0
nothing zero q b Q h = refl
nothing (suc a) q b Q h = omega arith

or_le : (a b : ℕ) (x : Bool) → (T x → a ≡ b) → T (ltb a b || (x && true)) → a ≤ b
or_le a b x e = go (ltb a b) x (ltb→lt a b) e
  where
    go : (u v : Bool) → (T u → a < b) → (T v → a ≡ b) → T (u || (v && true)) → a ≤ b
    go true v l f h = let k = l tt in omega arith
    go false true l f h = let k = f tt in omega arith
    go false false l f h = absurd h

le_or : (a b : ℕ) (x : Bool) → (a ≡ b → T x) → a ≤ b → T (ltb a b || (x && true))
le_or a b x e h = elim (eq-or-lt_of_le h) [ inl p ↦ go (ltb a b) x (e p) | inr l ↦ first (ltb a b) (lt→ltb a b l) ]
  where
    go : (u v : Bool) → T v → T (u || (v && true))
    go true v t = tt
    go false true t = tt
    go false false t = t

    first : (u : Bool) → T u → T (u || (x && true))
    first true t = tt
    first false t = absurd t

pub from_le : (s : Bool) (a p : ℕ) (t : Bool) (b q : ℕ) → T (below s (a * q) t (b * p) || level s (a * q) t (b * p)) → over s a * q + under t b * p ≤ over t b * p + under s a * q
from_le false a p false b q h = omega (arith, or_le (a * q) (b * p) (eqb (a * q) (b * p)) (eqb→eq (a * q) (b * p)) h)
from_le false a p true b q h = omega (arith, eqb→eq (a * q) (b * p) (and_l (eqb (a * q) (b * p)) (eqb (a * q) 0) h), eqb→eq (a * q) 0 (and_r (eqb (a * q) (b * p)) (eqb (a * q) 0) h))
from_le true a p false b q h = omega arith
from_le true a p true b q h = omega (arith, or_le (b * p) (a * q) (eqb (a * q) (b * p)) (λ t. sym (eqb→eq (a * q) (b * p) t)) h)

pub to_le : (s : Bool) (a p : ℕ) (t : Bool) (b q : ℕ) → over s a * q + under t b * p ≤ over t b * p + under s a * q → T (below s (a * q) t (b * p) || level s (a * q) t (b * p))
to_le false a p false b q h = le_or (a * q) (b * p) (eqb (a * q) (b * p)) (λ e. eq→eqb e) (omega arith)
to_le false a p true b q h =
    let x : a * q ≡ b * p = omega arith in
    let y : a * q ≡ 0 = omega arith in
    and_i (eqb (a * q) (b * p)) (eqb (a * q) 0) (eq→eqb x) (eq→eqb y)
to_le true a p false b q h = zeros (a * q) (b * p)
  where
    zeros : (c d : ℕ) → T (ltb 0 (c + d) || (eqb c d && eqb c 0))
    zeros c d = elim (eq-zero-or-pos (c + d)) [ inl e ↦ both c d (omega arith) (omega arith) | inr l ↦ some (ltb 0 (c + d)) (lt→ltb 0 (c + d) l) ]
      where
        both : (c d : ℕ) → c ≡ 0 → d ≡ 0 → T (ltb 0 (c + d) || (eqb c d && eqb c 0))
        both c d p q = rw (p, q) tt

        some : (u : Bool) → T u → T (u || (eqb c d && eqb c 0))
        some true t = tt
        some false t = absurd t
to_le true a p true b q h = le_or (b * p) (a * q) (eqb (a * q) (b * p)) (λ e. eq→eqb (sym e)) (omega arith)

pub from_lt : (s : Bool) (a p : ℕ) (t : Bool) (b q : ℕ) → T (below s (a * q) t (b * p)) → over s a * q + under t b * p < over t b * p + under s a * q
from_lt false a p false b q h = omega (arith, ltb→lt (a * q) (b * p) h)
from_lt false a p true b q h = absurd h
from_lt true a p false b q h = omega (arith, ltb→lt 0 (a * q + b * p) h)
from_lt true a p true b q h = omega (arith, ltb→lt (b * p) (a * q) h)

pub to_lt : (s : Bool) (a p : ℕ) (t : Bool) (b q : ℕ) → over s a * q + under t b * p < over t b * p + under s a * q → T (below s (a * q) t (b * p))
to_lt false a p false b q h = lt→ltb (a * q) (b * p) (omega arith)
to_lt false a p true b q h = absurd (no_less (a * q) (b * p) (omega arith))
  where
    no_less : (c d : ℕ) → c + d < 0 → ⊥
    no_less c d h = omega arith
to_lt true a p false b q h = lt→ltb 0 (a * q + b * p) (omega arith)
to_lt true a p true b q h = lt→ltb (b * p) (a * q) (omega arith)

-- ---- the floats
pub le→cross : (x y : Float) → T (finite x) → T (finite y) → T (le x y) → plus x * den y + less y * den x ≤ plus y * den x + less x * den y
unfolding finite le
le→cross nan y f g h = absurd f
le→cross (inf s) y f g h = absurd f
le→cross (fin s m e) nan f g h = absurd g
le→cross (fin s m e) (inf t) f g h = absurd g
le→cross (fin s m e) (fin t n d) f g h = from_le s (m * up e) (down e) t (n * up d) (down d) h

pub cross→le : (x y : Float) → T (finite x) → T (finite y) → plus x * den y + less y * den x ≤ plus y * den x + less x * den y → T (le x y)
unfolding finite le
cross→le nan y f g h = absurd f
cross→le (inf s) y f g h = absurd f
cross→le (fin s m e) nan f g h = absurd g
cross→le (fin s m e) (inf t) f g h = absurd g
cross→le (fin s m e) (fin t n d) f g h = to_le s (m * up e) (down e) t (n * up d) (down d) h

pub lt→cross : (x y : Float) → T (finite x) → T (finite y) → T (lt x y) → plus x * den y + less y * den x < plus y * den x + less x * den y
unfolding finite lt
lt→cross nan y f g h = absurd f
lt→cross (inf s) y f g h = absurd f
lt→cross (fin s m e) nan f g h = absurd g
lt→cross (fin s m e) (inf t) f g h = absurd g
lt→cross (fin s m e) (fin t n d) f g h = from_lt s (m * up e) (down e) t (n * up d) (down d) h

pub cross→lt : (x y : Float) → T (finite x) → T (finite y) → plus x * den y + less y * den x < plus y * den x + less x * den y → T (lt x y)
unfolding finite lt
cross→lt nan y f g h = absurd f
cross→lt (inf s) y f g h = absurd f
cross→lt (fin s m e) nan f g h = absurd g
cross→lt (fin s m e) (inf t) f g h = absurd g
cross→lt (fin s m e) (fin t n d) f g h = to_lt s (m * up e) (down e) t (n * up d) (down d) h
