-- Squared lengths that decide with no root: a longer step has no fewer cuts. Assumes nothing.
use Prim.Native.Nat.{◌≤◌, ◌^◌}
use native.Mathlib.Omega.{arith}
use mathlib.Core.Path.{◌≡◌, ap, subst}
use Rattle.std.specs.Prelude.{Some}
use Rattle.std.specs.Option.{ForSome}
use mathlib.Core.Logic.{inl, inr}
use lib.Dec.{T, lit≤, lit<}
use lib.Ieee.{Float, binary64, fits, round, le, lt, mul, div, to_unsigned, is_nan}
use Rattle.numbers.specs.Num.{◌⊗◌, ◌⊘◌, literal, zero64}
use Rattle.numbers.specs.Order.{finite}
use Rattle.numbers.specs.Root.{root}
use Rattle.numbers.specs.Value.{AtLeast}
use Rattle.numbers.specs.Whole.{whole_of, ceil}
use Rattle.numbers.specs.Laws as laws
use Rattle.numbers.proofs.Laws as laws_proved
use Rattle.numbers.specs.Laws.{holds}
use Rattle.sewing.specs.Sewing.{cuts_at, cuts_for, OwnRoot, Decides}

-- what holds of a holds of what stands in Some a
pub for_some : {A : Type 0} (P : A → Type 0) (a : A) → P a → ForSome (Some a) P
for_some P a h x e = let q : a ≡ x = cc in subst P q h

-- ---- a number from small to large is its square's root
unfoldable pub small : Float
small = literal 1 (10 ^ 100)

unfoldable pub large : Float
large = literal (10 ^ 100) 1

small_square : T (lt zero64 (small ⊗ small))
unfolding small literal round mul lt
small_square = tt

small_least : AtLeast 500 small
unfolding small
small_least = laws.atleast_literal 500 1 1 (10 ^ 100) (lit≤ tt) (lit≤ tt) (lit< tt) (lit≤ tt) (lit≤ tt)

pub own_root : (x : Float) → T (fits binary64 x) → T (le small x) → T (le x large) → OwnRoot x
unfolding small large
own_root x f h k =
    let w = laws.within_between 400 small x large h k (laws.within_literal 400 1 (10 ^ 100) (lit≤ tt) (lit< tt) (lit≤ tt)) (laws.within_literal 400 (10 ^ 100) 1 (lit≤ tt) (lit< tt) (lit≤ tt)) in
    let g = laws.within_finite 400 x w in
    let a = laws.atleast_le 500 small x small_least g h in
    let p = laws.atleast_above 500 x a in
    let s = laws.atleast_finite 500 small small_least in
    let u = laws.lt_le zero64 small (laws.atleast_above 500 small small_least) in
    let i = laws.within_finite 800 (x ⊗ x) (laws.within_mul 400 400 x x (lit≤ tt) w w) in
    let j = laws.lt_le_trans zero64 (small ⊗ small) (x ⊗ x) small_square (laws.le_trans (small ⊗ small) (x ⊗ small) (x ⊗ x) (laws.mul_mono small x small s g s u h) (laws.mul_mono_right x small x g s g (laws.lt_le zero64 x p) h)) in
    record { above = p; fine = g; some = j; whole = i; back = laws_proved.root_square x f a i j }

-- a longer step has no fewer cuts
module _ (len : Float) (above : T (lt zero64 len)) (fine : T (finite len)) where
  at_mono : (x y : Float) → T (finite x) → T (finite y) → T (le x y) → cuts_at len x ≤ cuts_at len y
  at_mono x y f g h = omega (arith, laws.unsigned_mono 64 (ceil (x ⊘ len)) (ceil (y ⊘ len)) (laws.ceil_mono (x ⊘ len) (y ⊘ len) (laws.div_mono x y len f g fine above h)))

  cuts_mono : (d e : Float) → T (le zero64 d) → T (finite d) → T (finite e) → T (fits binary64 d) → T (fits binary64 e) → T (le d e) → cuts_for len d ≤ cuts_for len e
  unfolding cuts_for
  cuts_mono d e u g g' f f' h = at_mono (root d) (root e) (laws_proved.root_finite d f g u) (laws_proved.root_finite e f' g' (laws.le_trans zero64 d e u h)) (laws_proved.root_mono d e f f' u h)

-- below zero there is no root, and no cut
cuts_below : (len d : Float) → T (lt d zero64) → cuts_for len d ≡ 0
unfolding cuts_for div ceil whole_of to_unsigned
cuts_below len d h = rw (laws.root_below d h)

own_cuts : (len x : Float) → OwnRoot x → cuts_for len (x ⊗ x) ≡ cuts_at len x
unfolding cuts_for
own_cuts len x r = ap (cuts_at len) r.back

pub limits_told : (len up twice : Float) → OwnRoot len → OwnRoot up → OwnRoot twice → cuts_at len len ≡ 0 → 1 ≤ cuts_at len up → cuts_at len twice ≤ 1 → Decides len (record { one = len ⊗ len; from = up ⊗ up; two = twice ⊗ twice })
unfolding is_nan finite
limits_told len up twice o p q u v w =
    let d = len ⊗ len in
    let a = up ⊗ up in
    let b = twice ⊗ twice in
    record {
      none = λ e f h.
          let k = holds h in
          elim (laws.le_or_lt zero64 e tt (laws.le_left e d k)) [
            | inl z ↦ omega (arith, u, own_cuts len len o, cuts_mono len o.above o.fine e d z (laws.between_finite zero64 e d tt o.whole z k) o.whole f (laws.mul-fits binary64 len len) k)
            | inr z ↦ cuts_below len e z
          ];
      once = λ e f h k.
          let y = laws.lt_le zero64 a p.some in
          let z = laws.le_trans zero64 a e y (holds h) in
          let g = laws.between_finite a e b p.whole q.whole (holds h) (holds k) in
          omega (arith, v, w, own_cuts len up p, own_cuts len twice q, cuts_mono len o.above o.fine a e y p.whole g (laws.mul-fits binary64 up up) f (holds h), cuts_mono len o.above o.fine e b z g q.whole f (laws.mul-fits binary64 twice twice) (holds k));
    }
