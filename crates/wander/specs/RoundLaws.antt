-- The walks one after the other in a slice: paths cut where each ends. Assumes nothing.
use Rattle.std.specs.Prelude.{ℕ, ◌+◌, ◌-◌, ◌*◌, ◌≤◌, ◌<◌, ◌≡◌, Bool, true, false, List, [], ◌∷◌, ◌++◌, leb, take, drop, set}
use native.Mathlib.Omega.{arith}
use Rattle.std.proofs.Math.Path.{refl, ap}
use Rattle.std.proofs.Common.{sym, ◌∙◌, subst, length-set, length-append, length-drop, take_at, drop_at, take-take, take-suc-set, add-one, eqb-true, eq-eqb, leb-true, le-leb}
use Rattle.std.proofs.Math.ListN.{length}
use Rattle.std.proofs.Math.Seq.{length-take-le}
use Rattle.std.proofs.lemmas.List.{take-set-le, drop-set-add}
use Rattle.seqs.specs.Lists.{upto, fold}
use Rattle.seqs.specs.Upto.{upto_next}
use Rattle.seqs.specs.Tests.{and_both}
use Rattle.seqs.specs.Reads.{fuel_none, drop_take, part_on, part_none}
use Rattle.geom.specs.Outline.{cut, rising}
use Rattle.meander_rules.specs.declared.Lattice.{Lattice}
use Rattle.meander_rules.specs.Meander.{Walk, Walks, points_of, most_points, is_free, go_on, walk_from, walked, start_at, walks_of}
use Rattle.meander_rules.specs.FreeLaws.{ones, ones_few, ones_taken}
use Rattle.meander_rules.specs.TurnLaws.{left, behind, turns_keep, turns_more, turns_behind}
use Rattle.wander.specs.declared.Round.{Round}
use Rattle.wander.specs.declared.Steps.{Steps}
use Rattle.wander.specs.Walking.{walk_in, Sized, Stepped, Sound, Ready, finish, walks_in, Between}
use Rattle.wander.specs.OpenLaws.{free_low}
use Rattle.wander.specs.TurnSlices.{turns_sound, path_length}

-- ---- ends that rise, and one more

pub rising_le : (a : ℕ) (es : List ℕ) (n : ℕ) → rising a es n ≡ true → a ≤ n
unfolding rising
rising_le a [] n h = omega (arith, eqb-true a n h)
rising_le a (e ∷ es) n h = let p = and_both (leb a e) (rising e es n) h in omega (arith, leb-true a e p.0, rising_le e es n p.1)

pub rising_more : (a : ℕ) (es : List ℕ) (n e : ℕ) → rising a es n ≡ true → n ≤ e → rising a (es ++ (e ∷ [])) e ≡ true
unfolding rising
rising_more a [] n e h k = rw (le-leb a e (omega (arith, eqb-true a n h)), eq-eqb e e refl)
rising_more a (b ∷ es) n e h k = let p = and_both (leb a b) (rising b es n) h in rw p.0 (rising_more b es n e p.1 k)

pub cut_more : (a : ℕ) (es : List ℕ) (n e : ℕ) (l m : List ℕ) → rising a es n ≡ true → take n m ≡ take n l → cut a (es ++ (e ∷ [])) m ≡ cut a es l ++ (take (e - n) (drop n m) ∷ [])
unfolding rising cut
cut_more a [] n e l m h k = rw (eqb-true a n h)
cut_more a (b ∷ es) n e l m h k =
    let p = and_both (leb a b) (rising b es n) h in
    let f : take (b - a) (drop a m) ≡ take (b - a) (drop a l) = part_on m l a (b - a) n (omega (arith, leb-true a b p.0, rising_le b es n p.1)) k in
    rw (f, cut_more b es n e l m p.1 k)

-- ---- a walk from point k, behind the walks before it

module _ (g : Lattice) (link : ℕ → ℕ → Bool) (k : ℕ) (w : List ℕ) (t : Round) (b : Between (points_of g) w t) (f : is_free (take (points_of g) w) k ≡ true) where
  abbrev n : ℕ
  n = points_of g

  abbrev pub first : Steps
  first = record { top = 2 * points_of g; size = t.size; seed = t.seed }

  abbrev before : List ℕ
  before = drop (2 * points_of g) (take (2 * points_of g + t.size) w)

  abbrev one : Walk
  one = walk_from g link k (take (points_of g) w) t.seed

  abbrev begun : Walk
  begun = record { free = set (take (points_of g) w) k 0; stack = k ∷ []; path = k ∷ []; seed = t.seed }

  some : ones (set (take n w) k 0) + 1 ≡ ones (take n w)
  some = ones_taken (take n w) k f

  pub first_sized : Sized (points_of g) w first
  first_sized = record { few = b.few; room = b.room; top = omega arith; size = omega (arith, b.path) }

  size_is : length (take n w) ≡ n
  size_is = length-take-le n w (omega (arith, b.room))

  pub first_low : k < points_of g
  first_low = omega (arith, free_low (take n w) k f, size_is)

  pub first_top : points_of g < 2 * points_of g
  first_top = omega (arith, first_low)

  pub first_size : t.size < 2 * points_of g
  first_size = omega (arith, some, b.path)

  before_length : length before ≡ t.size
  before_length = path_length n w first first_sized

  no_stack : drop (2 * n) (take (2 * n) w) ≡ []
  no_stack = part_none w (2 * n) (2 * n) (omega arith) (omega (arith, b.room))

  begins : go_on k (walk_in n w first) ≡ behind g link before begun
  unfolding go_on
  begins = rw no_stack

  left_few : left g link begun ≤ 2 * n
  left_few = omega (arith, some, ones_few (take n w), size_is)

  begun_sound : Sound n (behind g link before begun)
  begun_sound = record {
    size = length-set (take n w) k 0 ∙ size_is;
    stack = omega (arith, some, ones_few (take n w), size_is);
    path = omega (arith, some, b.path, before_length, length-append before (k ∷ []));
    low = (first_low, tt);
  }

  ends_at : finish g link (behind g link before begun) ≡ behind g link before one
  unfolding walk_from
  ends_at = turns_behind g link (left g link begun) before begun ∙ ap (behind g link before) (sym (turns_more g link (2 * n) begun left_few))

  few_left : ones one.free ≤ ones (set (take n w) k 0)
  unfolding walk_from
  few_left = turns_keep g link (λ h s p. ones h ≤ ones (set (take n w) k 0)) (λ h s p here shut v. v) (λ h s p here j u l v. omega (arith, v, ones_taken h j u)) (2 * n) begun (omega arith)

  -- the walk's first step
  module _ (w₁ : List ℕ) (s₁ : Steps) (p₁ : Stepped (points_of g) w w₁ s₁ (go_on k (walk_in (points_of g) w first))) where
    pub begun_ready : Ready (points_of g) w₁ s₁
    begun_ready = record {
      sized = record { few = b.few; room = omega (arith, b.room, p₁.long); top = p₁.top; size = p₁.size };
      sound = subst (Sound n) (sym (p₁.is ∙ begins)) begun_sound;
    }

    -- and its end
    module _ (w₂ : List ℕ) (s₂ : Steps) (p₂ : Stepped (points_of g) w₁ w₂ s₂ (finish g link (walk_in (points_of g) w₁ s₁))) where
      is : walk_in n w₂ s₂ ≡ behind g link before one
      is = p₂.is ∙ ap (finish g link) (p₁.is ∙ begins) ∙ ends_at

      sized₂ : Sized n w₂ s₂
      sized₂ = record { few = b.few; room = omega (arith, b.room, p₁.long, p₂.long); top = p₂.top; size = p₂.size }

      sound₂ : Sound n (walk_in n w₂ s₂)
      sound₂ = subst (Sound n) (sym (p₂.is ∙ ap (finish g link) (p₁.is ∙ begins))) (turns_sound g link n (left g link begun) (behind g link before begun) begun_sound)

      path_is : drop (2 * n) (take (2 * n + s₂.size) w₂) ≡ before ++ one.path
      path_is = ap (λ (x : Walk). x.path) is

      size₂ : s₂.size ≡ t.size + length one.path
      size₂ = sym (path_length n w₂ s₂ sized₂) ∙ ap length path_is ∙ length-append before one.path ∙ ap (λ j. j + length one.path) before_length

      pub last_room : 4 * points_of g + t.walks < length w₂
      last_room = omega (arith, sized₂.room, b.ends, some)

      abbrev w₃ : List ℕ
      w₃ = set w₂ (4 * points_of g + t.walks) s₂.size

      abbrev es : List ℕ
      es = take t.walks (drop (4 * points_of g) w)

      free₃ : take n w₃ ≡ one.free
      free₃ = take-set-le n w₂ (4 * n + t.walks) s₂.size (omega arith) ∙ ap (λ (x : Walk). x.free) is

      paths₃ : take s₂.size (drop (2 * n) w₃) ≡ before ++ one.path
      paths₃ = drop_take (2 * n) s₂.size w₃ ∙ rw (take-set-le (2 * n + s₂.size) w₂ (4 * n + t.walks) s₂.size (omega (arith, p₂.size))) path_is

      alike : take t.size (drop (2 * n) w₃) ≡ take t.size (drop (2 * n) w)
      alike =
          sym (take-take t.size s₂.size (drop (2 * n) w₃) (omega (arith, size₂))) ∙ ap (take t.size) paths₃
          ∙ take_at before one.path t.size before_length ∙ sym (drop_take (2 * n) t.size w)

      last_path : take (s₂.size - t.size) (drop t.size (drop (2 * n) w₃)) ≡ one.path
      last_path =
          let e : t.size + (s₂.size - t.size) ≡ s₂.size = omega (arith, size₂) in
          drop_take t.size (s₂.size - t.size) (drop (2 * n) w₃) ∙ rw (e, paths₃) (drop_at before one.path t.size before_length)

      ends₃ : take (t.walks + 1) (drop (4 * n) w₃) ≡ es ++ (s₂.size ∷ [])
      ends₃ =
          let e : drop (4 * n) w₂ ≡ drop (4 * n) w = p₂.kept ∙ p₁.kept in
          let room : t.walks < length (drop (4 * n) w) = omega (arith, length-drop (4 * n) w, b.room, b.ends, some) in
          rw (drop-set-add (4 * n) w₂ t.walks s₂.size, e, add-one t.walks) (take-suc-set (drop (4 * n) w) t.walks s₂.size room)

      abbrev pub after : Round
      after = record { walks = t.walks + 1; size = s₂.size; seed = s₂.seed }

      pub round_is : walks_in (points_of g) w₃ after ≡ start_at g link k (walks_in (points_of g) w t)
      unfolding start_at walked
      round_is =
          let s : s₂.seed ≡ one.seed = ap (λ (x : Walk). x.seed) is in
          rw (f, ends₃, cut_more 0 es t.size s₂.size (drop (2 * n) w) (drop (2 * n) w₃) b.rise alike, last_path, free₃, s)

      pub round_between : Between (points_of g) w₃ after
      round_between = record {
        few = b.few;
        room = omega (arith, sized₂.room, length-set w₂ (4 * n + t.walks) s₂.size);
        path = rw (take-set-le n w₂ (4 * n + t.walks) s₂.size (omega arith)) (omega (arith, sound₂.path, path_length n w₂ s₂ sized₂));
        ends = rw free₃ (omega (arith, few_left, some, b.ends));
        rise = rw ends₃ (rising_more 0 es t.size s₂.size b.rise (omega (arith, size₂)));
      }

      pub round_long : length w₃ ≡ length w
      round_long = length-set w₂ (4 * n + t.walks) s₂.size ∙ p₂.long ∙ p₁.long

-- the point isn't free: nothing happens
pub round_none : (g : Lattice) (link : ℕ → ℕ → Bool) (k : ℕ) (w : List ℕ) (t : Round) → is_free (take (points_of g) w) k ≡ false → walks_in (points_of g) w t ≡ start_at g link k (walks_in (points_of g) w t)
unfolding start_at
round_none g link k w t f = rw f

-- ---- the loop over all points

module _ (g : Lattice) (link : ℕ → ℕ → Bool) where
  module _ (w : List ℕ) (seed : ℕ) where
    pub round_start : points_of g ≤ most_points → 8 * points_of g ≤ length w → Between (points_of g) w (record { walks = 0; size = 0; seed = seed })
    unfolding rising
    round_start few room =
        let h : length (take (points_of g) w) ≡ points_of g = length-take-le (points_of g) w (omega arith) in
        record { few = few; room = room; path = omega (arith, ones_few (take (points_of g) w)); ends = omega (arith, ones_few (take (points_of g) w)); rise = refl }

    pub rounds_start : fold (start_at g link) (walks_in (points_of g) w (record { walks = 0; size = 0; seed = seed })) (upto 0 (points_of g - 0)) ≡ walks_of g link (take (points_of g) w) seed
    unfolding walks_of cut
    rounds_start = let e : points_of g - 0 ≡ points_of g = omega arith in rw e

  module _ (x : Walks) (k : ℕ) where
    pub rounds_next : k < points_of g → {y : Walks} → y ≡ start_at g link k x → fold (start_at g link) y (upto (k + 1) (points_of g - (k + 1))) ≡ fold (start_at g link) x (upto k (points_of g - k))
    rounds_next h e = rw (upto_next (points_of g) k h, e)

    pub rounds_end : points_of g ≤ k → fold (start_at g link) x (upto k (points_of g - k)) ≡ x
    rounds_end h = rw (fuel_none (points_of g) k h)
