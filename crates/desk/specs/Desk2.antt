-- What a version 2 job's bytes come to (request [6]): all that both fills leave behind. Definitions only.
use Rattle.std.specs.Prelude.{ℕ, Bool, List, Float}
use Rattle.rules.specs.declared.Settings.{Settings}
use Rattle.jobs.specs.Parsed2.{Parsed2}
use Rattle.jobs.specs.Parsed2.{Done, Refused}
use Rattle.jobs.specs.Job2.{corners2, ends2, parsed2}
use Rattle.tatami.specs.Left.{Filled, left}
use Rattle.layers.specs.declared.Layer.{Layer}
use Rattle.layers.specs.Layers.{Slices, Twice, twice, twice_left}

-- a fill's own settings, without cosine and sine
abbrev pub layer_of : Settings → ℕ → Bool → Layer
layer_of g stagger bottomUp = record { spacing = g.spacing; len = g.len; inset = g.inset; pull = g.pull; stagger = stagger; upward = bottomUp }

-- a refusal's number, and nothing sewn
abbrev pub nothing : ℕ → Filled
nothing n = record { answer = n; sections = 0; points = 0 }

-- both fills as the job says; a refused job is its number and zeros for both, and changes nothing
abbrev pub left_of2 : List ℕ → Parsed2 → Slices → Slices → List Float → List ℕ → Twice
left_of2 s (Done j k) a b table places = twice_left (corners2 s) (ends2 s) j.rule j.settings.cosine j.settings.sine (layer_of j.settings j.stagger j.bottom_up) (layer_of k.settings k.stagger k.bottom_up) a b table places
left_of2 s (Refused n) a b table places = twice (left (nothing n) a.points a.stops a.floats a.wholes) (left (nothing n) b.points b.stops b.floats b.wholes) table places

-- of the bytes s, where so many floats for corners and so many ring ends are lent
unfoldable pub job2_left : List ℕ → ℕ → ℕ → Slices → Slices → List Float → List ℕ → Twice
job2_left s corners ends a b table places = left_of2 s (parsed2 s corners ends) a b table places
