-- The fill's records, as a C entry is given and gives their numbers. Definitions only.
use Rattle.std.specs.Prelude.{ℕ, Bool, Float}
use Rattle.rules.specs.declared.Settings.{Settings}
use Rattle.layers.specs.declared.Layer.{Layer}
use Rattle.tatami.specs.Left.{Filled, Listed}

abbrev pub settings : Float → Float → Float → Float → Float → Float → Settings
settings spacing len inset pull cosine sine = record { spacing = spacing; len = len; inset = inset; pull = pull; cosine = cosine; sine = sine }

-- one of two fills over one table
abbrev pub layer : Float → Float → Float → Float → ℕ → Bool → Layer
layer spacing len inset pull stagger upward = record { spacing = spacing; len = len; inset = inset; pull = pull; stagger = stagger; upward = upward }

abbrev pub filled : ℕ → ℕ → ℕ → Filled
filled answer sections points = record { answer = answer; sections = sections; points = points }

abbrev pub listed : ℕ → ℕ → Listed
listed answer pieces = record { answer = answer; pieces = pieces }
