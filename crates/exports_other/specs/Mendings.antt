-- What salvaging says, as a C entry gives its numbers. Definitions only.
use Rattle.std.specs.Prelude.{ℕ}
use Rattle.salvage.specs.Salvage.{Salvaged}

abbrev pub salvaged : ℕ → ℕ → ℕ → Salvaged
salvaged answer corners dropped = record { answer = answer; corners = corners; dropped = dropped }
