-- Sizes as the numbers that the code has.
use Rattle.std.specs.Prelude.{ℕ}
use Rattle.rules.specs.State.{Sizes}

abbrev pub sizes_of : ℕ → ℕ → ℕ → Sizes
sizes_of places entries words = record { places = places; entries = entries; words = words }
