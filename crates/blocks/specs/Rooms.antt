-- How much the programs read at once.
use Rattle.std.specs.Prelude.{ℕ}

-- the most bytes of a block of the input
abbrev pub block_room : ℕ
block_room = 4096
