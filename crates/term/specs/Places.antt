-- The functions of a module by their numbers: where each begins.
use Rattle.std.specs.Prelude.{ℕ, zero, suc, ◌+◌, List, drop}
use Rattle.term.specs.Rows.{passed}

-- where the term of a number begins, counted from a position on; the row's end where there are fewer
unfoldable pub start_from : List ℕ → ℕ → ℕ → ℕ
start_from l at zero = at
start_from l at (suc number) = start_from l (at + passed (drop at l) 1) number
