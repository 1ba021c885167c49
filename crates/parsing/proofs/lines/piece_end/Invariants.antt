-- `piece_end` meets its contract.
use Rattle.parsing.specs.Pieces.{piece_end}
use mathlib.Core.Path.{◌≡◌}
use Rattle.parsing.proofs.lines.piece_end.Given as goal

abbrev pub invariant-loop-i : goal.invariant-loop-i
invariant-loop-i l = piece_end l.separator l.text l.i ≡ piece_end l.separator l.text l.at
