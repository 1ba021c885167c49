-- `write_names` meets its contract.
use lib.ListN.{take}
use mathlib.Core.List.{map}
use Rattle.rules.specs.Text.{spaced}
use Rattle.text.specs.Lines.{name_in}
use Rattle.text.specs.Written.{Wrote}
use Rattle.text.proofs.listing.write_names.Given as goal

abbrev pub invariant-loop-i : goal.invariant-loop-i
invariant-loop-i l = Wrote (spaced (map name_in (take l.i l.names))) l.at l.initial.out l.out l.to
