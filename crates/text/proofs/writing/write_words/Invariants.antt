-- `write_words` meets its contract.
use lib.ListN.{take}
use mathlib.Core.List.{map}
use Rattle.rules.specs.Text.{spaced, hex}
use Rattle.text.specs.Written.{Wrote}
use Rattle.text.proofs.writing.write_words.Given as goal

abbrev pub invariant-loop-i : goal.invariant-loop-i
invariant-loop-i l = Wrote (spaced (map hex (take l.i l.words))) l.at l.initial.out l.out l.to
