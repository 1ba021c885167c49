-- `copy_words` meets its contract.
use lib.ListN.{take}
use Rattle.copying.specs.Copies.{Wrote}
use Rattle.copying.proofs.copy.copy_words.Given as goal

abbrev pub invariant-loop-w : goal.invariant-loop-w
invariant-loop-w l = Wrote (take l.w-index l.w-items) l.to l.initial.out l.out l.b
