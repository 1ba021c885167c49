-- `zeros` meets its contract.
use Rattle.lists.specs.Decides.{Decides}
use Rattle.store.proofs.ZerosLaws.{ZerosBelow}
use Rattle.store.proofs.zeros.zeros.Given as goal

-- `all` tells whether the words met so far are zeros
abbrev pub invariant-loop-word : goal.invariant-loop-word
invariant-loop-word l = Decides (ZerosBelow l.part l.word-index) l.all
