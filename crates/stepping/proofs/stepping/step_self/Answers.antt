-- `step_self` meets its contract.
use native.Mathlib.Omega.{arith}
use Rattle.stepping.proofs.Steps.{self_does, self_ready, about_lives, own_small}
use Rattle.stepping.proofs.stepping.step_self.Goals as goal

pub word_of-requires : goal.word_of-requires
word_of-requires c = search (own_small, arith)

pub word_row-next-requires : goal.word_row-next-requires
word_row-next-requires c = search about_lives

pub make-requires : goal.make-requires
make-requires c =
    let start = c in
    self_ready _ _ _ _ _ start.requires.2 _ c.word_row-next.ensures start.requires.0 start.requires.1 c.word_of.ensures

pub returns : goal.returns
returns c = search self_does
