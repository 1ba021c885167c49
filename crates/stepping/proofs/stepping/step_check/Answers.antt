-- `step_check` meets its contract.
use native.Mathlib.Omega.{arith}
use Rattle.stepping.proofs.Steps.{check_does, check_ready, about_lives, check_small}
use Rattle.stepping.proofs.stepping.step_check.Goals as goal

pub word_of-requires : goal.word_of-requires
word_of-requires c = search (check_small, arith)

pub word_row-next-requires : goal.word_row-next-requires
word_row-next-requires c = search about_lives

pub make-requires : goal.make-requires
make-requires c =
    let start = c in
    check_ready _ _ _ _ _ start.requires.2 _ c.word_row-next.ensures _ start.requires.0 start.requires.1 c.word_of.ensures

pub returns : goal.returns
returns c = search check_does
