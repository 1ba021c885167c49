-- `step_seq` meets its contract.
use Rattle.stepping.proofs.Steps.{seq_does, seq_ready, about_lives}
use Rattle.stepping.proofs.stepping.step_seq.Goals as goal

pub seq_row-next-requires : goal.seq_row-next-requires
seq_row-next-requires c = search about_lives

pub make-requires : goal.make-requires
make-requires c =
    let start = c in
    seq_ready _ _ _ _ _ start.requires.2 start.requires.1 c.seq_row-next.ensures start.requires.0

pub returns : goal.returns
returns c = search seq_does
