-- `piece_end` meets its contract.
use Rattle.parsing.proofs.PieceLaws.{end_here, end_on, end_over}
use Rattle.parsing.proofs.lines.piece_end.Goals as goal

pub returns-then-text-i : goal.returns-then-text-i
returns-then-text-i c = search end_here

pub loop-i-preserved : goal.loop-i-preserved
loop-i-preserved c = search end_on

pub returns : goal.returns
returns c = search end_over
