-- `rows::functions::function_start` meets its contract.
use Rattle.rows.proofs.StartLaws.{start_here, start_on, start_end}
use Rattle.rows.proofs.functions.function_start.Goals as goal

pub loop-preserved : goal.loop-preserved
loop-preserved c = search start_on

pub returns-after-loop : goal.returns-after-loop
returns-after-loop c = search start_here

pub returns-then-row-at : goal.returns-then-row-at
returns-then-row-at c = search start_end
