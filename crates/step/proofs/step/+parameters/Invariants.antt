-- `parameters` meets its contract.
use Rattle.step.proofs.step.+parameters.Given as goal

abbrev pub decreases-parameters : goal.decreases-parameters
decreases-parameters l = l.count
