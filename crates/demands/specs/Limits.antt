-- Why some demands ask for a state reached from a load and not for a sound one only: what fails in some sound states. Shown by
-- `not_retaken` and `not_commuting` of proofs/Limits.
use Rattle.std.specs.Prelude.{◌≡◌}
use Rattle.std.proofs.Math.Option.{none, some}
use Rattle.rules.specs.State.{State}
use Rattle.rules.specs.Commands.{step, back, run_state}
use Rattle.rules.specs.Sound.{Sound}
use Rattle.rules.specs.Independent.{Independent}
use Rattle.rules.specs.Reverse.{reverse}
use Rattle.demands.specs.Consequences.{Commute}

-- In a sound state an entry is undone, and its own command is then refused: nothing in 01 ties an entry to the step that made it.
pub record NotRetaken : Type 0 where
  pub state : State
  pub sound : Sound state
  pub after : State
  pub undone : run_state (back 0) state ≡ some after
  pub refused : run_state (reverse state (back 0)) after ≡ none

-- In a sound state two steps are independent by 01's list, and after the one the other is refused: a send to q, and undoing the spawn of q.
pub record NotCommuting : Type 0 where
  pub state : State
  pub sound : Sound state
  pub independent : Independent state (back 0) (step 2)
  pub do_not_commute : ¬ Commute state (back 0) (step 2)
