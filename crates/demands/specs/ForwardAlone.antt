-- Request 12 of document 02, under its sentence: ".. that from a load the same state comes by forward steps alone, and that the number of those
-- steps is the number of entries plus the number of delivered messages, whichever forward sequence is taken." Shown by `forward_demands` of
-- proofs/Forward.
use Rattle.std.specs.Prelude.{ℕ, ◌≡◌, true, List, length}
use Rattle.std.proofs.Math.Option.{some}
use Rattle.lists.specs.Lists.{All}
use Rattle.causal.specs.Exec.{run_all}
use Rattle.rules.specs.State.{Sizes, State}
use Rattle.rules.specs.Load.{loads, load}
use Rattle.rules.specs.Commands.{Command, run_state}
use Rattle.rules.specs.Sound.{Sound}
use Rattle.rules.specs.Reverse.{is_forward, amount_done}
use Rattle.rules.specs.Rollback.{events}
use Rattle.demands.specs.Demands.{Reachable}

-- forward commands alone lead to a state, from the load of its own module and sizes
pub record ForwardAlone (s : State) : Type 0 where
  pub root : State
  pub is_load : load s.module' s.sizes ≡ loads root
  pub commands : List Command
  pub all_forward : All (λ c. is_forward c ≡ true) commands
  pub lead : run_all run_state commands root ≡ some s

pub record ForwardDemands : Type 0 where
  -- "from a load the same state comes by forward steps alone": from the very load that it was reached from
  pub meets : (s : State) (r : Reachable s) → (f : ForwardAlone s) × (f.root ≡ r.root)
  -- "the number of those steps is the number of entries plus the number of delivered messages, whichever forward sequence is taken"
  pub counted : (s : State) (f : ForwardAlone s) → length f.commands ≡ amount_done s
  -- a load has no entry and no delivered message
  pub at_load : (module' : List ℕ) (sizes : Sizes) (root : State) → load module' sizes ≡ loads root → amount_done root ≡ 0
  -- entries and delivered messages are the events of a state
  pub events_done : (s : State) → Sound s → length (events s) ≡ amount_done s
