-- What `least` says of the computed case: an undo of the second delivery is accepted and the rec stays, so the rec cannot depend on it.
use mathlib.Core.Path.{◌≡◌, refl}
use mathlib.Core.Logic.{inr}
use mathlib.Core.Bool.{true}
use Rattle.lists.proofs.Tests.{true_not_false}
use Rattle.rules.specs.Load.{loaded}
use Rattle.rules.specs.Commands.{undeliver}
use Rattle.rules.specs.Reverse.{is_forward}
use Rattle.rules.specs.Depends.{entries_of, deliveries_to, depends_at_once, at_once, WithDependents, event}
use Rattle.rules.specs.Rollback.{is_undo, stop, undo}
use Rattle.rules.specs.Cases.{two}
use Rattle.rules.specs.Bench.{bench_sizes}
use Rattle.demands.specs.Demands.{Reachable}
use Rattle.demands.specs.Least.{LeastRemoval}
use Rattle.demands.proofs.LeastCases.{delivered_later, reached, least_cases}
use Rattle.demands.proofs.Consequences.{consequences}

there : Reachable (reached delivered_later)
there = record { module' = two; sizes = bench_sizes; root = loaded two bench_sizes; is_load = least_cases.is_load; commands = delivered_later; lead = least_cases.accepted }

pub not_on_second : LeastRemoval → ¬ (depends_at_once (reached delivered_later) (event (entries_of 1) 1) (event (deliveries_to 1) 1) ≡ true)
unfolding WithDependents is_undo is_forward
not_on_second l e =
    true_not_false least_cases.stay
    (l.least (reached delivered_later) _ 1 (event (deliveries_to 1) 1) (event (entries_of 1) 1) (consequences.sound.reached (reached delivered_later) there) (undo (undeliver 1) refl least_cases.undelivered stop)
    least_cases.was_there least_cases.gone (inr (at_once e)))
