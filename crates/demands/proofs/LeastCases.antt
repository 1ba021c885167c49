-- Dependence computed where a delivery is undone and a receive stays: were the receive to depend on the delivery, `least` of Least would fail.
use mathlib.Core.Path.{◌≡◌, refl}
use mathlib.Core.Bool.{true, false}
use mathlib.Core.Option.{none, some}
use mathlib.Core.List.{List, [], ◌∷◌, ◌++◌}
use Rattle.causal.specs.Exec.{run_all}
use Rattle.rules.specs.State.{State}
use Rattle.rules.specs.Load.{loaded, loads, load}
use Rattle.rules.specs.Commands.{Command, step, spawn_into, deliver, undeliver, run_state}
use Rattle.rules.specs.Depends.{entries_of, deliveries_to, happened, depends_at_once, event}
use Rattle.rules.specs.Cases.{two}
use Rattle.rules.specs.Opened.{opened}
use Rattle.rules.specs.Bench.{bench_sizes}

-- 0 sends 0.0 and 0.1 to 1, which comes to its receive; 0.0 is delivered, 1 takes it, 0.1 is delivered
abbrev pub delivered_later : List Command
delivered_later = step 0 ∷ spawn_into 0 1 ∷ step 0 ∷ step 0 ∷ step 0 ∷ step 1 ∷ deliver 0 0 ∷ step 1 ∷ deliver 0 1 ∷ []

-- the state that commands lead to, or the load where one of them is refused
unfoldable pub reached : List Command → State
unfolding opened run_all
reached commands = elim (run_all run_state commands (loaded two bench_sizes)) [ none ↦ loaded two bench_sizes | some end ↦ end ]

-- 1 has two entries, the second a rec, and two deliveries
pub record LeastCases : Type 0 where
  pub is_load : load two bench_sizes ≡ loads (loaded two bench_sizes)
  pub accepted : run_all run_state delivered_later (loaded two bench_sizes) ≡ some (reached delivered_later)
  -- the second delivery is undone,
  pub undelivered : run_state (undeliver 1) (reached delivered_later) ≡ some (reached (delivered_later ++ (undeliver 1 ∷ [])))
  pub was_there : happened (reached delivered_later) (event (deliveries_to 1) 1) ≡ true
  pub gone : happened (reached (delivered_later ++ (undeliver 1 ∷ []))) (event (deliveries_to 1) 1) ≡ false
  -- and the entries stay
  pub stay : happened (reached (delivered_later ++ (undeliver 1 ∷ []))) (event (entries_of 1) 1) ≡ true
  -- "deliveries in its queue before, if a rec": the rec depends on the first delivery, not on the second; the other entry on neither
  pub on_first : depends_at_once (reached delivered_later) (event (entries_of 1) 1) (event (deliveries_to 1) 0) ≡ true
  pub not_on_second : depends_at_once (reached delivered_later) (event (entries_of 1) 1) (event (deliveries_to 1) 1) ≡ false
  pub no_rec : depends_at_once (reached delivered_later) (event (entries_of 1) 0) (event (deliveries_to 1) 0) ≡ false

pub least_cases : LeastCases
unfolding opened reached
least_cases = record {
  is_load = refl;
  accepted = refl;
  undelivered = refl;
  was_there = refl;
  gone = refl;
  stay = refl;
  on_first = refl;
  not_on_second = refl;
  no_rec = refl;
}
