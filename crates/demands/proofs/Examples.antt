-- What the demands say of some runs: the hypotheses hold of a run with a spawn, a send, a delivery and a receive.
use Prim.Native.Nat.{ℕ}
use mathlib.Core.Path.{◌≡◌, refl, sym, ◌∙◌, ap}
use mathlib.Core.Option.{none, some}
use mathlib.Core.List.{List, [], ◌∷◌, ◌++◌}
use native.Mathlib.Omega.{arith}
use Rattle.causal.specs.Paths.{exchange, later, Turns, unchanged, changed}
use Rattle.causal.specs.Exec.{Step, run_all}
use Rattle.causal.proofs.Exec.{of_run}
use Rattle.rules.specs.State.{State, seq, send}
use Rattle.rules.specs.Load.{loaded, loads, load}
use Rattle.rules.specs.Commands.{Command, step, spawn_into, deliver, makes, run_state}
use Rattle.rules.specs.Independent.{Apart, actor, mailbox, acts_at, if_rec, receiver, spawns_into, unspawns, Crossed, Independent}
use Rattle.rules.specs.Reverse.{reverse}
use Rattle.rules.specs.Opened.{opened}
use Rattle.rules.specs.Cases.{pair, two}
use Rattle.rules.specs.Bench.{bench_sizes}
use Rattle.demands.specs.Demands.{Reachable}
use Rattle.demands.proofs.Demands.{demand3}

-- the state that commands lead to from a load with P 4, H 16, W 64, or the load where one of them is refused
unfoldable pub after : (module' : List ℕ) → List Command → State
unfolding opened run_all
after module' ts = elim (run_all run_state ts (loaded module' bench_sizes)) [ none ↦ loaded module' bench_sizes | some e ↦ e ]

-- 0 spawns 1 and sends it atom 5, 1 comes to its receive, the message is delivered and received
abbrev pub sent_first : List Command
sent_first = step 0 ∷ spawn_into 0 1 ∷ step 0 ∷ step 1 ∷ deliver 0 0 ∷ step 1 ∷ []

-- the same, but 1 comes to its receive before 0 sends
abbrev pub ready_first : List Command
ready_first = step 0 ∷ spawn_into 0 1 ∷ step 1 ∷ step 0 ∷ deliver 0 0 ∷ step 1 ∷ []

pub pair_loads : load pair bench_sizes ≡ loads (loaded pair bench_sizes)
unfolding opened
pair_loads = refl

pub sent_first_accepted : run_all run_state sent_first (loaded pair bench_sizes) ≡ some (after pair sent_first)
unfolding after
sent_first_accepted = refl

pub ready_first_accepted : run_all run_state ready_first (loaded pair bench_sizes) ≡ some (after pair ready_first)
unfolding after
ready_first_accepted = refl

-- the load is reached by no commands
load_reachable : Reachable (loaded pair bench_sizes)
unfolding run_all
load_reachable = record { module' = pair; sizes = bench_sizes; root = loaded pair bench_sizes; is_load = pair_loads; commands = []; lead = refl }

abbrev spawned : List Command
spawned = step 0 ∷ spawn_into 0 1 ∷ []

one_step : Step run_state (loaded pair bench_sizes) (step 0) (after pair (step 0 ∷ []))
unfolding after
one_step = record { accepted = refl }

two_steps : Step run_state (after pair (step 0 ∷ [])) (spawn_into 0 1) (after pair spawned)
unfolding after
two_steps = record { accepted = refl }

sends_there : Step run_state (after pair spawned) (step 0) (after pair (step 0 ∷ spawn_into 0 1 ∷ step 0 ∷ []))
unfolding after
sends_there = record { accepted = refl }

readies_there : Step run_state (after pair spawned) (step 1) (after pair (step 0 ∷ spawn_into 0 1 ∷ step 1 ∷ []))
unfolding after
readies_there = record { accepted = refl }

zero_not_one : ¬ (◌≡◌ {A = ℕ} 0 1)
zero_not_one e = omega arith

differ : ¬ (step 0 ≡ step 1)
differ e = let z : ◌≡◌ {A = ℕ} 0 1 = cc in omega arith

-- to send and to become ready are independent there
pub send_and_ready : Independent (after pair spawned) (step 0) (step 1)
unfolding after Apart actor mailbox acts_at if_rec receiver spawns_into unspawns Crossed
send_and_ready = record {
  deed = makes 0 (send 1 (0x02000005 ∷ []));
  deed' = makes 1 seq;
  move = _;
  move' = _;
  accepted = refl;
  accepted' = refl;
  apart = record {
    actors = zero_not_one;
    mailboxes = tt;
    mail_receive = tt;
    receive_mail = tt;
    unspawn_acts = tt;
    acts_unspawn = tt;
    delivery_unsend = λ x. x;
    unsend_delivery = λ x. x;
    spawns = tt;
  };
}

-- so the one order turns into the other, ..
pub orders_turn : Turns (Step run_state) reverse Independent (loaded pair bench_sizes) sent_first ready_first
orders_turn = changed (later one_step (later two_steps (exchange sends_there readies_there differ send_and_ready)))
    (after pair ready_first, of_run run_state ready_first ready_first_accepted) unchanged

-- .. and they end in one state
pub one_end : after pair sent_first ≡ after pair ready_first
one_end = (demand3.consistent (loaded pair bench_sizes) (after pair sent_first) (after pair ready_first) sent_first ready_first load_reachable sent_first_accepted ready_first_accepted).1 orders_turn

-- ---- two messages that come in two orders
-- 0 spawns 1 and sends it atoms 5 and 6
abbrev prepared : List Command
prepared = step 0 ∷ spawn_into 0 1 ∷ step 0 ∷ step 0 ∷ step 0 ∷ []

-- the messages are delivered as they were sent, or the other way round
abbrev in_order : List Command
in_order = deliver 0 0 ∷ deliver 0 1 ∷ []

abbrev turned_round : List Command
turned_round = deliver 0 1 ∷ deliver 0 0 ∷ []

two_reachable : Reachable (after two prepared)
unfolding after
two_reachable = record { module' = two; sizes = bench_sizes; root = loaded two bench_sizes; is_load = refl; commands = prepared; lead = refl }

in_order_accepted : run_all run_state in_order (after two prepared) ≡ some (after two (prepared ++ in_order))
unfolding after
in_order_accepted = refl

turned_round_accepted : run_all run_state turned_round (after two prepared) ≡ some (after two (prepared ++ turned_round))
unfolding after
turned_round_accepted = refl

-- the count of the oldest message that 1 has in its queue
oldest_count : State → ℕ
oldest_count s = elim (s.queues 1) [ [] ↦ 0 | m ∷ queue ↦ m.count ]

oldest_in_order : oldest_count (after two (prepared ++ in_order)) ≡ 0
unfolding after oldest_count
oldest_in_order = refl

oldest_turned_round : oldest_count (after two (prepared ++ turned_round)) ≡ 1
unfolding after oldest_count
oldest_turned_round = refl

-- the two end differently, so neither turns into the other
pub deliveries_differ : ¬ Turns (Step run_state) reverse Independent (after two prepared) in_order turned_round
deliveries_differ x =
    let same = (demand3.consistent (after two prepared) (after two (prepared ++ in_order)) (after two (prepared ++ turned_round)) in_order turned_round two_reachable in_order_accepted turned_round_accepted).1 x in
    zero_not_one (sym oldest_in_order ∙ ap oldest_count same ∙ oldest_turned_round)
