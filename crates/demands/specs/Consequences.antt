-- What else is shown of the rules: sound states stay sound, steps reverse in every sound state, independent steps commute, and sequences turn
-- into ones that first go back and then forward.
use Rattle.std.specs.Prelude.{ℕ, ◌+◌, ◌≡◌, ◌≢◌, ◌⊎◌, true, false, List, ◌++◌, length}
use Rattle.std.proofs.Math.Option.{some}
use Rattle.lists.specs.Lists.{keep}
use Rattle.causal.specs.Directed.{Directed}
use Rattle.causal.specs.Causal.{Parabola, ForwardOnly}
use Rattle.causal.specs.Exec.{Step, run_all}
use Rattle.rules.specs.State.{letter, Sizes, State, history_at, is_named}
use Rattle.rules.specs.Flight.{sent, taken, flies}
use Rattle.rules.specs.Load.{loads, load}
use Rattle.rules.specs.Commands.{Command, undeliver, run_state}
use Rattle.rules.specs.Sound.{Sound}
use Rattle.rules.specs.Independent.{Independent}
use Rattle.rules.specs.Reverse.{reverse, is_forward, amount_done}
use Rattle.demands.specs.Demands.{Reachable, TurnsInto}

-- how often message s.k stands at t, in its queue or among the messages that its recs took
unfoldable pub times_at : State → (s k t : ℕ) → ℕ
times_at st s k t = length (keep (is_named s k) (st.queues t ++ taken (history_at st t)))

-- message s.k, sent to t, is in flight and nowhere else, or not in flight and once at t and nowhere else
pub record ExactlyOnce (st : State) (s k t : ℕ) : Type 0 where
  pub at_target : ((flies st s k t ≡ true) × (times_at st s k t ≡ 0)) ⊎ ((flies st s k t ≡ false) × (times_at st s k t ≡ 1))
  pub elsewhere : (other : ℕ) → other ≢ t → times_at st s k other ≡ 0

-- both orders are accepted, and end in one state
pub record Commute (s : State) (t u : Command) : Type 0 where
  pub after_t : State
  pub after_u : State
  pub end : State
  pub t_first : run_state t s ≡ some after_t
  pub then_u : run_state u after_t ≡ some end
  pub u_first : run_state u s ≡ some after_u
  pub then_t : run_state t after_u ≡ some end

pub record StaysSound : Type 0 where
  -- a load is sound, an accepted command takes a sound state to a sound state, ..
  pub loaded : (module' : List ℕ) (sizes : Sizes) (s : State) → load module' sizes ≡ loads s → Sound s
  pub stepped : (s a : State) (c : Command) → Sound s → run_state c s ≡ some a → Sound a
  -- .. so every state reached from a load is sound
  pub reached : (s : State) → Reachable s → Sound s
  -- "its message stands exactly once in flight, the target's queue and the messages the target's recs took, taken together"
  pub exactly_once : (st : State) (s k t : ℕ) (value : List ℕ) → Sound st → sent (history_at st s) k ≡ some (letter t value) → ExactlyOnce st s k t

-- of every sound state
pub record StepsReverse : Type 0 where
  -- a step, spawn or delivery just taken is undone, ..
  pub undone : (s a : State) (c : Command) → Sound s → is_forward c ≡ true → run_state c s ≡ some a → run_state (reverse s c) a ≡ some s
  -- .. and an undelivered message is delivered again
  pub redelivered : (s a : State) (p : ℕ) → Sound s → run_state (undeliver p) s ≡ some a → run_state (reverse s (undeliver p)) a ≡ some s
  -- what the reverse does is the other way, and one more is done forward
  pub turns_round : (s a : State) (c : Command) → Sound s → is_forward c ≡ true → run_state c s ≡ some a → is_forward (reverse s c) ≡ false
  pub does_one : (s a : State) (c : Command) → Sound s → is_forward c ≡ true → run_state c s ≡ some a → amount_done a ≡ 1 + amount_done s

-- "Two different single steps accepted at one state are independent unless: .."
pub record IndependentCommute : Type 0 where
  -- in every state reached from a load what 01 calls independent commutes
  pub square : (s : State) (t u : Command) → Reachable s → Independent s t u → Commute s t u
  -- in every sound state two different accepted undos are independent, and neither disables the other
  pub undos_independent : (s a b : State) (t u : Command) → Sound s → is_forward t ≡ false → is_forward u ≡ false → t ≢ u
      → run_state t s ≡ some a → run_state u s ≡ some b → Independent s t u
  pub undos_commute : (s a b : State) (t u : Command) → Sound s → is_forward t ≡ false → is_forward u ≡ false → t ≢ u
      → run_state t s ≡ some a → run_state u s ≡ some b → Commute s t u

-- of sequences from a state reached from a load
pub record SequencesTurn : Type 0 where
  -- those that turn into each other are accepted alike and end alike
  pub turned_alike : (s : State) (ts us : List Command) → Reachable s → TurnsInto s ts us → run_all run_state ts s ≡ run_all run_state us s
  -- each turns into one that first goes back and then forward, and is not longer
  pub parabolic : (s e : State) (ts : List Command) → Reachable s → run_all run_state ts s ≡ some e → Parabola (Step run_state) reverse Independent is_forward s ts e
  -- from a load each turns into one that only goes forward
  pub forward_only : (module' : List ℕ) (sizes : Sizes) (root e : State) (ts : List Command) → load module' sizes ≡ loads root → run_all run_state ts root ≡ some e
      → ForwardOnly (Step run_state) reverse Independent is_forward amount_done root ts e
  -- however a forward one goes, each of its steps does one more
  pub any_forward : (s e : State) (up : List Command) → Reachable s → Directed (Step run_state) is_forward true s up e → length up + amount_done s ≡ amount_done e

pub record Consequences : Type 0 where
  pub sound : StaysSound
  pub reverse : StepsReverse
  pub commute : IndependentCommute
  pub turn : SequencesTurn
