-- Causal consistency for a system that is a function.
use Rattle.std.specs.Prelude.{ℕ, ◌+◌, ◌≡◌, Bool, true, ◌↔◌, List, length}
use Rattle.std.proofs.Math.Option.{Option, some}
use Rattle.causal.specs.Paths.{Change, Turns}
use Rattle.causal.specs.Directed.{Directed}
use Rattle.causal.specs.Causal.{Parabola, ForwardOnly}
use Rattle.causal.specs.Exec.{Step, run_all}

module _ {State Command : Type 0} (exec : Command → State → Option State) where
  -- What follows from the laws of `Step`, as `consistency_of_runs` of proofs/Exec shows.
  pub record ConsistencyOfRuns (reverse : State → Command → Command) (Independent : State → Command → Command → Type 0) (forward : Command → Bool)
      (measure : State → ℕ) (Good : State → Type 0) (root : State) : Type 0 where
    -- One change alters neither whether a sequence is accepted nor where it ends.
    pub change_keeps : {s : State} {ts us : List Command} → Good s → Change (Step exec) reverse Independent s ts us → run_all exec ts s ≡ run_all exec us s
    -- Sequences that turn into each other are accepted alike and end alike.
    pub turns_keeps : {s : State} {ts us : List Command} → Good s → Turns (Step exec) reverse Independent s ts us → run_all exec ts s ≡ run_all exec us s
    -- The parabolic lemma: each accepted sequence turns into one that first goes back and then forward, and is not longer.
    pub parabolic : (ts : List Command) (s e : State) → Good s → run_all exec ts s ≡ some e → Parabola (Step exec) reverse Independent forward s ts e
    -- From the root each accepted sequence turns into one that only goes forward.
    pub forward_only : (ts : List Command) (e : State) → run_all exec ts root ≡ some e → ForwardOnly (Step exec) reverse Independent forward measure root ts e
    -- However a forward sequence goes, its length is what the measure grows by.
    pub any_forward : {s e : State} {up : List Command} → Good s → Directed (Step exec) forward true s up e → length up + measure s ≡ measure e
    -- Causal consistency: from a state that `history` reaches two accepted sequences end in equal states exactly when one turns into the other.
    pub causal : (history ts us : List Command) (s a b : State) → run_all exec history root ≡ some s → run_all exec ts s ≡ some a → run_all exec us s ≡ some b
        → (a ≡ b) ↔ Turns (Step exec) reverse Independent s ts us
