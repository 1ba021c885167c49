-- What follows from the laws: `Consistency`, which `consistency` of proofs/Causal shows of every system that keeps them.
use Rattle.std.specs.Prelude.{◌≡◌, Bool, true, false, ◌↔◌, List, ◌++◌, ℕ, ◌+◌, ◌≤◌, length}
use Rattle.causal.specs.Paths.{Run, ReachedFrom, Change, Turns}
use Rattle.causal.specs.Directed.{Directed}

module _ {State Command : Type 0} (Step : State → Command → State → Type 0) (reverse : State → Command → Command)
    (Independent : State → Command → Command → Type 0) (forward : Command → Bool) where
  -- The sequence `ts` from `s` to `e` turns into a backward one followed by a forward one, together not longer.
  pub record Parabola (s : State) (ts : List Command) (e : State) : Type 0 where
    pub down : List Command
    pub up : List Command
    pub lowest : State
    pub backward_part : Directed Step forward false s down lowest
    pub forward_part : Directed Step forward true lowest up e
    pub turns : Turns Step reverse Independent s ts (down ++ up)
    pub not_longer : length down + length up ≤ length ts

  -- The sequence `ts` from `s` to `e` turns into a forward one, whose length is what the measure has grown by.
  pub record ForwardOnly (measure : State → ℕ) (s : State) (ts : List Command) (e : State) : Type 0 where
    pub up : List Command
    pub forward_part : Directed Step forward true s up e
    pub turns : Turns Step reverse Independent s ts up
    pub as_long : length up + measure s ≡ measure e

  pub record Consistency (measure : State → ℕ) (Good : State → Type 0) (root : State) : Type 0 where
    -- One change alters neither whether a sequence is accepted nor where it ends.
    -- So in a `Turns` that starts from an accepted sequence the others are accepted by themselves.
    pub change_keeps : {s : State} {ts us : List Command} → Good s → Change Step reverse Independent s ts us
        → (e : State) → Run Step s ts e ↔ Run Step s us e
    -- Sequences that turn into each other are accepted alike and end alike.
    pub turns_keeps : {s : State} {ts us : List Command} → Good s → Turns Step reverse Independent s ts us
        → (e : State) → Run Step s ts e ↔ Run Step s us e
    -- The parabolic lemma: each accepted sequence turns into one that first goes back and then forward, and is not longer.
    pub parabolic : {s e : State} {ts : List Command} → Good s → Run Step s ts e → Parabola s ts e
    -- From the root each accepted sequence turns into one that only goes forward.
    pub forward_only : {e : State} {ts : List Command} → Run Step root ts e → ForwardOnly measure root ts e
    -- However a forward sequence goes, its length is what the measure grows by.
    pub any_forward : {s e : State} {up : List Command} → Good s → Directed Step forward true s up e → length up + measure s ≡ measure e
    -- Causal consistency: from a reachable state two accepted sequences end in equal states exactly when one turns into the other.
    pub causal : {s a b : State} {ts us : List Command} → ReachedFrom Step root s → Run Step s ts a → Run Step s us b
        → (a ≡ b) ↔ Turns Step reverse Independent s ts us
