-- "9 | too large | next control exceeds W": a spawn is never answered so, for the pid that takes its place is no longer than it was, and
-- neither is the child's apply. Shown by `spawn_fits` of proofs/SpawnFits.
use Rattle.std.specs.Prelude.{ℕ, ◌≤◌, ◌≡◌, ◌≢◌, List, length}
use Rattle.std.proofs.Math.Option.{some}
use Rattle.machine.specs.Work.{to_spawn, work}
use Rattle.rules.specs.Answers.{too_large}
use Rattle.rules.specs.State.{Process, State}
use Rattle.rules.specs.Commands.{spawn_into, refuse, run}
use Rattle.rules.specs.Sound.{Sound}

pub record SpawnFits : Type 0 where
  pub never_too_large : (s : State) (p f : ℕ) → Sound s → run (spawn_into p f) s ≢ refuse too_large
  -- nor is the child's first control, of which no answer speaks
  pub child_fits : (s : State) (p : ℕ) (process : Process) (child : List ℕ) (next : ℕ → List ℕ) → Sound s → s.processes p ≡ some process
      → work s.module' process.control ≡ to_spawn child next → length child ≤ s.sizes.words
