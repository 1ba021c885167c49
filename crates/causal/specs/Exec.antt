-- Sequences for a system that is a function: `exec t s` is the state that the command `t` makes of `s`, or none where `t` is refused.
use Rattle.std.specs.Prelude.{◌≡◌}
use Rattle.std.proofs.Math.Option.{Option, some, bind}
use mathlib.Core.List.{List, [], ◌∷◌}

module _ {State Command : Type 0} (exec : Command → State → Option State) where
  -- The command `t` is accepted at `s`, and leads to `a`. (A record, since of a bare equation `s` and `t` could not be inferred.)
  pub record Step (s : State) (t : Command) (a : State) : Type 0 where
    pub accepted : exec t s ≡ some a

  -- What the commands make of `s`, one after another, or none as soon as one of them is refused.
  unfoldable pub run_all : List Command → State → Option State
  unfolding bind
  run_all [] s = some s
  run_all (t ∷ ts) s = bind (exec t s) (λ a. run_all ts a)
