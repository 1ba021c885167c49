-- Sequences of steps that all go one way.
use Rattle.std.specs.Prelude.{◌≡◌, Bool, List, [], ◌∷◌}

module _ {State Command : Type 0} (Step : State → Command → State → Type 0) (forward : Command → Bool) where
  -- `Directed way s ts e`: a run of commands that all go one way, `true` for forward and `false` for backward.
  pub data Directed (way : Bool) : State → List Command → State → Type 0 where
    stay : {s : State} → Directed way s [] s
    go : {s a e : State} {t : Command} {ts : List Command} → Step s t a → forward t ≡ way → Directed way a ts e → Directed way s (t ∷ ts) e
