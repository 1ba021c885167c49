-- Sequences of steps: when one is accepted, where it ends, and how one turns into another.
use Rattle.std.specs.Prelude.{◌≢◌, List, [], ◌∷◌}

-- `Step s t a`: the command `t` is accepted at the state `s`, and leads to the state `a`.
module _ {State Command : Type 0} (Step : State → Command → State → Type 0) where
  -- `Run s ts e`: from `s` the commands `ts` are accepted one after another, and end in `e`.
  pub data Run : State → List Command → State → Type 0 where
    done : {s : State} → Run s [] s
    more : {s a e : State} {t : Command} {ts : List Command} → Step s t a → Run a ts e → Run s (t ∷ ts) e

  -- `Accepted s ts`: each of the commands is accepted where it stands.
  abbrev pub Accepted : State → List Command → Type 0
  Accepted s ts = (e : State) × Run s ts e

  -- `ReachedFrom root s`: some sequence of commands leads from `root` to `s`.
  abbrev pub ReachedFrom : State → State → Type 0
  ReachedFrom root s = (ts : List Command) × Run root ts s

  -- `reverse s t` is the command that reverses `t` taken at `s`. `Independent s t u`: at `s` the commands `t` and `u` do not touch each other.
  module _ (reverse : State → Command → Command) (Independent : State → Command → Command → Type 0) where
    -- `Change s ts us`: one change at one place makes `us` of the sequence `ts` that starts at `s`.
    pub data Change : State → List Command → List Command → Type 0 where
      -- Neighbours `t`, `u` are exchanged: `u` is accepted before `t`, and the two are different and independent there.
      exchange : {s a b : State} {t u : Command} {rest : List Command} → Step s t a → Step s u b → t ≢ u → Independent s t u
          → Change s (t ∷ u ∷ rest) (u ∷ t ∷ rest)
      -- A step that is followed at once by its reverse is removed with it, ..
      remove : {s a : State} {t : Command} {rest : List Command} → Step s t a → Change s (t ∷ reverse s t ∷ rest) rest
      -- .. or such two are inserted.
      insert : {s a : State} {t : Command} {rest : List Command} → Step s t a → Change s rest (t ∷ reverse s t ∷ rest)
      -- The place may be further on: the steps before it stay.
      later : {s a : State} {t : Command} {ts us : List Command} → Step s t a → Change a ts us → Change s (t ∷ ts) (t ∷ us)

    -- `Turns s ts us`: `ts` turns into `us` by such changes, one after another, and each sequence on the way is accepted.
    pub data Turns (s : State) : List Command → List Command → Type 0 where
      unchanged : {ts : List Command} → Turns s ts ts
      changed : {ts us vs : List Command} → Change s ts us → Accepted s us → Turns s us vs → Turns s ts vs
