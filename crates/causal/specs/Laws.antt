-- What a system must supply to be causally consistent.
use Rattle.std.specs.Prelude.{◌≡◌, Bool, true, false, not, ◌≢◌, ℕ, suc}

-- `Step`, `reverse` and `Independent` are as in Paths. `forward t` tells whether the command `t` does something or undoes something.
-- `measure s` is how much is done at `s`. `Good` is an invariant of the states reached from `root`.
pub record Laws {State Command : Type 0} (Step : State → Command → State → Type 0) (reverse : State → Command → Command)
    (Independent : State → Command → Command → Type 0) (forward : Command → Bool) (measure : State → ℕ) (Good : State → Type 0) (root : State)
    : Type 0 where
  -- Equality of commands is decidable.
  pub equal? : (t u : Command) → Dec (t ≡ u)
  -- The root is good.
  pub good_root : Good root
  -- A step from a good state leads to a good state.
  pub good_step : {s a : State} {t : Command} → Good s → Step s t a → Good a
  -- A command leads to one state.
  pub deterministic : {s a b : State} {t : Command} → Step s t a → Step s t b → a ≡ b
  -- A step can be reversed: what was done can be undone, and what was undone can be done again.
  pub reversible : {s a : State} {t : Command} → Good s → Step s t a → Step a (reverse s t) s
  -- A step and its reverse go opposite ways.
  pub opposite : {s a : State} {t : Command} → Good s → Step s t a → forward (reverse s t) ≡ not (forward t)
  -- A forward step adds one to what is done.
  pub grows : {s a : State} {t : Command} → Good s → Step s t a → forward t ≡ true → measure a ≡ suc (measure s)
  -- At the root there is nothing to undo.
  pub start : {a : State} {t : Command} → Step root t a → forward t ≡ true
  -- Independence does not ask which of the two is named first.
  pub symmetric : {s : State} {t u : Command} → Independent s t u → Independent s u t
  -- Of two different independent steps each is accepted after the other, and both orders end in one state.
  pub square : {s a b : State} {t u : Command} → Good s → Step s t a → Step s u b → t ≢ u → Independent s t u
      → (d : State) × Step a u d × Step b t d
  -- Two different backward steps from one state are independent.
  pub backward_independent : {s a b : State} {t u : Command} → Good s → Step s t a → Step s u b
      → forward t ≡ false → forward u ≡ false → t ≢ u → Independent s t u
  -- A backward step `u` that is accepted before and after the forward step `t`, and independent of undoing `t`, is independent of `t`.
  pub corner : {s a b d : State} {t u : Command} → Good s → Step s t a → Step s u b → Step a u d
      → forward t ≡ true → forward u ≡ false → Independent a (reverse s t) u → Independent s t u
