-- Runs: put together, cut, determined by their commands, kept good.
use mathlib.Core.Path.{◌≡◌, refl, subst}
use mathlib.Core.Bool.{Bool}
use mathlib.Core.List.{List, ◌∷◌, ◌++◌}
use Prim.Native.Nat.{ℕ}
use Rattle.causal.specs.Paths.{Run, done, more}
use Rattle.causal.specs.Directed.{Directed, stay, go}
use Rattle.causal.specs.Laws.{Laws}

module _ {State Command : Type 0} {Step : State → Command → State → Type 0} where
  pub run_append : {s a e : State} {ts us : List Command} → Run Step s ts a → Run Step a us e → Run Step s (ts ++ us) e
  run_append done r = r
  run_append (more p q) r = more p (run_append q r)

  module _ {forward : Command → Bool} {way : Bool} where
    pub directed_run : {s e : State} {ts : List Command} → Directed Step forward way s ts e → Run Step s ts e
    directed_run stay = done
    directed_run (go p f r) = more p (directed_run r)

    pub directed_append : {s a e : State} {ts us : List Command} → Directed Step forward way s ts a → Directed Step forward way a us e → Directed Step forward way s (ts ++ us) e
    directed_append stay r = r
    directed_append (go p f q) r = go p f (directed_append q r)

module _ {State Command : Type 0} {Step : State → Command → State → Type 0} {reverse : State → Command → Command} {Independent : State → Command → Command → Type 0}
    {forward : Command → Bool} {measure : State → ℕ} {Good : State → Type 0} {root : State} (laws : Laws Step reverse Independent forward measure Good root) where
  -- The run after its first step.
  pub run_tail : {s a e : State} {t : Command} {ts : List Command} → Step s t a → Run Step s (t ∷ ts) e → Run Step a ts e
  run_tail {e} {ts} p (more q r) = subst (λ x. Run Step x ts e) (laws.deterministic q p) r

  pub run_deterministic : {s a b : State} {ts : List Command} → Run Step s ts a → Run Step s ts b → a ≡ b
  run_deterministic done done = refl
  run_deterministic (more p q) r = run_deterministic q (run_tail p r)

  pub good_run : {s e : State} {ts : List Command} → Good s → Run Step s ts e → Good e
  good_run good done = good
  good_run good (more p r) = good_run (laws.good_step good p) r
