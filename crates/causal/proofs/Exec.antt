-- The same for a system that is a function.
use mathlib.Core.Path.{◌≡◌, refl, sym}
use mathlib.Core.Bool.{Bool}
use mathlib.Core.Logic.{◌↔◌}
use mathlib.Core.Option.{Option, none, some, bind-eq-some_iff}
use mathlib.Core.List.{List, [], ◌∷◌}
use Prim.Native.Nat.{ℕ}
use Rattle.causal.specs.Paths.{Run, done, more}
use Rattle.causal.specs.Laws.{Laws}
use Rattle.causal.specs.Exec.{Step, run_all}
use Rattle.causal.specs.RunsAgree.{ConsistencyOfRuns}
use Rattle.causal.proofs.Causal.{consistency}

options_alike : {A : Type 0} (x y : Option A) → ((a : A) → (x ≡ some a) ↔ (y ≡ some a)) → x ≡ y
options_alike none none h = refl
options_alike none (some b) h = (h b).1 refl
options_alike (some a) y h = sym ((h a).0 refl)

module _ {State Command : Type 0} (exec : Command → State → Option State) where
  -- The law `deterministic`, which a function keeps by itself.
  pub exec_deterministic : {s a b : State} {t : Command} → Step exec s t a → Step exec s t b → a ≡ b
  exec_deterministic p q = cc (p.accepted, q.accepted)

  -- `run_all` and `Run` say the same.
  pub of_run : (ts : List Command) {s e : State} → run_all exec ts s ≡ some e → Run (Step exec) s ts e
  unfolding run_all
  of_run [] {s} {e} h = let same : s ≡ e = cc in rw same done
  of_run (t ∷ ts) {s} {e} h = let (a, p, q) = (bind-eq-some_iff (exec t s) (λ a. run_all exec ts a)).0 h in more (record { accepted = p }) (of_run ts q)

  pub to_run : {s e : State} {ts : List Command} → Run (Step exec) s ts e → run_all exec ts s ≡ some e
  unfolding run_all
  to_run done = refl
  to_run (more p r) = rw p.accepted (to_run r)

  runs_alike : {s : State} {ts us : List Command} → ((e : State) → Run (Step exec) s ts e ↔ Run (Step exec) s us e) → run_all exec ts s ≡ run_all exec us s
  runs_alike {s} {ts} {us} keeps =
      options_alike (run_all exec ts s) (run_all exec us s) (λ e. (λ h. to_run ((keeps e).0 (of_run ts h)), λ h. to_run ((keeps e).1 (of_run us h))))

module _ {State Command : Type 0} {exec : Command → State → Option State} {reverse : State → Command → Command} {Independent : State → Command → Command → Type 0}
    {forward : Command → Bool} {measure : State → ℕ} {Good : State → Type 0} {root : State} (laws : Laws (Step exec) reverse Independent forward measure Good root) where
  pub consistency_of_runs : ConsistencyOfRuns exec reverse Independent forward measure Good root
  consistency_of_runs = record {
    change_keeps = λ good c. runs_alike exec ((consistency laws).change_keeps good c);
    turns_keeps = λ good x. runs_alike exec ((consistency laws).turns_keeps good x);
    parabolic = λ ts s e good r. (consistency laws).parabolic good (of_run exec ts r);
    forward_only = λ ts e r. (consistency laws).forward_only (of_run exec ts r);
    any_forward = (consistency laws).any_forward;
    causal = λ history ts us s a b r p q. (consistency laws).causal (history, of_run exec history r) (of_run exec ts p) (of_run exec us q);
  }
