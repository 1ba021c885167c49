-- The consequences of the laws, as specs/Causal states them.
use mathlib.Core.Path.{◌≡◌, refl}
use mathlib.Core.Bool.{Bool, true}
use mathlib.Core.List.{List, [], ◌∷◌, ◌++◌, append_assoc, append-nil}
use Prim.Native.Nat.{ℕ, ◌+◌}
use native.Mathlib.Omega.{arith}
use lib.ListN.{length}
use Rattle.causal.specs.Paths.{Run, done, more, ReachedFrom, remove, Turns, unchanged, changed}
use Rattle.causal.specs.Directed.{Directed, stay, go}
use Rattle.causal.specs.Laws.{Laws}
use Rattle.causal.specs.Causal.{ForwardOnly, Consistency}
use Rattle.causal.proofs.Runs.{run_append, run_deterministic, good_run}
use Rattle.causal.proofs.Changes.{turns_join, turns_later, turns_after, turns_append, turns_back, turns_keeps, change_keeps}
use Rattle.causal.proofs.Parabola.{parabolic}
use Rattle.causal.proofs.Descent.{no_way_down, to_root_alike}

module _ {State Command : Type 0} {Step : State → Command → State → Type 0} {reverse : State → Command → Command} {Independent : State → Command → Command → Type 0}
    {forward : Command → Bool} {measure : State → ℕ} {Good : State → Type 0} {root : State} (laws : Laws Step reverse Independent forward measure Good root) where
  forward_length : {s e : State} {ts : List Command} → Good s → Directed Step forward true s ts e → length ts + measure s ≡ measure e
  forward_length good stay = omega arith
  forward_length good (go p f r) = omega (arith, laws.grows good p f, forward_length (laws.good_step good p) r)

  forward_only : {e : State} {ts : List Command} → Run Step root ts e → ForwardOnly Step reverse Independent forward measure root ts e
  forward_only {e} {ts} r =
      let x = parabolic laws laws.good_root r in
      let (empty, home) = no_way_down laws refl x.backward_part in
      let up : Directed Step forward true root x.up e = rw (← home) at x.forward_part in
      let turns : Turns Step reverse Independent root ts x.up = rw empty at x.turns in
      record { up = x.up; forward_part = up; turns = turns; as_long = forward_length laws.good_root up }

  -- Each sequence has a way back, and with it turns into nothing.
  way_back : {s e : State} {ts : List Command} → Good s → Run Step s ts e
      → (us : List Command) × Run Step e us s × Turns Step reverse Independent s (ts ++ us) []
  way_back good done = ([], done, unchanged)
  way_back {s} good (more {t = t} {ts = ts} p r) =
      let (us, back, turns) = way_back (laws.good_step good p) r in
      let undo = reverse s t ∷ [] in
      let undone = more (laws.reversible good p) done in
      let longer = turns_append laws undo (laws.good_step good p) (run_append (run_append r back) undone) turns in
      let removed = turns_join (turns_later p longer) (changed (remove p) (s, done) unchanged) in
      let nothing : Turns Step reverse Independent s (t ∷ (ts ++ (us ++ undo))) [] = rw (← append_assoc) removed in
      (us ++ undo, run_append back undone, nothing)

  -- Sequences that end alike are led down to the root, where all are alike, and up again.
  end_alike : {s e : State} {ts us : List Command} → ReachedFrom Step root s → Run Step s ts e → Run Step s us e
      → Turns Step reverse Independent s ts us
  end_alike {s} {ts} {us} (history, r) p q =
      let good = good_run laws laws.good_root r in
      let (down, fall, _) = way_back laws.good_root (run_append r p) in
      let (up, rise, nothing) = way_back (good_run laws good p) fall in
      let loop = turns_back laws (run_append fall rise) nothing in
      let left : Turns Step reverse Independent s ts ((ts ++ down) ++ up) = rw append_assoc (rw append-nil at (turns_after p loop)) in
      let right : Turns Step reverse Independent s us ((us ++ down) ++ up) = rw append_assoc (rw append-nil at (turns_after q loop)) in
      let below = to_root_alike laws good (run_append p fall) (run_append q fall) in
      turns_join left (turns_join (turns_append laws up good (run_append (run_append p fall) rise) below) (turns_back laws q right))

  turns_same : {s a b : State} {ts us : List Command} → ReachedFrom Step root s → Run Step s ts a → Run Step s us b
      → Turns Step reverse Independent s ts us → a ≡ b
  turns_same (history, r) p q turns = run_deterministic laws ((turns_keeps laws (good_run laws laws.good_root r) turns _).0 p) q

  pub consistency : Consistency Step reverse Independent forward measure Good root
  consistency = record {
    change_keeps = change_keeps laws;
    turns_keeps = turns_keeps laws;
    parabolic = parabolic laws;
    forward_only = forward_only;
    any_forward = forward_length;
    causal = λ reach p q. (λ same. end_alike reach p (rw (← same) at q), λ turns. turns_same reach p q turns);
  }
