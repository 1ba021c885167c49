-- Histories replay: what was undone can be done again.
use Prim.Native.Nat.{ℕ, ◌<◌, ◌≤◌}
use mathlib.Core.Path.{◌≡◌, refl, sym, ◌∙◌, ap}
use mathlib.Core.Logic.{◌⊎◌, inl, inr}
use mathlib.Core.Option.{Option, none, some}
use mathlib.Core.List.{List, [], ◌∷◌, ◌++◌}
use native.Mathlib.Omega.{arith}
use lib.ListN.{length}
use Rattle.lists.proofs.Tables.{put_same, put_other, put_back}
use Rattle.lists.proofs.Tests.{true_not_false}
use Rattle.machine.specs.Work.{to_send, to_receive, to_spawn, work}
use Rattle.rules.specs.State.{Message, Kind, send, rec, spawn, as_spawn, Entry, State, history_at}
use Rattle.rules.specs.Flight.{sends}
use Rattle.rules.specs.Load.{new_process}
use Rattle.rules.specs.Commands.{Deed, makes, undoes, Beside, nothing, other, Move, turn, set_process, set_queue, set_beside, apply, picked, pick, entry_with}
use Rattle.rules.specs.Rules.{process, making_of, command_of}
use Rattle.rules.specs.Independent.{spawns_into, unspawns, Apart}
use Rattle.rules.specs.Sound.{Sound}
use Rattle.rules.specs.Standing.{Suffix}
use Rattle.rules.proofs.Oldest.{pick_is}
use Rattle.demands.proofs.Does.{MakesAlone, Makes, alone, by_send, by_receive, by_spawn, Undoes, undo_alone, undo_send, undo_receive, undo_spawn, Does, forward, backward}
use Rattle.demands.proofs.Histories.{suffix_top, nil_cons}
use Rattle.demands.proofs.Frame.{turned, work_after, alone_after, same_sizes, state_path, not_in_pool, history_of_lem}
use Rattle.demands.proofs.Deeds.{process_control, new_is_other}
use Rattle.demands.proofs.Questions.{stays_live, spawns_free, flight_lives}
use Rattle.demands.proofs.Undo.{Undo, put_back_two}
use Rattle.demands.proofs.Positions.{New, suffix_was, Had, now, had_lives, Fresh, made, child, had_was}
use Rattle.demands.proofs.SoundFacts.{child_lives}

-- p with the control makes an entry of the kind and has the next control, whatever the others do
pub data Replays (s : State) (p : ℕ) (control : List ℕ) : Kind → List ℕ → Type 0 where
  again_alone : {kind : Kind} {next : List ℕ} → MakesAlone s p control kind next → Replays s p control kind next
  again_send : {target : ℕ} {value next : List ℕ} → work s.module' control ≡ to_send target value next → Replays s p control (send target value) next
  again_receive : {takes : List ℕ → Option (List ℕ)} {older newer : List Message} {m : Message} {next : List ℕ} → work s.module' control ≡ to_receive takes
      → pick takes (older ++ (m ∷ newer)) ≡ some (picked older m newer next) → Replays s p control (rec older m newer) next
  again_spawn : {first : List ℕ} {next : ℕ → List ℕ} {q : ℕ} → work s.module' control ≡ to_spawn first next → q < s.sizes.places → Replays s p control (spawn q) (next q)

made_replays : {s : State} {p : ℕ} {control next : List ℕ} {kind : Kind} {beside : Beside} → Makes s p control kind next beside → Replays s p control kind next
made_replays (alone j) = again_alone j
made_replays (by_send e _) = again_send e
made_replays {s} {p} (by_receive {takes} e i) = again_receive e (ap (pick takes) (sym (pick_is takes (s.queues p) i)) ∙ i)
made_replays (by_spawn e below _) = again_spawn e below

replays_after : {s : State} {p : ℕ} {control next : List ℕ} {kind : Kind} (w : Move) → Replays s p control kind next → Replays (apply w s) p control kind next
replays_after {s} {control} w (again_alone j) = again_alone (alone_after s w j)
replays_after {s} {control} w (again_send e) = again_send (work_after s w control ∙ e)
replays_after {s} {control} w (again_receive e i) = again_receive (work_after s w control ∙ e) i
replays_after {s} {control} w (again_spawn {q} e below) = again_spawn {q = q} (work_after s w control ∙ e) (rw (same_sizes w s) below)

-- each entry's control before steps to the next control; a child's first control is its spawn's
pub record Told (s : State) : Type 0 where
  pub steps : {x : ℕ} {before next : List ℕ} {kind : Kind} {h : List Entry} → Had s x next (entry_with kind before ∷ h) → Replays s x before kind next
  pub first : {q : ℕ} {before control : List ℕ} {g : List Entry} (x : ℕ) → Suffix (entry_with (spawn q) before ∷ g) (history_at s x) → Had s q control []
      → (next : ℕ → List ℕ) × (work s.module' before ≡ to_spawn control next)

module _ {s : State} (sound : Sound s) (told : Told s) {d : Deed} {w : Move} (a : Does s d w) where
  pub told_after : Told (apply w s)
  unfolding as_spawn spawns_into
  told_after = record { steps = steps; first = first }
    where
      steps : {x : ℕ} {before next : List ℕ} {kind : Kind} {h : List Entry} → Had (apply w s) x next (entry_with kind before ∷ h) → Replays (apply w s) x before kind next
      steps {x} {before} {next} {kind} {h} p = replays_after w (go (had_was a p))
        where
          go : Had s x next (entry_with kind before ∷ h) ⊎ Fresh s (apply w s) d x next (entry_with kind before ∷ h) → Replays s x before kind next
          go (inl o) = told.steps o
          go (inr (made {kind = kind'} {before = before'} {h = h'} mk i e r t)) =
              let top : entry_with kind before ≡ entry_with kind' before' = cc in
              let k : kind' ≡ kind = ap (λ y. y.kind) (sym top) in
              let c : before' ≡ before = ap (λ y. y.before) (sym top) in
              rw (k, c) at (made_replays mk)
          go (inr (child new c e)) = nil_cons (sym e)

      first : {q : ℕ} {before control : List ℕ} {g : List Entry} (x : ℕ) → Suffix (entry_with (spawn q) before ∷ g) (history_at (apply w s) x) → Had (apply w s) q control []
          → (next : ℕ → List ℕ) × (work (apply w s).module' before ≡ to_spawn control next)
      first {q} {before} {control} {g} x st p = let (next, e) = go (had_was a p) (suffix_was (turned x a) st) in (next, work_after s w before ∙ e)
        where
          go : Had s q control [] ⊎ Fresh s (apply w s) d q control [] → Suffix (entry_with (spawn q) before ∷ g) (history_at s x) ⊎ New s d x (entry_with (spawn q) before) g
              → (next : ℕ → List ℕ) × (work s.module' before ≡ to_spawn control next)
          go (inl o) (inl r) = told.first x r o
          go (inl o) (inr n) = true_not_false (had_lives o) (spawns_free a (ap spawns_into n.is))
          go (inr (made mk i z _ _)) r = nil_cons z
          go (inr (child new c e)) (inl r) = true_not_false (child_lives sound x r refl) new.free
          go (inr (child new c e)) (inr n) =
              let one : makes new.at (spawn q) ≡ makes x (spawn q) = sym new.is ∙ n.is in
              let z : new.at ≡ x = cc in
              let same_control : new.control ≡ before = process_control (sym new.has ∙ ap s.processes z ∙ n.was) in
              (new.next, ap (work s.module') (sym same_control) ∙ new.about ∙ ap (λ y. to_spawn y new.next) (sym c))

-- back, then the same step
again : {s : State} {p : ℕ} {before next : List ℕ} {h : List Entry} {kind : Kind} {beside : Beside} → Told s → s.processes p ≡ some (process next (entry_with kind before ∷ h))
    → Undoes s p (sends h) kind beside → Replays s p before kind next → length h < s.sizes.entries → length next ≤ s.sizes.words
    → Undo (apply (turn p (process before h) beside) s) s (making_of p kind)
unfolding apply set_beside set_process set_queue command_of Apart unspawns as_spawn
again {s} {p} {before} {h} told i (undo_alone _) (again_alone j) r z = record {
  deed = _;
  move = _;
  does = forward (put_same p _ s.processes p refl) (alone (alone_after s (turn p (process before h) nothing) j)) r z;
  is = refl;
  gives = state_path refl refl (put_back p _ _ s.processes i) refl;
}
again {s} {p} told i (undo_send {target} f) (again_send e) r z = record {
  deed = _;
  move = _;
  does = forward (put_same p _ s.processes p refl) (by_send e (stays_live target (backward i (undo_send f)) (flight_lives f) tt)) r z;
  is = refl;
  gives = state_path refl refl (put_back p _ _ s.processes i) refl;
}
again {s} {p} told i (undo_receive j) (again_receive {takes} e g) r z = record {
  deed = _;
  move = _;
  does = forward (put_same p _ s.processes p refl) (by_receive e (ap (pick takes) (put_same p _ s.queues p refl) ∙ g)) r z;
  is = refl;
  gives = state_path refl refl (put_back p _ _ s.processes i) (put_back p _ _ s.queues j);
}
again {s} {p} {before} {h} told i (undo_spawn {q} {first} j n v) (again_spawn {first = born} e below) r z = record {
  deed = _;
  move = _;
  does = forward (put_other q _ _ p (new_is_other s i j) ∙ put_same p (some (process before h)) s.processes p refl)
      (by_spawn e below (not_in_pool (apply (turn p (process before h) (other q none)) s) q (put_same q none _ q refl))) r z;
  is = refl;
  gives = state_path refl refl (put_back_two p q _ _ _ _ s.processes i (j ∙ same_child)) refl;
}
  where
    same_child : some (new_process first) ≡ some (new_process born)
    same_child =
        let f = told.first p (suffix_top (history_of_lem s p i)) (now j) in
        let one : to_spawn first f.0 ≡ to_spawn born _ = sym f.1 ∙ e in
        let c : first ≡ born = cc in
        ap (λ y. some (new_process y)) c
again told i (undo_alone x) (again_send e) r z = elim x [ ]
again told i (undo_alone x) (again_receive e g) r z = elim x [ ]
again told i (undo_alone x) (again_spawn e below) r z = elim x [ ]
again told i (undo_send f) (again_alone x) r z = elim x [ ]
again told i (undo_receive j) (again_alone x) r z = elim x [ ]
again told i (undo_spawn j n v) (again_alone x) r z = elim x [ ]

pub redo : {s : State} {p n : ℕ} {kind : Kind} {w : Move} → Sound s → Told s → Does s (undoes p n kind) w → Undo (apply w s) s (making_of p kind)
redo {s} sound told (backward {p} {control} {before} {older} {kind} i un) =
    again told i un (told.steps (now i)) (omega (arith, sound.history_fits p, ap length (history_of_lem s p i))) (sound.controls p (process control (entry_with kind before ∷ older)) i).fits
