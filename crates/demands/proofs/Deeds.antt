-- What a deed says of the state: a spawn that is made or undone, a send that is made.
use Prim.Native.Nat.{ℕ, ◌<◌}
use mathlib.Core.Path.{◌≡◌, refl, sym, ◌∙◌, ap}
use mathlib.Core.Logic.{◌≢◌}
use mathlib.Core.Bool.{true, false}
use mathlib.Core.Option.{Option, none, some}
use mathlib.Core.List.{List, [], ◌∷◌}
use native.Mathlib.Omega.{arith}
use Rattle.lists.proofs.Tables.{put_same, put_other}
use Rattle.lists.proofs.Tests.{true_not_false, none_not_some, some_injective}
use Rattle.machine.specs.Work.{to_send, to_spawn, work}
use Rattle.rules.specs.State.{Letter, letter, spawn, as_send, as_spawn, Entry, Process, State, history_of, history_at, in_pool}
use Rattle.rules.specs.Flight.{sends}
use Rattle.rules.specs.Load.{new_process}
use Rattle.rules.specs.Commands.{Deed, makes, undoes, delivers, undelivers, Move, set_process, set_queue, set_beside, apply, entry_with}
use Rattle.rules.specs.Rules.{process, InFlight}
use Rattle.rules.specs.Independent.{actor, spawns_into, unspawns}
use Rattle.demands.proofs.Does.{alone, by_send, by_receive, by_spawn, undo_alone, undo_send, undo_receive, undo_spawn, Does, forward, backward, sched, unsched}
use Rattle.demands.proofs.Views.{made_alone, alone_send, alone_spawn}
use Rattle.demands.proofs.Frame.{in_pool_lem}

-- the place that a step sends to
unfoldable pub target_of : Option Letter → Option ℕ
target_of none = none
target_of (some (letter t v)) = some t

unfoldable pub target : Deed → Option ℕ
target (makes p kind) = target_of (as_send kind)
target (undoes p count kind) = none
target (delivers s k t) = none
target (undelivers t) = none

pub process_history : {a b : List ℕ} {g h : List Entry} → ◌≡◌ {A = Option Process} (some (process a g)) (some (process b h)) → g ≡ h
process_history e = ap (λ x. x.history) (some_injective e)

pub process_control : {a b : List ℕ} {g h : List Entry} → ◌≡◌ {A = Option Process} (some (process a g)) (some (process b h)) → a ≡ b
process_control e = ap (λ x. x.control) (some_injective e)

-- p's newest entry is an entry and q's history is empty, so they are not one
pub new_is_other : (s : State) {p q : ℕ} {control first : List ℕ} {e : Entry} {h : List Entry} → s.processes p ≡ some (process control (e ∷ h)) → s.processes q ≡ some (new_process first) → q ≢ p
new_is_other s {p} {q} {control} {first} {e} {h} i j z =
    let no_entries : [] ≡ e ∷ h = process_history (sym j ∙ ap s.processes z ∙ i) in
    let o : ◌≡◌ {A = ℕ} 0 1 = cc in
    omega arith

-- d undoes the spawn of q
pub record Unspawning (s after : State) (d : Deed) (q : ℕ) : Type 0 where
  pub at : ℕ
  pub before : List ℕ
  pub rest : List Entry
  pub first : List ℕ
  pub acts : actor d ≡ some at
  pub is : d ≡ undoes at (sends rest) (spawn q)
  pub top : history_at s at ≡ entry_with (spawn q) before ∷ rest
  pub new : s.processes q ≡ some (new_process first)
  pub empty : s.queues q ≡ []
  pub empty_after : after.queues q ≡ []
  pub quiet : (sender k : ℕ) (value : List ℕ) → ¬ InFlight s sender k q value
  pub left : history_at after at ≡ rest
  pub gone : after.processes q ≡ none

pub unspawning : {s : State} {d : Deed} {w : Move} {x : ℕ} → Does s d w → unspawns d ≡ some x → Unspawning s (apply w s) d x
unfolding apply set_beside set_process set_queue unspawns as_spawn actor history_at history_of
unspawning (forward _ _ _ _) e = none_not_some e
unspawning (backward _ (undo_alone a)) e = none_not_some (sym (alone_spawn a) ∙ e)
unspawning (backward _ (undo_send _)) e = none_not_some e
unspawning (backward _ (undo_receive _)) e = none_not_some e
unspawning {s} {x} (backward {p} {before} {older} i (undo_spawn {q} {first} j empty quiet)) e = let z = some_injective e in record {
  at = p;
  before = before;
  rest = older;
  first = first;
  acts = refl;
  is = cc;
  top = ap history_of i ∙ cc;
  new = ap s.processes (sym z) ∙ j;
  empty = ap s.queues (sym z) ∙ empty;
  empty_after = ap s.queues (sym z) ∙ empty;
  quiet = rw (← z) quiet;
  left = ap history_of (put_other q none _ p (new_is_other s i j) ∙ put_same p (some (process before older)) s.processes p refl);
  gone = put_same q none _ x z;
}
unspawning (sched _ _) e = none_not_some e
unspawning (unsched _ _ _ _) e = none_not_some e

-- d spawns into q
pub record Spawning (s after : State) (d : Deed) (q : ℕ) : Type 0 where
  pub at : ℕ
  pub control : List ℕ
  pub rest : List Entry
  pub child : List ℕ
  pub next : ℕ → List ℕ
  pub is : d ≡ makes at (spawn q)
  pub has : s.processes at ≡ some (process control rest)
  pub about : work s.module' control ≡ to_spawn child next
  pub free : in_pool s q ≡ false
  pub place : q < s.sizes.places
  pub top : history_at after at ≡ entry_with (spawn q) control ∷ rest
  pub new : after.processes q ≡ some (new_process child)

pub spawning : {s : State} {d : Deed} {w : Move} {x : ℕ} → Does s d w → spawns_into d ≡ some x → Spawning s (apply w s) d x
unfolding apply set_beside set_process set_queue spawns_into as_spawn history_at history_of
spawning (forward _ (alone j) _ _) e = none_not_some (sym (alone_spawn (made_alone j)) ∙ e)
spawning (forward _ (by_send _ _) _ _) e = none_not_some e
spawning (forward _ (by_receive _ _) _ _) e = none_not_some e
spawning {s} {x} (forward {p} {control} {history} i (by_spawn {child} {next} {f} about below free) _ _) e = let z = some_injective e in record {
  at = p;
  control = control;
  rest = history;
  child = child;
  next = next;
  is = cc;
  has = i;
  about = about;
  free = ap (in_pool s) (sym z) ∙ free;
  place = rw (← z) below;
  top = ap history_of (put_other f (some (new_process child)) _ p (λ y. true_not_false (in_pool_lem s p i) (ap (in_pool s) (sym y) ∙ free)) ∙ put_same p _ s.processes p refl) ∙ cc;
  new = put_same f (some (new_process child)) _ x z;
}
spawning (backward _ _) e = none_not_some e
spawning (sched _ _) e = none_not_some e
spawning (unsched _ _ _ _) e = none_not_some e

-- d sends to t
pub record Sending (s : State) (d : Deed) (t : ℕ) : Type 0 where
  pub at : ℕ
  pub control : List ℕ
  pub next : List ℕ
  pub value : List ℕ
  pub rest : List Entry
  pub acts : actor d ≡ some at
  pub has : s.processes at ≡ some (process control rest)
  pub about : work s.module' control ≡ to_send t value next
  pub live : in_pool s t ≡ true

pub sending : {s : State} {d : Deed} {w : Move} {x : ℕ} → Does s d w → target d ≡ some x → Sending s d x
unfolding target target_of as_send actor
sending (forward _ (alone j) _ _) e = none_not_some (ap target_of (sym (alone_send (made_alone j))) ∙ e)
sending {s} (forward {p} {control} {history} i (by_send {value} {next} j live) _ _) e = record {
  at = p;
  control = control;
  next = next;
  value = value;
  rest = history;
  acts = refl;
  has = i;
  about = j ∙ cc;
  live = ap (in_pool s) (sym (some_injective e)) ∙ live;
}
sending (forward _ (by_receive _ _) _ _) e = none_not_some e
sending (forward _ (by_spawn _ _ _) _ _) e = none_not_some e
sending (backward _ _) e = none_not_some e
sending (sched _ _) e = none_not_some e
sending (unsched _ _ _ _) e = none_not_some e
