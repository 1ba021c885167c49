-- Why some demands ask for a state reached from a load: there are sound states where a step just undone cannot be retaken, and where
-- independent steps do not commute.
use Prim.Native.Nat.{ℕ, zero, suc, ◌≤◌}
use mathlib.Core.Path.{◌≡◌, refl, sym, ◌∙◌, ap, subst}
use mathlib.Core.Logic.{◌⊎◌, inl, inr}
use mathlib.Core.Bool.{true, false}
use mathlib.Core.Option.{Option, none, some}
use mathlib.Core.List.{List, [], ◌∷◌, ◌++◌}
use native.Mathlib.Omega.{arith}
use lib.ListN.{length}
use Rattle.lists.specs.Lists.{All}
use Rattle.lists.proofs.Tests.{none_not_some, some_injective, true_not_false}
use Rattle.term.specs.Shape.{control_shape}
use Rattle.term.specs.Control.{keeps_rules, good_control, module_arities}
use Rattle.term.specs.Module.{check_module}
use Rattle.rules.specs.State.{seq, send, spawn, as_send, as_rec, as_spawn, as_check, Entry, Process, State, history_at, entry_at, in_pool}
use Rattle.rules.specs.Flight.{letter_or, sent, also_taken, taken}
use Rattle.rules.specs.Load.{good_sizes, new_process}
use Rattle.rules.specs.Commands.{step, makes, undoes, entry_with, run_state}
use Rattle.rules.specs.Rules.{process, making_of}
use Rattle.rules.specs.Sound.{SoundControl, distinct, Flows, SpawnedBy, Sound}
use Rattle.rules.specs.Independent.{Apart, actor, mailbox, acts_at, if_rec, receiver, spawns_into, unspawns, Unsends, Crossed}
use Rattle.rules.specs.Reverse.{reverse, retake}
use Rattle.demands.specs.Limits.{NotRetaken, NotCommuting}
use Rattle.rules.specs.Opened.{opened}
use Rattle.rules.specs.Cases.{pair}
use Rattle.rules.specs.Standing.{Suffix}
use Rattle.demands.proofs.Histories.{entry_suffix, suffix_cons, no_suffix}

-- the processes of a list stand at the first places
unfoldable placed : List Process → ℕ → Option Process
placed [] p = none
placed (a ∷ others) zero = some a
placed (a ∷ others) (suc p) = placed others p

-- a state in which no message was sent
unfoldable still : ℕ → List Process → State
still places processes = record { module' = pair; sizes = record { places = places; entries = 16; words = 64 }; processes = placed processes; queues = λ p. [] }

-- ---- entries that are no send, no rec and no check
record Plain (e : Entry) : Type 0 where
  no_send : as_send e.kind ≡ none
  no_rec : as_rec e.kind ≡ none
  no_check : as_check e.kind ≡ none

none_sent : (h : List Entry) (k : ℕ) → All Plain h → sent h k ≡ none
unfolding sent letter_or All
none_sent [] k a = refl
none_sent (e ∷ h) k a = rw a.0.no_send (none_sent h k a.1)

none_taken : (h : List Entry) → All Plain h → taken h ≡ []
unfolding taken also_taken All
none_taken [] a = refl
none_taken (e ∷ h) a = rw a.0.no_rec (none_taken h a.1)

none_flows : (h : List Entry) → All Plain h → Flows h []
unfolding Flows All
none_flows [] a = tt
none_flows (e ∷ h) a = rw (Flows, a.0.no_rec) (none_flows h a.1)

plain_at : {e : Entry} {g h : List Entry} → All Plain h → Suffix (e ∷ g) h → Plain e
unfolding All
plain_at a Suffix.whole = a.0
plain_at a (Suffix.older st) = plain_at a.1 st

-- what is left to show of such a state
record StillSound (s : State) : Type 0 where
  queues_empty : (p : ℕ) → s.queues p ≡ []
  plain : (p : ℕ) → All Plain (history_at s p)
  sizes_pass : good_sizes s.sizes ≡ true
  module_passes : check_module s.module' ≡ none
  place_0 : in_pool s 0 ≡ true
  pool_ends : (p : ℕ) → s.sizes.places ≤ p → in_pool s p ≡ false
  history_fits : (p : ℕ) → length (history_at s p) ≤ s.sizes.entries
  controls : (p : ℕ) (process : Process) → s.processes p ≡ some process → SoundControl s process.control
  controls_before : (p i : ℕ) (e : Entry) → entry_at (history_at s p) i ≡ some e → SoundControl s e.before
  born : (q : ℕ) → in_pool s q ≡ true → ¬ (q ≡ 0) → (p : ℕ) × (i : ℕ) × SpawnedBy s q p i
  born_once : (q p i p' i' : ℕ) → SpawnedBy s q p i → SpawnedBy s q p' i' → (p ≡ p') × (i ≡ i')
  place_0_unborn : (p i : ℕ) → ¬ SpawnedBy s 0 p i
  children_in_pool : (q p i : ℕ) → SpawnedBy s q p i → in_pool s q ≡ true

still_sound : {s : State} → StillSound s → Sound s
unfolding distinct All
still_sound {s} r = record {
  sizes_pass = r.sizes_pass;
  module_passes = r.module_passes;
  place_0 = r.place_0;
  pool_ends = r.pool_ends;
  no_queue_elsewhere = λ p n. r.queues_empty p;
  history_fits = r.history_fits;
  controls = r.controls;
  controls_before = r.controls_before;
  check_numbers = λ p i number e stands is. none_not_some (sym (plain_entry p i stands).no_check ∙ is);
  sends_said = λ p i target value e stands is. none_not_some (sym (plain_entry p i stands).no_send ∙ is);
  born = r.born;
  born_once = r.born_once;
  place_0_unborn = r.place_0_unborn;
  children_in_pool = r.children_in_pool;
  targets_in_pool = λ p k target value e. none_not_some (sym (none_sent (history_at s p) k (r.plain p)) ∙ e);
  once = λ t. ap distinct (no_messages t);
  nothing_else = λ t. rw (no_messages t) tt;
  prefixes = λ p. rw (r.queues_empty p) (none_flows (history_at s p) (r.plain p));
}
  where
    no_messages : (t : ℕ) → s.queues t ++ taken (history_at s t) ≡ []
    no_messages t = rw (r.queues_empty t) (none_taken (history_at s t) (r.plain t))

    plain_entry : {e : Entry} (p i : ℕ) → entry_at (history_at s p) i ≡ some e → Plain e
    plain_entry p i stands = let (g, st, n) = entry_suffix (history_at s p) i stands in plain_at (r.plain p) st

-- ---- a step that cannot be retaken
-- a value that says it was made by a step from another value, which steps nowhere
stale : State
unfolding still
stale = still 1 (process (0x02000001 ∷ []) (entry_with seq (0x02000005 ∷ []) ∷ []) ∷ [])

stale_entry : {e : Entry} (p i : ℕ) → entry_at (history_at stale p) i ≡ some e → e ≡ entry_with seq (0x02000005 ∷ [])
unfolding stale still placed opened
stale_entry {e} zero i stands = let (g, st, n) = entry_suffix (history_at stale 0) i stands in elim (suffix_cons st) [ inl x ↦ x.0 | inr x ↦ no_suffix x refl ]
stale_entry {e} (suc p) i stands = none_not_some stands

no_spawn : {B : Type 0} (q p i : ℕ) → SpawnedBy stale q p i → B
unfolding as_spawn
no_spawn q p i b = none_not_some (ap (λ e. as_spawn e.kind) (sym (stale_entry p i b.stands)) ∙ b.spawns)

stale_sound : Sound stale
unfolding stale still placed opened All good_control keeps_rules module_arities control_shape
stale_sound = still_sound (record {
  queues_empty = λ p. refl;
  plain = plain;
  sizes_pass = refl;
  module_passes = refl;
  place_0 = refl;
  pool_ends = pool_ends;
  history_fits = fits;
  controls = controls;
  controls_before = λ p i e stands. rw (stale_entry p i stands) (record { good = refl; fits = omega arith });
  born = born;
  born_once = λ q p i p' i' b b'. no_spawn q p i b;
  place_0_unborn = λ p i b. no_spawn 0 p i b;
  children_in_pool = λ q p i b. no_spawn q p i b;
})
  where
    plain : (p : ℕ) → All Plain (history_at stale p)
    plain zero = (record { no_send = refl; no_rec = refl; no_check = refl }, tt)
    plain (suc p) = tt

    pool_ends : (p : ℕ) → 1 ≤ p → in_pool stale p ≡ false
    pool_ends zero h = absurd (omega arith)
    pool_ends (suc p) h = refl

    fits : (p : ℕ) → length (history_at stale p) ≤ 16
    fits zero = omega arith
    fits (suc p) = omega arith

    controls : (p : ℕ) (a : Process) → stale.processes p ≡ some a → SoundControl stale a.control
    controls zero a e = rw (← some_injective e) (record { good = refl; fits = omega arith })
    controls (suc p) a e = none_not_some e

    born : (q : ℕ) → in_pool stale q ≡ true → ¬ (q ≡ 0) → (p : ℕ) × (i : ℕ) × SpawnedBy stale q p i
    born zero live n = absurd (n refl)
    born (suc q) live n = true_not_false live refl

pub not_retaken : NotRetaken
unfolding stale still placed opened reverse retake making_of
not_retaken = record { state = stale; sound = stale_sound; after = _; undone = refl; refused = refl }

-- ---- independent steps that do not commute
-- 0 has spawned 2 and then 1; 2, which nobody told of 1, is about to send to it
abbrev atom5 : List ℕ
atom5 = 0x02000005 ∷ []

stranger : State
unfolding still
stranger = still 3 (process (0x02000001 ∷ []) (entry_with (spawn 1) atom5 ∷ entry_with (spawn 2) atom5 ∷ []) ∷ new_process atom5 ∷ new_process (0x0E020000 ∷ 0x04000001 ∷ 0x02000005 ∷ []) ∷ [])

-- its entries are the two spawns of 0
record Spawn (p i q : ℕ) (e : Entry) : Type 0 where
  at_0 : p ≡ 0
  is : e ≡ entry_with (spawn q) atom5
  which : ((q ≡ 1) × (i ≡ 1)) ⊎ ((q ≡ 2) × (i ≡ 0))

stranger_entry : {e : Entry} (p i : ℕ) → entry_at (history_at stranger p) i ≡ some e → (q : ℕ) × Spawn p i q e
unfolding stranger still placed opened
stranger_entry {e} zero i stands = let (g, st, n) = entry_suffix (history_at stranger 0) i stands in go g n (suffix_cons st)
  where
    go : (g : List Entry) → length g ≡ i → ((e ≡ entry_with (spawn 1) atom5) × (g ≡ entry_with (spawn 2) atom5 ∷ [])) ⊎ Suffix (e ∷ g) (entry_with (spawn 2) atom5 ∷ []) → (q : ℕ) × Spawn 0 i q e
    go g n (inl x) = (1, record { at_0 = refl; is = x.0; which = inl (refl, sym n ∙ ap length x.1) })
    go g n (inr st) = elim (suffix_cons st) [ inl x ↦ (2, record { at_0 = refl; is = x.0; which = inr (refl, sym n ∙ ap length x.1) }) | inr x ↦ no_suffix x refl ]
stranger_entry {e} (suc zero) i stands = none_not_some stands
stranger_entry {e} (suc (suc zero)) i stands = none_not_some stands
stranger_entry {e} (suc (suc (suc p))) i stands = none_not_some stands

-- so a spawn of q is that of 1 or that of 2
stranger_spawn : (q p i : ℕ) → SpawnedBy stranger q p i → (p ≡ 0) × (((q ≡ 1) × (i ≡ 1)) ⊎ ((q ≡ 2) × (i ≡ 0)))
unfolding as_spawn
stranger_spawn q p i b =
    let (r, x) = stranger_entry p i b.stands in
    let same : q ≡ r = some_injective (sym b.spawns ∙ ap (λ e. as_spawn e.kind) x.is) in
    (x.at_0, subst (λ y. ((y ≡ 1) × (i ≡ 1)) ⊎ ((y ≡ 2) × (i ≡ 0))) (sym same) x.which)

stranger_sound : Sound stranger
unfolding stranger still placed opened All good_control keeps_rules module_arities control_shape
stranger_sound = still_sound (record {
  queues_empty = λ p. refl;
  plain = plain;
  sizes_pass = refl;
  module_passes = refl;
  place_0 = refl;
  pool_ends = pool_ends;
  history_fits = fits;
  controls = controls;
  controls_before = λ p i e stands. let (q, x) = stranger_entry p i stands in rw x.is (record { good = refl; fits = omega arith });
  born = born;
  born_once = λ q p i p' i' b b'. once q p i p' i' (stranger_spawn q p i b) (stranger_spawn q p' i' b');
  place_0_unborn = λ p i b. unborn 0 i refl (stranger_spawn 0 p i b).1;
  children_in_pool = λ q p i b. children q i (stranger_spawn q p i b).1;
})
  where
    plain : (p : ℕ) → All Plain (history_at stranger p)
    plain zero = (record { no_send = refl; no_rec = refl; no_check = refl }, (record { no_send = refl; no_rec = refl; no_check = refl }, tt))
    plain (suc zero) = tt
    plain (suc (suc zero)) = tt
    plain (suc (suc (suc p))) = tt

    pool_ends : (p : ℕ) → 3 ≤ p → in_pool stranger p ≡ false
    pool_ends zero h = absurd (omega arith)
    pool_ends (suc zero) h = absurd (omega arith)
    pool_ends (suc (suc zero)) h = absurd (omega arith)
    pool_ends (suc (suc (suc p))) h = refl

    fits : (p : ℕ) → length (history_at stranger p) ≤ 16
    fits zero = omega arith
    fits (suc zero) = omega arith
    fits (suc (suc zero)) = omega arith
    fits (suc (suc (suc p))) = omega arith

    controls : (p : ℕ) (a : Process) → stranger.processes p ≡ some a → SoundControl stranger a.control
    controls zero a e = rw (← some_injective e) (record { good = refl; fits = omega arith })
    controls (suc zero) a e = rw (← some_injective e) (record { good = refl; fits = omega arith })
    controls (suc (suc zero)) a e = rw (← some_injective e) (record { good = refl; fits = omega arith })
    controls (suc (suc (suc p))) a e = none_not_some e

    born : (q : ℕ) → in_pool stranger q ≡ true → ¬ (q ≡ 0) → (p : ℕ) × (i : ℕ) × SpawnedBy stranger q p i
    born zero live n = absurd (n refl)
    born (suc zero) live n = (0, 1, record { entry = entry_with (spawn 1) atom5; stands = refl; spawns = refl })
    born (suc (suc zero)) live n = (0, 0, record { entry = entry_with (spawn 2) atom5; stands = refl; spawns = refl })
    born (suc (suc (suc q))) live n = true_not_false live refl

    once : (q p i p' i' : ℕ) → (p ≡ 0) × (((q ≡ 1) × (i ≡ 1)) ⊎ ((q ≡ 2) × (i ≡ 0))) → (p' ≡ 0) × (((q ≡ 1) × (i' ≡ 1)) ⊎ ((q ≡ 2) × (i' ≡ 0))) → (p ≡ p') × (i ≡ i')
    once q p i p' i' (a, inl x) (b, inl y) = (a ∙ sym b, x.1 ∙ sym y.1)
    once q p i p' i' (a, inl x) (b, inr y) = absurd (omega (arith, x.0, y.0))
    once q p i p' i' (a, inr x) (b, inl y) = absurd (omega (arith, x.0, y.0))
    once q p i p' i' (a, inr x) (b, inr y) = (a ∙ sym b, x.1 ∙ sym y.1)

    unborn : (q i : ℕ) → q ≡ 0 → ((q ≡ 1) × (i ≡ 1)) ⊎ ((q ≡ 2) × (i ≡ 0)) → ⊥
    unborn q i z (inl x) = omega (arith, z, x.0)
    unborn q i z (inr x) = omega (arith, z, x.0)

    children : (q i : ℕ) → ((q ≡ 1) × (i ≡ 1)) ⊎ ((q ≡ 2) × (i ≡ 0)) → in_pool stranger q ≡ true
    children q i (inl x) = rw x.0 refl
    children q i (inr x) = rw x.0 refl

pub not_commuting : NotCommuting
unfolding stranger still placed opened Apart actor mailbox acts_at if_rec receiver spawns_into unspawns Unsends Crossed
not_commuting = record {
  state = stranger;
  sound = stranger_sound;
  independent = record {
    deed = undoes 0 0 (spawn 1);
    deed' = makes 2 (send 1 atom5);
    move = _;
    move' = _;
    accepted = refl;
    accepted' = refl;
    apart = record {
      actors = λ e. omega (arith, e);
      mailboxes = tt;
      mail_receive = tt;
      receive_mail = tt;
      unspawn_acts = λ e. omega (arith, e);
      acts_unspawn = tt;
      delivery_unsend = λ x. x;
      unsend_delivery = λ x. x;
      spawns = tt;
    };
  };
  do_not_commute = λ c.
      let same = some_injective (sym c.t_first ∙ refl) in
      none_not_some (ap (run_state (step 2)) (sym same) ∙ c.then_u);
}
