-- A sound state that no load reaches, whose rollback is held: a process has received a message before it sent it. So the answer 13 is one
-- of sound states, and it needs the reaching from a load that it never comes.
use Prim.Native.Nat.{ℕ, ◌≤◌}
use mathlib.Core.Path.{◌≡◌, refl, sym, ◌∙◌, ap, subst}
use mathlib.Core.Logic.{◌⊎◌, inl, inr}
use mathlib.Core.Bool.{true}
use mathlib.Core.Option.{none, some}
use mathlib.Core.List.{List, [], ◌∷◌, ◌++◌}
use native.Mathlib.Decide.{ℕ_discrete}
use native.Mathlib.Omega.{arith}
use lib.ListN.{length}
use Rattle.lists.specs.Lists.{All}
use Rattle.lists.proofs.Tables.{put_same, put_other}
use Rattle.lists.proofs.Tests.{true_not_false, none_not_some, some_injective}
use Rattle.term.specs.Module.{check_module}
use Rattle.term.specs.Shape.{control_shape}
use Rattle.term.specs.Control.{good_control, keeps_rules}
use Rattle.rules.specs.Answers.{held}
use Rattle.rules.specs.State.{letter, send, rec, check, as_send, as_rec, as_spawn, as_check, Entry, Process, history_of, history_at, entry_at, in_pool}
use Rattle.rules.specs.Flight.{taken}
use Rattle.rules.specs.Load.{good_sizes}
use Rattle.rules.specs.Commands.{entry_with}
use Rattle.rules.specs.Sound.{SoundControl, AboutToSend, distinct, SentTo, Flows, Sound}
use Rattle.rules.specs.Opened.{opened}
use Rattle.rules.specs.RollbackCases.{some_atom, send_to, message0, received_first, held_received}
use Rattle.rules.specs.Rollback.{Rollback, rolled_number, rolled_count, rolled_state}
use Rattle.demands.specs.Demands.{Reachable}
use Rattle.rules.specs.Standing.{Suffix}
use Rattle.demands.proofs.Demands.{demand2}
use Rattle.demands.proofs.Histories.{entry_suffix, sent_suffix, suffix_cons, no_suffix}
use Rattle.demands.proofs.Messages.{any_none, of_once}
use Rattle.demands.proofs.Arrival.{taken_nil, nil_flows}
use Rattle.demands.proofs.RollbackDemands.{rollback_demands}
use Rattle.demands.proofs.Frame.{in_pool_lem, not_in_pool}

abbrev sending : Entry
sending = entry_with (send 0 some_atom) (send_to 0x04000000)

abbrev receiving : Entry
receiving = entry_with (rec [] message0 []) some_atom

abbrev checking : Entry
checking = entry_with (check 7) some_atom

-- place 0 is the only one, with the three entries
elsewhere : (p : ℕ) → ¬ (0 ≡ p) → received_first.processes p ≡ none
elsewhere p n = put_other 0 _ (λ p. none) p n

history_elsewhere : (p : ℕ) → ¬ (0 ≡ p) → history_at received_first p ≡ []
unfolding history_at history_of
history_elsewhere p n = ap history_of (elsewhere p n)

history_there : (p : ℕ) → 0 ≡ p → history_at received_first p ≡ sending ∷ receiving ∷ checking ∷ []
unfolding history_at history_of
history_there p e = ap history_of (put_same 0 _ (λ p. none) p e)

-- one of the three
data Among (e : Entry) : Type 0 where
  is_send : e ≡ sending → Among e
  is_rec : e ≡ receiving → Among e
  is_check : e ≡ checking → Among e

stands_among : {e : Entry} {g : List Entry} (p : ℕ) → Suffix (e ∷ g) (history_at received_first p) → Among e
stands_among {e} {g} p st = elim (ℕ_discrete 0 p) [ yes z ↦ go (subst (Suffix (e ∷ g)) (history_there p z) st) | no n ↦ no_suffix st (history_elsewhere p n) ]
  where
    go : Suffix (e ∷ g) (sending ∷ receiving ∷ checking ∷ []) → Among e
    go st = elim (suffix_cons st) [
      | inl z ↦ is_send z.0
      | inr st ↦ elim (suffix_cons st) [ inl z ↦ is_rec z.0 | inr st ↦ elim (suffix_cons st) [ inl z ↦ is_check z.0 | inr st ↦ no_suffix st refl ] ]
    ]

entry_among : {e : Entry} (p i : ℕ) → entry_at (history_at received_first p) i ≡ some e → Among e
entry_among p i e = let (g, st, n) = entry_suffix (history_at received_first p) i e in stands_among p st

-- none of them is a spawn, and one is a send
no_spawn : {e : Entry} {q : ℕ} {B : Type 0} → Among e → as_spawn e.kind ≡ some q → B
unfolding as_spawn
no_spawn (is_send i) s = none_not_some (ap (λ e. as_spawn e.kind) (sym i) ∙ s)
no_spawn (is_rec i) s = none_not_some (ap (λ e. as_spawn e.kind) (sym i) ∙ s)
no_spawn (is_check i) s = none_not_some (ap (λ e. as_spawn e.kind) (sym i) ∙ s)

the_send : {e : Entry} {t : ℕ} {v : List ℕ} → Among e → as_send e.kind ≡ some (letter t v) → (e ≡ sending) × (0 ≡ t) × (some_atom ≡ v)
unfolding as_send
the_send (is_send i) s = let z = some_injective (ap (λ e. as_send e.kind) (sym i) ∙ s) in (i, cc, cc)
the_send (is_rec i) s = none_not_some (ap (λ e. as_send e.kind) (sym i) ∙ s)
the_send (is_check i) s = none_not_some (ap (λ e. as_send e.kind) (sym i) ∙ s)

the_check : {e : Entry} {number : ℕ} → Among e → as_check e.kind ≡ some number → number ≤ 255
unfolding as_check
the_check (is_send i) s = none_not_some (ap (λ e. as_check e.kind) (sym i) ∙ s)
the_check (is_rec i) s = none_not_some (ap (λ e. as_check e.kind) (sym i) ∙ s)
the_check (is_check i) s = let z = some_injective (ap (λ e. as_check e.kind) (sym i) ∙ s) in omega arith

only_place : (p : ℕ) → in_pool received_first p ≡ true → 0 ≡ p
only_place p e = elim (ℕ_discrete 0 p) [ yes z ↦ z | no n ↦ true_not_false e (not_in_pool received_first p (elsewhere p n)) ]

-- its controls are sound
atom_sound : SoundControl received_first some_atom
unfolding opened good_control keeps_rules control_shape
atom_sound = record { good = refl; fits = omega arith }

send_sound : SoundControl received_first (send_to 0x04000000)
unfolding opened good_control keeps_rules control_shape
send_sound = record { good = refl; fits = omega arith }

now_sound : SoundControl received_first (0x02000001 ∷ [])
unfolding opened good_control keeps_rules control_shape
now_sound = record { good = refl; fits = omega arith }

before_sound : {e : Entry} → Among e → SoundControl received_first e.before
before_sound (is_send i) = subst (λ e. SoundControl received_first e.before) (sym i) send_sound
before_sound (is_rec i) = subst (λ e. SoundControl received_first e.before) (sym i) atom_sound
before_sound (is_check i) = subst (λ e. SoundControl received_first e.before) (sym i) atom_sound

about_to_send : AboutToSend received_first (send_to 0x04000000) 0 some_atom
unfolding opened
about_to_send = record { next = some_atom; sends = refl }

-- its messages
taken_there : taken (sending ∷ receiving ∷ checking ∷ []) ≡ message0 ∷ []
unfolding opened
taken_there = refl

taken_of : (t : ℕ) → ((0 ≡ t) × (taken (history_at received_first t) ≡ message0 ∷ [])) ⊎ (taken (history_at received_first t) ≡ [])
taken_of t = elim (ℕ_discrete 0 t) [ yes z ↦ inl (z, ap taken (history_there t z) ∙ taken_there) | no n ↦ inr (ap taken (history_elsewhere t n) ∙ taken_nil) ]

once_there : (t : ℕ) → distinct (received_first.queues t ++ taken (history_at received_first t)) ≡ true
once_there t = elim (taken_of t) [ inl z ↦ ap distinct z.1 ∙ one | inr z ↦ ap distinct z ∙ zero_of ]
  where
    one : distinct (message0 ∷ []) ≡ true
    one = of_once (message0 ∷ []) (λ x. any_none x refl, tt)

    zero_of : distinct [] ≡ true
    zero_of = of_once [] tt

message_sent : SentTo received_first 0 message0
unfolding opened SentTo
message_sent = refl

all_sent : (t : ℕ) → All (SentTo received_first t) (received_first.queues t ++ taken (history_at received_first t))
unfolding All
all_sent t = elim (taken_of t) [
  | inl z ↦ subst (All (SentTo received_first t)) (sym z.1) (subst (λ t. SentTo received_first t message0) z.0 message_sent, tt)
  | inr z ↦ subst (All (SentTo received_first t)) (sym z) tt
]

flows_there : Flows (sending ∷ receiving ∷ checking ∷ []) []
unfolding Flows as_rec
flows_there = (record { others = []; whole = refl }, tt)

flows_all : (p : ℕ) → Flows (history_at received_first p) []
flows_all p = elim (ℕ_discrete 0 p) [
  | yes z ↦ subst (λ h. Flows h []) (sym (history_there p z)) flows_there
  | no n ↦ subst (λ h. Flows h []) (sym (history_elsewhere p n)) (nil_flows [])
]

history_short : (p : ℕ) → length (history_at received_first p) ≤ 16
history_short p = elim (ℕ_discrete 0 p) [ yes z ↦ omega (arith, ap length (history_there p z)) | no n ↦ omega (arith, ap length (history_elsewhere p n)) ]

control_is : (p : ℕ) (process : Process) → received_first.processes p ≡ some process → process.control ≡ 0x02000001 ∷ []
control_is p process e = elim (ℕ_discrete 0 p) [
  | yes z ↦ sym (ap (λ a. a.control) (some_injective (sym (put_same 0 _ (λ p. none) p z) ∙ e)))
  | no n ↦ none_not_some (sym (elsewhere p n) ∙ e)
]

sizes_right : good_sizes received_first.sizes ≡ true
unfolding opened
sizes_right = refl

module_right : check_module received_first.module' ≡ none
unfolding opened check_module
module_right = refl

pub received_first_sound : Sound received_first
received_first_sound = record {
  sizes_pass = sizes_right;
  module_passes = module_right;
  place_0 = in_pool_lem received_first 0 (put_same 0 _ (λ p. none) 0 refl);
  pool_ends = λ p h. not_in_pool received_first p (elsewhere p (λ e. omega arith));
  no_queue_elsewhere = λ p h. refl;
  history_fits = history_short;
  controls = λ p process e. subst (SoundControl received_first) (sym (control_is p process e)) now_sound;
  controls_before = λ p i e stands. before_sound (entry_among p i stands);
  check_numbers = λ p i number e stands is. the_check (entry_among p i stands) is;
  sends_said = λ p i target value e stands is.
      let (a, b, c) = the_send (entry_among p i stands) is in
      subst (λ control. AboutToSend received_first control target value) (sym (ap (λ e. e.before) a)) (subst (λ v. AboutToSend received_first (send_to 0x04000000) target v) c (subst (λ t. AboutToSend received_first (send_to 0x04000000) t some_atom) b about_to_send));
  born = λ q live n. absurd (n (sym (only_place q live)));
  born_once = λ q p i p' i' b b'. no_spawn (entry_among p i b.stands) b.spawns;
  place_0_unborn = λ p i b. no_spawn (entry_among p i b.stands) b.spawns;
  children_in_pool = λ q p i b. no_spawn (entry_among p i b.stands) b.spawns;
  targets_in_pool = λ p k target value e.
      let r = sent_suffix (history_at received_first p) k e in
      let (a, b, c) = the_send (stands_among p r.stands) r.sends_it in
      subst (λ t. in_pool received_first t ≡ true) b (in_pool_lem received_first 0 (put_same 0 _ (λ p. none) 0 refl));
  once = once_there;
  nothing_else = all_sent;
  prefixes = flows_all;
}

-- so 13 is its answer, and no load reaches it
pub received_first_held : Rollback received_first 0 7 held 0 received_first
unfolding rolled_number rolled_count rolled_state
received_first_held = subst (λ r. Rollback received_first 0 7 (rolled_number r) (rolled_count r) (rolled_state received_first r)) held_received (demand2.rollback_allowed received_first 0 7 received_first_sound)

pub received_first_unreached : ¬ Reachable received_first
received_first_unreached r = rollback_demands.never.never received_first received_first 0 7 0 r received_first_held
