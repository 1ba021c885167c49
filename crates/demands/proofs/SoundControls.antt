-- The controls and entries of a sound state stay sound, by the laws of one process step.
use Prim.Native.Nat.{ℕ, ◌<◌, ◌≤◌}
use mathlib.Core.Path.{◌≡◌, refl, sym, ◌∙◌, ap, subst}
use mathlib.Core.Logic.{inl, inr}
use mathlib.Core.Bool.{true}
use mathlib.Core.Option.{some}
use mathlib.Core.List.{List}
use native.Mathlib.Decide.{dec_lt}
use native.Mathlib.Omega.{arith}
use lib.ListN.{length}
use Rattle.lists.proofs.Tests.{true_not_false, none_not_some, some_injective}
use Rattle.term.specs.Control.{good_control, module_arities}
use Rattle.machine.specs.Work.{work}
use Rattle.machine.specs.Laws.{Good, GoodValue, WorkLaws}
use Rattle.rules.specs.State.{Message, letter, Kind, as_send, as_check, Entry, Process, State, history_at, entry_at}
use Rattle.rules.specs.Commands.{Deed, Beside, Move, apply, entry_with}
use Rattle.rules.specs.Rules.{process}
use Rattle.rules.specs.Sound.{SoundControl, AboutToSend, SentTo, Sound}
use Rattle.rules.proofs.Oldest.{pick_is, pick_takes}
use Rattle.demands.proofs.Does.{by_seq, by_self, by_check, Makes, alone, by_send, by_receive, by_spawn, Does}
use Rattle.demands.proofs.Views.{made_alone, alone_send}
use Rattle.demands.proofs.Messages.{Is, any_middle}
use Rattle.demands.proofs.Histories.{suffix_entry, entry_suffix, sent_suffix}
use Rattle.demands.proofs.Frame.{turned, same_module, same_sizes, in_pool_lem}
use Rattle.demands.proofs.Questions.{Among}
use Rattle.demands.proofs.Positions.{suffix_was, Had, now, past, Fresh, made, child, had_was}
use Rattle.demands.proofs.SoundFacts.{mail}

-- the laws of one process step, in the state's module
abbrev pub LawsAt : State → Type 0
LawsAt s = WorkLaws s.module' s.sizes.places

pub laws_after : (s : State) (w : Move) → LawsAt s → LawsAt (apply w s)
laws_after s w laws = subst (λ places. WorkLaws (apply w s).module' places.places) (sym (same_sizes w s)) (subst (λ module'. WorkLaws module' s.sizes.places) (sym (same_module w s)) laws)

module _ {s : State} (laws : LawsAt s) (sound : Sound s) where
  abbrev GoodHere : List ℕ → Type 0
  GoodHere = Good s.module' s.sizes.places

  pub had_sound : {x : ℕ} {control : List ℕ} {g : List Entry} → Had s x control g → SoundControl s control
  had_sound {x} {control} {g} (now i) = sound.controls x (process control g) i
  had_sound {x} {control} {g} (past {kind} st) = sound.controls_before x (length g) (entry_with kind control) (suffix_entry st)

  pub had_good : {x : ℕ} {control : List ℕ} {g : List Entry} → Had s x control g → Good s.module' s.sizes.places control
  unfolding Good
  had_good h = (had_sound h).good

  -- a process is at a place below P
  pub place_below : {x : ℕ} {a : Process} → s.processes x ≡ some a → x < s.sizes.places
  place_below {x} i = elim (dec_lt x s.sizes.places) [ yes h ↦ h | no h ↦ true_not_false (in_pool_lem s x i) (sound.pool_ends x (omega arith)) ]

  -- the value of a message that was sent is one value
  pub sent_value : {m : Message} (t : ℕ) → Among (Is m) s t → GoodValue s.module' s.sizes.places m.value
  unfolding SentTo
  sent_value {m} t am =
      let r = sent_suffix (history_at s m.sender) m.count (mail sound t am) in
      let said = sound.sends_said m.sender (length r.before) t m.value r.entry (suffix_entry r.stands) r.sends_it in
      (laws.send (had_good (past r.stands)) said.sends).good_value

  made_good : {x : ℕ} {before next : List ℕ} {kind : Kind} {beside : Beside} {h : List Entry} → s.processes x ≡ some (process before h) → Makes s x before kind next beside → GoodHere next
  made_good i (alone (by_seq e)) = (laws.seq (had_good (now i)) e).good
  made_good {x} i (alone (by_self e)) = (laws.self x (place_below i) (had_good (now i)) e).good
  made_good i (alone (by_check e)) = (laws.check (had_good (now i)) e).0.good
  made_good i (by_send e _) = (laws.send (had_good (now i)) e).good
  made_good {x} i (by_receive {takes} {m} {older} {newer} e j) =
      (laws.receive (had_good (now i)) (sent_value {m = m} x (inl (rw (pick_is takes (s.queues x) j) (any_middle older m newer refl)))) e (pick_takes takes (s.queues x) j)).good
  made_good i (by_spawn {f} e below _) = (laws.spawn_next f below (had_good (now i)) e).good

  module _ {d : Deed} {w : Move} (a : Does s d w) where
    control_after : {control : List ℕ} → SoundControl s control → SoundControl (apply w s) control
    control_after {control} c = record {
      good = subst (λ sizes. good_control sizes.places (module_arities (apply w s).module') control ≡ true) (sym (same_sizes w s))
          (subst (λ module'. good_control s.sizes.places (module_arities module') control ≡ true) (sym (same_module w s)) c.good);
      fits = subst (λ sizes. length control ≤ sizes.words) (sym (same_sizes w s)) c.fits;
    }

    fresh_sound : {x : ℕ} {control : List ℕ} {g : List Entry} → Fresh s (apply w s) d x control g → SoundControl s control
    unfolding Good
    fresh_sound (made mk i e r z) = record { good = made_good i mk; fits = z }
    fresh_sound (child new c e) =
        let born = laws.spawn (had_good (now new.has)) new.about in
        let parent = (had_sound (now new.has)).fits in
        rw c (record { good = born.good; fits = omega (arith, born.fits, parent) })

    pub had_sound_after : {x : ℕ} {control : List ℕ} {g : List Entry} → Had (apply w s) x control g → SoundControl (apply w s) control
    had_sound_after h = control_after (elim (had_was a h) [ inl o ↦ had_sound o | inr f ↦ fresh_sound f ])

    pub controls_after : (p : ℕ) (process' : Process) → (apply w s).processes p ≡ some process' → SoundControl (apply w s) process'.control
    controls_after p process' i = had_sound_after (now i)

    pub controls_before_after : (p i : ℕ) (e : Entry) → entry_at (history_at (apply w s) p) i ≡ some e → SoundControl (apply w s) e.before
    controls_before_after p i e stands = let (g, st, n) = entry_suffix (history_at (apply w s) p) i stands in had_sound_after (past {kind = e.kind} st)

    check_made : {x number : ℕ} {before next : List ℕ} {kind : Kind} {beside : Beside} {h : List Entry} → s.processes x ≡ some (process before h) → Makes s x before kind next beside
        → as_check kind ≡ some number → number ≤ 255
    unfolding as_check
    check_made i (alone (by_seq _)) e = none_not_some e
    check_made i (alone (by_self _)) e = none_not_some e
    check_made i (alone (by_check j)) e = rw (some_injective e) at (laws.check (had_good (now i)) j).1
    check_made i (by_send _ _) e = none_not_some e
    check_made i (by_receive _ _) e = none_not_some e
    check_made i (by_spawn _ _ _) e = none_not_some e

    pub check_numbers_after : (p i number : ℕ) (e : Entry) → entry_at (history_at (apply w s) p) i ≡ some e → as_check e.kind ≡ some number → number ≤ 255
    check_numbers_after p i number e stands is =
        let (g, st, n) = entry_suffix (history_at (apply w s) p) i stands in
        elim (suffix_was (turned p a) st) [
          | inl o ↦ sound.check_numbers p (length g) number e (suffix_entry o) is
          | inr new ↦ check_made new.was new.makes is
        ]

    send_made : {x target : ℕ} {value before next : List ℕ} {kind : Kind} {beside : Beside} → Makes s x before kind next beside → as_send kind ≡ some (letter target value) → AboutToSend s before target value
    unfolding as_send
    send_made (alone j) e = none_not_some (sym (alone_send (made_alone j)) ∙ e)
    send_made (by_send {next} j _) e = record { next = next; sends = j ∙ cc }
    send_made (by_receive _ _) e = none_not_some e
    send_made (by_spawn _ _ _) e = none_not_some e

    pub sends_said_after : (p i target : ℕ) (value : List ℕ) (e : Entry) → entry_at (history_at (apply w s) p) i ≡ some e → as_send e.kind ≡ some (letter target value)
        → AboutToSend (apply w s) e.before target value
    sends_said_after p i target value e stands is =
        let (g, st, n) = entry_suffix (history_at (apply w s) p) i stands in
        moved (elim (suffix_was (turned p a) st) [
          | inl o ↦ sound.sends_said p (length g) target value e (suffix_entry o) is
          | inr new ↦ send_made new.makes is
        ])
      where
        moved : AboutToSend s e.before target value → AboutToSend (apply w s) e.before target value
        moved z = record { next = z.next; sends = ap (λ module'. work module' e.before) (same_module w s) ∙ z.sends }
