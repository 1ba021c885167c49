-- What processes have learnt is kept by every accepted command.
use Prim.Native.Nat.{ℕ}
use mathlib.Core.Path.{◌≡◌, refl, sym, ◌∙◌, ap, subst}
use mathlib.Core.Logic.{◌⊎◌, inl, inr}
use mathlib.Core.Bool.{true}
use mathlib.Core.Option.{some}
use mathlib.Core.List.{List, [], ◌∷◌}
use lib.ListN.{length}
use Rattle.lists.proofs.Tests.{true_not_false, none_not_some}
use Rattle.machine.specs.Laws.{Holds}
use Rattle.rules.specs.State.{Message, letter, Kind, self, rec, spawn, as_rec, as_spawn, Entry, State, history_at, in_pool}
use Rattle.rules.specs.Flight.{sends, sent}
use Rattle.rules.specs.Commands.{Deed, undoes, Beside, Move, apply, entry_with}
use Rattle.rules.specs.Rules.{process}
use Rattle.rules.specs.Independent.{unspawns, Unsends}
use Rattle.rules.specs.Sound.{SentTo, Sound}
use Rattle.rules.specs.Standing.{Suffix}
use Rattle.rules.proofs.Oldest.{pick_is, pick_takes}
use Rattle.demands.proofs.Does.{by_seq, by_self, by_check, Makes, alone, by_send, by_receive, by_spawn, Does}
use Rattle.demands.proofs.Messages.{Is, any_middle}
use Rattle.demands.proofs.Histories.{suffix_top, suffix_tail, suffix_entry, suffix_sent, suffix_taken}
use Rattle.demands.proofs.Frame.{turned, not_in_pool, history_of_lem}
use Rattle.demands.proofs.Deeds.{unspawning}
use Rattle.demands.proofs.Questions.{Among, Posts, among_was}
use Rattle.demands.proofs.Positions.{suffix_stays, suffix_lives, Had, now, past, had_lives, Fresh, made, child, had_was}
use Rattle.demands.proofs.SoundFacts.{mail}
use Rattle.demands.proofs.SoundMail.{not_unsent}
use Rattle.demands.proofs.SoundControls.{LawsAt, had_good, place_below, sent_value}
use Rattle.demands.proofs.Knows.{SentAs, sent_as, Knows, itself, maker, later, heard, born, Learnt}

module _ {s : State} (laws : LawsAt s) (sound : Sound s) (learnt : Learnt s) {d : Deed} {w : Move} (a : Does s d w) where
  -- a message that has come keeps its send
  sent_stays_as : {m : Message} {g : List Entry} (t : ℕ) → Among (Is m) (apply w s) t → SentAs s m t g → SentAs (apply w s) m t g
  unfolding SentTo Unsends
  sent_stays_as {m} {g} t am z = go (suffix_stays (turned m.sender a) z.stands) (among_was a am)
    where
      unsends : d ≡ undoes m.sender (sends g) z.entry.kind → Unsends m.sender m.count d
      unsends e = rw e (refl, sym z.count, λ i. none_not_some (sym i ∙ z.sends_it))

      said : SentTo s t m
      said = subst (λ k. sent (history_at s m.sender) k ≡ some (letter t m.value)) z.count (suffix_sent z.stands z.sends_it)

      go : Suffix (z.entry ∷ g) (history_at (apply w s) m.sender) ⊎ ((d ≡ undoes m.sender (sends g) z.entry.kind) × (g ≡ history_at (apply w s) m.sender))
          → Among (Is m) s t ⊎ Posts (Is m) s d t → SentAs (apply w s) m t g
      go (inl st) x = record { entry = z.entry; stands = st; sends_it = z.sends_it; count = z.count }
      go (inr u) (inl x) = absurd (not_unsent sound a x said (unsends u.0))
      go (inr u) (inr x) = absurd (rw x.is at (unsends u.0))

  knows_stays : {q x : ℕ} {g : List Entry} → Knows s q x g → Suffix g (history_at (apply w s) x) → in_pool (apply w s) x ≡ true → Knows (apply w s) q x g
  unfolding as_rec unspawns as_spawn
  knows_stays itself st v = itself
  knows_stays maker st v = maker
  knows_stays (later k) st v = later (knows_stays k (suffix_tail st) v)
  knows_stays {x} (heard {m} z k) st v =
      let n = sent_stays_as x (inr (suffix_taken st refl)) z in
      heard n (knows_stays k (suffix_tail n.stands) (suffix_lives (apply w s) m.sender n.stands))
  knows_stays {q} {x} (born {y} {before} {f} z k) st v = go (suffix_stays (turned y a) z) (λ st v. knows_stays k st v)
    where
      go : Suffix (entry_with (spawn x) before ∷ f) (history_at (apply w s) y) ⊎ ((d ≡ undoes y (sends f) (spawn x)) × (f ≡ history_at (apply w s) y))
          → (Suffix f (history_at (apply w s) y) → in_pool (apply w s) y ≡ true → Knows (apply w s) q y f) → Knows (apply w s) q x []
      go (inl n) r = born n (r (suffix_tail n) (suffix_lives (apply w s) y n))
      go (inr e) r = true_not_false v (not_in_pool (apply w s) x (unspawning a (ap unspawns e.0)).gone)

  had_suffix : {x : ℕ} {control : List ℕ} {g : List Entry} → Had (apply w s) x control g → Suffix g (history_at (apply w s) x)
  had_suffix {x} (now i) = suffix_top (history_of_lem (apply w s) x i)
  had_suffix (past st) = suffix_tail st

  -- what x knew before its step it knows after
  still : {x : ℕ} {before : List ℕ} {h : List Entry} {kind : Kind} (q : ℕ) → s.processes x ≡ some (process before h) → Holds before q
      → Suffix (entry_with kind before ∷ h) (history_at (apply w s) x) → Knows (apply w s) q x (entry_with kind before ∷ h)
  unfolding Learnt
  still {x} {before} {h} q i n st = later (knows_stays (learnt x q before h (now i) n) (suffix_tail st) (suffix_lives (apply w s) x st))

  learns : {x : ℕ} {before next : List ℕ} {h : List Entry} {kind : Kind} {beside : Beside} (q : ℕ) → Makes s x before kind next beside → s.processes x ≡ some (process before h) → Holds next q
      → Suffix (entry_with kind before ∷ h) (history_at (apply w s) x) → Knows (apply w s) q x (entry_with kind before ∷ h)
  unfolding as_rec Learnt
  learns q (alone (by_seq e)) i n st = still q i ((laws.seq (had_good laws sound (now i)) e).pids q n) st
  learns {x} {before} {h} q (alone (by_self e)) i n st = go ((laws.self x (place_below laws sound i) (had_good laws sound (now i)) e).pids q n)
    where
      go : Holds before q ⊎ (q ≡ x) → Knows (apply w s) q x (entry_with self before ∷ h)
      go (inl n) = still q i n st
      go (inr u) = rw u itself
  learns q (alone (by_check e)) i n st = still q i ((laws.check (had_good laws sound (now i)) e).0.pids q n) st
  learns q (by_send e _) i n st = still q i ((laws.send (had_good laws sound (now i)) e).pids q n) st
  learns {x} {before} {h} q (by_receive {takes} {m} {older} {newer} e j) i n st =
      go ((laws.receive (had_good laws sound (now i)) (sent_value laws sound {m = m} x got) e (pick_takes takes (s.queues x) j)).pids q n)
    where
      got : Among (Is m) s x
      got = inl (rw (pick_is takes (s.queues x) j) (any_middle older m newer refl))

      told : Holds m.value q → Knows (apply w s) q x (entry_with (rec older m newer) before ∷ h)
      told n =
          let (g, z) = sent_as x (mail sound x got) in
          let y = sent_stays_as x (inr (suffix_taken st refl)) z in
          let said = sound.sends_said m.sender (length g) x m.value z.entry (suffix_entry z.stands) z.sends_it in
          let holds = (laws.send (had_good laws sound (past z.stands)) said.sends).value_pids q n in
          heard y (knows_stays (learnt m.sender q z.entry.before g (past z.stands) holds) (suffix_tail y.stands) (suffix_lives (apply w s) m.sender y.stands))

      go : Holds before q ⊎ Holds m.value q → Knows (apply w s) q x (entry_with (rec older m newer) before ∷ h)
      go (inl n) = still q i n st
      go (inr n) = told n
  learns {x} {before} {h} q (by_spawn {f} e below _) i n st = go ((laws.spawn_next f below (had_good laws sound (now i)) e).pids q n)
    where
      go : Holds before q ⊎ (q ≡ f) → Knows (apply w s) q x (entry_with (spawn f) before ∷ h)
      go (inl n) = still q i n st
      go (inr u) = rw u maker

  pub learnt_after : Learnt (apply w s)
  unfolding Learnt
  learnt_after x q control g p n = go (had_was a p)
    where
      go : Had s x control g ⊎ Fresh s (apply w s) d x control g → Knows (apply w s) q x g
      go (inl o) = knows_stays (learnt x q control g o n) (had_suffix p) (had_lives p)
      go (inr (made mk i e _ _)) = rw e (learns q mk i n (rw e at (had_suffix p)))
      go (inr (child new c z)) =
          let st = suffix_top new.top in
          let holds = (laws.spawn (had_good laws sound (now new.has)) new.about).pids q (rw c at n) in
          rw z (born st (knows_stays (learnt new.at q new.control new.rest (now new.has) holds) (suffix_tail st) (suffix_lives (apply w s) new.at st)))
