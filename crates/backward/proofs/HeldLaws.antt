-- Whether the newest entry may be undone: `run` accepts exactly where the code's test passes.
use Prim.Native.Nat.{ℕ, suc}
use mathlib.Core.Path.{◌≡◌, refl, sym, ◌∙◌, ap, subst}
use mathlib.Core.Logic.{inl, inr}
use mathlib.Core.Bool.{Bool, true, false}
use mathlib.Core.Option.{Option, none, some}
use mathlib.Core.List.{List, ◌∷◌, ◌++◌, map, append-nil}
use native.Mathlib.Decide.{ℕ_discrete}
use native.Mathlib.Omega.{arith}
use lib.Dec.{eqb}
use lib.ListN.{length, length-append}
use Rattle.lists.proofs.Tests.{true_or_false, eqb_of, eqb_apart}
use Rattle.rules.specs.Answers.{held}
use Rattle.rules.specs.State.{Message, Kind, seq, send, rec, spawn, self, check, as_send, as_rec, as_spawn, Entry, Process, State, history_of, history_at, entry_at, in_pool, same_queue}
use Rattle.rules.specs.Flight.{sends, left_or, left, flies}
use Rattle.rules.specs.Commands.{back, Deed, Move, accept, need, undone, untouched, undoing, backing, at_process, run}
use Rattle.rules.specs.Sound.{Prefix}
use Rattle.demands.proofs.Messages.{same_queue_lem, queue_same}
use Rattle.demands.proofs.SoundFacts.{flows_left}
use Rattle.store.specs.Layout.{kind_send, kind_rec, kind_spawn, name_word, kind_number, number_in}
use Rattle.reading.specs.Reads.{Holds, OfState, IsPlace, Lives, IsEntry, OfEntry, IsSend, OfSend, oldest}
use Rattle.backward.specs.Undoing.{IsNewest, is_accepted}
use Rattle.reading.proofs.StateReads.{queue_long}
use Rattle.reading.proofs.Slotted.{entry_place}
use Rattle.reading.proofs.Oldest.{rec_by_kind, entry_exists}
use Rattle.backward.proofs.Newest.{empty, newest_first, is_send, is_spawn}

-- a plan that needs a test is accepted where it passes
accepted_need : (b : Bool) (n : ℕ) (d : Deed) (w : Move) → is_accepted (need b n (accept d w)) ≡ b
unfolding is_accepted need
accepted_need true n d w = refl
accepted_need false n d w = refl

-- what back comes to, by the newest entry
pub run_back : (s : State) (p i : ℕ) (e : Entry) → IsNewest p i s → entry_at (history_at s p) i ≡ some e → run (back p) s ≡ undoing s p e (oldest i (history_at s p)) e.kind
unfolding run history_at history_of at_process backing
run_back s p i e newest stands = go (s.processes p) newest (newest_first (history_at s p) i newest stands)
  where
    go : (o : Option Process) → length (history_of o) ≡ suc i → history_of o ≡ e ∷ oldest i (history_of o) → at_process o (λ a. backing s p a.history) ≡ undoing s p e (oldest i (history_of o)) e.kind
    go none n h = absurd (omega arith)
    go (some a) n h = ap (backing s p) h

module _ (s : State) (p i : ℕ) (e : Entry) (newest : IsNewest p i s) (stands : entry_at (history_at s p) i ≡ some e) where
  accepted_as : (kind : Kind) → e.kind ≡ kind → is_accepted (run (back p) s) ≡ is_accepted (undoing s p e (oldest i (history_at s p)) kind)
  accepted_as kind k = ap is_accepted (run_back s p i e newest stands ∙ ap (undoing s p e (oldest i (history_at s p))) k)

  accepted_send : (target : ℕ) (value : List ℕ) → e.kind ≡ send target value → is_accepted (run (back p) s) ≡ flies s p (sends (oldest i (history_at s p))) target
  unfolding undoing undone
  accepted_send target value k = accepted_as (send target value) k ∙ accepted_need (flies s p (sends (oldest i (history_at s p))) target) held _ _

  accepted_rec : (older : List Message) (m : Message) (newer : List Message) → e.kind ≡ rec older m newer → is_accepted (run (back p) s) ≡ same_queue (s.queues p) (older ++ newer)
  unfolding undoing undone
  accepted_rec older m newer k = accepted_as (rec older m newer) k ∙ accepted_need (same_queue (s.queues p) (older ++ newer)) held _ _

  accepted_spawn : (child : ℕ) → e.kind ≡ spawn child → is_accepted (run (back p) s) ≡ untouched s child
  unfolding undoing undone
  accepted_spawn child k = accepted_as (spawn child) k ∙ accepted_need (untouched s child) held _ _

  accepted_alone : ¬ (kind_number e.kind ≡ kind_send) → ¬ (kind_number e.kind ≡ kind_rec) → ¬ (kind_number e.kind ≡ kind_spawn) → is_accepted (run (back p) s) ≡ true
  unfolding undoing undone is_accepted kind_number
  accepted_alone no_send no_rec no_spawn = go e.kind refl no_send no_rec no_spawn
    where
      go : (kind : Kind) → e.kind ≡ kind → ¬ (kind_number kind ≡ kind_send) → ¬ (kind_number kind ≡ kind_rec) → ¬ (kind_number kind ≡ kind_spawn) → is_accepted (run (back p) s) ≡ true
      go seq k a b c = accepted_as seq k
      go (send target value) k a b c = absurd (a refl)
      go (rec older m newer) k a b c = absurd (b refl)
      go (spawn child) k a b c = absurd (c refl)
      go self k a b c = accepted_as self k
      go (check number) k a b c = accepted_as (check number) k

-- a queue is what stands in front of it where it is as long
prefix_same : (front queue : List Message) → Prefix front queue → same_queue queue front ≡ eqb (length queue) (length front)
prefix_same front queue prefix = go (ℕ_discrete (length queue) (length front))
  where
    go : Dec (length queue ≡ length front) → same_queue queue front ≡ eqb (length queue) (length front)
    go (yes n) =
        let None-more = empty prefix.others (omega (arith, n, ap length prefix.whole, length-append front prefix.others)) in
        queue_same (prefix.whole ∙ ap (λ x. front ++ x) None-more ∙ append-nil front) ∙ sym (eqb_of (length queue) (length front) n)
    go (no n) = elim (true_or_false (same_queue queue front)) [
      | inl same ↦ absurd (n (ap length (same_queue_lem queue front same)))
      | inr differs ↦ differs ∙ sym (eqb_apart (length queue) (length front) n)
    ]

module _ (l : List ℕ) (p i : ℕ) (newest : OfState l (IsNewest p i)) where
  pub newest_entry : OfState l (IsEntry p i)
  unfolding OfState
  newest_entry s rest h = omega (arith, newest s rest h)

  there : (s : State) (rest : List ℕ) → Holds l s rest → (e : Entry) × (entry_at (history_at s p) i ≡ some e)
  unfolding OfState
  there s rest h = entry_exists (history_at s p) i (omega (arith, newest s rest h))

  pub newest_place : OfState l (IsPlace p)
  unfolding OfState
  newest_place s rest h = entry_place s h.sound p i (omega (arith, newest s rest h))

  module _ (kind : ℕ) (read : OfState l (OfEntry p i (λ e. kind ≡ kind_number e.kind))) where
    pub newest_send : kind ≡ kind_send → OfState l (IsSend p i)
    unfolding OfState OfEntry as_send
    newest_send is s rest h =
        let (e, stands) = there s rest h in
        let (target, value, k) = is_send e.kind (sym (read s rest h e stands) ∙ is) in
        record { entry = e; target = target; value = value; stands = stands; is_send = ap as_send k }

    pub undo_send : kind ≡ kind_send → (r : Bool) → OfState l (λ s. OfSend p i (λ target value. r ≡ flies s p (sends (oldest i (history_at s p))) target) s)
        → OfState l (λ s. r ≡ is_accepted (run (back p) s))
    unfolding OfState OfEntry OfSend as_send
    undo_send is r flying s rest h =
        let (e, stands) = there s rest h in
        let (target, value, k) = is_send e.kind (sym (read s rest h e stands) ∙ is) in
        flying s rest h e target value stands (ap as_send k) ∙ sym (accepted_send s p i e (newest s rest h) stands target value k)

    pub undo_rec : kind ≡ kind_rec → (names : List ℕ) → OfState l (λ s. names ≡ map name_word (s.queues p)) → (n : ℕ) → OfState l (λ s. n ≡ length (left (history_at s p)))
        → OfState l (λ s. eqb (length names) n ≡ is_accepted (run (back p) s))
    unfolding OfState OfEntry left left_or as_rec
    undo_rec is names queue n counted s rest h =
        let (e, stands) = there s rest h in
        let (older, m, newer, k) = rec_by_kind e.kind (sym (read s rest h e stands) ∙ is) in
        let kept : left (history_at s p) ≡ older ++ newer =
        ap left (newest_first (history_at s p) i (newest s rest h) stands) ∙ ap (λ x. left_or (as_rec x) (left (oldest i (history_at s p)))) k in
        let long = queue_long l p names queue s rest h in
        let front = subst (λ x. Prefix x (s.queues p)) kept (flows_left (history_at s p) (s.queues p) (h.sound.prefixes p)) in
        (λ j. eqb (long j) ((counted s rest h ∙ ap length kept) j))
        ∙ sym (prefix_same (older ++ newer) (s.queues p) front)
        ∙ sym (accepted_rec s p i e (newest s rest h) stands older m newer k)

    module _ (is : kind ≡ kind_spawn) (number : ℕ) (number_read : OfState l (OfEntry p i (λ e. number ≡ number_in e.kind))) where
      pub child_lives : OfState l (Lives number)
      unfolding OfState OfEntry number_in as_spawn
      child_lives s rest h =
          let (e, stands) = there s rest h in
          let (child, k) = is_spawn e.kind (sym (read s rest h e stands) ∙ is) in
          ap (in_pool s) (number_read s rest h e stands ∙ ap number_in k) ∙ h.sound.children_in_pool child p i (record { entry = e; stands = stands; spawns = ap as_spawn k })

      pub undo_spawn : (r : Bool) → OfState l (λ s. r ≡ untouched s number) → OfState l (λ s. r ≡ is_accepted (run (back p) s))
      unfolding OfState OfEntry number_in
      undo_spawn r free s rest h =
          let (e, stands) = there s rest h in
          let (child, k) = is_spawn e.kind (sym (read s rest h e stands) ∙ is) in
          free s rest h ∙ ap (untouched s) (number_read s rest h e stands ∙ ap number_in k) ∙ sym (accepted_spawn s p i e (newest s rest h) stands child k)

    pub undo_alone : ¬ (kind ≡ kind_send) → ¬ (kind ≡ kind_rec) → ¬ (kind ≡ kind_spawn) → OfState l (λ s. true ≡ is_accepted (run (back p) s))
    unfolding OfState OfEntry
    undo_alone a b c s rest h =
        let (e, stands) = there s rest h in
        let k = read s rest h e stands in
        sym (accepted_alone s p i e (newest s rest h) stands (λ x. a (k ∙ x)) (λ x. b (k ∙ x)) (λ x. c (k ∙ x)))
