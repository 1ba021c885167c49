-- How back and undeliver answer, by what the code knows at each of its returns.
use Prim.Native.Nat.{ℕ, ◌-◌, ◌<◌, ◌≤◌}
use mathlib.Core.Path.{◌≡◌, refl, sym, ◌∙◌, ap}
use mathlib.Core.Bool.{Bool, true, false}
use mathlib.Core.Option.{Option, none, some}
use mathlib.Core.List.{List, [], ◌∷◌, ◌++◌, map}
use native.Mathlib.Omega.{arith}
use lib.ListN.{length}
use Rattle.std.specs.Prelude.{Ok, Err}
use Rattle.lists.specs.Lists.{but_last}
use Rattle.lists.proofs.Tests.{true_not_false, ltb_of}
use Rattle.rules.specs.Answers.{done, held}
use Rattle.rules.specs.State.{Message, Kind, seq, send, rec, spawn, self, check, Entry, Process, State, history_of, history_at, is_process, in_pool, same_queue}
use Rattle.rules.specs.Flight.{sends, left, flies}
use Rattle.rules.specs.Commands.{Command, back, undeliver, Plan, refuse, accept, need, nothing, own_queue, other, post, apply, undone, untouched, undoing, undelivering, at_process, run, after_plan, run_state}
use Rattle.rules.specs.Refusals.{for_back, for_undeliver, not_in_pool, no_entry, no_message_queued, message_held}
use Rattle.rules.specs.Rules.{process}
use Rattle.demands.proofs.Plans.{need_true}
use Rattle.demands.proofs.Refusals.{refuses}
use Rattle.store.specs.Layout.{name_word, image}
use Rattle.store.proofs.SoundStates.{in_places}
use Rattle.reading.specs.Reads.{Holds, OfState, IsPlace}
use Rattle.writing.specs.Writes.{Leads, Undoes, Unposts, CanTake, CanUndo}
use Rattle.calls.specs.Calls.{outcome}
use Rattle.calls.specs.Numbers.{number_of, value_of}
use Rattle.calls.specs.declared.answers.Refusal.TheVariants.{NoProcess, NothingToUndo, Held}
use Rattle.calls.proofs.Accepted.{accepted_stored}
use Rattle.calls.specs.Answering.{Answers, Does}
use Rattle.calls.proofs.Answering.{does_refused}
use Rattle.backward.specs.Undoing.{IsNewest, is_accepted}
use Rattle.reading.proofs.StateReads.{queue_long}
use Rattle.reading.proofs.Oldest.{entry_exists}
use Rattle.backward.proofs.Newest.{empty}
use Rattle.backward.proofs.HeldLaws.{run_back}

-- ---- accepted

acceptance : (c : Command) (l l' : List ℕ) → ((s : State) (rest : List ℕ) → Holds l s rest → (s' : State) × (run_state c s ≡ some s') × (l' ≡ image s' ++ rest)) → Does c l l' (Ok 0)
unfolding Answers number_of value_of
acceptance c l l' accepts s rest h =
    let (s', e, words) = accepts s rest h in
    ap (outcome done 0) words ∙ sym (accepted_stored c s s' rest e)

-- ---- a place that is in the pool, or not

module _ (l : List ℕ) (p : ℕ) (b : Bool) (read : OfState l (λ s. b ≡ in_pool s p)) where
  pub back_no_process : b ≡ false → Does (back p) l l (Err NoProcess)
  unfolding OfState number_of value_of
  back_no_process fails = does_refused (back p) l (Err NoProcess) refl (λ s rest h. refuses s h.sound.pool_ends (not_in_pool for_back (sym (read s rest h) ∙ fails)))

  pub undeliver_no_process : b ≡ false → Does (undeliver p) l l (Err NoProcess)
  unfolding OfState number_of value_of
  undeliver_no_process fails = does_refused (undeliver p) l (Err NoProcess) refl (λ s rest h. refuses s h.sound.pool_ends (not_in_pool for_undeliver (sym (read s rest h) ∙ fails)))

  module _ (live : b ≡ true) where
    lives : (s : State) (rest : List ℕ) → Holds l s rest → in_pool s p ≡ true
    unfolding OfState
    lives s rest h = sym (read s rest h) ∙ live

    pub pool_place : OfState l (IsPlace p)
    unfolding OfState
    pool_place s rest h = in_places s h.sound p (lives s rest h)

    -- ---- back

    module _ (n : ℕ) (counted : OfState l (λ s. n ≡ length (history_at s p))) where
      no_entries : (s : State) (rest : List ℕ) → Holds l s rest → n ≡ 0 → (control : List ℕ) × (s.processes p ≡ some (process control []))
      unfolding OfState in_pool history_at history_of is_process
      no_entries s rest h none_made = go (s.processes p) refl (lives s rest h) (sym (counted s rest h) ∙ none_made)
        where
          go : (o : Option Process) → s.processes p ≡ o → is_process o ≡ true → length (history_of o) ≡ 0 → (control : List ℕ) × (s.processes p ≡ some (process control []))
          go none i live e = true_not_false live refl
          go (some a) i live e = (a.control, i ∙ (λ j. some (record { control = a.control; history = empty a.history e j })))

      pub back_nothing : n ≡ 0 → Does (back p) l l (Err NothingToUndo)
      unfolding number_of value_of
      back_nothing none_made = does_refused (back p) l (Err NothingToUndo) refl (λ s rest h. refuses s h.sound.pool_ends (no_entry (no_entries s rest h none_made).1))

      module _ (some-made : ¬ (n ≡ 0)) where
        pub back_newest : OfState l (IsNewest p (n - 1))
        unfolding OfState
        back_newest s rest h = omega (arith, counted s rest h)

        module _ (r : Bool) (tested : OfState l (λ s. r ≡ is_accepted (run (back p) s))) where
          held_plan : (s : State) (e : Entry) (older : List Entry) (kind : Kind) → is_accepted (undoing s p e older kind) ≡ false → undoing s p e older kind ≡ refuse held
          unfolding undoing undone is_accepted need
          held_plan s e older kind = go kind
            where
              needed : (x : Bool) (plan : Plan) → is_accepted plan ≡ true → is_accepted (need x held plan) ≡ false → need x held plan ≡ refuse held
              needed true plan a f = true_not_false a f
              needed false plan a f = refl

              go : (kind : Kind) → is_accepted (undoing s p e older kind) ≡ false → undoing s p e older kind ≡ refuse held
              go seq f = true_not_false refl f
              go (send target value) f = needed (flies s p (sends older) target) (undone p e older nothing) refl f
              go (rec before m after) f = needed (same_queue (s.queues p) (before ++ after)) (undone p e older (own_queue (before ++ (m ∷ after)))) refl f
              go (spawn child) f = needed (untouched s child) (undone p e older (other child none)) refl f
              go self f = true_not_false refl f
              go (check number) f = true_not_false refl f

          pub back_held : r ≡ false → Does (back p) l l (Err Held)
          unfolding OfState number_of value_of
          back_held fails = does_refused (back p) l (Err Held) refl (λ s rest h.
              let newest = back_newest s rest h in
              let (e, stands) = entry_exists (history_at s p) (n - 1) (omega (arith, newest)) in
              let ran = run_back s p (n - 1) e newest stands in
              ran ∙ held_plan s e _ e.kind (ap is_accepted (sym ran) ∙ sym (tested s rest h) ∙ fails))

          can : (s : State) → is_accepted (run (back p) s) ≡ true → (s' : State) × (run_state (back p) s ≡ some s')
          unfolding run_state after_plan is_accepted
          can s accepts = go (run (back p) s) accepts
            where
              go : (plan : Plan) → is_accepted plan ≡ true → (s' : State) × (after_plan plan s ≡ some s')
              go (refuse number) a = true_not_false a refl
              go (accept deed move) a = (apply move s, refl)

          module _ (passes : r ≡ true) where
            pub back_can : OfState l (CanUndo p)
            unfolding OfState
            back_can s rest h = let (s', e) = can s (sym (tested s rest h) ∙ passes) in record { after = s'; accepted = e }

            pub back_done : (l' : List ℕ) → Leads l l' (Undoes p) → Does (back p) l l' (Ok 0)
            unfolding OfState Leads Undoes
            back_done l' leads = acceptance (back p) l l' (λ s rest h.
                let (s', e) = can s (sym (tested s rest h) ∙ passes) in
                (s', e, leads s s' rest h e))

    -- ---- undeliver

    module _ (names : List ℕ) (read-queue : OfState l (λ s. names ≡ map name_word (s.queues p))) where
      long : (s : State) (rest : List ℕ) → Holds l s rest → length names ≡ length (s.queues p)
      unfolding OfState
      long = queue_long l p names read-queue

      pub undeliver_nothing : length names ≡ 0 → Does (undeliver p) l l (Err NothingToUndo)
      unfolding number_of value_of
      undeliver_nothing none-queued = does_refused (undeliver p) l (Err NothingToUndo) refl (λ s rest h.
          refuses s h.sound.pool_ends (no_message_queued (lives s rest h) (empty (s.queues p) (sym (long s rest h) ∙ none-queued))))

      module _ (some-queued : ¬ (length names ≡ 0)) (n : ℕ) (kept : OfState l (λ s. n ≡ length (left (history_at s p)))) where
        pub undeliver_held : length names ≤ n → Does (undeliver p) l l (Err Held)
        unfolding OfState number_of value_of
        undeliver_held short = does_refused (undeliver p) l (Err Held) refl (λ s rest h.
            refuses s h.sound.pool_ends (message_held (lives s rest h) (λ e. some-queued (long s rest h ∙ ap length e)) (omega (arith, short, long s rest h, kept s rest h))))

        module _ (longer : n < length names) where
          pub undeliver_can : OfState l (CanTake p 0)
          unfolding OfState
          undeliver_can s rest h = omega (arith, longer, long s rest h)

          ran : (s : State) (rest : List ℕ) → Holds l s rest → run_state (undeliver p) s ≡ some (apply (post p (but_last (s.queues p))) s)
          unfolding OfState run run_state in_pool history_at history_of is_process at_process undelivering after_plan
          ran s rest h = go (s.processes p) (lives s rest h) (s.queues p) (omega (arith, longer, long s rest h, kept s rest h))
            where
              go : (o : Option Process) → is_process o ≡ true → (q : List Message) → length (left (history_of o)) < length q
                  → after_plan (at_process o (λ a. undelivering s p a q)) s ≡ some (apply (post p (but_last q)) s)
              go none live q h = true_not_false live refl
              go (some a) live [] h = absurd (omega arith)
              go (some a) live (m ∷ q) h = ap (λ plan. after_plan plan s) (need_true held _ (ltb_of (length (left a.history)) (length (m ∷ q)) h))

          pub undeliver_done : (l' : List ℕ) → Leads l l' (Unposts p) → Does (undeliver p) l l' (Ok 0)
          unfolding Leads Unposts
          undeliver_done l' leads = acceptance (undeliver p) l l' (λ s rest h. (apply (post p (but_last (s.queues p))) s, ran s rest h, leads s _ rest h refl))
