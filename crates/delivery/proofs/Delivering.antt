-- A delivery: 11 where there is no such message in flight, else it comes to the end of its target's queue, which has room.
use Rattle.std.proofs.Common.{Option, None, Some}
use Prim.Native.Nat.{ℕ, ◌+◌, ◌*◌, ◌<◌}
use mathlib.Core.Path.{◌≡◌, refl, sym, ◌∙◌, ap, subst}
use mathlib.Core.Bool.{Bool, true, false, not, ◌&&◌}
use mathlib.Core.Option.{Option as Maybe, none, some}
use mathlib.Core.List.{List, [], ◌∷◌, ◌++◌}
use native.Mathlib.Omega.{arith}
use lib.ListN.{length, length-append}
use Rattle.std.specs.Prelude.{Ok, Err}
use Rattle.lists.proofs.Tables.{put_same}
use Rattle.rules.specs.Answers.{no_message}
use Rattle.rules.specs.State.{Message, Letter, letter, Process, State, history_of, history_at, in_pool}
use Rattle.rules.specs.Flight.{sent, has_come, flies}
use Rattle.rules.specs.Sound.{SentTo}
use Rattle.rules.specs.Commands.{deliver, delivers, post, Plan, refuse, accept, need, set_queue, apply, delivering, run, after_plan, run_state}
use Rattle.rules.specs.Replies.{perform}
use Rattle.demands.proofs.Frame.{no_process_lem}
use Rattle.demands.proofs.Consequences.{consequences}
use Rattle.store.specs.Image.{IsImage}
use Rattle.store.proofs.SoundStates.{sizes_in_lem, in_places, numbered, storable}
use Rattle.store.proofs.Names.{Numbered}
use Rattle.calls.specs.Numbers.{Answer, number_of, value_of}
use Rattle.calls.specs.declared.answers.Refusal.TheVariants.{NoMessage}
use Rattle.store.specs.Layout.{name_base}
use Rattle.reading.specs.Reads.{Holds, OfState, IsPlace, OfSend, IsSend, SendAt, SendFound}
use Rattle.reading.proofs.Naming.{sender_of, count_of, name_sender, name_count}
use Rattle.reading.proofs.MailReads.{found_at}
use Rattle.writing.specs.Writes.{Leads, Posts, CanPost}
use Rattle.calls.specs.Answering.{Answers, Does}
use Rattle.calls.proofs.Answering.{obeys_done, does_refused}

deliver_runs : (st : State) (s k : ℕ) {o : Maybe Letter} → sent (history_at st s) k ≡ o → run (deliver s k) st ≡ delivering st s k o
unfolding run
deliver_runs st s k e = ap (delivering st s k) e

-- no send of that count
module _ (entry : List ℕ) (s k : ℕ) where
  unsent : (st : State) (rest : List ℕ) → Holds entry st rest → sent (history_at st s) k ≡ none → (r : Answer) → r ≡ (Err NoMessage) → run (deliver s k) st ≡ refuse (number_of r)
  unfolding delivering number_of
  unsent st rest h e r is = deliver_runs st s k e ∙ ap (λ (x : Answer). refuse (number_of x)) (sym is)

  pub deliver_outside : (b : Bool) → OfState entry (λ st. b ≡ in_pool st s) → b ≡ false → Does (deliver s k) entry entry (Err NoMessage)
  unfolding OfState history_at history_of sent value_of
  deliver_outside b pool e = does_refused (deliver s k) entry (Err NoMessage) refl (λ st rest h.
      unsent st rest h (ap (λ (o : Maybe Process). sent (history_of o) k) (no_process_lem st s (sym (pool st rest h) ∙ e))) (Err NoMessage) refl)

  pub sender_lives : (b : Bool) → OfState entry (λ st. b ≡ in_pool st s) → b ≡ true → OfState entry (IsPlace s)
  unfolding OfState
  sender_lives b pool e st rest h = in_places st h.sound s (sym (pool st rest h) ∙ e)

  module _ (f : Option ℕ) (found : OfState entry (λ st. SendFound (history_at st s) k f)) where
    pub deliver_nowhere : f ≡ None → Does (deliver s k) entry entry (Err NoMessage)
    unfolding OfState SendFound value_of
    deliver_nowhere e = does_refused (deliver s k) entry (Err NoMessage) refl (λ st rest h.
        unsent st rest h (subst (SendFound (history_at st s) k) e (found st rest h)) (Err NoMessage) refl)

    pub deliver_found : (i : ℕ) → f ≡ Some i → OfState entry (SendAt s k i)
    unfolding OfState
    deliver_found i e st rest h = found_at st s k i (subst (SendFound (history_at st s) k) e (found st rest h))

-- the message of a send
abbrev message_of : (s k : ℕ) → List ℕ → Message
message_of s k value = record { sender = s; count = k; value = value }

module _ (entry : List ℕ) (s k i : ℕ) (IsSend-at : OfState entry (SendAt s k i)) where
  pub at_send : OfState entry (IsSend s i)
  unfolding OfState
  at_send st rest h = let x = IsSend-at st rest h in record { entry = x.entry; target = x.target; value = x.value; stands = x.stands; is_send = x.is_send }

  module _ (st : State) (rest : List ℕ) (h : Holds entry st rest) where
    abbrev the_send : SendAt s k i st
    unfolding OfState
    the_send = IsSend-at st rest h

    to_target : SentTo st the_send.target (message_of s k the_send.value)
    unfolding SentTo
    to_target = the_send.is_kth

    numbers : Numbered st.sizes.places st.sizes.entries (message_of s k the_send.value)
    numbers = numbered st h.sound the_send.target (message_of s k the_send.value) to_target

    count_small : k < 64
    count_small = let few = (sizes_in_lem st.sizes h.sound.sizes_pass).entries_high in omega (arith, numbers.count_below)

    target_lives : in_pool st the_send.target ≡ true
    target_lives = h.sound.targets_in_pool s k the_send.target the_send.value the_send.is_kth

  pub name_small : IsImage entry → (s < 16) × (k < 64)
  name_small im =
      let h : Holds entry im.state im.rest = record { sound = im.sound; words = im.words } in
      let few = (sizes_in_lem im.state.sizes im.sound.sizes_pass).places_high in
      (omega (arith, (numbers im.state im.rest h).sender_below), count_small im.state im.rest h)

  module _ (t : ℕ) (to : OfState entry (OfSend s i (λ target value. t ≡ target))) where
    target_is : (st : State) (rest : List ℕ) (h : Holds entry st rest) → t ≡ (the_send st rest h).target
    unfolding OfState OfSend
    target_is st rest h = let x = the_send st rest h in to st rest h x.entry x.target x.value x.stands x.is_send

    lives : (st : State) (rest : List ℕ) → Holds entry st rest → in_pool st t ≡ true
    lives st rest h = ap (in_pool st) (target_is st rest h) ∙ target_lives st rest h

    pub target_place : OfState entry (IsPlace t)
    unfolding OfState
    target_place st rest h = in_places st h.sound t (lives st rest h)

    module _ (name : ℕ) (named : s * name_base + k ≡ name) (b : Bool) (come : OfState entry (λ st. b ≡ has_come st (sender_of name) (count_of name) t)) where
      has_come_is : (st : State) (rest : List ℕ) → Holds entry st rest → has_come st s k t ≡ b
      unfolding OfState
      has_come_is st rest h =
          let small : k < name_base = omega (arith, count_small st rest h) in
          ap (λ (x : ℕ). has_come st x k t) (sym (ap sender_of (sym named) ∙ name_sender s k small)) ∙ ap (λ (y : ℕ). has_come st (sender_of name) y t) (sym (ap count_of (sym named) ∙ name_count s k small)) ∙ sym (come st rest h)

      flies_is : (st : State) (rest : List ℕ) → Holds entry st rest → flies st s k t ≡ not b
      unfolding flies
      flies_is st rest h = ap (λ (x : Bool). x && not (has_come st s k t)) (lives st rest h) ∙ ap not (has_come_is st rest h)

      runs : (st : State) (rest : List ℕ) (h : Holds entry st rest)
          → run (deliver s k) st ≡ need (not b) no_message (accept (delivers s k t) (post t (st.queues t ++ (message_of s k (the_send st rest h).value ∷ []))))
      unfolding delivering
      runs st rest h =
          deliver_runs st s k ((the_send st rest h).is_kth ∙ ap (λ (x : ℕ). some (letter x (the_send st rest h).value)) (sym (target_is st rest h)))
          ∙ ap (λ (x : Bool). need x no_message (accept (delivers s k t) (post t (st.queues t ++ (message_of s k (the_send st rest h).value ∷ []))))) (flies_is st rest h)

      pub deliver_come : b ≡ true → Does (deliver s k) entry entry (Err NoMessage)
      unfolding need number_of value_of
      deliver_come e = does_refused (deliver s k) entry (Err NoMessage) refl (λ st rest h.
          runs st rest h ∙ ap (λ (x : Bool). need (not x) no_message (accept (delivers s k t) (post t (st.queues t ++ (message_of s k (the_send st rest h).value ∷ []))))) e)

      accepted : b ≡ false → (st : State) (rest : List ℕ) (h : Holds entry st rest)
          → run (deliver s k) st ≡ accept (delivers s k t) (post t (st.queues t ++ (message_of s k (the_send st rest h).value ∷ [])))
      unfolding need
      accepted e st rest h = runs st rest h ∙ ap (λ (x : Bool). need (not x) no_message (accept (delivers s k t) (post t (st.queues t ++ (message_of s k (the_send st rest h).value ∷ []))))) e

      -- after it the state is sound, so the longer queue has room
      pub post_ready : b ≡ false → OfState entry (CanPost t)
      unfolding OfState run_state after_plan apply set_queue
      post_ready e st rest h =
          let m = message_of s k (the_send st rest h).value in
          let after = apply (post t (st.queues t ++ (m ∷ []))) st in
          let steps : run_state (deliver s k) st ≡ some after = ap (λ (x : Plan). after_plan x st) (accepted e st rest h) in
          let fits = ((storable after (consequences.sound.stepped st after (deliver s k) h.sound steps)).queue t).fits in
          let longer : after.queues t ≡ st.queues t ++ (m ∷ []) = put_same t (st.queues t ++ (m ∷ [])) st.queues t refl in
          record {
            lives = lives st rest h;
            has_room = omega (arith, fits, ap length longer, length-append (st.queues t) (m ∷ []));
          }

      pub deliver_does : (exit : List ℕ) → b ≡ false → Leads entry exit (Posts t name) → Does (deliver s k) entry exit (Ok 0)
      unfolding Answers perform Leads
      deliver_does exit e leads st rest h =
          let m = message_of s k (the_send st rest h).value in
          obeys_done _ (delivers s k t) (post t (st.queues t ++ (m ∷ []))) st rest exit
          (leads st (apply (post t (st.queues t ++ (m ∷ []))) st) rest h (record { message = m; named = named; after = refl }))
          (accepted e st rest h)
