-- Whether a send's message is in flight, and whether a process is untouched, in the words of what the code reads.
use Prim.Native.Nat.{ℕ, ◌+◌, ◌*◌, ◌/◌, ◌%◌, ◌<◌, ◌≤◌}
use mathlib.Core.Path.{◌≡◌, refl, sym, ◌∙◌, ap}
use mathlib.Core.Bool.{Bool, true, false, not, ◌&&◌}
use mathlib.Core.Option.{Option, none, some}
use mathlib.Core.List.{List, [], ◌∷◌, map}
use native.Mathlib.Omega.{arith}
use lib.ListN.{length}
use Rattle.lists.proofs.Tests.{true_not_false}
use Rattle.rules.specs.State.{Message, Entry, Process, State, history_of, history_at, is_process, in_pool, same_queue}
use Rattle.rules.specs.Flight.{sends, has_come, flies, awaited}
use Rattle.rules.specs.Commands.{is_new, untouched}
use Rattle.rules.specs.Sound.{Sound, SentTo}
use Rattle.store.specs.Layout.{name_base, name_word}
use Rattle.store.specs.Image.{IsImage}
use Rattle.store.proofs.SoundStates.{sizes_in_lem, in_places, numbered}
use Rattle.reading.specs.Reads.{Holds, OfState, IsPlace, Lives, IsSend, OfSend, oldest}
use Rattle.reading.proofs.Holding.{of_image}
use Rattle.reading.proofs.StateReads.{queue_long}
use Rattle.reading.proofs.Slotted.{entry_below}
use Rattle.reading.proofs.Oldest.{sent_there}

-- the name's numbers are small
pub record Small (s : State) (p i : ℕ) : Type 0 where
  pub place : p < s.sizes.places
  pub few_places : s.sizes.places ≤ 16
  pub count : sends (oldest i (history_at s p)) < 64

small : (s : State) → Sound s → (p i : ℕ) → IsSend p i s → Small s p i
unfolding SentTo
small s sound p i is =
    let out = sent_there (history_at s p) i is.stands is.is_send in
    let number = numbered s sound is.target (record { sender = p; count = sends (oldest i (history_at s p)); value = is.value }) out in
    let sizes = sizes_in_lem s.sizes sound.sizes_pass in
    record { place = number.sender_below; few_places = sizes.places_high; count = omega (arith, number.count_below, sizes.entries_high) }

module _ (l : List ℕ) (p i : ℕ) (is : OfState l (IsSend p i)) where
  pub send_small : (image : IsImage l) → Small image.state p i
  unfolding OfState
  send_small image = small image.state image.sound p i (is image.state image.rest (of_image l image))

  pub send_place : OfState l (IsPlace p)
  unfolding OfState
  send_place s rest h = (small s h.sound p i (is s rest h)).place

  pub send_count : (n : ℕ) → OfState l (λ s. n ≡ sends (oldest i (history_at s p))) → IsImage l → n < 64
  unfolding OfState
  send_count n counted image = omega (arith, (send_small image).count, counted image.state image.rest (of_image l image))

  pub send_within : OfState l (λ s. i ≤ length (history_at s p))
  unfolding OfState
  send_within s rest h = let e = is s rest h in let z = entry_below (history_at s p) i e.stands in omega arith

  module _ (t : ℕ) (target-read : OfState l (OfSend p i (λ target value. t ≡ target))) where
    target_lives : (s : State) (rest : List ℕ) → Holds l s rest → in_pool s t ≡ true
    unfolding OfState OfSend
    target_lives s rest h =
        let e = is s rest h in
        let same = target-read s rest h e.entry e.target e.value e.stands e.is_send in
        ap (in_pool s) same ∙ h.sound.targets_in_pool p (sends (oldest i (history_at s p))) e.target e.value (sent_there (history_at s p) i e.stands e.is_send)

    pub target_place : OfState l (IsPlace t)
    unfolding OfState
    target_place s rest h = in_places s h.sound t (target_lives s rest h)

    pub flying_is : (n : ℕ) → OfState l (λ s. n ≡ sends (oldest i (history_at s p))) → (b : Bool) → OfState l (λ s. b ≡ has_come s ((p * name_base + n) / name_base) ((p * name_base + n) % name_base) t)
        → OfState l (λ s. OfSend p i (λ target value. not b ≡ flies s p (sends (oldest i (history_at s p))) target) s)
    unfolding OfState OfSend flies
    flying_is n counted b come s rest h e target value stands is_send =
        let few = (small s h.sound p i (is s rest h)).count in
        let count = counted s rest h in
        let sender : (p * name_base + n) / name_base ≡ p = omega (arith, few, count) in
        let number : (p * name_base + n) % name_base ≡ n = omega (arith, few, count) in
        let same : t ≡ target = target-read s rest h e target value stands is_send in
        let live = sym (ap (in_pool s) same) ∙ target_lives s rest h in
        let came : b ≡ has_come s p (sends (oldest i (history_at s p))) target =
        come s rest h ∙ (λ j. has_come s (sender j) ((number ∙ count) j) (same j)) in
        ap not came ∙ sym (ap (λ x. x && not (has_come s p (sends (oldest i (history_at s p))) target)) live)

-- ---- a process that is untouched
new_not : (o : Option Process) → 0 < length (history_of o) → is_new o ≡ false
unfolding history_of is_new
new_not none h = refl
new_not (some a) h = go a.history h
  where
    go : (g : List Entry) → 0 < length g → (elim g as (λ x. Bool) [ [] ↦ true | x ∷ older ↦ false ]) ≡ false
    go [] h = absurd (omega arith)
    go (x ∷ g) h = refl

new_is : (o : Option Process) → is_process o ≡ true → length (history_of o) ≡ 0 → is_new o ≡ true
unfolding history_of is_new is_process
new_is none live h = true_not_false live refl
new_is (some a) live h = go a.history h
  where
    go : (g : List Entry) → length g ≡ 0 → (elim g as (λ x. Bool) [ [] ↦ true | x ∷ older ↦ false ]) ≡ true
    go [] h = refl
    go (x ∷ g) h = absurd (omega arith)

queue_some : (q : List Message) → 0 < length q → same_queue q [] ≡ false
unfolding same_queue
queue_some [] h = absurd (omega arith)
queue_some (m ∷ q) h = refl

queue_none : (q : List Message) → length q ≡ 0 → same_queue q [] ≡ true
unfolding same_queue
queue_none [] h = refl
queue_none (m ∷ q) h = absurd (omega arith)

and_no : (a : Bool) → (a && false) ≡ false
and_no true = refl
and_no false = refl

module _ (l : List ℕ) (q : ℕ) (live : OfState l (Lives q)) (n : ℕ) (count : OfState l (λ s. n ≡ length (history_at s q))) where
  pub untouched_not : 0 < n → OfState l (λ s. false ≡ untouched s q)
  unfolding OfState untouched history_at
  untouched_not h s rest holds =
      let new = new_not (s.processes q) (omega (arith, count s rest holds)) in
      sym (ap (λ x. x && same_queue (s.queues q) [] && not (awaited s q)) new)

  module _ (names : List ℕ) (queue : OfState l (λ s. names ≡ map name_word (s.queues q))) where
    long : (s : State) (rest : List ℕ) → Holds l s rest → length names ≡ length (s.queues q)
    unfolding OfState
    long = queue_long l q names queue

    pub untouched_queued : 0 < length names → OfState l (λ s. false ≡ untouched s q)
    unfolding OfState untouched
    untouched_queued h s rest holds =
        let some_queue = queue_some (s.queues q) (omega (arith, long s rest holds)) in
        sym (ap (λ x. is_new (s.processes q) && x && not (awaited s q)) some_queue ∙ ap (λ x. x && not (awaited s q)) (and_no (is_new (s.processes q))))

    pub untouched_awaited : n ≤ 0 → length names ≤ 0 → (b : Bool) → OfState l (λ s. b ≡ awaited s q) → OfState l (λ s. not b ≡ untouched s q)
    unfolding OfState untouched history_at in_pool
    untouched_awaited none_made none-queued b waits s rest holds =
        let new = new_is (s.processes q) (live s rest holds) (omega (arith, count s rest holds)) in
        let no_queue = queue_none (s.queues q) (omega (arith, long s rest holds)) in
        ap not (waits s rest holds) ∙ sym (λ j. new j && no_queue j && not (awaited s q))
