-- A message more or less in a queue: what the code leaves is the image after.
use Prim.Native.Nat.{ℕ, suc, ◌+◌, ◌-◌, ◌<◌}
use mathlib.Core.Path.{◌≡◌, refl, sym, ◌∙◌, ap}
use mathlib.Core.Bool.{true}
use mathlib.Core.Logic.{inl, inr}
use mathlib.Core.Option.{Option, some}
use mathlib.Core.List.{List, [], ◌∷◌, ◌++◌, map, map-append}
use native.Mathlib.Omega.{arith}
use lib.ListN.{length, take, drop, get_or, length-map}
use borrow.Rule.Slice.PartMut.{mid_of, put_mid}
use Rattle.lists.specs.Lists.{but_last}
use Rattle.lists.proofs.Tests.{true_or_false}
use Rattle.rules.specs.Sound.{Sound}
use Rattle.store.proofs.SoundStates.{in_places}
use Rattle.store.proofs.LayoutLaws.{names_most}
use Rattle.rules.specs.State.{Message, Process, State, in_pool}
use Rattle.rules.specs.Commands.{post, apply}
use Rattle.demands.proofs.Frame.{process_of}
use Rattle.store.specs.Image.{IsImage}
use Rattle.store.specs.Layout.{slot_head, slot_size, name_word, slot_words, present_slot, place_slots, image}
use Rattle.store.proofs.Lengths.{length_slot}
use Rattle.store.proofs.Moves.{post_elsewhere, post_slots}
use Rattle.reading.specs.Reads.{Holds, OfState, IsPlace}
use Rattle.writing.specs.declared.spans.Span.{Span}
use Rattle.writing.specs.Slots.{pushed, without, within, span_size, Spanned, NamesRoom}
use Rattle.writing.specs.Writes.{Leads, Posts, Unposts, CanPost, CanTake}
use Rattle.reading.proofs.Holding.{of_image, at_image, holding, of_state}
use Rattle.writing.proofs.SlotWrites.{names_count, with_names, pushed_slot, without_slot}
use Rattle.writing.proofs.StoreWrites.{queue_few, present_lent, present_changed}

pub posting_place : (l : List ℕ) (t : ℕ) → OfState l (CanPost t) → OfState l (IsPlace t)
posting_place l t f = of_state _ λ s rest h. in_places s h.sound t (holding _ f s rest h).lives

-- only a process has a queue
pub queued_lives : (s : State) → Sound s → (p : ℕ) → 0 < length (s.queues p) → in_pool s p ≡ true
queued_lives s sound p h = elim (true_or_false (in_pool s p)) [ inl t ↦ t | inr f ↦ absurd (omega (arith, ap length (sound.no_queue_elsewhere p f))) ]

pub taking_place : (l : List ℕ) (p : ℕ) → OfState l (CanTake p 0) → OfState l (IsPlace p)
taking_place l p f = of_state _ λ s rest h. in_places s h.sound p (queued_lives s h.sound p (holding _ f s rest h))

-- the names of a queue without the last
newest_gone : (queue : List Message) → 0 < length queue → take (length queue - 1) (map name_word queue) ++ drop (suc (length queue - 1)) (map name_word queue) ≡ map name_word (but_last queue)
unfolding but_last
newest_gone [] h = absurd (omega arith)
newest_gone (m ∷ []) h = refl
newest_gone (m ∷ (n ∷ queue)) h =
    let one : length (m ∷ (n ∷ queue)) - 1 ≡ suc (length (n ∷ queue) - 1) = omega arith in
    ap (λ (k : ℕ). take k (map name_word (m ∷ (n ∷ queue))) ++ drop (suc k) (map name_word (m ∷ (n ∷ queue)))) one
    ∙ ap (λ (r : List ℕ). name_word m ∷ r) (newest_gone (n ∷ queue) (omega arith))

module _ (l : List ℕ) (p : ℕ) (r : Span) (at : Spanned p 0 l r) where
  -- the present of a process, as it is lent
  lent : (s : State) (rest : List ℕ) → Holds l s rest → (process : Process) → s.processes p ≡ some process → p < s.sizes.places
      → mid_of r.from (r.«end» - r.from) l ≡ slot_words s.sizes (present_slot process (s.queues p))
  lent s rest h process e hp =
      let x = holding _ at.there s rest h in
      present_lent s p process e rest l h.words r.from (span_size r) hp x.from_is x.size_is

  -- its names have room
  names_fit : (s : State) (rest : List ℕ) → Holds l s rest → (process : Process) → s.processes p ≡ some process → p < s.sizes.places
      → NamesRoom r.words (mid_of r.from (r.«end» - r.from) l) × (get_or (mid_of r.from (r.«end» - r.from) l) 4 0 ≡ length (s.queues p)) × (length (mid_of r.from (r.«end» - r.from) l) ≡ slot_size s.sizes)
  names_fit s rest h process e hp =
      let w = mid_of r.from (r.«end» - r.from) l in
      let x = holding _ at.there s rest h in
      let z = present_slot process (s.queues p) in
      let same = lent s rest h process e hp in
      let count : get_or w 4 0 ≡ length (s.queues p) = ap (λ (v : List ℕ). get_or v 4 0) same ∙ names_count s.sizes z ∙ length-map (s.queues p) name_word in
      let long : length w ≡ slot_size s.sizes = ap length same ∙ length_slot s.sizes z in
      let few = queue_few s p process e h.sound in
      let most = names_most s.sizes h.sound.sizes_pass in
      (record { within_slot = omega (arith, length-map (s.queues p) name_word, x.words_are); few = omega (arith, length-map (s.queues p) name_word) }, count, long)

  -- ---- a message more

  pub post_room : (i : IsImage l) → OfState l (CanPost p) → NamesRoom r.words (mid_of r.from (r.«end» - r.from) l)
      × (slot_head + r.words + get_or (mid_of r.from (r.«end» - r.from) l) 4 0 < length (mid_of r.from (r.«end» - r.from) l))
  post_room i f =
      let can = at_image _ i f in
      let s = i.state in
      let (process, e) = process_of s p can.lives in
      let facts = names_fit s i.rest (of_image l i) process e (in_places s i.sound p can.lives) in
      let x = at_image _ i at.there in
      (facts.0, omega (arith, facts.1, facts.2, can.has_room, x.words_are))

  pub post_leads : (name : ℕ) (y : List ℕ) → OfState l (CanPost p) → y ≡ pushed r.words name (mid_of r.from (r.«end» - r.from) l) → Leads l (put_mid r.from (r.«end» - r.from) l y) (Posts p name)
  unfolding Leads within place_slots
  post_leads name y f ey = λ s s' rest h to.
      let can = holding _ f s rest h in
      let x = holding _ at.there s rest h in
      let (process, e) = process_of s p can.lives in
      let queue = s.queues p in
      let queue' = queue ++ (to.message ∷ []) in
      let names : map name_word queue ++ (name ∷ []) ≡ map name_word queue' = ap (λ (n : ℕ). map name_word queue ++ (n ∷ [])) (sym to.named) ∙ sym (map-append name_word queue (to.message ∷ [])) in
      ap (put_mid r.from (span_size r) l) ey
      ∙ present_changed s p process e rest l h.words r.from (span_size r) (in_places s h.sound p can.lives) x.from_is x.size_is
      (pushed r.words name) (present_slot process queue') (apply (post p queue') s)
      (pushed_slot s.sizes (present_slot process queue) r.words name x.words_are ∙ ap (λ (ns : List ℕ). slot_words s.sizes (with_names ns (present_slot process queue))) names)
      (post_elsewhere p s queue')
      (post_slots p s queue' ∙ ap (λ (o : Option Process). place_slots o queue') e)
      ∙ ap (λ (z : State). image z ++ rest) (sym to.after)

  -- ---- a message less

  pub unpost_room : (i : IsImage l) → OfState l (CanTake p 0) → NamesRoom r.words (mid_of r.from (r.«end» - r.from) l) × (0 < get_or (mid_of r.from (r.«end» - r.from) l) 4 0)
  unpost_room i f =
      let can = at_image _ i f in
      let s = i.state in
      let lives = queued_lives s i.sound p can in
      let (process, e) = process_of s p lives in
      let facts = names_fit s i.rest (of_image l i) process e (in_places s i.sound p lives) in
      (facts.0, omega (arith, facts.1, can))

  pub unpost_leads : (y : List ℕ) → OfState l (CanTake p 0)
      → y ≡ without r.words (get_or (mid_of r.from (r.«end» - r.from) l) 4 0 - 1) (mid_of r.from (r.«end» - r.from) l) → Leads l (put_mid r.from (r.«end» - r.from) l y) (Unposts p)
  unfolding Leads Unposts within place_slots
  unpost_leads y f ey = λ s s' rest h to.
      let can = holding _ f s rest h in
      let x = holding _ at.there s rest h in
      let lives = queued_lives s h.sound p can in
      let hp = in_places s h.sound p lives in
      let (process, e) = process_of s p lives in
      let queue = s.queues p in
      let queue' = but_last queue in
      let z = present_slot process queue in
      let count = (names_fit s rest h process e hp).1 in
      let few = queue_few s p process e h.sound in
      ap (put_mid r.from (span_size r) l) ey
      ∙ (λ i. put_mid r.from (span_size r) l (without r.words (count i - 1) (mid_of r.from (span_size r) l)))
      ∙ present_changed s p process e rest l h.words r.from (span_size r) hp x.from_is x.size_is
      (without r.words (length queue - 1)) (present_slot process queue') (apply (post p queue') s)
      (without_slot s.sizes z r.words (length queue - 1) x.words_are (omega (arith, length-map queue name_word)) few
      ∙ ap (λ (ns : List ℕ). slot_words s.sizes (with_names ns z)) (newest_gone queue can))
      (post_elsewhere p s queue')
      (post_slots p s queue' ∙ ap (λ (o : Option Process). place_slots o queue') e)
      ∙ ap (λ (z' : State). image z' ++ rest) (sym to)
