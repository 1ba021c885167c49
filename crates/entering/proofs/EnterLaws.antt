-- An entry more: what the code leaves is the image after.
use Prim.Native.Nat.{ℕ, zero, suc, ◌+◌, ◌-◌, ◌*◌, ◌≤◌, ◌<◌}
use mathlib.Core.Path.{◌≡◌, refl, sym, ◌∙◌, ap}
use mathlib.Core.Option.{Option, none, some}
use mathlib.Core.List.{List, [], ◌∷◌, ◌++◌, map, map-append}
use native.Mathlib.Nat.{zero-mul}
use native.Mathlib.Omega.{arith}
use lib.ListN.{length, take, drop, get_or, length-map, length-append}
use borrow.Rule.Slice.PartMut.{mid_of, put_mid}
use Rattle.lists.proofs.Tests.{true_not_false}
use Rattle.lists.proofs.Tables.{put_same, put_other}
use Rattle.rules.specs.State.{Sizes, Message, Kind, rec, spawn, as_rec, Entry, Process, State, history_at, in_pool}
use Rattle.rules.specs.Depends.{queue_before}
use Rattle.rules.specs.Load.{new_process}
use Rattle.rules.specs.Commands.{nothing, own_queue, turn, entry_with, set_process, set_beside, apply}
use Rattle.store.specs.Image.{IsImage}
use Rattle.store.specs.Layout.{blocks_from, slot_head, slot_size, block_size, kind_rec, kind_spawn, kind_live, kind_number, number_in, name_word, Slot, free_slot, slot_words, present_slot, place_slots, slots_at, block, image}
use Rattle.store.proofs.Lengths.{length_slot}
use Rattle.store.proofs.LayoutLaws.{names_most}
use Rattle.store.proofs.SoundStates.{sizes_in_lem, outside, in_places}
use Rattle.store.proofs.Moves.{elsewhere_then, standing, turn_elsewhere, turn_slots, rec_elsewhere, rec_slots, process_elsewhere, process_slots, born_block}
use Rattle.reading.specs.Reads.{Holds, OfState, IsPlace, control_at}
use Rattle.reading.proofs.Holding.{of_image, at_image, holding, of_state}
use Rattle.writing.specs.declared.spans.Span.{Span}
use Rattle.writing.specs.Slots.{headed, controlled, without, begun, within, copied, span_size, Located, Spanned, ControlRoom}
use Rattle.writing.specs.Writes.{Leads, CanTake}
use Rattle.entering.specs.Entering.{grown_words, kept_words, took_words, GrowRoom, TakeRoom, grown, Enters, Takes, Spawns, CanGrow, CanSpawn}
use Rattle.writing.proofs.SlotWrites.{names_count, with_control, with_names, controlled_slot, headed_slot, without_slot, front_slot, begun_slot}
use Rattle.writing.proofs.SlotCode.{mid_long}
use Rattle.writing.proofs.StoreWrites.{slot_there, slot_put, queue_few, present_lent, present_word, present_front, present_changed, front_put, elsewhere_back, standing_there, free_there, free_inside, made_image}
use Rattle.writing.proofs.SpanLaws.{two_slots}

-- ---- lists

around : (xs ys : List ℕ) (y n : ℕ) → length xs ≡ n → take n (xs ++ (y ∷ ys)) ++ drop (suc n) (xs ++ (y ∷ ys)) ≡ xs ++ ys
around [] ys y zero e = refl
around [] ys y (suc n) e = absurd (omega arith)
around (x ∷ xs) ys y zero e = absurd (omega arith)
around (x ∷ xs) ys y (suc n) e = ap (λ (r : List ℕ). x ∷ r) (around xs ys y n (omega arith))

-- a queue around the message at a place
record Around (queue : List Message) (n : ℕ) : Type 0 where
  older : List Message
  message : Message
  newer : List Message
  whole : queue ≡ older ++ (message ∷ newer)
  at : length older ≡ n

parted : (queue : List Message) (n : ℕ) → n < length queue → Around queue n
parted [] n h = absurd (omega arith)
parted (m ∷ queue) zero h = record { older = []; message = m; newer = queue; whole = refl; at = refl }
parted (m ∷ queue) (suc n) h =
    let x = parted queue n (omega arith) in
    record { older = m ∷ x.older; message = x.message; newer = x.newer; whole = ap (λ (r : List Message). m ∷ r) x.whole; at = omega (arith, x.at) }

-- ---- the state with an entry more

module _ (s : State) (rest l : List ℕ) (e : l ≡ image s ++ rest) (p : ℕ) (control : List ℕ) (h : List Entry) (lives : s.processes p ≡ some (standing control h)) (hp : p < s.sizes.places)
    (few : length h < s.sizes.entries) (from to size words : ℕ) (a : from ≡ blocks_from + p * block_size s.sizes + 0 * slot_size s.sizes)
    (b : to ≡ blocks_from + p * block_size s.sizes + suc (length h) * slot_size s.sizes) (c : size ≡ slot_size s.sizes) (w : words ≡ s.sizes.words) where
  abbrev queue : List Message
  queue = s.queues p

  -- the control and the entry, the present as it was
  abbrev between : Entry → State
  between x = apply (turn p (standing control (x ∷ h)) nothing) s

  between_lives : (x : Entry) → (between x).processes p ≡ some (standing control (x ∷ h))
  unfolding apply set_beside set_process
  between_lives x = put_same p (some (standing control (x ∷ h))) s.processes p refl

  copied_image : (what : Kind) (kind number : ℕ) → kind_number what ≡ kind → number_in what ≡ number → as_rec what ≡ none → copied from to (slot_head + words) kind number 0 l ≡ image (between (entry_with what control)) ++ rest
  unfolding copied queue_before
  copied_image what kind number ek en er =
      let k = slot_head + words in
      let present = present_slot (standing control h) queue in
      let fits : k ≤ slot_size s.sizes = omega arith in
      let y = headed kind number 0 (take k (slot_words s.sizes present)) in
      ap (λ (v : List ℕ). put_mid to k l (headed kind number 0 v)) (present_front s p (standing control h) lives rest l e from size hp a c k fits)
      ∙ front_put l y to size k (omega arith) (free_inside s rest l e p control h lives to size hp few b c)
      ∙ ap (λ (v : List ℕ). put_mid to size l (put_mid 0 k v y)) (free_there s rest l e p control h lives to size hp few b c)
      ∙ made_image s rest l e p control h lives to size hp few b c (entry_with what control) (put_mid 0 k (slot_words s.sizes free_slot) y)
      (front_slot s.sizes free_slot present words kind number 0 w refl
      ∙ (λ i. slot_words s.sizes (record { kind = sym ek i; number = sym en i; control = control; names = map name_word (queue_before (sym er i)) })))

  pub grown_image : (what : Kind) (kind number «end» : ℕ) (next : List ℕ) → kind_number what ≡ kind → number_in what ≡ number → as_rec what ≡ none → «end» - from ≡ size
      → grown_words from «end» to words kind number next l ≡ image (apply (turn p (standing next (entry_with what control ∷ h)) nothing) s) ++ rest
  unfolding grown_words apply set_beside set_process place_slots
  grown_image what kind number «end» next ek en er ez =
      let x = entry_with what control in
      let l₁ = copied from to (slot_head + words) kind number 0 l in
      let after = standing next (x ∷ h) in
      ap (λ (k : ℕ). within from k (controlled words next) l₁) ez
      ∙ present_changed (between x) p (standing control (x ∷ h)) (between_lives x) rest l₁ (copied_image what kind number ek en er) from size hp a c (controlled words next) (present_slot after queue) (apply (turn p after nothing) s)
      (controlled_slot s.sizes (present_slot (standing control (x ∷ h)) queue) words next w)
      (elsewhere_then (elsewhere_back (turn_elsewhere p s (standing control (x ∷ h)))) (turn_elsewhere p s after))
      (turn_slots p s after)

  -- ---- a rec

  module _ (older : List Message) (message : Message) (newer : List Message) (place «end» : ℕ) (whole : queue ≡ older ++ (message ∷ newer)) (at : length older ≡ place) (ez : «end» - from ≡ size) where
    abbrev taken : Entry
    taken = entry_with (rec older message newer) control

    pub kept_image : kept_words from «end» to place l ≡ image (between taken) ++ rest
    unfolding kept_words copied kind_number number_in as_rec queue_before
    kept_image =
        let present = present_slot (standing control h) queue in
        let queued : get_or l (from + 4) 0 ≡ length (map name_word queue) = present_word s p (standing control h) lives rest l e from size hp a c 4 (omega arith) ∙ names_count s.sizes present in
        (λ i. put_mid to (ez i) l (headed kind_rec place (get_or l (from + 4) 0) (mid_of from (ez i) l)))
        ∙ ap (λ (v : List ℕ). put_mid to size l (headed kind_rec place (get_or l (from + 4) 0) v)) (present_lent s p (standing control h) lives rest l e from size hp a c)
        ∙ made_image s rest l e p control h lives to size hp few b c taken (headed kind_rec place (get_or l (from + 4) 0) (slot_words s.sizes present))
        (headed_slot s.sizes present kind_rec place (get_or l (from + 4) 0) queued
        ∙ (λ i. slot_words s.sizes (record { kind = kind_rec; number = sym at i; control = control; names = map name_word (whole i) })))

    -- the present after the copy, as it is lent
    pub kept_lent : mid_of from size (kept_words from «end» to place l) ≡ slot_words s.sizes (present_slot (standing control (taken ∷ h)) queue)
    unfolding apply set_beside set_process
    kept_lent = present_lent (between taken) p (standing control (taken ∷ h)) (between_lives taken) rest (kept_words from «end» to place l) kept_image from size hp a c

    pub took_image : (next : List ℕ) → length (map name_word queue) ≤ s.sizes.places * s.sizes.entries
        → took_words from «end» to words place next l ≡ image (apply (turn p (standing next (taken ∷ h)) (own_queue (older ++ newer))) s) ++ rest
    unfolding took_words apply set_beside set_process place_slots
    took_image next room =
        let l₁ = kept_words from «end» to place l in
        let before = standing control (taken ∷ h) in
        let after = standing next (taken ∷ h) in
        let present = present_slot before queue in
        let change : List ℕ → List ℕ = λ v. controlled words next (without words place v) in
        let names = map name_word queue in
        let left = take place names ++ drop (suc place) names in
        let all : names ≡ map name_word older ++ (name_word message ∷ map name_word newer) = ap (map name_word) whole ∙ map-append name_word older (message ∷ newer) in
        let left_is : left ≡ map name_word (older ++ newer) =
        ap (λ (ns : List ℕ). take place ns ++ drop (suc place) ns) all
        ∙ around (map name_word older) (map name_word newer) (name_word message) place (length-map older name_word ∙ at)
        ∙ sym (map-append name_word older newer) in
        let in_queue : place < length names = omega (arith, ap length whole, length-map queue name_word, length-append older (message ∷ newer)) in
        ap (λ (k : ℕ). within from k change l₁) ez
        ∙ present_changed (between taken) p before (between_lives taken) rest l₁ kept_image from size hp a c change (present_slot after (older ++ newer)) (apply (turn p after (own_queue (older ++ newer))) s)
        (ap (controlled words next) (without_slot s.sizes present words place w in_queue room)
        ∙ controlled_slot s.sizes (with_names left present) words next w
        ∙ ap (λ (ns : List ℕ). slot_words s.sizes (with_names ns (with_control next present))) left_is)
        (elsewhere_then (elsewhere_back (turn_elsewhere p s before)) (rec_elsewhere p s after (older ++ newer)))
        (rec_slots p s after (older ++ newer))

-- ---- what the calls ask

pub growing_place : (l : List ℕ) (p : ℕ) (next : List ℕ) → OfState l (CanGrow p next) → OfState l (IsPlace p)
growing_place l p next f = of_state _ λ s rest h. in_places s h.sound p (holding _ f s rest h).lives

pub growing_index : (l : List ℕ) (p : ℕ) (next : List ℕ) (count : ℕ) → OfState l (CanGrow p next) → OfState l (λ s. count ≡ length (history_at s p)) → OfState l (λ s. count + 1 ≤ s.sizes.entries)
growing_index l p next count f g = of_state _ λ s rest h. omega (arith, (holding _ f s rest h).has_room, holding _ g s rest h)

pub count_small : (l : List ℕ) → IsImage l → (p count : ℕ) → OfState l (λ s. count ≡ length (history_at s p)) → count ≤ 64
count_small l i p count g = omega (arith, at_image _ i g, i.sound.history_fits p, (sizes_in_lem i.state.sizes i.sound.sizes_pass).entries_high)

module _ (l : List ℕ) (p count : ℕ) (next : List ℕ) (r r' : Span) (f : OfState l (CanGrow p next)) (at : Spanned p 0 l r) (at' : Spanned p (count + 1) l r') where
  pub grow_room : IsImage l → GrowRoom r.from r.«end» r'.from r.words next l
  grow_room i = record { slots = two_slots l i p 0 p (count + 1) r r' at at'; short = omega (arith, (at_image _ i f).next_fits, (at_image _ i at.there).words_are) }

  module _ (g : OfState l (λ s. count ≡ length (history_at s p))) where
    made_at : (s : State) (rest : List ℕ) → Holds l s rest → r'.from ≡ blocks_from + p * block_size s.sizes + suc (length (history_at s p)) * slot_size s.sizes
    made_at s rest h =
        let n : count + 1 ≡ suc (length (history_at s p)) = omega (arith, holding _ g s rest h) in
        (holding _ at'.there s rest h).from_is ∙ ap (λ (k : ℕ). blocks_from + p * block_size s.sizes + k * slot_size s.sizes) n

    pub grown_leads : (s : State) (rest : List ℕ) → Holds l s rest → (what : Kind) (kind number : ℕ) → kind_number what ≡ kind → number_in what ≡ number → as_rec what ≡ none
        → grown_words r.from r.«end» r'.from r.words kind number next l ≡ image (apply (turn p (grown s p what next) nothing) s) ++ rest
    unfolding grown
    grown_leads s rest h what kind number ek en er =
        let can = holding _ f s rest h in
        let x = holding _ at.there s rest h in
        grown_image s rest l h.words p (control_at s p) (history_at s p) (standing_there s p can.lives) (in_places s h.sound p can.lives) can.has_room
        r.from r'.from (span_size r) r.words x.from_is (made_at s rest h) x.size_is x.words_are what kind number r.«end» next ek en er refl

    pub enter_leads : (kind number : ℕ) (y : List ℕ) → y ≡ grown_words r.from r.«end» r'.from r.words kind number next l → Leads l y (Enters p kind number next)
    unfolding Leads
    enter_leads kind number y ey = λ s s' rest h to. ey ∙ grown_leads s rest h to.what kind number to.of_kind to.of_number to.no_queue ∙ ap (λ (z : State). image z ++ rest) (sym to.after)

    -- ---- a rec

    module _ (place : ℕ) (can_take : OfState l (CanTake p place)) where
      pub take_room : IsImage l → TakeRoom r.from r.«end» r'.from r.words place next l
      take_room i =
          let s = i.state in
          let h = of_image l i in
          let can = at_image _ i f in
          let x = at_image _ i at.there in
          let queue = s.queues p in
          let one : place < length queue = at_image _ i can_take in
          let q = parted queue place one in
          let there = standing_there s p can.lives in
          let z = present_slot (standing (control_at s p) (entry_with (rec q.older q.message q.newer) (control_at s p) ∷ history_at s p)) queue in
          let l₁ = kept_words r.from r.«end» r'.from place l in
          let w = mid_of r.from (r.«end» - r.from) l₁ in
          let lent : w ≡ slot_words s.sizes z =
          kept_lent s i.rest l h.words p (control_at s p) (history_at s p) there (in_places s i.sound p can.lives) can.has_room
          r.from r'.from (span_size r) r.words x.from_is (made_at s i.rest h) x.size_is x.words_are q.older q.message q.newer place r.«end» q.whole q.at refl in
          let total : get_or w 4 0 ≡ length queue = ap (λ (v : List ℕ). get_or v 4 0) lent ∙ names_count s.sizes z ∙ length-map queue name_word in
          let long : length w ≡ slot_size s.sizes = ap length lent ∙ length_slot s.sizes z in
          let few = queue_few s p (standing (control_at s p) (history_at s p)) there i.sound in
          let most = names_most s.sizes i.sound.sizes_pass in
          record {
            slots = two_slots l i p 0 p (count + 1) r r' at at';
            short = omega (arith, can.next_fits, x.words_are);
            names = record { within_slot = omega (arith, length-map queue name_word, x.words_are); few = omega (arith, length-map queue name_word) };
            one = omega arith;
          }

      pub receive_leads : (y : List ℕ) → y ≡ took_words r.from r.«end» r'.from r.words place next l → Leads l y (Takes p place next)
      unfolding Leads grown
      receive_leads y ey = λ s s' rest h to.
          let can = holding _ f s rest h in
          let x = holding _ at.there s rest h in
          let there = standing_there s p can.lives in
          ey
          ∙ took_image s rest l h.words p (control_at s p) (history_at s p) there (in_places s h.sound p can.lives) can.has_room
          r.from r'.from (span_size r) r.words x.from_is (made_at s rest h) x.size_is x.words_are to.older to.message to.newer place r.«end» to.queue to.at refl next
          (queue_few s p (standing (control_at s p) (history_at s p)) there h.sound)
          ∙ ap (λ (z : State). image z ++ rest) (sym to.after)

-- ---- a spawn

pub spawning_place : (l : List ℕ) (q : ℕ) (first : List ℕ) → OfState l (CanSpawn q first) → OfState l (IsPlace q)
spawning_place l q first f = of_state _ λ s rest h. (holding _ f s rest h).is_place

pub spawn_small : (l : List ℕ) → IsImage l → (q : ℕ) (first : List ℕ) → OfState l (CanSpawn q first) → q < 16
spawn_small l i q first f = omega (arith, (at_image _ i f).is_place, (sizes_in_lem i.state.sizes i.sound.sizes_pass).places_high)

module _ (l : List ℕ) (q : ℕ) (first : List ℕ) (r : Span) (f : OfState l (CanSpawn q first)) (at : Spanned q 0 l r) where
  pub begin_room : IsImage l → (l₁ : List ℕ) → length l₁ ≡ length l → ControlRoom r.words first (mid_of r.from (r.«end» - r.from) l₁)
  begin_room i l₁ long =
      let x = at_image _ i at.there in
      record {
        within_slot = omega (arith, mid_long r.from (r.«end» - r.from) l₁ (omega (arith, at.adds, at.inside)), at.adds, at.head_in);
        short = omega (arith, (at_image _ i f).first_fits, x.words_are);
        few = at.few_words;
      }

  -- the child's block, in a state that has the sizes of s and no process there
  born_image : (s s₁ : State) (rest l₁ : List ℕ) → Located q 0 r s → s.sizes ≡ s₁.sizes → q < s₁.sizes.places → s₁.processes q ≡ none → s₁.queues q ≡ [] → l₁ ≡ image s₁ ++ rest
      → (y : List ℕ) → y ≡ begun r.words kind_live first (mid_of r.from (span_size r) l₁) → put_mid r.from (span_size r) l₁ y ≡ image (set_process q (some (new_process first)) s₁) ++ rest
  unfolding slots_at place_slots
  born_image s s₁ rest l₁ x same hq free empty e₁ y ey =
      let long = slot_size s₁.sizes in
      let a : r.from ≡ blocks_from + q * block_size s₁.sizes + 0 * slot_size s₁.sizes = x.from_is ∙ ap (λ (z : Sizes). blocks_from + q * block_size z + 0 * slot_size z) same in
      let c : span_size r ≡ slot_size s₁.sizes = x.size_is ∙ ap (λ (z : Sizes). slot_size z) same in
      let w : r.words ≡ s₁.sizes.words = x.words_are ∙ ap (λ (z : Sizes). z.words) same in
      let none_there : slots_at s₁ q ≡ [] = ap (λ (o : Option Process). place_slots o (s₁.queues q)) free in
      let born = present_slot (new_process first) [] in
      let lent : mid_of r.from (span_size r) l₁ ≡ slot_words s₁.sizes free_slot =
      slot_there s₁ rest l₁ e₁ q 0 r.from (span_size r) hq (omega arith) a c ∙ ap (λ (xs : List Slot). slot_words s₁.sizes (get_or xs 0 free_slot)) none_there in
      ap (put_mid r.from (span_size r) l₁) (ey ∙ ap (begun r.words kind_live first) lent ∙ begun_slot s₁.sizes free_slot r.words kind_live first w)
      ∙ slot_put s₁ rest l₁ e₁ q 0 r.from (span_size r) hq (omega arith) a c (set_process q (some (new_process first)) s₁) (slot_words s₁.sizes born) (process_elsewhere q s₁ (some (new_process first)))
      ((λ i. put_mid (zero-mul long i) long (block s₁.sizes (none_there i)) (slot_words s₁.sizes born))
      ∙ born_block s₁.sizes first [] long refl
      ∙ ap (λ (ms : List Message). block s₁.sizes (place_slots (some (new_process first)) ms)) (sym empty)
      ∙ ap (block s₁.sizes) (sym (process_slots q s₁ (some (new_process first)))))

  pub bear_leads : (p count : ℕ) (next : List ℕ) (r₁ r₂ : Span) (can-grow : OfState l (CanGrow p next)) (at₁ : Spanned p 0 l r₁) (at₂ : Spanned p (count + 1) l r₂) (g : OfState l (λ s. count ≡ length (history_at s p)))
      (l₁ y : List ℕ) → l₁ ≡ grown_words r₁.from r₁.«end» r₂.from r₁.words kind_spawn q next l → y ≡ begun r.words kind_live first (mid_of r.from (r.«end» - r.from) l₁)
      → Leads l (put_mid r.from (r.«end» - r.from) l₁ y) (Spawns p q next first)
  unfolding Leads Spawns apply set_beside set_process kind_number number_in as_rec
  bear_leads p count next r₁ r₂ can-grow at₁ at₂ g l₁ y e₁ ey = λ s s' rest h to.
      let can = holding _ f s rest h in
      let lives = (holding _ can-grow s rest h).lives in
      let after = grown s p (spawn q) next in
      let s₁ = apply (turn p after nothing) s in
      let free : s₁.processes q ≡ none = put_other p (some after) s.processes q (λ same. true_not_false lives (ap (in_pool s) same ∙ can.is_free)) ∙ outside s q can.is_free in
      born_image s s₁ rest l₁ (holding _ at.there s rest h) refl can.is_place free (h.sound.no_queue_elsewhere q can.is_free)
      (e₁ ∙ grown_leads l p count next r₁ r₂ can-grow at₁ at₂ g s rest h (spawn q) kind_spawn q refl refl refl)
      y ey
      ∙ ap (λ (z : State). image z ++ rest) (sym to)
