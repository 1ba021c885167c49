-- An entry less: what the code leaves is the image after.
use Prim.Native.Nat.{ℕ, suc, ◌+◌, ◌-◌, ◌*◌, ◌≤◌, ◌<◌}
use mathlib.Core.Path.{◌≡◌, refl, sym, ◌∙◌, ap, subst}
use mathlib.Core.Bool.{Bool, true, false, not, ◌&&◌}
use mathlib.Core.Option.{Option, none, some}
use mathlib.Core.List.{List, [], ◌∷◌, ◌++◌, map}
use native.Mathlib.Omega.{arith}
use lib.ListN.{length, take, drop, get_or, replicate}
use lib.Seq.{get_or_at, get_or-take, get_or-drop}
use borrow.Rule.Slice.PartMut.{mid_of, put_mid}
use Rattle.lists.specs.Fill.{fill_to}
use Rattle.lists.proofs.Fill.{fill_none}
use Rattle.lists.proofs.Tests.{none_not_some, some_injective, true_not_false, and_left, eqb_same, cond_true}
use Rattle.lists.proofs.Tables.{put_same, put_other}
use Rattle.lists.proofs.Blocks.{mid_mid}
use Rattle.rules.specs.State.{Message, Kind, seq, send, rec, spawn, self, check, as_rec, Entry, Process, State, history_of, history_at, entry_at, is_process, in_pool, same_queue}
use Rattle.rules.specs.Flight.{sends, flies, awaited}
use Rattle.rules.specs.Answers.{held}
use Rattle.rules.specs.Depends.{queue_before}
use Rattle.rules.specs.Commands.{nothing, own_queue, other, turn, set_process, set_beside, set_queue, apply, Plan, need, undone, is_new, untouched, undoing, backing, at_process, back, run, after_plan, run_state}
use Rattle.store.specs.Image.{IsImage}
use Rattle.store.specs.Layout.{blocks_from, slot_head, slot_size, block_size, kind_rec, kind_spawn, kind_live, kind_number, number_in, name_word, Slot, free_slot, slot_words, entry_slot, present_slot, place_slots, slots_at, block, image}
use Rattle.store.proofs.SoundStates.{in_places}
use Rattle.store.proofs.View.{ElsewhereSame}
use Rattle.store.proofs.Slots.{slot_freed}
use Rattle.store.proofs.Moves.{elsewhere_then, standing, turn_elsewhere, turn_slots, rec_elsewhere, rec_slots, process_elsewhere, process_slots, grown, length_slots}
use Rattle.reading.specs.Reads.{Holds, OfState, IsPlace, IsEntry, OfEntry}
use Rattle.reading.proofs.Holding.{of_image, holding, of_state}
use Rattle.writing.specs.declared.spans.Span.{Span}
use Rattle.writing.specs.Slots.{headed, within, copied, cleared, shrunk_words, released_words, span_size, Spanned}
use Rattle.writing.specs.Writes.{Leads, Undoes, CanUndo}
use Rattle.writing.proofs.SlotWrites.{names_count, headed_slot, front_slot}
use Rattle.writing.proofs.SlotCode.{cleared_written}
use Rattle.writing.proofs.StoreWrites.{slot_inside, slot_there, slot_put, present_word, present_changed, front_put, elsewhere_back}

-- ---- what an accepted undo does

data Undone (s : State) (p : ℕ) (x : Entry) (older : List Entry) (s' : State) : Type 0 where
  plain : ¬ (kind_number x.kind ≡ kind_rec) → ¬ (kind_number x.kind ≡ kind_spawn) → s' ≡ apply (turn p (standing x.before older) nothing) s → Undone s p x older s'
  gives : (before : List Message) (m : Message) (after : List Message) → x.kind ≡ rec before m after → s' ≡ apply (turn p (standing x.before older) (own_queue (before ++ (m ∷ after)))) s → Undone s p x older s'
  frees : (child : ℕ) → x.kind ≡ spawn child → untouched s child ≡ true → s' ≡ apply (turn p (standing x.before older) (other child none)) s → Undone s p x older s'

record Newest (s : State) (p : ℕ) (s' : State) : Type 0 where
  entry : Entry
  older : List Entry
  control : List ℕ
  lives : s.processes p ≡ some (standing control (entry ∷ older))
  undo : Undone s p entry older s'

needed_true : (b : Bool) (n : ℕ) (plan : Plan) (s s' : State) → after_plan (need b n plan) s ≡ some s' → b ≡ true
unfolding need after_plan
needed_true true n plan s s' e = refl
needed_true false n plan s s' e = none_not_some e

needed_then : (b : Bool) (n : ℕ) (plan : Plan) (s s' : State) → after_plan (need b n plan) s ≡ some s' → after_plan plan s ≡ some s'
unfolding need after_plan
needed_then true n plan s s' e = e
needed_then false n plan s s' e = none_not_some e

module _ (s s' : State) (p : ℕ) where
  by_kind : (x : Entry) (older : List Entry) (kind : Kind) → x.kind ≡ kind → after_plan (undoing s p x older kind) s ≡ some s' → Undone s p x older s'
  unfolding undoing undone after_plan kind_number
  by_kind x older seq k e = plain (λ z. omega (arith, ap kind_number k)) (λ z. omega (arith, ap kind_number k)) (sym (some_injective e))
  by_kind x older (send target value) k e =
      plain (λ z. omega (arith, ap kind_number k)) (λ z. omega (arith, ap kind_number k)) (sym (some_injective (needed_then (flies s p (sends older) target) held (undone p x older nothing) s s' e)))
  by_kind x older (rec before m after) k e =
      gives before m after k (sym (some_injective (needed_then (same_queue (s.queues p) (before ++ after)) held (undone p x older (own_queue (before ++ (m ∷ after)))) s s' e)))
  by_kind x older (spawn child) k e =
      frees child k (needed_true (untouched s child) held (undone p x older (other child none)) s s' e) (sym (some_injective (needed_then (untouched s child) held (undone p x older (other child none)) s s' e)))
  by_kind x older self k e = plain (λ z. omega (arith, ap kind_number k)) (λ z. omega (arith, ap kind_number k)) (sym (some_injective e))
  by_kind x older (check number) k e = plain (λ z. omega (arith, ap kind_number k)) (λ z. omega (arith, ap kind_number k)) (sym (some_injective e))

  by_history : (control : List ℕ) (h : List Entry) → s.processes p ≡ some (standing control h) → after_plan (backing s p h) s ≡ some s' → Newest s p s'
  unfolding backing after_plan
  by_history control [] i e = none_not_some e
  by_history control (x ∷ older) i e = record { entry = x; older = older; control = control; lives = i; undo = by_kind x older x.kind refl e }

  newest : run_state (back p) s ≡ some s' → Newest s p s'
  unfolding run_state run at_process after_plan
  newest e = go (s.processes p) refl e
    where
      go : (o : Option Process) → s.processes p ≡ o → after_plan (at_process o (λ a. backing s p a.history)) s ≡ some s' → Newest s p s'
      go none i e = none_not_some e
      go (some a) i e = by_history a.control a.history i e

-- ---- the state with an entry less

-- the first words of a part
front_of : (l v : List ℕ) (at size k : ℕ) → k ≤ size → mid_of at size l ≡ v → mid_of at k l ≡ take k v
front_of l v at size k h e = let same : at ≡ at + 0 = omega arith in ap (λ (j : ℕ). mid_of j k l) same ∙ sym (mid_mid at size 0 k l (omega arith)) ∙ ap (take k) e

module _ (s : State) (rest l : List ℕ) (e : l ≡ image s ++ rest) (p : ℕ) (control : List ℕ) (x : Entry) (older : List Entry) (lives : s.processes p ≡ some (standing control (x ∷ older))) (hp : p < s.sizes.places)
    (few : length older < s.sizes.entries) (at size : ℕ) (b : at ≡ blocks_from + p * block_size s.sizes + suc (length older) * slot_size s.sizes) (c : size ≡ slot_size s.sizes) where
  abbrev front : List Slot
  front = place_slots (some (standing control older)) (s.queues p)

  slots_split : slots_at s p ≡ front ++ (entry_slot x ∷ [])
  unfolding slots_at
  slots_split = ap (λ (o : Option Process). place_slots o (s.queues p)) lives ∙ grown control x older (s.queues p)

  front_long : length front ≡ suc (length older)
  front_long = length_slots (standing control older) (s.queues p)

  newest_there : mid_of at size l ≡ slot_words s.sizes (entry_slot x)
  newest_there =
      slot_there s rest l e p (suc (length older)) at size hp (omega arith) b c
      ∙ ap (slot_words s.sizes) (ap (λ (xs : List Slot). get_or xs (suc (length older)) free_slot) slots_split ∙ get_or_at front (entry_slot x) [] free_slot (suc (length older)) front_long)

  -- its slot cleared
  newest_cleared : (s' : State) → ElsewhereSame p s s' → slots_at s' p ≡ front → cleared at size l ≡ image s' ++ rest
  unfolding cleared
  newest_cleared s' same slots =
      let long = slot_size s.sizes in
      let n = suc (length older) in
      ap (put_mid at size l) (fill_none size 0 ∙ ap (λ (k : ℕ). replicate k 0) c)
      ∙ slot_put s rest l e p n at size hp (omega arith) b c s' (replicate long 0) same
      (ap (λ (xs : List Slot). put_mid (n * long) long (block s.sizes xs) (replicate long 0)) slots_split
      ∙ slot_freed s.sizes front (entry_slot x) (n * long) long (omega (arith, front_long)) (ap (λ (k : ℕ). k * long) (sym front_long)) refl
      ∙ ap (block s.sizes) (sym slots))

  module _ (to words : ℕ) (a : to ≡ blocks_from + p * block_size s.sizes + 0 * slot_size s.sizes) (w : words ≡ s.sizes.words) where
    abbrev queue : List Message
    queue = s.queues p

    abbrev before : Process
    before = standing control (x ∷ older)

    -- the control before, and the entry still there
    abbrev between : Process
    between = standing x.before (x ∷ older)

    control_returned : copied at to (slot_head + words) kind_live 0 (get_or l (to + 4) 0) l ≡ image (apply (turn p between nothing) s) ++ rest
    unfolding copied within place_slots
    control_returned =
        let k = slot_head + words in
        let q = get_or l (to + 4) 0 in
        let present = present_slot before queue in
        let y = headed kind_live 0 q (take k (slot_words s.sizes (entry_slot x))) in
        let queued : q ≡ length (map name_word queue) = present_word s p before lives rest l e to size hp a c 4 (omega arith) ∙ names_count s.sizes present in
        ap (λ (v : List ℕ). put_mid to k l (headed kind_live 0 q v)) (front_of l (slot_words s.sizes (entry_slot x)) at size k (omega arith) newest_there)
        ∙ front_put l y to size k (omega arith) (slot_inside s rest l e p 0 to size hp (omega arith) a c)
        ∙ present_changed s p before lives rest l e to size hp a c (λ v. put_mid 0 k v y) (present_slot between queue) (apply (turn p between nothing) s)
        (front_slot s.sizes present (entry_slot x) words kind_live 0 q w queued)
        (turn_elsewhere p s between)
        (turn_slots p s between)

    -- and the queue before
    queue_returned : (old : List Message) (m : Message) (new : List Message) → x.kind ≡ rec old m new → copied at to size kind_live 0 (get_or l (at + 4) 0) l ≡ image (apply (turn p between (own_queue (old ++ (m ∷ new)))) s) ++ rest
    unfolding copied within place_slots as_rec queue_before
    queue_returned old m new k =
        let q = get_or l (at + 4) 0 in
        let was = old ++ (m ∷ new) in
        let z = entry_slot x in
        let queued : q ≡ length z.names = sym (get_or-take size (drop at l) 4 0 (omega arith) ∙ get_or-drop at l 4 0) ∙ ap (λ (v : List ℕ). get_or v 4 0) newest_there ∙ names_count s.sizes z in
        ap (λ (v : List ℕ). put_mid to size l (headed kind_live 0 q v)) newest_there
        ∙ present_changed s p before lives rest l e to size hp a c (λ v. headed kind_live 0 q (slot_words s.sizes z)) (present_slot between was) (apply (turn p between (own_queue was)) s)
        (headed_slot s.sizes z kind_live 0 q queued
        ∙ ap (λ (kind : Kind). slot_words s.sizes (record { kind = kind_live; number = 0; control = x.before; names = map name_word (queue_before (as_rec kind)) })) k)
        (rec_elsewhere p s between was)
        (rec_slots p s between was)

module _ (s : State) (rest l : List ℕ) (e : l ≡ image s ++ rest) (p : ℕ) (control : List ℕ) (x : Entry) (older : List Entry) (lives : s.processes p ≡ some (standing control (x ∷ older))) (hp : p < s.sizes.places)
    (few : length older < s.sizes.entries) (at size : ℕ) (b : at ≡ blocks_from + p * block_size s.sizes + suc (length older) * slot_size s.sizes) (c : size ≡ slot_size s.sizes)
    (to words «end» : ℕ) (a : to ≡ blocks_from + p * block_size s.sizes + 0 * slot_size s.sizes) (w : words ≡ s.sizes.words) (ez : «end» - at ≡ size) where
  shrunk_image : shrunk_words at «end» to words l ≡ image (apply (turn p (standing x.before older) nothing) s) ++ rest
  unfolding shrunk_words apply set_beside set_process
  shrunk_image =
      let l₁ = copied at to (slot_head + words) kind_live 0 (get_or l (to + 4) 0) l in
      let mid = standing x.before (x ∷ older) in
      let after = standing x.before older in
      ap (λ (k : ℕ). cleared at k l₁) ez
      ∙ newest_cleared (apply (turn p mid nothing) s) rest l₁ (control_returned s rest l e p control x older lives hp few at size b c to words a w) p x.before x older
      (put_same p (some mid) s.processes p refl) hp few at size b c (apply (turn p after nothing) s)
      (elsewhere_then (elsewhere_back (turn_elsewhere p s mid)) (turn_elsewhere p s after))
      (turn_slots p s after)

  released_image : (old : List Message) (m : Message) (new : List Message) → x.kind ≡ rec old m new
      → released_words at «end» to l ≡ image (apply (turn p (standing x.before older) (own_queue (old ++ (m ∷ new)))) s) ++ rest
  unfolding released_words apply set_beside set_process set_queue
  released_image old m new k =
      let was = old ++ (m ∷ new) in
      let l₁ = copied at to size kind_live 0 (get_or l (at + 4) 0) l in
      let mid = standing x.before (x ∷ older) in
      let after = standing x.before older in
      (λ i. cleared at (ez i) (copied at to (ez i) kind_live 0 (get_or l (at + 4) 0) l))
      ∙ newest_cleared (apply (turn p mid (own_queue was)) s) rest l₁ (queue_returned s rest l e p control x older lives hp few at size b c to words a w old m new k) p x.before x older
      (put_same p (some mid) s.processes p refl) hp few at size b c (apply (turn p after (own_queue was)) s)
      (elsewhere_then (elsewhere_back (rec_elsewhere p s mid was)) (rec_elsewhere p s after was))
      (rec_slots p s after was ∙ ap (place_slots (some after)) (sym (put_same p was s.queues p refl)))

-- ---- a spawn's child goes

-- the child is a process with no entries
record Fresh (s : State) (q : ℕ) : Type 0 where
  first : List ℕ
  is_there : s.processes q ≡ some (standing first [])

fresh : (s : State) (q : ℕ) → untouched s q ≡ true → Fresh s q
unfolding untouched is_new
fresh s q e = go (s.processes q) refl (and_left (is_new (s.processes q)) (same_queue (s.queues q) []) (and_left (is_new (s.processes q) && same_queue (s.queues q) []) (not (awaited s q)) e))
  where
    of_history : (control : List ℕ) (h : List Entry) → s.processes q ≡ some (standing control h) → is_new (some (standing control h)) ≡ true → Fresh s q
    of_history control [] i e = record { first = control; is_there = i }
    of_history control (x ∷ h) i e = true_not_false e refl

    go : (o : Option Process) → s.processes q ≡ o → is_new o ≡ true → Fresh s q
    go none i e = true_not_false e refl
    go (some process) i e = of_history process.control process.history i e

-- its slot cleared
child_cleared : (s : State) (rest l : List ℕ) → l ≡ image s ++ rest → (q : ℕ) → Fresh s q → q < s.sizes.places → (from size : ℕ) → from ≡ blocks_from + q * block_size s.sizes + 0 * slot_size s.sizes → size ≡ slot_size s.sizes
    → cleared from size l ≡ image (set_process q none s) ++ rest
unfolding cleared slots_at place_slots
child_cleared s rest l e q child hq from size a c =
    let long = slot_size s.sizes in
    let present = present_slot (standing child.first []) (s.queues q) in
    let only : slots_at s q ≡ present ∷ [] = ap (λ (o : Option Process). place_slots o (s.queues q)) child.is_there in
    ap (put_mid from size l) (fill_none size 0 ∙ ap (λ (k : ℕ). replicate k 0) c)
    ∙ slot_put s rest l e q 0 from size hq (omega arith) a c (set_process q none s) (replicate long 0) (process_elsewhere q s none)
    (ap (λ (xs : List Slot). put_mid (0 * long) long (block s.sizes xs) (replicate long 0)) only
    ∙ slot_freed s.sizes [] present (0 * long) long (omega arith) refl refl
    ∙ ap (block s.sizes) (sym (process_slots q s none)))

-- ---- what the calls ask, and where the code leads

-- the newest entry of the state that a store holds
undone_newest : (l : List ℕ) (p : ℕ) → OfState l (CanUndo p) → (s : State) (rest : List ℕ) → Holds l s rest → (s' : State) × Newest s p s'
undone_newest l p f s rest h = let can = holding _ f s rest h in (can.after, newest s can.after p can.accepted)

newest_history : {s s' : State} {p : ℕ} (n : Newest s p s') → history_at s p ≡ n.entry ∷ n.older
unfolding history_at history_of
newest_history n = ap history_of n.lives

newest_lives : {s s' : State} {p : ℕ} → Newest s p s' → in_pool s p ≡ true
unfolding in_pool is_process
newest_lives n = ap is_process n.lives

newest_stands : {s s' : State} {p : ℕ} (n : Newest s p s') (i : ℕ) → i ≡ length n.older → entry_at (history_at s p) i ≡ some n.entry
unfolding entry_at
newest_stands n i e = (λ j. entry_at (newest_history n j) (e j)) ∙ cond_true (some n.entry) (entry_at n.older (length n.older)) (eqb_same (length n.older))

pub undoing_place : (l : List ℕ) (p : ℕ) → OfState l (CanUndo p) → OfState l (IsPlace p)
undoing_place l p f = of_state _ λ s rest h. in_places s h.sound p (newest_lives (undone_newest l p f s rest h).1)

pub newest_index : (l : List ℕ) (p count : ℕ) → OfState l (λ s. count ≡ length (history_at s p)) → OfState l (λ s. count ≤ s.sizes.entries)
newest_index l p count g = of_state _ λ s rest h. omega (arith, holding _ g s rest h, h.sound.history_fits p)

module _ (l : List ℕ) (p count : ℕ) (f : OfState l (CanUndo p)) (g : OfState l (λ s. count ≡ length (history_at s p))) where
  counted : {s s' : State} {rest : List ℕ} → Holds l s rest → (n : Newest s p s') → count ≡ suc (length n.older)
  counted {s} {rest = rest} h n = holding _ g s rest h ∙ ap length (newest_history n)

  pub some_entry : IsImage l → 1 ≤ count
  some_entry i = omega (arith, counted (of_image l i) (undone_newest l p f i.state i.rest (of_image l i)).1)

  pub newest_entry : OfState l (IsEntry p (count - 1))
  newest_entry = of_state _ λ s rest h. let n = (undone_newest l p f s rest h).1 in omega (arith, counted h n, ap length (newest_history n))

  -- what is read of the newest entry
  of_newest : (P : Entry → Type 0) → OfState l (OfEntry p (count - 1) P) → {s s' : State} {rest : List ℕ} → Holds l s rest → (n : Newest s p s') → P n.entry
  unfolding OfEntry
  of_newest P k {s} {rest = rest} h n = holding _ k s rest h n.entry (newest_stands n (count - 1) (omega (arith, counted h n)))

  module _ (r r' : Span) (at : Spanned p 0 l r) (at' : Spanned p count l r') (what : ℕ) (k : OfState l (OfEntry p (count - 1) (λ e. what ≡ kind_number e.kind))) where
    newest_at : {s s' : State} {rest : List ℕ} → Holds l s rest → (n : Newest s p s') → r'.from ≡ blocks_from + p * block_size s.sizes + suc (length n.older) * slot_size s.sizes
    newest_at {s} {rest = rest} h n = (holding _ at'.there s rest h).from_is ∙ ap (λ (j : ℕ). blocks_from + p * block_size s.sizes + j * slot_size s.sizes) (counted h n)

    shrunk_leads : {s s' : State} {rest : List ℕ} → Holds l s rest → (n : Newest s p s') → shrunk_words r'.from r'.«end» r.from r'.words l ≡ image (apply (turn p (standing n.entry.before n.older) nothing) s) ++ rest
    shrunk_leads {s} {rest = rest} h n =
        let x = holding _ at.there s rest h in
        let x' = holding _ at'.there s rest h in
        shrunk_image s rest l h.words p n.control n.entry n.older n.lives (in_places s h.sound p (newest_lives n)) (omega (arith, ap length (newest_history n), h.sound.history_fits p))
        r'.from (span_size r') (newest_at h n) x'.size_is r.from r'.words r'.«end» x.from_is x'.words_are refl

    pub undo_leads : (y : List ℕ) → ¬ (what ≡ kind_rec) → ¬ (what ≡ kind_spawn) → y ≡ shrunk_words r'.from r'.«end» r.from r'.words l → Leads l y (Undoes p)
    unfolding Leads Undoes kind_number
    undo_leads y no_rec no_spawn ey = λ s s' rest h to.
        let n = newest s s' p to in
        let kind = of_newest (λ e. what ≡ kind_number e.kind) k h n in
        ey ∙ shrunk_leads h n ∙ elim n.undo [
          | plain u v after ↦ ap (λ (z : State). image z ++ rest) (sym after)
          | gives b m a j after ↦ absurd (no_rec (kind ∙ ap kind_number j))
          | frees child j t after ↦ absurd (no_spawn (kind ∙ ap kind_number j))
        ]

    pub release_leads : (y : List ℕ) → what ≡ kind_rec → y ≡ released_words r'.from r'.«end» r.from l → Leads l y (Undoes p)
    unfolding Leads Undoes kind_number
    release_leads y is_rec ey = λ s s' rest h to.
        let n = newest s s' p to in
        let kind = of_newest (λ e. what ≡ kind_number e.kind) k h n in
        let x = holding _ at.there s rest h in
        let x' = holding _ at'.there s rest h in
        ey ∙ elim n.undo [
          | plain u v after ↦ absurd (u (sym kind ∙ is_rec))
          | gives b m a j after ↦
              released_image s rest l h.words p n.control n.entry n.older n.lives (in_places s h.sound p (newest_lives n)) (omega (arith, ap length (newest_history n), h.sound.history_fits p))
              r'.from (span_size r') (newest_at h n) x'.size_is r.from r'.words r'.«end» x.from_is x'.words_are refl b m a j
              ∙ ap (λ (z : State). image z ++ rest) (sym after)
          | frees child j t after ↦ absurd (omega (arith, kind, is_rec, ap kind_number j))
        ]

    -- ---- a spawn

    module _ (child : ℕ) (is_spawn : what ≡ kind_spawn) (number : OfState l (OfEntry p (count - 1) (λ e. child ≡ number_in e.kind))) where
      -- the child is a new process, at a place
      freed : {s s' : State} {rest : List ℕ} → Holds l s rest → (n : Newest s p s') → Fresh s child × (s' ≡ apply (turn p (standing n.entry.before n.older) (other child none)) s)
      unfolding kind_number number_in
      freed {s} {s'} h n =
          let kind = of_newest (λ e. what ≡ kind_number e.kind) k h n in
          let named = of_newest (λ e. child ≡ number_in e.kind) number h n in
          elim n.undo [
            | plain u v after ↦ absurd (v (sym kind ∙ is_spawn))
            | gives b m a j after ↦ absurd (omega (arith, kind, is_spawn, ap kind_number j))
            | frees q j t after ↦
                let same : q ≡ child = sym (named ∙ ap number_in j) in
                (subst (λ (c : ℕ). Fresh s c) same (fresh s q t), after ∙ ap (λ (c : ℕ). apply (turn p (standing n.entry.before n.older) (other c none)) s) same)
          ]

      fresh_lives : {s : State} → Fresh s child → in_pool s child ≡ true
      unfolding in_pool is_process
      fresh_lives q = ap is_process q.is_there

      pub child_place : OfState l (IsPlace child)
      child_place = of_state _ λ s rest h. in_places s h.sound child (fresh_lives (freed h (undone_newest l p f s rest h).1).0)

      pub unbear_leads : (r₃ : Span) → Spanned child 0 l r₃ → (l₁ y : List ℕ) → length l₁ ≡ length l → l₁ ≡ shrunk_words r'.from r'.«end» r.from r'.words l
          → y ≡ fill_to (length (mid_of r₃.from (r₃.«end» - r₃.from) l₁)) 0 [] → Leads l (put_mid r₃.from (r₃.«end» - r₃.from) l₁ y) (Undoes p)
      unfolding Leads Undoes apply set_beside set_process history_of
      unbear_leads r₃ at₃ l₁ y long e₁ ey = λ s s' rest h to.
          let n = newest s s' p to in
          let gone = freed h n in
          let after = standing n.entry.before n.older in
          let s₁ = apply (turn p after nothing) s in
          let x₃ = holding _ at₃.there s rest h in
          let apart : ¬ (p ≡ child) = λ same. absurd (omega (arith, ap (λ (o : Option Process). length (history_of o)) (sym n.lives ∙ ap s.processes same ∙ gone.0.is_there))) in
          let still : Fresh s₁ child = record { first = gone.0.first; is_there = put_other p (some after) s.processes child apart ∙ gone.0.is_there } in
          cleared_written l₁ l₁ y r₃.from r₃.«end» (omega (arith, at₃.adds)) (omega (arith, at₃.inside)) refl ey
          ∙ child_cleared s₁ rest l₁ (e₁ ∙ shrunk_leads h n) child still (in_places s h.sound child (fresh_lives gone.0)) r₃.from (span_size r₃) x₃.from_is x₃.size_is
          ∙ ap (λ (z : State). image z ++ rest) (sym gone.1)
