-- Slots as they are read: the kind of an entry by its slot's kind, and the shapes that slots of entries have.
use Prim.Native.Nat.{ℕ, suc, ◌≤◌, ◌<◌}
use mathlib.Core.Path.{◌≡◌, refl, sym, ◌∙◌, ap}
use mathlib.Core.List.{List, [], ◌∷◌, ◌++◌, map, reverse, reverse-reverse, tail}
use native.Mathlib.Omega.{arith}
use lib.ListN.{length, take, drop, get_or, length-map, take-append-drop, get_or-map}
use lib.Seq.{drop-cons, length-take-le}
use Rattle.lists.specs.Lists.{All}
use Rattle.lists.proofs.All.{all_so, all_any, map_same, map_reverse, maps_after}
use Rattle.machine.specs.Work.{to_send, work}
use Rattle.rules.specs.State.{Message, Kind, seq, send, rec, spawn, self, check, as_rec, Entry}
use Rattle.rules.specs.Depends.{queue_before}
use Rattle.store.specs.Layout.{name_word, kind_seq, kind_send, kind_rec, kind_spawn, kind_self, kind_check, kind_live, Slot, kind_number, number_in, entry_slot, present_slot, place_slots}
use Rattle.store.proofs.Restoring.{send_kind, rec_of, read_message, read_kind, read_entry, read_process, read_queue}

-- what the slot of an entry may be
pub data EntryShape (module' : List ℕ) (x : Slot) : Type 0 where
  seq_slot : x.kind ≡ kind_seq → x.number ≡ 0 → x.names ≡ [] → EntryShape module' x
  send_slot : x.kind ≡ kind_send → x.number ≡ 0 → x.names ≡ [] → (target : ℕ) (value next : List ℕ) → work module' x.control ≡ to_send target value next → EntryShape module' x
  rec_slot : x.kind ≡ kind_rec → x.number < length x.names → EntryShape module' x
  spawn_slot : x.kind ≡ kind_spawn → x.names ≡ [] → EntryShape module' x
  self_slot : x.kind ≡ kind_self → x.number ≡ 0 → x.names ≡ [] → EntryShape module' x
  check_slot : x.kind ≡ kind_check → x.number ≤ 255 → x.names ≡ [] → EntryShape module' x

-- and the slot of a process
pub record PresentShape (x : Slot) : Type 0 where
  pub is_live : x.kind ≡ kind_live
  pub no_number : x.number ≡ 0

module _ (module' : List ℕ) (places : ℕ → List Slot) where
  abbrev pub messages_of : List ℕ → List Message
  messages_of names = map (read_message module' places) names

  -- a message read of a word has that word for its name
  pub name_read : (w : ℕ) → name_word (read_message module' places w) ≡ w
  unfolding read_message
  name_read w = omega arith

  pub names_read : (names : List ℕ) → map name_word (messages_of names) ≡ names
  names_read names = maps_after (read_message module' places) name_word names ∙ map_same (λ w. name_word (read_message module' places w)) names (all_any name_read names)

  -- ---- the kind that is read of a slot

  module _ (x : Slot) where
    as_kind : (kind : ℕ) → x.kind ≡ kind → (read_entry module' places x).kind ≡ read_kind module' places kind x.number x.control x.names
    unfolding read_entry
    as_kind kind e = ap (λ (k : ℕ). read_kind module' places k x.number x.control x.names) e

    pub read_seq : x.kind ≡ kind_seq → (read_entry module' places x).kind ≡ seq
    unfolding read_kind
    read_seq e = as_kind kind_seq e

    pub read_send_lem : x.kind ≡ kind_send → (target : ℕ) (value next : List ℕ) → work module' x.control ≡ to_send target value next → (read_entry module' places x).kind ≡ send target value
    unfolding read_kind send_kind
    read_send_lem e target value next w = as_kind kind_send e ∙ ap send_kind w

    pub read_spawn : x.kind ≡ kind_spawn → (read_entry module' places x).kind ≡ spawn x.number
    unfolding read_kind
    read_spawn e = as_kind kind_spawn e

    pub read_self : x.kind ≡ kind_self → (read_entry module' places x).kind ≡ self
    unfolding read_kind
    read_self e = as_kind kind_self e

    pub read_check : x.kind ≡ kind_check → (read_entry module' places x).kind ≡ check x.number
    unfolding read_kind
    read_check e = as_kind kind_check e

    -- what stood before and after the message of a rec, and the message
    abbrev pub older_of : List Message
    older_of = take x.number (messages_of x.names)

    abbrev pub taken_of : Message
    taken_of = read_message module' places (get_or x.names x.number 0)

    abbrev pub newer_of : List Message
    newer_of = drop (suc x.number) (messages_of x.names)

    from_taken : x.number < length x.names → drop x.number (messages_of x.names) ≡ taken_of ∷ newer_of
    from_taken h =
        let queue = messages_of x.names in
        drop-cons queue x.number (read_message module' places 0) (omega (arith, length-map x.names (read_message module' places)))
        ∙ ap (λ (m : Message). m ∷ newer_of) (get_or-map (read_message module' places) x.names x.number 0)

    pub queue_split : x.number < length x.names → messages_of x.names ≡ older_of ++ (taken_of ∷ newer_of)
    queue_split h = sym (take-append-drop x.number (messages_of x.names)) ∙ ap (λ (q : List Message). older_of ++ q) (from_taken h)

    pub read_rec : x.kind ≡ kind_rec → x.number < length x.names → (read_entry module' places x).kind ≡ rec older_of taken_of newer_of
    unfolding read_kind rec_of
    read_rec e h = as_kind kind_rec e ∙ ap (rec_of older_of) (from_taken h)

    -- ---- a slot of an entry's shape is the slot of the entry that is read of it

    slot_as : (kind : Kind) → (read_entry module' places x).kind ≡ kind → kind_number kind ≡ x.kind → number_in kind ≡ x.number → map name_word (queue_before (as_rec kind)) ≡ x.names
        → entry_slot (read_entry module' places x) ≡ x
    unfolding read_entry
    slot_as kind e k n names = λ i. record {
      kind = (ap kind_number e ∙ k) i;
      number = (ap number_in e ∙ n) i;
      control = x.control;
      names = (ap (λ (y : Kind). map name_word (queue_before (as_rec y))) e ∙ names) i;
    }

    pub slot_of_entry : EntryShape module' x → entry_slot (read_entry module' places x) ≡ x
    unfolding kind_number number_in as_rec queue_before
    slot_of_entry (seq_slot k n names) = slot_as seq (read_seq k) (sym k) (sym n) (sym names)
    slot_of_entry (send_slot k n names target value next w) = slot_as (send target value) (read_send_lem k target value next w) (sym k) (sym n) (sym names)
    slot_of_entry (rec_slot k h) =
        slot_as (rec older_of taken_of newer_of) (read_rec k h) (sym k) (length-take-le x.number (messages_of x.names) (omega (arith, length-map x.names (read_message module' places))))
        (ap (map name_word) (sym (queue_split h)) ∙ names_read x.names)
    slot_of_entry (spawn_slot k names) = slot_as (spawn x.number) (read_spawn k) (sym k) refl (sym names)
    slot_of_entry (self_slot k n names) = slot_as self (read_self k) (sym k) (sym n) (sym names)
    slot_of_entry (check_slot k h names) = slot_as (check x.number) (read_check k) (sym k) refl (sym names)

  -- the slots of a place, read and laid out again
  pub slots_again : (xs : List Slot) → ((x : Slot) (ys : List Slot) → xs ≡ x ∷ ys → PresentShape x) → All (EntryShape module') (tail xs) → place_slots (read_process module' places xs) (read_queue module' places xs) ≡ xs
  unfolding place_slots read_process read_queue
  slots_again [] present entries = refl
  slots_again (x ∷ xs) present entries =
      let p = present x xs refl in
      let first : present_slot (record { control = x.control; history = map (read_entry module' places) (reverse xs) }) (messages_of x.names) ≡ x =
      λ i. record { kind = sym p.is_live i; number = sym p.no_number i; control = x.control; names = names_read x.names i } in
      let others : map entry_slot (reverse (map (read_entry module' places) (reverse xs))) ≡ xs =
      ap (λ (es : List Entry). map entry_slot (reverse es)) (map_reverse (read_entry module' places) xs)
      ∙ ap (map entry_slot) (reverse-reverse (map (read_entry module' places) xs))
      ∙ maps_after (read_entry module' places) entry_slot xs
      ∙ map_same (λ y. entry_slot (read_entry module' places y)) xs (all_so slot_of_entry xs entries) in
      λ i. first i ∷ others i
