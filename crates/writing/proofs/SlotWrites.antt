-- What is written into the words of a slot leaves the words of the slot that is meant.
use Prim.Native.Nat.{ℕ, zero, suc, ◌+◌, ◌-◌, ◌≤◌, ◌<◌}
use mathlib.Core.Path.{◌≡◌, refl, sym, ◌∙◌, ap}
use mathlib.Core.List.{List, [], ◌∷◌, ◌++◌, append-nil}
use native.Mathlib.Omega.{arith}
use lib.ListN.{length, take, drop, get_or, set, length-append, length-drop}
use lib.Seq.{take_at, drop_at, drop-length, length-take-le}
use borrow.Rule.Slice.PartMut.{mid_of, put_mid}
use Rattle.lists.specs.Fill.{fill_to}
use Rattle.lists.proofs.Fill.{length_fill, take_fill, fill_more}
use Rattle.lists.proofs.Blocks.{mid_behind, put_behind}
use Rattle.rules.specs.State.{Sizes}
use Rattle.store.specs.Layout.{slot_head, names_room, Slot, slot_words}
use Rattle.store.proofs.Lengths.{length_slot}
use Rattle.store.proofs.Slots.{slot_front}
use Rattle.writing.specs.Slots.{headed, controlled, pushed, without, begun}

-- ---- lists

pub set_behind : (xs ys : List ℕ) (n i a : ℕ) → length xs ≡ n → set (xs ++ ys) (n + i) a ≡ xs ++ set ys i a
set_behind [] ys n i a e = let same : n + i ≡ i = omega arith in ap (λ (k : ℕ). set ys k a) same
set_behind (x ∷ xs) ys zero i a e = absurd (omega arith)
set_behind (x ∷ xs) ys (suc n) i a e =
    let same : suc n + i ≡ suc (n + i) = omega arith in
    ap (λ (k : ℕ). set (x ∷ (xs ++ ys)) k a) same ∙ ap (λ (r : List ℕ). x ∷ r) (set_behind xs ys n i a (omega arith))

-- the name at a place taken out of a row of names with zeros behind them
gap_closed : (room place left : ℕ) (names : List ℕ) → place < length names → length names ≤ room → left ≡ room - place
    → put_mid place left (fill_to room 0 names) (fill_to left 0 (mid_of (suc place) (length names - suc place) (fill_to room 0 names))) ≡ fill_to room 0 (take place names ++ drop (suc place) names)
unfolding fill_to
gap_closed room place left [] h g e = absurd (omega arith)
gap_closed zero place left (x ∷ xs) h g e = absurd (omega arith)
gap_closed (suc room) zero left (x ∷ xs) h g e =
    let whole : left ≡ suc room = omega arith in
    let behind : length (x ∷ xs) - 1 ≡ length xs = omega arith in
    let row : take (length (x ∷ xs) - 1) (fill_to room 0 xs) ≡ xs = ap (λ (k : ℕ). take k (fill_to room 0 xs)) behind ∙ take_fill room 0 xs (omega arith) in
    let none : drop left (x ∷ fill_to room 0 xs) ≡ [] = ap (λ (k : ℕ). drop k (x ∷ fill_to room 0 xs)) whole ∙ ap (λ (k : ℕ). drop k (fill_to room 0 xs)) (sym (length_fill room 0 xs)) ∙ drop-length (fill_to room 0 xs) in
    (λ i. fill_to left 0 (row i) ++ none i) ∙ append-nil (fill_to left 0 xs) ∙ ap (λ (k : ℕ). fill_to k 0 xs) whole
gap_closed (suc room) (suc place) left (x ∷ xs) h g e =
    let same : length (x ∷ xs) - suc (suc place) ≡ length xs - suc place = omega arith in
    ap (λ (k : ℕ). put_mid (suc place) left (x ∷ fill_to room 0 xs) (fill_to left 0 (mid_of (suc (suc place)) k (x ∷ fill_to room 0 xs)))) same
    ∙ ap (λ (r : List ℕ). x ∷ r) (gap_closed room place left xs (omega arith) (omega arith) (omega arith))

-- ---- slots

-- a slot with one of its parts replaced
abbrev pub with_control : List ℕ → Slot → Slot
with_control control x = record { kind = x.kind; number = x.number; control = control; names = x.names }

abbrev pub with_names : List ℕ → Slot → Slot
with_names names x = record { kind = x.kind; number = x.number; control = x.control; names = names }

abbrev pub with_head : ℕ → ℕ → Slot → Slot
with_head kind number x = record { kind = kind; number = number; control = x.control; names = x.names }

module _ (sizes : Sizes) (x : Slot) where
  abbrev ctrl : List ℕ
  ctrl = fill_to sizes.words 0 x.control

  abbrev rowed : List ℕ
  rowed = fill_to (names_room sizes) 0 x.names

  -- what stands before the names, and the names
  split : slot_words sizes x ≡ (slot_front x ++ ctrl) ++ rowed
  unfolding slot_words
  split = refl

  split_length : length (slot_front x ++ ctrl) ≡ slot_head + sizes.words
  split_length = length-append (slot_front x) ctrl ∙ omega (arith, length_fill sizes.words 0 x.control)

  pub names_count : get_or (slot_words sizes x) 4 0 ≡ length x.names
  unfolding slot_words
  names_count = refl

  pub controlled_slot : (words : ℕ) (control : List ℕ) → words ≡ sizes.words → controlled words control (slot_words sizes x) ≡ slot_words sizes (with_control control x)
  unfolding controlled slot_words
  controlled_slot words control e =
      λ i. x.kind ∷ length control ∷ x.number ∷ 0 ∷ length x.names ∷ 0 ∷ 0 ∷ 0 ∷ (fill_to (e i) 0 control ++ drop_at ctrl rowed words (length_fill sizes.words 0 x.control ∙ sym e) i)

  pub headed_slot : (kind number count : ℕ) → count ≡ length x.names → headed kind number count (slot_words sizes x) ≡ slot_words sizes (with_head kind number x)
  unfolding headed slot_words
  headed_slot kind number count e = λ i. kind ∷ length x.control ∷ number ∷ 0 ∷ e i ∷ 0 ∷ 0 ∷ 0 ∷ (ctrl ++ rowed)

  pub pushed_slot : (words name : ℕ) → words ≡ sizes.words → pushed words name (slot_words sizes x) ≡ slot_words sizes (with_names (x.names ++ (name ∷ [])) x)
  unfolding pushed slot_words
  pushed_slot words name e =
      let n = length x.names in
      let more : n + 1 ≡ length (x.names ++ (name ∷ [])) = sym (length-append x.names (name ∷ [])) in
      ap (λ (l : List ℕ). set l 4 (n + 1))
      (set_behind (slot_front x ++ ctrl) rowed (slot_head + words) n name (split_length ∙ ap (λ (k : ℕ). slot_head + k) (sym e)) ∙ ap (λ (r : List ℕ). (slot_front x ++ ctrl) ++ r) (sym (fill_more (names_room sizes) 0 x.names name)))
      ∙ (λ i. x.kind ∷ length x.control ∷ x.number ∷ 0 ∷ more i ∷ 0 ∷ 0 ∷ 0 ∷ (ctrl ++ fill_to (names_room sizes) 0 (x.names ++ (name ∷ []))))

  -- with so many names
  counted : (names : List ℕ) (n : ℕ) → n ≡ length names → set ((slot_front x ++ ctrl) ++ fill_to (names_room sizes) 0 names) 4 n ≡ slot_words sizes (with_names names x)
  unfolding slot_words
  counted names n e = λ i. x.kind ∷ length x.control ∷ x.number ∷ 0 ∷ e i ∷ 0 ∷ 0 ∷ 0 ∷ (ctrl ++ fill_to (names_room sizes) 0 names)

  pub without_slot : (words place : ℕ) → words ≡ sizes.words → place < length x.names → length x.names ≤ names_room sizes
      → without words place (slot_words sizes x) ≡ slot_words sizes (with_names (take place x.names ++ drop (suc place) x.names) x)
  unfolding without
  without_slot words place e h g =
      let n = length x.names in
      let front = slot_front x ++ ctrl in
      let from = slot_head + words + place in
      let left = length (slot_words sizes x) - from in
      let room = names_room sizes in
      let front_long : length front ≡ slot_head + words = split_length ∙ ap (λ (k : ℕ). slot_head + k) (sym e) in
      let left_is : left ≡ room - place = omega (arith, length_slot sizes x) in
      let next : suc from ≡ slot_head + words + suc place = omega arith in
      let kept = take place x.names ++ drop (suc place) x.names in
      let mid : mid_of (suc from) (get_or (slot_words sizes x) 4 0 - suc place) (slot_words sizes x) ≡ mid_of (suc place) (n - suc place) rowed =
      (λ i. mid_of (next i) (names_count i - suc place) (split i)) ∙ mid_behind (suc place) (n - suc place) (slot_head + words) front rowed front_long in
      (λ i. set (put_mid from left (split i) (fill_to left 0 (mid i))) 4 (names_count i - 1))
      ∙ ap (λ (l : List ℕ). set l 4 (n - 1))
      (put_behind place left (slot_head + words) front rowed (fill_to left 0 (mid_of (suc place) (n - suc place) rowed)) front_long ∙ ap (λ (r : List ℕ). front ++ r) (gap_closed room place left x.names h g left_is))
      ∙ counted kept (n - 1) (omega (arith, length-append (take place x.names) (drop (suc place) x.names), length-take-le place x.names (omega arith), length-drop (suc place) x.names))

-- the front and the control of one slot before the names of another
pub front_slot : (sizes : Sizes) (x y : Slot) (words kind number count : ℕ) → words ≡ sizes.words → count ≡ length x.names
    → put_mid 0 (slot_head + words) (slot_words sizes x) (headed kind number count (take (slot_head + words) (slot_words sizes y))) ≡ slot_words sizes (with_names x.names (with_head kind number y))
unfolding headed slot_words
front_slot sizes x y words kind number count e c =
    let long : (z : Slot) → length (slot_front z ++ ctrl sizes z) ≡ slot_head + words = λ z. split_length sizes z ∙ ap (λ (k : ℕ). slot_head + k) (sym e) in
    (λ i. headed kind number count (take_at (slot_front y ++ ctrl sizes y) (rowed sizes y) (slot_head + words) (long y) i) ++ drop_at (slot_front x ++ ctrl sizes x) (rowed sizes x) (slot_head + words) (long x) i)
    ∙ (λ i. kind ∷ length y.control ∷ number ∷ 0 ∷ c i ∷ 0 ∷ 0 ∷ 0 ∷ (ctrl sizes y ++ rowed sizes x))

-- a process that begins where zeros were
pub begun_slot : (sizes : Sizes) (x : Slot) (words kind : ℕ) (control : List ℕ) → words ≡ sizes.words
    → begun words kind control (slot_words sizes x) ≡ slot_words sizes (record { kind = kind; number = x.number; control = control; names = x.names })
unfolding begun slot_words
begun_slot sizes x words kind control e = controlled_slot sizes (record { kind = kind; number = x.number; control = x.control; names = x.names }) words control e
