-- What is written into a slot, and into a store slot by slot, as words.
use Rattle.std.specs.Prelude.{ℕ, suc, ◌+◌, ◌-◌, ◌*◌, ◌≤◌, ◌≡◌, List, [], length, get_or, set}
use borrow.Rule.Slice.PartMut.{mid_of, put_mid}
use Rattle.lists.specs.Fill.{fill_to}
use Rattle.rules.specs.State.{State}
use Rattle.reading.specs.Reads.{OfState}
use Rattle.store.specs.Layout.{kind_live, slot_head, blocks_from, slot_size, block_size, most_words, most_names, longest_slot, longest_store}
use Rattle.writing.specs.declared.spans.Span.{Span}

-- ---- a slot

-- its kind, its number and how many messages its queue has
unfoldable pub headed : (kind number count : ℕ) → List ℕ → List ℕ
headed kind number count w = set (set (set w 0 kind) 2 number) 4 count

-- its control
unfoldable pub controlled : (words : ℕ) (control : List ℕ) → List ℕ → List ℕ
controlled words control w = put_mid slot_head words (set w 1 (length control)) (fill_to words 0 control)

-- one name more behind the others
unfoldable pub pushed : (words name : ℕ) → List ℕ → List ℕ
pushed words name w = set (set w (slot_head + words + get_or w 4 0) name) 4 (get_or w 4 0 + 1)

-- the name at a place taken out: those behind it move up, and zeros follow
unfoldable pub without : (words place : ℕ) → List ℕ → List ℕ
without words place w =
    let from = slot_head + words + place in
    let room = length w - from in
    set (put_mid from room w (fill_to room 0 (mid_of (suc from) (get_or w 4 0 - suc place) w))) 4 (get_or w 4 0 - 1)

-- a process as it begins: its kind and its control
unfoldable pub begun : (words kind : ℕ) (control : List ℕ) → List ℕ → List ℕ
begun words kind control w = controlled words control (set w 0 kind)

-- ---- a store

-- one slot of it changed
unfoldable pub within : (from size : ℕ) → (List ℕ → List ℕ) → List ℕ → List ℕ
within from size change l = put_mid from size l (change (mid_of from size l))

-- the first words of one slot copied into another, with a kind, a number and a count of messages
unfoldable pub copied : (from to count kind number queued : ℕ) → List ℕ → List ℕ
copied from to count kind number queued l = put_mid to count l (headed kind number queued (mid_of from count l))

-- zeros
unfoldable pub cleared : (from size : ℕ) → List ℕ → List ℕ
cleared from size l = put_mid from size l (fill_to size 0 [])

-- an entry undone: its control is copied into the present, and zeros come
unfoldable pub shrunk_words : (at end to words : ℕ) → List ℕ → List ℕ
shrunk_words at end to words l = cleared at (end - at) (copied at to (slot_head + words) kind_live 0 (get_or l (to + 4) 0) l)

-- a rec undone: its control and its queue are
unfoldable pub released_words : (at end to : ℕ) → List ℕ → List ℕ
released_words at end to l = cleared at (end - at) (copied at to (end - at) kind_live 0 (get_or l (at + 4) 0) l)

-- how many words a span has
abbrev pub span_size : Span → ℕ
span_size r = r.«end» - r.from

-- where slot i of place p stands
pub record Located (p i : ℕ) (r : Span) (s : State) : Type 0 where
  pub from_is : r.from ≡ blocks_from + p * block_size s.sizes + i * slot_size s.sizes
  pub size_is : span_size r ≡ slot_size s.sizes
  pub words_are : r.words ≡ s.sizes.words

-- and that it lies within the words
pub record Spanned (p i : ℕ) (l : List ℕ) (r : Span) : Type 0 where
  pub adds : r.«end» ≡ r.from + span_size r
  pub inside : r.«end» ≤ length l
  pub low : r.«end» ≤ longest_store
  pub head_in : slot_head + r.words ≤ span_size r
  pub few_words : r.words ≤ most_words
  pub small : span_size r ≤ longest_slot
  pub there : OfState l (Located p i r)

-- ---- room

-- so many words of a control fit a slot
pub record ControlRoom (words : ℕ) (control w : List ℕ) : Type 0 where
  pub within_slot : slot_head + words ≤ length w
  pub short : length control ≤ words
  pub few : words ≤ most_words

-- a slot has room for the names that it has
pub record NamesRoom (words : ℕ) (w : List ℕ) : Type 0 where
  pub within_slot : slot_head + words + get_or w 4 0 ≤ length w
  pub few : get_or w 4 0 ≤ most_names

-- two runs of words, each within a store
pub record CopyRoom (from to count : ℕ) (l : List ℕ) : Type 0 where
  pub source : from + count ≤ length l
  pub target : to + count ≤ length l
  pub least : slot_head ≤ count
  pub most : count ≤ longest_slot

-- a slot from `from` to `end`, and another of the same length at `to`
pub record TwoSlots (from end to words : ℕ) (l : List ℕ) : Type 0 where
  pub head_in : from + (slot_head + words) ≤ end
  pub inside : end ≤ length l
  pub other : to + (end - from) ≤ length l
  pub few : words ≤ most_words
  pub small : end - from ≤ longest_slot
