-- Soundness said of slots: what a test of the store's words asks. SlotsSound shows that it is soundness.
use Prim.Native.Nat.{ℕ, suc, ◌/◌, ◌%◌, ◌≤◌}
use mathlib.Core.Path.{◌≡◌}
use mathlib.Core.Bool.{Bool, true, false}
use mathlib.Core.Option.{Option, none, some}
use mathlib.Core.List.{List, [], ◌∷◌, ◌++◌, reverse, tail}
use lib.Dec.{eqb}
use lib.ListN.{length, take, drop, get_or, get_elem?}
use Rattle.lists.specs.Lists.{All}
use Rattle.lists.proofs.Counts.{occurs}
use Rattle.term.specs.Module.{check_module}
use Rattle.term.specs.Control.{good_control, module_arities}
use Rattle.rules.specs.State.{Sizes, Letter, letter}
use Rattle.rules.specs.Flight.{sent}
use Rattle.rules.specs.Load.{good_sizes}
use Rattle.store.specs.Layout.{name_base, kind_rec, kind_spawn, Slot}
use Rattle.store.proofs.Restoring.{read_sends}
use Rattle.store.proofs.SlotViews.{EntryShape, PresentShape}

-- a place has a process, and that process a queue
unfoldable pub is_live : List Slot → Bool
is_live [] = false
is_live (x ∷ xs) = true

unfoldable pub names_in : List Slot → List ℕ
names_in [] = []
names_in (x ∷ xs) = x.names

-- what a rec took and what it left, by names
abbrev pub taken_name : Slot → ℕ
taken_name x = get_or x.names x.number 0

abbrev pub left_names : Slot → List ℕ
left_names x = take x.number x.names ++ drop (suc x.number) x.names

-- the names that the recs among entries took, newest first
unfoldable pub taken_if : Bool → ℕ → List ℕ → List ℕ
taken_if true w ws = w ∷ ws
taken_if false w ws = ws

unfoldable pub taken_names : List Slot → List ℕ
taken_names [] = []
taken_names (x ∷ older) = taken_if (eqb x.kind kind_rec) (taken_name x) (taken_names older)

-- a list of names begins with another
pub record Begins (front names : List ℕ) : Type 0 where
  pub others : List ℕ
  pub whole : names ≡ front ++ others

-- the recs among entries, newest first, and the queue that comes after them
unfoldable pub SlotFlows : List Slot → List ℕ → Type 0
SlotFlows [] names = Unit {0}
SlotFlows (x ∷ older) names = elim (eqb x.kind kind_rec) [ false ↦ SlotFlows older names | true ↦ Begins (left_names x) names × SlotFlows older x.names ]

-- a control that passes the control check, of at most W words
pub record Passes (module' : List ℕ) (sizes : Sizes) (control : List ℕ) : Type 0 where
  pub good : good_control sizes.places (module_arities module') control ≡ true
  pub fits : length control ≤ sizes.words

module _ (places : ℕ → List Slot) where
  -- the entries of a place, newest first
  abbrev pub newest_first : ℕ → List Slot
  newest_first p = reverse (tail (places p))

  -- the names of all messages that came to t
  abbrev pub arrived : ℕ → List ℕ
  arrived t = names_in (places t) ++ taken_names (newest_first t)

  -- entry i of p is the spawn of q
  pub record SpawnSlot (q p i : ℕ) : Type 0 where
    pub slot : Slot
    pub stands : get_elem? (tail (places p)) i ≡ some slot
    pub is_spawn : slot.kind ≡ kind_spawn
    pub child : slot.number ≡ q

-- each live place but 0 is the child of exactly one spawn, place 0 of none, children are live
pub record BornClauses (places : ℕ → List Slot) : Type 0 where
  pub born : (q : ℕ) → is_live (places q) ≡ true → ¬ (q ≡ 0) → (p : ℕ) × (i : ℕ) × SpawnSlot places q p i
  pub born_once : (q p i p' i' : ℕ) → SpawnSlot places q p i → SpawnSlot places q p' i' → (p ≡ p') × (i ≡ i')
  pub place_0_unborn : (p i : ℕ) → ¬ SpawnSlot places 0 p i
  pub children_live : (q p i : ℕ) → SpawnSlot places q p i → is_live (places q) ≡ true

module _ (module' : List ℕ) (places : ℕ → List Slot) where
  -- what the k-th send of p sent
  abbrev pub sent_by : ℕ → ℕ → Option Letter
  sent_by p k = sent (read_sends module' (places p)) k

  -- the word names a message that was sent to t
  pub record SaidTo (t w : ℕ) : Type 0 where
    pub value : List ℕ
    pub said : sent_by (w / name_base) (w % name_base) ≡ some (letter t value)

  -- each slot in use is that of a process or an entry
  pub record Shaped : Type 0 where
    pub presents : (p : ℕ) (x : Slot) (xs : List Slot) → places p ≡ x ∷ xs → PresentShape x
    pub entries : (p : ℕ) → All (EntryShape module') (tail (places p))

pub record SoundSlots (module' : List ℕ) (sizes : Sizes) (places : ℕ → List Slot) : Type 0 where
  pub shaped : Shaped module' places
  pub sizes_pass : good_sizes sizes ≡ true
  pub module_passes : check_module module' ≡ none
  pub place_0 : is_live (places 0) ≡ true
  pub places_end : (p : ℕ) → sizes.places ≤ p → is_live (places p) ≡ false
  pub entries_fit : (p : ℕ) → length (tail (places p)) ≤ sizes.entries
  pub controls : (p : ℕ) (x : Slot) (xs : List Slot) → places p ≡ x ∷ xs → Passes module' sizes x.control
  pub controls_before : (p : ℕ) → All (λ x. Passes module' sizes x.control) (tail (places p))
  pub births : BornClauses places
  pub targets_live : (p k target : ℕ) (value : List ℕ) → sent_by module' places p k ≡ some (letter target value) → is_live (places target) ≡ true
  pub once : (t c : ℕ) → occurs c (arrived places t) ≤ 1
  pub nothing_else : (t : ℕ) → All (SaidTo module' places t) (arrived places t)
  pub prefixes : (p : ℕ) → SlotFlows (newest_first places p) (names_in (places p))
