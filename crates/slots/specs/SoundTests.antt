-- What the tests of shapes and births answer, said of the words of slots.
use Rattle.std.specs.Prelude.{ℕ, ◌+◌, ◌*◌, ◌≤◌, ◌<◌, ◌≡◌, Bool, true, false, cond, ◌&&◌, not, List, [], ◌∷◌, eqb, leb, ltb, length, take, drop, get_or, set, replicate}
use Rattle.std.proofs.Math.Option.{Option, none, some}
use Rattle.lists.specs.Lists.{All, chop}
use Rattle.term.specs.Control.{good_control}
use Rattle.store.specs.Layout.{slot_head, most_places, kind_free, kind_seq, kind_send, kind_rec, kind_spawn, kind_self, kind_check, kind_live}

-- ---- the words of a slot

abbrev pub kind_word : List ℕ → ℕ
kind_word w = get_or w 0 0

abbrev pub number_word : List ℕ → ℕ
number_word w = get_or w 2 0

-- how many words its control has, and how many names its queue
abbrev pub words_word : List ℕ → ℕ
words_word w = get_or w 1 0

abbrev pub queue_word : List ℕ → ℕ
queue_word w = get_or w 4 0

abbrev pub control_in : List ℕ → List ℕ
control_in w = take (words_word w) (drop slot_head w)

abbrev pub names_in : ℕ → List ℕ → List ℕ
names_in words w = take (queue_word w) (drop (slot_head + words) w)

-- the names of a slot stand in it
abbrev pub NamesFit : ℕ → List ℕ → Type 0
NamesFit words w = slot_head + words + queue_word w ≤ length w

-- a slot's control stands in it
abbrev pub ControlFits : List ℕ → Type 0
ControlFits w = slot_head + words_word w ≤ length w

-- so many slots of one size, each with its names
pub record Slots (words size count : ℕ) (slots : List ℕ) : Type 0 where
  pub long : length slots ≡ count * size
  pub names_fit : All (NamesFit words) (chop count size slots)

-- a block: a slot, and so many behind it
pub record Block (words size count : ℕ) (b : List ℕ) : Type 0 where
  pub present_fits : NamesFit words b
  pub first_fits : size ≤ length b
  pub slots : Slots words size count (drop size b)

-- with controls
pub record ControlBlock (size count : ℕ) (b : List ℕ) : Type 0 where
  pub block : Block 0 size count b
  pub head_fits : slot_head ≤ size
  pub present_control : ControlFits (take size b)
  pub controls : All ControlFits (chop count size (drop size b))

-- ---- shapes

-- no number and no names
unfoldable pub plain_slot : List ℕ → Bool
plain_slot w = eqb (number_word w) 0 && eqb (queue_word w) 0

-- the slot of a process
unfoldable pub present_slot : List ℕ → Bool
present_slot w = eqb (kind_word w) kind_live && eqb (number_word w) 0

-- the slot of an entry, but for what a send's control is about to do
unfoldable pub entry_slot : List ℕ → Bool
entry_slot w =
    cond (eqb (kind_word w) kind_seq) (plain_slot w)
    (cond (eqb (kind_word w) kind_send) (plain_slot w)
    (cond (eqb (kind_word w) kind_rec) (ltb (number_word w) (queue_word w))
    (cond (eqb (kind_word w) kind_spawn) (eqb (queue_word w) 0)
    (cond (eqb (kind_word w) kind_self) (plain_slot w)
    (cond (eqb (kind_word w) kind_check) (leb (number_word w) 255 && eqb (queue_word w) 0) false)))))

-- a control that passes the control check, and an entry with such a control; free slots hold nothing
unfoldable pub control_passes : ℕ → List ℕ → List ℕ → Bool
control_passes places arities w = good_control places arities (control_in w)

unfoldable pub entry_passes : ℕ → List ℕ → List ℕ → Bool
entry_passes places arities w = cond (eqb (kind_word w) kind_free) true (entry_slot w && control_passes places arities w)

-- every element passes a test
unfoldable pub every_of : {B : Type 0} → (B → Bool) → List B → Bool
every_of f [] = true
every_of f (b ∷ bs) = f b && every_of f bs

unfoldable pub entries_pass : ℕ → ℕ → ℕ → List ℕ → List ℕ → Bool
entries_pass size count places arities block = every_of (entry_passes places arities) (chop count size (drop size block))

-- the slots of a place: none in use, or those of a process and its entries
unfoldable pub place_passes : ℕ → ℕ → ℕ → List ℕ → List ℕ → Bool
place_passes size count places arities block =
    cond (eqb (kind_word block) kind_free) true (present_slot (take size block) && (control_passes places arities (take size block) && entries_pass size count places arities block))

-- ---- births

-- which places have a process: those whose first slot is not free
unfoldable pub live_from : ℕ → List (List ℕ) → List Bool → List Bool
live_from p [] live = live
live_from p (b ∷ bs) live = live_from (p + 1) bs (set live p (not (eqb (kind_word b) kind_free)))

-- what a test leaves where it answers yes
unfoldable pub answered : {A : Type 0} → Bool → A → Option A
answered true x = some x
answered false x = none

unfoldable pub and_then : {A : Type 0} → Option A → (A → Option A) → Option A
and_then none f = none
and_then (some x) f = f x

-- one child more: a live place but 0 that was no child yet
unfoldable pub bear_one : ℕ → List Bool → List Bool → Option (List Bool)
bear_one child live born =
    cond (eqb child 0) none
    (cond (ltb child (length live))
    (cond (get_or live child false) (cond (get_or born child false) none (some (set born child true))) none) none)

-- the child of a slot, if it is a spawn's
unfoldable pub bear_slot : List Bool → List ℕ → List Bool → Option (List Bool)
bear_slot live w born = cond (eqb (kind_word w) kind_spawn) (bear_one (number_word w) live born) (some born)

-- a step for each of a list's elements, while none refuses
unfoldable pub run_all : {A B : Type 0} → (B → A → Option A) → List B → A → Option A
run_all f [] x = some x
run_all f (b ∷ bs) x = and_then (f b x) (run_all f bs)

-- the children of a place's spawns
unfoldable pub bear_place : ℕ → ℕ → List Bool → List ℕ → List Bool → Option (List Bool)
bear_place size count live block born = run_all (bear_slot live) (chop count size (drop size block)) born

-- each live place but 0 was born
pub record AllBorn (live born : List Bool) : Type 0 where
  pub each : (q : ℕ) → 0 < q → q < length live → get_or live q false ≡ true → get_or born q false ≡ true

-- the clause about births: no child is refused, and each live place but 0 was born
pub record Births (size count : ℕ) (live : List Bool) (blocks : List (List ℕ)) : Type 0 where
  pub born : List Bool
  pub marks : run_all (bear_place size count live) blocks (replicate most_places false) ≡ some born
  pub all : AllBorn live born
