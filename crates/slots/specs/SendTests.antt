-- What the functions that note the targets of sends answer.
use Rattle.std.specs.Prelude.{ℕ, ◌+◌, ◌<◌, ◌≡◌, Bool, false, cond, List, [], ◌∷◌, eqb, length, drop, get_or, set}
use Rattle.std.proofs.Math.Option.{Option, none, some}
use Rattle.lists.specs.Lists.{All, chop}
use Rattle.term.specs.Read.{term_of, terms_of}
use Rattle.machine.specs.Work.{Work, finished, stuck, to_seq, to_send, to_receive, to_spawn, to_self, to_check, work}
use Rattle.step.specs.Controls.{ControlIs}
use Rattle.store.specs.Layout.{kind_send}
use Rattle.slots.specs.SoundTests.{kind_word, control_in, answered, and_then}
use Rattle.slots.specs.declared.sound_sends.Sent.{Sent}
use Rattle.slots.specs.declared.sound_sends.Sent.TheVariants.{No, To, Bad}

-- ---- one slot

-- the target of a control that is about to send
unfoldable pub target_of : Work → Option ℕ
target_of finished = none
target_of stuck = none
target_of (to_seq next) = none
target_of (to_send target value next) = some target
target_of (to_receive takes) = none
target_of (to_spawn child next) = none
target_of (to_self next) = none
target_of (to_check number next) = none

-- a send to a live place
unfoldable pub sent_to : List Bool → Option ℕ → Sent
sent_to live none = Bad
sent_to live (some target) = cond (get_or live target false) (To target) Bad

-- what a slot says of sends
unfoldable pub sent_of : List ℕ → List Bool → List ℕ → Sent
sent_of module' live w = cond (eqb (kind_word w) kind_send) (sent_to live (target_of (work module' (control_in w)))) No

-- a send's control is one of the module
abbrev pub SendReady : List ℕ → List ℕ → Type 0
SendReady module' w = kind_word w ≡ kind_send → ControlIs (terms_of module') (control_in w) (term_of (control_in w))

pub record SentIs (live : List Bool) (w : List ℕ) (r : Sent) : Type 0 where
  pub same : (module' : List ℕ) → SendReady module' w → r ≡ sent_of module' live w
  pub small : (target : ℕ) → r ≡ To target → target < length live

-- ---- the table of targets

-- one more than a send's target is noted at its place in the table
unfoldable pub note_next : Sent → (ℕ → List ℕ → Option (List ℕ)) → ℕ → List ℕ → Option (List ℕ)
note_next No more at targets = more at targets
note_next (To target) more at targets = more (at + 1) (set targets at (target + 1))
note_next Bad more at targets = none

unfoldable pub note_slots : List ℕ → List Bool → List (List ℕ) → ℕ → List ℕ → Option (List ℕ)
note_slots module' live [] at targets = some targets
note_slots module' live (w ∷ ws) at targets = note_next (sent_of module' live w) (note_slots module' live ws) at targets

-- the entries of a place
abbrev pub entry_slots : ℕ → ℕ → List ℕ → List (List ℕ)
entry_slots size count block = chop count size (drop size block)

-- a row of `count` words for each place
unfoldable pub note_from : List ℕ → List Bool → ℕ → ℕ → ℕ → List (List ℕ) → List ℕ → Option (List ℕ)
note_from module' live size count at [] targets = some targets
note_from module' live size count at (b ∷ bs) targets = and_then (note_slots module' live (entry_slots size count b) at targets) (note_from module' live size count (at + count) bs)

pub record NotesPlace (live : List Bool) (size count at : ℕ) (block targets after : List ℕ) (r : Bool) : Type 0 where
  pub same : (module' : List ℕ) → All (SendReady module') (entry_slots size count block) → answered r after ≡ note_slots module' live (entry_slots size count block) at targets

pub record NotesPlaces (live : List Bool) (size count : ℕ) (blocks : List (List ℕ)) (targets after : List ℕ) (r : Bool) : Type 0 where
  pub same : (module' : List ℕ) → All (λ b. All (SendReady module') (entry_slots size count b)) blocks → answered r after ≡ note_from module' live size count 0 blocks targets
