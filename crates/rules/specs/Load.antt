-- Load. 01: "Load: 2, 1." and "Load puts `apply 0()` at place 0."
use Rattle.std.specs.Prelude.{ℕ, Bool, true, false, ◌&&◌, List, [], ◌∷◌, leb}
use Rattle.std.proofs.Math.Option.{none, some}
use Rattle.lists.specs.Tables.{put}
use Rattle.term.specs.Words.{word, tag_apply}
use Rattle.term.specs.Module.{check_module}
use Rattle.rules.specs.Answers.{bad_module, bad_sizes}
use Rattle.rules.specs.State.{Sizes, Process, State}

-- "P process places, 1 to 16; H history entries for each process, 1 to 64; W words for an expression, 16 to 255"
unfoldable pub good_sizes : Sizes → Bool
good_sizes sizes =
    leb 1 sizes.places && leb sizes.places 16
    && leb 1 sizes.entries && leb sizes.entries 64
    && leb 16 sizes.words && leb sizes.words 255

-- the process that a load or a spawn puts at a place
abbrev pub new_process : List ℕ → Process
new_process control = record { control = control; history = [] }

-- `apply 0()`
abbrev pub first_control : List ℕ
first_control = word tag_apply 0 0 ∷ []

unfoldable pub loaded : List ℕ → Sizes → State
loaded module' sizes = record { module' = module'; sizes = sizes; processes = put 0 (some (new_process first_control)) (λ p. none); queues = λ p. [] }

-- a refusal with its number and position, or the state
pub data Load : Type 0 where
  refused : (number position : ℕ) → Load
  loads : State → Load

-- the answer 2 for a store that is too short belongs to the store's layout
unfoldable pub load : List ℕ → Sizes → Load
load module' sizes = elim (good_sizes sizes) [
  | false ↦ refused bad_sizes 0
  | true ↦ elim (check_module module') [ some at ↦ refused bad_module at | none ↦ loads (loaded module' sizes) ]
]
