-- What a load answers and leaves in the store that it is lent.
use Rattle.std.specs.Prelude.{ℕ, ◌≡◌, true, false, List, ◌++◌, leb, length, drop, Result, Ok, Err, ⊤}
use Rattle.rules.specs.Answers.{done, bad_module, bad_sizes}
use Rattle.rules.specs.State.{Sizes}
use Rattle.rules.specs.Load.{Load, refused, loads, load}
use Rattle.store.specs.Layout.{needed, image}
use Rattle.store.specs.declared.load.LoadError.{LoadError}
use Rattle.store.specs.declared.load.LoadError.TheVariants.{BadSizes, BadModule}

-- 01's number of an answer of the code, and the position that goes with it: "Positions and counts are 0 elsewhere."
unfoldable pub load_number : Result ⊤ LoadError → ℕ
load_number (Ok t) = done
load_number (Err BadSizes) = bad_sizes
load_number (Err (BadModule bad)) = bad_module

unfoldable pub load_value : Result ⊤ LoadError → ℕ
load_value (Ok t) = 0
load_value (Err BadSizes) = 0
load_value (Err (BadModule bad)) = bad.0

-- a number, its value, and the words that are left
pub record Outcome : Type 0 where
  pub number : ℕ
  pub value : ℕ
  pub left : List ℕ

-- a refusal leaves the store as it was; a state puts its image there, and words past the needed length stay
unfoldable pub after_load : List ℕ → Load → Outcome
after_load l (refused number position) = record { number = number; value = position; left = l }
after_load l (loads s) = record { number = done; value = 0; left = image s ++ drop (needed s.sizes) l }

-- 2 too where the store is short: "size out of range, store short"
unfoldable pub load_into : List ℕ → Sizes → List ℕ → Outcome
load_into module' sizes l = elim (leb (needed sizes) (length l)) [
  | false ↦ record { number = bad_sizes; value = 0; left = l }
  | true ↦ after_load l (load module' sizes)
]

pub record LoadAnswers (module' : List ℕ) (sizes : Sizes) (entry exit : List ℕ) (r : Result ⊤ LoadError) : Type 0 where
  pub number : load_number r ≡ (load_into module' sizes entry).number
  pub value : load_value r ≡ (load_into module' sizes entry).value
  pub left : exit ≡ (load_into module' sizes entry).left
