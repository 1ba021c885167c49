-- Shape. 01: "the first word at which reading in order fails, the length if words run out".
use Rattle.std.specs.Prelude.{ℕ, suc, true, false, List, [], ◌∷◌, ◌++◌, eqb}
use Rattle.std.proofs.Math.Option.{Option, none, some}
use Rattle.term.specs.Words.{tag_of, tag_integer}
use Rattle.term.specs.Table.{in_module, fits, child_spots, spot_function, spot_expression}

-- the spots to be filled next: those that wait, else those that a new term fills
unfoldable pub wanted : List ℕ → List ℕ → List ℕ
wanted [] new = new
wanted (s ∷ spots) new = s ∷ spots

-- Words are read from position `at` on, with the spots that wait to be filled; where none waits and words are left, those of `new` are
-- wanted. The position of the first word that fails; none where the words end with no spot waiting.
unfoldable mutual
  pub shape : (places : ℕ) (new : List ℕ) → List ℕ → List ℕ → ℕ → Option ℕ
  shape places new [] [] at = none
  shape places new [] (s ∷ spots) at = some at
  shape places new (w ∷ l) spots at = elim (wanted spots new) [
    | [] ↦ some at
    | s ∷ others ↦ elim (fits places s w) [
      | false ↦ some at
      | true ↦ elim (eqb (tag_of w) tag_integer) [
        | true ↦ shape_payload places new l others (suc at)
        | false ↦ shape places new l (child_spots s w ++ others) (suc at)
      ]
    ]
  ]

  -- an integer's two's complement is any word
  pub shape_payload : (places : ℕ) (new : List ℕ) → List ℕ → List ℕ → ℕ → Option ℕ
  shape_payload places new [] spots at = some at
  shape_payload places new (x ∷ l) spots at = shape places new l spots (suc at)

-- "A module is one or more functions": one is wanted, and another wherever one ends before the words do.
unfoldable pub module_shape : List ℕ → Option ℕ
module_shape l = shape in_module (spot_function ∷ []) l (spot_function ∷ []) 0

-- a control is one expression, and may hold the pids of so many places
unfoldable pub control_shape : ℕ → List ℕ → Option ℕ
control_shape places l = shape places [] l (spot_expression ∷ []) 0
