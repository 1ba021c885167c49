-- What the code's module check promises of its parts.
use Rattle.std.specs.Prelude.{ℕ, ◌≤◌, ◌≡◌, List, [], length, take, replicate, Result, Ok, Err, ⊤}
use Rattle.std.proofs.Math.Option.{Option, none, some}
use Rattle.rows.specs.declared.terms.BadWord.{BadWord}
use Rattle.term.specs.Table.{spot_function}
use Rattle.term.specs.Tree.{Terms, words_of}
use Rattle.term.specs.Fit.{FitAll}
use Rattle.term.specs.Shape.{module_shape}
use Rattle.term.specs.Binding.{functions_keep}
use Rattle.term.specs.Module.{breaker}
use Rattle.term.specs.Control.{module_arities}

-- the position of a bad word, of an answer of the code
unfoldable pub bad_of : {A : Type 0} → Result A BadWord → Option ℕ
bad_of (Ok done) = none
bad_of (Err bad) = some bad.0

-- shape, and where it passes the parameter counts of the functions
pub record ReadFunctions (l counts : List ℕ) (r : Result ℕ BadWord) : Type 0 where
  pub answer : bad_of r ≡ module_shape l
  pub counted : (m : ℕ) → r ≡ Ok m → (take m counts ≡ module_arities l) × (m ≤ length counts)

-- the rules, for the functions of a well-shaped module
pub record KeepsFunctions (l arities : List ℕ) (r : Result ⊤ BadWord) : Type 0 where
  pub answer : (ts : Terms) (m : ℕ) → FitAll 0 ts (replicate m spot_function) → words_of ts ≡ l → bad_of r ≡ breaker (functions_keep arities ts 0 [])
