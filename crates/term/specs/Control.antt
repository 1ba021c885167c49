-- Controls. 01: they "are closed, well shaped, keep the module's binding rules, may hold pids outside patterns (and any values in
-- guards), and name functions rightly".
use Rattle.std.specs.Prelude.{ℕ, Bool, true, false, List, []}
use Rattle.std.proofs.Math.Option.{none, some}
use Rattle.term.specs.Tree.{Term}
use Rattle.term.specs.Read.{term_of, terms_of}
use Rattle.term.specs.Shape.{control_shape}
use Rattle.term.specs.Binding.{keeps}
use Rattle.term.specs.Module.{breaker, arities_of}

-- closed, since no variable is in scope outside; a running control may repeat check numbers
unfoldable pub keeps_rules : List ℕ → Term → Bool
keeps_rules arities t = elim (breaker (keeps arities false [] t 0 [])) [ none ↦ true | some at ↦ false ]

-- a control among so many places, for functions with these parameter counts
unfoldable pub good_control : ℕ → List ℕ → List ℕ → Bool
good_control places arities l = elim (control_shape places l) [ some at ↦ false | none ↦ keeps_rules arities (term_of l) ]

-- the parameter counts of a module's functions
unfoldable pub module_arities : List ℕ → List ℕ
module_arities l = arities_of (terms_of l)
