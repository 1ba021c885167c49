-- What the module check comes to, and what a good module and a good control are, as trees.
use Prim.Native.Nat.{ℕ, suc, ◌≤◌}
use mathlib.Core.Path.{◌≡◌, refl, sym, ap, ◌∙◌}
use mathlib.Core.Bool.{Bool, true, false}
use mathlib.Core.Option.{Option, none, some}
use mathlib.Core.List.{List}
use lib.Dec.{ltb}
use lib.ListN.{length, replicate}
use Rattle.lists.proofs.Tests.{true_not_false, none_not_some, ltb_false, ltb_over}
use Rattle.term.specs.Table.{spot_function, spot_expression}
use Rattle.term.specs.Tree.{Term, Terms, words, words_of}
use Rattle.term.specs.Read.{terms_of, term_of}
use Rattle.term.specs.Shape.{module_shape, control_shape}
use Rattle.term.specs.Fit.{Fit, FitAll}
use Rattle.term.specs.Module.{longest_module, first_breaker, check_module}
use Rattle.term.specs.Control.{keeps_rules, good_control}
use Rattle.term.proofs.ReadLaws.{terms_of_words, term_of_words}
use Rattle.term.proofs.ShapeLaws.{Functions, shaped_module, shaped_control, module_shaped, control_shaped, fit_whole, fit_all_whole}

-- the check, by the two tests that are made there
unfoldable pub answer : Bool → Option ℕ → Option ℕ → Option ℕ
answer long shape rest = elim long [ true ↦ some longest_module | false ↦ elim shape [ some at ↦ some at | none ↦ rest ] ]

pub check_is : (l : List ℕ) → check_module l ≡ answer (ltb longest_module (length l)) (module_shape l) (first_breaker (terms_of l))
unfolding check_module answer
check_is l = refl

-- a good module: at most 512 words, the words of well-shaped functions that keep the rules
pub record GoodModule (l : List ℕ) : Type 0 where
  pub short : length l ≤ longest_module
  pub shaped : module_shape l ≡ none
  pub functions : Functions l
  pub keeps : first_breaker functions.terms ≡ none

-- what an answer of nothing bad says of its parts
nothing_bad : (long : Bool) (shape rest : Option ℕ) → answer long shape rest ≡ none → (long ≡ false) × (shape ≡ none) × (rest ≡ none)
unfolding answer
nothing_bad true shape rest e = none_not_some (sym e)
nothing_bad false (some at) rest e = none_not_some (sym e)
nothing_bad false none rest e = (refl, refl, e)

pub good_module : (l : List ℕ) → check_module l ≡ none → GoodModule l
good_module l e =
    let p = nothing_bad (ltb longest_module (length l)) (module_shape l) (first_breaker (terms_of l)) (sym (check_is l) ∙ e) in
    let f = shaped_module l p.1 in
    record { short = ltb_false longest_module (length l) p.0; shaped = p.1; functions = f; keeps = sym (ap first_breaker f.read_as) ∙ p.2 }

-- and functions like that are a good module
pub module_good : (others : ℕ) (ts : Terms) → FitAll 0 ts (replicate (suc others) spot_function) → length (words_of ts) ≤ longest_module → first_breaker ts ≡ none → check_module (words_of ts) ≡ none
unfolding answer
module_good others ts f short k =
    let same : first_breaker (terms_of (words_of ts)) ≡ none = ap first_breaker (terms_of_words ts (fit_all_whole 0 ts (replicate (suc others) spot_function) f)) ∙ k in
    check_is (words_of ts) ∙ rw (ltb_over longest_module (length (words_of ts)) short, module_shaped others ts f, same)

-- a good control: the words of a well-shaped expression that keeps the rules
pub record GoodControl (places : ℕ) (arities l : List ℕ) : Type 0 where
  pub term : Term
  pub same_words : words term ≡ l
  pub fit : Fit places spot_expression term
  pub read_as : term_of l ≡ term
  pub keeps : keeps_rules arities term ≡ true

-- a control, by the test that is made there
said : Option ℕ → Bool → Bool
said shape rules = elim shape [ some at ↦ false | none ↦ rules ]

control_is : (places : ℕ) (arities l : List ℕ) → good_control places arities l ≡ said (control_shape places l) (keeps_rules arities (term_of l))
unfolding good_control said
control_is places arities l = refl

said_true : (shape : Option ℕ) (rules : Bool) → said shape rules ≡ true → (shape ≡ none) × (rules ≡ true)
unfolding said
said_true (some at) rules e = true_not_false e refl
said_true none rules e = (refl, e)

pub good_control_lem : (places : ℕ) (arities l : List ℕ) → good_control places arities l ≡ true → GoodControl places arities l
good_control_lem places arities l e =
    let p = said_true (control_shape places l) (keeps_rules arities (term_of l)) (sym (control_is places arities l) ∙ e) in
    let s = shaped_control places l p.0 in
    record { term = s.term; same_words = s.same_words; fit = s.fit; read_as = s.read_as; keeps = sym (ap (keeps_rules arities) s.read_as) ∙ p.1 }

-- and an expression like that is a good control
pub control_good : (places : ℕ) (arities : List ℕ) (t : Term) → Fit places spot_expression t → keeps_rules arities t ≡ true → good_control places arities (words t) ≡ true
unfolding said
control_good places arities t f k =
    let same : keeps_rules arities (term_of (words t)) ≡ true = ap (keeps_rules arities) (term_of_words t (fit_whole places spot_expression t f)) ∙ k in
    control_is places arities (words t) ∙ rw (control_shaped places t f) same
