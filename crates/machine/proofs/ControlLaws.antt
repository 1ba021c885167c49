-- Good controls are the rows of right terms.
use Prim.Native.Nat.{ℕ, ◌≤◌}
use mathlib.Core.Path.{◌≡◌, sym, ◌∙◌, ap}
use mathlib.Core.Logic.{inl, inr}
use mathlib.Core.Bool.{Bool, true, false}
use mathlib.Core.Option.{Option, none, some}
use mathlib.Core.List.{List, []}
use Rattle.lists.proofs.Tests.{true_not_false}
use Rattle.term.specs.Table.{spot_expression}
use Rattle.term.specs.Tree.{Term, words}
use Rattle.term.specs.Read.{term_of}
use Rattle.term.specs.Shape.{control_shape}
use Rattle.term.specs.Binding.{keeps}
use Rattle.term.specs.Module.{breaker}
use Rattle.term.specs.Control.{keeps_rules, good_control}
use Rattle.term.proofs.Keep.{Keeps}
use Rattle.term.proofs.KeepLaws.{passed, not_broken, keeps_tree, tree_keeps}
use Rattle.machine.specs.Laws.{PidIn, Holds}
use Rattle.machine.proofs.Sits.{Sits}
use Rattle.machine.proofs.BindLaws.{none_or_some}
use Rattle.machine.proofs.Right.{Right}
use Rattle.machine.proofs.RowLaws.{passes_term, term_passes, term_of_words}

-- the clauses of the definitions, by the tests that they make
abbrev on_breaker : Option ℕ → Bool
on_breaker o = elim o [ none ↦ true | some at ↦ false ]

rules_by : (arities : List ℕ) (t : Term) (o : Option ℕ) → breaker (keeps arities false [] t 0 []) ≡ o → keeps_rules arities t ≡ on_breaker o
unfolding keeps_rules
rules_by arities t o e = ap on_breaker e

abbrev on_shape : List ℕ → List ℕ → Option ℕ → Bool
on_shape arities l o = elim o [ some at ↦ false | none ↦ keeps_rules arities (term_of l) ]

good_by : (places : ℕ) (arities l : List ℕ) (o : Option ℕ) → control_shape places l ≡ o → good_control places arities l ≡ on_shape arities l o
unfolding good_control
good_by places arities l o e = ap (on_shape arities l) e

rules_kept : (arities : List ℕ) (t : Term) → keeps_rules arities t ≡ true → Keeps arities [] t
rules_kept arities t h = elim (none_or_some (breaker (keeps arities false [] t 0 []))) [
  | inl o ↦ keeps_tree arities false [] t 0 [] (passed (keeps arities false [] t 0 []) o)
  | inr o ↦ true_not_false h (rules_by arities t (some o.0) o.1)
]

-- a good control is read as a right term, whose words it is
pub record Control (places : ℕ) (arities l : List ℕ) : Type 0 where
  pub right : Right places arities (term_of l)
  pub same_words : words (term_of l) ≡ l

module _ (places : ℕ) (arities : List ℕ) (few_places : places ≤ 65536) where
  pub good_right : (l : List ℕ) → good_control places arities l ≡ true → Control places arities l
  unfolding control_shape
  good_right l h = elim (none_or_some (control_shape places l)) [
    | inl o ↦
        let r = passes_term places spot_expression l o in
        record { right = record { sits = r.sits; keeps = rules_kept arities (term_of l) (sym (good_by places arities l none o) ∙ h) }; same_words = r.same_words }
    | inr o ↦ true_not_false h (good_by places arities l (some o.0) o.1)
  ]

  pub right_good : (t : Term) → Right places arities t → good_control places arities (words t) ≡ true
  unfolding control_shape
  right_good t r =
      good_by places arities (words t) none (term_passes places few_places t spot_expression r.sits)
      ∙ ap (keeps_rules arities) (term_of_words places few_places t spot_expression r.sits)
      ∙ rules_by arities t none (not_broken (tree_keeps arities [] t 0 [] r.keeps))

  -- a pid in the row of a term stands in the term
  pub holds_term : (t : Term) (s q : ℕ) → Sits places s t → Holds (words t) q → PidIn q t
  unfolding Holds
  holds_term t s q h p = rw (term_of_words places few_places t s h) at p
