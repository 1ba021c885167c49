-- Good modules: the functions that are named have bodies that may be applied.
use Prim.Native.Nat.{ℕ, zero, suc}
use mathlib.Core.Path.{◌≡◌, refl, sym, ◌∙◌, ap, subst}
use mathlib.Core.Logic.{inl, inr}
use mathlib.Core.Bool.{Bool, true, false}
use mathlib.Core.Option.{Option, none, some}
use mathlib.Core.List.{List, [], ◌∷◌}
use lib.Dec.{eqb, ltb}
use lib.ListN.{length, get_elem?, replicate}
use Rattle.lists.specs.Lists.{member, up_to}
use Rattle.lists.proofs.Tests.{eqb-true, true_or_false, true_not_false, none_not_some, some_injective, choose_true, choose_false}
use Rattle.lists.proofs.MemberTest.{member_cons, member_none}
use Rattle.term.specs.Words.{tag_function}
use Rattle.term.specs.Table.{table, row_of, tags_at, spots_below, spot_function, spot_expression}
use Rattle.term.specs.Tree.{Term, Terms, int, node, end, ◌then◌}
use Rattle.term.specs.Read.{terms_of}
use Rattle.term.specs.Shape.{module_shape}
use Rattle.term.specs.Binding.{breaks, names, function_keeps, functions_keep}
use Rattle.term.specs.Module.{longest_module, parameters_of, body_of, arities_of, function_of, rules_from, breaker, first_breaker, check_module}
use Rattle.term.proofs.Keep.{KeepsAll}
use Rattle.term.proofs.KeepLaws.{Passes, passed, then_passed, all_tree}
use Rattle.machine.proofs.Sits.{Sits, SitAll}
use Rattle.machine.proofs.BindLaws.{none_or_some}
use Rattle.machine.proofs.RowLaws.{passes_module}

-- a function's body: one expression without pids, in the scope of the parameters
pub record GoodBody (arities : List ℕ) (f : Term) : Type 0 where
  pub sits : SitAll 0 (body_of f) (spot_expression ∷ [])
  pub keeps : KeepsAll arities (up_to (parameters_of f)) (body_of f)

good_body : (arities : List ℕ) (f : Term) (at : ℕ) (checks : List ℕ) → Sits 0 spot_function f → Passes (function_keeps arities f at checks) → GoodBody arities f
unfolding Sits tags_at member body_of parameters_of function_keeps spots_below row_of table
good_body arities (int x) at checks h p = true_not_false h refl
good_body arities (node tag n k ts) at checks h p = elim (member_cons tag tag_function [] h.0.tag_there) [
  | inl e ↦ record { sits = rw e at h.1; keeps = all_tree arities true (up_to n) ts (suc at) checks p }
  | inr e ↦ member_none tag e
]

good_bodies : (arities : List ℕ) (fs : Terms) (n at : ℕ) (checks : List ℕ) (k : ℕ) (f : Term) → SitAll 0 fs (replicate n spot_function) → Passes (functions_keep arities fs at checks) → function_of fs k ≡ some f → GoodBody arities f
unfolding SitAll functions_keep function_of
good_bodies arities end n at checks k f h p e = none_not_some e
good_bodies arities (g then gs) zero at checks k f h p e = absurd h
good_bodies arities (g then gs) (suc n) at checks zero f h p e =
    let r = then_passed (function_keeps arities g at checks) (λ at' scope checks'. functions_keep arities gs at' checks') p in
    subst (GoodBody arities) (some_injective e) (good_body arities g at checks h.0 r.0)
good_bodies arities (g then gs) (suc n) at checks (suc k) f h p e =
    let r = then_passed (function_keeps arities g at checks) (λ at' scope checks'. functions_keep arities gs at' checks') p in
    good_bodies arities gs n r.0.at r.0.checks k f h.1 (record { at = p.at; scope = p.scope; checks = p.checks; same = r.1 }) e

-- a function's number and its parameter count
arity_of : (fs : Terms) (k : ℕ) (f : Term) → function_of fs k ≡ some f → get_elem? (arities_of fs) k ≡ some (parameters_of f)
unfolding function_of arities_of
arity_of end k f e = none_not_some e
arity_of (g then gs) zero f e = ap (λ (h : Term). some (parameters_of h)) (some_injective e)
arity_of (g then gs) (suc k) f e = arity_of gs k f e

no_arity : (fs : Terms) (k : ℕ) → function_of fs k ≡ none → get_elem? (arities_of fs) k ≡ none
unfolding function_of arities_of
no_arity end k e = refl
no_arity (g then gs) zero e = none_not_some (sym e)
no_arity (g then gs) (suc k) e = no_arity gs k e

abbrev on_count : ℕ → Option ℕ → Bool
on_count n o = elim o [ none ↦ false | some count ↦ eqb count n ]

pub names_by : (arities : List ℕ) (k n : ℕ) (o : Option ℕ) → get_elem? arities k ≡ o → names arities k n ≡ on_count n o
unfolding names
names_by arities k n o e = ap (on_count n) e

pub named : (fs : Terms) (k n : ℕ) (f : Term) → names (arities_of fs) k n ≡ true → function_of fs k ≡ some f → parameters_of f ≡ n
named fs k n f h e = eqb-true (parameters_of f) n (sym (names_by (arities_of fs) k n (some (parameters_of f)) (arity_of fs k f e)) ∙ h)

-- a function that is named is there
pub named_there : (fs : Terms) (k n : ℕ) → names (arities_of fs) k n ≡ true → (f : Term) × (function_of fs k ≡ some f)
named_there fs k n h = elim (none_or_some (function_of fs k)) [
  | inl e ↦ true_not_false h (names_by (arities_of fs) k n none (no_arity fs k e))
  | inr o ↦ o
]

-- what a module that passes the check has
pub record GoodModule (fs : Terms) : Type 0 where
  pub bodies : (k : ℕ) (f : Term) → function_of fs k ≡ some f → GoodBody (arities_of fs) f
  pub first_named : names (arities_of fs) 0 0 ≡ true

rules_passed : (arities : List ℕ) (fs : Terms) → breaker (rules_from arities fs) ≡ none → Passes (functions_keep arities fs 0 []) × (names arities 0 0 ≡ true)
unfolding rules_from breaker names
rules_passed [] fs h = none_not_some (sym h)
rules_passed (count ∷ counts) fs h = elim (true_or_false (eqb count 0)) [
  | inl e ↦ (passed (functions_keep (count ∷ counts) fs 0 []) (sym (ap breaker (choose_true (functions_keep (count ∷ counts) fs 0 []) (breaks 0) e)) ∙ h), e)
  | inr e ↦ none_not_some (sym h ∙ ap breaker (choose_false (functions_keep (count ∷ counts) fs 0 []) (breaks 0) e))
]

abbrev on_shape : List ℕ → Option ℕ → Option ℕ
on_shape l o = elim o [ some at ↦ some at | none ↦ first_breaker (terms_of l) ]

check_passed : (l : List ℕ) → check_module l ≡ none → (module_shape l ≡ none) × (first_breaker (terms_of l) ≡ none)
unfolding check_module
check_passed l h = elim (true_or_false (ltb longest_module (length l))) [
  | inl e ↦ none_not_some (sym h ∙ choose_true (some longest_module) (on_shape l (module_shape l)) e)
  | inr e ↦
      let g : on_shape l (module_shape l) ≡ none = sym (choose_false (some longest_module) (on_shape l (module_shape l)) e) ∙ h in
      elim (none_or_some (module_shape l)) [
        | inl o ↦ (o, sym (ap (on_shape l) o) ∙ g)
        | inr o ↦ none_not_some (sym g ∙ ap (on_shape l) o.1)
      ]
]

pub good_module : (l : List ℕ) → check_module l ≡ none → GoodModule (terms_of l)
unfolding first_breaker
good_module l h =
    let c = check_passed l h in
    let s = passes_module l c.0 in
    let r = rules_passed (arities_of (terms_of l)) (terms_of l) c.1 in
    record {
      bodies = λ k f e. good_bodies (arities_of (terms_of l)) (terms_of l) (suc s.0) 0 [] k f s.1 r.0 e;
      first_named = r.1;
    }
