-- Marks for numbers: what one more mark says, and the rule for one word by the tests of the code.
use Prim.Native.Nat.{ℕ, zero, suc, ◌≤◌, ◌<◌}
use mathlib.Core.Path.{◌≡◌, refl, sym, ◌∙◌}
use mathlib.Core.Logic.{◌⊎◌, inl, inr}
use mathlib.Core.Bool.{Bool, true, false, not, ◌&&◌, ◌||◌}
use mathlib.Core.List.{List, [], ◌∷◌}
use native.Mathlib.Omega.{arith}
use native.Mathlib.Decide.{ℕ_discrete}
use lib.Dec.{eqb, ltb}
use lib.ListN.{length, get_or, set, length-set}
use lib.Seq.{get_or-set_same, get_or-set_other}
use Rattle.lists.specs.Lists.{member}
use Rattle.lists.proofs.Tests.{eqb_of, eqb_same, eqb_apart, ltb_over}
use Rattle.term.specs.Words.{tag_of, n_of, k_of, tag_variable, tag_apply, tag_spawn, tag_let, tag_check}
use Rattle.term.specs.Table.{table, row_of, k_limit, fits}
use Rattle.term.specs.Binding.{names, keeps_rule, checks_after}
use Rattle.checks.specs.Walking.{Marks, Rules, variables, check_numbers}
use Rattle.term.proofs.ShapeLaws.{fits_parts}

-- one more mark
pub mark_more : (size : ℕ) (marks : List Bool) (numbers : List ℕ) (v : ℕ) → v < size → Marks size marks numbers → Marks size (set marks v true) (v ∷ numbers)
unfolding member
mark_more size marks numbers v h m =
    record { long = length-set marks v true ∙ m.long; told = λ k b. go k b (ℕ_discrete k v) }
  where
    go : (k : ℕ) → k < size → Dec (k ≡ v) → get_or (set marks v true) k false ≡ (eqb k v || member k numbers)
    go k b (yes e) = rw (e, eqb_same v) (get_or-set_same marks v true false (omega (arith, m.long)))
    go k b (no d) = rw (eqb_apart k v d) (get_or-set_other marks v k true false d ∙ m.told k b)

-- a number that has no place needs no mark
pub mark_out : (size : ℕ) (marks : List Bool) (numbers : List ℕ) (v : ℕ) → size ≤ v → Marks size marks numbers → Marks size marks (v ∷ numbers)
unfolding member
mark_out size marks numbers v h m =
    record { long = m.long; told = λ k b. m.told k b ∙ sym (rw (eqb_apart k v (omega arith))) }

-- a check's number is met
module _ (marks : List Bool) (w t : ℕ) (et : t ≡ tag_of w) where
  pub meet_none : ¬ (t ≡ tag_check) → (numbers : List ℕ) → Marks check_numbers marks numbers → Marks check_numbers marks (checks_after (tag_of w) (k_of w) numbers)
  unfolding checks_after
  meet_none d numbers m = rw (← et, eqb_apart t tag_check d) m

  module _ (e : t ≡ tag_check) (v : ℕ) (ev : v ≡ k_of w) where
    pub meet_one : v < check_numbers → (numbers : List ℕ) → Marks check_numbers marks numbers → Marks check_numbers (set marks v true) (checks_after (tag_of w) (k_of w) numbers)
    unfolding checks_after
    meet_one h numbers m = rw (← et, eqb_of t tag_check e, ← ev) (mark_more check_numbers marks numbers v h m)

    pub meet_out : check_numbers ≤ v → (numbers : List ℕ) → Marks check_numbers marks numbers → Marks check_numbers marks (checks_after (tag_of w) (k_of w) numbers)
    unfolding checks_after
    meet_out h numbers m = rw (← et, eqb_of t tag_check e, ← ev) (mark_out check_numbers marks numbers v h m)

-- the function of a number
no_name : (arities : List ℕ) (k n : ℕ) → length arities ≤ k → false ≡ names arities k n
unfolding names
no_name [] k n h = refl
no_name (a ∷ arities) zero n h = absurd (omega arith)
no_name (a ∷ arities) (suc k) n h = no_name arities k n (omega arith)

pub no_function : (arities : List ℕ) (k n : ℕ) → length arities ≤ k → ltb k (length arities) ≡ names arities k n
no_function arities k n h = ltb_over k (length arities) h ∙ no_name arities k n h

pub some_function : (arities : List ℕ) (k n : ℕ) → k < length arities → eqb (get_or arities k 0) n ≡ names arities k n
unfolding names
some_function [] k n h = absurd (omega arith)
some_function (a ∷ arities) zero n h = refl
some_function (a ∷ arities) (suc k) n h = some_function arities k n (omega arith)

-- the rule, by tags
module _ (arities : List ℕ) (unique : Bool) (scope checks : List ℕ) (tag n k : ℕ) where
  rule_variable : tag ≡ tag_variable → keeps_rule arities unique scope checks tag n k ≡ member k scope
  unfolding keeps_rule
  rule_variable e = rw e

  rule_apply : tag ≡ tag_apply → keeps_rule arities unique scope checks tag n k ≡ names arities k n
  unfolding keeps_rule
  rule_apply e = rw e

  rule_spawn : tag ≡ tag_spawn → keeps_rule arities unique scope checks tag n k ≡ names arities k n
  unfolding keeps_rule
  rule_spawn e = rw e

  rule_let : tag ≡ tag_let → keeps_rule arities unique scope checks tag n k ≡ not (member k scope)
  unfolding keeps_rule
  rule_let e = rw e

  rule_check : tag ≡ tag_check → keeps_rule arities unique scope checks tag n k ≡ not (unique && member k checks)
  unfolding keeps_rule
  rule_check e = rw e

  rule_other : ¬ (tag ≡ tag_apply) → ¬ (tag ≡ tag_spawn) → ¬ (tag ≡ tag_check) → ¬ (tag ≡ tag_variable) → ¬ (tag ≡ tag_let) → keeps_rule arities unique scope checks tag n k ≡ true
  unfolding keeps_rule
  rule_other a b c d e = rw (eqb_apart tag tag_variable d, eqb_apart tag tag_apply a, eqb_apart tag tag_spawn b, eqb_apart tag tag_let e, eqb_apart tag tag_check c)

-- how large k is where the word fits
pub variable_k : (places spot w : ℕ) → fits places spot w ≡ true → tag_of w ≡ tag_variable → k_of w < variables
unfolding k_limit row_of table
variable_k places spot w f e = rw e at (fits_parts places spot w f).k_below

pub let_k : (places spot w : ℕ) → fits places spot w ≡ true → tag_of w ≡ tag_let → k_of w < variables
unfolding k_limit row_of table
let_k places spot w f e = rw e at (fits_parts places spot w f).k_below

pub check_k : (places spot w : ℕ) → fits places spot w ≡ true → tag_of w ≡ tag_check → k_of w < check_numbers
unfolding k_limit row_of table
check_k places spot w f e = rw e at (fits_parts places spot w f).k_below

-- the rule, by the tests of the code
module _ (w : ℕ) (marks : List Bool) (arities : List ℕ) (unique : Bool) (met : List Bool) (t : ℕ) (et : t ≡ tag_of w) (v : ℕ) (ev : v ≡ k_of w) where
  pub rules_named : (t ≡ tag_apply) ⊎ (t ≡ tag_spawn) → (m : ℕ) → m ≡ n_of w → (r : Bool) → r ≡ names arities v m → Rules w marks arities unique met r
  rules_named s m em r er =
      record {
        answer = λ places spot scope checks f h g. er ∙ rw (ev, em) (sym (elim s [
          | inl e ↦ rule_apply arities unique scope checks (tag_of w) (n_of w) (k_of w) (sym et ∙ e)
          | inr e ↦ rule_spawn arities unique scope checks (tag_of w) (n_of w) (k_of w) (sym et ∙ e)
        ]));
      }

  module _ (e : t ≡ tag_check) where
    pub check_out : check_numbers ≤ v → (r : Bool) → Rules w marks arities unique met r
    check_out b r = record { answer = λ places spot scope checks f h g. absurd (omega (arith, check_k places spot w f (sym et ∙ e))) }

    pub check_free : unique ≡ false → Rules w marks arities unique met (not unique)
    check_free u = record { answer = λ places spot scope checks f h g. sym (rule_check arities unique scope checks (tag_of w) (n_of w) (k_of w) (sym et ∙ e) ∙ rw u refl) }

    pub check_new : v < check_numbers → unique ≡ true → Rules w marks arities unique met (not (get_or met v false))
    check_new b u =
        record { answer = λ places spot scope checks f h g. sym (rule_check arities unique scope checks (tag_of w) (n_of w) (k_of w) (sym et ∙ e) ∙ rw (u, ← ev, g.told v b)) }

  module _ (e : t ≡ tag_variable) where
    pub variable_out : variables ≤ v → (r : Bool) → Rules w marks arities unique met r
    variable_out b r = record { answer = λ places spot scope checks f h g. absurd (omega (arith, variable_k places spot w f (sym et ∙ e))) }

    pub variable_in : v < variables → Rules w marks arities unique met (get_or marks v false)
    variable_in b = record { answer = λ places spot scope checks f h g. h.told v b ∙ sym (rule_variable arities unique scope checks (tag_of w) (n_of w) (k_of w) (sym et ∙ e) ∙ rw (← ev)) }

  module _ (e : t ≡ tag_let) where
    pub let_out : variables ≤ v → (r : Bool) → Rules w marks arities unique met r
    let_out b r = record { answer = λ places spot scope checks f h g. absurd (omega (arith, let_k places spot w f (sym et ∙ e))) }

    pub let_in : v < variables → Rules w marks arities unique met (not (get_or marks v false))
    let_in b = record { answer = λ places spot scope checks f h g. sym (rule_let arities unique scope checks (tag_of w) (n_of w) (k_of w) (sym et ∙ e) ∙ rw (← ev, h.told v b)) }

  pub rules_other : ¬ ((t ≡ tag_apply) ⊎ (t ≡ tag_spawn)) → ¬ (t ≡ tag_check) → ¬ (t ≡ tag_variable) → ¬ (t ≡ tag_let) → Rules w marks arities unique met true
  rules_other a c d e =
      record {
        answer = λ places spot scope checks f h g.
            sym (rule_other arities unique scope checks (tag_of w) (n_of w) (k_of w) (λ i. a (inl (et ∙ i))) (λ i. a (inr (et ∙ i))) (λ i. c (et ∙ i)) (λ i. d (et ∙ i)) (λ i. e (et ∙ i)));
      }
