-- Matching gives a value to each variable of the pattern and to no other, and the values are parts of the value matched. A function's
-- parameters likewise.
use Prim.Native.Nat.{ℕ, suc, ◌+◌, ◌<◌, ◌≤◌}
use mathlib.Core.Path.{◌≡◌, sym, ◌∙◌, ap, subst}
use mathlib.Core.Logic.{inl, inr}
use mathlib.Core.Bool.{true, false, ◌&&◌}
use mathlib.Core.Option.{Option, none, some}
use mathlib.Core.List.{List, [], ◌∷◌}
use native.Mathlib.Omega.{arith}
use native.Mathlib.Decide.{ℕ_discrete}
use lib.Dec.{eqb}
use Rattle.lists.specs.Lists.{member, up_to}
use Rattle.lists.proofs.Tests.{eqb_of, eqb_apart, true_or_false, none_not_some, some_injective, cond_true, cond_false, choose_true, choose_false}
use Rattle.lists.proofs.MemberTest.{member_here, member_there, member_cons, member_none, up_to_below, below_up_to}
use Rattle.term.specs.Words.{tag_variable}
use Rattle.term.specs.Tree.{Term, Terms, int, node, end, ◌then◌, count}
use Rattle.term.proofs.Keep.{opens, opens_all}
use Rattle.term.proofs.KeepLaws.{opens_variable, opens_below}
use Rattle.machine.specs.Match.{Bindings, unbound, with, children_of, is_integer, match, match_all}
use Rattle.machine.specs.Bind.{parameters}
use Rattle.machine.proofs.BindLaws.{Covers, none_or_some}

-- every term of a row has the property
unfoldable pub Each : (Term → Type 0) → Terms → Type 0
Each P end = Unit {0}
Each P (t then ts) = P t × Each P ts

-- the variables that have values are those of the scope, and the values have the property
pub record Binds (P : Term → Type 0) (bindings : Bindings) (scope : List ℕ) : Type 0 where
  pub known : (k : ℕ) (v : Term) → bindings k ≡ some v → member k scope ≡ true
  pub has : (k : ℕ) → member k scope ≡ true → ¬ (bindings k ≡ none)
  pub holds : (k : ℕ) (v : Term) → bindings k ≡ some v → P v

-- no variable is left
pub binds_covers : {P : Term → Type 0} {bindings : Bindings} {scope : List ℕ} → Binds P bindings scope → Covers bindings scope []
binds_covers b = record {
  known = b.known;
  left = λ k m e. absurd (b.has k m e);
  within = λ k m. member_none k m;
}

pub binds_nothing : (P : Term → Type 0) → Binds P unbound []
binds_nothing P = record {
  known = λ k v e. none_not_some e;
  has = λ k m e. member_none k m;
  holds = λ k v e. none_not_some e;
}

with_here : (k j : ℕ) (v : Term) (bindings : Bindings) → k ≡ j → with k v bindings j ≡ some v
unfolding with
with_here k j v bindings e = cond_true (some v) (bindings j) (eqb_of k j e)

with_there : (k j : ℕ) (v : Term) (bindings : Bindings) → ¬ (k ≡ j) → with k v bindings j ≡ bindings j
unfolding with
with_there k j v bindings e = cond_false (some v) (bindings j) (eqb_apart k j e)

pub binds_with : {P : Term → Type 0} {bindings : Bindings} {scope : List ℕ} (k : ℕ) (v : Term) → P v → Binds P bindings scope → Binds P (with k v bindings) (k ∷ scope)
binds_with {P} {bindings} {scope} k v p b = record {
  known = λ j u e. elim (ℕ_discrete k j) [
    | yes i ↦ subst (λ x. member x (k ∷ scope) ≡ true) i (member_here k scope)
    | no i ↦ member_there j k scope (b.known j u (sym (with_there k j v bindings i) ∙ e))
  ];
  has = λ j m e. elim (ℕ_discrete k j) [
    | yes i ↦ none_not_some (sym e ∙ with_here k j v bindings i)
    | no i ↦ elim (member_cons j k scope m) [ inl a ↦ i (sym a) | inr a ↦ b.has j a (sym (with_there k j v bindings i) ∙ e) ]
  ];
  holds = λ j u e. elim (ℕ_discrete k j) [
    | yes i ↦ subst P (some_injective (sym (with_here k j v bindings i) ∙ e)) p
    | no i ↦ b.holds j u (sym (with_there k j v bindings i) ∙ e)
  ];
}

-- the clauses of `match`, by the tests that they make
module _ (tag n k : ℕ) (ps : Terms) (v : Term) (bindings : Bindings) where
  abbrev on_children : Option Terms → Option Bindings
  on_children o = elim o [ none ↦ none | some vs ↦ match_all ps vs bindings ]

  match_variable : eqb tag tag_variable ≡ true → match (node tag n k ps) v bindings ≡ some (with k v bindings)
  unfolding match
  match_variable e = choose_true (some (with k v bindings)) (on_children (children_of tag n k v)) e

  match_below : (o : Option Terms) → eqb tag tag_variable ≡ false → children_of tag n k v ≡ o → match (node tag n k ps) v bindings ≡ on_children o
  unfolding match
  match_below o e i = choose_false (some (with k v bindings)) (on_children (children_of tag n k v)) e ∙ ap on_children i

module _ (p : Term) (ps : Terms) (v : Term) (vs : Terms) (bindings : Bindings) where
  abbrev on_others : Option Bindings → Option Bindings
  on_others o = elim o [ none ↦ none | some bindings' ↦ match_all ps vs bindings' ]

  match_then : (o : Option Bindings) → match p v bindings ≡ o → match_all (p then ps) (v then vs) bindings ≡ on_others o
  unfolding match match_all
  match_then o e = ap on_others e

module _ (P : Term → Type 0) (children : (tag n k : ℕ) (vs : Terms) → P (node tag n k vs) → Each P vs) where
  children_hold : (tag n k : ℕ) (v : Term) (vs : Terms) → children_of tag n k v ≡ some vs → P v → Each P vs
  unfolding children_of
  children_hold tag n k (int x) vs e p = none_not_some e
  children_hold tag n k (node tag' n' k' ws) vs e p = elim (true_or_false (eqb tag tag' && eqb n n' && eqb k k')) [
    | inl i ↦ subst (Each P) (some_injective (sym (cond_true (some ws) none i) ∙ e)) (children tag' n' k' ws p)
    | inr i ↦ none_not_some (sym (cond_false (some ws) none i) ∙ e)
  ]

  mutual
    unfolding match match_all opens opens_all Each

    pub match_binds : {bindings bindings' : Bindings} {scope : List ℕ} (pattern : Term) (v : Term) → P v → Binds P bindings scope → match pattern v bindings ≡ some bindings' → Binds P bindings' (opens scope pattern)
    match_binds {bindings} {bindings'} {scope} (int x) v p b e = elim (true_or_false (is_integer x v)) [
      | inl i ↦ subst (λ c. Binds P c scope) (some_injective (sym (cond_true (some bindings) none i) ∙ e)) b
      | inr i ↦ none_not_some (sym (cond_false (some bindings) none i) ∙ e)
    ]
    match_binds {bindings} {bindings'} {scope} (node tag n k ps) v p b e = elim (true_or_false (eqb tag tag_variable)) [
      | inl i ↦ rw (opens_variable scope tag n k ps i) (subst (λ c. Binds P c (k ∷ scope)) (some_injective (sym (match_variable tag n k ps v bindings i) ∙ e)) (binds_with k v p b))
      | inr i ↦ elim (none_or_some (children_of tag n k v)) [
        | inl o ↦ none_not_some (sym (match_below tag n k ps v bindings none i o) ∙ e)
        | inr o ↦ rw (opens_below scope tag n k ps i) (match_all_binds ps o.0 (children_hold tag n k v o.0 o.1 p) b (sym (match_below tag n k ps v bindings (some o.0) i o.1) ∙ e))
      ]
    ]

    pub match_all_binds : {bindings bindings' : Bindings} {scope : List ℕ} (patterns vs : Terms) → Each P vs → Binds P bindings scope → match_all patterns vs bindings ≡ some bindings' → Binds P bindings' (opens_all scope patterns)
    match_all_binds {scope} end end p b e = subst (λ c. Binds P c scope) (some_injective e) b
    match_all_binds end (v then vs) p b e = none_not_some e
    match_all_binds (pattern then patterns) end p b e = none_not_some e
    match_all_binds {bindings} (pattern then patterns) (v then vs) p b e = elim (none_or_some (match pattern v bindings)) [
      | inl o ↦ none_not_some (sym (match_then pattern patterns v vs bindings none o) ∙ e)
      | inr o ↦ match_all_binds patterns vs p.1 (match_binds pattern v p.0 b o.1) (sym (match_then pattern patterns v vs bindings (some o.0) o.1) ∙ e)
    ]

-- the parameters from j on: as many as there are values
pub record Parameters (P : Term → Type 0) (j : ℕ) (vs : Terms) (bindings : Bindings) : Type 0 where
  pub from : (k : ℕ) (v : Term) → bindings k ≡ some v → (j ≤ k) × (k < j + count vs)
  pub all : (k : ℕ) → j ≤ k → k < j + count vs → ¬ (bindings k ≡ none)
  pub holds : (k : ℕ) (v : Term) → bindings k ≡ some v → P v

parameters_bound : (P : Term → Type 0) (j : ℕ) (vs : Terms) → Each P vs → Parameters P j vs (parameters j vs unbound)
unfolding parameters Each count
parameters_bound P j end p = record {
  from = λ k v e. none_not_some e;
  all = λ k a b e. absurd (omega arith);
  holds = λ k v e. none_not_some e;
}
parameters_bound P j (w then vs) p =
    let r = parameters_bound P (suc j) vs p.1 in
    record {
      from = λ k v e. elim (ℕ_discrete j k) [
        | yes i ↦ omega arith
        | no i ↦ (let b = r.from k v (sym (with_there j k w (parameters (suc j) vs unbound) i) ∙ e) in omega arith)
      ];
      all = λ k a b e. elim (ℕ_discrete j k) [
        | yes i ↦ none_not_some (sym e ∙ with_here j k w (parameters (suc j) vs unbound) i)
        | no i ↦ r.all k (omega arith) (omega arith) (sym (with_there j k w (parameters (suc j) vs unbound) i) ∙ e)
      ];
      holds = λ k v e. elim (ℕ_discrete j k) [
        | yes i ↦ subst P (some_injective (sym (with_here j k w (parameters (suc j) vs unbound) i) ∙ e)) p.0
        | no i ↦ r.holds k v (sym (with_there j k w (parameters (suc j) vs unbound) i) ∙ e)
      ];
    }

pub parameters_binds : (P : Term → Type 0) (vs : Terms) → Each P vs → Binds P (parameters 0 vs unbound) (up_to (count vs))
parameters_binds P vs p =
    let r = parameters_bound P 0 vs p in
    record {
      known = λ k v e. below_up_to k (count vs) (let b = r.from k v e in omega arith);
      has = λ k m e. r.all k (omega arith) (let b = up_to_below k (count vs) m in omega arith) e;
      holds = r.holds;
    }
