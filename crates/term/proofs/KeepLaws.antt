-- `binds` and `keeps` go through a term exactly where it keeps the rules.
use Prim.Native.Nat.{ℕ, suc, ◌+◌}
use mathlib.Core.Path.{◌≡◌, refl, sym, ◌∙◌, ap}
use mathlib.Core.Logic.{inl, inr}
use mathlib.Core.Bool.{Bool, true, false, cond, not, ◌&&◌, ◌||◌}
use mathlib.Core.Option.{none}
use mathlib.Core.List.{List, [], ◌∷◌}
use lib.Dec.{eqb}
use Rattle.lists.specs.Lists.{member}
use Rattle.lists.proofs.Tests.{true_or_false, none_not_some, choose, choose_true, choose_false}
use Rattle.term.specs.Words.{tag_variable, tag_apply, tag_spawn, tag_let, tag_check, tag_clause}
use Rattle.term.specs.Tree.{Term, Terms, int, node, end, ◌then◌}
use Rattle.term.specs.Binding.{Walk, breaks, passes, and_then, binds, binds_all, names, keeps_rule, checks_after, keeps, keeps_all, keeps_let, keeps_clause}
use Rattle.term.specs.Module.{breaker}
use Rattle.term.proofs.Keep.{opens, opens_all, New, NewAll, Keeps, KeepsAll, KeepsLet, KeepsClause}

-- the clauses of the definitions, by the tests that they make
module _ (scope : List ℕ) (tag n k : ℕ) (ts : Terms) where
  binds_taken : (at : ℕ) (checks : List ℕ) → eqb tag tag_variable ≡ true → member k scope ≡ true → binds scope (node tag n k ts) at checks ≡ breaks at
  unfolding binds
  binds_taken at checks e m = choose_true (choose (member k scope) (breaks at) (passes (suc at) (k ∷ scope) checks)) (binds_all scope ts (suc at) checks) e ∙ choose_true (breaks at) (passes (suc at) (k ∷ scope) checks) m

  binds_variable : (at : ℕ) (checks : List ℕ) → eqb tag tag_variable ≡ true → member k scope ≡ false → binds scope (node tag n k ts) at checks ≡ passes (suc at) (k ∷ scope) checks
  unfolding binds
  binds_variable at checks e m = choose_true (choose (member k scope) (breaks at) (passes (suc at) (k ∷ scope) checks)) (binds_all scope ts (suc at) checks) e ∙ choose_false (breaks at) (passes (suc at) (k ∷ scope) checks) m

  binds_below : (at : ℕ) (checks : List ℕ) → eqb tag tag_variable ≡ false → binds scope (node tag n k ts) at checks ≡ binds_all scope ts (suc at) checks
  unfolding binds
  binds_below at checks e = choose_false (choose (member k scope) (breaks at) (passes (suc at) (k ∷ scope) checks)) (binds_all scope ts (suc at) checks) e

  pub opens_variable : eqb tag tag_variable ≡ true → opens scope (node tag n k ts) ≡ k ∷ scope
  unfolding opens
  opens_variable e = choose_true (k ∷ scope) (opens_all scope ts) e

  pub opens_below : eqb tag tag_variable ≡ false → opens scope (node tag n k ts) ≡ opens_all scope ts
  unfolding opens
  opens_below e = choose_false (k ∷ scope) (opens_all scope ts) e

module _ (arities : List ℕ) (unique : Bool) (scope : List ℕ) (tag n k : ℕ) (ts : Terms) (at : ℕ) (checks : List ℕ) where
  abbrev below : Walk
  below = choose (eqb tag tag_clause) (keeps_clause arities unique scope ts (suc at) checks) (keeps_all arities unique scope ts (suc at) (checks_after tag k checks))

  keeps_broken : keeps_rule arities unique scope checks tag n k ≡ false → keeps arities unique scope (node tag n k ts) at checks ≡ breaks at
  unfolding keeps
  keeps_broken r = choose_false (choose (eqb tag tag_let) (keeps_let arities unique scope k ts (suc at) checks) below) (breaks at) r

  keeps_at : keeps_rule arities unique scope checks tag n k ≡ true → keeps arities unique scope (node tag n k ts) at checks ≡ choose (eqb tag tag_let) (keeps_let arities unique scope k ts (suc at) checks) below
  unfolding keeps
  keeps_at r = choose_true (choose (eqb tag tag_let) (keeps_let arities unique scope k ts (suc at) checks) below) (breaks at) r

  keeps_let_lem : keeps_rule arities unique scope checks tag n k ≡ true → eqb tag tag_let ≡ true → keeps arities unique scope (node tag n k ts) at checks ≡ keeps_let arities unique scope k ts (suc at) checks
  keeps_let_lem r e = keeps_at r ∙ choose_true (keeps_let arities unique scope k ts (suc at) checks) below e

  keeps_clause_lem : keeps_rule arities unique scope checks tag n k ≡ true → eqb tag tag_let ≡ false → eqb tag tag_clause ≡ true → keeps arities unique scope (node tag n k ts) at checks ≡ keeps_clause arities unique scope ts (suc at) checks
  keeps_clause_lem r e c = keeps_at r ∙ choose_false (keeps_let arities unique scope k ts (suc at) checks) below e ∙ choose_true (keeps_clause arities unique scope ts (suc at) checks) (keeps_all arities unique scope ts (suc at) (checks_after tag k checks)) c

  keeps_other : keeps_rule arities unique scope checks tag n k ≡ true → eqb tag tag_let ≡ false → eqb tag tag_clause ≡ false → keeps arities unique scope (node tag n k ts) at checks ≡ keeps_all arities unique scope ts (suc at) (checks_after tag k checks)
  keeps_other r e c = keeps_at r ∙ choose_false (keeps_let arities unique scope k ts (suc at) checks) below e ∙ choose_false (keeps_clause arities unique scope ts (suc at) checks) (keeps_all arities unique scope ts (suc at) (checks_after tag k checks)) c

-- a walk that passed
pub record Passes (walk : Walk) : Type 0 where
  pub at : ℕ
  pub scope : List ℕ
  pub checks : List ℕ
  pub same : walk ≡ passes at scope checks

pub passed : (walk : Walk) → breaker walk ≡ none → Passes walk
unfolding breaker
passed (breaks at) h = none_not_some (sym h)
passed (passes at scope checks) h = record { at = at; scope = scope; checks = checks; same = refl }

abbrev pub as_walk : {walk walk' : Walk} → walk ≡ walk' → Passes walk → Passes walk'
as_walk e p = record { at = p.at; scope = p.scope; checks = p.checks; same = sym e ∙ p.same }

pub not_broken : {walk : Walk} → Passes walk → breaker walk ≡ none
unfolding breaker
not_broken p = ap breaker p.same

broken_passes : {A : Type 0} {at at' : ℕ} {scope checks : List ℕ} → breaks at ≡ passes at' scope checks → A
unfolding breaker
broken_passes e = none_not_some (sym (ap breaker e))

-- both parts of a walk passed
pub then_passed : (walk : Walk) (next : ℕ → List ℕ → List ℕ → Walk) (p : Passes (and_then walk next)) → (q : Passes walk) × (next q.at q.scope q.checks ≡ passes p.at p.scope p.checks)
unfolding and_then
then_passed (breaks at) next p = broken_passes p.same
then_passed (passes at scope checks) next p = (record { at = at; scope = scope; checks = checks; same = refl }, p.same)

then_passes : {walk : Walk} (next : ℕ → List ℕ → List ℕ → Walk) → (p : Passes walk) → Passes (next p.at p.scope p.checks) → Passes (and_then walk next)
unfolding and_then
then_passes next p q = rw p.same q

same_scope : {at at' : ℕ} {scope scope' checks checks' : List ℕ} → passes at scope checks ≡ passes at' scope' checks' → scope ≡ scope'
same_scope e = cc

-- a pattern that is gone through has new variables, and its scope is the one after it
mutual
  unfolding binds opens New

  pub binds_new : (scope : List ℕ) (t : Term) (at : ℕ) (checks : List ℕ) → (p : Passes (binds scope t at checks)) → New scope t × (p.scope ≡ opens scope t)
  binds_new scope (int x) at checks p = (tt, sym (same_scope p.same))
  binds_new scope (node tag n k ts) at checks p = elim (true_or_false (eqb tag tag_variable)) [
    | inl e ↦ elim (true_or_false (member k scope)) [
      | inl m ↦ broken_passes (sym (binds_taken scope tag n k ts at checks e m) ∙ p.same)
      | inr m ↦ (rw e m, sym (same_scope (sym (binds_variable scope tag n k ts at checks e m) ∙ p.same)) ∙ sym (opens_variable scope tag n k ts e))
    ]
    | inr e ↦ let r = binds_all_new scope ts (suc at) checks (as_walk (binds_below scope tag n k ts at checks e) p) in (rw e r.0, r.1 ∙ sym (opens_below scope tag n k ts e))
  ]

  pub binds_all_new : (scope : List ℕ) (ts : Terms) (at : ℕ) (checks : List ℕ) → (p : Passes (binds_all scope ts at checks)) → NewAll scope ts × (p.scope ≡ opens_all scope ts)
  binds_all_new scope end at checks p = (tt, sym (same_scope p.same))
  binds_all_new scope (t then ts) at checks p =
      let r = then_passed (binds scope t at checks) (λ at' scope' checks'. binds_all scope' ts at' checks') p in
      let q = binds_new scope t at checks r.0 in
      let w : binds_all (opens scope t) ts r.0.at r.0.checks ≡ passes p.at p.scope p.checks = rw q.1 at r.1 in
      let u = binds_all_new (opens scope t) ts r.0.at r.0.checks (record { at = p.at; scope = p.scope; checks = p.checks; same = w }) in
      ((q.0, u.0), u.1)

-- and a pattern with new variables is gone through
mutual
  unfolding binds opens New and_then

  pub new_binds : (scope : List ℕ) (t : Term) (at : ℕ) (checks : List ℕ) → New scope t → (at' : ℕ) × (binds scope t at checks ≡ passes at' (opens scope t) checks)
  new_binds scope (int x) at checks h = (at + 2, refl)
  new_binds scope (node tag n k ts) at checks h = elim (true_or_false (eqb tag tag_variable)) [
    | inl e ↦ (suc at, binds_variable scope tag n k ts at checks e (rw e at h) ∙ ap (λ (s : List ℕ). passes (suc at) s checks) (sym (opens_variable scope tag n k ts e)))
    | inr e ↦ let r = new_all_binds scope ts (suc at) checks (rw e at h) in (r.0, binds_below scope tag n k ts at checks e ∙ r.1 ∙ ap (λ (s : List ℕ). passes r.0 s checks) (sym (opens_below scope tag n k ts e)))
  ]

  pub new_all_binds : (scope : List ℕ) (ts : Terms) (at : ℕ) (checks : List ℕ) → NewAll scope ts → (at' : ℕ) × (binds_all scope ts at checks ≡ passes at' (opens_all scope ts) checks)
  new_all_binds scope end at checks h = (at, refl)
  new_all_binds scope (t then ts) at checks h =
      let r = new_binds scope t at checks h.0 in
      let q = new_all_binds (opens scope t) ts r.0 checks h.1 in
      (q.0, ap (λ (w : Walk). and_then w (λ at' scope' checks'. binds_all scope' ts at' checks')) r.1 ∙ q.1)

-- what the rule for one word asks does not grow where check numbers may repeat
rule_loose : (v a l c : Bool) (x y z u : Bool) → cond v x (cond a y (cond l z (cond c u true))) ≡ true → cond v x (cond a y (cond l z (cond c true true))) ≡ true
rule_loose true a l c x y z u h = h
rule_loose false true l c x y z u h = h
rule_loose false false true c x y z u h = h
rule_loose false false false true x y z u h = refl
rule_loose false false false false x y z u h = refl

rule_unchecked : (arities : List ℕ) (unique : Bool) (scope checks : List ℕ) (tag n k : ℕ) → keeps_rule arities unique scope checks tag n k ≡ true → keeps_rule arities false scope [] tag n k ≡ true
unfolding keeps_rule
rule_unchecked arities unique scope checks tag n k h = rule_loose (eqb tag tag_variable) (eqb tag tag_apply || eqb tag tag_spawn) (eqb tag tag_let) (eqb tag tag_check) (member k scope) (names arities k n) (not (member k scope)) (not (unique && member k checks)) h

rule_repeats : (arities scope checks : List ℕ) (tag n k : ℕ) → keeps_rule arities false scope [] tag n k ≡ true → keeps_rule arities false scope checks tag n k ≡ true
unfolding keeps_rule
rule_repeats arities scope checks tag n k h = h

-- a term that is gone through keeps the rules
mutual
  unfolding keeps Keeps

  pub keeps_tree : (arities : List ℕ) (unique : Bool) (scope : List ℕ) (t : Term) (at : ℕ) (checks : List ℕ) → Passes (keeps arities unique scope t at checks) → Keeps arities scope t
  keeps_tree arities unique scope (int x) at checks p = tt
  keeps_tree arities unique scope (node tag n k ts) at checks p = elim (true_or_false (keeps_rule arities unique scope checks tag n k)) [
    | inl r ↦ (
      rule_unchecked arities unique scope checks tag n k r,
      elim (true_or_false (eqb tag tag_let)) [
        | inl e ↦ rw e (let_tree arities unique scope k ts (suc at) checks (as_walk (keeps_let_lem arities unique scope tag n k ts at checks r e) p))
        | inr e ↦ elim (true_or_false (eqb tag tag_clause)) [
          | inl c ↦ rw (e, c) (clause_tree arities unique scope ts (suc at) checks (as_walk (keeps_clause_lem arities unique scope tag n k ts at checks r e c) p))
          | inr c ↦ rw (e, c) (all_tree arities unique scope ts (suc at) (checks_after tag k checks) (as_walk (keeps_other arities unique scope tag n k ts at checks r e c) p))
        ]
      ],
    )
    | inr r ↦ broken_passes (sym (keeps_broken arities unique scope tag n k ts at checks r) ∙ p.same)
  ]

  pub all_tree : (arities : List ℕ) (unique : Bool) (scope : List ℕ) (ts : Terms) (at : ℕ) (checks : List ℕ) → Passes (keeps_all arities unique scope ts at checks) → KeepsAll arities scope ts
  all_tree arities unique scope end at checks p = tt
  all_tree arities unique scope (t then ts) at checks p =
      let r = then_passed (keeps arities unique scope t at checks) (λ at' scope' checks'. keeps_all arities unique scope ts at' checks') p in
      (keeps_tree arities unique scope t at checks r.0, all_tree arities unique scope ts r.0.at r.0.checks (record { at = p.at; scope = p.scope; checks = p.checks; same = r.1 }))

  let_tree : (arities : List ℕ) (unique : Bool) (scope : List ℕ) (k : ℕ) (ts : Terms) (at : ℕ) (checks : List ℕ) → Passes (keeps_let arities unique scope k ts at checks) → KeepsLet arities scope k ts
  let_tree arities unique scope k end at checks p = tt
  let_tree arities unique scope k (bound then body) at checks p =
      let r = then_passed (keeps arities unique scope bound at checks) (λ at' scope' checks'. keeps_all arities unique (k ∷ scope) body at' checks') p in
      (keeps_tree arities unique scope bound at checks r.0, all_tree arities unique (k ∷ scope) body r.0.at r.0.checks (record { at = p.at; scope = p.scope; checks = p.checks; same = r.1 }))

  clause_tree : (arities : List ℕ) (unique : Bool) (scope : List ℕ) (ts : Terms) (at : ℕ) (checks : List ℕ) → Passes (keeps_clause arities unique scope ts at checks) → KeepsClause arities scope ts
  clause_tree arities unique scope end at checks p = tt
  clause_tree arities unique scope (pattern then rest) at checks p =
      let r = then_passed (binds scope pattern at checks) (λ at' scope' checks'. keeps_all arities unique scope' rest at' checks') p in
      let q = binds_new scope pattern at checks r.0 in
      let w : keeps_all arities unique (opens scope pattern) rest r.0.at r.0.checks ≡ passes p.at p.scope p.checks = rw q.1 at r.1 in
      (q.0, all_tree arities unique (opens scope pattern) rest r.0.at r.0.checks (record { at = p.at; scope = p.scope; checks = p.checks; same = w }))

-- a term that keeps the rules is gone through, where check numbers may repeat
mutual
  unfolding keeps Keeps

  pub tree_keeps : (arities scope : List ℕ) (t : Term) (at : ℕ) (checks : List ℕ) → Keeps arities scope t → Passes (keeps arities false scope t at checks)
  tree_keeps arities scope (int x) at checks h = record { at = at + 2; scope = scope; checks = checks; same = refl }
  tree_keeps arities scope (node tag n k ts) at checks h =
      let r = rule_repeats arities scope checks tag n k h.0 in
      elim (true_or_false (eqb tag tag_let)) [
        | inl e ↦ as_walk (sym (keeps_let_lem arities false scope tag n k ts at checks r e)) (tree_let arities scope k ts (suc at) checks (rw e at h.1))
        | inr e ↦ elim (true_or_false (eqb tag tag_clause)) [
          | inl c ↦ as_walk (sym (keeps_clause_lem arities false scope tag n k ts at checks r e c)) (tree_clause arities scope ts (suc at) checks (rw (e, c) at h.1))
          | inr c ↦ as_walk (sym (keeps_other arities false scope tag n k ts at checks r e c)) (tree_all arities scope ts (suc at) (checks_after tag k checks) (rw (e, c) at h.1))
        ]
      ]

  pub tree_all : (arities scope : List ℕ) (ts : Terms) (at : ℕ) (checks : List ℕ) → KeepsAll arities scope ts → Passes (keeps_all arities false scope ts at checks)
  tree_all arities scope end at checks h = record { at = at; scope = scope; checks = checks; same = refl }
  tree_all arities scope (t then ts) at checks h =
      let p = tree_keeps arities scope t at checks h.0 in
      then_passes (λ at' scope' checks'. keeps_all arities false scope ts at' checks') p (tree_all arities scope ts p.at p.checks h.1)

  tree_let : (arities scope : List ℕ) (k : ℕ) (ts : Terms) (at : ℕ) (checks : List ℕ) → KeepsLet arities scope k ts → Passes (keeps_let arities false scope k ts at checks)
  tree_let arities scope k end at checks h = record { at = at; scope = scope; checks = checks; same = refl }
  tree_let arities scope k (bound then body) at checks h =
      let p = tree_keeps arities scope bound at checks h.0 in
      then_passes (λ at' scope' checks'. keeps_all arities false (k ∷ scope) body at' checks') p (tree_all arities (k ∷ scope) body p.at p.checks h.1)

  tree_clause : (arities scope : List ℕ) (ts : Terms) (at : ℕ) (checks : List ℕ) → KeepsClause arities scope ts → Passes (keeps_clause arities false scope ts at checks)
  tree_clause arities scope end at checks h = record { at = at; scope = scope; checks = checks; same = refl }
  tree_clause arities scope (pattern then rest) at checks h =
      let b = new_binds scope pattern at checks h.0 in
      then_passes (λ at' scope' checks'. keeps_all arities false scope' rest at' checks') (record { at = b.0; scope = opens scope pattern; checks = checks; same = b.1 }) (tree_all arities (opens scope pattern) rest b.0 checks h.1)
