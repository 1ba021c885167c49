-- What each kind of term, at the working place, makes: right terms, whose pids stood in it.
use Prim.Native.Nat.{ℕ, zero, suc, ◌≤◌}
use mathlib.Core.Path.{◌≡◌, refl, sym, ◌∙◌, ap}
use mathlib.Core.Logic.{◌⊎◌, inl, inr}
use mathlib.Core.Bool.{true, false}
use mathlib.Core.Option.{Option, none, some}
use mathlib.Core.List.{List, [], ◌∷◌}
use native.Mathlib.Omega.{arith}
use lib.Dec.{eqb}
use lib.ListN.{replicate, length-replicate}
use Rattle.lists.specs.Lists.{member, up_to}
use Rattle.lists.proofs.Tests.{true_or_false, true_not_false, none_not_some, some_injective, and_of}
use Rattle.term.specs.Words.{tag_integer, tag_apply, tag_case, tag_let, tag_receive, tag_spawn}
use Rattle.term.specs.Table.{alike, table, row_of, tags_at, k_limit, own_spot, spots_below, spot_expression, spot_value}
use Rattle.term.specs.Tree.{Term, Terms, node, end, ◌then◌, count}
use Rattle.term.specs.Binding.{names, keeps_rule}
use Rattle.term.specs.Module.{parameters_of, body_of, arities_of, function_of}
use Rattle.term.proofs.Keep.{Keeps, KeepsAll, KeepsLet}
use Rattle.machine.specs.Value.{is_value, are_values}
use Rattle.machine.specs.Match.{unbound, with}
use Rattle.machine.specs.Bind.{bind, parameters}
use Rattle.machine.specs.Clauses.{first_clause}
use Rattle.machine.specs.Place.{entered, ready}
use Rattle.machine.specs.Work.{body_with, case_gives, let_gives}
use Rattle.machine.specs.Laws.{PidIn, PidAmong}
use Rattle.machine.proofs.Sits.{Sits, SitAll}
use Rattle.machine.proofs.SitLaws.{under_expression, is_value_lem, are_values_lem, lift, no_pid}
use Rattle.machine.proofs.BindLaws.{none_or_some}
use Rattle.machine.proofs.MatchLaws.{binds_nothing, binds_with, parameters_binds}
use Rattle.machine.proofs.Right.{Right, ValueFrom, values_from}
use Rattle.machine.proofs.PlaceLaws.{ready_past, ready_into}
use Rattle.machine.proofs.ClauseLaws.{Body, bound_body, first_body}
use Rattle.machine.proofs.FitLaws.{sit_count}
use Rattle.machine.proofs.ModuleLaws.{GoodModule, named}

-- children that are gone into are values, where the term is ready
pub ready_head : (t : Term) (ts : Terms) (m : ℕ) → ready (t then ts) (suc m) ≡ true → (is_value t ≡ true) × (ready ts m ≡ true)
unfolding ready
ready_head t ts m h = elim (true_or_false (is_value t)) [
  | inl e ↦ (e, sym (ready_past t ts m e) ∙ h)
  | inr e ↦ true_not_false h (ready_into t ts m e)
]

ready_values : (ts : Terms) → ready ts (count ts) ≡ true → are_values ts ≡ true
unfolding count are_values
ready_values end h = refl
ready_values (t then ts) h = let r = ready_head t ts (count ts) h in and_of r.0 (ready_values ts r.1)

module _ (places : ℕ) (arities : List ℕ) where
  -- the children of a word all of which are gone into
  pub values_below : (tag n k : ℕ) (ts : Terms) → Right places arities (node tag n k ts) → ready ts (entered tag ts) ≡ true → entered tag ts ≡ count ts → (row_of tag).children ≡ alike → SitAll places ts (replicate n spot_value)
  unfolding Sits
  values_below tag n k ts r h e a = are_values_lem places ts n (rw (under_expression tag n a) at r.sits.1) (ready_values ts (rw e at h))

pub first_two : (places n s : ℕ) (a b : Term) (ts : Terms) → SitAll places (a then (b then ts)) (replicate n s) → Sits places s a × Sits places s b
unfolding SitAll
first_two places zero s a b ts h = absurd h
first_two places (suc zero) s a b ts h = absurd h.1
first_two places (suc (suc n)) s a b ts h = (h.0, h.1.0)

-- a spawn's child: the same word with tag apply
pub child_right : (places : ℕ) (arities : List ℕ) (n k : ℕ) (ts : Terms) → Right places arities (node tag_spawn n k ts) → Right places arities (node tag_apply n k ts)
unfolding Sits Keeps keeps_rule tags_at member row_of table k_limit spots_below own_spot
child_right places arities n k ts r =
    let w = r.sits.0 in
    record {
      sits = (record { no_integer = λ e. let z : tag_apply ≡ tag_integer = e in absurd (omega arith); tag_there = refl; least_n = w.least_n; greatest_n = w.greatest_n; k_below = w.k_below }, r.sits.1);
      keeps = (r.keeps.0, r.keeps.1);
    }

-- apply and spawn name functions rightly
pub names_of : (arities scope : List ℕ) (n k : ℕ) → keeps_rule arities false scope [] tag_apply n k ≡ true → names arities k n ≡ true
unfolding keeps_rule
names_of arities scope n k h = h

abbrev on_body : Terms → Terms → Option Term
on_body vs bs = elim bs [ end ↦ none | body then ts ↦ some (bind (parameters 0 vs unbound) body) ]

body_with_lem : (vs : Terms) (k : ℕ) (functions : Terms) (o : Option Term) → function_of functions k ≡ o → body_with vs (function_of functions k) ≡ body_with vs o
body_with_lem vs k functions o e = ap (body_with vs) e

body_some : (vs : Terms) (f : Term) → body_with vs (some f) ≡ on_body vs (body_of f)
unfolding body_with
body_some vs f = refl

module _ (places : ℕ) (few_places : places ≤ 65536) (some_place : eqb places 0 ≡ false) (functions : Terms) (good : GoodModule functions) where
  abbrev arities : List ℕ
  arities = arities_of functions

  -- the body with the values in place of the parameters
  body_of_lem : (vs : Terms) (n : ℕ) (bs : Terms) (new : Term) → SitAll places vs (replicate n spot_value) → SitAll 0 bs (spot_expression ∷ []) → KeepsAll arities (up_to (count vs)) bs → on_body vs bs ≡ some new
      → Body places arities (λ q. PidAmong q vs) new
  unfolding SitAll KeepsAll
  body_of_lem vs n end new v h g e = absurd h
  body_of_lem vs n (body then bs) new v h g e =
      let Source : ℕ → Type 0 = λ q. PidAmong q vs in
      let b = parameters_binds (ValueFrom places Source) vs (values_from places Source vs n v (λ q p. p)) in
      let r = bound_body places arities some_place Source (parameters 0 vs unbound) (up_to (count vs)) body b (lift places spot_expression body h.0) g.0 in
      rw (← some_injective e) record { right = r.right; pids = λ q p. elim (r.pids q p) [ inl a ↦ absurd (no_pid q spot_expression body h.0 a) | inr a ↦ a ] }

  pub apply_body : (n k : ℕ) (vs : Terms) (new : Term) → Right places arities (node tag_apply n k vs) → ready vs (entered tag_apply vs) ≡ true → body_with vs (function_of functions k) ≡ some new
      → Body places arities (λ q. PidAmong q vs) new
  unfolding body_with Keeps entered row_of table
  apply_body n k vs new r h e = elim (none_or_some (function_of functions k)) [
    | inl o ↦ none_not_some (sym (body_with_lem vs k functions none o) ∙ e)
    | inr o ↦
        let v = values_below places arities tag_apply n k vs r h refl refl in
        let f = o.0 in
        let b = good.bodies k f o.1 in
        let c : count vs ≡ parameters_of f = sit_count places few_places vs (replicate n spot_value) v ∙ length-replicate {A = ℕ} n spot_value ∙ sym (named functions k n f (names_of arities [] n k r.keeps.0) o.1) in
        body_of_lem vs n (body_of f) new v b.sits (rw c b.keeps) (sym (body_some vs f) ∙ sym (body_with_lem vs k functions (some f) o.1) ∙ e)
  ]

  pub case_body : (n k : ℕ) (ts : Terms) (new : Term) → Right places arities (node tag_case n k ts) → ready ts (entered tag_case ts) ≡ true → case_gives ts ≡ some new → Body places arities (λ q. PidAmong q ts) new
  unfolding case_gives Sits SitAll Keeps KeepsAll entered spots_below row_of table PidAmong
  case_body n k end new r h e = none_not_some e
  case_body n k (subject then clauses) new r h e =
      let v = is_value_lem places subject r.sits.1.0 (ready_head subject clauses 0 h).0 in
      let b = first_body places arities some_place subject clauses n new v r.sits.1.1 r.keeps.1.1 e in
      record { right = b.right; pids = λ q p. elim (b.pids q p) [ inl a ↦ inr a | inr a ↦ inl a ] }

  pub let_body : (n k : ℕ) (ts : Terms) (new : Term) → Right places arities (node tag_let n k ts) → ready ts (entered tag_let ts) ≡ true → let_gives k ts ≡ some new → Body places arities (λ q. PidAmong q ts) new
  unfolding let_gives Sits SitAll Keeps KeepsLet KeepsAll entered PidAmong row_of table
  let_body n k end new r h e = none_not_some e
  let_body n k (bound then end) new r h e = none_not_some e
  let_body n k (bound then (body then ts)) new r h e =
      let two = first_two places n spot_expression bound body ts (rw (under_expression tag_let n refl) at r.sits.1) in
      let v = is_value_lem places bound two.0 (ready_head bound (body then ts) 0 h).0 in
      let Source : ℕ → Type 0 = λ q. PidIn q bound in
      let b = binds_with k bound (record { value = v; pids = λ q p. p }) (binds_nothing (ValueFrom places Source)) in
      let t = bound_body places arities some_place Source (with k bound unbound) (k ∷ []) body b two.1 r.keeps.1.1.0 in
      rw (← some_injective e) record { right = t.right; pids = λ q p. elim (t.pids q p) [ inl a ↦ inr (inl a) | inr a ↦ inl a ] }

  -- a receive: the body that a message's value takes
  pub receive_body : (n k : ℕ) (ts : Terms) (v new : Term) → Right places arities (node tag_receive n k ts) → Sits places spot_value v → first_clause v ts ≡ some new → Body places arities (λ q. PidAmong q ts ⊎ PidIn q v) new
  unfolding Sits Keeps spots_below row_of table
  receive_body n k ts v new r h e = first_body places arities some_place v ts n new h r.sits.1 r.keeps.1 e
