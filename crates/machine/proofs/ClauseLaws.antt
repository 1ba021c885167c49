-- Clauses: the body that a value takes is right, and its pids stand in the clauses or in the value.
use Prim.Native.Nat.{ℕ, zero, suc}
use mathlib.Core.Path.{◌≡◌, sym, ◌∙◌, ap}
use mathlib.Core.Logic.{◌⊎◌, inl, inr}
use mathlib.Core.Bool.{false}
use mathlib.Core.Option.{Option, none, some}
use mathlib.Core.List.{List, [], ◌∷◌}
use lib.Dec.{eqb}
use lib.ListN.{replicate}
use Rattle.lists.specs.Lists.{member}
use Rattle.lists.proofs.Tests.{true_or_false, none_not_some, some_injective, choose_true, choose_false}
use Rattle.lists.proofs.MemberTest.{member_cons, member_none}
use Rattle.term.specs.Words.{tag_clause}
use Rattle.term.specs.Table.{table, row_of, tags_at, spots_below, spot_expression, spot_pattern, spot_guard, spot_clause, spot_value}
use Rattle.term.specs.Tree.{Term, Terms, int, node, end, ◌then◌}
use Rattle.term.proofs.Keep.{opens, Keeps, KeepsAll, KeepsClause}
use Rattle.machine.specs.Match.{Bindings, unbound, match}
use Rattle.machine.specs.Bind.{bind}
use Rattle.machine.specs.Guard.{guard_holds}
use Rattle.machine.specs.Clauses.{if_holds, parts_take, clause_takes, first_clause}
use Rattle.machine.specs.Laws.{PidIn, PidAmong}
use Rattle.machine.proofs.Sits.{Sits, SitAll}
use Rattle.machine.proofs.TagLaws.{outside_expression}
use Rattle.machine.proofs.BindLaws.{bind_right, bind_pid, none_or_some}
use Rattle.machine.proofs.MatchLaws.{Binds, binds_covers, binds_nothing, match_binds}
use Rattle.machine.proofs.Right.{Right, ValueFrom, children_from}

-- the clauses of the definitions, by the tests that they make
if_holds_lem : (bindings : Bindings) (guard body t : Term) → if_holds bindings guard body ≡ some t → t ≡ bind bindings body
unfolding if_holds
if_holds_lem bindings guard body t e = elim (true_or_false (guard_holds (bind bindings guard))) [
  | inl h ↦ some_injective (sym e ∙ choose_true (some (bind bindings body)) none h)
  | inr h ↦ none_not_some (sym (choose_false (some (bind bindings body)) none h) ∙ e)
]

abbrev on_match : Term → Term → Option Bindings → Option Term
on_match guard body o = elim o [ none ↦ none | some bindings ↦ if_holds bindings guard body ]

parts_match : (v pattern guard body : Term) (ts : Terms) (o : Option Bindings) → match pattern v unbound ≡ o → parts_take v (pattern then (guard then (body then ts))) ≡ on_match guard body o
unfolding parts_take
parts_match v pattern guard body ts o e = ap (on_match guard body) e

module _ (v clause : Term) (clauses : Terms) where
  abbrev on_taken : Option Term → Option Term
  on_taken o = elim o [ some body ↦ some body | none ↦ first_clause v clauses ]

  first_taken : (o : Option Term) → clause_takes v clause ≡ o → first_clause v (clause then clauses) ≡ on_taken o
  unfolding first_clause
  first_taken o e = ap on_taken e

-- a right body, with its pids
pub record Body (places : ℕ) (arities : List ℕ) (Source : ℕ → Type 0) (t : Term) : Type 0 where
  pub right : Right places arities t
  pub pids : (q : ℕ) → PidIn q t → Source q

module _ (places : ℕ) (arities : List ℕ) (some_place : eqb places 0 ≡ false) where
  -- a body in which every variable in scope is bound
  pub bound_body : (Source : ℕ → Type 0) (bindings : Bindings) (scope : List ℕ) (body : Term) → Binds (ValueFrom places Source) bindings scope → Sits places spot_expression body → Keeps arities scope body
      → Body places arities (λ q. PidIn q body ⊎ Source q) (bind bindings body)
  bound_body Source bindings scope body b h g =
      let r = bind_right places arities bindings some_place (λ k v e. (b.holds k v e).value) body spot_expression outside_expression (binds_covers b) h g in
      record {
        right = record { sits = r.0; keeps = r.1 };
        pids = λ q p. bind_pid bindings q (Source q) (λ k v e i. (b.holds k v e).pids q i) body p;
      }

  parts_body : (v : Term) (parts : Terms) (t : Term) → Sits places spot_value v → SitAll places parts (spot_pattern ∷ spot_guard ∷ spot_expression ∷ []) → KeepsClause arities [] parts → parts_take v parts ≡ some t
      → Body places arities (λ q. PidAmong q parts ⊎ PidIn q v) t
  unfolding SitAll KeepsClause KeepsAll parts_take PidAmong
  parts_body v end t w h g e = absurd h
  parts_body v (pattern then end) t w h g e = absurd h.1
  parts_body v (pattern then (guard then end)) t w h g e = absurd h.1.1
  parts_body v (pattern then (guard then (body then (more then ts)))) t w h g e = absurd h.1.1.1
  parts_body v (pattern then (guard then (body then end))) t w h g e = elim (none_or_some (match pattern v unbound)) [
    | inl o ↦ none_not_some (sym (parts_match v pattern guard body end none o) ∙ e)
    | inr o ↦
        let Source : ℕ → Type 0 = λ q. PidIn q v in
        let b = match_binds (ValueFrom places Source) (children_from places Source) pattern v (record { value = w; pids = λ q p. p }) (binds_nothing (ValueFrom places Source)) o.1 in
        let r = bound_body Source o.0 (opens [] pattern) body b h.1.1.0 g.1.1.0 in
        let i = if_holds_lem o.0 guard body t (sym (parts_match v pattern guard body end (some o.0) o.1) ∙ e) in
        rw i record { right = r.right; pids = λ q p. elim (r.pids q p) [ inl a ↦ inl (inr (inr (inl a))) | inr a ↦ inr a ] }
  ]

  clause_body : (v clause t : Term) → Sits places spot_value v → Sits places spot_clause clause → Keeps arities [] clause → clause_takes v clause ≡ some t → Body places arities (λ q. PidIn q clause ⊎ PidIn q v) t
  unfolding Sits Keeps clause_takes tags_at member PidIn spots_below row_of table
  clause_body v (int x) t w h g e = none_not_some e
  clause_body v (node tag n k parts) t w h g e = elim (member_cons tag tag_clause [] h.0.tag_there) [
    | inl i ↦
        let r = parts_body v parts t w (rw i at h.1) (rw i at g.1) e in
        record { right = r.right; pids = λ q p. elim (r.pids q p) [ inl a ↦ inl (inr a) | inr a ↦ inr a ] }
    | inr i ↦ member_none tag i
  ]

  pub first_body : (v : Term) (clauses : Terms) (n : ℕ) (t : Term) → Sits places spot_value v → SitAll places clauses (replicate n spot_clause) → KeepsAll arities [] clauses → first_clause v clauses ≡ some t
      → Body places arities (λ q. PidAmong q clauses ⊎ PidIn q v) t
  unfolding SitAll KeepsAll first_clause PidAmong
  first_body v end n t w h g e = none_not_some e
  first_body v (clause then clauses) zero t w h g e = absurd h
  first_body v (clause then clauses) (suc n) t w h g e = elim (none_or_some (clause_takes v clause)) [
    | inl o ↦
        let r = first_body v clauses n t w h.1 g.1 (sym (first_taken v clause clauses none o) ∙ e) in
        record { right = r.right; pids = λ q p. elim (r.pids q p) [ inl a ↦ inl (inr a) | inr a ↦ inr a ] }
    | inr o ↦
        let i : o.0 ≡ t = some_injective (sym (first_taken v clause clauses (some o.0) o.1) ∙ e) in
        let r = clause_body v clause t w h.0 g.0 (o.1 ∙ ap some i) in
        record { right = r.right; pids = λ q p. elim (r.pids q p) [ inl a ↦ inl (inl a) | inr a ↦ inr a ] }
  ]
