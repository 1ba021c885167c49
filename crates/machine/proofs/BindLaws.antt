-- Binding: values in place of variables keep the shape and the binding rules, and bring no other pids.
use Prim.Native.Nat.{ℕ, zero, suc, ◌≤◌}
use mathlib.Core.Path.{◌≡◌, refl, ◌∙◌, ap, ap₂, subst}
use mathlib.Core.Logic.{◌⊎◌, inl, inr}
use mathlib.Core.Bool.{Bool, true, false, cond, not, ◌||◌}
use mathlib.Core.Option.{Option, none, some}
use mathlib.Core.List.{List, [], ◌∷◌}
use native.Mathlib.Omega.{arith}
use lib.Dec.{eqb}
use lib.ListN.{replicate}
use Rattle.lists.specs.Lists.{member, All}
use Rattle.lists.proofs.Tests.{eqb-true, eqb_of, true_or_false, true_not_false, not_true, choose_true, choose_false}
use Rattle.lists.proofs.MemberTest.{member_here, member_there, member_cons, all_replicate}
use Rattle.term.specs.Words.{tag_variable, tag_apply, tag_spawn, tag_let, tag_check, tag_clause}
use Rattle.term.specs.Table.{alike, table, row_of, own_spot, spots_below, spot_expression, spot_pattern, spot_guard, spot_clause, spot_value}
use Rattle.term.specs.Tree.{Term, Terms, int, node, end, ◌then◌}
use Rattle.term.specs.Binding.{keeps_rule, names}
use Rattle.term.proofs.Keep.{opens, opens_all, New, NewAll, Keeps, KeepsAll, KeepsLet, KeepsClause}
use Rattle.term.proofs.KeepLaws.{opens_variable, opens_below}
use Rattle.machine.specs.Match.{Bindings}
use Rattle.machine.specs.Bind.{bind, bind_all}
use Rattle.machine.specs.Laws.{PidIn, PidAmong}
use Rattle.machine.proofs.Sits.{Stands, spots_under, Sits, SitAll}
use Rattle.machine.proofs.TagLaws.{Outside, Below, same, case, receive, clause, below}
use Rattle.machine.proofs.SitLaws.{under_alike, value_anywhere, value_keeps}

-- the clauses of `bind`, by the tests that they make
module _ (bindings : Bindings) (tag n k : ℕ) (ts : Terms) where
  abbrev in_place : Option Term → Term
  in_place o = elim o [ none ↦ node tag n k ts | some v ↦ v ]

  bind_variable : eqb tag tag_variable ≡ true → bind bindings (node tag n k ts) ≡ in_place (bindings k)
  unfolding bind
  bind_variable e = choose_true (in_place (bindings k)) (node tag n k (bind_all bindings ts)) e

  pub bind_value : (v : Term) → eqb tag tag_variable ≡ true → bindings k ≡ some v → bind bindings (node tag n k ts) ≡ v
  bind_value v e s = bind_variable e ∙ ap in_place s

  pub bind_free : eqb tag tag_variable ≡ true → bindings k ≡ none → bind bindings (node tag n k ts) ≡ node tag n k ts
  bind_free e s = bind_variable e ∙ ap in_place s

  pub bind_below : eqb tag tag_variable ≡ false → bind bindings (node tag n k ts) ≡ node tag n k (bind_all bindings ts)
  unfolding bind
  bind_below e = choose_false (in_place (bindings k)) (node tag n k (bind_all bindings ts)) e

pub none_or_some : {A : Type 0} (o : Option A) → (o ≡ none) ⊎ ((a : A) × (o ≡ some a))
none_or_some none = inl refl
none_or_some (some a) = inr (a, refl)

-- The variables that have values are in scope, those in scope that have none are in the scope that is left, and that is within the scope.
pub record Covers (bindings : Bindings) (scope scope' : List ℕ) : Type 0 where
  pub known : (k : ℕ) (v : Term) → bindings k ≡ some v → member k scope ≡ true
  pub left : (k : ℕ) → member k scope ≡ true → bindings k ≡ none → member k scope' ≡ true
  pub within : (k : ℕ) → member k scope' ≡ true → member k scope ≡ true

pub covers_more : {bindings : Bindings} {scope scope' : List ℕ} (k : ℕ) → Covers bindings scope scope' → Covers bindings (k ∷ scope) (k ∷ scope')
covers_more {bindings} {scope} {scope'} k c = record {
  known = λ j v e. member_there j k scope (c.known j v e);
  left = λ j m e. elim (member_cons j k scope m) [
    | inl i ↦ subst (λ x. member j (x ∷ scope') ≡ true) i (member_here j scope')
    | inr i ↦ member_there j k scope' (c.left j i e)
  ];
  within = λ j m. elim (member_cons j k scope' m) [
    | inl i ↦ subst (λ x. member j (x ∷ scope) ≡ true) i (member_here j scope)
    | inr i ↦ member_there j k scope (c.within j i)
  ];
}

mutual
  unfolding opens opens_all

  pub covers_opens : {bindings : Bindings} {scope scope' : List ℕ} (t : Term) → Covers bindings scope scope' → Covers bindings (opens scope t) (opens scope' t)
  covers_opens (int x) c = c
  covers_opens {scope} {scope'} (node tag n k ts) c = elim (true_or_false (eqb tag tag_variable)) [
    | inl e ↦ rw (opens_variable scope tag n k ts e, opens_variable scope' tag n k ts e) (covers_more k c)
    | inr e ↦ rw (opens_below scope tag n k ts e, opens_below scope' tag n k ts e) (covers_opens_all ts c)
  ]

  pub covers_opens_all : {bindings : Bindings} {scope scope' : List ℕ} (ts : Terms) → Covers bindings scope scope' → Covers bindings (opens_all scope ts) (opens_all scope' ts)
  covers_opens_all end c = c
  covers_opens_all (t then ts) c = covers_opens_all ts (covers_opens t c)

-- a variable that is new in the scope is new in the one that is left
still_new : {bindings : Bindings} {scope scope' : List ℕ} (k : ℕ) → Covers bindings scope scope' → member k scope ≡ false → member k scope' ≡ false
still_new {scope' = scope'} k c m = elim (true_or_false (member k scope')) [ inl i ↦ true_not_false (c.within k i) m | inr i ↦ i ]

-- a pattern's variables are new, so it stays as it is, and they are new in the scope that is left
mutual
  unfolding bind New opens

  pub bind_pattern : {bindings : Bindings} {scope scope' : List ℕ} (t : Term) → Covers bindings scope scope' → New scope t → (bind bindings t ≡ t) × New scope' t
  bind_pattern (int x) c h = (refl, tt)
  bind_pattern {bindings} {scope} {scope'} (node tag n k ts) c h = elim (true_or_false (eqb tag tag_variable)) [
    | inl e ↦
        let m : member k scope ≡ false = rw e at h in
        (elim (none_or_some (bindings k)) [ inl i ↦ bind_free bindings tag n k ts e i | inr i ↦ true_not_false (c.known k i.0 i.1) m ], rw e (still_new k c m))
    | inr e ↦
        let r = bind_patterns ts c (rw e at h) in
        (bind_below bindings tag n k ts e ∙ ap (node tag n k) r.0, rw e r.1)
  ]

  pub bind_patterns : {bindings : Bindings} {scope scope' : List ℕ} (ts : Terms) → Covers bindings scope scope' → NewAll scope ts → (bind_all bindings ts ≡ ts) × NewAll scope' ts
  bind_patterns end c h = (refl, tt)
  bind_patterns (t then ts) c h =
      let r = bind_pattern t c h.0 in
      let q = bind_patterns ts (covers_opens t c) h.1 in
      (ap₂ (λ (u : Term) (us : Terms). u then us) r.0 q.0, (r.1, q.1))

-- the rule for one word, in the scope that is left
rule_shift : (v a l c x x' y z z' : Bool) → v ≡ false → (z ≡ true → z' ≡ true) → cond v x (cond a y (cond l z (cond c true true))) ≡ true → cond v x' (cond a y (cond l z' (cond c true true))) ≡ true
rule_shift true a l c x x' y z z' e f h = true_not_false refl e
rule_shift false true l c x x' y z z' e f h = h
rule_shift false false true c x x' y z z' e f h = f h
rule_shift false false false c x x' y z z' e f h = h

rule_left : {bindings : Bindings} {scope scope' : List ℕ} (arities : List ℕ) (tag n k : ℕ) → Covers bindings scope scope' → eqb tag tag_variable ≡ false → keeps_rule arities false scope [] tag n k ≡ true → keeps_rule arities false scope' [] tag n k ≡ true
unfolding keeps_rule
rule_left {scope} {scope'} arities tag n k c e h =
    let new : not (member k scope) ≡ true → not (member k scope') ≡ true = λ m. rw (still_new k c (not_true (member k scope) m)) refl in
    rule_shift (eqb tag tag_variable) (eqb tag tag_apply || eqb tag tag_spawn) (eqb tag tag_let) (eqb tag tag_check) (member k scope) (member k scope') (names arities k n) (not (member k scope)) (not (member k scope')) e new h

rule_used : (arities scope : List ℕ) (tag n k : ℕ) → eqb tag tag_variable ≡ true → keeps_rule arities false scope [] tag n k ≡ true → member k scope ≡ true
unfolding keeps_rule
rule_used arities scope tag n k e h = rw e at h

rule_uses : (arities scope : List ℕ) (tag n k : ℕ) → eqb tag tag_variable ≡ true → member k scope ≡ true → keeps_rule arities false scope [] tag n k ≡ true
unfolding keeps_rule
rule_uses arities scope tag n k e h = rw e h

-- the spots below anything but a clause are outside patterns
pub outside_under : (places s tag n k : ℕ) → Outside s → Stands places s tag n k → eqb tag tag_clause ≡ false → All Outside (spots_under s tag n)
unfolding All spots_below row_of table member
outside_under places s tag n k o w e = go (below places s tag o w.tag_there)
  where
    go : Below s tag → All Outside (spots_under s tag n)
    go (same a i) = rw (under_alike s tag n a) (all_replicate Outside n (own_spot s tag) i)
    go (case i) = rw i (refl, all_replicate Outside n spot_clause refl)
    go (receive i) = rw i (all_replicate Outside n spot_clause refl)
    go (clause i) = true_not_false (eqb_of tag tag_clause i) e

no_children : (places n s : ℕ) (ts : Terms) → n ≤ 0 → SitAll places ts (replicate n s) → ts ≡ end
unfolding SitAll
no_children places n s end b h = refl
no_children places zero s (t then ts) b h = absurd h
no_children places (suc n) s (t then ts) b h = absurd (omega arith)

variable_alone : (places s tag n k : ℕ) (ts : Terms) → Stands places s tag n k → tag ≡ tag_variable → SitAll places ts (spots_under s tag n) → ts ≡ end
unfolding row_of table
variable_alone places s tag n k ts w e h =
    let a : (row_of tag).children ≡ alike = rw e refl in
    let b : n ≤ 0 = rw e at w.greatest_n in
    no_children places n (own_spot s tag) ts b (rw (under_alike s tag n a) at h)

under_clause : (s tag n : ℕ) → eqb tag tag_clause ≡ true → spots_under s tag n ≡ spot_pattern ∷ spot_guard ∷ spot_expression ∷ []
unfolding row_of table spots_below
under_clause s tag n e = rw (eqb-true tag tag_clause e) refl

module _ (places : ℕ) (arities : List ℕ) (bindings : Bindings) (some_place : eqb places 0 ≡ false) (values : (k : ℕ) (v : Term) → bindings k ≡ some v → Sits places spot_value v) where
  -- a variable
  bound : {scope scope' : List ℕ} (tag n k : ℕ) (ts : Terms) (s : ℕ) → Outside s → Covers bindings scope scope' → Sits places s (node tag n k ts) → Keeps arities scope (node tag n k ts) → eqb tag tag_variable ≡ true
      → (bindings k ≡ none) ⊎ ((v : Term) × (bindings k ≡ some v)) → Sits places s (bind bindings (node tag n k ts)) × Keeps arities scope' (bind bindings (node tag n k ts))
  unfolding Sits Keeps
  bound {scope} {scope'} tag n k ts s o c h g e (inl i) =
      let t = eqb-true tag tag_variable e in
      rw (bind_free bindings tag n k ts e i) (
        h,
        (
          rule_uses arities scope' tag n k e (c.left k (rule_used arities scope tag n k e g.0) i),
          rw (ap (λ (x : ℕ). eqb x tag_let) t, ap (λ (x : ℕ). eqb x tag_clause) t, variable_alone places s tag n k ts h.0 t h.1) tt,
        ),
      )
  bound {scope} {scope'} tag n k ts s o c h g e (inr (v, i)) =
      rw (bind_value bindings tag n k ts v e i) (
        value_anywhere places v s some_place o (rw (eqb-true tag tag_variable e) at h.0.tag_there) (values k v i),
        value_keeps places arities scope' v (values k v i),
      )

  -- values in place of variables: the term stays right at its spot, in the scope that is left
  mutual
    unfolding Sits SitAll Keeps KeepsAll KeepsLet KeepsClause bind bind_all All member

    pub bind_right : {scope scope' : List ℕ} (t : Term) (s : ℕ) → Outside s → Covers bindings scope scope' → Sits places s t → Keeps arities scope t → Sits places s (bind bindings t) × Keeps arities scope' (bind bindings t)
    bind_right (int x) s o c h g = (h, tt)
    bind_right {scope} {scope'} (node tag n k ts) s o c h g = elim (true_or_false (eqb tag tag_variable)) [
      | inl e ↦ bound tag n k ts s o c h g e (none_or_some (bindings k))
      | inr e ↦ rw (bind_below bindings tag n k ts e) elim (true_or_false (eqb tag tag_let)) [
        | inl l ↦
            let r = let_right ts (spots_under s tag n) k (outside_under places s tag n k o h.0 (ap (λ (x : ℕ). eqb x tag_clause) (eqb-true tag tag_let l))) c h.1 (rw l at g.1) in
            ((h.0, r.0), (rule_left arities tag n k c e g.0, rw l r.1))
        | inr l ↦ elim (true_or_false (eqb tag tag_clause)) [
          | inl i ↦
              let r = clause_right ts c (rw (under_clause s tag n i) at h.1) (rw (l, i) at g.1) in
              ((h.0, rw (under_clause s tag n i) r.0), (rule_left arities tag n k c e g.0, rw (l, i) r.1))
          | inr i ↦
              let r = bind_all_right ts (spots_under s tag n) (outside_under places s tag n k o h.0 i) c h.1 (rw (l, i) at g.1) in
              ((h.0, r.0), (rule_left arities tag n k c e g.0, rw (l, i) r.1))
        ]
      ]
    ]

    pub bind_all_right : {scope scope' : List ℕ} (ts : Terms) (spots : List ℕ) → All Outside spots → Covers bindings scope scope' → SitAll places ts spots → KeepsAll arities scope ts
        → SitAll places (bind_all bindings ts) spots × KeepsAll arities scope' (bind_all bindings ts)
    bind_all_right end spots o c h g = (h, tt)
    bind_all_right (t then ts) [] o c h g = absurd h
    bind_all_right (t then ts) (s ∷ spots) o c h g =
        let r = bind_right t s o.0 c h.0 g.0 in
        let q = bind_all_right ts spots o.1 c h.1 g.1 in
        ((r.0, q.0), (r.1, q.1))

    let_right : {scope scope' : List ℕ} (ts : Terms) (spots : List ℕ) (k : ℕ) → All Outside spots → Covers bindings scope scope' → SitAll places ts spots → KeepsLet arities scope k ts
        → SitAll places (bind_all bindings ts) spots × KeepsLet arities scope' k (bind_all bindings ts)
    let_right end spots k o c h g = (h, tt)
    let_right (t then ts) [] k o c h g = absurd h
    let_right (t then ts) (s ∷ spots) k o c h g =
        let r = bind_right t s o.0 c h.0 g.0 in
        let q = bind_all_right ts spots o.1 (covers_more k c) h.1 g.1 in
        ((r.0, q.0), (r.1, q.1))

    clause_right : {scope scope' : List ℕ} (ts : Terms) → Covers bindings scope scope' → SitAll places ts (spot_pattern ∷ spot_guard ∷ spot_expression ∷ []) → KeepsClause arities scope ts
        → SitAll places (bind_all bindings ts) (spot_pattern ∷ spot_guard ∷ spot_expression ∷ []) × KeepsClause arities scope' (bind_all bindings ts)
    clause_right end c h g = (h, tt)
    clause_right (pattern then ts) c h g =
        let r = bind_pattern pattern c g.0 in
        let q = bind_all_right ts (spot_guard ∷ spot_expression ∷ []) (refl, (refl, tt)) (covers_opens pattern c) h.1 g.1 in
        rw r.0 ((h.0, q.0), (r.1, q.1))

-- a pid in what binding makes stood in the term or stands in a value
module _ (bindings : Bindings) (q : ℕ) (Source : Type 0) (sources : (k : ℕ) (v : Term) → bindings k ≡ some v → PidIn q v → Source) where
  mutual
    unfolding bind bind_all PidIn PidAmong

    pub bind_pid : (t : Term) → PidIn q (bind bindings t) → PidIn q t ⊎ Source
    bind_pid (int x) p = absurd p
    bind_pid (node tag n k ts) p = elim (true_or_false (eqb tag tag_variable)) [
      | inl e ↦ elim (none_or_some (bindings k)) [
        | inl i ↦ inl (rw (bind_free bindings tag n k ts e i) at p)
        | inr i ↦ inr (sources k i.0 i.1 (rw (bind_value bindings tag n k ts i.0 e i.1) at p))
      ]
      | inr e ↦ below_pid (rw (bind_below bindings tag n k ts e) at p) (λ among. bind_pids ts among)
    ]
      where
        below_pid : PidIn q (node tag n k (bind_all bindings ts)) → (PidAmong q (bind_all bindings ts) → PidAmong q ts ⊎ Source) → PidIn q (node tag n k ts) ⊎ Source
        below_pid (inl own) f = inl (inl own)
        below_pid (inr among) f = elim (f among) [ inl a ↦ inl (inr a) | inr s ↦ inr s ]

    pub bind_pids : (ts : Terms) → PidAmong q (bind_all bindings ts) → PidAmong q ts ⊎ Source
    bind_pids end p = absurd p
    bind_pids (t then ts) (inl p) = elim (bind_pid t p) [ inl a ↦ inl (inl a) | inr s ↦ inr s ]
    bind_pids (t then ts) (inr p) = elim (bind_pids ts p) [ inl a ↦ inl (inr a) | inr s ↦ inr s ]
