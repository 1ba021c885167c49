-- Terms at spots: values may stand wherever a variable may; what stands in a module may stand in a control; what values are.
use Prim.Native.Nat.{ℕ, zero, suc, ◌<◌}
use mathlib.Core.Path.{◌≡◌, refl, ◌∙◌}
use mathlib.Core.Logic.{inl, inr}
use mathlib.Core.Bool.{Bool, true, false, ◌&&◌}
use mathlib.Core.List.{List, [], ◌∷◌}
use native.Mathlib.Omega.{arith}
use lib.Dec.{eqb, leb}
use lib.ListN.{replicate}
use Rattle.lists.specs.Lists.{member, All}
use Rattle.lists.proofs.Tests.{eqb_of, true_or_false, true_not_false, and_left, and_right, and_of}
use Rattle.lists.proofs.MemberTest.{member_all}
use Rattle.term.specs.Words.{tag_variable, tag_atom, tag_integer, tag_pid, tag_tuple}
use Rattle.term.specs.Table.{alike, row_of, tags_at, k_limit, own_spot, spots_below, spot_expression, spot_guard, spot_value}
use Rattle.term.specs.Tree.{Term, Terms, int, node, end, ◌then◌}
use Rattle.term.proofs.Keep.{Keeps, KeepsAll}
use Rattle.machine.specs.Value.{is_value, are_values}
use Rattle.machine.specs.Laws.{PidIn, PidAmong}
use Rattle.machine.proofs.Sits.{Stands, spots_under, Sits, SitAll}
use Rattle.machine.proofs.TagLaws.{outside_spots, Outside, OfValue, value_tag, between_value, value_between, tags_lift}

pub under_alike : (s tag n : ℕ) → (row_of tag).children ≡ alike → spots_under s tag n ≡ replicate n (own_spot s tag)
unfolding spots_below
under_alike s tag n e = rw e refl

pub under_value : (places tag n : ℕ) → OfValue places tag → spots_under spot_value tag n ≡ replicate n spot_value
unfolding own_spot
under_value places tag n v = under_alike spot_value tag n v.children_alike

pub under_expression : (tag n : ℕ) → (row_of tag).children ≡ alike → spots_under spot_expression tag n ≡ replicate n spot_expression
unfolding own_spot
under_expression tag n e = under_alike spot_expression tag n e

pub under_guard : (places tag n : ℕ) → OfValue places tag → spots_under spot_guard tag n ≡ replicate n spot_value
unfolding own_spot
under_guard places tag n v = under_alike spot_guard tag n v.children_alike ∙ rw v.not_call refl

-- another spot for the same word
stands_at : {places spot tag n k : ℕ} (spot' : ℕ) → Stands places spot tag n k → member tag (tags_at places spot') ≡ true → Stands places spot' tag n k
stands_at spot' s m = record { no_integer = s.no_integer; tag_there = m; least_n = s.least_n; greatest_n = s.greatest_n; k_below = s.k_below }

module _ (places : ℕ) where
  mutual
    unfolding Sits SitAll tags_at member

    pub value_expression : (v : Term) → Sits places spot_value v → Sits places spot_expression v
    value_expression (int x) h = refl
    value_expression (node tag n k ts) h =
        let o = value_tag places tag h.0.tag_there in
        (stands_at spot_expression h.0 o.as_expression, rw (under_expression tag n o.children_alike) (values_expressions ts n (rw (under_value places tag n o) at h.1)))

    pub values_expressions : (vs : Terms) (n : ℕ) → SitAll places vs (replicate n spot_value) → SitAll places vs (replicate n spot_expression)
    values_expressions end zero h = tt
    values_expressions end (suc n) h = h
    values_expressions (v then vs) zero h = h
    values_expressions (v then vs) (suc n) h = (value_expression v h.0, values_expressions vs n h.1)

  pub value_guard : (v : Term) → eqb places 0 ≡ false → Sits places spot_value v → Sits places spot_guard v
  unfolding Sits tags_at member
  value_guard (int x) p h = refl
  value_guard (node tag n k ts) p h =
      let o = value_tag places tag h.0.tag_there in
      (stands_at spot_guard h.0 (o.as_guard p), rw (under_guard places tag n o) (rw (under_value places tag n o) at h.1))

  pub guard_value : (tag n k : ℕ) (ts : Terms) → member tag (tags_at places spot_value) ≡ true → Sits places spot_guard (node tag n k ts) → Sits places spot_value (node tag n k ts)
  unfolding Sits
  guard_value tag n k ts m h =
      let o = value_tag places tag m in
      (stands_at spot_value h.0 m, rw (under_value places tag n o) (rw (under_guard places tag n o) at h.1))

  -- a value may stand wherever a variable may
  pub value_anywhere : (v : Term) (s : ℕ) → eqb places 0 ≡ false → Outside s → member tag_variable (tags_at places s) ≡ true → Sits places spot_value v → Sits places s v
  unfolding All tags_at member
  value_anywhere v s p o m h = member_all (λ s'. member tag_variable (tags_at places s') ≡ true → Sits places s' v) s outside_spots (
    (λ i. value_expression v h),
    ((λ i. value_guard v p h), ((λ i. true_not_false i refl), ((λ i. true_not_false i refl), tt))),
  ) o m

  -- values keep every rule in every scope
  mutual
    unfolding Sits SitAll Keeps

    pub value_keeps : (arities scope : List ℕ) (v : Term) → Sits places spot_value v → Keeps arities scope v
    value_keeps arities scope (int x) h = tt
    value_keeps arities scope (node tag n k ts) h =
        let o = value_tag places tag h.0.tag_there in
        (o.no_rule arities scope n k, rw (o.not_let, o.not_clause) (values_keep arities scope ts n (rw (under_value places tag n o) at h.1)))

    pub values_keep : (arities scope : List ℕ) (vs : Terms) (n : ℕ) → SitAll places vs (replicate n spot_value) → KeepsAll arities scope vs
    values_keep arities scope end n h = tt
    values_keep arities scope (v then vs) zero h = absurd h
    values_keep arities scope (v then vs) (suc n) h = (value_keeps arities scope v h.0, values_keep arities scope vs n h.1)

  -- an expression that is a value throughout stands at a value's spot
  mutual
    unfolding Sits SitAll is_value are_values tags_at member

    pub is_value_lem : (t : Term) → Sits places spot_expression t → is_value t ≡ true → Sits places spot_value t
    is_value_lem (int x) h v = refl
    is_value_lem (node tag n k ts) h v =
        let tags : Bool = leb tag_atom tag && leb tag tag_tuple in
        let m = between_value places tag h.0.tag_there (and_left tags (are_values ts) v) in
        let o = value_tag places tag m in
        (stands_at spot_value h.0 m, rw (under_value places tag n o) (are_values_lem ts n (rw (under_expression tag n o.children_alike) at h.1) (and_right tags (are_values ts) v)))

    pub are_values_lem : (ts : Terms) (n : ℕ) → SitAll places ts (replicate n spot_expression) → are_values ts ≡ true → SitAll places ts (replicate n spot_value)
    are_values_lem end zero h v = tt
    are_values_lem end (suc n) h v = h
    are_values_lem (t then ts) zero h v = absurd h
    are_values_lem (t then ts) (suc n) h v = (is_value_lem t h.0 (and_left (is_value t) (are_values ts) v), are_values_lem ts n h.1 (and_right (is_value t) (are_values ts) v))

  -- and what stands there is a value
  mutual
    unfolding Sits SitAll is_value are_values

    pub value_is : (v : Term) → Sits places spot_value v → is_value v ≡ true
    value_is (int x) h = refl
    value_is (node tag n k ts) h =
        let m = h.0.tag_there in
        and_of (value_between places tag m) (values_are ts n (rw (under_value places tag n (value_tag places tag m)) at h.1))

    pub values_are : (vs : Terms) (n : ℕ) → SitAll places vs (replicate n spot_value) → are_values vs ≡ true
    values_are end n h = refl
    values_are (v then vs) zero h = absurd h
    values_are (v then vs) (suc n) h = and_of (value_is v h.0) (values_are vs n h.1)

  k_lift : (tag k : ℕ) → k < k_limit 0 tag → k < k_limit places tag
  unfolding k_limit
  k_lift tag k h = elim (true_or_false (eqb tag tag_pid)) [
    | inl e ↦ absurd (let z : k < 0 = rw e at h in omega arith)
    | inr e ↦ rw e (rw e at h)
  ]

  -- what stands in a module stands in a control
  mutual
    unfolding Sits SitAll

    pub lift : (s : ℕ) (t : Term) → Sits 0 s t → Sits places s t
    lift s (int x) h = tags_lift places s tag_integer h
    lift s (node tag n k ts) h =
        let w = h.0 in
        (record { no_integer = w.no_integer; tag_there = tags_lift places s tag w.tag_there; least_n = w.least_n; greatest_n = w.greatest_n; k_below = k_lift tag k w.k_below }, lift_all ts (spots_under s tag n) h.1)

    pub lift_all : (ts : Terms) (spots : List ℕ) → SitAll 0 ts spots → SitAll places ts spots
    lift_all end [] h = tt
    lift_all end (s ∷ spots) h = h
    lift_all (t then ts) [] h = h
    lift_all (t then ts) (s ∷ spots) h = (lift s t h.0, lift_all ts spots h.1)

-- no pid stands in a module
mutual
  unfolding Sits SitAll PidIn PidAmong k_limit

  pub no_pid : (q s : ℕ) (t : Term) → Sits 0 s t → ¬ PidIn q t
  no_pid q s (int x) h p = p
  no_pid q s (node tag n k ts) h (inl p) = let z : k < 0 = rw (eqb_of tag tag_pid p.0) at h.0.k_below in omega arith
  no_pid q s (node tag n k ts) h (inr p) = no_pids q (spots_under s tag n) ts h.1 p

  pub no_pids : (q : ℕ) (spots : List ℕ) (ts : Terms) → SitAll 0 ts spots → ¬ PidAmong q ts
  no_pids q spots end h p = p
  no_pids q [] (t then ts) h p = h
  no_pids q (s ∷ spots) (t then ts) h (inl p) = no_pid q s t h.0 p
  no_pids q (s ∷ spots) (t then ts) h (inr p) = no_pids q spots ts h.1 p
