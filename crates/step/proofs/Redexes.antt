-- The term at the working place of a good control has the form that its tag asks for.
use Prim.Native.Nat.{ℕ, zero, suc, ◌≤◌, ◌<◌}
use mathlib.Core.Path.{◌≡◌, refl, ◌∙◌}
use mathlib.Core.Logic.{inl, inr}
use mathlib.Core.Bool.{Bool, true, false, cond}
use mathlib.Core.Option.{some}
use mathlib.Core.List.{List, [], ◌∷◌}
use native.Mathlib.Omega.{arith}
use lib.Dec.{eqb}
use lib.ListN.{replicate, length-replicate}
use Rattle.lists.specs.Lists.{member, All}
use Rattle.lists.proofs.Tests.{eqb_of, true_not_false}
use Rattle.lists.proofs.MemberTest.{member_cons, member_none, member_all}
use Rattle.term.specs.Words.{tag_variable, tag_atom, tag_integer, tag_pid, tag_nil, tag_cons, tag_tuple, tag_call, tag_apply, tag_case, tag_let, tag_receive, tag_send, tag_clause}
use Rattle.term.specs.Table.{alike, table, row_of, tags_at, k_limit, own_spot, spots_below, spot_expression, spot_pattern, spot_guard, spot_clause, spot_value}
use Rattle.term.specs.Tree.{Term, Terms, int, node, end, ◌then◌, count}
use Rattle.term.specs.Value.{is_value}
use Rattle.term.specs.Module.{body_of, arities_of, function_of}
use Rattle.term.proofs.Keep.{Keeps}
use Rattle.machine.specs.Place.{entered, ready}
use Rattle.machine.proofs.Sits.{Stands, spots_under, Sits, SitAll}
use Rattle.machine.proofs.TagLaws.{◌also◌}
use Rattle.machine.proofs.SitLaws.{under_expression, guard_value, value_is}
use Rattle.machine.proofs.FitLaws.{sit_count}
use Rattle.machine.proofs.Right.{Right}
use Rattle.machine.proofs.PlaceLaws.{Ready}
use Rattle.machine.proofs.ModuleLaws.{GoodModule, named_there}
use Rattle.machine.proofs.StepLaws.{ready_head, names_of}
use Rattle.operands.specs.Guards.{IsGuard, AreGuards}
use Rattle.choosing.specs.Clausal.{ClauseIs, AreClauses}
use Rattle.step.specs.Controls.{Pair, Applied, Redex}

-- ---- guards and clauses

-- a tag at a guard's spot: a call, a variable, or a value's
data GuardTag (places tag : ℕ) : Type 0 where
  call : tag ≡ tag_call → GuardTag places tag
  variable : tag ≡ tag_variable → GuardTag places tag
  value : ¬ (tag ≡ tag_call) → ¬ (tag ≡ tag_variable) → member tag (tags_at places spot_value) ≡ true → GuardTag places tag

apart : {A : Type 0} (m n : ℕ) → eqb m n ≡ false → m ≡ n → A
apart m n d e = true_not_false (eqb_of m n e) d

guard_tag : (places tag : ℕ) → member tag (tags_at places spot_guard) ≡ true → GuardTag places tag
unfolding All tags_at member
guard_tag places tag = member_all (GuardTag places) tag (tags_at places spot_guard) (variable refl also of tag_atom refl refl refl also of tag_integer refl refl refl also of tag_nil refl refl refl also call refl also more (eqb places 0))
  where
    of : (tag' : ℕ) → eqb tag' tag_call ≡ false → eqb tag' tag_variable ≡ false → member tag' (tags_at places spot_value) ≡ true → GuardTag places tag'
    of tag' c v m = value (apart tag' tag_call c) (apart tag' tag_variable v) m

    more : (b : Bool) → All (GuardTag places) (cond b [] (tag_pid ∷ tag_cons ∷ tag_tuple ∷ []))
    more true = tt
    more false = of tag_pid refl refl refl also of tag_cons refl refl refl also of tag_tuple refl refl refl also tt

call_two : (places s n k : ℕ) → Stands places s tag_call n k → n ≡ 2
unfolding row_of table
call_two places s n k w = omega (arith, w.least_n, w.greatest_n)

module _ (places : ℕ) (few_places : places ≤ 65536) where
  count_spots : (n s : ℕ) (ts : Terms) → SitAll places ts (replicate n s) → count ts ≡ n
  count_spots n s ts h = sit_count places few_places ts (replicate n s) h ∙ length-replicate {A = ℕ} n s

  two_children : (s : ℕ) (ts : Terms) → SitAll places ts (s ∷ s ∷ []) → Pair ts
  unfolding SitAll
  two_children s end h = absurd h
  two_children s (a then end) h = absurd h.1
  two_children s (a then (b then end)) h = record { one = a; two = b; are = refl }
  two_children s (a then (b then (c then ts))) h = absurd h.1.1

  mutual
    unfolding Sits SitAll IsGuard AreGuards row_of table spots_below own_spot

    is_guard : (g : Term) → Sits places spot_guard g → IsGuard g
    is_guard (int x) h = tt
    is_guard (node tag n k ts) h = elim (guard_tag places tag h.0.tag_there) [
      | call e ↦
          let all : SitAll places ts (replicate n spot_guard) = rw e at h.1 in
          let w : Stands places spot_guard tag_call n k = rw e at h.0 in
          inl (e, count_spots n spot_guard ts all ∙ call_two places spot_guard n k w, are_guards ts n all)
      | variable e ↦ inr (inl e)
      | value c v m ↦ inr (inr (c, v, value_is places (node tag n k ts) (guard_value places tag n k ts m h)))
    ]

    are_guards : (gs : Terms) (n : ℕ) → SitAll places gs (replicate n spot_guard) → AreGuards gs
    are_guards end n h = tt
    are_guards (g then gs) zero h = absurd h
    are_guards (g then gs) (suc n) h = (is_guard g h.0, are_guards gs n h.1)

  parts : (tag n k : ℕ) (ts : Terms) → SitAll places ts (spot_pattern ∷ spot_guard ∷ spot_expression ∷ []) → ClauseIs (node tag n k ts)
  unfolding SitAll
  parts tag n k end h = absurd h
  parts tag n k (pattern then end) h = absurd h.1
  parts tag n k (pattern then (guard then end)) h = absurd h.1.1
  parts tag n k (pattern then (guard then (body then end))) h = record { tag = tag; n = n; k = k; pattern = pattern; guard = guard; body = body; is = refl; is_guard = is_guard guard h.1.0 }
  parts tag n k (pattern then (guard then (body then (t then ts)))) h = absurd h.1.1.1

  is_clause : (t : Term) → Sits places spot_clause t → ClauseIs t
  unfolding Sits tags_at member row_of table spots_below
  is_clause (int x) h = true_not_false h refl
  is_clause (node tag n k ts) h = elim (member_cons tag tag_clause [] h.0.tag_there) [
    | inl e ↦ parts tag n k ts (rw e at h.1)
    | inr m ↦ member_none tag m
  ]

  are_clauses : (ts : Terms) (n : ℕ) → SitAll places ts (replicate n spot_clause) → AreClauses ts
  unfolding SitAll AreClauses
  are_clauses end n h = tt
  are_clauses (t then ts) zero h = absurd h
  are_clauses (t then ts) (suc n) h = (is_clause t h.0, are_clauses ts n h.1)

-- ---- the form that a tag asks for
module _ (places : ℕ) (few_places : places ≤ 65536) (functions : Terms) (good : GoodModule functions) where
  abbrev arities : List ℕ
  arities = arities_of functions

  pair_below : (tag n : ℕ) (ts : Terms) → (row_of tag).children ≡ alike → n ≡ 2 → SitAll places ts (spots_under spot_expression tag n) → Pair ts
  pair_below tag n ts a e h = two_children places few_places spot_expression ts (rw (under_expression tag n a, e) at h)

  of_call : (n k : ℕ) (ts : Terms) → Right places arities (node tag_call n k ts) → ready ts (entered tag_call ts) ≡ true → (p : Pair ts) × (is_value p.one ≡ true) × (is_value p.two ≡ true)
  unfolding Sits row_of table entered count
  of_call n k ts r h =
      let w = r.sits.0 in
      let p = pair_below tag_call n ts refl (omega (arith, w.least_n, w.greatest_n)) r.sits.1 in
      let v : ready (p.one then (p.two then end)) 2 ≡ true = rw p.are at h in
      let a = ready_head p.one (p.two then end) 1 v in
      (p, a.0, (ready_head p.two end 0 a.1).0)

  of_let : (n k : ℕ) (ts : Terms) → Right places arities (node tag_let n k ts) → ready ts (entered tag_let ts) ≡ true → (p : Pair ts) × (is_value p.one ≡ true) × (k < 64)
  unfolding Sits row_of table entered k_limit
  of_let n k ts r h =
      let w = r.sits.0 in
      let p = pair_below tag_let n ts refl (omega (arith, w.least_n, w.greatest_n)) r.sits.1 in
      let v : ready (p.one then (p.two then end)) 1 ≡ true = rw p.are at h in
      (p, (ready_head p.one (p.two then end) 0 v).0, w.k_below)

  of_send : (n k : ℕ) (ts : Terms) → Right places arities (node tag_send n k ts) → Pair ts
  unfolding Sits row_of table
  of_send n k ts r = pair_below tag_send n ts refl (omega (arith, r.sits.0.least_n, r.sits.0.greatest_n)) r.sits.1

  of_receive : (n k : ℕ) (ts : Terms) → Right places arities (node tag_receive n k ts) → AreClauses ts × (count ts ≡ n)
  unfolding Sits row_of table spots_below
  of_receive n k ts r = (are_clauses places few_places ts n r.sits.1, count_spots places few_places n spot_clause ts r.sits.1)

  of_case : (n k : ℕ) (ts : Terms) → Right places arities (node tag_case n k ts) → ready ts (entered tag_case ts) ≡ true
      → (subject : Term) × (clauses : Terms) × (ts ≡ subject then clauses) × (is_value subject ≡ true) × AreClauses clauses × (count clauses ≡ n)
  unfolding Sits SitAll row_of table spots_below entered
  of_case n k end r h = absurd r.sits.1
  of_case n k (subject then clauses) r h =
      (subject, clauses, refl, (ready_head subject clauses 0 h).0, are_clauses places few_places clauses n r.sits.1.1, count_spots places few_places n spot_clause clauses r.sits.1.1)

  -- a function's body is one term
  applied : (n k : ℕ) (ts : Terms) (f : Term) → function_of functions k ≡ some f → SitAll 0 (body_of f) (spot_expression ∷ []) → count ts ≡ n → n ≤ 64 → Applied functions n k ts
  unfolding body_of SitAll
  applied n k ts (int x) e h all few = absurd h
  applied n k ts (node tag m j end) e h all few = absurd h
  applied n k ts (node tag m j (body then end)) e h all few = record { tag = tag; m = m; j = j; body = body; function_is = e; all = all; few = few }
  applied n k ts (node tag m j (body then (u then us))) e h all few = absurd h.1

  of_apply : (n k : ℕ) (ts : Terms) → Right places arities (node tag_apply n k ts) → Applied functions n k ts
  unfolding Sits Keeps row_of table
  of_apply n k ts r =
      let f = named_there functions k n (names_of arities [] n k r.keeps.0) in
      let b : n ≤ 8 = r.sits.0.greatest_n in
      applied n k ts f.0 f.1 (good.bodies k f.0 f.1).sits (count_spots places few_places n spot_expression ts (rw (under_expression tag_apply n refl) at r.sits.1)) (omega arith)

  pub right_redex : (w : Term) → Right places arities w → Ready w → Redex functions w
  unfolding Ready
  right_redex (int x) r h = absurd h
  right_redex (node tag n k ts) r h =
      record {
        tag = tag;
        n = n;
        k = k;
        children = ts;
        is = refl;
        of_call = λ e. of_call n k ts (rw e at r) (rw e at h.1);
        of_apply = λ e. of_apply n k ts (rw e at r);
        of_case = λ e. of_case n k ts (rw e at r) (rw e at h.1);
        of_let = λ e. of_let n k ts (rw e at r) (rw e at h.1);
        of_receive = λ e. of_receive n k ts (rw e at r);
        of_send = λ e. of_send n k ts (rw e at r);
      }
