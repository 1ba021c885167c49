-- What the code's walk over patterns returns, by the tests that it makes.
use Prim.Native.Nat.{ℕ, suc, ◌+◌, ◌-◌, ◌≤◌, ◌<◌}
use mathlib.Core.Path.{◌≡◌, refl, sym, ap, ◌∙◌}
use mathlib.Core.Bool.{Bool, true, false}
use mathlib.Core.List.{List, ◌∷◌}
use native.Mathlib.Omega.{arith}
use native.Mathlib.Nat.{add-zero}
use native.Mathlib.Numerals.{add-one}
use Rattle.std.specs.Prelude.{Result, Ok, Err}
use lib.Dec.{eqb}
use lib.ListN.{length, get_or, set}
use Rattle.lists.specs.Lists.{member}
use Rattle.lists.proofs.Tests.{eqb_of, eqb_apart}
use Rattle.term.specs.Words.{tag_of, n_of, k_of, tag_integer, tag_variable}
use Rattle.term.specs.Table.{arity, table, row_of, child_count}
use Rattle.term.specs.Tree.{Terms, int, node, end, ◌then◌, words, words_of, count}
use Rattle.term.specs.Binding.{Walk, breaks, passes, and_then, binds, binds_all}
use Rattle.rows.specs.Kinds.{ChildCount}
use Rattle.rows.specs.declared.terms.BadWord.{BadWord}
use Rattle.checks.specs.Walking.{Marks, Stands, Agrees, Onward, Binds, variables}
use Rattle.term.proofs.TreeLaws.{◌and_all◌, words_all, count_all}
use Rattle.term.proofs.ShapeLaws.{fits_parts}
use Rattle.checks.proofs.MarkLaws.{mark_more, variable_k}
use Rattle.checks.proofs.StandLaws.{NodeHere, stands_within, stands_none, stands_second, stands_integer, stands_node}

-- what comes after two walks comes after the second of them
pub then_then : (w : Walk) (f g h : ℕ → List ℕ → List ℕ → Walk) → ((at : ℕ) (scope checks : List ℕ) → f at scope checks ≡ and_then (g at scope checks) h) → and_then w f ≡ and_then (and_then w g) h
unfolding and_then
then_then (breaks p) f g h e = refl
then_then (passes at scope checks) f g h e = e at scope checks

pub binds_all_lem : (ts us : Terms) (scope : List ℕ) (at : ℕ) (checks : List ℕ)
    → binds_all scope (ts and_all us) at checks ≡ and_then (binds_all scope ts at checks) (λ at' scope' checks'. binds_all scope' us at' checks')
unfolding binds_all and_then ◌and_all◌
binds_all_lem end us scope at checks = refl
binds_all_lem (t then ts) us scope at checks =
    then_then (binds scope t at checks) (λ at' scope' checks'. binds_all scope' (ts and_all us) at' checks') (λ at' scope' checks'. binds_all scope' ts at' checks') (λ at' scope' checks'. binds_all scope' us at' checks')
    (λ at' scope' checks'. binds_all_lem ts us scope' at' checks')

-- a step in a pattern: an integer, a variable that is new, one that is not, any other word
binds_integer : (x : ℕ) (ts : Terms) (scope : List ℕ) (at : ℕ) (checks : List ℕ) → binds_all scope (int x then ts) at checks ≡ binds_all scope ts (at + 2) checks
unfolding binds_all and_then
binds_integer x ts scope at checks = refl

-- a word of a pattern, by the two tests that are made there
choice : (variable known : Bool) (k : ℕ) (scope : List ℕ) (at : ℕ) (checks : List ℕ) → Walk → Walk
choice variable known k scope at checks others = elim variable [ true ↦ elim known [ true ↦ breaks at | false ↦ passes (suc at) (k ∷ scope) checks ] | false ↦ others ]

bind_word : (tag n k : ℕ) (us : Terms) (scope : List ℕ) (at : ℕ) (checks : List ℕ)
    → binds scope (node tag n k us) at checks ≡ choice (eqb tag tag_variable) (member k scope) k scope at checks (binds_all scope us (suc at) checks)
unfolding binds choice
bind_word tag n k us scope at checks = refl

bind_other : (tag n k : ℕ) (us : Terms) (scope : List ℕ) (at : ℕ) (checks : List ℕ) → ¬ (tag ≡ tag_variable) → binds scope (node tag n k us) at checks ≡ binds_all scope us (suc at) checks
unfolding choice
bind_other tag n k us scope at checks d = bind_word tag n k us scope at checks ∙ rw (eqb_apart tag tag_variable d)

bind_old : (tag n k : ℕ) (us : Terms) (scope : List ℕ) (at : ℕ) (checks : List ℕ) → tag ≡ tag_variable → member k scope ≡ true → binds scope (node tag n k us) at checks ≡ breaks at
unfolding choice
bind_old tag n k us scope at checks e m = bind_word tag n k us scope at checks ∙ rw (eqb_of tag tag_variable e, m)

bind_fresh : (tag n k : ℕ) (us : Terms) (scope : List ℕ) (at : ℕ) (checks : List ℕ) → tag ≡ tag_variable → member k scope ≡ false
    → binds scope (node tag n k us) at checks ≡ passes (suc at) (k ∷ scope) checks
unfolding choice
bind_fresh tag n k us scope at checks e m = bind_word tag n k us scope at checks ∙ rw (eqb_of tag tag_variable e, m)

module _ (tag n k : ℕ) (us ts : Terms) (scope : List ℕ) (at : ℕ) (checks : List ℕ) where
  -- what the walk goes on with
  on : Walk → Walk
  on w = and_then w (λ at' scope' checks'. binds_all scope' ts at' checks')

  binds_node : ¬ (tag ≡ tag_variable) → binds_all scope (node tag n k us then ts) at checks ≡ binds_all scope (us and_all ts) (at + 1) checks
  unfolding binds_all on
  binds_node d =
      ap on (bind_other tag n k us scope at checks d)
      ∙ sym (binds_all_lem us ts scope (suc at) checks)
      ∙ ap (λ (j : ℕ). binds_all scope (us and_all ts) j checks) (sym (add-one at))

  binds_again : tag ≡ tag_variable → member k scope ≡ true → binds_all scope (node tag n k us then ts) at checks ≡ breaks at
  unfolding binds_all and_then on
  binds_again e m = ap on (bind_old tag n k us scope at checks e m)

  binds_new : tag ≡ tag_variable → member k scope ≡ false → binds_all scope (node tag n k us then ts) at checks ≡ binds_all (k ∷ scope) ts (at + 1) checks
  unfolding binds_all and_then on
  binds_new e m = ap on (bind_fresh tag n k us scope at checks e m) ∙ ap (λ (j : ℕ). binds_all (k ∷ scope) ts j checks) (sym (add-one at))

-- a walk that goes on goes on from further back
pub onward_from : (at b : ℕ) (r : Result ℕ BadWord) → at ≤ b → Onward b r → Onward at r
unfolding Onward
onward_from at b (Ok a) h o = omega arith
onward_from at b (Err bad) h o = tt

-- what the walk over the others agrees with, the whole does
pub agrees_with : (stop stop' : ℕ) (left : List ℕ → List ℕ → Type 0) (w w' : Walk) (r : Result ℕ BadWord) → stop ≡ stop' → w ≡ w' → Agrees stop' left w' r → Agrees stop left w r
agrees_with stop stop' left w w' r e i a = rw (e, i) a

-- no terms stand where the row has ended, or where it has too few words
pub none_past : (l : List ℕ) (at owed : ℕ) (ts : Terms) → ¬ (owed ≡ 0) → length l ≤ at → ¬ Stands l at owed ts
none_past l at owed ts ne h s = omega (arith, stands_within l at owed ts s)

pub none_short : (l : List ℕ) (at owed : ℕ) (ts : Terms) → length l - at < owed → ¬ Stands l at owed ts
none_short l at owed ts h s = omega (arith, stands_within l at owed ts s)

none_counted : (us : Terms) → count us ≡ 0 → us ≡ end
unfolding count
none_counted end e = refl
none_counted (u then us) e = absurd (omega arith)

-- where the walk stops, and what stands next
pub integer_stop : (at : ℕ) (ts : Terms) (x : ℕ) (us : Terms) → ts ≡ int x then us → at + length (words_of ts) ≡ at + 2 + length (words_of us)
unfolding words_of words
integer_stop at ts x us e = rw e (omega arith)

pub node_stop : (l : List ℕ) (at owed : ℕ) (ts : Terms) (h : NodeHere l at owed ts) → at + length (words_of ts) ≡ at + 1 + length (words_of (h.children and_all h.others))
unfolding words_of words
node_stop l at owed ts h = rw (h.is, words_all) (omega arith)

pub node_next : (l : List ℕ) (at owed c : ℕ) (ts : Terms) → ¬ (owed ≡ 0) → ChildCount (get_or l at 0) c → (h : NodeHere l at owed ts) → Stands l (at + 1) (owed - 1 + c) (h.children and_all h.others)
node_next l at owed c ts ne hc h =
    let e : count (h.children and_all h.others) ≡ owed - 1 + c = omega (arith, count_all h.children h.others, h.child_count_lem, h.other_count, hc.is) in
    rw e at h.after

-- a variable has no children
variable_leaf : (l : List ℕ) (at owed : ℕ) (ts : Terms) (h : NodeHere l at owed ts) → tag_of (get_or l at 0) ≡ tag_variable → h.children ≡ end
unfolding row_of table arity child_count
variable_leaf l at owed ts h e = none_counted h.children (let n : n_of (get_or l at 0) ≤ 0 = rw e at (fits_parts h.places h.spot (get_or l at 0) h.fit).greatest_n in omega (arith, rw e at h.child_count_lem))

leaf_stop : (at : ℕ) (us ts : Terms) → us ≡ end → at + 1 + length (words_of (us and_all ts)) ≡ at + 1 + length (words_of ts)
unfolding ◌and_all◌
leaf_stop at us ts e = rw e

leaf_next : (l : List ℕ) (at owed : ℕ) (ts : Terms) (h : NodeHere l at owed ts) → h.children ≡ end → Stands l (at + 1) (owed - 1) h.others
unfolding words_of
leaf_next l at owed ts h e =
    let q : at + 1 + length (words_of h.children) ≡ at + 1 = rw e (add-zero (at + 1)) in
    rw q at (stands_second l (at + 1) (count (h.children and_all h.others)) (owed - 1) h.children h.others h.other_count h.after)

module _ (l : List ℕ) (at owed : ℕ) (marks : List Bool) where
  pub bind_none : owed ≡ 0 → Binds l at owed marks marks (Ok at)
  unfolding Onward Agrees binds_all words_of
  bind_none z =
      record {
        answer = λ ts scope checks s m. rw (stands_none l at owed ts z s) (refl, sym (add-zero at), (m, refl));
        onward = omega arith;
      }

  module _ (ne : ¬ (owed ≡ 0)) where
    pub bind_past : length l ≤ at → Binds l at owed marks marks (Err (record { 0 = at }))
    unfolding Onward
    bind_past h = record { answer = λ ts scope checks s m. absurd (none_past l at owed ts ne h s); onward = tt }

    module _ (lt : at < length l) where
      pub bind_short : length l - at < owed → Binds l at owed marks marks (Err (record { 0 = at }))
      unfolding Onward
      bind_short h = record { answer = λ ts scope checks s m. absurd (none_short l at owed ts h s); onward = tt }

      module _ (t : ℕ) (et : t ≡ tag_of (get_or l at 0)) where
        pub bind_integer : t ≡ tag_integer → (after : List Bool) (r : Result ℕ BadWord) → Binds l (at + 2) (owed - 1) marks after r → Binds l at owed marks after r
        bind_integer e after r b = record { answer = go; onward = onward_from at (at + 2) r (omega arith) b.onward }
          where
            go : (ts : Terms) (scope checks : List ℕ) → Stands l at owed ts → Marks variables marks scope
                → Agrees (at + length (words_of ts)) (λ scope' checks'. Marks variables after scope' × (checks' ≡ checks)) (binds_all scope ts at checks) r
            go ts scope checks s m =
                let h = stands_integer l at owed ts ne (sym et ∙ e) s in
                agrees_with _ _ _ _ _ r (integer_stop at ts h.payload h.others h.is) (ap (λ (us : Terms). binds_all scope us at checks) h.is ∙ binds_integer h.payload h.others scope at checks)
                (b.answer h.others scope checks h.next m)

        module _ (d : ¬ (t ≡ tag_integer)) where
          pub bind_node : ¬ (t ≡ tag_variable) → (c : ℕ) → ChildCount (get_or l at 0) c → (after : List Bool) (r : Result ℕ BadWord) → Binds l (at + 1) (owed - 1 + c) marks after r → Binds l at owed marks after r
          bind_node v c hc after r b = record { answer = go; onward = onward_from at (at + 1) r (omega arith) b.onward }
            where
              go : (ts : Terms) (scope checks : List ℕ) → Stands l at owed ts → Marks variables marks scope
                  → Agrees (at + length (words_of ts)) (λ scope' checks'. Marks variables after scope' × (checks' ≡ checks)) (binds_all scope ts at checks) r
              go ts scope checks s m =
                  let h = stands_node l at owed ts ne (λ i. d (et ∙ i)) s in
                  agrees_with _ _ _ _ _ r (node_stop l at owed ts h)
                  (ap (λ (us : Terms). binds_all scope us at checks) h.is ∙ binds_node h.tag h.n h.k h.children h.others scope at checks (λ i. v (et ∙ h.tag_is ∙ i)))
                  (b.answer (h.children and_all h.others) scope checks (node_next l at owed c ts ne hc h) m)

        no_integer : t ≡ tag_variable → ¬ (tag_of (get_or l at 0) ≡ tag_integer)
        no_integer v i = omega (arith, et, v, i)

        module _ (v : t ≡ tag_variable) (k : ℕ) (ek : k ≡ k_of (get_or l at 0)) where
          pub bind_out : variables ≤ k → Binds l at owed marks marks (Err (record { 0 = at }))
          unfolding Onward
          bind_out b =
              record {
                answer = λ ts scope checks s m.
                    let h = stands_node l at owed ts ne (no_integer v) s in
                    absurd (omega (arith, variable_k h.places h.spot (get_or l at 0) h.fit (sym et ∙ v)));
                onward = tt;
              }

          pub bind_again : k < variables → get_or marks k false ≡ true → Binds l at owed marks marks (Err (record { 0 = at }))
          unfolding Onward Agrees
          bind_again b e =
              record {
                answer = λ ts scope checks s m.
                    let h = stands_node l at owed ts ne (no_integer v) s in
                    let w : binds_all scope ts at checks ≡ breaks at =
                    ap (λ (us : Terms). binds_all scope us at checks) h.is
                    ∙ binds_again h.tag h.n h.k h.children h.others scope at checks (sym h.tag_is ∙ sym et ∙ v) (ap (λ (j : ℕ). member j scope) (sym h.k_is ∙ sym ek) ∙ sym (m.told k b) ∙ e)
                    in
                    rw w refl;
                onward = tt;
              }

          pub bind_new : k < variables → get_or marks k false ≡ false → (after : List Bool) (r : Result ℕ BadWord) → Binds l (at + 1) (owed - 1) (set marks k true) after r → Binds l at owed marks after r
          bind_new j e after r b = record { answer = go; onward = onward_from at (at + 1) r (omega arith) b.onward }
            where
              go : (ts : Terms) (scope checks : List ℕ) → Stands l at owed ts → Marks variables marks scope
                  → Agrees (at + length (words_of ts)) (λ scope' checks'. Marks variables after scope' × (checks' ≡ checks)) (binds_all scope ts at checks) r
              go ts scope checks s m =
                  let h = stands_node l at owed ts ne (no_integer v) s in
                  let kk : k ≡ h.k = ek ∙ h.k_is in
                  let leaf = variable_leaf l at owed ts h (sym et ∙ v) in
                  agrees_with _ _ _ _ _ r (node_stop l at owed ts h ∙ leaf_stop at h.children h.others leaf)
                  (ap (λ (us : Terms). binds_all scope us at checks) h.is
                  ∙ binds_new h.tag h.n h.k h.children h.others scope at checks (sym h.tag_is ∙ sym et ∙ v) (ap (λ (i : ℕ). member i scope) (sym kk) ∙ sym (m.told k j) ∙ e))
                  (rw kk at (b.answer h.others (k ∷ scope) checks (leaf_next l at owed ts h leaf) (mark_more variables marks scope k j m)))
