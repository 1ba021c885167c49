-- What the code's walk outside patterns returns, by the tests that it makes.
use Prim.Native.Nat.{ℕ, suc, ◌+◌, ◌-◌, ◌≤◌, ◌<◌}
use mathlib.Core.Path.{◌≡◌, refl, sym, ap, ◌∙◌, subst}
use mathlib.Core.Bool.{Bool, true, false, not}
use mathlib.Core.List.{List, ◌∷◌}
use native.Mathlib.Omega.{arith}
use native.Mathlib.Nat.{add-zero}
use native.Mathlib.Numerals.{add-one}
use Rattle.std.specs.Prelude.{Result, Ok, Err, IsErrAnd}
use lib.Dec.{eqb}
use lib.ListN.{length, get_or}
use Rattle.lists.proofs.Tests.{eqb_of, eqb_apart, not_true, not_false}
use Rattle.term.specs.Words.{tag_of, n_of, k_of, tag_integer, tag_let, tag_clause}
use Rattle.term.specs.Table.{arity, table, row_of, child_count}
use Rattle.term.specs.Tree.{Term, Terms, node, end, ◌then◌, words_of, count}
use Rattle.term.specs.Binding.{Walk, breaks, passes, and_then, binds, binds_all, keeps_rule, checks_after, keeps, keeps_all, keeps_let, keeps_clause}
use Rattle.rows.specs.Kinds.{ChildCount}
use Rattle.rows.specs.declared.terms.BadWord.{BadWord}
use Rattle.checks.specs.Walking.{Marks, Stands, Agrees, Onward, Binds, Rules, Keeps, KeepsBoth, variables, check_numbers}
use Rattle.term.proofs.TreeLaws.{length_all, ◌and_all◌}
use Rattle.term.proofs.ShapeLaws.{fits_parts}
use Rattle.shape.proofs.ReadingLaws.{passed_on}
use Rattle.checks.proofs.StandLaws.{NodeHere, stands_none, stands_first, stands_second, stands_integer, stands_node}
use Rattle.checks.proofs.BindLaws.{then_then, onward_from, agrees_with, none_past, none_short, integer_stop, node_stop, node_next}

-- a walk that broke, and one that passed
pub agrees_broke : (stop : ℕ) (left : List ℕ → List ℕ → Type 0) (w : Walk) (bad : BadWord) → Agrees stop left w (Err bad) → w ≡ breaks bad.0
unfolding Agrees
agrees_broke stop left (breaks q) bad a = ap breaks a
agrees_broke stop left (passes b scope checks) bad a = absurd a

pub record Passed (stop : ℕ) (left : List ℕ → List ℕ → Type 0) (w : Walk) (a : ℕ) : Type 0 where
  pub scope : List ℕ
  pub checks : List ℕ
  pub is : w ≡ passes a scope checks
  pub stops : a ≡ stop
  pub what_left : left scope checks

pub agrees_past : (stop : ℕ) (left : List ℕ → List ℕ → Type 0) (w : Walk) (a : ℕ) → Agrees stop left w (Ok a) → Passed stop left w a
unfolding Agrees
agrees_past stop left (breaks q) a g = absurd g
agrees_past stop left (passes b scope checks) a g = record { scope = scope; checks = checks; is = ap (λ (j : ℕ). passes j scope checks) g.0; stops = g.1; what_left = g.2 }

module _ (arities : List ℕ) (unique : Bool) where
  pub keeps_all_lem : (ts us : Terms) (scope : List ℕ) (at : ℕ) (checks : List ℕ)
      → keeps_all arities unique scope (ts and_all us) at checks ≡ and_then (keeps_all arities unique scope ts at checks) (λ at' scope' checks'. keeps_all arities unique scope us at' checks')
  unfolding keeps_all and_then ◌and_all◌
  keeps_all_lem end us scope at checks = refl
  keeps_all_lem (t then ts) us scope at checks =
      then_then (keeps arities unique scope t at checks) (λ at' scope' checks'. keeps_all arities unique scope (ts and_all us) at' checks') (λ at' scope' checks'. keeps_all arities unique scope ts at' checks')
      (λ at' scope' checks'. keeps_all arities unique scope us at' checks') (λ at' scope' checks'. keeps_all_lem ts us scope at' checks')

  -- one term, as the only one of a row; what comes after does not look at the scope
  keeps_one : (t : Term) (scope : List ℕ) (at : ℕ) (checks : List ℕ) (next : ℕ → List ℕ → Walk)
      → and_then (keeps arities unique scope t at checks) (λ at' scope' checks'. next at' checks') ≡ and_then (keeps_all arities unique scope (t then end) at checks) (λ at' scope' checks'. next at' checks')
  unfolding keeps_all and_then
  keeps_one t scope at checks next =
      then_then (keeps arities unique scope t at checks) (λ at' scope' checks'. next at' checks') (λ at' scope' checks'. passes at' scope checks') (λ at' scope' checks'. next at' checks') (λ at' scope' checks'. refl)

  binds_one : (t : Term) (scope : List ℕ) (at : ℕ) (checks : List ℕ) (next : ℕ → List ℕ → List ℕ → Walk) → and_then (binds scope t at checks) next ≡ and_then (binds_all scope (t then end) at checks) next
  unfolding binds_all and_then
  binds_one t scope at checks next = then_then (binds scope t at checks) next (λ at' scope' checks'. passes at' scope' checks') next (λ at' scope' checks'. refl)

  -- a word, by the three tests that are made there
  turn : (rule is_let is_clause : Bool) (at : ℕ) → Walk → Walk → Walk → Walk
  turn rule is_let is_clause at in_let in_clause others = elim rule [ false ↦ breaks at | true ↦ elim is_let [ true ↦ in_let | false ↦ elim is_clause [ true ↦ in_clause | false ↦ others ] ] ]

  module _ (tag n k : ℕ) (us : Terms) (scope : List ℕ) (at : ℕ) (checks : List ℕ) where
    keeps_word : keeps arities unique scope (node tag n k us) at checks
        ≡ turn (keeps_rule arities unique scope checks tag n k) (eqb tag tag_let) (eqb tag tag_clause) at (keeps_let arities unique scope k us (suc at) checks) (keeps_clause arities unique scope us (suc at) checks)
        (keeps_all arities unique scope us (suc at) (checks_after tag k checks))
    unfolding keeps turn
    keeps_word = refl

    one_broken : keeps_rule arities unique scope checks tag n k ≡ false → keeps arities unique scope (node tag n k us) at checks ≡ breaks at
    unfolding turn
    one_broken r = keeps_word ∙ rw r

    module _ (r : keeps_rule arities unique scope checks tag n k ≡ true) where
      one_let : tag ≡ tag_let → keeps arities unique scope (node tag n k us) at checks ≡ keeps_let arities unique scope k us (suc at) checks
      unfolding turn
      one_let e = keeps_word ∙ rw (r, eqb_of tag tag_let e)

      one_clause : ¬ (tag ≡ tag_let) → tag ≡ tag_clause → keeps arities unique scope (node tag n k us) at checks ≡ keeps_clause arities unique scope us (suc at) checks
      unfolding turn
      one_clause d e = keeps_word ∙ rw (r, eqb_apart tag tag_let d, eqb_of tag tag_clause e)

      one_plain : ¬ (tag ≡ tag_let) → ¬ (tag ≡ tag_clause) → keeps arities unique scope (node tag n k us) at checks ≡ keeps_all arities unique scope us (suc at) (checks_after tag k checks)
      unfolding turn
      one_plain d e = keeps_word ∙ rw (r, eqb_apart tag tag_let d, eqb_apart tag tag_clause e)

  -- the same with the terms after it
  module _ (tag n k : ℕ) (us ts : Terms) (scope : List ℕ) (at : ℕ) (checks : List ℕ) where
    on : Walk → Walk
    on w = and_then w (λ at' scope' checks'. keeps_all arities unique scope ts at' checks')

    keeps_broken : keeps_rule arities unique scope checks tag n k ≡ false → keeps_all arities unique scope (node tag n k us then ts) at checks ≡ breaks at
    unfolding keeps_all and_then on
    keeps_broken r = ap on (one_broken tag n k us scope at checks r)

    module _ (r : keeps_rule arities unique scope checks tag n k ≡ true) where
      keeps_plain : ¬ (tag ≡ tag_let) → ¬ (tag ≡ tag_clause) → keeps_all arities unique scope (node tag n k us then ts) at checks ≡ keeps_all arities unique scope (us and_all ts) (at + 1) (checks_after tag k checks)
      unfolding keeps_all on
      keeps_plain d e =
          ap on (one_plain tag n k us scope at checks r d e)
          ∙ sym (keeps_all_lem us ts scope (suc at) (checks_after tag k checks))
          ∙ ap (λ (j : ℕ). keeps_all arities unique scope (us and_all ts) j (checks_after tag k checks)) (sym (add-one at))

      keeps_let_lem : (bound : Term) (body : Terms) → us ≡ bound then body → tag ≡ tag_let
          → keeps_all arities unique scope (node tag n k us then ts) at checks
          ≡ and_then (keeps_all arities unique scope (bound then end) (at + 1) checks)
          (λ at' scope' checks'. and_then (keeps_all arities unique (k ∷ scope) body at' checks') (λ at'' scope'' checks''. keeps_all arities unique scope ts at'' checks''))
      unfolding keeps_all on
      keeps_let_lem bound body u e =
          ap on (one_let tag n k us scope at checks r e)
          ∙ ap (λ (v : Terms). on (keeps_let arities unique scope k v (suc at) checks)) u
          ∙ sym (then_then (keeps arities unique scope bound (suc at) checks) (λ at' scope' checks'. on (keeps_all arities unique (k ∷ scope) body at' checks')) (λ at' scope' checks'. keeps_all arities unique (k ∷ scope) body at' checks')
          (λ at' scope' checks'. keeps_all arities unique scope ts at' checks') (λ at' scope' checks'. refl))
          ∙ keeps_one bound scope (suc at) checks (λ at' checks'. on (keeps_all arities unique (k ∷ scope) body at' checks'))
          ∙ ap (λ (j : ℕ). and_then (keeps_all arities unique scope (bound then end) j checks) (λ at' scope' checks'. on (keeps_all arities unique (k ∷ scope) body at' checks'))) (sym (add-one at))

      keeps_clause_lem : (pattern : Term) (body : Terms) → us ≡ pattern then body → ¬ (tag ≡ tag_let) → tag ≡ tag_clause
          → keeps_all arities unique scope (node tag n k us then ts) at checks
          ≡ and_then (binds_all scope (pattern then end) (at + 1) checks)
          (λ at' scope' checks'. and_then (keeps_all arities unique scope' body at' checks') (λ at'' scope'' checks''. keeps_all arities unique scope ts at'' checks''))
      unfolding keeps_all on
      keeps_clause_lem pattern body u d e =
          ap on (one_clause tag n k us scope at checks r d e)
          ∙ ap (λ (v : Terms). on (keeps_clause arities unique scope v (suc at) checks)) u
          ∙ sym (then_then (binds scope pattern (suc at) checks) (λ at' scope' checks'. on (keeps_all arities unique scope' body at' checks')) (λ at' scope' checks'. keeps_all arities unique scope' body at' checks')
          (λ at' scope' checks'. keeps_all arities unique scope ts at' checks') (λ at' scope' checks'. refl))
          ∙ binds_one pattern scope (suc at) checks (λ at' scope' checks'. on (keeps_all arities unique scope' body at' checks'))
          ∙ ap (λ (j : ℕ). and_then (binds_all scope (pattern then end) j checks) (λ at' scope' checks'. on (keeps_all arities unique scope' body at' checks'))) (sym (add-one at))

-- the first child and the others
pub record Split (us : Terms) (m : ℕ) : Type 0 where
  pub head : Term
  pub tail : Terms
  pub is : us ≡ head then tail
  pub tail_count : count tail ≡ m

split : (us : Terms) (m : ℕ) → count us ≡ suc m → Split us m
unfolding count
split end m e = absurd (omega arith)
split (t then us) m e = record { head = t; tail = us; is = refl; tail_count = omega arith }

-- of a word whose n is fixed
fixed_children : (tag m : ℕ) → (row_of tag).least ≡ suc m → (row_of tag).greatest ≡ suc m → ((n : ℕ) → arity tag n ≡ n) → (l : List ℕ) (at owed : ℕ) (ts : Terms) (h : NodeHere l at owed ts)
    → tag_of (get_or l at 0) ≡ tag → Split h.children m
fixed_children tag m least greatest many l at owed ts h e =
    let f = fits_parts h.places h.spot (get_or l at 0) h.fit in
    let lower : (row_of tag).least ≤ n_of (get_or l at 0) = rw e at f.least_n in
    let upper : n_of (get_or l at 0) ≤ (row_of tag).greatest = rw e at f.greatest_n in
    let counted : count h.children ≡ n_of (get_or l at 0) = (rw e at h.child_count_lem) ∙ many (n_of (get_or l at 0)) in
    split h.children m (omega (arith, least, greatest))

-- where the parts of a word with an inner scope stand, and where they stop
pub record Parts (l : List ℕ) (at owed m : ℕ) (ts : Terms) (head : Term) (tail others : Terms) : Type 0 where
  pub first : Stands l (at + 1) 1 (head then end)
  pub second : Stands l (at + 1 + length (words_of (head then end))) m tail
  pub third : Stands l (at + 1 + length (words_of (head then end)) + length (words_of tail)) (owed - 1) others
  pub stop : at + length (words_of ts) ≡ at + 1 + length (words_of (head then end)) + length (words_of tail) + length (words_of others)

parts : (l : List ℕ) (at owed m : ℕ) (ts : Terms) (h : NodeHere l at owed ts) (p : Split h.children m) → Parts l at owed m ts p.head p.tail h.others
unfolding ◌and_all◌ count
parts l at owed m ts h p =
    let all : Stands l (at + 1) (count (h.children and_all h.others)) ((p.head then end) and_all (p.tail and_all h.others)) =
    subst (λ (v : Terms). Stands l (at + 1) (count (h.children and_all h.others)) (v and_all h.others)) p.is h.after
    in
    let after = stands_second l (at + 1) (count (h.children and_all h.others)) (count (p.tail and_all h.others)) (p.head then end) (p.tail and_all h.others) refl all in
    record {
      first = stands_first l (at + 1) (count (h.children and_all h.others)) 1 (p.head then end) (p.tail and_all h.others) refl all;
      second = stands_first l _ _ m p.tail h.others p.tail_count after;
      third = stands_second l _ _ (owed - 1) p.tail h.others h.other_count after;
      stop =
          omega (
            arith,
            node_stop l at owed ts h,
            length_all h.children h.others,
            ap (λ (v : Terms). length (words_of v)) p.is,
            length_all (p.head then end) p.tail,
          );
    }

agrees_breaks : (stop : ℕ) (left : List ℕ → List ℕ → Type 0) (w : Walk) (bad : BadWord) → w ≡ breaks bad.0 → Agrees stop left w (Err bad)
unfolding Agrees
agrees_breaks stop left w bad e = rw e refl

pub onward_past : (b a : ℕ) → Onward b (Ok a) → b ≤ a
unfolding Onward
onward_past b a o = o

-- a walk that passes ends no earlier than it begins
pub keeps_onward : {l : List ℕ} {at owed : ℕ} {marks : List Bool} {arities : List ℕ} {unique : Bool} {before after : List Bool} {a : ℕ} → Keeps l at owed marks arities unique before after (Ok a) → at ≤ a
keeps_onward k = onward_past _ _ k.onward

-- what a walk keeps, at the answer that was matched
pub keeps_at : {l : List ℕ} {at owed : ℕ} {marks : List Bool} {arities : List ℕ} {unique : Bool} {before after : List Bool} {r r' : Result ℕ BadWord} → r ≡ r' → Keeps l at owed marks arities unique before after r → Keeps l at owed marks arities unique before after r'
keeps_at {l} {at} {owed} {marks} {arities} {unique} {before} {after} e k = subst (Keeps l at owed marks arities unique before after) e k

module _ (l : List ℕ) (at owed : ℕ) (marks : List Bool) (arities : List ℕ) (unique : Bool) (before : List Bool) where
  pub keep_none : owed ≡ 0 → Keeps l at owed marks arities unique before before (Ok at)
  unfolding Onward Agrees keeps_all words_of
  keep_none z =
      record {
        answer = λ ts scope checks s m g. rw (stands_none l at owed ts z s) (refl, sym (add-zero at), g);
        onward = omega arith;
      }

  module _ (ne : ¬ (owed ≡ 0)) where
    pub keep_past : length l ≤ at → Keeps l at owed marks arities unique before before (Err (record { 0 = at }))
    unfolding Onward
    keep_past h = record { answer = λ ts scope checks s m g. absurd (none_past l at owed ts ne h s); onward = tt }

    module _ (lt : at < length l) where
      pub keep_short : length l - at < owed → Keeps l at owed marks arities unique before before (Err (record { 0 = at }))
      unfolding Onward
      keep_short h = record { answer = λ ts scope checks s m g. absurd (none_short l at owed ts h s); onward = tt }

      module _ (t : ℕ) (et : t ≡ tag_of (get_or l at 0)) where
        pub keep_integer : t ≡ tag_integer → (after : List Bool) (r : Result ℕ BadWord) → Keeps l (at + 2) (owed - 1) marks arities unique before after r → Keeps l at owed marks arities unique before after r
        unfolding keeps_all and_then
        keep_integer e after r b =
            record {
              answer = λ ts scope checks s m g.
                  let h = stands_integer l at owed ts ne (sym et ∙ e) s in
                  agrees_with _ _ _ _ _ r (integer_stop at ts h.payload h.others h.is) (ap (λ (us : Terms). keeps_all arities unique scope us at checks) h.is)
                  (b.answer h.others scope checks h.next m g);
              onward = onward_from at (at + 2) r (omega arith) b.onward;
            }

        module _ (d : ¬ (t ≡ tag_integer)) (v : Bool) (rules : Rules (get_or l at 0) marks arities unique before v) where
          -- a node stands here, and the rule says what was found
          node_at : (ts : Terms) → Stands l at owed ts → NodeHere l at owed ts
          node_at ts s = stands_node l at owed ts ne (λ i. d (et ∙ i)) s

          rule_is : (ts : Terms) (h : NodeHere l at owed ts) (scope checks : List ℕ) → Marks variables marks scope → Marks check_numbers before checks → v ≡ keeps_rule arities unique scope checks h.tag h.n h.k
          rule_is ts h scope checks m g = rw (← h.tag_is, ← h.n_is, ← h.k_is) (rules.answer h.places h.spot scope checks h.fit m g)

          pub keep_broken : not v ≡ true → Keeps l at owed marks arities unique before before (Err (record { 0 = at }))
          unfolding Onward Agrees
          keep_broken f =
              record {
                answer = λ ts scope checks s m g.
                    let h = node_at ts s in
                    let w : keeps_all arities unique scope ts at checks ≡ breaks at =
                    ap (λ (us : Terms). keeps_all arities unique scope us at checks) h.is
                    ∙ keeps_broken arities unique h.tag h.n h.k h.children h.others scope at checks (sym (rule_is ts h scope checks m g) ∙ not_true v f)
                    in
                    rw w refl;
                onward = tt;
              }

          module _ (f : not v ≡ false) where
            rule_kept : (ts : Terms) (h : NodeHere l at owed ts) (scope checks : List ℕ) → Marks variables marks scope → Marks check_numbers before checks → keeps_rule arities unique scope checks h.tag h.n h.k ≡ true
            rule_kept ts h scope checks m g = sym (rule_is ts h scope checks m g) ∙ not_false v f

            pub keep_plain_lem : ¬ (t ≡ tag_let) → ¬ (t ≡ tag_clause) → (met : List Bool)
                → ((numbers : List ℕ) → Marks check_numbers before numbers → Marks check_numbers met (checks_after (tag_of (get_or l at 0)) (k_of (get_or l at 0)) numbers))
                → (c : ℕ) → ChildCount (get_or l at 0) c → (after : List Bool) (r : Result ℕ BadWord) → Keeps l (at + 1) (owed - 1 + c) marks arities unique met after r → Keeps l at owed marks arities unique before after r
            keep_plain_lem dl dc met hm c hc after r b =
                record {
                  answer = λ ts scope checks s m g.
                      let h = node_at ts s in
                      agrees_with _ _ _ _ _ r (node_stop l at owed ts h)
                      (ap (λ (us : Terms). keeps_all arities unique scope us at checks) h.is
                      ∙ keeps_plain arities unique h.tag h.n h.k h.children h.others scope at checks (rule_kept ts h scope checks m g) (λ i. dl (et ∙ h.tag_is ∙ i)) (λ i. dc (et ∙ h.tag_is ∙ i)))
                      (b.answer (h.children and_all h.others) scope (checks_after h.tag h.k checks) (node_next l at owed c ts ne hc h) m (rw (h.tag_is, h.k_is) at (hm checks g)));
                  onward = onward_from at (at + 1) r (omega arith) b.onward;
                }

            -- what a let goes on with
            let_next : {ts : Terms} (h : NodeHere l at owed ts) {m : ℕ} (c : Split h.children m) (scope : List ℕ) → ℕ → List ℕ → List ℕ → Walk
            let_next h c scope at' scope' checks' = and_then (keeps_all arities unique (h.k ∷ scope) c.tail at' checks') (λ at'' scope'' checks''. keeps_all arities unique scope h.others at'' checks'')

            -- what a clause goes on with
            clause_next : {ts : Terms} (h : NodeHere l at owed ts) {m : ℕ} (c : Split h.children m) (scope : List ℕ) → ℕ → List ℕ → List ℕ → Walk
            clause_next h c scope at' scope' checks' = and_then (keeps_all arities unique scope' c.tail at' checks') (λ at'' scope'' checks''. keeps_all arities unique scope h.others at'' checks'')

            -- a let: its bound part, then its body in the inner scope
            module _ (e : t ≡ tag_let) (mid : List Bool) where
              let_walk : (ts : Terms) (h : NodeHere l at owed ts) (c : Split h.children 1) (scope checks : List ℕ) → Marks variables marks scope → Marks check_numbers before checks
                  → keeps_all arities unique scope ts at checks ≡ and_then (keeps_all arities unique scope (c.head then end) (at + 1) checks) (let_next h c scope)
              unfolding let_next
              let_walk ts h c scope checks m g =
                  ap (λ (us : Terms). keeps_all arities unique scope us at checks) h.is
                  ∙ keeps_let_lem arities unique h.tag h.n h.k h.children h.others scope at checks (rule_kept ts h scope checks m g) c.head c.tail c.is (sym h.tag_is ∙ sym et ∙ e)

              pub let_broke : (bad : BadWord) → Keeps l (at + 1) 1 marks arities unique before mid (Err bad) → Keeps l at owed marks arities unique before mid (Err bad)
              unfolding and_then row_of table arity child_count
              let_broke bad hf =
                  record {
                    answer = λ ts scope checks s m g.
                        let h = node_at ts s in
                        let c = fixed_children tag_let 1 refl refl (λ n. refl) l at owed ts h (sym et ∙ e) in
                        let q = parts l at owed 1 ts h c in
                        let w = agrees_broke _ _ _ bad (hf.answer (c.head then end) scope checks q.first m g) in
                        agrees_breaks _ _ _ bad (let_walk ts h c scope checks m g ∙ ap (λ (x : Walk). and_then x (let_next h c scope)) w);
                    onward = onward_from at (at + 1) (Err bad) (omega arith) hf.onward;
                  }

              pub let_done : (a : ℕ) → Keeps l (at + 1) 1 marks arities unique before mid (Ok a) → (k : ℕ) → k ≡ k_of (get_or l at 0) → (inner : List Bool) → ((scope : List ℕ) → Marks variables marks scope → Marks variables inner (k ∷ scope))
                  → (after : List Bool) (r : Result ℕ BadWord) → KeepsBoth l a 1 (owed - 1) inner marks arities unique mid after r → Keeps l at owed marks arities unique before after r
              unfolding and_then let_next row_of table arity child_count
              let_done a hf k ek inner hi after r b =
                  record {
                    answer = λ ts scope checks s m g.
                        let h = node_at ts s in
                        let c = fixed_children tag_let 1 refl refl (λ n. refl) l at owed ts h (sym et ∙ e) in
                        let q = parts l at owed 1 ts h c in
                        let w = agrees_past _ _ _ a (hf.answer (c.head then end) scope checks q.first m g) in
                        let kk : k ≡ h.k = ek ∙ h.k_is in
                        agrees_with _ _ _ _ _ r (omega (arith, q.stop, w.stops)) (let_walk ts h c scope checks m g ∙ ap (λ (x : Walk). and_then x (let_next h c scope)) w.is)
                        (b.answer c.tail h.others (h.k ∷ scope) scope w.checks (rw (← w.stops) at q.second) (rw (← w.stops) at q.third) (rw kk at (hi scope m)) m w.what_left);
                    onward = onward_from at a r (omega (arith, onward_past (at + 1) a hf.onward)) b.onward;
                  }

            -- a clause: its pattern, then guard and body in the inner scope
            module _ (dl : ¬ (t ≡ tag_let)) (e : t ≡ tag_clause) (inner : List Bool) where
              clause_walk : (ts : Terms) (h : NodeHere l at owed ts) (c : Split h.children 2) (scope checks : List ℕ) → Marks variables marks scope → Marks check_numbers before checks
                  → keeps_all arities unique scope ts at checks ≡ and_then (binds_all scope (c.head then end) (at + 1) checks) (clause_next h c scope)
              unfolding clause_next
              clause_walk ts h c scope checks m g =
                  ap (λ (us : Terms). keeps_all arities unique scope us at checks) h.is
                  ∙ keeps_clause_lem arities unique h.tag h.n h.k h.children h.others scope at checks (rule_kept ts h scope checks m g) c.head c.tail c.is (λ i. dl (et ∙ h.tag_is ∙ i))
                  (sym h.tag_is ∙ sym et ∙ e)

              pub clause_broke : (bad : BadWord) → Binds l (at + 1) 1 marks inner (Err bad) → Keeps l at owed marks arities unique before before (Err bad)
              unfolding and_then row_of table arity child_count
              clause_broke bad hf =
                  record {
                    answer = λ ts scope checks s m g.
                        let h = node_at ts s in
                        let c = fixed_children tag_clause 2 refl refl (λ n. refl) l at owed ts h (sym et ∙ e) in
                        let q = parts l at owed 2 ts h c in
                        let w = agrees_broke _ _ _ bad (hf.answer (c.head then end) scope checks q.first m) in
                        agrees_breaks _ _ _ bad (clause_walk ts h c scope checks m g ∙ ap (λ (x : Walk). and_then x (clause_next h c scope)) w);
                    onward = onward_from at (at + 1) (Err bad) (omega arith) hf.onward;
                  }

              pub clause_done : (a : ℕ) → Binds l (at + 1) 1 marks inner (Ok a) → (after : List Bool) (r : Result ℕ BadWord) → KeepsBoth l a 2 (owed - 1) inner marks arities unique before after r → Keeps l at owed marks arities unique before after r
              unfolding and_then clause_next row_of table arity child_count
              clause_done a hf after r b =
                  record {
                    answer = λ ts scope checks s m g.
                        let h = node_at ts s in
                        let c = fixed_children tag_clause 2 refl refl (λ n. refl) l at owed ts h (sym et ∙ e) in
                        let q = parts l at owed 2 ts h c in
                        let w = agrees_past _ _ _ a (hf.answer (c.head then end) scope checks q.first m) in
                        agrees_with _ _ _ _ _ r (omega (arith, q.stop, w.stops)) (clause_walk ts h c scope checks m g ∙ ap (λ (x : Walk). and_then x (clause_next h c scope)) w.is)
                        (b.answer c.tail h.others w.scope scope w.checks (rw (← w.stops) at q.second) (rw (← w.stops) at q.third) w.what_left.0 m (rw w.what_left.1 g));
                    onward = onward_from at a r (omega (arith, onward_past (at + 1) a hf.onward)) b.onward;
                  }

-- two walks one after another
module _ (l : List ℕ) (at first second : ℕ) (inner outer : List Bool) (arities : List ℕ) (unique : Bool) (before mid : List Bool) where
  pub both_broke : (bad : BadWord) → Keeps l at first inner arities unique before mid (Err bad) → (r : Result ℕ BadWord) → IsErrAnd r (λ e. e ≡ bad) → KeepsBoth l at first second inner outer arities unique before mid r
  unfolding and_then
  both_broke bad h r p =
      let broke : KeepsBoth l at first second inner outer arities unique before mid (Err bad) =
      record {
        answer = λ ts us scope scope' checks s s' m m' g.
            let w = agrees_broke _ _ _ bad (h.answer ts scope checks s m g) in
            agrees_breaks _ _ _ bad (ap (λ (x : Walk). and_then x (λ at' scope'' checks'. keeps_all arities unique scope' us at' checks')) w);
        onward = h.onward;
      }
      in
      rw (passed_on r bad p) broke

  pub both_done : (a : ℕ) → Keeps l at first inner arities unique before mid (Ok a) → (after : List Bool) (r : Result ℕ BadWord) → Keeps l a second outer arities unique mid after r
      → KeepsBoth l at first second inner outer arities unique before after r
  unfolding and_then
  both_done a h after r b =
      record {
        answer = λ ts us scope scope' checks s s' m m' g.
            let w = agrees_past _ _ _ a (h.answer ts scope checks s m g) in
            agrees_with _ _ _ _ _ r (omega (arith, w.stops)) (ap (λ (x : Walk). and_then x (λ at' scope'' checks'. keeps_all arities unique scope' us at' checks')) w.is)
            (b.answer us scope' w.checks (rw (← w.stops) at s') m' w.what_left);
        onward = onward_from at a r (onward_past at a h.onward) b.onward;
      }
