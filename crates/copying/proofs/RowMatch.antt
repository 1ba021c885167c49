-- Laws of matching in rows: the steps of `matches`.
use Prim.Native.Nat.{ℕ, ◌+◌, ◌-◌, ◌<◌, ◌≤◌}
use mathlib.Core.Path.{◌≡◌, refl, sym, ap, ap₂, ◌∙◌, subst}
use mathlib.Core.Bool.{Bool, true, false, cond, ◌&&◌}
use mathlib.Core.Option.{Option, none, some}
use mathlib.Core.List.{List, ◌++◌, append_assoc}
use native.Mathlib.Omega.{arith}
use native.Mathlib.Decide.{ℕ_discrete}
use native.Mathlib.Numerals.{add-one}
use lib.Dec.{eqb}
use lib.ListN.{length, drop, get_or, set, length-set}
use lib.Seq.{get_or-set_same, get_or-set_other}
use Rattle.lists.proofs.Tests.{eqb_of, eqb_apart, cond_true, cond_false, true_not_false}
use Rattle.term.specs.Words.{word, tag_of, n_of, k_of, tag_integer, tag_variable}
use Rattle.term.specs.Table.{arity}
use Rattle.term.specs.Rows.{passed}
use Rattle.term.specs.Tree.{Term, Terms, int, node, end, ◌then◌, words, words_of, count}
use Rattle.term.proofs.TreeLaws.{◌and_all◌}
use Rattle.machine.specs.Match.{Bindings, with, children_of, is_integer, match, match_all}
use Rattle.row_laws.specs.Rows.{Stands, Plain, PlainAll, Entry, Bound}
use Rattle.copying.specs.Matching.{Matched, Matches}
use Rattle.row_laws.proofs.RowTerms.{node_at, integer_at, not_integer_at, no_count, some_words, past_term, one_skip, plain_whole, no_children}

-- ---- match, by what it looks at
abbrev pub onward : Option Bindings → Terms → Terms → Option Bindings
onward none ps vs = none
onward (some bindings) ps vs = match_all ps vs bindings

abbrev pub below : Option Terms → Terms → Bindings → Option Bindings
below none ps bindings = none
below (some vs) ps bindings = match_all ps vs bindings

pub match_then : (p : Term) (ps : Terms) (v : Term) (vs : Terms) (bindings : Bindings) → match_all (p then ps) (v then vs) bindings ≡ onward (match p v bindings) ps vs
unfolding match_all
match_then p ps v vs bindings = go (match p v bindings)
  where
    go : (o : Option Bindings) → ◌≡◌ {A = Option Bindings} (elim o [ none ↦ none | some bindings' ↦ match_all ps vs bindings' ]) (onward o ps vs)
    go none = refl
    go (some bindings') = refl

pub match_variable : (tag n k : ℕ) (ps : Terms) (v : Term) (bindings : Bindings) → tag ≡ tag_variable → match (node tag n k ps) v bindings ≡ some (with k v bindings)
unfolding match
match_variable tag n k ps v bindings e = rw e

pub match_node : (tag n k : ℕ) (ps : Terms) (v : Term) (bindings : Bindings) → ¬ (tag ≡ tag_variable) → match (node tag n k ps) v bindings ≡ below (children_of tag n k v) ps bindings
unfolding match
match_node tag n k ps v bindings d = go (eqb tag tag_variable) (eqb_apart tag tag_variable d) (children_of tag n k v)
  where
    go : (b : Bool) → b ≡ false → (o : Option Terms)
        → ◌≡◌ {A = Option Bindings} (elim b [ true ↦ some (with k v bindings) | false ↦ elim o [ none ↦ none | some vs ↦ match_all ps vs bindings ] ]) (below o ps bindings)
    go true e o = true_not_false refl e
    go false e none = refl
    go false e (some vs) = refl

children_same : (tag n k tag' n' k' : ℕ) (vs : Terms) → tag ≡ tag' → n ≡ n' → k ≡ k' → children_of tag n k (node tag' n' k' vs) ≡ some vs
unfolding children_of
children_same tag n k tag' n' k' vs a b d = rw (eqb_of tag tag' a, eqb_of n n' b, eqb_of k k' d)

children_other : (tag n k tag' n' k' : ℕ) (vs : Terms) → ¬ (word tag n k ≡ word tag' n' k') → children_of tag n k (node tag' n' k' vs) ≡ none
unfolding children_of
children_other tag n k tag' n' k' vs d = go (ℕ_discrete tag tag') (ℕ_discrete n n') (ℕ_discrete k k')
  where
    third : (a b c : Bool) → c ≡ false → (a && b && c) ≡ false
    third true true true e = true_not_false refl e
    third true true false e = refl
    third true false c e = refl
    third false b c e = refl

    second : (a b c : Bool) → b ≡ false → (a && b && c) ≡ false
    second true true c e = true_not_false refl e
    second true false c e = refl
    second false b c e = refl

    go : Dec (tag ≡ tag') → Dec (n ≡ n') → Dec (k ≡ k') → cond (eqb tag tag' && eqb n n' && eqb k k') (some vs) none ≡ none
    go (no a) y z = rw (eqb_apart tag tag' a)
    go (yes a) (no b) z = cond_false (some vs) none (second (eqb tag tag') (eqb n n') (eqb k k') (eqb_apart n n' b))
    go (yes a) (yes b) (no e) = cond_false (some vs) none (third (eqb tag tag') (eqb n n') (eqb k k') (eqb_apart k k' e))
    go (yes a) (yes b) (yes e) = absurd (d (λ i. word (a i) (b i) (e i)))

match_all_lem : (us ps us' vs : Terms) (bindings : Bindings) → count us ≡ count us' → match_all (us and_all ps) (us' and_all vs) bindings ≡ onward (match_all us us' bindings) ps vs
unfolding match_all ◌and_all◌ count
match_all_lem end ps end vs bindings s = refl
match_all_lem end ps (v then us') vs bindings s = absurd (omega arith)
match_all_lem (u then us) ps end vs bindings s = absurd (omega arith)
match_all_lem (u then us) ps (u' then us') vs bindings s =
    match_then u (us and_all ps) u' (us' and_all vs) bindings ∙ go (match u u' bindings) (λ bindings'. match_all_lem us ps us' vs bindings' (omega arith))
    ∙ sym (ap (λ (o : Option Bindings). onward o ps vs) (match_then u us u' us' bindings))
  where
    go : (o : Option Bindings) → ((bindings' : Bindings) → match_all (us and_all ps) (us' and_all vs) bindings' ≡ onward (match_all us us' bindings') ps vs)
        → onward o (us and_all ps) (us' and_all vs) ≡ onward (onward o us us') ps vs
    go none ih = refl
    go (some bindings') ih = ih bindings'

-- integers against values
other_kind : (x tag n k : ℕ) (us ps vs : Terms) (bindings : Bindings) → onward (match (int x) (node tag n k us) bindings) ps vs ≡ none
unfolding match is_integer
other_kind x tag n k us ps vs bindings = refl

no_node : (tag n k : ℕ) (us : Terms) (y : ℕ) (bindings : Bindings) → below (children_of tag n k (int y)) us bindings ≡ none
unfolding children_of
no_node tag n k us y bindings = refl

integers_differ : (x y : ℕ) (bindings : Bindings) → ¬ (x ≡ y) → match (int x) (int y) bindings ≡ none
unfolding match is_integer
integers_differ x y bindings d = cond_false (some bindings) none (eqb_apart x y d)

integers_same : (x y : ℕ) (bindings : Bindings) → x ≡ y → match (int x) (int y) bindings ≡ some bindings
unfolding match is_integer
integers_same x y bindings e = cond_true (some bindings) none (eqb_of x y e)

-- ---- one more entry
entry_of : (values : List ℕ) (a : ℕ) (v : Term) (m : ℕ) → Stands values a v → m ≡ a + 1 → Entry values m (some v)
unfolding Entry
entry_of values a v m s e = subst (λ (i : ℕ). Entry values i (some v)) (sym (e ∙ add-one a)) (v, refl, s)

pub bound_more : (values env : List ℕ) (bindings : Bindings) (k a : ℕ) (v : Term) → Bound values env bindings → k < length env → Stands values a v
    → Bound values (set env k (a + 1)) (with k v bindings)
unfolding Bound with
bound_more values env bindings k a v b h s j = go (ℕ_discrete k j)
  where
    go : Dec (k ≡ j) → Entry values (get_or (set env k (a + 1)) j 0) (cond (eqb k j) (some v) (bindings j))
    go (yes e) = rw (eqb_of k j e) (entry_of values a v _ s (ap (λ (i : ℕ). get_or (set env k (a + 1)) i 0) (sym e) ∙ get_or-set_same env k (a + 1) 0 h))
    go (no d) = rw (eqb_apart k j d, get_or-set_other env k j (a + 1) 0 (λ e. d (sym e))) (b j)

pub plain_all : (us ts : Terms) → PlainAll us → PlainAll ts → PlainAll (us and_all ts)
unfolding PlainAll ◌and_all◌
plain_all end ts h g = g
plain_all (u then us) ts h g = (h.0, plain_all us ts h.1 g)

pub matched_is : (values env : List ℕ) (o o' : Option Bindings) (r : Bool) → o ≡ o' → Matched values env o' r → Matched values env o r
matched_is values env o o' r e m = subst (λ (x : Option Bindings). Matched values env x r) (sym e) m

pub match_none : (p : List ℕ) (pa : ℕ) (v : List ℕ) (va m : ℕ) (env : List ℕ) → m ≡ 0 → Matches p pa v va m env env true
unfolding Matches Matched count match_all
match_none p pa v va m env z end end rest rest' bindings hp hv sp sv ep ev l b = (bindings, refl, b)
match_none p pa v va m env z end (u then us) rest rest' bindings hp hv sp sv ep ev l b = absurd (omega arith)
match_none p pa v va m env z (t then ts) vs rest rest' bindings hp hv sp sv ep ev l b = absurd (omega arith)

module _ (p : List ℕ) (pa : ℕ) (v : List ℕ) (va m : ℕ) (env : List ℕ) (nz : ¬ (m ≡ 0)) where
  pub match_past : (r : Bool) → length p ≤ pa → Matches p pa v va m env env r
  unfolding Matches
  match_past r past ps vs rest rest' bindings hp hv sp sv ep ev l b = absurd (omega (arith, some_words p pa m ps rest nz (omega arith) ep))

  pub match_past_value : (r : Bool) → length v ≤ va → Matches p pa v va m env env r
  unfolding Matches
  match_past_value r past ps vs rest rest' bindings hp hv sp sv ep ev l b = absurd (omega (arith, some_words v va m vs rest' nz (omega arith) ev))

  module _ (g : ℕ) (eg : g ≡ tag_of (get_or p pa 0)) where
    module _ (var : g ≡ tag_variable) (k : ℕ) (ek : k ≡ k_of (get_or p pa 0)) where
      pub match_high : length env ≤ k → (r : Bool) → Matches p pa v va m env env r
      unfolding Matches count PlainAll Plain
      match_high h r end vs rest rest' bindings hp hv sp sv ep ev l b = absurd (omega arith)
      match_high h r (int x then ps) vs rest rest' bindings hp hv sp sv ep ev l b = absurd (omega (arith, (integer_at p pa x ps rest ep).tag_is))
      match_high h r (node tag n j us then ps) vs rest rest' bindings hp hv sp sv ep ev l b =
          let o = node_at p pa m _ tag n j us ps rest hp.0.0 sp ep refl in
          absurd (omega (arith, hp.0.1.1 (sym o.tag_is ∙ sym eg ∙ var), o.k_is))

      pub match_var : k < length env → (end' : ℕ) (env' : List ℕ) (r : Bool) → end' ≡ va + passed (drop va v) 1 → Matches p (pa + 1) v end' (m - 1) (set env k (va + 1)) env' r → Matches p pa v va m env env' r
      unfolding Matches count PlainAll Plain words_of ◌and_all◌
      match_var h end' env' r sk ih end vs rest rest' bindings hp hv sp sv ep ev l b = absurd (omega arith)
      match_var h end' env' r sk ih (int x then ps) vs rest rest' bindings hp hv sp sv ep ev l b = absurd (omega (arith, (integer_at p pa x ps rest ep).tag_is))
      match_var h end' env' r sk ih (node tag n j us then ps) end rest rest' bindings hp hv sp sv ep ev l b = absurd (omega arith)
      match_var h end' env' r sk ih (node tag n j us then ps) (u then vs) rest rest' bindings hp hv sp sv ep ev l b =
          let o = node_at p pa m _ tag n j us ps rest hp.0.0 sp ep refl in
          let tv : tag ≡ tag_variable = sym o.tag_is ∙ sym eg ∙ var in
          let kj : k ≡ j = ek ∙ o.k_is in
          let none_below = no_children tag n j us hp.0 (omega (arith, tv)) in
          let on : drop (pa + 1) p ≡ words_of ps ++ rest = o.on ∙ ap (λ (x : Terms). words_of (x and_all ps) ++ rest) none_below in
          let a : drop va v ≡ words u ++ (words_of vs ++ rest') = ev ∙ append_assoc (words u) (words_of vs) rest' in
          let d = one_skip v va end' u (words_of vs ++ rest') sk (plain_whole u hv.0) a in
          let on' : drop end' v ≡ words_of vs ++ rest' = ap (λ (i : ℕ). drop i v) d ∙ past_term v va u (words_of vs ++ rest') a in
          let bm = bound_more v env bindings k va u b h (record { plain = hv.0; rest = words_of vs ++ rest'; here = a }) in
          let mm = ih ps vs rest rest' (with k u bindings) hp.1 hv.1 (omega arith) (omega arith) on on' (length-set env k (va + 1) ∙ l) bm in
          matched_is v env' _ _ r (match_then (node tag n j us) ps u vs bindings ∙ ap (λ (x : Option Bindings). onward x ps vs) (match_variable tag n j us u bindings tv ∙ ap (λ (i : ℕ). some (with i u bindings)) (sym kj))) mm

    -- a head that is no variable
    module _ (no-var : ¬ (g ≡ tag_variable)) where
      pub match_differ : ¬ (get_or p pa 0 ≡ get_or v va 0) → Matches p pa v va m env env false
      unfolding Matches Matched count PlainAll Plain
      match_differ d end vs rest rest' bindings hp hv sp sv ep ev l b = absurd (omega arith)
      match_differ d (t then ps) end rest rest' bindings hp hv sp sv ep ev l b = absurd (omega arith)
      match_differ d (int x then ps) (int y then vs) rest rest' bindings hp hv sp sv ep ev l b = absurd (d ((integer_at p pa x ps rest ep).head ∙ sym (integer_at v va y vs rest' ev).head))
      match_differ d (int x then ps) (node tag n k us then vs) rest rest' bindings hp hv sp sv ep ev l b = match_then (int x) ps (node tag n k us) vs bindings ∙ other_kind x tag n k us ps vs bindings
      match_differ d (node tag n k us then ps) (int y then vs) rest rest' bindings hp hv sp sv ep ev l b =
          let o = node_at p pa m _ tag n k us ps rest hp.0.0 sp ep refl in
          match_then (node tag n k us) ps (int y) vs bindings ∙ ap (λ (x : Option Bindings). onward x ps vs) (match_node tag n k us (int y) bindings (λ z. no-var (eg ∙ o.tag_is ∙ z)) ∙ no_node tag n k us y bindings)
      match_differ d (node tag n k us then ps) (node tag' n' k' us' then vs) rest rest' bindings hp hv sp sv ep ev l b =
          let o = node_at p pa m _ tag n k us ps rest hp.0.0 sp ep refl in
          let o' = node_at v va m _ tag' n' k' us' vs rest' hv.0.0 sv ev refl in
          match_then (node tag n k us) ps (node tag' n' k' us') vs bindings
          ∙ ap (λ (x : Option Bindings). onward x ps vs) (match_node tag n k us (node tag' n' k' us') bindings (λ z. no-var (eg ∙ o.tag_is ∙ z))
          ∙ ap (λ (x : Option Terms). below x us bindings) (children_other tag n k tag' n' k' us' (λ z. d (o.head ∙ z ∙ sym o'.head))))

      module _ (same : get_or p pa 0 ≡ get_or v va 0) where
        module _ (i : ℕ) (ei : i ≡ tag_of (get_or p pa 0)) (is-integer : i ≡ tag_integer) where
          int_tag : g ≡ tag_integer
          int_tag = eg ∙ sym ei ∙ is-integer

          pub match_cut : (r : Bool) → length p - pa < 2 → Matches p pa v va m env env r
          unfolding Matches count PlainAll Plain
          match_cut r short end vs rest rest' bindings hp hv sp sv ep ev l b = absurd (omega arith)
          match_cut r short (int x then ps) vs rest rest' bindings hp hv sp sv ep ev l b = absurd (omega (arith, (integer_at p pa x ps rest ep).within))
          match_cut r short (node tag n k us then ps) vs rest rest' bindings hp hv sp sv ep ev l b = absurd (not_integer_at p pa tag n k us ps rest g hp.0.0 ep eg int_tag)

          pub match_cut_value : (r : Bool) → length v - va < 2 → Matches p pa v va m env env r
          unfolding Matches count PlainAll Plain
          match_cut_value r short ps end rest rest' bindings hp hv sp sv ep ev l b = absurd (omega arith)
          match_cut_value r short ps (int x then vs) rest rest' bindings hp hv sp sv ep ev l b = absurd (omega (arith, (integer_at v va x vs rest' ev).within))
          match_cut_value r short ps (node tag n k us then vs) rest rest' bindings hp hv sp sv ep ev l b = absurd (not_integer_at v va tag n k us vs rest' g hv.0.0 ev (eg ∙ ap tag_of same) int_tag)

          pub match_integers_differ : ¬ (get_or p (pa + 1) 0 ≡ get_or v (va + 1) 0) → Matches p pa v va m env env false
          unfolding Matches Matched count PlainAll Plain
          match_integers_differ d end vs rest rest' bindings hp hv sp sv ep ev l b = absurd (omega arith)
          match_integers_differ d (node tag n k us then ps) vs rest rest' bindings hp hv sp sv ep ev l b = absurd (not_integer_at p pa tag n k us ps rest g hp.0.0 ep eg int_tag)
          match_integers_differ d (int x then ps) end rest rest' bindings hp hv sp sv ep ev l b = absurd (omega arith)
          match_integers_differ d (int x then ps) (node tag n k us then vs) rest rest' bindings hp hv sp sv ep ev l b =
              absurd (not_integer_at v va tag n k us vs rest' g hv.0.0 ev (eg ∙ ap tag_of same) int_tag)
          match_integers_differ d (int x then ps) (int y then vs) rest rest' bindings hp hv sp sv ep ev l b =
              let q = integer_at p pa x ps rest ep in
              let q' = integer_at v va y vs rest' ev in
              match_then (int x) ps (int y) vs bindings ∙ ap (λ (z : Option Bindings). onward z ps vs) (integers_differ x y bindings (λ z. d (q.payload ∙ z ∙ sym q'.payload)))

          pub match_integers : get_or p (pa + 1) 0 ≡ get_or v (va + 1) 0 → (env' : List ℕ) (r : Bool) → Matches p (pa + 2) v (va + 2) (m - 1) env env' r → Matches p pa v va m env env' r
          unfolding Matches count PlainAll Plain
          match_integers d env' r ih end vs rest rest' bindings hp hv sp sv ep ev l b = absurd (omega arith)
          match_integers d env' r ih (node tag n k us then ps) vs rest rest' bindings hp hv sp sv ep ev l b = absurd (not_integer_at p pa tag n k us ps rest g hp.0.0 ep eg int_tag)
          match_integers d env' r ih (int x then ps) end rest rest' bindings hp hv sp sv ep ev l b = absurd (omega arith)
          match_integers d env' r ih (int x then ps) (node tag n k us then vs) rest rest' bindings hp hv sp sv ep ev l b =
              absurd (not_integer_at v va tag n k us vs rest' g hv.0.0 ev (eg ∙ ap tag_of same) int_tag)
          match_integers d env' r ih (int x then ps) (int y then vs) rest rest' bindings hp hv sp sv ep ev l b =
              let q = integer_at p pa x ps rest ep in
              let q' = integer_at v va y vs rest' ev in
              matched_is v env' _ _ r (match_then (int x) ps (int y) vs bindings ∙ ap (λ (z : Option Bindings). onward z ps vs) (integers_same x y bindings (sym q.payload ∙ d ∙ q'.payload)))
              (ih ps vs rest rest' bindings hp.1 hv.1 (omega arith) (omega arith) q.on q'.on l b)

        pub match_nodes : (i : ℕ) → i ≡ tag_of (get_or p pa 0) → ¬ (i ≡ tag_integer) → (c : ℕ) (env' : List ℕ) (r : Bool) → c ≡ arity (tag_of (get_or p pa 0)) (n_of (get_or p pa 0)) → Matches p (pa + 1) v (va + 1) (m - 1 + c) env env' r
            → Matches p pa v va m env env' r
        unfolding Matches PlainAll Plain
        match_nodes i ei no_integer c env' r ec ih end vs rest rest' bindings hp hv sp sv ep ev l b = absurd (nz (sym sp ∙ no_count))
        match_nodes i ei no_integer c env' r ec ih (int x then ps) vs rest rest' bindings hp hv sp sv ep ev l b = absurd (no_integer (ei ∙ (integer_at p pa x ps rest ep).tag_is))
        match_nodes i ei no_integer c env' r ec ih (node tag n k us then ps) end rest rest' bindings hp hv sp sv ep ev l b = absurd (nz (sym sv ∙ no_count))
        match_nodes i ei no_integer c env' r ec ih (node tag n k us then ps) (int y then vs) rest rest' bindings hp hv sp sv ep ev l b = absurd (no_integer (ei ∙ ap tag_of same ∙ (integer_at v va y vs rest' ev).tag_is))
        match_nodes i ei no_integer c env' r ec ih (node tag n k us then ps) (node tag' n' k' us' then vs) rest rest' bindings hp hv sp sv ep ev l b =
            let o = node_at p pa m c tag n k us ps rest hp.0.0 sp ep ec in
            let o' = node_at v va m c tag' n' k' us' vs rest' hv.0.0 sv ev (ec ∙ ap (λ (w : ℕ). arity (tag_of w) (n_of w)) same) in
            let et = sym o.tag_is ∙ ap tag_of same ∙ o'.tag_is in
            let en = sym o.n_is ∙ ap n_of same ∙ o'.n_is in
            let ek = sym o.k_is ∙ ap k_of same ∙ o'.k_is in
            let z : count us ≡ count us' = hp.0.0.all_children ∙ ap₂ arity et en ∙ sym hv.0.0.all_children in
            let mm = ih (us and_all ps) (us' and_all vs) rest rest' bindings (plain_all us ps hp.0.2 hp.1) (plain_all us' vs hv.0.2 hv.1) o.count_is o'.count_is o.on o'.on l b in
            matched_is v env' _ _ r (match_then (node tag n k us) ps (node tag' n' k' us') vs bindings
            ∙ ap (λ (x : Option Bindings). onward x ps vs) (match_node tag n k us (node tag' n' k' us') bindings (λ z. no-var (eg ∙ o.tag_is ∙ z)) ∙ ap (λ (x : Option Terms). below x us bindings) (children_same tag n k tag' n' k' us' et en ek))
            ∙ sym (match_all_lem us ps us' vs bindings z)) mm
