-- Laws of equal terms in rows: the turns of `same`.
use Prim.Native.Nat.{ℕ, ◌+◌, ◌*◌, ◌-◌, ◌<◌, ◌≤◌}
use mathlib.Core.Path.{◌≡◌, refl, sym, ap, ap₂, ◌∙◌}
use mathlib.Core.Bool.{Bool, true, false, ◌&&◌}
use mathlib.Core.List.{List}
use native.Mathlib.Omega.{arith}
use native.Mathlib.Decide.{ℕ_discrete}
use lib.Dec.{eqb}
use lib.ListN.{length, get_or}
use Rattle.lists.proofs.Tests.{eqb_of, eqb_apart, true_not_false}
use Rattle.term.specs.Words.{word, tag_of, n_of, k_of, tag_integer}
use Rattle.term.specs.Table.{arity}
use Rattle.term.specs.Tree.{Terms, int, node, end, ◌then◌, count, Whole, WholeAll}
use Rattle.term.proofs.TreeLaws.{◌and_all◌, whole_all}
use Rattle.machine.specs.Value.{same_term, same_terms}
use Rattle.rows.specs.Kinds.{ChildCount}
use Rattle.row_laws.specs.Bounds.{most_children, pending_limit}
use Rattle.operands.specs.Sames.{Sames}
use Rattle.row_laws.proofs.RowTerms.{node_at, integer_at, not_integer_at, no_count, some_words}

and_and : (a b c : Bool) → ((a && b) && c) ≡ (a && (b && c))
and_and true b c = refl
and_and false b c = refl

same_all : (us ts us' ts' : Terms) → count us ≡ count us' → same_terms (us and_all ts) (us' and_all ts') ≡ (same_terms us us' && same_terms ts ts')
unfolding same_terms ◌and_all◌ count
same_all end ts end ts' s = refl
same_all end ts (u then us') ts' s = absurd (omega arith)
same_all (u then us) ts end ts' s = absurd (omega arith)
same_all (u then us) ts (u' then us') ts' s = rw (same_all us ts us' ts' (omega arith)) (sym (and_and (same_term u u') (same_terms us us') (same_terms ts ts')))

-- two heads: the same word, or another
pub same_heads : (tag n k : ℕ) (us : Terms) (tag' n' k' : ℕ) (us' : Terms) → tag ≡ tag' → n ≡ n' → k ≡ k' → same_term (node tag n k us) (node tag' n' k' us') ≡ same_terms us us'
unfolding same_term
same_heads tag n k us tag' n' k' us' a b d = rw (eqb_of tag tag' a, eqb_of n n' b, eqb_of k k' d)

pub other_heads : (tag n k : ℕ) (us : Terms) (tag' n' k' : ℕ) (us' : Terms) → ¬ (word tag n k ≡ word tag' n' k') → same_term (node tag n k us) (node tag' n' k' us') ≡ false
unfolding same_term
other_heads tag n k us tag' n' k' us' d = go (ℕ_discrete tag tag') (ℕ_discrete n n') (ℕ_discrete k k')
  where
    third : (a b c d : Bool) → c ≡ false → (a && b && c && d) ≡ false
    third true true true d e = true_not_false refl e
    third true true false d e = refl
    third true false c d e = refl
    third false b c d e = refl

    second : (a b c d : Bool) → b ≡ false → (a && b && c && d) ≡ false
    second true true c d e = true_not_false refl e
    second true false c d e = refl
    second false b c d e = refl

    go : Dec (tag ≡ tag') → Dec (n ≡ n') → Dec (k ≡ k') → (eqb tag tag' && eqb n n' && eqb k k' && same_terms us us') ≡ false
    go (no a) y z = rw (eqb_apart tag tag' a)
    go (yes a) (no b) z = second (eqb tag tag') (eqb n n') (eqb k k') (same_terms us us') (eqb_apart n n' b)
    go (yes a) (yes b) (no e) = third (eqb tag tag') (eqb n n') (eqb k k') (same_terms us us') (eqb_apart k k' e)
    go (yes a) (yes b) (yes e) = absurd (d (λ i. word (a i) (b i) (e i)))

pub same_none : (a : List ℕ) (i : ℕ) (b : List ℕ) (j p : ℕ) → p ≡ 0 → Sames a i b j p true
unfolding Sames count same_terms
same_none a i b j p z end end rest rest' h h' s s' e e' = refl
same_none a i b j p z end (u then us) rest rest' h h' s s' e e' = absurd (omega arith)
same_none a i b j p z (t then ts) us rest rest' h h' s s' e e' = absurd (omega arith)

module _ (a : List ℕ) (i : ℕ) (b : List ℕ) (j p : ℕ) (nz : ¬ (p ≡ 0)) where
  pub same_past : (r : Bool) → length a ≤ i → Sames a i b j p r
  unfolding Sames
  same_past r past ts us rest rest' h h' s s' e e' = absurd (omega (arith, some_words a i p ts rest nz (omega arith) e))

  pub same_past_other : (r : Bool) → length b ≤ j → Sames a i b j p r
  unfolding Sames
  same_past_other r past ts us rest rest' h h' s s' e e' = absurd (omega (arith, some_words b j p us rest' nz (omega arith) e'))

  pub same_differ : ¬ (get_or a i 0 ≡ get_or b j 0) → Sames a i b j p false
  unfolding Sames count Whole WholeAll same_terms same_term
  same_differ d end us rest rest' h h' s s' e e' = absurd (omega arith)
  same_differ d (t then ts) end rest rest' h h' s s' e e' = absurd (omega arith)
  same_differ d (int x then ts) (int y then us) rest rest' h h' s s' e e' = absurd (d ((integer_at a i x ts rest e).head ∙ sym (integer_at b j y us rest' e').head))
  same_differ d (int x then ts) (node tag n k vs then us) rest rest' h h' s s' e e' = refl
  same_differ d (node tag n k vs then ts) (int y then us) rest rest' h h' s s' e e' = refl
  same_differ d (node tag n k vs then ts) (node tag' n' k' vs' then us) rest rest' h h' s s' e e' =
      let o = node_at a i p _ tag n k vs ts rest h.0.0 s e refl in
      let o' = node_at b j p _ tag' n' k' vs' us rest' h'.0.0 s' e' refl in
      sym (ap (λ (q : Bool). q && same_terms ts us) (other_heads tag n k vs tag' n' k' vs' (λ z. d (o.head ∙ z ∙ sym o'.head))))

  module _ (same : get_or a i 0 ≡ get_or b j 0) (g : ℕ) (eg : g ≡ tag_of (get_or a i 0)) where
    module _ (Int-tag : g ≡ tag_integer) where
      pub same_cut : (r : Bool) → length a - i < 2 → Sames a i b j p r
      unfolding Sames count Whole WholeAll
      same_cut r short end us rest rest' h h' s s' e e' = absurd (omega arith)
      same_cut r short (int x then ts) us rest rest' h h' s s' e e' = absurd (omega (arith, (integer_at a i x ts rest e).within))
      same_cut r short (node tag n k vs then ts) us rest rest' h h' s s' e e' = absurd (not_integer_at a i tag n k vs ts rest g h.0.0 e eg Int-tag)

      pub same_cut_other : (r : Bool) → length b - j < 2 → Sames a i b j p r
      unfolding Sames count Whole WholeAll
      same_cut_other r short ts end rest rest' h h' s s' e e' = absurd (omega arith)
      same_cut_other r short ts (int y then us) rest rest' h h' s s' e e' = absurd (omega (arith, (integer_at b j y us rest' e').within))
      same_cut_other r short ts (node tag n k vs then us) rest rest' h h' s s' e e' = absurd (not_integer_at b j tag n k vs us rest' g h'.0.0 e' (eg ∙ ap tag_of same) Int-tag)

      pub same_integers_differ : ¬ (get_or a (i + 1) 0 ≡ get_or b (j + 1) 0) → Sames a i b j p false
      unfolding Sames count Whole WholeAll same_terms same_term
      same_integers_differ d end us rest rest' h h' s s' e e' = absurd (omega arith)
      same_integers_differ d (node tag n k vs then ts) us rest rest' h h' s s' e e' = absurd (not_integer_at a i tag n k vs ts rest g h.0.0 e eg Int-tag)
      same_integers_differ d (int x then ts) end rest rest' h h' s s' e e' = absurd (omega arith)
      same_integers_differ d (int x then ts) (node tag n k vs then us) rest rest' h h' s s' e e' = absurd (not_integer_at b j tag n k vs us rest' g h'.0.0 e' (eg ∙ ap tag_of same) Int-tag)
      same_integers_differ d (int x then ts) (int y then us) rest rest' h h' s s' e e' =
          rw (eqb_apart x y (λ z. d ((integer_at a i x ts rest e).payload ∙ z ∙ sym (integer_at b j y us rest' e').payload)))

      pub same_integers : get_or a (i + 1) 0 ≡ get_or b (j + 1) 0 → (r : Bool) → Sames a (i + 2) b (j + 2) (p - 1) r → Sames a i b j p r
      unfolding Sames count Whole WholeAll same_terms same_term
      same_integers d r ih end us rest rest' h h' s s' e e' = absurd (omega arith)
      same_integers d r ih (node tag n k vs then ts) us rest rest' h h' s s' e e' = absurd (not_integer_at a i tag n k vs ts rest g h.0.0 e eg Int-tag)
      same_integers d r ih (int x then ts) end rest rest' h h' s s' e e' = absurd (omega arith)
      same_integers d r ih (int x then ts) (node tag n k vs then us) rest rest' h h' s s' e e' = absurd (not_integer_at b j tag n k vs us rest' g h'.0.0 e' (eg ∙ ap tag_of same) Int-tag)
      same_integers d r ih (int x then ts) (int y then us) rest rest' h h' s s' e e' =
          let q = integer_at a i x ts rest e in
          let q' = integer_at b j y us rest' e' in
          ih ts us rest rest' h.1 h'.1 (omega arith) (omega arith) q.on q'.on ∙ rw (eqb_of x y (sym q.payload ∙ d ∙ q'.payload))

    pub same_nodes : ¬ (g ≡ tag_integer) → (c : ℕ) (r : Bool) → c ≡ arity (tag_of (get_or a i 0)) (n_of (get_or a i 0)) → Sames a (i + 1) b (j + 1) (p - 1 + c) r → Sames a i b j p r
    unfolding Sames Whole WholeAll same_terms
    same_nodes d c r ec ih end us rest rest' h h' s s' e e' = absurd (nz (sym s ∙ no_count))
    same_nodes d c r ec ih (int x then ts) us rest rest' h h' s s' e e' = absurd (d (eg ∙ (integer_at a i x ts rest e).tag_is))
    same_nodes d c r ec ih (node tag n k vs then ts) end rest rest' h h' s s' e e' = absurd (nz (sym s' ∙ no_count))
    same_nodes d c r ec ih (node tag n k vs then ts) (int y then us) rest rest' h h' s s' e e' = absurd (d (eg ∙ ap tag_of same ∙ (integer_at b j y us rest' e').tag_is))
    same_nodes d c r ec ih (node tag n k vs then ts) (node tag' n' k' vs' then us) rest rest' h h' s s' e e' =
        let o = node_at a i p c tag n k vs ts rest h.0.0 s e ec in
        let o' = node_at b j p c tag' n' k' vs' us rest' h'.0.0 s' e' (ec ∙ ap (λ (w : ℕ). arity (tag_of w) (n_of w)) same) in
        let et = sym o.tag_is ∙ ap tag_of same ∙ o'.tag_is in
        let en = sym o.n_is ∙ ap n_of same ∙ o'.n_is in
        let ek = sym o.k_is ∙ ap k_of same ∙ o'.k_is in
        let z : count vs ≡ count vs' = h.0.0.all_children ∙ ap₂ arity et en ∙ sym h'.0.0.all_children in
        ih (vs and_all ts) (vs' and_all us) rest rest' (whole_all vs ts h.0.1 h.1) (whole_all vs' us h'.0.1 h'.1) o.count_is o'.count_is o.on o'.on
        ∙ same_all vs ts vs' us z ∙ ap (λ (q : Bool). q && same_terms ts us) (sym (same_heads tag n k vs tag' n' k' vs' et en ek))

-- ---- the turns: whether the terms left are the same is whether all are
pub record Goes (a : List ℕ) (i : ℕ) (b : List ℕ) (j p x y left : ℕ) : Type 0 where
  pub goes : (r : Bool) → Sames a x b y left r → Sames a i b j p r
  pub within : x ≤ length a
  pub few : left + most_children * (length a - x) < pending_limit

pub goes_start : (a : List ℕ) (i : ℕ) (b : List ℕ) (j p : ℕ) → (i ≤ length a) × (p + most_children * (length a - i) < pending_limit) → Goes a i b j p i j p
goes_start a i b j p h = record { goes = λ r s. s; within = h.0; few = h.1 }

module _ (a : List ℕ) (i : ℕ) (b : List ℕ) (j p x y left : ℕ) (inv : Goes a i b j p x y left) where
  pub goes_none : left ≤ 0 → Sames a i b j p true
  goes_none z = inv.goes true (same_none a x b y left (omega arith))

  module _ (more : 0 < left) where
    some : ¬ (left ≡ 0)
    some z = omega arith

    pub goes_past : length a ≤ x → Sames a i b j p false
    goes_past h = inv.goes false (same_past a x b y left some false h)

    pub goes_past_other : length b ≤ y → Sames a i b j p false
    goes_past_other h = inv.goes false (same_past_other a x b y left some false h)

    pub goes_differ : ¬ (get_or a x 0 ≡ get_or b y 0) → Sames a i b j p false
    goes_differ d = inv.goes false (same_differ a x b y left some d)

    module _ (same : get_or a x 0 ≡ get_or b y 0) (g : ℕ) (eg : g ≡ tag_of (get_or a x 0)) where
      module _ (e : g ≡ tag_integer) where
        pub goes_cut : length a - x < 2 → Sames a i b j p false
        goes_cut h = inv.goes false (same_cut a x b y left some same g eg e false h)

        pub goes_cut_other : length b - y < 2 → Sames a i b j p false
        goes_cut_other h = inv.goes false (same_cut_other a x b y left some same g eg e false h)

        pub goes_integers_differ : ¬ (get_or a (x + 1) 0 ≡ get_or b (y + 1) 0) → Sames a i b j p false
        goes_integers_differ d = inv.goes false (same_integers_differ a x b y left some same g eg e d)

        pub goes_integers : 2 ≤ length a - x → get_or a (x + 1) 0 ≡ get_or b (y + 1) 0 → Goes a i b j p (x + 2) (y + 2) (left - 1)
        goes_integers two d =
            record { goes = λ r s. inv.goes r (same_integers a x b y left some same g eg e d r s); within = omega arith; few = omega (arith, inv.few) }

      pub goes_nodes : x < length a → ¬ (g ≡ tag_integer) → (c : ℕ) → ChildCount (get_or a x 0) c → Goes a i b j p (x + 1) (y + 1) (left - 1 + c)
      goes_nodes lt e c hc =
          record {
            goes = λ r s. inv.goes r (same_nodes a x b y left some same g eg e c r hc.is s);
            within = omega arith;
            few = omega (arith, inv.few, hc.few);
          }
