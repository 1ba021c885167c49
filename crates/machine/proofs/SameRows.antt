-- Equal terms have equal rows, and no row is the front of another.
use Prim.Native.Nat.{ℕ}
use mathlib.Core.Path.{◌≡◌, refl, sym, ap, ap₂, ◌∙◌}
use mathlib.Core.Logic.{◌⊎◌, inl, inr}
use mathlib.Core.Bool.{true, false, ◌&&◌}
use mathlib.Core.List.{List, [], ◌∷◌, ◌++◌, append_assoc, append-nil}
use native.Mathlib.Omega.{arith}
use lib.Dec.{eqb}
use Rattle.lists.specs.Lists.{same_list}
use Rattle.lists.proofs.Lists.{same_list_lem, list_same}
use Rattle.lists.proofs.Tests.{true_not_false, true_or_false, eqb-true, eqb_same, and_left, and_right, and_of}
use Rattle.term.specs.Words.{tag_of, n_of, k_of}
use Rattle.term.specs.Table.{arity}
use Rattle.term.specs.Tree.{Term, Terms, int, node, end, ◌then◌, words, words_of, count, Whole, WholeAll}
use Rattle.term.proofs.WordLaws.{tag_word, n_word, k_word, not_integer}
use Rattle.machine.specs.Value.{same_term, same_terms}
use Rattle.machine.specs.SameRows.{SameRows}

-- `same_term` says that two terms are equal
mutual
  unfolding same_term same_terms

  same_term_lem : (t u : Term) → same_term t u ≡ true → t ≡ u
  same_term_lem (int x) (int y) e = ap int (eqb-true x y e)
  same_term_lem (int x) (node tag n k us) e = true_not_false e refl
  same_term_lem (node tag n k ts) (int y) e = true_not_false e refl
  same_term_lem (node tag n k ts) (node tag' n' k' us) e =
      let heads = and_left (eqb tag tag' && eqb n n' && eqb k k') (same_terms ts us) e in
      let first = and_left (eqb tag tag' && eqb n n') (eqb k k') heads in
      let p = eqb-true tag tag' (and_left (eqb tag tag') (eqb n n') first) in
      let q = eqb-true n n' (and_right (eqb tag tag') (eqb n n') first) in
      let r = eqb-true k k' (and_right (eqb tag tag' && eqb n n') (eqb k k') heads) in
      let s = same_terms_lem ts us (and_right (eqb tag tag' && eqb n n' && eqb k k') (same_terms ts us) e) in
      λ i. node (p i) (q i) (r i) (s i)

  same_terms_lem : (ts us : Terms) → same_terms ts us ≡ true → ts ≡ us
  same_terms_lem end end e = refl
  same_terms_lem end (u then us) e = true_not_false e refl
  same_terms_lem (t then ts) end e = true_not_false e refl
  same_terms_lem (t then ts) (u then us) e = ap₂ ◌then◌ (same_term_lem t u (and_left (same_term t u) (same_terms ts us) e)) (same_terms_lem ts us (and_right (same_term t u) (same_terms ts us) e))

mutual
  unfolding same_term same_terms

  term_same : (t : Term) → same_term t t ≡ true
  term_same (int x) = eqb_same x
  term_same (node tag n k ts) = and_of (and_of (and_of (eqb_same tag) (eqb_same n)) (eqb_same k)) (terms_same ts)

  terms_same : (ts : Terms) → same_terms ts ts ≡ true
  terms_same end = refl
  terms_same (t then ts) = and_of (term_same t) (terms_same ts)

heads : {x y : ℕ} {xs ys : List ℕ} → ◌≡◌ {A = List ℕ} (x ∷ xs) (y ∷ ys) → x ≡ y
heads e = cc

tails : {x y : ℕ} {xs ys : List ℕ} → ◌≡◌ {A = List ℕ} (x ∷ xs) (y ∷ ys) → xs ≡ ys
tails e = cc

-- rows that go on alike hold the same terms, and as much is left of both
mutual
  unfolding words words_of count Whole WholeAll

  front : (t u : Term) (l m : List ℕ) → Whole t → Whole u → words t ++ l ≡ words u ++ m → (t ≡ u) × (l ≡ m)
  front (int x) (int y) l m h g e = (ap int (heads (tails e)), tails (tails e))
  front (int x) (node tag n k us) l m h g e = absurd (not_integer tag n k g.0.n_fits g.0.k_fits g.0.no_integer (sym (heads e)))
  front (node tag n k ts) (int y) l m h g e = absurd (not_integer tag n k h.0.n_fits h.0.k_fits h.0.no_integer (heads e))
  front (node tag n k ts) (node tag' n' k' us) l m h g e =
      let w = heads e in
      let p : tag ≡ tag' = sym (tag_word tag n k h.0.n_fits h.0.k_fits) ∙ ap tag_of w ∙ tag_word tag' n' k' g.0.n_fits g.0.k_fits in
      let q : n ≡ n' = sym (n_word tag n k h.0.n_fits h.0.k_fits) ∙ ap n_of w ∙ n_word tag' n' k' g.0.n_fits g.0.k_fits in
      let r : k ≡ k' = sym (k_word tag n k h.0.k_fits) ∙ ap k_of w ∙ k_word tag' n' k' g.0.k_fits in
      let s = fronts ts us l m h.1 g.1 (h.0.all_children ∙ ap₂ arity p q ∙ sym g.0.all_children) (tails e) in
      (λ i. node (p i) (q i) (r i) (s.0 i), s.1)

  fronts : (ts us : Terms) (l m : List ℕ) → WholeAll ts → WholeAll us → count ts ≡ count us → words_of ts ++ l ≡ words_of us ++ m → (ts ≡ us) × (l ≡ m)
  fronts end end l m h g c e = (refl, e)
  fronts end (u then us) l m h g c e = absurd (omega arith)
  fronts (t then ts) end l m h g c e = absurd (omega arith)
  fronts (t then ts) (u then us) l m h g c e =
      let a = front t u (words_of ts ++ l) (words_of us ++ m) h.0 g.0 (sym (append_assoc (words t) (words_of ts) l) ∙ e ∙ append_assoc (words u) (words_of us) m) in
      let b = fronts ts us l m h.1 g.1 (omega arith) a.1 in
      (ap₂ ◌then◌ a.0 b.0, b.1)

rows_tell : (t u : Term) → Whole t → Whole u → same_term t u ≡ same_list (words t) (words u)
rows_tell t u h g = elim (true_or_false (same_term t u)) [
  | inl y ↦ y ∙ sym (ap (same_list (words t)) (ap words (sym (same_term_lem t u y))) ∙ list_same (words t))
  | inr z ↦ z ∙ sym (not_rows z (true_or_false (same_list (words t) (words u))))
]
  where
    equal : same_list (words t) (words u) ≡ true → t ≡ u
    equal q = (front t u [] [] h g (append-nil (words t) ∙ same_list_lem (words t) (words u) q ∙ sym (append-nil (words u)))).0

    not_rows : same_term t u ≡ false → (same_list (words t) (words u) ≡ true) ⊎ (same_list (words t) (words u) ≡ false) → same_list (words t) (words u) ≡ false
    not_rows z (inl q) = true_not_false (ap (same_term t) (sym (equal q)) ∙ term_same t) z
    not_rows z (inr q) = q

pub same_rows : SameRows
same_rows = record {
  rows_tell = rows_tell;
  ends_tell = λ t u l m h g e. let a = front t u l m h g e in (ap words a.0, a.1);
}
