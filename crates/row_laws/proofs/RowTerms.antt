-- Laws of rows and of the terms that stand in them: one step of a walk over a row.
use Prim.Native.Nat.{ℕ, zero, suc, ◌+◌, ◌-◌, ◌<◌, ◌≤◌, suc-le-suc}
use mathlib.Core.Path.{◌≡◌, refl, sym, ap, ap₂, ◌∙◌}
use mathlib.Core.Bool.{Bool, true, false, ◌&&◌, ◌||◌}
use mathlib.Core.Logic.{inl, inr}
use mathlib.Core.List.{List, [], ◌∷◌, ◌++◌}
use native.Mathlib.Omega.{arith}
use native.Mathlib.Nat.{add-zero}
use native.Mathlib.Numerals.{add-one}
use lib.Dec.{eqb}
use lib.ListN.{length, drop, get_or, length-drop}
use lib.Seq.{drop-drop, drop-append_seam}
use Rattle.lists.proofs.Tests.{eqb-true, and_left, and_right, or_true}
use Rattle.term.specs.Words.{word, tag_of, n_of, k_of, integer_word, tag_integer, tag_cons, tag_case, tag_function}
use Rattle.term.specs.Table.{Children, alike, body, of_clause, of_case, of_receive, Row, no_row, table, row_of, child_count, arity}
use Rattle.term.specs.Tree.{Term, Terms, int, node, end, ◌then◌, words, words_of, count, Head, Whole, WholeAll}
use Rattle.term.specs.Rows.{passed}
use Rattle.term.proofs.RowLaws.{passed_none, passed_term, passed_within}
use Rattle.term.proofs.WordLaws.{tag_word, n_word, k_word}
use Rattle.term.proofs.TreeLaws.{◌and_all◌, words_one, words_all, count_all}
use Rattle.row_laws.specs.Rows.{Plain, PlainAll, Stands}

-- ---- the number of children, as the code tests it
-- only the tags of case and function have another number of children than n
abbrev as_many : Children → Bool
as_many alike = true
as_many body = false
as_many of_clause = true
as_many of_case = false
as_many of_receive = true

unfoldable mostly : List Row → ℕ → Bool
mostly [] i = true
mostly (row ∷ rows) i = (as_many row.children || (eqb i tag_case || eqb i tag_function)) && mostly rows (suc i)

as_many_lem : (c : Children) (n : ℕ) → as_many c ≡ true → child_count c n ≡ n
unfolding child_count
as_many_lem alike n e = refl
as_many_lem body n e = let z : ◌≡◌ {A = ℕ} 0 1 = cc in absurd (omega arith)
as_many_lem of_clause n e = refl
as_many_lem of_case n e = let z : ◌≡◌ {A = ℕ} 0 1 = cc in absurd (omega arith)
as_many_lem of_receive n e = refl

in_rows : (rows : List Row) (i j n : ℕ) → mostly rows i ≡ true → ¬ (i + j ≡ tag_case) → ¬ (i + j ≡ tag_function) → child_count (get_or rows j no_row).children n ≡ n
unfolding mostly child_count
in_rows [] i j n e p q = refl
in_rows (row ∷ rows) i zero n e p q =
    let a = and_left (as_many row.children || (eqb i tag_case || eqb i tag_function)) (mostly rows (suc i)) e in
    elim (or_true (as_many row.children) (eqb i tag_case || eqb i tag_function) a) [
      | inl y ↦ as_many_lem row.children n y
      | inr y ↦ elim (or_true (eqb i tag_case) (eqb i tag_function) y) [
        | inl z ↦ absurd (p (add-zero i ∙ eqb-true i tag_case z))
        | inr z ↦ absurd (q (add-zero i ∙ eqb-true i tag_function z))
      ]
    ]
in_rows (row ∷ rows) i (suc j) n e p q =
    in_rows rows (suc i) j n (and_right (as_many row.children || (eqb i tag_case || eqb i tag_function)) (mostly rows (suc i)) e) (λ z. p (omega (arith, z))) (λ z. q (omega (arith, z)))

pub arity_case : (tag n : ℕ) → tag ≡ tag_case → n + 1 ≡ arity tag n
unfolding arity row_of table child_count
arity_case tag n e = rw e (add-one n)

pub arity_other : (tag n : ℕ) → ¬ (tag ≡ tag_function) → ¬ (tag ≡ tag_case) → n ≡ arity tag n
unfolding arity row_of table mostly
arity_other tag n d e = sym (in_rows table 0 tag n refl (λ z. e (omega (arith, z))) (λ z. d (omega (arith, z))))

-- ---- what stands at a place, where what is left from there is known
pub record At (l : List ℕ) (at w : ℕ) (tl : List ℕ) : Type 0 where
  pub head : get_or l at 0 ≡ w
  pub rest : drop (at + 1) l ≡ tl
  pub within : at < length l

pub at_place : (l : List ℕ) (at w : ℕ) (rest : List ℕ) → drop at l ≡ w ∷ rest → At l at w rest
at_place [] zero w rest e = let z : ◌≡◌ {A = ℕ} 0 1 = cc in absurd (omega arith)
at_place [] (suc at) w rest e = let z : ◌≡◌ {A = ℕ} 0 1 = cc in absurd (omega arith)
at_place (x ∷ l) zero w rest e = record { head = cc; rest = cc; within = omega arith }
at_place (x ∷ l) (suc at) w rest e =
    let r = at_place l at w rest e in
    record { head = r.head; rest = ap (λ (j : ℕ). drop j (x ∷ l)) (add-one (suc at)) ∙ ap (λ (j : ℕ). drop j l) (sym (add-one at)) ∙ r.rest; within = suc-le-suc r.within }

-- at the head of a node; its children stand before the terms after it
pub record NodeAt (l : List ℕ) (at m tag n k : ℕ) (us ts : Terms) (rest : List ℕ) : Type 0 where
  pub tag_is : tag_of (get_or l at 0) ≡ tag
  pub n_is : n_of (get_or l at 0) ≡ n
  pub k_is : k_of (get_or l at 0) ≡ k
  pub head : get_or l at 0 ≡ word tag n k
  pub within : at < length l
  pub count_is : count (us and_all ts) ≡ m
  pub on : drop (at + 1) l ≡ words_of (us and_all ts) ++ rest

pub node_at : (l : List ℕ) (at p c tag n k : ℕ) (us ts : Terms) (rest : List ℕ) → Head tag n k (count us) → count (node tag n k us then ts) ≡ p
    → drop at l ≡ words_of (node tag n k us then ts) ++ rest → c ≡ arity (tag_of (get_or l at 0)) (n_of (get_or l at 0)) → NodeAt l at (p - 1 + c) tag n k us ts rest
unfolding words_of words count
node_at l at p c tag n k us ts rest h s e ar =
    let q = at_place l at _ _ e in
    let g = ap tag_of q.head ∙ tag_word tag n k h.n_fits h.k_fits in
    let d = ap n_of q.head ∙ n_word tag n k h.n_fits h.k_fits in
    record {
      tag_is = g;
      n_is = d;
      k_is = ap k_of q.head ∙ k_word tag n k h.k_fits;
      head = q.head;
      within = q.within;
      count_is = omega (arith, count_all us ts, h.all_children, ar ∙ ap₂ arity g d);
      on = q.rest ∙ rw words_all;
    }

-- at an integer
pub record IntegerAt (l : List ℕ) (at x : ℕ) (ts : Terms) (rest : List ℕ) : Type 0 where
  pub tag_is : tag_of (get_or l at 0) ≡ tag_integer
  pub head : get_or l at 0 ≡ integer_word
  pub payload : get_or l (at + 1) 0 ≡ x
  pub within : at + 1 < length l
  pub on : drop (at + 2) l ≡ words_of ts ++ rest

pub integer_at : (l : List ℕ) (at x : ℕ) (ts : Terms) (rest : List ℕ) → drop at l ≡ words_of (int x then ts) ++ rest → IntegerAt l at x ts rest
unfolding words_of words
integer_at l at x ts rest e =
    let q = at_place l at _ _ e in
    let p = at_place l (at + 1) _ _ q.rest in
    let two : at + 2 ≡ at + 1 + 1 = omega arith in
    record { tag_is = ap tag_of q.head; head = q.head; payload = p.head; within = p.within; on = ap (λ (j : ℕ). drop j l) two ∙ p.rest }

-- a node's word is no integer's
pub not_integer_at : (l : List ℕ) (at tag n k : ℕ) (us ts : Terms) (rest : List ℕ) (g : ℕ) → Head tag n k (count us) → drop at l ≡ words_of (node tag n k us then ts) ++ rest
    → g ≡ tag_of (get_or l at 0) → g ≡ tag_integer → ⊥
not_integer_at l at tag n k us ts rest g h e eg i = h.no_integer (sym (node_at l at _ _ tag n k us ts rest h refl e refl).tag_is ∙ sym eg ∙ i)

-- plain terms are whole
mutual
  unfolding Plain PlainAll Whole WholeAll

  pub plain_whole : (t : Term) → Plain t → Whole t
  plain_whole (int x) h = h
  plain_whole (node tag n k ts) h = (h.0, plain_all_whole ts h.2)

  pub plain_all_whole : (ts : Terms) → PlainAll ts → WholeAll ts
  plain_all_whole end h = tt
  plain_all_whole (t then ts) h = (plain_whole t h.0, plain_all_whole ts h.1)

pub no_count : count end ≡ 0
unfolding count
no_count = refl

-- terms need words
pub some_words : (l : List ℕ) (at p : ℕ) (ts : Terms) (rest : List ℕ) → ¬ (p ≡ 0) → p ≤ count ts → drop at l ≡ words_of ts ++ rest → at < length l
unfolding count words_of words
some_words l at p end rest nz s e = absurd (omega arith)
some_words l at p (int x then ts) rest nz s e = (at_place l at _ _ e).within
some_words l at p (node tag n k us then ts) rest nz s e = (at_place l at _ _ e).within

-- past a term
pub past_term : (l : List ℕ) (at : ℕ) (t : Term) (rest : List ℕ) → drop at l ≡ words t ++ rest → drop (at + length (words t)) l ≡ rest
past_term l at t rest e = sym (drop-drop (length (words t)) at l) ∙ ap (drop (length (words t))) e ∙ drop-append_seam (words t) rest

-- where one term ends, as `skip` says it
pub one_skip : (l : List ℕ) (at r : ℕ) (t : Term) (rest : List ℕ) → r ≡ at + passed (drop at l) 1 → Whole t → drop at l ≡ words t ++ rest → r ≡ at + length (words t)
one_skip l at r t rest s h e =
    s ∙ ap (λ (i : ℕ). at + i) (ap (λ (m : List ℕ). passed m 1) e ∙ passed_term t rest 0 h ∙ ap (λ (i : ℕ). length (words t) + i) (passed_none rest) ∙ add-zero (length (words t)))

-- and in any row it is not past the end
pub skip_within : (l : List ℕ) (at m r : ℕ) → r ≡ at + passed (drop at l) m → at ≤ length l → r ≤ length l
skip_within l at m r s h = omega (arith, passed_within (drop at l) m, length-drop at l)

-- ---- one term that stands in a row
pub stands_within : (l : List ℕ) (at : ℕ) (t : Term) → Stands l at t → at < length l
unfolding words
stands_within l at t s = go t s.here
  where
    go : (t : Term) → drop at l ≡ words t ++ s.rest → at < length l
    go (int x) e = (at_place l at _ _ e).within
    go (node tag n k ts) e = (at_place l at _ _ e).within

pub as_row : (l : List ℕ) (at : ℕ) (t : Term) (rest : List ℕ) → drop at l ≡ words t ++ rest → drop at l ≡ words_of (t then end) ++ rest
as_row l at t rest e = e ∙ ap (λ (ws : List ℕ). ws ++ rest) (sym (words_one t))

-- an atom, a pid, a nil and a variable have no children
pub no_children : (tag n k : ℕ) (us : Terms) → Plain (node tag n k us) → tag < tag_cons → us ≡ end
unfolding Plain count
no_children tag n k end h l = refl
no_children tag n k (u then us) h l = absurd (omega (arith, h.0.all_children, h.1.0 l, arity_other tag n (λ y. omega (arith, y)) (λ y. omega (arith, y))))

pub one_term : (t : Term) → count (t then end) ≡ 1
unfolding count
one_term t = refl

pub head_of : (tag n k : ℕ) (us : Terms) → Plain (node tag n k us) → Head tag n k (count us)
unfolding Plain
head_of tag n k us h = h.0
