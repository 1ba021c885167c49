-- Laws of terms in a row: what stands at a position, and how many words terms take.
use Prim.Native.Nat.{ℕ, zero, suc, ◌+◌, ◌≤◌, ◌<◌, suc-le-suc}
use mathlib.Core.Path.{◌≡◌, refl, sym, ap, ◌∙◌}
use mathlib.Core.List.{List, [], ◌∷◌, ◌++◌, append_assoc}
use native.Mathlib.Omega.{arith}
use native.Mathlib.Nat.{zero-add, suc-add}
use native.Mathlib.Numerals.{add-one}
use native.Mathlib.Decide.{ℕ_discrete}
use lib.ListN.{length, get_or, drop, length-append}
use lib.Seq.{drop-cons, drop-drop, drop-append_seam}
use Rattle.lists.proofs.Tests.{eqb_of, eqb_apart}
use Rattle.term.specs.Words.{word, tag_of, n_of, tag_integer}
use Rattle.term.specs.Table.{arity}
use Rattle.term.specs.Tree.{Term, Terms, int, node, end, ◌then◌, words, words_of, count, Whole, WholeAll}
use Rattle.term.specs.Rows.{passed, passed_payload}
use Rattle.term.proofs.WordLaws.{tag_word, n_word}

-- a row from a position on begins with the word that stands there
pub drop_head : (l : List ℕ) (at : ℕ) → at < length l → drop at l ≡ get_or l at 0 ∷ drop (at + 1) l
drop_head l at h = drop-cons l at 0 h ∙ ap (λ (j : ℕ). get_or l at 0 ∷ drop j l) (sym (add-one at))

-- what stands at a position, where what is left from there is known
pub record Here (l : List ℕ) (at w : ℕ) (after : List ℕ) : Type 0 where
  pub word_is : get_or l at 0 ≡ w
  pub after_is : drop (at + 1) l ≡ after
  pub within : at < length l

pub here : (l : List ℕ) (at w : ℕ) (after : List ℕ) → drop at l ≡ w ∷ after → Here l at w after
here [] zero w after e = let z : ◌≡◌ {A = ℕ} 0 1 = cc in absurd (omega arith)
here [] (suc at) w after e = let z : ◌≡◌ {A = ℕ} 0 1 = cc in absurd (omega arith)
here (x ∷ l) zero w after e = record { word_is = cc; after_is = cc; within = omega arith }
here (x ∷ l) (suc at) w after e =
    let r = here l at w after e in
    record {
      word_is = r.word_is;
      after_is = ap (λ (j : ℕ). drop j (x ∷ l)) (add-one (suc at)) ∙ ap (λ (j : ℕ). drop j l) (sym (add-one at)) ∙ r.after_is;
      within = suc-le-suc r.within;
    }

-- past what stands first
pub drop_past : (l : List ℕ) (at : ℕ) (first after : List ℕ) → drop at l ≡ first ++ after → drop (at + length first) l ≡ after
drop_past l at first after e = sym (drop-drop (length first) at l) ∙ ap (drop (length first)) e ∙ drop-append_seam first after

-- every term has a word
pub count_within : (ts : Terms) → count ts ≤ length (words_of ts)
unfolding count words_of words
count_within end = omega arith
count_within (int x then ts) = omega (arith, count_within ts)
count_within (node tag n k us then ts) = omega (arith, count_within ts, length-append (words_of us) (words_of ts))

pub passed_integer : (w : ℕ) (l : List ℕ) (owed : ℕ) → tag_of w ≡ tag_integer → passed (w ∷ l) (suc owed) ≡ suc (passed_payload l owed)
unfolding passed
passed_integer w l owed e = rw (eqb_of (tag_of w) tag_integer e, passed)

pub passed_node : (w : ℕ) (l : List ℕ) (owed : ℕ) → ¬ (tag_of w ≡ tag_integer) → passed (w ∷ l) (suc owed) ≡ suc (passed l (arity (tag_of w) (n_of w) + owed))
unfolding passed
passed_node w l owed d = rw (eqb_apart (tag_of w) tag_integer d, passed)

pub passed_none : (l : List ℕ) → passed l 0 ≡ 0
unfolding passed
passed_none [] = refl
passed_none (w ∷ l) = refl

within_word : (w : ℕ) (l : List ℕ) (owed : ℕ) → Dec (tag_of w ≡ tag_integer) → passed_payload l owed ≤ length l → passed l (arity (tag_of w) (n_of w) + owed) ≤ length l
    → passed (w ∷ l) (suc owed) ≤ suc (length l)
within_word w l owed (yes e) p q = omega (arith, passed_integer w l owed e)
within_word w l owed (no d) p q = omega (arith, passed_node w l owed d)

all_word : (w : ℕ) (l : List ℕ) (owed : ℕ) → Dec (tag_of w ≡ tag_integer) → passed_payload l owed ≡ length l → passed l (arity (tag_of w) (n_of w) + owed) ≡ length l
    → passed (w ∷ l) (suc owed) ≡ suc (length l)
all_word w l owed (yes e) p q = omega (arith, passed_integer w l owed e)
all_word w l owed (no d) p q = omega (arith, passed_node w l owed d)

-- no more words are passed than there are; all of them where as many terms are owed
mutual
  unfolding passed

  pub passed_within : (l : List ℕ) (owed : ℕ) → passed l owed ≤ length l
  passed_within [] owed = omega arith
  passed_within (w ∷ l) zero = omega arith
  passed_within (w ∷ l) (suc owed) = within_word w l owed (ℕ_discrete (tag_of w) tag_integer) (past_within l owed) (passed_within l (arity (tag_of w) (n_of w) + owed))

  past_within : (l : List ℕ) (owed : ℕ) → passed_payload l owed ≤ length l
  past_within [] owed = omega arith
  past_within (x ∷ l) owed = omega (arith, passed_within l owed)

mutual
  unfolding passed

  pub passed_all : (l : List ℕ) (owed : ℕ) → length l ≤ owed → passed l owed ≡ length l
  passed_all [] owed h = refl
  passed_all (w ∷ l) zero h = absurd (omega arith)
  passed_all (w ∷ l) (suc owed) h = all_word w l owed (ℕ_discrete (tag_of w) tag_integer) (past_all l owed (omega arith)) (passed_all l (arity (tag_of w) (n_of w) + owed) (omega arith))

  past_all : (l : List ℕ) (owed : ℕ) → length l ≤ owed → passed_payload l owed ≡ length l
  past_all [] owed h = refl
  past_all (x ∷ l) owed h = ap suc (passed_all l owed (omega arith))

-- whole terms take their words
mutual
  unfolding passed words words_of count Whole WholeAll

  pub passed_term : (t : Term) (l : List ℕ) (owed : ℕ) → Whole t → passed (words t ++ l) (suc owed) ≡ length (words t) + passed l owed
  passed_term (int x) l owed h = omega arith
  passed_term (node tag n k ts) l owed h =
      let w = word tag n k in
      let tg = tag_word tag n k h.0.n_fits h.0.k_fits in
      let a : arity (tag_of w) (n_of w) ≡ count ts = cc (tg, n_word tag n k h.0.n_fits h.0.k_fits, h.0.all_children) in
      passed_node w (words_of ts ++ l) owed (λ e. h.0.no_integer (sym tg ∙ e))
      ∙ ap suc (rw a (passed_terms ts l owed h.1))
      ∙ sym (suc-add (length (words_of ts)) (passed l owed))

  pub passed_terms : (ts : Terms) (l : List ℕ) (owed : ℕ) → WholeAll ts → passed (words_of ts ++ l) (count ts + owed) ≡ length (words_of ts) + passed l owed
  passed_terms end l owed h = rw (zero-add, zero-add)
  passed_terms (t then ts) l owed h =
      rw (append_assoc, suc-add) (
      passed_term t (words_of ts ++ l) (count ts + owed) h.0
      ∙ omega (arith, passed_terms ts l owed h.1, length-append (words t) (words_of ts)))
