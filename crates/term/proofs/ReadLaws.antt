-- Reading undoes writing: whole terms are read off their words, and what is read has the words that were read.
use Prim.Native.Nat.{ℕ, zero, suc, ◌+◌, ◌≤◌, pred}
use mathlib.Core.Path.{◌≡◌, refl, sym, ap, ◌∙◌}
use mathlib.Core.Option.{Option, none, some}
use mathlib.Core.List.{List, [], ◌∷◌, ◌++◌, append_assoc}
use native.Mathlib.Omega.{arith}
use native.Mathlib.Nat.{zero-add, suc-add}
use native.Mathlib.Decide.{ℕ_discrete}
use Rattle.lists.proofs.Tests.{eqb_apart}
use Rattle.term.specs.Words.{tag_integer, word, tag_of, n_of, integer_word}
use Rattle.term.specs.Table.{arity}
use Rattle.term.specs.Tree.{Term, Terms, int, node, end, ◌then◌, words, words_of, count, first, rest, Head, Whole, WholeAll}
use Rattle.term.specs.Read.{before, under, read, read_payload, terms_of, the_term, term_of}
use Rattle.term.proofs.WordLaws.{n_small, k_small, tag_word, n_word, k_word, word_parts, not_integer}
use Rattle.term.proofs.TreeLaws.{whole_first, whole_rest, ◌and_all◌, first_all, rest_all, words_one, words_split, count_first, first_and_rest, count_all}

-- all of some terms before those that were read
unfoldable pub all_before : Terms → Option Terms → Option Terms
all_before ts none = none
all_before ts (some us) = some (ts and_all us)

pub all_before_end : (o : Option Terms) → all_before end o ≡ o
unfolding all_before ◌and_all◌
all_before_end none = refl
all_before_end (some us) = refl

pub all_before_then : (t : Term) (ts : Terms) (o : Option Terms) → before t (all_before ts o) ≡ all_before (t then ts) o
unfolding all_before before ◌and_all◌
all_before_then t ts none = refl
all_before_then t ts (some us) = refl

-- the children that were read go under their word
pub under_all : (tag n k : ℕ) (ts : Terms) → Head tag n k (count ts) → (o : Option Terms) → under (word tag n k) (all_before ts o) ≡ before (node tag n k ts) o
unfolding under all_before before
under_all tag n k ts h none = refl
under_all tag n k ts h (some us) =
    cc (
      tag_word tag n k h.n_fits h.k_fits,
      n_word tag n k h.n_fits h.k_fits,
      k_word tag n k h.k_fits,
      h.all_children,
      first_all ts us,
      rest_all ts us,
    )

-- what is read at a word that is no integer's
pub read_node : (w : ℕ) (l : List ℕ) (owed : ℕ) → ¬ (w ≡ integer_word) → read (w ∷ l) owed ≡ under w (read l (arity (tag_of w) (n_of w) + pred owed))
unfolding read
read_node w l owed d = rw (eqb_apart w integer_word d, read)

mutual
  unfolding read words words_of count Whole WholeAll

  -- one whole term, before any words, and however many are owed
  pub read_term : (t : Term) (l : List ℕ) (owed : ℕ) → Whole t → read (words t ++ l) owed ≡ before t (read l (pred owed))
  read_term (int x) l owed h = refl
  read_term (node tag n k ts) l owed h =
      let a : arity (tag_of (word tag n k)) (n_of (word tag n k)) ≡ count ts = cc (tag_word tag n k h.0.n_fits h.0.k_fits, n_word tag n k h.0.n_fits h.0.k_fits, h.0.all_children) in
      read_node (word tag n k) (words_of ts ++ l) owed (not_integer tag n k h.0.n_fits h.0.k_fits h.0.no_integer)
      ∙ rw (a, read_terms ts l (pred owed) h.1) (under_all tag n k ts h.0 (read l (pred owed)))

  pub read_terms : (ts : Terms) (l : List ℕ) (owed : ℕ) → WholeAll ts → read (words_of ts ++ l) (count ts + owed) ≡ all_before ts (read l owed)
  read_terms end l owed h = rw zero-add (sym (all_before_end (read l owed)))
  read_terms (t then ts) l owed h =
      rw (append_assoc, suc-add) (read_term t (words_of ts ++ l) (suc (count ts + owed)) h.0 ∙ rw (read_terms ts l owed h.1) (all_before_then t ts (read l owed)))

-- the words of whole terms are read as those terms
pub read_words : (ts : Terms) → WholeAll ts → read (words_of ts) 0 ≡ some ts
unfolding read words_of WholeAll before
read_words end h = refl
read_words (t then ts) h = read_term t (words_of ts) 0 h.0 ∙ ap (before t) (read_words ts h.1)

pub terms_of_words : (ts : Terms) → WholeAll ts → terms_of (words_of ts) ≡ ts
unfolding terms_of
terms_of_words ts h = rw (read_words ts h, terms_of)

pub term_of_words : (t : Term) → Whole t → term_of (words t) ≡ t
unfolding term_of the_term WholeAll
term_of_words t h = ap (λ (l : List ℕ). the_term (terms_of l)) (sym (words_one t)) ∙ ap the_term (terms_of_words (t then end) (h, tt))

-- no node has an integer's tag: of all that can be read, only a word of that tag with an n or a k of its own gives one that has
unfoldable mutual
  pub Plain : Term → Type 0
  Plain (int x) = Unit {0}
  Plain (node tag n k ts) = (¬ (tag ≡ tag_integer)) × PlainAll ts

  pub PlainAll : Terms → Type 0
  PlainAll end = Unit {0}
  PlainAll (t then ts) = Plain t × PlainAll ts

plain_join : (n : ℕ) (ts : Terms) → PlainAll (first n ts) → PlainAll (rest n ts) → PlainAll ts
unfolding PlainAll first rest
plain_join zero ts h g = g
plain_join (suc n) end h g = tt
plain_join (suc n) (t then ts) h g = (h.0, plain_join n ts h.1 g)

-- what was read: its words are those that were read, it is at least as many terms as were owed, and it is whole if it is plain
pub record Reads (l : List ℕ) (owed : ℕ) (ts : Terms) : Type 0 where
  pub same_words : words_of ts ≡ l
  pub enough : owed ≤ count ts
  pub whole : PlainAll ts → WholeAll ts

abbrev Sound : List ℕ → ℕ → Option Terms → Type 0
Sound l owed none = Unit {0}
Sound l owed (some ts) = Reads l owed ts

under_sound : (w : ℕ) (l : List ℕ) (owed : ℕ) (o : Option Terms) → Sound l (arity (tag_of w) (n_of w) + pred owed) o → Sound (w ∷ l) owed (under w o)
unfolding under words_of words count PlainAll WholeAll
under_sound w l owed none s = tt
under_sound w l owed (some ts) s =
    let a = arity (tag_of w) (n_of w) in
    let z = count_first a ts (omega (arith, s.enough)) in
    record {
      same_words = cc (word_parts w, s.same_words, words_split a ts);
      enough = omega (arith, count_all (first a ts) (rest a ts), ap count (first_and_rest a ts), s.enough);
      whole = λ p.
          let all = s.whole (plain_join a ts p.0.1 p.1) in
          ((record { n_fits = n_small w; k_fits = k_small w; no_integer = p.0.0; all_children = z }, whole_first a ts all), whole_rest a ts all);
    }

payload_sound : (x : ℕ) (l : List ℕ) (owed : ℕ) (o : Option Terms) → Sound l (pred owed) o → Sound (integer_word ∷ x ∷ l) owed (before (int x) o)
unfolding before words_of words count PlainAll WholeAll
payload_sound x l owed none s = tt
payload_sound x l owed (some ts) s =
    record {
      same_words = ap (λ (m : List ℕ). integer_word ∷ x ∷ m) s.same_words;
      enough = omega (arith, s.enough);
      whole = λ p. (tt, s.whole p.1);
    }

word_sound : (w : ℕ) (l : List ℕ) (owed : ℕ) → Sound (integer_word ∷ l) owed (read_payload l (pred owed)) → Sound l (arity (tag_of w) (n_of w) + pred owed) (read l (arity (tag_of w) (n_of w) + pred owed))
    → Sound (w ∷ l) owed (read (w ∷ l) owed)
unfolding read
word_sound w l owed payload below = go (ℕ_discrete w integer_word)
  where
    go : Dec (w ≡ integer_word) → Sound (w ∷ l) owed (read (w ∷ l) owed)
    go (yes e) = rw e payload
    go (no d) = rw (read_node w l owed d) (under_sound w l owed _ below)

mutual
  unfolding read words_of count WholeAll

  sound : (l : List ℕ) (owed : ℕ) → Sound l owed (read l owed)
  sound [] zero = record { same_words = refl; enough = omega arith; whole = λ p. tt }
  sound [] (suc owed) = tt
  sound (w ∷ l) owed = word_sound w l owed (sound_payload l owed) (sound l (arity (tag_of w) (n_of w) + pred owed))

  sound_payload : (l : List ℕ) (owed : ℕ) → Sound (integer_word ∷ l) owed (read_payload l (pred owed))
  sound_payload [] owed = tt
  sound_payload (x ∷ l) owed = payload_sound x l owed (read l (pred owed)) (sound l (pred owed))

-- what is read has the words that were read
pub read_sound : (l : List ℕ) (owed : ℕ) (ts : Terms) → read l owed ≡ some ts → Reads l owed ts
read_sound l owed ts e = rw e at (sound l owed)
