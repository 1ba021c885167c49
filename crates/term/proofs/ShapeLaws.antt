-- Shape says yes exactly to the words of well-shaped terms.
use Prim.Native.Nat.{ℕ, zero, suc, ◌+◌, ◌≤◌, ◌<◌}
use mathlib.Core.Path.{◌≡◌, refl, sym, ap, ◌∙◌}
use mathlib.Core.Logic.{◌⊎◌, inl, inr}
use mathlib.Core.Bool.{Bool, true, false, ◌&&◌}
use mathlib.Core.Option.{none, some}
use mathlib.Core.List.{List, [], ◌∷◌, ◌++◌, append_assoc, append-nil}
use native.Mathlib.Omega.{arith}
use native.Mathlib.Nat.{add-zero}
use native.Mathlib.Decide.{ℕ_discrete}
use lib.Dec.{leb, ltb}
use lib.ListN.{length, get_or, replicate, length-append, length-replicate}
use Rattle.lists.specs.Lists.{member}
use Rattle.lists.proofs.Tests.{eqb_of, eqb_apart, leb-true, ltb-true, and_left, and_right, true_or_false, none_not_some}
use Rattle.term.specs.Words.{word, tag_of, n_of, k_of, integer_word, tag_integer}
use Rattle.term.specs.Table.{Children, alike, body, of_clause, of_case, of_receive, Row, no_row, table, row_of, child_count, arity, tags_at, k_limit, fits, own_spot, spots_below, child_spots, spot_function, spot_expression, spot_clause}
use Rattle.term.specs.Tree.{Term, Terms, int, node, end, ◌then◌, words, words_of, count, first, rest, Whole, WholeAll}
use Rattle.term.specs.Read.{terms_of, term_of}
use Rattle.term.specs.Shape.{wanted, shape, shape_payload, module_shape, control_shape}
use Rattle.term.specs.Fit.{Fit, FitAll}
use Rattle.term.proofs.WordLaws.{tag_word, word_parts}
use Rattle.term.proofs.TreeLaws.{words_one, words_split, count_first}
use Rattle.term.proofs.ReadLaws.{terms_of_words, term_of_words}

-- (c) well-shaped terms are whole
mutual
  unfolding Fit FitAll Whole WholeAll

  pub fit_whole : (places s : ℕ) (t : Term) → Fit places s t → Whole t
  fit_whole places s (int x) h = tt
  fit_whole places s (node tag n k ts) h = (h.0, fit_all_whole places ts (child_spots s (word tag n k)) h.2)

  pub fit_all_whole : (places : ℕ) (ts : Terms) (spots : List ℕ) → FitAll places ts spots → WholeAll ts
  fit_all_whole places end spots h = tt
  fit_all_whole places (t then ts) [] h = absurd h
  fit_all_whole places (t then ts) (s ∷ spots) h = (fit_whole places s t h.0, fit_all_whole places ts spots h.1)

-- as many terms as spots
pub fit_count : (places : ℕ) (ts : Terms) (spots : List ℕ) → FitAll places ts spots → count ts ≡ length spots
unfolding FitAll count
fit_count places end [] h = refl
fit_count places end (s ∷ spots) h = absurd h
fit_count places (t then ts) [] h = absurd h
fit_count places (t then ts) (s ∷ spots) h = ap suc (fit_count places ts spots h.1)

-- shape at one word, by the tests that it makes
pub shape_integer : (places : ℕ) (new : List ℕ) (w s : ℕ) (l others : List ℕ) (at : ℕ) → fits places s w ≡ true → tag_of w ≡ tag_integer
    → shape places new (w ∷ l) (s ∷ others) at ≡ shape_payload places new l others (suc at)
unfolding shape wanted
shape_integer places new w s l others at f e = rw (f, eqb_of (tag_of w) tag_integer e, shape)

pub shape_node : (places : ℕ) (new : List ℕ) (w s : ℕ) (l others : List ℕ) (at : ℕ) → fits places s w ≡ true → ¬ (tag_of w ≡ tag_integer)
    → shape places new (w ∷ l) (s ∷ others) at ≡ shape places new l (child_spots s w ++ others) (suc at)
unfolding shape wanted
shape_node places new w s l others at f d = rw (f, eqb_apart (tag_of w) tag_integer d, shape)

pub shape_misfit : (places : ℕ) (new : List ℕ) (w s : ℕ) (l others : List ℕ) (at : ℕ) → fits places s w ≡ false → shape places new (w ∷ l) (s ∷ others) at ≡ some at
unfolding shape wanted
shape_misfit places new w s l others at f = rw (f, shape)

-- where no spot waits, those of a new term do; where a new term has none, words left over fail
pub shape_new : (places s : ℕ) (new : List ℕ) (w : ℕ) (l : List ℕ) (at : ℕ) → shape places (s ∷ new) (w ∷ l) [] at ≡ shape places (s ∷ new) (w ∷ l) (s ∷ new) at
unfolding shape wanted
shape_new places s new w l at = refl

pub shape_past : (places w : ℕ) (l : List ℕ) (at : ℕ) → shape places [] (w ∷ l) [] at ≡ some at
unfolding shape wanted
shape_past places w l at = refl

-- (a) the words of well-shaped terms fill their spots, whatever waits after them
mutual
  unfolding shape words words_of Fit FitAll

  pub shape_term : (places : ℕ) (new : List ℕ) (t : Term) (s : ℕ) (l others : List ℕ) (at : ℕ) → Fit places s t
      → shape places new (words t ++ l) (s ∷ others) at ≡ shape places new l others (at + length (words t))
  shape_term places new (int x) s l others at h =
      let two : suc (suc at) ≡ at + 2 = omega arith in
      shape_integer places new integer_word s (x ∷ l) others at h refl ∙ ap (shape places new l others) two
  shape_term places new (node tag n k ts) s l others at h =
      let d : ¬ (tag_of (word tag n k) ≡ tag_integer) = λ e. h.0.no_integer (sym (tag_word tag n k h.0.n_fits h.0.k_fits) ∙ e) in
      let m : suc at + length (words_of ts) ≡ at + suc (length (words_of ts)) = omega arith in
      shape_node places new (word tag n k) s (words_of ts ++ l) others at h.1 d
      ∙ shape_terms places new ts (child_spots s (word tag n k)) l others (suc at) h.2
      ∙ ap (shape places new l others) m

  pub shape_terms : (places : ℕ) (new : List ℕ) (ts : Terms) (spots l others : List ℕ) (at : ℕ) → FitAll places ts spots
      → shape places new (words_of ts ++ l) (spots ++ others) at ≡ shape places new l others (at + length (words_of ts))
  shape_terms places new end [] l others at h = rw add-zero
  shape_terms places new end (s ∷ spots) l others at h = absurd h
  shape_terms places new (t then ts) [] l others at h = absurd h
  shape_terms places new (t then ts) (s ∷ spots) l others at h =
      let m : at + length (words t) + length (words_of ts) ≡ at + length (words t ++ words_of ts) = omega (arith, length-append (words t) (words_of ts)) in
      rw append_assoc (
      shape_term places new t s (words_of ts ++ l) (spots ++ others) at h.0
      ∙ shape_terms places new ts spots l others (at + length (words t)) h.1
      ∙ ap (shape places new l others) m)

-- what a word that fits says of its parts
pub record Fits (places s w : ℕ) : Type 0 where
  pub tag_there : member (tag_of w) (tags_at places s) ≡ true
  pub least_n : (row_of (tag_of w)).least ≤ n_of w
  pub greatest_n : n_of w ≤ (row_of (tag_of w)).greatest
  pub k_below : k_of w < k_limit places (tag_of w)

pub fits_parts : (places s w : ℕ) → fits places s w ≡ true → Fits places s w
unfolding fits
fits_parts places s w f =
    let tag = tag_of w in
    let last : Bool = ltb (k_of w) (k_limit places tag) in
    let upper : Bool = leb (n_of w) (row_of tag).greatest in
    let lower : Bool = leb (row_of tag).least (n_of w) in
    let f1 = and_right (member tag (tags_at places s)) (lower && (upper && last)) f in
    let f2 = and_right lower (upper && last) f1 in
    record {
      tag_there = and_left (member tag (tags_at places s)) (lower && (upper && last)) f;
      least_n = leb-true _ _ (and_left lower (upper && last) f1);
      greatest_n = leb-true _ _ (and_left upper last f2);
      k_below = ltb-true _ _ (and_right upper last f2);
    }

-- a row whose children are a clause's has n = 3: a test of the whole table
of_three : Children → Row → Bool
of_three alike row = true
of_three body row = true
of_three of_clause row = leb 3 row.least && leb row.greatest 3
of_three of_case row = true
of_three of_receive row = true

all_of_three : List Row → Bool
all_of_three [] = true
all_of_three (row ∷ rows) = of_three row.children row && all_of_three rows

at_row : (rows : List Row) (i : ℕ) → all_of_three rows ≡ true → of_three (get_or rows i no_row).children (get_or rows i no_row) ≡ true
unfolding all_of_three of_three
at_row [] i h = refl
at_row (row ∷ rows) zero h = and_left (of_three row.children row) (all_of_three rows) h
at_row (row ∷ rows) (suc i) h = at_row rows i (and_right (of_three row.children row) (all_of_three rows) h)

three_children : (tag : ℕ) → (row_of tag).children ≡ of_clause → (3 ≤ (row_of tag).least) × ((row_of tag).greatest ≤ 3)
unfolding all_of_three of_three table row_of
three_children tag e =
    let row = row_of tag in
    let t : (leb 3 row.least && leb row.greatest 3) ≡ true = rw e at (at_row table tag refl) in
    (leb-true _ _ (and_left (leb 3 row.least) (leb row.greatest 3) t), leb-true _ _ (and_right (leb 3 row.least) (leb row.greatest 3) t))

-- a word that fits has as many children as there are spots below it
spots_arity : (c : Children) (s tag n : ℕ) → (c ≡ of_clause → n ≡ 3) → length (spots_below c s tag n) ≡ child_count c n
unfolding spots_below child_count
spots_arity alike s tag n three = length-replicate n (own_spot s tag)
spots_arity body s tag n three = refl
spots_arity of_clause s tag n three = sym (three refl)
spots_arity of_case s tag n three = ap suc (length-replicate n spot_clause)
spots_arity of_receive s tag n three = length-replicate n spot_clause

pub child_count_lem : (places s w : ℕ) → fits places s w ≡ true → length (child_spots s w) ≡ arity (tag_of w) (n_of w)
unfolding child_spots arity
child_count_lem places s w f =
    let p = fits_parts places s w f in
    spots_arity (row_of (tag_of w)).children s (tag_of w) (n_of w) (λ e. let b = three_children (tag_of w) e in omega (arith, b.0, b.1, p.least_n, p.greatest_n))

-- of an integer's tag only the one word fits
pub integer_word_lem : (places s w : ℕ) → fits places s w ≡ true → tag_of w ≡ tag_integer → w ≡ integer_word
unfolding row_of table k_limit
integer_word_lem places s w f e =
    let p = fits_parts places s w f in
    let n : n_of w ≤ 0 = rw e at p.greatest_n in
    let k : k_of w < 1 = rw e at p.k_below in
    omega arith

-- the spots of so many new terms
unfoldable pub rounds : ℕ → List ℕ → List ℕ
rounds zero new = []
rounds (suc n) new = new ++ rounds n new

-- what words that pass show: terms whose words they are, at the spots that waited and then those of some new terms
pub record Shows (places : ℕ) (new l spots : List ℕ) : Type 0 where
  pub terms : Terms
  pub again : ℕ
  pub same_words : words_of terms ≡ l
  pub fit : FitAll places terms (spots ++ rounds again new)

fit_split : (places : ℕ) (xs ys : List ℕ) (ts : Terms) → FitAll places ts (xs ++ ys)
    → FitAll places (first (length xs) ts) xs × FitAll places (rest (length xs) ts) ys × (length xs ≤ count ts)
unfolding FitAll first rest count
fit_split places [] ys ts h = (tt, h, omega arith)
fit_split places (x ∷ xs) ys end h = absurd h
fit_split places (x ∷ xs) ys (t then ts) h = let r = fit_split places xs ys ts h.1 in ((h.0, r.0), r.1, omega arith)

node_shows : (places : ℕ) (new : List ℕ) (w s : ℕ) (l others : List ℕ) → fits places s w ≡ true → ¬ (tag_of w ≡ tag_integer)
    → Shows places new l (child_spots s w ++ others) → Shows places new (w ∷ l) (s ∷ others)
unfolding FitAll Fit words_of words
node_shows places new w s l others f i r =
    let c = length (child_spots s w) in
    let p = fit_split places (child_spots s w) (others ++ rounds r.again new) r.terms (rw append_assoc at r.fit) in
    let wp = word_parts w in
    record {
      terms = node (tag_of w) (n_of w) (k_of w) (first c r.terms) then rest c r.terms;
      again = r.again;
      same_words = cc (wp, r.same_words, words_split c r.terms);
      fit = (
        (
          record {
            n_fits = omega arith;
            k_fits = omega arith;
            no_integer = i;
            all_children = count_first c r.terms p.2 ∙ child_count_lem places s w f;
          },
          rw wp f,
          rw wp p.0,
        ),
        p.1,
      );
    }

integer_shows : (places : ℕ) (new : List ℕ) (w s x : ℕ) (l others : List ℕ) → fits places s w ≡ true → w ≡ integer_word
    → Shows places new l others → Shows places new (w ∷ x ∷ l) (s ∷ others)
unfolding FitAll Fit words_of words
integer_shows places new w s x l others f e r =
    record {
      terms = int x then r.terms;
      again = r.again;
      same_words = cc (e, r.same_words);
      fit = (rw e at f, r.fit);
    }

-- one word at a spot that waits, given what the words after it show
word_shows : (places : ℕ) (new : List ℕ) (w s : ℕ) (l others : List ℕ) (at : ℕ)
    → ((spots : List ℕ) (next : ℕ) → shape places new l spots next ≡ none → Shows places new l spots)
    → (fits places s w ≡ true → w ≡ integer_word → shape_payload places new l others (suc at) ≡ none → Shows places new (w ∷ l) (s ∷ others))
    → shape places new (w ∷ l) (s ∷ others) at ≡ none → Shows places new (w ∷ l) (s ∷ others)
word_shows places new w s l others at after payload e = by_fit (true_or_false (fits places s w))
  where
    by_tag : fits places s w ≡ true → Dec (tag_of w ≡ tag_integer) → Shows places new (w ∷ l) (s ∷ others)
    by_tag f (yes i) = payload f (integer_word_lem places s w f i) (sym (shape_integer places new w s l others at f i) ∙ e)
    by_tag f (no i) = node_shows places new w s l others f i (after (child_spots s w ++ others) (suc at) (sym (shape_node places new w s l others at f i) ∙ e))

    by_fit : (fits places s w ≡ true) ⊎ (fits places s w ≡ false) → Shows places new (w ∷ l) (s ∷ others)
    by_fit (inl f) = by_tag f (ℕ_discrete (tag_of w) tag_integer)
    by_fit (inr f) = none_not_some (sym e ∙ shape_misfit places new w s l others at f)

new_shows : (places : ℕ) (new l : List ℕ) → Shows places new l new → Shows places new l []
unfolding rounds
new_shows places new l r = record { terms = r.terms; again = suc r.again; same_words = r.same_words; fit = r.fit }

nothing_shows : (places : ℕ) (new : List ℕ) → Shows places new [] []
unfolding rounds FitAll words_of
nothing_shows places new = record { terms = end; again = 0; same_words = refl; fit = tt }

-- (b) words that pass are those of well-shaped terms
mutual
  unfolding shape wanted

  pub shape_shows : (places : ℕ) (new l spots : List ℕ) (at : ℕ) → shape places new l spots at ≡ none → Shows places new l spots
  shape_shows places new [] [] at e = nothing_shows places new
  shape_shows places new [] (s ∷ spots) at e = none_not_some (sym e)
  shape_shows places [] (w ∷ l) [] at e = none_not_some (sym e)
  shape_shows places (s ∷ new) (w ∷ l) [] at e =
      new_shows places (s ∷ new) (w ∷ l) (
      word_shows places (s ∷ new) w s l new at (λ spots next g. shape_shows places (s ∷ new) l spots next g) (λ f i g. payload_shows places (s ∷ new) w s l new (suc at) f i g) e)
  shape_shows places new (w ∷ l) (s ∷ others) at e =
      word_shows places new w s l others at (λ spots next g. shape_shows places new l spots next g) (λ f i g. payload_shows places new w s l others (suc at) f i g) e

  payload_shows : (places : ℕ) (new : List ℕ) (w s : ℕ) (l others : List ℕ) (at : ℕ) → fits places s w ≡ true → w ≡ integer_word → shape_payload places new l others at ≡ none
      → Shows places new (w ∷ l) (s ∷ others)
  payload_shows places new w s [] others at f i e = none_not_some (sym e)
  payload_shows places new w s (x ∷ l) others at f i e = integer_shows places new w s x l others f i (shape_shows places new l others (suc at) e)

-- one well-shaped term, by the words that it has
pub record Shaped (places s : ℕ) (l : List ℕ) : Type 0 where
  pub term : Term
  pub same_words : words term ≡ l
  pub fit : Fit places s term
  pub read_as : term_of l ≡ term

-- well-shaped functions, by the words that they have; there is one at least
pub record Functions (l : List ℕ) : Type 0 where
  pub others : ℕ
  pub terms : Terms
  pub same_words : words_of terms ≡ l
  pub fit : FitAll 0 terms (replicate (suc others) spot_function)
  pub read_as : terms_of l ≡ terms

one_shaped : (places s : ℕ) (l : List ℕ) (ts : Terms) → words_of ts ≡ l → FitAll places ts (s ∷ []) → Shaped places s l
unfolding FitAll
one_shaped places s l end e h = absurd h
one_shaped places s l (t then end) e h =
    let g : words t ≡ l = sym (words_one t) ∙ e in
    record { term = t; same_words = g; fit = h.0; read_as = ap term_of (sym g) ∙ term_of_words t (fit_whole places s t h.0) }
one_shaped places s l (t then (u then ts)) e h = absurd h.1

rounds_nothing : (n : ℕ) → rounds n [] ≡ []
unfolding rounds
rounds_nothing zero = refl
rounds_nothing (suc n) = rounds_nothing n

rounds_one : (n s : ℕ) → rounds n (s ∷ []) ≡ replicate n s
unfolding rounds
rounds_one zero s = refl
rounds_one (suc n) s = ap (λ (l : List ℕ). s ∷ l) (rounds_one n s)

pub shaped_term : (places s : ℕ) (l : List ℕ) → shape places [] l (s ∷ []) 0 ≡ none → Shaped places s l
shaped_term places s l e =
    let r = shape_shows places [] l (s ∷ []) 0 e in
    one_shaped places s l r.terms r.same_words (rw (rounds_nothing r.again) at r.fit)

-- a control that passes is one expression
pub shaped_control : (places : ℕ) (l : List ℕ) → control_shape places l ≡ none → Shaped places spot_expression l
unfolding control_shape
shaped_control places l e = shaped_term places spot_expression l e

-- a module that passes is one or more functions
pub shaped_module : (l : List ℕ) → module_shape l ≡ none → Functions l
unfolding module_shape
shaped_module l e =
    let r = shape_shows 0 (spot_function ∷ []) l (spot_function ∷ []) 0 e in
    let f : FitAll 0 r.terms (replicate (suc r.again) spot_function) = rw (rounds_one r.again spot_function) at r.fit in
    record {
      others = r.again;
      terms = r.terms;
      same_words = r.same_words;
      fit = f;
      read_as = ap terms_of (sym r.same_words) ∙ terms_of_words r.terms (fit_all_whole 0 r.terms (replicate (suc r.again) spot_function) f);
    }

-- and the words of such terms pass
pub term_shaped : (places s : ℕ) (t : Term) → Fit places s t → shape places [] (words t) (s ∷ []) 0 ≡ none
unfolding shape
term_shaped places s t h = ap (λ (l : List ℕ). shape places [] l (s ∷ []) 0) (sym (append-nil (words t))) ∙ shape_term places [] t s [] [] 0 h

pub control_shaped : (places : ℕ) (t : Term) → Fit places spot_expression t → control_shape places (words t) ≡ none
unfolding control_shape
control_shaped places t h = term_shaped places spot_expression t h

-- a new term may begin where no spot waits
pub shape_begins : (places s : ℕ) (new : List ℕ) (t : Term) (l : List ℕ) (at : ℕ) → shape places (s ∷ new) (words t ++ l) [] at ≡ shape places (s ∷ new) (words t ++ l) (s ∷ new) at
unfolding shape wanted words
shape_begins places s new (int x) l at = refl
shape_begins places s new (node tag n k ts) l at = refl

functions_shaped : (n : ℕ) (ts : Terms) (at : ℕ) → FitAll 0 ts (replicate n spot_function) → shape 0 (spot_function ∷ []) (words_of ts) [] at ≡ none
unfolding shape words_of FitAll
functions_shaped n end at h = refl
functions_shaped zero (t then ts) at h = absurd h
functions_shaped (suc n) (t then ts) at h =
    shape_begins 0 spot_function [] t (words_of ts) at
    ∙ shape_term 0 (spot_function ∷ []) t spot_function (words_of ts) [] at h.0
    ∙ functions_shaped n ts (at + length (words t)) h.1

pub module_shaped : (others : ℕ) (ts : Terms) → FitAll 0 ts (replicate (suc others) spot_function) → module_shape (words_of ts) ≡ none
unfolding module_shape words_of FitAll
module_shaped others end h = absurd h
module_shaped others (t then ts) h = shape_term 0 (spot_function ∷ []) t spot_function (words_of ts) [] 0 h.0 ∙ functions_shaped others ts (0 + length (words t)) h.1
