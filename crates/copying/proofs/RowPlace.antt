-- Laws of the working place in a row: the turns of `find`.
use Prim.Native.Nat.{ℕ, zero, suc, ◌+◌, ◌*◌, ◌-◌, ◌<◌, ◌≤◌}
use mathlib.Core.Path.{◌≡◌, refl, sym, ap, ap₂, ◌∙◌}
use mathlib.Core.Logic.{◌⊎◌, inl, inr}
use mathlib.Core.Bool.{Bool, true, false, ◌&&◌}
use mathlib.Core.List.{List, ◌++◌, append_assoc}
use native.Mathlib.Omega.{arith}
use lib.Dec.{leb}
use lib.ListN.{length, drop, get_or, length-append}
use Rattle.lists.proofs.Tests.{true_or_false, true_not_false, leb-true, leb_of, leb_over, and_left, and_right, cond_true, cond_false}
use Rattle.term.specs.Words.{tag_of, n_of, tag_atom, tag_tuple, tag_integer, tag_case, tag_let, tag_receive}
use Rattle.term.specs.Table.{arity}
use Rattle.term.specs.Tree.{Term, Terms, int, node, end, ◌then◌, words, words_of, count, Head, Whole, WholeAll}
use Rattle.term.proofs.TreeLaws.{◌and_all◌, words_all, count_all, whole_all}
use Rattle.term.specs.Value.{is_value, are_values}
use Rattle.machine.specs.Place.{entered}
use Rattle.machine.proofs.PlaceLaws.{entered_receive, entered_case, entered_let, entered_other}
use Rattle.rows.specs.Kinds.{ChildCount}
use Rattle.row_laws.specs.Bounds.{most_children, pending_limit}
use Rattle.copying.specs.Places.{place_of, place_among, EntersOf, Finds}
use Rattle.row_laws.proofs.RowTerms.{arity_case, arity_other, node_at, integer_at, not_integer_at, some_words}

-- ---- how many children are gone into
no_terms : (ts : Terms) (m here at : ℕ) → count ts ≡ 0 → place_among ts m here at ≡ here
unfolding place_among count
no_terms end m here at z = refl
no_terms (t then ts) m here at z = absurd (omega arith)

zero_terms : (ts : Terms) (here at : ℕ) → place_among ts 0 here at ≡ here
unfolding place_among
zero_terms end here at = refl
zero_terms (t then ts) here at = refl

module _ (w t : ℕ) (et : t ≡ tag_of w) where
  pub enters_receive : t ≡ tag_receive → EntersOf w 0
  enters_receive e =
      record { same_place = λ k ts h here at. ap (λ (m : ℕ). place_among ts m here at) (sym (entered_receive (tag_of w) ts (sym et ∙ e))); among = λ k ts h. omega arith; few = omega arith }

  pub enters_case : t ≡ tag_case → EntersOf w 1
  enters_case e =
      record {
        same_place = λ k ts h here at. ap (λ (m : ℕ). place_among ts m here at) (sym (entered_case (tag_of w) ts (sym et ∙ e)));
        among = λ k ts h. omega (arith, h.all_children, arity_case (tag_of w) (n_of w) (sym et ∙ e));
        few = omega arith;
      }

  let_children : t ≡ tag_let → n_of w ≡ arity (tag_of w) (n_of w)
  let_children e = arity_other (tag_of w) (n_of w) (λ z. omega (arith, et, e, z)) (λ z. omega (arith, et, e, z))

  module _ (n : ℕ) (en : n ≡ n_of w) (e : t ≡ tag_let) where
    pub enters_none : n ≡ 0 → EntersOf w 0
    enters_none z =
        record {
          same_place = λ k ts h here at. zero_terms ts here at ∙ sym (no_terms ts _ here at (omega (arith, h.all_children, let_children e)));
          among = λ k ts h. omega arith;
          few = omega arith;
        }

    pub enters_let : ¬ (n ≡ 0) → EntersOf w 1
    enters_let z =
        record {
          same_place = λ k ts h here at. ap (λ (m : ℕ). place_among ts m here at) (sym (entered_let (tag_of w) ts (sym et ∙ e)));
          among = λ k ts h. omega (arith, h.all_children, let_children e);
          few = omega arith;
        }

  pub enters_all : ¬ (t ≡ tag_receive) → ¬ (t ≡ tag_case) → ¬ (t ≡ tag_let) → (r : ℕ) → r ≡ arity (tag_of w) (n_of w) → r ≤ 256 → EntersOf w r
  enters_all a b d r er f =
      record {
        same_place = λ k ts h here at.
            ap (λ (m : ℕ). place_among ts m here at) (er ∙ sym h.all_children ∙ sym (entered_other (tag_of w) ts (λ z. b (et ∙ z)) (λ z. d (et ∙ z)) (λ z. a (et ∙ z))));
        among = λ k ts h. omega (arith, h.all_children);
        few = f;
      }

-- ---- a value's tag, by the code's tests
pub within_two : (t : ℕ) → 2 ≤ t → leb t tag_tuple ≡ (leb tag_atom t && leb t tag_tuple)
within_two t h = rw (leb_of 2 t h)

pub below_two : (t : ℕ) → t < 2 → leb 2 t ≡ (leb tag_atom t && leb t tag_tuple)
below_two t h = rw (leb_over 2 t h)

-- ---- the steps of `find`
place_value : (t : Term) (ts : Terms) (m here at : ℕ) → ¬ (m ≡ 0) → is_value t ≡ true → place_among (t then ts) m here at ≡ place_among ts (m - 1) here (at + length (words t))
unfolding place_among
place_value t ts zero here at nz v = absurd (nz refl)
place_value t ts (suc m) here at nz v = cond_true _ _ v ∙ ap (λ (j : ℕ). place_among ts j here (at + length (words t))) (omega arith)

place_in : (t : Term) (ts : Terms) (m here at : ℕ) → ¬ (m ≡ 0) → is_value t ≡ false → place_among (t then ts) m here at ≡ place_of t at
unfolding place_among
place_in t ts zero here at nz v = absurd (nz refl)
place_in t ts (suc m) here at nz v = cond_false _ _ v

-- in terms that are not all values the place does not depend on where the whole stands
inside : (ts : Terms) (h h' at : ℕ) → are_values ts ≡ false → place_among ts (count ts) h at ≡ place_among ts (count ts) h' at
unfolding are_values count
inside end h h' at f = true_not_false refl f
inside (t then ts) h h' at f = go (true_or_false (is_value t)) (λ g. inside ts h h' (at + length (words t)) g)
  where
    go : (is_value t ≡ true) ⊎ (is_value t ≡ false)
        → (are_values ts ≡ false → place_among ts (count ts) h (at + length (words t)) ≡ place_among ts (count ts) h' (at + length (words t)))
        → place_among (t then ts) (suc (count ts)) h at ≡ place_among (t then ts) (suc (count ts)) h' at
    go (inl v) g =
        let e : suc (count ts) - 1 ≡ count ts = omega arith in
        let z : (k : ℕ) → place_among (t then ts) (suc (count ts)) k at ≡ place_among ts (count ts) k (at + length (words t)) =
        λ k. place_value t ts (suc (count ts)) k at (λ z. omega (arith, z)) v ∙ ap (λ (j : ℕ). place_among ts j k (at + length (words t))) e in
        z h ∙ g (sym (ap (λ (b : Bool). b && are_values ts) v) ∙ f) ∙ sym (z h')
    go (inr v) g = place_in t ts (suc (count ts)) h at (λ z. omega (arith, z)) v ∙ sym (place_in t ts (suc (count ts)) h' at (λ z. omega (arith, z)) v)

-- all of some terms, then others
all_values : (us ts : Terms) (m here at : ℕ) → are_values us ≡ true → place_among (us and_all ts) (count us + m) here at ≡ place_among ts m here (at + length (words_of us))
unfolding ◌and_all◌ count are_values words_of
all_values end ts m here at v = ap₂ (λ (i j : ℕ). place_among ts i here j) (omega arith) (omega arith)
all_values (u then us) ts m here at v =
    place_value u (us and_all ts) (suc (count us) + m) here at (λ z. omega (arith, z)) (and_left (is_value u) (are_values us) v)
    ∙ ap (λ (i : ℕ). place_among (us and_all ts) i here (at + length (words u))) (omega arith)
    ∙ all_values us ts m here (at + length (words u)) (and_right (is_value u) (are_values us) v)
    ∙ ap (place_among ts m here) (omega (arith, length-append (words u) (words_of us)))

some_value : (us ts : Terms) (m here at : ℕ) → are_values us ≡ false → place_among (us and_all ts) (count us + m) here at ≡ place_among us (count us) here at
unfolding ◌and_all◌ count are_values
some_value end ts m here at v = true_not_false refl v
some_value (u then us) ts m here at v = go (true_or_false (is_value u)) (λ g. some_value us ts m here (at + length (words u)) g)
  where
    go : (is_value u ≡ true) ⊎ (is_value u ≡ false)
        → (are_values us ≡ false → place_among (us and_all ts) (count us + m) here (at + length (words u)) ≡ place_among us (count us) here (at + length (words u)))
        → place_among (u then (us and_all ts)) (suc (count us) + m) here at ≡ place_among (u then us) (suc (count us)) here at
    go (inl q) g =
        place_value u (us and_all ts) (suc (count us) + m) here at (λ z. omega (arith, z)) q
        ∙ ap (λ (i : ℕ). place_among (us and_all ts) i here (at + length (words u))) (omega arith)
        ∙ g (sym (ap (λ (b : Bool). b && are_values us) q) ∙ v)
        ∙ ap (λ (i : ℕ). place_among us i here (at + length (words u))) (omega arith)
        ∙ sym (place_value u us (suc (count us)) here at (λ z. omega (arith, z)) q)
    go (inr q) g = place_in u (us and_all ts) (suc (count us) + m) here at (λ z. omega (arith, z)) q ∙ sym (place_in u us (suc (count us)) here at (λ z. omega (arith, z)) q)

-- a node of a value's tag is a value if its children are
value_node : (tag n k : ℕ) (us : Terms) → (leb tag_atom tag && leb tag tag_tuple) ≡ true → is_value (node tag n k us) ≡ are_values us
unfolding is_value
value_node tag n k us e = rw (and_left (leb tag_atom tag) (leb tag tag_tuple) e, and_right (leb tag_atom tag) (leb tag tag_tuple) e)

no_value_node : (tag n k : ℕ) (us : Terms) → (leb tag_atom tag && leb tag tag_tuple) ≡ false → is_value (node tag n k us) ≡ false
unfolding is_value
no_value_node tag n k us e = go (leb tag_atom tag) (leb tag tag_tuple) e
  where
    go : (a b : Bool) → (a && b) ≡ false → (a && b && are_values us) ≡ false
    go true true e = true_not_false refl e
    go true false e = refl
    go false b e = refl

long_node : (tag n k : ℕ) (us : Terms) (at : ℕ) → at + length (words (node tag n k us)) ≡ at + 1 + length (words_of us)
unfolding words
long_node tag n k us at = omega arith

value_tag : (tag : ℕ) → (leb tag_atom tag && leb tag tag_tuple) ≡ true → tag ≤ tag_tuple
value_tag tag e = leb-true tag tag_tuple (and_right (leb tag_atom tag) (leb tag tag_tuple) e)

pub find_none : (l : List ℕ) (at p here : ℕ) → p ≡ 0 → Finds l at p here here
unfolding Finds
find_none l at p here z ts rest h s e = sym (ap (λ (m : ℕ). place_among ts m here at) z ∙ zero_terms ts here at)

module _ (l : List ℕ) (at p here : ℕ) (nz : ¬ (p ≡ 0)) where
  pub find_past : (r : ℕ) → length l ≤ at → Finds l at p here r
  unfolding Finds
  find_past r h ts rest a s e = absurd (omega (arith, some_words l at p ts rest nz s e))

  module _ (g : ℕ) (eg : g ≡ tag_of (get_or l at 0)) where
    pub find_short : (r : ℕ) → g ≡ tag_integer → length l - at < 2 → Finds l at p here r
    unfolding Finds count Whole WholeAll
    find_short r i short end rest h s e = absurd (omega arith)
    find_short r i short (int x then ts) rest h s e = absurd (omega (arith, (integer_at l at x ts rest e).within))
    find_short r i short (node tag n k us then ts) rest h s e = absurd (not_integer_at l at tag n k us ts rest g h.0.0 e eg i)

    pub find_integer : (r : ℕ) → g ≡ tag_integer → Finds l (at + 2) (p - 1) here r → Finds l at p here r
    unfolding Finds count Whole WholeAll is_value words
    find_integer r i ih end rest h s e = absurd (omega arith)
    find_integer r i ih (int x then ts) rest h s e = ih ts rest h.1 (omega arith) (integer_at l at x ts rest e).on ∙ sym (place_value (int x) ts p here at nz refl)
    find_integer r i ih (node tag n k us then ts) rest h s e = absurd (not_integer_at l at tag n k us ts rest g h.0.0 e eg i)

    module _ (i : ¬ (g ≡ tag_integer)) (v : Bool) (ev : v ≡ (leb tag_atom g && leb g tag_tuple)) where
      pub find_value : v ≡ true → (c r : ℕ) → c ≡ arity (tag_of (get_or l at 0)) (n_of (get_or l at 0)) → Finds l (at + 1) (p - 1 + c) here r → Finds l at p here r
      unfolding Finds count Whole WholeAll place_of
      find_value y c r ec ih end rest h s e = absurd (omega arith)
      find_value y c r ec ih (int x then ts) rest h s e = absurd (i (eg ∙ (integer_at l at x ts rest e).tag_is))
      find_value y c r ec ih (node tag n k us then ts) rest h s e =
          let o = node_at l at (suc (count ts)) c tag n k us ts rest h.0.0 refl e ec in
          let tg : g ≡ tag = eg ∙ o.tag_is in
          let tv : (leb tag_atom tag && leb tag tag_tuple) ≡ true = ap (λ (j : ℕ). leb tag_atom j && leb j tag_tuple) (sym tg) ∙ sym ev ∙ y in
          let cu : c ≡ count us = omega (arith, o.count_is, count_all us ts) in
          let a = ih (us and_all ts) rest (whole_all us ts h.0.1 h.1) (omega (arith, count_all us ts)) o.on in
          let b : r ≡ place_among (us and_all ts) (count us + (p - 1)) here (at + 1) = a ∙ ap (λ (m : ℕ). place_among (us and_all ts) m here (at + 1)) (omega arith) in
          b ∙ by_values tag n k us ts tv (true_or_false (are_values us))
        where
          by_values : (tag n k : ℕ) (us ts : Terms) → (leb tag_atom tag && leb tag tag_tuple) ≡ true → (are_values us ≡ true) ⊎ (are_values us ≡ false)
              → place_among (us and_all ts) (count us + (p - 1)) here (at + 1) ≡ place_among (node tag n k us then ts) p here at
          by_values tag n k us ts tv (inl q) =
              all_values us ts (p - 1) here (at + 1) q ∙ ap (place_among ts (p - 1) here) (sym (long_node tag n k us at))
              ∙ sym (place_value (node tag n k us) ts p here at nz (value_node tag n k us tv ∙ q))
          by_values tag n k us ts tv (inr q) =
              some_value us ts (p - 1) here (at + 1) q ∙ inside us here at (at + 1) q
              ∙ ap (λ (m : ℕ). place_among us m at (at + 1)) (sym (entered_other tag us (λ z. omega (arith, value_tag tag tv, z)) (λ z. omega (arith, value_tag tag tv, z)) (λ z. omega (arith, value_tag tag tv, z))))
              ∙ sym (place_in (node tag n k us) ts p here at nz (value_node tag n k us tv ∙ q))

      pub find_in : v ≡ false → (c r : ℕ) → EntersOf (get_or l at 0) c → Finds l (at + 1) c at r → Finds l at p here r
      unfolding Finds count Whole WholeAll place_of words_of words
      find_in y c r en ih end rest h s e = absurd (omega arith)
      find_in y c r en ih (int x then ts) rest h s e = absurd (i (eg ∙ (integer_at l at x ts rest e).tag_is))
      find_in y c r en ih (node tag n k us then ts) rest h s e =
          let o = node_at l at (suc (count ts)) _ tag n k us ts rest h.0.0 refl e refl in
          let tg : g ≡ tag = eg ∙ o.tag_is in
          let tv : (leb tag_atom tag && leb tag tag_tuple) ≡ false = ap (λ (j : ℕ). leb tag_atom j && leb j tag_tuple) (sym tg) ∙ sym ev ∙ y in
          let hd : Head (tag_of (get_or l at 0)) (n_of (get_or l at 0)) k (count us) = rw (o.tag_is, o.n_is) h.0.0 in
          let on : drop (at + 1) l ≡ words_of us ++ (words_of ts ++ rest) = o.on ∙ rw (words_all us ts, append_assoc) in
          ih us (words_of ts ++ rest) h.0.1 (en.among k us hd) on
          ∙ en.same_place k us hd at (at + 1)
          ∙ ap (λ (j : ℕ). place_among us (entered j us) at (at + 1)) o.tag_is
          ∙ sym (place_in (node tag n k us) ts p here at nz (no_value_node tag n k us tv))

-- ---- the turns over values: what is found among the terms left is what is found among all
pub record Seeks (l : List ℕ) (at p x left : ℕ) : Type 0 where
  pub goes : (here r : ℕ) → Finds l x left here r → Finds l at p here r
  pub onward : at ≤ x
  pub within : x ≤ length l
  pub few : left + most_children * (length l - x) < pending_limit

pub seeks_start : (l : List ℕ) (at p : ℕ) → (at ≤ length l) × (p + most_children * (length l - at) < pending_limit) → Seeks l at p at p
seeks_start l at p h = record { goes = λ here r s. s; onward = omega arith; within = h.0; few = h.1 }

-- what `past_values` promises: at r stands the first word that is no value's, or none does
abbrev pub Works : List ℕ → ℕ → ℕ → ℕ → Type 0
Works l at p r =
    (at ≤ r) × ((here : ℕ) → length l ≤ r → Finds l at p here here)
    × ((here c e : ℕ) → r < length l → EntersOf (get_or l r 0) c → Finds l (r + 1) c r e → Finds l at p here e)

module _ (l : List ℕ) (at p x left : ℕ) (inv : Seeks l at p x left) where
  none_works : ((here : ℕ) → Finds l x left here here) → Works l at p (length l)
  none_works f = (omega (arith, inv.onward, inv.within), λ here h. inv.goes here here (f here), λ here c e h. absurd (omega arith))

  pub seeks_none : left ≤ 0 → Works l at p (length l)
  seeks_none z = none_works (λ here. find_none l x left here (omega arith))

  module _ (more : 0 < left) where
    some : ¬ (left ≡ 0)
    some z = omega arith

    pub seeks_past : length l ≤ x → Works l at p (length l)
    seeks_past h = none_works (λ here. find_past l x left here some here h)

    module _ (lt : x < length l) (g : ℕ) (eg : g ≡ tag_of (get_or l x 0)) where
      module _ (i : g ≡ tag_integer) where
        pub seeks_short : length l - x < 2 → Works l at p (length l)
        seeks_short h = none_works (λ here. find_short l x left here some g eg here i h)

        pub seeks_integer : 2 ≤ length l - x → Seeks l at p (x + 2) (left - 1)
        seeks_integer two =
            record {
              goes = λ here r s. inv.goes here r (find_integer l x left here some g eg r i s);
              onward = omega (arith, inv.onward);
              within = omega arith;
              few = omega (arith, inv.few);
            }

      module _ (i : ¬ (g ≡ tag_integer)) (v : Bool) (ev : v ≡ (leb tag_atom g && leb g tag_tuple)) where
        pub seeks_work : v ≡ false → Works l at p x
        seeks_work n = (inv.onward, λ here h. absurd (omega arith), λ here c e h en s. inv.goes here e (find_in l x left here some g eg i v ev n c e en s))

        pub seeks_value : v ≡ true → (c : ℕ) → ChildCount (get_or l x 0) c → Seeks l at p (x + 1) (left - 1 + c)
        seeks_value y c hc =
            record {
              goes = λ here r s. inv.goes here r (find_value l x left here some g eg i v ev y c r hc.is s);
              onward = omega (arith, inv.onward);
              within = omega arith;
              few = omega (arith, inv.few, hc.few);
            }

-- ---- and `find`, from there
module _ (l : List ℕ) (at p r : ℕ) (w : Works l at p r) where
  pub found_none : (here : ℕ) → length l ≤ r → Finds l at p here here
  found_none here h = w.1 here h

  pub found_in : r < length l → (c : ℕ) → EntersOf (get_or l r 0) c → (here e : ℕ) → Finds l (r + 1) c r e → Finds l at p here e
  found_in lt c en here e s = w.2 here c e lt en s

  pub found_few : r < length l → (c : ℕ) → EntersOf (get_or l r 0) c → p + most_children * (length l - at) < pending_limit → c + most_children * (length l - (r + 1)) < pending_limit
  found_few lt c en h = omega (arith, w.0, en.few)
