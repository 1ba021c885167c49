-- The terms that sit at a spot are the well-shaped ones.
use Prim.Native.Nat.{ℕ, zero, suc, ◌<◌, ◌≤◌}
use mathlib.Core.Path.{◌≡◌, refl, ◌∙◌, ap}
use mathlib.Core.Logic.{inl, inr}
use mathlib.Core.Bool.{Bool, true, ◌&&◌}
use mathlib.Core.List.{List, [], ◌∷◌}
use native.Mathlib.Omega.{arith}
use native.Mathlib.Decide.{dec_lt}
use lib.Dec.{eqb, leb}
use lib.ListN.{length, get_or, get_or-eq_default}
use Rattle.lists.specs.Lists.{member}
use Rattle.lists.proofs.Tests.{eqb-true, leb-true, leb_of, ltb_of, and_left, and_right, and_of, true_or_false}
use Rattle.term.specs.Words.{word, integer_word, tag_integer, tag_pid, tag_function}
use Rattle.term.specs.Table.{Row, no_row, table, row_of, arity, tags_at, k_limit, fits, child_spots}
use Rattle.term.specs.Tree.{Term, Terms, int, node, end, ◌then◌, count, Head}
use Rattle.term.specs.Fit.{Fit, FitAll}
use Rattle.term.proofs.WordLaws.{tag_word, n_word, k_word}
use Rattle.term.proofs.ShapeLaws.{fits_parts, child_count_lem}
use Rattle.machine.proofs.Sits.{Stands, spots_under, Sits, SitAll}

-- every row of the table has a small n and k
small_row : Row → Bool
small_row r = leb r.greatest 255 && leb r.limit 65536

all_small : List Row → Bool
all_small [] = true
all_small (r ∷ rows) = small_row r && all_small rows

small_at : (rows : List Row) (i : ℕ) → all_small rows ≡ true → small_row (get_or rows i no_row) ≡ true
unfolding all_small small_row
small_at [] i h = refl
small_at (r ∷ rows) zero h = and_left (small_row r) (all_small rows) h
small_at (r ∷ rows) (suc i) h = small_at rows i (and_right (small_row r) (all_small rows) h)

small_row_lem : (tag : ℕ) → small_row (row_of tag) ≡ true
unfolding row_of table all_small small_row
small_row_lem tag = small_at table tag refl

-- a word that stands somewhere has parts that fit
pub record Small (tag n k : ℕ) : Type 0 where
  pub tag_small : tag < 256
  pub n_small : n < 256
  pub k_small : k < 65536

past_table : (tag : ℕ) → tag_function < tag → row_of tag ≡ no_row
unfolding row_of table
past_table tag h = get_or-eq_default table no_row h

pub int_fits : (places s : ℕ) → member tag_integer (tags_at places s) ≡ true → fits places s integer_word ≡ true
unfolding fits row_of table k_limit
int_fits places s m = rw m refl

module _ (places : ℕ) (few_places : places ≤ 65536) where
  pub stands_small : (s tag n k : ℕ) → Stands places s tag n k → Small tag n k
  unfolding small_row k_limit
  stands_small s tag n k w =
      let r = row_of tag in
      let g = leb-true r.greatest 255 (and_left (leb r.greatest 255) (leb r.limit 65536) (small_row_lem tag)) in
      let l = leb-true r.limit 65536 (and_right (leb r.greatest 255) (leb r.limit 65536) (small_row_lem tag)) in
      let n_small : n < 256 = omega (arith, w.greatest_n) in
      elim (true_or_false (eqb tag tag_pid)) [
        | inl e ↦
            let b : k < places = rw e at w.k_below in
            let t = eqb-true tag tag_pid e in
            record { tag_small = omega arith; n_small = n_small; k_small = omega arith }
        | inr e ↦
            let b : k < r.limit = rw e at w.k_below in
            record { tag_small = elim (dec_lt tag (suc tag_function)) [ yes t ↦ omega arith | no t ↦ (let z : k < 0 = rw (past_table tag (omega arith)) at b in absurd (omega arith)) ]; n_small = n_small; k_small = omega arith }
      ]

  -- what stands by its parts fits by its word
  pub stands_fits : (s tag n k : ℕ) → Stands places s tag n k → fits places s (word tag n k) ≡ true
  unfolding fits
  stands_fits s tag n k w =
      let b = stands_small s tag n k w in
      rw (tag_word tag n k b.n_small b.k_small, n_word tag n k b.n_small b.k_small, k_word tag n k b.k_small) (
      and_of w.tag_there (and_of (leb_of _ _ w.least_n) (and_of (leb_of _ _ w.greatest_n) (ltb_of _ _ w.k_below))))

  pub child_spots_lem : (s tag n k : ℕ) → Stands places s tag n k → child_spots s (word tag n k) ≡ spots_under s tag n
  unfolding child_spots
  child_spots_lem s tag n k w =
      let b = stands_small s tag n k w in
      rw (tag_word tag n k b.n_small b.k_small, n_word tag n k b.n_small b.k_small) refl

  pub under_count : (s tag n k : ℕ) → Stands places s tag n k → length (spots_under s tag n) ≡ arity tag n
  under_count s tag n k w =
      let b = stands_small s tag n k w in
      let c = child_count_lem places s (word tag n k) (stands_fits s tag n k w) in
      rw (child_spots_lem s tag n k w, tag_word tag n k b.n_small b.k_small, n_word tag n k b.n_small b.k_small) at c

  pub sit_count : (ts : Terms) (spots : List ℕ) → SitAll places ts spots → count ts ≡ length spots
  unfolding SitAll count
  sit_count end [] h = refl
  sit_count end (s ∷ spots) h = absurd h
  sit_count (t then ts) [] h = absurd h
  sit_count (t then ts) (s ∷ spots) h = ap suc (sit_count ts spots h.1)

  -- the parts of a word over its children
  pub sits_head : (s tag n k : ℕ) (ts : Terms) → Sits places s (node tag n k ts) → Head tag n k (count ts)
  unfolding Sits
  sits_head s tag n k ts h =
      let b = stands_small s tag n k h.0 in
      record {
        n_fits = b.n_small;
        k_fits = b.k_small;
        no_integer = h.0.no_integer;
        all_children = sit_count ts (spots_under s tag n) h.1 ∙ under_count s tag n k h.0;
      }

fits_stands : (places s tag n k c : ℕ) → Head tag n k c → fits places s (word tag n k) ≡ true → Stands places s tag n k
fits_stands places s tag n k c h f =
    let t = tag_word tag n k h.n_fits h.k_fits in
    let m = n_word tag n k h.n_fits h.k_fits in
    let j = k_word tag n k h.k_fits in
    let p = fits_parts places s (word tag n k) f in
    record {
      no_integer = h.no_integer;
      tag_there = rw t at p.tag_there;
      least_n = rw (t, m) at p.least_n;
      greatest_n = rw (t, m) at p.greatest_n;
      k_below = rw (t, j) at p.k_below;
    }

spots_word : (s tag n k c : ℕ) → Head tag n k c → child_spots s (word tag n k) ≡ spots_under s tag n
unfolding child_spots
spots_word s tag n k c h = rw (tag_word tag n k h.n_fits h.k_fits, n_word tag n k h.n_fits h.k_fits) refl

module _ (places : ℕ) where
  mutual
    unfolding Fit FitAll Sits SitAll

    pub fit_sits : (t : Term) (s : ℕ) → Fit places s t → Sits places s t
    fit_sits (int x) s h = (fits_parts places s integer_word h).tag_there
    fit_sits (node tag n k ts) s h =
        (fits_stands places s tag n k (count ts) h.0 h.1, fit_sits_all ts (spots_under s tag n) (rw (spots_word s tag n k (count ts) h.0) at h.2))

    pub fit_sits_all : (ts : Terms) (spots : List ℕ) → FitAll places ts spots → SitAll places ts spots
    fit_sits_all end [] h = tt
    fit_sits_all end (s ∷ spots) h = absurd h
    fit_sits_all (t then ts) [] h = absurd h
    fit_sits_all (t then ts) (s ∷ spots) h = (fit_sits t s h.0, fit_sits_all ts spots h.1)

  module _ (few_places : places ≤ 65536) where
    mutual
      unfolding Fit FitAll Sits SitAll

      pub sits_fit : (t : Term) (s : ℕ) → Sits places s t → Fit places s t
      sits_fit (int x) s h = int_fits places s h
      sits_fit (node tag n k ts) s h =
          (sits_head places few_places s tag n k ts h, stands_fits places few_places s tag n k h.0, rw (child_spots_lem places few_places s tag n k h.0) (sits_fit_all ts (spots_under s tag n) h.1))

      pub sits_fit_all : (ts : Terms) (spots : List ℕ) → SitAll places ts spots → FitAll places ts spots
      sits_fit_all end [] h = tt
      sits_fit_all end (s ∷ spots) h = absurd h
      sits_fit_all (t then ts) [] h = absurd h
      sits_fit_all (t then ts) (s ∷ spots) h = (sits_fit t s h.0, sits_fit_all ts spots h.1)
