-- Words whose children stand at their own spot, and those that are told at once.
use Prim.Native.Nat.{ℕ, ◌≤◌, ◌<◌}
use mathlib.Core.Path.{◌≡◌, refl, sym, ap, ◌∙◌}
use mathlib.Core.Bool.{Bool, true}
use native.Mathlib.Omega.{arith}
use native.Mathlib.Decide.{ℕ_discrete}
use lib.Dec.{eqb, leb, ltb}
use lib.ListN.{replicate}
use Rattle.lists.specs.Lists.{member}
use Rattle.lists.proofs.Tests.{eqb-true, ltb_of, and_of}
use Rattle.term.specs.Words.{tag_of, n_of, k_of, tag_atom, tag_integer, tag_nil, tag_cons}
use Rattle.term.specs.Table.{Children, alike, table, row_of, tags_at, k_limit, fits, own_spot, spots_below, child_spots, spot_expression, spot_pattern, spot_guard, spot_value}
use Rattle.shape.specs.Reading.{ValueWord, is_atom, is_nil, is_cons, Common}
use Rattle.shape.proofs.SpotLaws.{own_other}

-- children of the word's own kind
below_own : (c : Children) (spot tag n : ℕ) → alike ≡ c → spots_below c spot tag n ≡ replicate n (own_spot spot tag)
unfolding spots_below
below_own c spot tag n e = rw (← e) refl

-- whether the children stand at the word's own spot, by the tests of the code
module _ (spot w t : ℕ) (et : t ≡ tag_of w) (e : alike ≡ (row_of t).children) where
  own : child_spots spot w ≡ replicate (n_of w) (own_spot spot t)
  unfolding child_spots
  own = below_own (row_of (tag_of w)).children spot (tag_of w) (n_of w) (rw et at e) ∙ rw et refl

  pub alike_leaf : (n : ℕ) → n ≡ n_of w → n ≡ 0 → child_spots spot w ≡ replicate (n_of w) spot
  alike_leaf n en z = own ∙ rw (← en, z) refl

  pub alike_own : (o : ℕ) → o ≡ own_spot spot t → eqb o spot ≡ true → child_spots spot w ≡ replicate (n_of w) spot
  alike_own o eo i = own ∙ ap (replicate (n_of w)) (sym eo ∙ eqb-true o spot i)

-- such a word at a spot that takes it
fits_of : (places spot w : ℕ) → member (tag_of w) (tags_at places spot) ≡ true → leb (row_of (tag_of w)).least (n_of w) ≡ true → leb (n_of w) (row_of (tag_of w)).greatest ≡ true
    → ltb (k_of w) (k_limit places (tag_of w)) ≡ true → fits places spot w ≡ true
unfolding fits
fits_of places spot w a b c d = and_of a (and_of b (and_of c d))

common_word : (spot w t m limit : ℕ) → tag_of w ≡ t → n_of w ≡ m → k_of w < limit → ((places : ℕ) → member t (tags_at places spot) ≡ true)
    → leb (row_of t).least m ≡ true → leb m (row_of t).greatest ≡ true → ((places : ℕ) → k_limit places t ≡ limit) → ¬ (t ≡ tag_integer) → alike ≡ (row_of t).children → ¬ (spot ≡ spot_guard) → Common spot w
unfolding child_spots
common_word spot w t m limit et em hk there b c lim ni kind g =
    record {
      fit = λ places. fits_of places spot w (rw et (there places)) (rw (et, em) b) (rw (et, em) c) (rw (et, lim places) (ltb_of (k_of w) limit hk));
      node = λ i. ni (sym et ∙ i);
      below = below_own (row_of (tag_of w)).children spot (tag_of w) (n_of w) (rw et kind) ∙ ap (replicate (n_of w)) (sym (own_other spot (tag_of w) g));
    }

module _ (spot : ℕ) (g : ¬ (spot ≡ spot_guard)) (atoms : (places : ℕ) → member tag_atom (tags_at places spot) ≡ true) (nils : (places : ℕ) → member tag_nil (tags_at places spot) ≡ true)
    (conses : (places : ℕ) → member tag_cons (tags_at places spot) ≡ true) where
  common_value : (w : ℕ) → ValueWord w → Common spot w
  unfolding k_limit row_of table
  common_value w (is_atom et em hk) = common_word spot w tag_atom 0 256 et em hk atoms refl refl (λ places. refl) (λ i. omega arith) refl g
  common_value w (is_nil et em hk) = common_word spot w tag_nil 0 1 et em hk nils refl refl (λ places. refl) (λ i. omega arith) refl g
  common_value w (is_cons et em hk) = common_word spot w tag_cons 2 1 et em hk conses refl refl (λ places. refl) (λ i. omega arith) refl g

module _ (spot w : ℕ) (v : Bool) (h : v ≡ true → ValueWord w) where
  common_expression : spot ≡ spot_expression → v ≡ true → Common spot w
  unfolding tags_at member
  common_expression e i = rw e (common_value spot_expression (λ z. omega arith) (λ places. refl) (λ places. refl) (λ places. refl) w (h i))

  pub common_in_value : spot ≡ spot_value → v ≡ true → Common spot w
  unfolding tags_at member
  common_in_value e i = rw e (common_value spot_value (λ z. omega arith) (λ places. refl) (λ places. refl) (λ places. refl) w (h i))

  common_pattern : spot ≡ spot_pattern → v ≡ true → Common spot w
  unfolding tags_at member
  common_pattern e i = rw e (common_value spot_pattern (λ z. omega arith) (λ places. refl) (λ places. refl) (λ places. refl) w (h i))

  -- the two spots beside each other
  pub common_low : 1 ≤ spot → spot < 3 → v ≡ true → Common spot w
  common_low low high = elim (ℕ_discrete spot spot_expression) [ yes e ↦ common_expression e | no d ↦ common_pattern (omega arith) ]
