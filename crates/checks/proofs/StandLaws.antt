-- Well-shaped terms that stand at a position of a row: what the first word says of them, and where the others stand.
use Prim.Native.Nat.{ℕ, ◌+◌, ◌-◌, ◌≤◌}
use mathlib.Core.Path.{◌≡◌, refl, sym, ap, ap₂, ◌∙◌}
use mathlib.Core.Bool.{true}
use mathlib.Core.List.{List, [], ◌∷◌, ◌++◌, append_assoc}
use native.Mathlib.Omega.{arith}
use lib.ListN.{length, get_or, length-append, length-drop}
use Rattle.term.specs.Words.{word, tag_of, n_of, k_of, tag_integer, integer_word}
use Rattle.term.specs.Table.{arity, fits, child_spots}
use Rattle.term.specs.Tree.{Terms, int, node, end, ◌then◌, words, words_of, count}
use Rattle.term.specs.Fit.{Fit, FitAll}
use Rattle.checks.specs.Walking.{Stands}
use Rattle.term.proofs.WordLaws.{tag_word, n_word, k_word}
use Rattle.term.proofs.TreeLaws.{◌and_all◌, words_all}
use Rattle.term.proofs.RowLaws.{here, drop_past, count_within}

-- every term has a word
pub stands_within : (l : List ℕ) (at owed : ℕ) (ts : Terms) → Stands l at owed ts → owed ≤ length l - at
stands_within l at owed ts s =
    omega (arith, s.many, count_within ts, ap length s.row, length-append (words_of ts) s.rest, length-drop at l)

-- the terms of two rows one after another
pub record Both (places : ℕ) (ts us : Terms) : Type 0 where
  pub spots : List ℕ
  pub spots' : List ℕ
  pub fit : FitAll places ts spots
  pub fit' : FitAll places us spots'

pub fit_both : (places : ℕ) (ts us : Terms) (spots : List ℕ) → FitAll places (ts and_all us) spots → Both places ts us
unfolding FitAll ◌and_all◌
fit_both places end us spots h = record { spots = []; spots' = spots; fit = tt; fit' = h }
fit_both places (t then ts) us [] h = absurd h
fit_both places (t then ts) us (s ∷ spots) h =
    let r = fit_both places ts us spots h.1 in
    record { spots = s ∷ r.spots; spots' = r.spots'; fit = (h.0, r.fit); fit' = r.fit' }

pub fit_join : (places : ℕ) (ts us : Terms) (spots spots' : List ℕ) → FitAll places ts spots → FitAll places us spots' → FitAll places (ts and_all us) (spots ++ spots')
unfolding FitAll ◌and_all◌
fit_join places end us [] spots' h g = g
fit_join places end us (s ∷ spots) spots' h g = absurd h
fit_join places (t then ts) us [] spots' h g = absurd h
fit_join places (t then ts) us (s ∷ spots) spots' h g = (h.0, fit_join places ts us spots spots' h.1 g)

-- the first of two rows, and the second past it
pub stands_first : (l : List ℕ) (at owed m : ℕ) (ts us : Terms) → count ts ≡ m → Stands l at owed (ts and_all us) → Stands l at m ts
stands_first l at owed m ts us e s =
    let b = fit_both s.places ts us s.spots s.fit in
    record { places = s.places; spots = b.spots; rest = words_of us ++ s.rest; fit = b.fit; many = e; row = s.row ∙ rw (words_all, append_assoc) }

pub stands_second : (l : List ℕ) (at owed m : ℕ) (ts us : Terms) → count us ≡ m → Stands l at owed (ts and_all us) → Stands l (at + length (words_of ts)) m us
stands_second l at owed m ts us e s =
    let b = fit_both s.places ts us s.spots s.fit in
    record {
      places = s.places;
      spots = b.spots';
      rest = s.rest;
      fit = b.fit';
      many = e;
      row = drop_past l at (words_of ts) (words_of us ++ s.rest) (s.row ∙ rw (words_all, append_assoc));
    }

-- no terms
pub stands_none : (l : List ℕ) (at owed : ℕ) (ts : Terms) → owed ≡ 0 → Stands l at owed ts → ts ≡ end
unfolding count
stands_none l at owed end z s = refl
stands_none l at owed (t then ts) z s = absurd (omega (arith, s.many))

-- an integer stands first
pub record IntegerHere (l : List ℕ) (at owed : ℕ) (ts : Terms) : Type 0 where
  pub payload : ℕ
  pub others : Terms
  pub is : ts ≡ int payload then others
  pub next : Stands l (at + 2) (owed - 1) others

-- a node stands first
pub record NodeHere (l : List ℕ) (at owed : ℕ) (ts : Terms) : Type 0 where
  pub places : ℕ
  pub spot : ℕ
  pub tag : ℕ
  pub n : ℕ
  pub k : ℕ
  pub children : Terms
  pub others : Terms
  pub is : ts ≡ node tag n k children then others
  pub tag_is : tag_of (get_or l at 0) ≡ tag
  pub n_is : n_of (get_or l at 0) ≡ n
  pub k_is : k_of (get_or l at 0) ≡ k
  pub fit : fits places spot (get_or l at 0) ≡ true
  pub fit_children : FitAll places children (child_spots spot (get_or l at 0))
  pub child_count_lem : count children ≡ arity (tag_of (get_or l at 0)) (n_of (get_or l at 0))
  pub other_count : count others ≡ owed - 1
  pub after : Stands l (at + 1) (count (children and_all others)) (children and_all others)

node_here : (l : List ℕ) (at owed tag n k : ℕ) (us ts : Terms) → Stands l at owed (node tag n k us then ts) → NodeHere l at owed (node tag n k us then ts)
unfolding Fit FitAll words words_of count
node_here l at owed tag n k us ts s = go s.spots s.fit
  where
    go : (spots : List ℕ) → FitAll s.places (node tag n k us then ts) spots → NodeHere l at owed (node tag n k us then ts)
    go [] f = absurd f
    go (spot ∷ spots) f =
        let h = here l at (word tag n k) (words_of us ++ (words_of ts ++ s.rest)) (s.row ∙ rw append_assoc) in
        let tg = ap tag_of h.word_is ∙ tag_word tag n k f.0.0.n_fits f.0.0.k_fits in
        let ng = ap n_of h.word_is ∙ n_word tag n k f.0.0.n_fits f.0.0.k_fits in
        record {
          places = s.places;
          spot = spot;
          tag = tag;
          n = n;
          k = k;
          children = us;
          others = ts;
          is = refl;
          tag_is = tg;
          n_is = ng;
          k_is = ap k_of h.word_is ∙ k_word tag n k f.0.0.k_fits;
          fit = rw h.word_is f.0.1;
          fit_children = rw h.word_is f.0.2;
          child_count_lem = f.0.0.all_children ∙ sym (ap₂ arity tg ng);
          other_count = omega (arith, s.many);
          after =
              record {
                places = s.places;
                spots = child_spots spot (word tag n k) ++ spots;
                rest = s.rest;
                fit = fit_join s.places us ts (child_spots spot (word tag n k)) spots f.0.2 f.1;
                many = refl;
                row = h.after_is ∙ rw (words_all, append_assoc);
              };
        }

integer_here : (l : List ℕ) (at owed x : ℕ) (ts : Terms) → Stands l at owed (int x then ts) → IntegerHere l at owed (int x then ts)
unfolding Fit FitAll words words_of count
integer_here l at owed x ts s = go s.spots s.fit
  where
    go : (spots : List ℕ) → FitAll s.places (int x then ts) spots → IntegerHere l at owed (int x then ts)
    go [] f = absurd f
    go (spot ∷ spots) f =
        let two : at + length (integer_word ∷ x ∷ []) ≡ at + 2 = refl in
        record {
          payload = x;
          others = ts;
          is = refl;
          next =
              record {
                places = s.places;
                spots = spots;
                rest = s.rest;
                fit = f.1;
                many = omega (arith, s.many);
                row = drop_past l at (integer_word ∷ x ∷ []) (words_of ts ++ s.rest) s.row;
              };
        }

-- which of the two, by the tag of the first word
pub stands_integer : (l : List ℕ) (at owed : ℕ) (ts : Terms) → ¬ (owed ≡ 0) → tag_of (get_or l at 0) ≡ tag_integer → Stands l at owed ts → IntegerHere l at owed ts
unfolding count Fit FitAll words words_of
stands_integer l at owed end ne e s = absurd (ne (sym s.many))
stands_integer l at owed (int x then ts) ne e s = integer_here l at owed x ts s
stands_integer l at owed (node tag n k us then ts) ne e s = go s.spots s.fit
  where
    go : (spots : List ℕ) → FitAll s.places (node tag n k us then ts) spots → IntegerHere l at owed (node tag n k us then ts)
    go [] f = absurd f
    go (spot ∷ spots) f =
        let h = here l at (word tag n k) (words_of us ++ (words_of ts ++ s.rest)) (s.row ∙ rw append_assoc) in
        absurd (f.0.0.no_integer (sym (tag_word tag n k f.0.0.n_fits f.0.0.k_fits) ∙ sym (ap tag_of h.word_is) ∙ e))

pub stands_node : (l : List ℕ) (at owed : ℕ) (ts : Terms) → ¬ (owed ≡ 0) → ¬ (tag_of (get_or l at 0) ≡ tag_integer) → Stands l at owed ts → NodeHere l at owed ts
unfolding count words words_of
stands_node l at owed end ne d s = absurd (ne (sym s.many))
stands_node l at owed (int x then ts) ne d s = absurd (d (ap tag_of (here l at integer_word (x ∷ (words_of ts ++ s.rest)) s.row).word_is))
stands_node l at owed (node tag n k us then ts) ne d s = node_here l at owed tag n k us ts s
