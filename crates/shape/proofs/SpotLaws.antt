-- The code's tables of spots hold what the definitions say: which tags may stand where, how many k they have, which spots are below.
use Prim.Native.Nat.{ℕ, zero, suc, ◌+◌, ◌≤◌, ◌<◌}
use native.Mathlib.Decide.{ℕ_discrete}
use mathlib.Core.Logic.{inl, inr}
use mathlib.Core.Path.{◌≡◌, refl, sym, ap, ◌∙◌}
use mathlib.Core.Bool.{Bool, true, false, not, ◌&&◌, ◌||◌}
use mathlib.Core.List.{List, [], ◌∷◌, append-nil}
use native.Mathlib.Omega.{arith}
use lib.Dec.{eqb, leb, ltb}
use Rattle.lists.specs.Lists.{member}
use Rattle.lists.proofs.Tests.{eqb_of, eqb_apart, cond_true, cond_false, leb_of, leb-true, eqb-true, and_left, and_right, and_of, or_true, or_left, or_right, true_not_false}
use Rattle.term.specs.Words.{tag_of, n_of, k_of, tag_pid, tag_call}
use Rattle.term.specs.Table.{Children, alike, body, of_clause, of_case, of_receive, row_of, tags_at, k_limit, fits, own_spot, spots_below, child_spots, spot_guard, spot_value, spot_function, spot_expression, spot_pattern, spot_clause}
use Rattle.shape.specs.declared.shape.Spots.{Spots}
use Rattle.shape.specs.Reading.{RunsOf, one_run}

or_nothing : (b : Bool) → (b || false) ≡ b
or_nothing true = refl
or_nothing false = refl

no_tags : (places spot : ℕ) → ¬ (spot ≡ spot_expression) → ¬ (spot ≡ spot_value) → ¬ (spot ≡ spot_pattern) → ¬ (spot ≡ spot_guard) → ¬ (spot ≡ spot_clause) → ¬ (spot ≡ spot_function) → tags_at places spot ≡ []
unfolding tags_at
no_tags places zero a b c d e f = absurd (f refl)
no_tags places (suc zero) a b c d e f = absurd (a refl)
no_tags places (suc (suc zero)) a b c d e f = absurd (c refl)
no_tags places (suc (suc (suc zero))) a b c d e f = absurd (d refl)
no_tags places (suc (suc (suc (suc zero)))) a b c d e f = absurd (e refl)
no_tags places (suc (suc (suc (suc (suc zero))))) a b c d e f = absurd (b refl)
no_tags places (suc (suc (suc (suc (suc (suc spot)))))) a b c d e f = refl

-- lists with the same members
within : List ℕ → List ℕ → Bool
within [] js = true
within (k ∷ ks) js = member k js && within ks js

within_member : (x : ℕ) (ks js : List ℕ) → within ks js ≡ true → member x ks ≡ true → member x js ≡ true
unfolding within member
within_member x [] js w m = true_not_false m refl
within_member x (k ∷ ks) js w m = elim (or_true (eqb x k) (member x ks) m) [
  | inl e ↦ ap (λ (j : ℕ). member j js) (eqb-true x k e) ∙ and_left (member k js) (within ks js) w
  | inr e ↦ within_member x ks js (and_right (member k js) (within ks js) w) e
]

same_truth : (a b : Bool) → (a ≡ true → b ≡ true) → (b ≡ true → a ≡ true) → a ≡ b
same_truth true b f g = sym (f refl)
same_truth false true f g = g refl
same_truth false false f g = refl

same_members : (x : ℕ) (ks js : List ℕ) → within ks js ≡ true → within js ks ≡ true → member x ks ≡ member x js
same_members x ks js a b = same_truth (member x ks) (member x js) (within_member x ks js a) (within_member x js ks b)

-- n numbers from one on, and whether one is among them
run : (first n : ℕ) → List ℕ
run first zero = []
run first (suc n) = first ∷ run (suc first) n

run_holds : (x first n : ℕ) → member x (run first n) ≡ true → (first ≤ x) × (x < first + n)
unfolding run member
run_holds x first zero m = true_not_false m refl
run_holds x first (suc n) m = elim (or_true (eqb x first) (member x (run (suc first) n)) m) [
  | inl e ↦ let i = eqb-true x first e in (omega arith, omega arith)
  | inr e ↦ let h = run_holds x (suc first) n e in (omega (arith, h.0), omega (arith, h.1))
]

run_has : (x first n : ℕ) → first ≤ x → x < first + n → member x (run first n) ≡ true
unfolding run member
run_has x first zero h g = absurd (omega arith)
run_has x first (suc n) h g = elim (ℕ_discrete x first) [
  | yes e ↦ or_left (member x (run (suc first) n)) (eqb_of x first e)
  | no d ↦ or_right (eqb x first) (run_has x (suc first) n (omega arith) (omega arith))
]

in_run : (x first n : ℕ) → member x (run first (suc n)) ≡ (leb first x && leb x (first + n))
in_run x first n =
    same_truth (member x (run first (suc n))) (leb first x && leb x (first + n))
    (λ m. let h = run_holds x first (suc n) m in and_of (leb_of first x h.0) (leb_of x (first + n) (omega (arith, h.1))))
    (λ b. let h = leb-true first x (and_left (leb first x) (leb x (first + n)) b) in
    let g = leb-true x (first + n) (and_right (leb first x) (leb x (first + n)) b) in
    run_has x first (suc n) h (omega arith))

-- whether a tag may stand in a guard, by the tests of the code
module _ (places tag : ℕ) where
  pub guard_call : tag ≡ tag_call → true ≡ member tag (tags_at places spot_guard)
  unfolding tags_at member
  guard_call e = sym (rw e refl)

  module _ (d : ¬ (tag ≡ tag_call)) where
    pub guard_control : ¬ (places ≡ 0) → (r : Bool) → r ≡ (leb 1 tag && leb tag 7) → r ≡ member tag (tags_at places spot_guard)
    unfolding tags_at within run member
    guard_control z r h =
        h ∙ sym (in_run tag 1 6) ∙ sym (rw (eqb_apart tag 8 d) at (same_members tag (1 ∷ 2 ∷ 3 ∷ 5 ∷ 8 ∷ 4 ∷ 6 ∷ 7 ∷ []) (8 ∷ 1 ∷ 2 ∷ 3 ∷ 4 ∷ 5 ∷ 6 ∷ 7 ∷ []) refl refl)) ∙ rw (eqb_apart places 0 z, eqb_apart tag 8 d) refl

    pub guard_pid : places ≡ 0 → tag ≡ tag_pid → not (eqb tag tag_pid) ≡ member tag (tags_at places spot_guard)
    unfolding tags_at member
    guard_pid z e = rw (z, e) refl

    pub guard_module : places ≡ 0 → ¬ (tag ≡ tag_pid) → (r : Bool) → r ≡ (leb 1 tag && leb tag 5) → r ≡ member tag (tags_at places spot_guard)
    unfolding tags_at run member
    guard_module z p r h = h ∙ sym (rw (eqb_apart tag 4 p) at (in_run tag 1 4)) ∙ sym (rw (z, eqb_apart tag 8 d) refl)

-- whether a tag may stand at a spot, by the tests of the code
module _ (places spot tag : ℕ) where
  pub stands_expression : spot ≡ spot_expression → (r : Bool) → r ≡ (leb 1 tag && leb tag 16) → r ≡ member tag (tags_at places spot)
  unfolding tags_at run
  stands_expression e r h = h ∙ rw e (sym (in_run tag 1 15))

  pub stands_value : spot ≡ spot_value → (r : Bool) → r ≡ (leb 2 tag && leb tag 7) → r ≡ member tag (tags_at places spot)
  unfolding tags_at run
  stands_value e r h = h ∙ rw e (sym (in_run tag 2 5))

  pub stands_no_pid : spot ≡ spot_pattern → tag ≡ tag_pid → not (eqb tag tag_pid) ≡ member tag (tags_at places spot)
  unfolding tags_at member
  stands_no_pid e p = rw (e, p) refl

  pub stands_pattern : spot ≡ spot_pattern → ¬ (tag ≡ tag_pid) → (r : Bool) → r ≡ (leb 1 tag && leb tag 7) → r ≡ member tag (tags_at places spot)
  unfolding tags_at run member
  stands_pattern e p r h = h ∙ sym (rw (eqb_apart tag 4 p) at (in_run tag 1 6)) ∙ sym (rw e refl)

  pub stands_guard : spot ≡ spot_guard → (r : Bool) → r ≡ member tag (tags_at places spot_guard) → r ≡ member tag (tags_at places spot)
  stands_guard e r h = h ∙ rw e refl

  pub stands_clause : spot ≡ spot_clause → eqb tag 17 ≡ member tag (tags_at places spot)
  unfolding tags_at member
  stands_clause e = rw e (sym (or_nothing (eqb tag 17)))

  pub stands_function : spot ≡ spot_function → eqb tag 18 ≡ member tag (tags_at places spot)
  unfolding tags_at member
  stands_function e = rw e (sym (or_nothing (eqb tag 18)))

  pub stands_nowhere : ¬ (spot ≡ spot_expression) → ¬ (spot ≡ spot_value) → ¬ (spot ≡ spot_pattern) → ¬ (spot ≡ spot_guard) → ¬ (spot ≡ spot_clause) → ¬ (spot ≡ spot_function) → false ≡ member tag (tags_at places spot)
  unfolding member
  stands_nowhere a b c d e f = sym (rw (no_tags places spot a b c d e f) refl)

-- how many k a tag has
pub limit_pid : (places tag : ℕ) → tag ≡ tag_pid → places ≡ k_limit places tag
unfolding k_limit
limit_pid places tag e = sym (cond_true places (row_of tag).limit (eqb_of tag tag_pid e))

pub limit_other : (places tag : ℕ) → ¬ (tag ≡ tag_pid) → (r : ℕ) → r ≡ (row_of tag).limit → r ≡ k_limit places tag
unfolding k_limit
limit_other places tag d r e = e ∙ sym (cond_false places (row_of tag).limit (eqb_apart tag tag_pid d))

-- the spot of children of a word's own kind
pub own_other : (spot tag : ℕ) → ¬ (spot ≡ spot_guard) → spot ≡ own_spot spot tag
unfolding own_spot
own_other spot tag d = sym (rw (eqb_apart spot spot_guard d))

pub own_call : (spot tag : ℕ) → spot ≡ spot_guard → tag ≡ tag_call → spot ≡ own_spot spot tag
unfolding own_spot
own_call spot tag e c = sym (rw (eqb_of spot spot_guard e, eqb_of tag tag_call c))

pub own_value : (spot tag : ℕ) → spot ≡ spot_guard → ¬ (tag ≡ tag_call) → spot_value ≡ own_spot spot tag
unfolding own_spot
own_value spot tag e d = sym (rw (eqb_of spot spot_guard e, eqb_apart tag tag_call d))

and_group : (a b c d : Bool) → (a && (b && (c && d))) ≡ (a && ((b && c) && d))
and_group true true c d = refl
and_group true false c d = refl
and_group false b c d = refl

fits_grouped : (places spot w : ℕ)
    → fits places spot w ≡ (member (tag_of w) (tags_at places spot) && ((leb (row_of (tag_of w)).least (n_of w) && leb (n_of w) (row_of (tag_of w)).greatest) && ltb (k_of w) (k_limit places (tag_of w))))
unfolding fits
fits_grouped places spot w = and_group (member (tag_of w) (tags_at places spot)) (leb (row_of (tag_of w)).least (n_of w)) (leb (n_of w) (row_of (tag_of w)).greatest) (ltb (k_of w) (k_limit places (tag_of w)))

-- whether a word fits, by the tests of the code over the values that it reads
module _ (places spot w t : ℕ) (et : t ≡ tag_of w) (s : Bool) (es : s ≡ member t (tags_at places spot)) where
  pub fits_not : s ≡ false → false ≡ fits places spot w
  fits_not e = sym (fits_grouped places spot w ∙ rw (← et, ← es, e))

  module _ (ts : s ≡ true) (n : ℕ) (en : n ≡ n_of w) (m : Bool) (em : m ≡ (leb (row_of t).least n && leb n (row_of t).greatest)) where
    pub fits_n : m ≡ false → false ≡ fits places spot w
    fits_n e = sym (fits_grouped places spot w ∙ rw (← et, ← es, ts, ← en, ← em, e))

    pub fits_k : m ≡ true → (y : ℕ) → y ≡ k_of w → (x : ℕ) → x ≡ k_limit places t → ltb y x ≡ fits places spot w
    fits_k e y ey x ex = sym (fits_grouped places spot w ∙ rw (← et, ← es, ts, ← en, ← em, e, ← ey, ← ex))

-- the spots below a word, by what stands there
module _ (spot w n : ℕ) (en : n ≡ n_of w) (t : ℕ) (et : t ≡ tag_of w) where
  below_is : (c : Children) → c ≡ (row_of t).children → spots_below c spot t n ≡ child_spots spot w
  unfolding child_spots
  below_is c e = ap (λ (d : Children). spots_below d spot t n) e ∙ rw (et, en) refl

  pub runs_clause : of_clause ≡ (row_of t).children → RunsOf spot w (record { first = spot_pattern; firsts = 1; second = spot_guard; seconds = 1; third = spot_expression; thirds = 1 })
  unfolding spots_below
  runs_clause e = below_is of_clause e

  pub runs_case : of_case ≡ (row_of t).children → RunsOf spot w (record { first = spot_expression; firsts = 1; second = spot_clause; seconds = n; third = spot_expression; thirds = 0 })
  unfolding spots_below
  runs_case e = rw append-nil (below_is of_case e)

  pub runs_receive : of_receive ≡ (row_of t).children → (r : Spots) → r ≡ one_run spot_clause n → RunsOf spot w r
  unfolding spots_below
  runs_receive e r er = rw (er, append-nil) (below_is of_receive e)

  pub runs_body : body ≡ (row_of t).children → (r : Spots) → r ≡ one_run spot_expression 1 → RunsOf spot w r
  unfolding spots_below
  runs_body e r er = rw (er, append-nil) (below_is body e)

  pub runs_alike : alike ≡ (row_of t).children → (o : ℕ) → o ≡ own_spot spot t → (r : Spots) → r ≡ one_run o n → RunsOf spot w r
  unfolding spots_below
  runs_alike e o eo r er = rw (er, append-nil, eo) (below_is alike e)
