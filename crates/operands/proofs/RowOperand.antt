-- Laws of operands: what they give, when two are the same value, and the operators on them.
use Prim.Native.Nat.{ℕ, ◌+◌, ◌<◌, ◌≤◌}
use mathlib.Core.Path.{◌≡◌, refl, sym, ap, ap₂, ◌∙◌, subst}
use mathlib.Core.Logic.{◌⊎◌, inl, inr}
use mathlib.Core.Bool.{Bool, true, false, cond, not, ◌&&◌, ◌||◌}
use mathlib.Core.Option.{Option as Maybe, none, some}
use mathlib.Core.List.{List}
use native.Mathlib.Omega.{arith}
use native.Mathlib.Decide.{ℕ_discrete}
use lib.Dec.{eqb, leb}
use lib.IntN.{ℤ, ◌+ℤ◌, ◌-ℤ◌, ◌*ℤ◌}
use lib.Signed.{lt_z, le_z, quot_z, rem_z}
use mir.Syntax.{w32}
use mir.Val.{SFits, Fits, of_z, to_z}
use mir.ValLaws.{to_z-of_z, of_z-to_z}
use Rattle.std.specs.Int.{CanDivide}
use Rattle.std.specs.Prelude.{Option, Some, None, SomeIff}
use lib.ListN.{length, get_or}
use Rattle.lists.proofs.Tests.{none_not_some, eqb_of, eqb_same, eqb_apart, leb-true, or_false, true_not_false}
use Rattle.term.specs.Words.{word, tag_of, n_of, k_of, integer_word, tag_integer, tag_cons, tag_tuple, tag_atom}
use Rattle.term.specs.Tree.{Term, Terms, int, node, end, ◌then◌, count, WholeAll}
use Rattle.term.specs.Value.{is_value, are_values}
use Rattle.machine.specs.Value.{same_term, same_terms, truth}
use Rattle.machine.specs.Operator.{signed, ranged, divided, on_integers, if_integers, operate, operate_on, op_add, op_subtract, op_multiply, op_div, op_rem, op_equal, op_unequal, op_less, op_at_most}
use Rattle.machine.specs.Guard.{operate_some, before_some}
use Rattle.row_laws.specs.Rows.{Stands, Plain}
use Rattle.operands.specs.Sames.{Sames}
use Rattle.operands.specs.declared.operand.Operand.{Operand}
use Rattle.operands.specs.declared.operand.Operand.TheVariants.{Short, Here, There}
use Rattle.operands.specs.Answers.{number}
use Rattle.operands.proofs.RowInteger.{and_true, unsigned_is, signed_is, read, checked, divided_checked}
use Rattle.row_laws.proofs.RowTerms.{node_at, integer_at, plain_whole, stands_within, as_row, one_term, head_of, no_children}
use Rattle.operands.proofs.RowSame.{other_heads}
use Rattle.term.proofs.WordLaws.{tag_word, n_word, k_word, word_parts}
use Rattle.operands.specs.Operands.{short_term, is_long, ShortIs, LongIs, Gives, GivesAnywhere, Computes, same_some, Equals, operate_both, Operates, StandsHere, StandsThere, SameShort, SameLong, integers_some, Arithmetic}

-- ---- on_integers, by its operator
module _ (op : ℕ) (x y : ℤ) (fx : SFits w32 x) (fy : SFits w32 y) where
  computes : (f : ℤ → ℤ → Maybe Term) → on_integers op x y ≡ f x y → (r : Option ℤ) → number r ≡ f (read w32 x) (read w32 y) → Computes op x y r
  unfolding Computes
  computes f e r h a b = h ∙ ap₂ f (to_z-of_z w32 x fx) (to_z-of_z w32 y fy) ∙ sym e

  module _ (r : Option ℤ) where
    pub computes_add : op ≡ op_add → SomeIff r (SFits w32 (read w32 x +ℤ read w32 y)) (read w32 x +ℤ read w32 y) → Computes op x y r
    unfolding on_integers
    computes_add e h = computes (λ u v. ranged (u +ℤ v)) (rw e) r (checked r _ h)

    pub computes_subtract : op ≡ op_subtract → SomeIff r (SFits w32 (read w32 x -ℤ read w32 y)) (read w32 x -ℤ read w32 y) → Computes op x y r
    unfolding on_integers
    computes_subtract e h = computes (λ u v. ranged (u -ℤ v)) (rw e) r (checked r _ h)

    pub computes_multiply : op ≡ op_multiply → SomeIff r (SFits w32 (read w32 x *ℤ read w32 y)) (read w32 x *ℤ read w32 y) → Computes op x y r
    unfolding on_integers
    computes_multiply e h = computes (λ u v. ranged (u *ℤ v)) (rw e) r (checked r _ h)

    pub computes_div : op ≡ op_div → SomeIff r (CanDivide w32 (read w32 x) (read w32 y)) (quot_z (read w32 x) (read w32 y)) → Computes op x y r
    unfolding on_integers
    computes_div e h = computes (λ u v. divided v (quot_z u v)) (rw e) r (divided_checked r (read w32 x) (read w32 y) (subst (SFits w32) (sym (to_z-of_z w32 y fy)) fy) h)

    pub computes_rem : op ≡ op_rem → number r ≡ divided (read w32 y) (rem_z (read w32 x) (read w32 y)) → Computes op x y r
    unfolding on_integers
    computes_rem e h = computes (λ u v. divided v (rem_z u v)) (rw e) r h

module _ (op : ℕ) (x y : ℤ) where
  pub computes_none : ¬ (op ≡ op_add) → ¬ (op ≡ op_subtract) → ¬ (op ≡ op_multiply) → ¬ (op ≡ op_div) → ¬ (op ≡ op_rem) → Computes op x y None
  unfolding Computes on_integers
  computes_none a b d e f g h =
      rw (eqb_apart op op_add a, eqb_apart op op_subtract b, eqb_apart op op_multiply d, eqb_apart op op_div e, eqb_apart op op_rem f, eqb_apart op op_less g, eqb_apart op op_at_most h)

  pub on_less : op ≡ op_less → on_integers op x y ≡ some (truth (lt_z x y))
  unfolding on_integers
  on_less e = rw e

  pub on_at_most : op ≡ op_at_most → on_integers op x y ≡ some (truth (le_z x y))
  unfolding on_integers
  on_at_most e = rw e

-- ---- short values
pub short_integer : (x : ℕ) → ShortIs integer_word x (some (int x))
unfolding short_term is_long
short_integer x = record { gives = refl; plain = λ d. absurd (d refl); short = refl }

pub short_true : GivesAnywhere (Some (Short 0x02000000 0)) (some (truth true))
unfolding GivesAnywhere Gives short_term is_long truth
short_true here there = record { gives = refl; plain = λ d. refl; short = refl }

pub short_false : GivesAnywhere (Some (Short 0x02000001 0)) (some (truth false))
unfolding GivesAnywhere Gives short_term is_long truth
short_false here there = record { gives = refl; plain = λ d. refl; short = refl }

pub truth_true : (b : Bool) → b ≡ true → GivesAnywhere (Some (Short 0x02000000 0)) (some (truth b))
truth_true b e = subst (λ (q : Bool). GivesAnywhere (Some (Short 0x02000000 0)) (some (truth q))) (sym e) short_true

pub truth_false : (b : Bool) → b ≡ false → GivesAnywhere (Some (Short 0x02000001 0)) (some (truth b))
truth_false b e = subst (λ (q : Bool). GivesAnywhere (Some (Short 0x02000001 0)) (some (truth q))) (sym e) short_false

pub number_value : (r : Option ℤ) (z : ℤ) (w : ℕ) → r ≡ Some z → SFits w32 z → w ≡ of_z w32 (read w32 z) → GivesAnywhere (Some (Short integer_word w)) (number r)
unfolding GivesAnywhere Gives
number_value r z w e f ew here there =
    subst (λ (q : Option ℤ). ShortIs integer_word w (number q)) (sym e) (subst (λ (j : ℕ). ShortIs integer_word w (some (int j))) (ew ∙ ap (of_z w32) (to_z-of_z w32 z f) ∙ sym (unsigned_is z)) (short_integer w))

pub number_stuck : (r : Option ℤ) (s : Option Operand) → r ≡ None → s ≡ None → GivesAnywhere s (number r)
unfolding GivesAnywhere Gives
number_stuck r s e es here there = subst (λ (q : Option Operand). Gives here there q (number r)) (sym es) (ap number e)

pub gives_same : (r : Option Operand) (o o' : Maybe Term) → GivesAnywhere r o → o ≡ o' → GivesAnywhere r o'
gives_same r o o' g e = subst (GivesAnywhere r) e g

-- on integers that were read from words
module _ (op a b : ℕ) (x y : ℤ) (fa : Fits w32 a) (fb : Fits w32 b) (ex : x ≡ to_z w32 a) (ey : y ≡ to_z w32 b) where
  left : read w32 x ≡ signed a
  left = ap (read w32) ex ∙ ap (to_z w32) (of_z-to_z w32 a fa) ∙ sym (signed_is a fa.fits)

  right : read w32 y ≡ signed b
  right = ap (read w32) ey ∙ ap (to_z w32) (of_z-to_z w32 b fb) ∙ sym (signed_is b fb.fits)

  compared : (test : ℤ → ℤ → Bool) → on_integers op (signed a) (signed b) ≡ some (truth (test (signed a) (signed b))) → (r : Option Operand) → GivesAnywhere r (some (truth (test (read w32 x) (read w32 y))))
      → GivesAnywhere r (on_integers op (signed a) (signed b))
  compared test e r g = gives_same r _ _ g (ap₂ (λ (u v : ℤ). some (truth (test u v))) left right ∙ sym e)

  pub less_gives : op ≡ op_less → (r : Option Operand) → GivesAnywhere r (some (truth (lt_z (read w32 x) (read w32 y)))) → GivesAnywhere r (on_integers op (signed a) (signed b))
  less_gives e r g = compared lt_z (on_less op (signed a) (signed b) e) r g

  pub at_most_gives : op ≡ op_at_most → (r : Option Operand) → GivesAnywhere r (some (truth (le_z (read w32 x) (read w32 y)))) → GivesAnywhere r (on_integers op (signed a) (signed b))
  at_most_gives e r g = compared le_z (on_at_most op (signed a) (signed b) e) r g

  pub computed_gives : ¬ (op ≡ op_less) → ¬ (op ≡ op_at_most) → (z : Option ℤ) → Computes op (read w32 x) (read w32 y) z → (r : Option Operand) → GivesAnywhere r (number z) → GivesAnywhere r (on_integers op (signed a) (signed b))
  unfolding Computes
  computed_gives d e z h r g = gives_same r _ _ g (h d e ∙ ap₂ (on_integers op) left right)

-- ---- a value that stands in a row, as an operand
value_tags : (tag n k : ℕ) (us : Terms) → is_value (node tag n k us) ≡ true → tag ≤ tag_tuple
unfolding is_value
value_tags tag n k us v = leb-true tag tag_tuple (go (leb tag_atom tag) (leb tag tag_tuple) (are_values us) v)
  where
    go : (a b c : Bool) → (a && b && c) ≡ true → b ≡ true
    go true true c e = refl
    go true false c e = e
    go false b c e = true_not_false e refl

long_tag : (tag n k : ℕ) (us : Terms) → (tag ≡ tag_cons) ⊎ (tag ≡ tag_tuple) → is_long (node tag n k us) ≡ true
unfolding is_long
long_tag tag n k us (inl e) = rw e
long_tag tag n k us (inr e) = rw e

short_tag : (tag n k : ℕ) (us : Terms) → ¬ (tag ≡ tag_cons) → ¬ (tag ≡ tag_tuple) → is_long (node tag n k us) ≡ false
unfolding is_long
short_tag tag n k us d e = or_false (eqb_apart tag tag_cons d) (eqb_apart tag tag_tuple e)

-- the word of a node without children
short_node : (tag n k : ℕ) → n < 256 → k < 65536 → ¬ (tag ≡ tag_integer) → short_term (word tag n k) 0 ≡ node tag n k end
unfolding short_term
short_node tag n k hn hk d =
    rw (eqb_apart (word tag n k) integer_word (λ e. d (sym (tag_word tag n k hn hk) ∙ ap tag_of e)), tag_word tag n k hn hk, n_word tag n k hn hk, k_word tag n k hk)

not_integer : (row : List ℕ) (at tag n k : ℕ) (us : Terms) → Stands row at (node tag n k us) → get_or row at 0 ≡ integer_word → ⊥
not_integer row at tag n k us s i =
    let h = head_of tag n k us s.plain in
    let o = node_at row at 1 _ tag n k us end s.rest h (one_term (node tag n k us)) (as_row row at (node tag n k us) s.rest s.here) refl in
    h.no_integer (sym o.tag_is ∙ ap tag_of i)

module _ (row : List ℕ) (at : ℕ) where
  pub here_past : length row ≤ at → (r : Option Operand) → StandsHere row at r
  unfolding StandsHere
  here_past h r there t s v = absurd (omega (arith, stands_within row at t s))

  module _ (w : ℕ) (ew : w ≡ get_or row at 0) (g : ℕ) (eg : g ≡ tag_of w) where
    tag_there : g ≡ tag_of (get_or row at 0)
    tag_there = eg ∙ ap tag_of ew

    pub here_long : (g ≡ tag_cons) ⊎ (¬ (g ≡ tag_cons) × (g ≡ tag_tuple)) → StandsHere row at (Some (Here at))
    unfolding StandsHere Gives Plain
    here_long l there (int x) s v =
        let i = (integer_at row at x end s.rest (as_row row at (int x) s.rest s.here)).tag_is in
        absurd (elim l [ inl e ↦ omega (arith, i, tag_there) | inr e ↦ omega (arith, i, tag_there) ])
    here_long l there (node tag n k us) s v =
        let o = node_at row at 1 _ tag n k us end s.rest s.plain.0 (one_term (node tag n k us)) (as_row row at (node tag n k us) s.rest s.here) refl in
        let q : g ≡ tag = tag_there ∙ o.tag_is in
        record { term = node tag n k us; gives = refl; stands = s; long = long_tag tag n k us (elim l [ inl e ↦ inl (sym q ∙ e) | inr e ↦ inr (sym q ∙ e.1) ]) }

    pub here_word : ¬ (g ≡ tag_cons) → ¬ (g ≡ tag_tuple) → ¬ (w ≡ integer_word) → StandsHere row at (Some (Short w 0))
    unfolding StandsHere Gives
    here_word d e i there (int x) s v = absurd (i (ew ∙ (integer_at row at x end s.rest (as_row row at (int x) s.rest s.here)).head))
    here_word d e i there (node tag n k us) s v = word_node tag n k us s v
      where
        word_node : (tag n k : ℕ) (us : Terms) → Stands row at (node tag n k us) → is_value (node tag n k us) ≡ true → ShortIs w 0 (some (node tag n k us))
        word_node tag n k us s v =
            let h = head_of tag n k us s.plain in
            let o = node_at row at 1 _ tag n k us end s.rest h (one_term (node tag n k us)) (as_row row at (node tag n k us) s.rest s.here) refl in
            let q : g ≡ tag = tag_there ∙ o.tag_is in
            let z = no_children tag n k us s.plain (omega (arith, value_tags tag n k us v, d, e, q)) in
            let is : short_term w 0 ≡ node tag n k us = ap (λ (j : ℕ). short_term j 0) (ew ∙ o.head) ∙ short_node tag n k h.n_fits h.k_fits h.no_integer ∙ ap (node tag n k) (sym z) in
            record { gives = ap some (sym is); plain = λ y. refl; short = ap is_long is ∙ short_tag tag n k us (λ y. d (q ∙ y)) (λ y. e (q ∙ y)) }

  module _ (w : ℕ) (ew : w ≡ get_or row at 0) (i : w ≡ integer_word) where
    pub here_cut : length row ≤ at + 1 → (r : Option Operand) → StandsHere row at r
    unfolding StandsHere
    here_cut h r there (int x) s v = absurd (omega (arith, (integer_at row at x end s.rest (as_row row at (int x) s.rest s.here)).within))
    here_cut h r there (node tag n k us) s v = absurd (not_integer row at tag n k us s (sym ew ∙ i))

    pub here_integer : (p : ℕ) → p ≡ get_or row (at + 1) 0 → StandsHere row at (Some (Short w p))
    unfolding StandsHere Gives
    here_integer p ep there (int x) s v =
        let o = integer_at row at x end s.rest (as_row row at (int x) s.rest s.here) in
        subst (λ (j : ℕ). ShortIs j p (some (int x))) (sym i) (subst (λ (y : ℕ). ShortIs integer_word y (some (int x))) (sym (ep ∙ o.payload)) (short_integer x))
    here_integer p ep there (node tag n k us) s v = absurd (not_integer row at tag n k us s (sym ew ∙ i))

-- ---- taken in another row
module _ (row : List ℕ) (at : ℕ) where
  pub there_stuck : (r : Option Operand) → StandsHere row at None → r ≡ None → StandsThere row at r
  unfolding StandsHere StandsThere Gives
  there_stuck r s e here t st v = none_not_some (sym (s here t st v))

  module _ (x : Operand) (s : StandsHere row at (Some x)) where
    pub there_here : (i : ℕ) → x ≡ Here i → StandsThere row at (Some (There i))
    unfolding StandsHere StandsThere Gives
    there_here i e here t st v = subst (λ (y : Operand). Gives row here (Some y) (some t)) e (s here t st v)

    pub there_same : ((i : ℕ) → x ≡ Here i → ⊥) → StandsThere row at (Some x)
    unfolding StandsHere StandsThere Gives
    there_same d here t st v = other x d (s row t st v)
      where
        -- but in its place in its own row it is the same in both
        other : (y : Operand) → ((i : ℕ) → y ≡ Here i → ⊥) → Gives row row (Some y) (some t) → Gives here row (Some y) (some t)
        other (Short w p) d g = g
        other (Here i) d g = absurd (d i refl)
        other (There i) d g = g

-- what an operand of a known form gives
module _ (y : Option Operand) where
  pub gives_short : (w p : ℕ) → y ≡ Some (Short w p) → (here there : List ℕ) (o : Maybe Term) → Gives here there y o → ShortIs w p o
  unfolding Gives
  gives_short w p e here there o g = subst (λ (z : Option Operand). Gives here there z o) e g

  pub gives_here : (i : ℕ) → y ≡ Some (Here i) → (here there : List ℕ) (o : Maybe Term) → Gives here there y o → LongIs here i o
  unfolding Gives
  gives_here i e here there o g = subst (λ (z : Option Operand). Gives here there z o) e g

  pub gives_there : (i : ℕ) → y ≡ Some (There i) → (here there : List ℕ) (o : Maybe Term) → Gives here there y o → LongIs there i o
  unfolding Gives
  gives_there i e here there o g = subst (λ (z : Option Operand). Gives here there z o) e g

  pub gives_stuck : y ≡ None → (here there : List ℕ) (o : Maybe Term) → Gives here there y o → o ≡ none
  unfolding Gives
  gives_stuck e here there o g = subst (λ (z : Option Operand). Gives here there z o) e g

  pub gives_some : (x : Operand) → y ≡ Some x → (here there : List ℕ) (o : Maybe Term) → Gives here there y o → (t : Term) × (o ≡ some t)
  unfolding Gives
  gives_some x e here there o g = of x (subst (λ (z : Option Operand). Gives here there z o) e g)
    where
      of : (x : Operand) → Gives here there (Some x) o → (t : Term) × (o ≡ some t)
      of (Short w p) g = (short_term w p, g.gives)
      of (Here i) g = (g.term, g.gives)
      of (There i) g = (g.term, g.gives)

-- ---- the same value
pub same_self : (w x : ℕ) → same_term (short_term w x) (short_term w x) ≡ true
unfolding same_term same_terms short_term
same_self w x = go (eqb w integer_word)
  where
    go : (b : Bool) → same_term (cond b (int x) (node (tag_of w) (n_of w) (k_of w) end)) (cond b (int x) (node (tag_of w) (n_of w) (k_of w) end)) ≡ true
    go true = eqb_same x
    go false = rw (eqb_same (tag_of w), eqb_same (n_of w), eqb_same (k_of w))

pub short_differ : (w x v y : ℕ) → ¬ (w ≡ v) → same_term (short_term w x) (short_term v y) ≡ false
unfolding short_term same_term same_terms
short_differ w x v y d = go (ℕ_discrete w integer_word) (ℕ_discrete v integer_word)
  where
    go : Dec (w ≡ integer_word) → Dec (v ≡ integer_word) → same_term (short_term w x) (short_term v y) ≡ false
    go (yes a) (yes b) = absurd (d (a ∙ sym b))
    go (yes a) (no b) = rw (eqb_of w integer_word a, eqb_apart v integer_word b)
    go (no a) (yes b) = rw (eqb_apart w integer_word a, eqb_of v integer_word b)
    go (no a) (no b) =
        rw (eqb_apart w integer_word a, eqb_apart v integer_word b)
        (other_heads (tag_of w) (n_of w) (k_of w) end (tag_of v) (n_of v) (k_of v) end (λ e. d (sym (word_parts w) ∙ e ∙ word_parts v)))

payload_differs : (w x y : ℕ) → ¬ (x ≡ y) → (¬ (w ≡ integer_word) → x ≡ 0) → (¬ (w ≡ integer_word) → y ≡ 0) → same_term (short_term w x) (short_term w y) ≡ false
unfolding short_term same_term
payload_differs w x y d p q = go (ℕ_discrete w integer_word)
  where
    go : Dec (w ≡ integer_word) → same_term (short_term w x) (short_term w y) ≡ false
    go (yes a) = rw (eqb_of w integer_word a) (eqb_apart x y d)
    go (no a) = absurd (d (p a ∙ sym (q a)))

-- a cons or tuple and another value
pub long_short : (t u : Term) → is_long t ≡ true → is_long u ≡ false → (same_term t u ≡ false) × (same_term u t ≡ false)
unfolding is_long same_term same_terms
long_short (int x) u l s = true_not_false l refl
long_short (node tag n k us) (int y) l s = (refl, refl)
long_short (node tag n k us) (node tag' n' k' us') l s = (rw (eqb_apart tag tag' differ), rw (eqb_apart tag' tag (λ e. differ (sym e))))
  where
    differ : tag ≡ tag' → ⊥
    differ e = true_not_false l (ap (λ (j : ℕ). eqb j tag_cons || eqb j tag_tuple) e ∙ s)

module _ (w x : ℕ) (y : Operand) where
  pub same_shorts : (v q : ℕ) → y ≡ Short v q → w ≡ v → SameShort w x y (eqb x q)
  unfolding SameShort same_some
  same_shorts v q e h here there o p a b = go (gives_short (Some y) v q (ap Some e) here there p b) (ℕ_discrete x q)
    where
      go : ShortIs v q p → Dec (x ≡ q) → eqb x q ≡ same_some o p
      go c (yes f) = eqb_of x q f ∙ sym (ap₂ same_some a.gives c.gives ∙ ap₂ (λ (i j : ℕ). same_term (short_term w x) (short_term i j)) (sym h) (sym f) ∙ same_self w x)
      go c (no f) =
          eqb_apart x q f
          ∙ sym (ap₂ same_some a.gives c.gives ∙ ap (λ (i : ℕ). same_term (short_term w x) (short_term i q)) (sym h) ∙ payload_differs w x q f a.plain (λ z. c.plain (λ g. z (h ∙ g))))

  pub same_short_differs : (v q : ℕ) → y ≡ Short v q → ¬ (w ≡ v) → SameShort w x y (eqb w v)
  unfolding SameShort same_some
  same_short_differs v q e d here there o p a b =
      eqb_apart w v d ∙ sym (ap₂ same_some a.gives (gives_short (Some y) v q (ap Some e) here there p b).gives ∙ short_differ w x v q d)

  pub short_no_long : ((v q : ℕ) → y ≡ Short v q → ⊥) → SameShort w x y false
  unfolding SameShort same_some Gives
  short_no_long d here there o p a b = go y d b
    where
      long : (row : List ℕ) (j : ℕ) → LongIs row j p → false ≡ same_some o p
      long row j c = sym (ap₂ same_some a.gives c.gives ∙ (long_short c.term (short_term w x) c.long a.short).1)

      go : (z : Operand) → ((v q : ℕ) → z ≡ Short v q → ⊥) → Gives here there (Some z) p → false ≡ same_some o p
      go (Short v q) d g = absurd (d v q refl)
      go (Here j) d g = long here j g
      go (There j) d g = long there j g

module _ (row : List ℕ) (i : ℕ) (here there : List ℕ) (y : Operand) where
  pub long_past : length row ≤ i → SameLong row i here there y false
  unfolding SameLong
  long_past h o p a b = absurd (omega (arith, stands_within row i a.term a.stands))

  both_stand : (other : List ℕ) (j : ℕ) (r : Bool) → Sames row i other j 1 r → (o p : Maybe Term) → LongIs row i o → LongIs other j p → r ≡ same_some o p
  unfolding Sames WholeAll count same_some same_terms
  both_stand other j r s o p a c =
      let t = a.term in
      let u = c.term in
      s (t then end) (u then end) a.stands.rest c.stands.rest (plain_whole t a.stands.plain, tt) (plain_whole u c.stands.plain, tt) refl refl
      (as_row row i t a.stands.rest a.stands.here) (as_row other j u c.stands.rest c.stands.here)
      ∙ and_true (same_term t u) ∙ sym (ap₂ same_some a.gives c.gives)

  pub long_here_same : (j : ℕ) (r : Bool) → y ≡ Here j → Sames row i here j 1 r → SameLong row i here there y r
  unfolding SameLong
  long_here_same j r e s o p a b = both_stand here j r s o p a (gives_here (Some y) j (ap Some e) here there p b)

  pub long_there_same : (j : ℕ) (r : Bool) → y ≡ There j → Sames row i there j 1 r → SameLong row i here there y r
  unfolding SameLong
  long_there_same j r e s o p a b = both_stand there j r s o p a (gives_there (Some y) j (ap Some e) here there p b)

  pub long_no_short : (v q : ℕ) → y ≡ Short v q → SameLong row i here there y false
  unfolding SameLong same_some
  long_no_short v q e o p a b = let c = gives_short (Some y) v q (ap Some e) here there p b in sym (ap₂ same_some a.gives c.gives ∙ (long_short a.term (short_term v q) a.long c.short).0)

module _ (here there : List ℕ) (x y : Option Operand) where
  pub equal_stuck : x ≡ None → Equals here there x y false
  unfolding Equals same_some
  equal_stuck e o q a b = sym (ap (λ (z : Maybe Term). same_some z q) (gives_stuck x e here there o a))

  pub equal_stuck_second : y ≡ None → Equals here there x y false
  unfolding Equals same_some
  equal_stuck_second e o q a b = sym (ap (same_some o) (gives_stuck y e here there q b) ∙ none_second o)
    where
      none_second : (o : Maybe Term) → same_some o none ≡ false
      none_second none = refl
      none_second (some a) = refl

  module _ (u v : Operand) (ex : x ≡ Some u) (ey : y ≡ Some v) where
    pub equal_short : (w p : ℕ) (r : Bool) → u ≡ Short w p → SameShort w p v r → Equals here there x y r
    unfolding Equals SameShort
    equal_short w p r e s o q a b = s here there o q (gives_short x w p (ex ∙ ap Some e) here there o a) (subst (λ (z : Option Operand). Gives here there z q) ey b)

    pub equal_here : (i : ℕ) (r : Bool) → u ≡ Here i → SameLong here i here there v r → Equals here there x y r
    unfolding Equals SameLong
    equal_here i r e s o q a b = s o q (gives_here x i (ex ∙ ap Some e) here there o a) (subst (λ (z : Option Operand). Gives here there z q) ey b)

    pub equal_there : (i : ℕ) (r : Bool) → u ≡ There i → SameLong there i here there v r → Equals here there x y r
    unfolding Equals SameLong
    equal_there i r e s o q a b = s o q (gives_there x i (ex ∙ ap Some e) here there o a) (subst (λ (z : Option Operand). Gives here there z q) ey b)

-- ---- operators that need integers
pub short_is_node : (w x : ℕ) → ¬ (w ≡ integer_word) → short_term w x ≡ node (tag_of w) (n_of w) (k_of w) end
unfolding short_term
short_is_node w x d = rw (eqb_apart w integer_word d)

pub short_is_integer : (w x : ℕ) → w ≡ integer_word → short_term w x ≡ int x
unfolding short_term
short_is_integer w x e = rw (eqb_of w integer_word e)

long_no_integers : (op : ℕ) (t u : Term) → is_long t ≡ true → (if_integers op t u ≡ none) × (if_integers op u t ≡ none)
unfolding is_long if_integers
long_no_integers op (int x) u l = true_not_false l refl
long_no_integers op (node tag n k us) (int y) l = (refl, refl)
long_no_integers op (node tag n k us) (node tag' n' k' us') l = (refl, refl)

stuck_second : (op : ℕ) (o : Maybe Term) → integers_some op o none ≡ none
unfolding integers_some
stuck_second op none = refl
stuck_second op (some a) = refl

-- what is no integer: a long value, or a word that is not an integer's
unfoldable NoInteger : Term → Type 0
NoInteger t = (op : ℕ) (u : Term) → (if_integers op t u ≡ none) × (if_integers op u t ≡ none)

long_no_integer : (t : Term) → is_long t ≡ true → NoInteger t
unfolding NoInteger
long_no_integer t l op u = long_no_integers op t u l

word_no_integer : (w p : ℕ) → ¬ (w ≡ integer_word) → NoInteger (short_term w p)
unfolding NoInteger if_integers
word_no_integer w p d op u = rw (short_is_node w p d) (node_no_integers op u)
  where
    node_no_integers : (op : ℕ) (u : Term) → (if_integers op (node (tag_of w) (n_of w) (k_of w) end) u ≡ none) × (if_integers op u (node (tag_of w) (n_of w) (k_of w) end) ≡ none)
    node_no_integers op (int y) = (refl, refl)
    node_no_integers op (node tag n k us) = (refl, refl)

no_integer_first : (op : ℕ) (t : Term) (p : Maybe Term) → NoInteger t → integers_some op (some t) p ≡ none
unfolding integers_some NoInteger
no_integer_first op t none d = refl
no_integer_first op t (some u) d = (d op u).0

no_integer_second : (op : ℕ) (o : Maybe Term) (t : Term) → NoInteger t → integers_some op o (some t) ≡ none
unfolding integers_some NoInteger
no_integer_second op none t d = refl
no_integer_second op (some u) t d = (d op u).1

-- an operand that is no integer
module _ (here there : List ℕ) (y : Operand) (o : Maybe Term) (g : Gives here there (Some y) o) where
  other_word : (w p : ℕ) → y ≡ Short w p → ¬ (w ≡ integer_word) → (t : Term) × (o ≡ some t) × NoInteger t
  other_word w p e d = (short_term w p, (gives_short (Some y) w p (ap Some e) here there o g).gives, word_no_integer w p d)

  no_short : ((w p : ℕ) → y ≡ Short w p → ⊥) → (t : Term) × (o ≡ some t) × NoInteger t
  unfolding Gives
  no_short d = go y d g
    where
      go : (z : Operand) → ((w p : ℕ) → z ≡ Short w p → ⊥) → Gives here there (Some z) o → (t : Term) × (o ≡ some t) × NoInteger t
      go (Short w p) d g = absurd (d w p refl)
      go (Here i) d g = (g.term, g.gives, long_no_integer g.term g.long)
      go (There i) d g = (g.term, g.gives, long_no_integer g.term g.long)

module _ (op : ℕ) (x y : Operand) where
  first_no_integer : ((here there : List ℕ) (o : Maybe Term) → Gives here there (Some x) o → (t : Term) × (o ≡ some t) × NoInteger t) → Arithmetic op x y None
  unfolding Arithmetic Gives
  first_no_integer f here there o p a b = let z = f here there o a in ap (λ (q : Maybe Term). integers_some op q p) z.1 ∙ no_integer_first op z.0 p z.2

  second_no_integer : ((here there : List ℕ) (o : Maybe Term) → Gives here there (Some y) o → (t : Term) × (o ≡ some t) × NoInteger t) → Arithmetic op x y None
  unfolding Arithmetic Gives
  second_no_integer f here there o p a b = let z = f here there p b in ap (integers_some op o) z.1 ∙ no_integer_second op o z.0 z.2

  pub first_long : ((w p : ℕ) → x ≡ Short w p → ⊥) → Arithmetic op x y None
  first_long d = first_no_integer (λ here there o g. no_short here there x o g d)

  pub second_long : ((w p : ℕ) → y ≡ Short w p → ⊥) → Arithmetic op x y None
  second_long d = second_no_integer (λ here there o g. no_short here there y o g d)

  module _ (w a v b : ℕ) (ex : x ≡ Short w a) (ey : y ≡ Short v b) where
    pub no_integers : (¬ (w ≡ integer_word)) ⊎ ((w ≡ integer_word) × ¬ (v ≡ integer_word)) → Arithmetic op x y None
    no_integers (inl d) = first_no_integer (λ here there o g. other_word here there x o g w a ex d)
    no_integers (inr d) = second_no_integer (λ here there o g. other_word here there y o g v b ey d.1)

    pub both_integers : w ≡ integer_word → v ≡ integer_word → (r : Option Operand) → GivesAnywhere r (on_integers op (signed a) (signed b)) → Arithmetic op x y r
    unfolding Arithmetic GivesAnywhere integers_some if_integers
    both_integers ew ev r g here there o p h i =
        let left : o ≡ some (int a) = (gives_short (Some x) w a (ap Some ex) here there o h).gives ∙ ap some (short_is_integer w a ew) in
        let right : p ≡ some (int b) = (gives_short (Some y) v b (ap Some ey) here there p i).gives ∙ ap some (short_is_integer v b ev) in
        subst (Gives here there r) (sym (ap₂ (integers_some op) left right)) (g here there)

-- ---- any operator
operate_none : (op : ℕ) (p : Maybe Term) → operate_both op none p ≡ none
unfolding operate_both before_some operate_some
operate_none op p = refl

operate_none_second : (op : ℕ) (o : Maybe Term) → operate_both op o none ≡ none
unfolding operate_both before_some operate_some
operate_none_second op none = refl
operate_none_second op (some a) = refl

operate_equal : (op : ℕ) (a b : Term) → op ≡ op_equal → operate_both op (some a) (some b) ≡ some (truth (same_term a b))
unfolding operate_both before_some operate_some operate_on operate
operate_equal op a b e = rw e

operate_unequal : (op : ℕ) (a b : Term) → op ≡ op_unequal → operate_both op (some a) (some b) ≡ some (truth (not (same_term a b)))
unfolding operate_both before_some operate_some operate_on operate
operate_unequal op a b e = rw e

operate_integers : (op : ℕ) (a b : Term) → ¬ (op ≡ op_equal) → ¬ (op ≡ op_unequal) → operate_both op (some a) (some b) ≡ integers_some op (some a) (some b)
unfolding operate_both before_some operate_some operate_on operate integers_some
operate_integers op a b d e = rw (eqb_apart op op_equal d, eqb_apart op op_unequal e)

module _ (here there : List ℕ) (op : ℕ) (x y : Option Operand) where
  pub operate_stuck : (r : Option Operand) → x ≡ None → r ≡ None → Operates here there op x y r
  unfolding Operates Gives
  operate_stuck r e er o p g h = subst (λ (q : Option Operand). Gives here there q (operate_both op o p)) (sym er) (ap (λ (z : Maybe Term). operate_both op z p) (gives_stuck x e here there o g) ∙ operate_none op p)

  pub operate_stuck_second : (r : Option Operand) → y ≡ None → r ≡ None → Operates here there op x y r
  unfolding Operates Gives
  operate_stuck_second r e er o p g h = subst (λ (q : Option Operand). Gives here there q (operate_both op o p)) (sym er) (ap (operate_both op o) (gives_stuck y e here there p h) ∙ operate_none_second op o)

  module _ (u v : Operand) (ex : x ≡ Some u) (ey : y ≡ Some v) where
    both : (o p : Maybe Term) → Gives here there x o → Gives here there y p → (a : Term) × (b : Term) × (o ≡ some a) × (p ≡ some b)
    both o p g h = let s = gives_some x u ex here there o g in let t = gives_some y v ey here there p h in (s.0, t.0, s.1, t.1)

    pub operates_equal : op ≡ op_equal → (q : Bool) → Equals here there x y q → (r : Option Operand) → GivesAnywhere r (some (truth q)) → Operates here there op x y r
    unfolding Operates Equals GivesAnywhere same_some
    operates_equal e q s r gr o p g h =
        let z = both o p g h in
        let w : some (truth q) ≡ operate_both op o p =
        ap (λ (b : Bool). some (truth b)) (s o p g h ∙ ap₂ same_some z.2 z.3) ∙ sym (operate_equal op z.0 z.1 e) ∙ sym (ap₂ (operate_both op) z.2 z.3) in
        subst (Gives here there r) w (gr here there)

    pub operates_unequal : op ≡ op_unequal → (q : Bool) → Equals here there x y q → (r : Option Operand) → GivesAnywhere r (some (truth (not q))) → Operates here there op x y r
    unfolding Operates Equals GivesAnywhere same_some
    operates_unequal e q s r gr o p g h =
        let z = both o p g h in
        let w : some (truth (not q)) ≡ operate_both op o p =
        ap (λ (b : Bool). some (truth (not b))) (s o p g h ∙ ap₂ same_some z.2 z.3) ∙ sym (operate_unequal op z.0 z.1 e) ∙ sym (ap₂ (operate_both op) z.2 z.3) in
        subst (Gives here there r) w (gr here there)

    pub operates_integers : ¬ (op ≡ op_equal) → ¬ (op ≡ op_unequal) → (r : Option Operand) → Arithmetic op u v r → Operates here there op x y r
    unfolding Operates Arithmetic
    operates_integers d e r s o p g h =
        let z = both o p g h in
        subst (Gives here there r) (ap₂ (integers_some op) z.2 z.3 ∙ sym (operate_integers op z.0 z.1 d e) ∙ sym (ap₂ (operate_both op) z.2 z.3))
        (s here there o p (subst (λ (q : Option Operand). Gives here there q o) ex g) (subst (λ (q : Option Operand). Gives here there q p) ey h))
