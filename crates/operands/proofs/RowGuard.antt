-- Laws of guards in rows: the steps of `guard`.
use Prim.Native.Nat.{ℕ, suc, ◌+◌, ◌-◌, ◌≤◌}
use mathlib.Core.Path.{◌≡◌, refl, sym, ap, ap₂, ◌∙◌, subst}
use mathlib.Core.Logic.{inl, inr}
use mathlib.Core.Bool.{Bool, true, false, ◌&&◌}
use mathlib.Core.Option.{Option as Maybe, none, some}
use mathlib.Core.List.{List, ◌++◌, append_assoc, append-nil}
use native.Mathlib.Omega.{arith}
use native.Mathlib.Decide.{ℕ_discrete}
use lib.Dec.{eqb, leb}
use lib.ListN.{length, drop, get_or, length-append, get_or-eq_default}
use Rattle.std.specs.Prelude.{Option, Some, None}
use Rattle.lists.proofs.Tests.{eqb_of, eqb_apart, and_left, and_right, leb-true, true_not_false}
use Rattle.term.specs.Words.{tag_of, k_of, tag_tuple, tag_atom, tag_call, tag_variable}
use Rattle.term.specs.Rows.{passed}
use Rattle.term.specs.Tree.{Term, Terms, int, node, end, ◌then◌, words, words_of, count}
use Rattle.term.specs.Value.{is_value, are_values}
use Rattle.term.proofs.TreeLaws.{all_end}
use Rattle.machine.specs.Value.{same_term, truth}
use Rattle.machine.specs.Match.{Bindings}
use Rattle.machine.specs.Bind.{bind, bind_all}
use Rattle.machine.specs.Guard.{operate_some, guard_gives, guards_give, guard_holds}
use Rattle.row_laws.specs.Rows.{Stands, Plain, PlainAll, Entry, Bound}
use Rattle.operands.specs.Operands.{short_term, is_long, ShortIs, LongIs, Gives, operate_both, Operates, StandsHere, StandsThere}
use Rattle.operands.specs.Guards.{OfValues, IsGuard, AreGuards, Looked, GuardIs, GuardAt, HoldsAt}
use Rattle.operands.specs.declared.operand.Operand.{Operand}
use Rattle.operands.specs.declared.operand.Operand.TheVariants.{Short, Here, There}
use Rattle.operands.specs.declared.guard.Given.{Given}
use Rattle.row_laws.proofs.RowTerms.{node_at, integer_at, one_skip, past_term, plain_whole, stands_within, as_row, one_term, head_of, no_children}
use Rattle.row_laws.proofs.RowBind.{bind_other, bind_free, bind_bound, entry_value}
use Rattle.operands.proofs.RowOperand.{short_differ, same_self, long_short, gives_short, gives_stuck}

-- ---- what guards give
pub gives_value : (t : Term) → is_value t ≡ true → guard_gives t ≡ some t
unfolding guard_gives
gives_value (int x) v = refl
gives_value (node tag n k ts) v = go (is_value (node tag n k ts)) v
  where
    go : (b : Bool) → b ≡ true
        → ◌≡◌ {A = Maybe Term} (elim b [ true ↦ some (node tag n k ts) | false ↦ elim (eqb tag tag_call) [ true ↦ operate_some k (guards_give ts) | false ↦ none ] ]) (some (node tag n k ts))
    go true e = refl
    go false e = true_not_false e refl

gives_variable : (tag n k : ℕ) (ts : Terms) → tag ≡ tag_variable → guard_gives (node tag n k ts) ≡ none
unfolding guard_gives is_value
gives_variable tag n k ts e = rw e

gives_call : (tag n k : ℕ) (t u : Term) → tag ≡ tag_call → guard_gives (node tag n k (t then (u then end))) ≡ operate_both k (guard_gives t) (guard_gives u)
unfolding guard_gives guards_give is_value operate_both
gives_call tag n k t u e = rw e

-- ---- a value is no variable
pub third : (a b c : Bool) → (a && b && c) ≡ true → c ≡ true
third true true c e = e
third true false c e = true_not_false e refl
third false b c e = true_not_false e refl

value_not_variable : (tag : ℕ) (b : Bool) → (leb tag_atom tag && leb tag tag_tuple && b) ≡ true → tag ≡ tag_variable → ⊥
value_not_variable tag b v e = go (leb tag_atom tag) v (λ z. omega (arith, leb-true tag_atom tag z, e))
  where
    go : (a : Bool) → (a && leb tag tag_tuple && b) ≡ true → (a ≡ true → ⊥) → ⊥
    go true v f = f refl
    go false v f = true_not_false v refl

bind_integer : (bindings : Bindings) (x : ℕ) → bind bindings (int x) ≡ int x
unfolding bind
bind_integer bindings x = refl

mutual
  unfolding is_value are_values bind_all

  pub bind_value : (bindings : Bindings) (t : Term) → is_value t ≡ true → bind bindings t ≡ t
  bind_value bindings (int x) v = bind_integer bindings x
  bind_value bindings (node tag n k ts) v =
      bind_other bindings tag n k ts (λ e. value_not_variable tag (are_values ts) v e) ∙ ap (node tag n k) (bind_values bindings ts (third (leb tag_atom tag) (leb tag tag_tuple) (are_values ts) v))

  pub bind_values : (bindings : Bindings) (ts : Terms) → are_values ts ≡ true → bind_all bindings ts ≡ ts
  bind_values bindings end v = refl
  bind_values bindings (t then ts) v = ap₂ (λ (u : Term) (us : Terms). u then us) (bind_value bindings t (and_left (is_value t) (are_values ts) v)) (bind_values bindings ts (and_right (is_value t) (are_values ts) v))

-- ---- the value of a variable
module _ (v env : List ℕ) (k : ℕ) where
  pub looked_past : length env ≤ k → (r : Option Operand) → r ≡ None → Looked v env k r
  unfolding Looked Gives Entry
  looked_past h r er here o e f = subst (λ (q : Option Operand). Gives here v q o) (sym er) (subst (λ (i : ℕ). Entry v i o) (get_or-eq_default env 0 h) e)

  module _ (after : ℕ) (ea : after ≡ get_or env k 0) where
    pub looked_none : ¬ (1 ≤ after) → (r : Option Operand) → r ≡ None → Looked v env k r
    unfolding Looked Gives Entry
    looked_none z r er here o e f =
        let unbound : get_or env k 0 ≡ 0 = omega (arith, ea) in
        subst (λ (q : Option Operand). Gives here v q o) (sym er) (subst (λ (i : ℕ). Entry v i o) unbound e)

    pub looked_value : (place : ℕ) → (1 ≤ after) × (place ≡ after - 1) → (r : Option Operand) → StandsThere v place r → Looked v env k r
    unfolding Looked StandsThere
    looked_value place q r s here o e f =
        let w = entry_value v after o (subst (λ (i : ℕ). Entry v i o) (sym ea) e) (λ z. omega arith) in
        let st : Stands v place w.term = subst (λ (i : ℕ). Stands v i w.term) (sym q.1) w.stands in
        subst (Gives here v r) (sym w.is) (s here w.term st (f w.term w.is))

-- ---- the steps of `guard`
node_words : (tag n k : ℕ) (ts : Terms) → length (words (node tag n k ts)) ≡ suc (length (words_of ts))
unfolding words
node_words tag n k ts = refl

one_word : suc (length (words_of end)) ≡ 1
unfolding words_of
one_word = refl

variable_gives : (bindings : Bindings) (tag n k : ℕ) (ts : Terms) → tag ≡ tag_variable → OfValues bindings → (o : Maybe Term) → bindings k ≡ o → guard_gives (bind bindings (node tag n k ts)) ≡ bindings k
unfolding OfValues
variable_gives bindings tag n k ts e of none q = ap guard_gives (bind_free bindings tag n k ts e q) ∙ gives_variable tag n k ts e ∙ sym q
variable_gives bindings tag n k ts e of (some t) q = ap guard_gives (bind_bound bindings tag n k ts t e q) ∙ gives_value t (of k t q) ∙ sym q

-- a call's operator
unfoldable pub call_of : Term → ℕ
call_of (int x) = 0
call_of (node tag n k ts) = k

-- the two parts of a call
pub record CallParts (c : List ℕ) (at : ℕ) (g : Term) (rest : List ℕ) : Type 0 where
  pub left : Term
  pub right : Term
  pub plain_left : Plain left
  pub plain_right : Plain right
  pub guard_left : IsGuard left
  pub guard_right : IsGuard right
  pub on : drop (at + 1) c ≡ words left ++ (words right ++ rest)
  pub k_is : k_of (get_or c at 0) ≡ call_of g
  pub gives : (bindings : Bindings) → guard_gives (bind bindings g) ≡ operate_both (call_of g) (guard_gives (bind bindings left)) (guard_gives (bind bindings right))
  pub long : length (words g) ≡ 1 + length (words left) + length (words right)

two_words : (t u : Term) → words_of (t then (u then end)) ≡ words t ++ words u
unfolding words_of
two_words t u = ap (λ (l : List ℕ). words t ++ l) (append-nil (words u))

bind_two : (bindings : Bindings) (tag n k : ℕ) (t u : Term) → tag ≡ tag_call → bind bindings (node tag n k (t then (u then end))) ≡ node tag n k (bind bindings t then (bind bindings u then end))
unfolding bind_all
bind_two bindings tag n k t u e = bind_other bindings tag n k (t then (u then end)) (λ z. omega (arith, e, z))

two_parts : (c : List ℕ) (at tag n k : ℕ) (ts : Terms) (rest : List ℕ) → tag ≡ tag_call → Plain (node tag n k ts) → count ts ≡ 2 → AreGuards ts → drop at c ≡ words (node tag n k ts) ++ rest
    → CallParts c at (node tag n k ts) rest
unfolding count AreGuards Plain PlainAll call_of
two_parts c at tag n k end rest tc p s i e = absurd (omega arith)
two_parts c at tag n k (t then end) rest tc p s i e = absurd (omega arith)
two_parts c at tag n k (t then (u then (w then ts))) rest tc p s i e = absurd (omega arith)
two_parts c at tag n k (t then (u then end)) rest tc p s i e =
    let q = node_at c at 1 _ tag n k (t then (u then end)) end rest p.0 refl (as_row c at (node tag n k (t then (u then end))) rest e) refl in
    record {
      left = t;
      right = u;
      plain_left = p.2.0;
      plain_right = p.2.1.0;
      guard_left = i.0;
      guard_right = i.1.0;
      on = q.on ∙ ap (λ (us : Terms). words_of us ++ rest) (all_end (t then (u then end))) ∙ ap (λ (l : List ℕ). l ++ rest) (two_words t u) ∙ append_assoc (words t) (words u) rest;
      k_is = q.k_is;
      gives = λ bindings. ap guard_gives (bind_two bindings tag n k t u tc) ∙ gives_call tag n k (bind bindings t) (bind bindings u) tc;
      long = node_words tag n k (t then (u then end)) ∙ ap (λ (l : List ℕ). suc (length l)) (two_words t u) ∙ omega (arith, length-append (words t) (words u));
    }

module _ (c : List ℕ) (at : ℕ) (v env : List ℕ) (t : ℕ) (et : t ≡ tag_of (get_or c at 0)) where
  variable_case : t ≡ tag_variable → (k : ℕ) → k ≡ k_of (get_or c at 0) → (r : Given) → Looked v env k r.what → r.end ≡ at + 1 → (tag n j : ℕ) (ts : Terms) (rest : List ℕ) (bindings : Bindings)
      → Plain (node tag n j ts) → drop at c ≡ words (node tag n j ts) ++ rest → Bound v env bindings → OfValues bindings → GuardIs c at v bindings (node tag n j ts) r
  unfolding Looked Bound OfValues
  variable_case tv k ek r l re tag n j ts rest bindings p e b o =
      let q = node_at c at 1 _ tag n j ts end rest (head_of tag n j ts p) (one_term (node tag n j ts)) (as_row c at (node tag n j ts) rest e) refl in
      let tg : tag ≡ tag_variable = sym q.tag_is ∙ sym et ∙ tv in
      let kj : k ≡ j = ek ∙ q.k_is in
      let z = no_children tag n j ts p (omega (arith, tg)) in
      let g = l c (bindings j) (subst (λ (m : ℕ). Entry v (get_or env m 0) (bindings j)) (sym kj) (b j)) (λ u. o j u) in
      record {
        gives = subst (Gives c v r.what) (sym (variable_gives bindings tag n j ts tg o (bindings j) refl)) g;
        ends = re ∙ ap (λ (m : ℕ). at + m) (sym (node_words tag n j ts ∙ ap (λ (us : Terms). suc (length (words_of us))) z ∙ one_word));
      }

module _ (c : List ℕ) (at t : ℕ) (et : t ≡ tag_of (get_or c at 0)) (no-variable : ¬ (t ≡ tag_variable)) where
  guard_is_value : ¬ (t ≡ tag_call) → (g : Term) (rest : List ℕ) → Plain g → IsGuard g → drop at c ≡ words g ++ rest → is_value g ≡ true
  unfolding IsGuard is_value
  guard_is_value no_call (int x) rest p i e = refl
  guard_is_value no_call (node tag n k ts) rest p (inl y) e =
      absurd (no_call (et ∙ (node_at c at 1 _ tag n k ts end rest (head_of tag n k ts p) (one_term (node tag n k ts)) (as_row c at (node tag n k ts) rest e) refl).tag_is ∙ y.0))
  guard_is_value no_call (node tag n k ts) rest p (inr (inl y)) e =
      absurd (no-variable (et ∙ (node_at c at 1 _ tag n k ts end rest (head_of tag n k ts p) (one_term (node tag n k ts)) (as_row c at (node tag n k ts) rest e) refl).tag_is ∙ y))
  guard_is_value no_call (node tag n k ts) rest p (inr (inr y)) e = y.2

module _ (c : List ℕ) (at t : ℕ) (et : t ≡ tag_of (get_or c at 0)) (call : t ≡ tag_call) where
  call_parts : (g : Term) (rest : List ℕ) → Plain g → IsGuard g → drop at c ≡ words g ++ rest → CallParts c at g rest
  unfolding IsGuard
  call_parts (int x) rest p i e = absurd (omega (arith, (integer_at c at x end rest (as_row c at (int x) rest e)).tag_is))
  call_parts (node tag n k ts) rest p (inl y) e = two_parts c at tag n k ts rest y.0 p y.1 y.2 e
  call_parts (node tag n k ts) rest p (inr (inl y)) e =
      absurd (omega (arith, call, et ∙ (node_at c at 1 _ tag n k ts end rest (head_of tag n k ts p) (one_term (node tag n k ts)) (as_row c at (node tag n k ts) rest e) refl).tag_is ∙ y))
  call_parts (node tag n k ts) rest p (inr (inr y)) e =
      absurd (y.0 (sym (node_at c at 1 _ tag n k ts end rest (head_of tag n k ts p) (one_term (node tag n k ts)) (as_row c at (node tag n k ts) rest e) refl).tag_is ∙ sym et ∙ call))

module _ (c : List ℕ) (at : ℕ) (v env : List ℕ) where
  pub guard_past : (r : Given) → length c ≤ at → GuardAt c at v env r
  unfolding GuardAt
  guard_past r h g rest bindings p i e b o = absurd (omega (arith, stands_within c at g (record { plain = p; rest = rest; here = e })))

  module _ (t : ℕ) (et : t ≡ tag_of (get_or c at 0)) where
    pub guard_variable : t ≡ tag_variable → (k : ℕ) → k ≡ k_of (get_or c at 0) → (r : Given) → Looked v env k r.what → r.end ≡ at + 1 → GuardAt c at v env r
    unfolding GuardAt
    guard_variable tv k ek r l re (int x) rest bindings p i e b o = absurd (omega (arith, (integer_at c at x end rest (as_row c at (int x) rest e)).tag_is))
    guard_variable tv k ek r l re (node tag n j ts) rest bindings p i e b o = variable_case c at v env t et tv k ek r l re tag n j ts rest bindings p e b o

    module _ (no-variable : ¬ (t ≡ tag_variable)) where
      pub guard_value : ¬ (t ≡ tag_call) → (r : Given) → StandsHere c at r.what → r.end ≡ at + passed (drop at c) 1 → GuardAt c at v env r
      unfolding GuardAt StandsHere
      guard_value no_call r s re g rest bindings p i e b o =
          let w = guard_is_value c at t et no-variable no_call g rest p i e in
          record {
            gives = subst (Gives c v r.what) (sym (ap guard_gives (bind_value bindings g w) ∙ gives_value g w)) (s v g (record { plain = p; rest = rest; here = e }) w);
            ends = one_skip c at r.end g rest re (plain_whole g p) e;
          }

    module _ (call : t ≡ tag_call) (first : Given) (gf : GuardAt c (at + 1) v env first) where
      pub guard_broken : (r : Given) → first.end ≤ at → GuardAt c at v env r
      unfolding GuardAt
      guard_broken r h g rest bindings p i e b o =
          let s = call_parts c at t et call g rest p i e in
          let f = gf s.left (words s.right ++ rest) bindings s.plain_left s.guard_left s.on b o in
          absurd (omega (arith, f.ends))

      pub guard_call : (second : Given) → GuardAt c first.end v env second → (k : ℕ) → k ≡ k_of (get_or c at 0) → (r : Given) → Operates c v k first.what second.what r.what → r.end ≡ second.end
          → GuardAt c at v env r
      unfolding GuardAt Operates
      guard_call second gs k ek r op re g rest bindings p i e b o =
          let s = call_parts c at t et call g rest p i e in
          let f = gf s.left (words s.right ++ rest) bindings s.plain_left s.guard_left s.on b o in
          let on : drop first.end c ≡ words s.right ++ rest = ap (λ (j : ℕ). drop j c) f.ends ∙ past_term c (at + 1) s.left (words s.right ++ rest) s.on in
          let h = gs s.right rest bindings s.plain_right s.guard_right on b o in
          record {
            gives = subst (Gives c v r.what) (ap (λ (m : ℕ). operate_both m (guard_gives (bind bindings s.left)) (guard_gives (bind bindings s.right))) (ek ∙ s.k_is) ∙ sym (s.gives bindings)) (op _ _ f.gives h.gives);
            ends = re ∙ h.ends ∙ omega (arith, f.ends, s.long);
          }

-- ---- whether a guard holds
abbrev holds_some : Maybe Term → Bool
holds_some none = false
holds_some (some v) = same_term v (truth true)

holds_is : (g : Term) → guard_holds g ≡ holds_some (guard_gives g)
unfolding guard_holds
holds_is g = go (guard_gives g)
  where
    go : (o : Maybe Term) → ◌≡◌ {A = Bool} (elim o [ none ↦ false | some v ↦ same_term v (truth true) ]) (holds_some o)
    go none = refl
    go (some v) = refl

abbrev true_word : ℕ
true_word = 0x02000000

true_short : short_term true_word 0 ≡ truth true
unfolding short_term truth
true_short = refl

true_not_long : is_long (truth true) ≡ false
unfolding is_long truth
true_not_long = refl

short_true_is : (w x : ℕ) (o : Maybe Term) → ShortIs w x o → eqb w true_word ≡ holds_some o
short_true_is w x o s = go (ℕ_discrete w true_word)
  where
    go : Dec (w ≡ true_word) → eqb w true_word ≡ holds_some o
    go (no d) = eqb_apart w true_word d ∙ sym (ap holds_some s.gives ∙ ap (same_term (short_term w x)) (sym true_short) ∙ short_differ w x true_word 0 d)
    go (yes e) =
        let z : x ≡ 0 = s.plain (λ y. omega (arith, e, y)) in
        eqb_of w true_word e ∙ sym (ap holds_some s.gives ∙ ap₂ (λ (i j : ℕ). same_term (short_term i j) (truth true)) e z ∙ ap (same_term (short_term true_word 0)) (sym true_short) ∙ same_self true_word 0)

long_true_is : (row : List ℕ) (at : ℕ) (o : Maybe Term) → LongIs row at o → false ≡ holds_some o
long_true_is row at o s = sym (ap holds_some s.gives ∙ (long_short s.term (truth true) s.long true_not_long).0)

module _ (c : List ℕ) (at : ℕ) (v env : List ℕ) (r : Given) (g : GuardAt c at v env r) where
  pub holds_stuck : r.what ≡ None → HoldsAt c at v env false
  unfolding GuardAt HoldsAt
  holds_stuck e t rest bindings p i d b o = sym (holds_is (bind bindings t) ∙ ap holds_some (gives_stuck r.what e c v _ (g t rest bindings p i d b o).gives))

  module _ (x : Operand) (ex : r.what ≡ Some x) where
    pub holds_short : (w p : ℕ) → x ≡ Short w p → HoldsAt c at v env (eqb w true_word)
    unfolding GuardAt HoldsAt
    holds_short w q e t rest bindings p i d b o =
        short_true_is w q _ (gives_short r.what w q (ex ∙ ap Some e) c v _ (g t rest bindings p i d b o).gives) ∙ sym (holds_is (bind bindings t))

    pub holds_long : ((w p : ℕ) → x ≡ Short w p → ⊥) → HoldsAt c at v env false
    unfolding GuardAt HoldsAt Gives
    holds_long n t rest bindings p i d b o = go x n (subst (λ (y : Option Operand). Gives c v y (guard_gives (bind bindings t))) ex (g t rest bindings p i d b o).gives) ∙ sym (holds_is (bind bindings t))
      where
        go : (y : Operand) → ((w q : ℕ) → y ≡ Short w q → ⊥) → Gives c v (Some y) (guard_gives (bind bindings t)) → false ≡ holds_some (guard_gives (bind bindings t))
        go (Short w q) n l = absurd (n w q refl)
        go (Here j) n l = long_true_is c j _ l
        go (There j) n l = long_true_is v j _ l
