-- Laws of the kinds of steps at the working place: call, case, let and receive.
use Prim.Native.Nat.{ℕ, ◌+◌, ◌<◌, ◌≤◌}
use mathlib.Core.Path.{◌≡◌, refl, sym, ap, ◌∙◌, subst}
use mathlib.Core.Bool.{Bool, true, false, cond, not}
use mathlib.Core.Option.{Option as Maybe, none, some}
use mathlib.Core.List.{List, [], ◌∷◌, ◌++◌, append_assoc}
use native.Mathlib.Omega.{arith}
use native.Mathlib.Decide.{dec_le}
use lib.Dec.{eqb}
use lib.IntN.{ℤ, ◌+ℤ◌, ◌-ℤ◌, ◌*ℤ◌}
use lib.Signed.{lt_z, le_z, quot_z, rem_z}
use lib.ListN.{length, drop, get_or, set, replicate}
use Rattle.std.specs.Prelude.{Option, Some, None, Ok, Err, IsErrAnd, ok_or}
use Rattle.std.proofs.lemmas.Result.{err_from_is_err_and}
use Rattle.lists.proofs.Tests.{leb_of, leb_over, cond_true, cond_false, none_not_some, some_injective, true_not_false}
use Rattle.term.specs.Words.{tag_of, n_of, k_of, integer_word, tag_call, tag_case, tag_let, tag_receive}
use Rattle.term.specs.Rows.{passed}
use Rattle.term.specs.Tree.{Term, Terms, int, node, end, ◌then◌, words, words_of, count}
use Rattle.term.specs.Value.{is_value}
use Rattle.term.proofs.WordLaws.{word_parts}
use Rattle.term.proofs.RowLaws.{passed_term, passed_none}
use Rattle.term.proofs.TreeLaws.{all_end}
use Rattle.machine.specs.Value.{same_term, truth}
use Rattle.machine.specs.Operator.{signed, unsigned, ranged, is_zero, in_range, divided, on_integers, if_integers, operate, operate_on, op_add, op_subtract, op_multiply, op_div, op_rem, op_equal, op_unequal, op_less, op_at_most}
use Rattle.machine.specs.Match.{Bindings, unbound, with, match}
use Rattle.machine.specs.Bind.{bind}
use Rattle.machine.specs.Guard.{operate_some, before_some, guard_holds}
use Rattle.machine.specs.Clauses.{first_clause}
use Rattle.row_laws.specs.Rows.{Stands, Plain, PlainAll, Bound}
use Rattle.copying.specs.Matching.{Matched, Matches}
use Rattle.copying.specs.Copies.{Wrote}
use Rattle.operands.specs.Operands.{is_long, LongIs, Gives, operate_both, Operates, StandsHere}
use Rattle.choosing.specs.Clausal.{AreClauses, Takes, ChosenIs, ChoosesAt}
use Rattle.copying.specs.Nexts.{row_with, Puts, PutsCopy}
use Rattle.step.specs.Steps.{Next, fitted_of, WroteNext, NextIs, CalledAt, CallNext, CasedAt, ClauseNext, CaseNext, LetNext, ReceiveNext}
use Rattle.operands.specs.declared.operand.Operand.{Operand}
use Rattle.operands.specs.declared.operand.Operand.TheVariants.{Short, Here, There}
use Rattle.step.specs.declared.step.NoNext.{NoNext}
use Rattle.step.specs.declared.step.NoNext.TheVariants.{Nothing, TooLarge}
use Rattle.row_laws.proofs.RowTerms.{node_at, one_skip, past_term, plain_whole, stands_within, as_row, one_term}
use Rattle.copying.proofs.RowMatch.{bound_more}
use Rattle.operands.proofs.RowOperand.{short_is_node, short_is_integer, gives_short, gives_stuck}
use Rattle.choosing.proofs.RowClause.{parts_at, nothing_bound, takes_is, when_holds, body_under, matched_one}

-- ---- what `ok_or` and `?` make of an Option
module _ {A : Type 0} (o : Option A) where
  pub some_from : (x : A) → Ok x ≡ ok_or o Nothing → o ≡ Some x
  some_from x e = go o e
    where
      go : (p : Option A) → Ok x ≡ ok_or p Nothing → p ≡ Some x
      go None q = cc
      go (Some y) q = cc

  pub none_from : (e : NoNext) → Err e ≡ ok_or o Nothing → o ≡ None
  none_from e q = go o q
    where
      go : (p : Option A) → Err e ≡ ok_or p Nothing → p ≡ None
      go None q = refl
      go (Some y) q = cc

  pub error_from : (e : NoNext) (r : Next) → Err e ≡ ok_or o Nothing → IsErrAnd r (λ d. d ≡ e) → r ≡ Err Nothing
  error_from e r q h = go o q
    where
      go : (p : Option A) → Err e ≡ ok_or p Nothing → r ≡ Err Nothing
      go None q = let k = err_from_is_err_and r h in let i : r ≡ Err k.0 = k.1 in let j : k.0 ≡ e = k.2 in cc
      go (Some y) q = cc

-- ---- whether a row fits
pub fitted_row : (r room : ℕ) → r ≤ room → Ok r ≡ fitted_of r room
unfolding fitted_of
fitted_row r room h = sym (cond_true (Ok r) (Err TooLarge) (leb_of r room h))

pub fitted_large : (r room : ℕ) → room < r → Err TooLarge ≡ fitted_of r room
unfolding fitted_of
fitted_large r room h = sym (cond_false (Ok r) (Err TooLarge) (leb_over r room h))

pub wrote_next : (row old new : List ℕ) (m : ℕ) (s : Next) → Wrote row 0 old new m → s ≡ fitted_of m (length old) → WroteNext row old new s
wrote_next row old new m s w e = record { new_is = w.new_is; answer = e ∙ go (dec_le (length row) (length old)) }
  where
    go : Dec (length row ≤ length old) → fitted_of m (length old) ≡ fitted_of (length row) (length old)
    go (yes h) = ap (λ (j : ℕ). fitted_of j (length old)) (omega (arith, w.ends))
    go (no h) = sym (fitted_large m (length old) (omega (arith, w.ends))) ∙ fitted_large (length row) (length old) (omega arith)

pub next_some : (c : List ℕ) (at : ℕ) (t u : Term) (o : Maybe Term) (old new : List ℕ) (s : Next) → o ≡ some u → WroteNext (row_with c at t (words u)) old new s → NextIs c at t o old new s
unfolding NextIs
next_some c at t u o old new s e w = subst (λ (p : Maybe Term). NextIs c at t p old new s) (sym e) w

next_none : (c : List ℕ) (at : ℕ) (t : Term) (o : Maybe Term) (old : List ℕ) (s : Next) → s ≡ Err Nothing → o ≡ none → NextIs c at t o old old s
unfolding NextIs
next_none c at t o old s es e = subst (λ (p : Maybe Term). NextIs c at t p old old s) (sym e) (es, refl)

-- ---- the children of a node in its row
pub record ChildrenAt (c : List ℕ) (at tag n k : ℕ) (ts : Terms) : Type 0 where
  pub rest : List ℕ
  pub n_is : n_of (get_or c at 0) ≡ n
  pub k_is : k_of (get_or c at 0) ≡ k
  pub plain : PlainAll ts
  pub on : drop (at + 1) c ≡ words_of ts ++ rest

pub children_at : (c : List ℕ) (at tag n k : ℕ) (ts : Terms) → Stands c at (node tag n k ts) → ChildrenAt c at tag n k ts
unfolding Plain
children_at c at tag n k ts s =
    let q = node_at c at 1 _ tag n k ts end s.rest s.plain.0 (one_term (node tag n k ts)) (as_row c at (node tag n k ts) s.rest s.here) refl in
    record { rest = s.rest; n_is = q.n_is; k_is = q.k_is; plain = s.plain.2; on = q.on ∙ ap (λ (us : Terms). words_of us ++ s.rest) (all_end ts) }

-- the first of the children, and those after it
pub first_stands : (c : List ℕ) (at : ℕ) (t : Term) (ts : Terms) (rest : List ℕ) → PlainAll (t then ts) → drop at c ≡ words_of (t then ts) ++ rest → Stands c at t
unfolding PlainAll words_of
first_stands c at t ts rest p e = record { plain = p.0; rest = words_of ts ++ rest; here = e ∙ append_assoc (words t) (words_of ts) rest }

pub others_on : (c : List ℕ) (at next : ℕ) (t : Term) (ts : Terms) (rest : List ℕ) → PlainAll (t then ts) → drop at c ≡ words_of (t then ts) ++ rest → next ≡ at + passed (drop at c) 1 → drop next c ≡ words_of ts ++ rest
unfolding PlainAll words_of
others_on c at next t ts rest p e q =
    let d = e ∙ append_assoc (words t) (words_of ts) rest in
    ap (λ (j : ℕ). drop j c) (one_skip c at next t (words_of ts ++ rest) q (plain_whole t p.0) d) ∙ past_term c at t (words_of ts ++ rest) d

pub others_plain : (t : Term) (ts : Terms) → PlainAll (t then ts) → PlainAll ts
unfolding PlainAll
others_plain t ts p = p.1

-- ---- call
module _ (c : List ℕ) (at : ℕ) where
  pub called_past : (r : Option Operand) → length c ≤ at → CalledAt c at r
  unfolding CalledAt
  called_past r h n k a b s va vb = absurd (omega (arith, stands_within c at _ s))

  pub called_is : (x y r : Option Operand) (second kk : ℕ) → StandsHere c (at + 1) x → second ≡ at + 1 + passed (drop (at + 1) c) 1 → StandsHere c second y → kk ≡ k_of (get_or c at 0) → Operates c c kk x y r → CalledAt c at r
  unfolding CalledAt StandsHere Operates operate_both operate_some before_some operate_on
  called_is x y r second kk hx es hy ek op n k a b s va vb =
      let q = children_at c at tag_call n k (a then (b then end)) s in
      let sa = first_stands c (at + 1) a (b then end) q.rest q.plain q.on in
      let sb = first_stands c second b end q.rest (others_plain a (b then end) q.plain) (others_on c (at + 1) second a (b then end) q.rest q.plain q.on es) in
      subst (λ (j : ℕ). Gives c c r (operate j a b)) (ek ∙ q.k_is) (op (some a) (some b) (hx c a sa va) (hy c b sb vb))

-- what an operator gives is no cons or tuple
unfoldable ShortOnly : Maybe Term → Type 0
ShortOnly o = (t : Term) → o ≡ some t → is_long t ≡ false

short_none : ShortOnly none
unfolding ShortOnly
short_none t e = none_not_some e

short_some : (u : Term) → is_long u ≡ false → ShortOnly (some u)
unfolding ShortOnly
short_some u h t e = ap is_long (sym (some_injective e)) ∙ h

either : (b : Bool) (o p : Maybe Term) → ShortOnly o → ShortOnly p → ShortOnly (cond b o p)
either true o p h g = h
either false o p h g = g

short_truth : (b : Bool) → is_long (truth b) ≡ false
unfolding is_long truth
short_truth true = refl
short_truth false = refl

short_ranged : (z : ℤ) → ShortOnly (ranged z)
unfolding ranged is_long
short_ranged z = either (in_range z) (some (int (unsigned z))) none (short_some (int (unsigned z)) refl) short_none

short_divided : (y z : ℤ) → ShortOnly (divided y z)
unfolding divided
short_divided y z = either (is_zero y) none (ranged z) short_none (short_ranged z)

short_on_integers : (op : ℕ) (x y : ℤ) → ShortOnly (on_integers op x y)
unfolding on_integers
short_on_integers op x y =
    either (eqb op op_add) _ _ (short_ranged (x +ℤ y))
    (either (eqb op op_subtract) _ _ (short_ranged (x -ℤ y))
    (either (eqb op op_multiply) _ _ (short_ranged (x *ℤ y))
    (either (eqb op op_div) _ _ (short_divided y (quot_z x y))
    (either (eqb op op_rem) _ _ (short_divided y (rem_z x y))
    (either (eqb op op_less) _ _ (short_some (truth (lt_z x y)) (short_truth (lt_z x y)))
    (either (eqb op op_at_most) _ _ (short_some (truth (le_z x y)) (short_truth (le_z x y))) short_none))))))

short_if_integers : (op : ℕ) (a b : Term) → ShortOnly (if_integers op a b)
unfolding if_integers
short_if_integers op (int x) (int y) = short_on_integers op (signed x) (signed y)
short_if_integers op (int x) (node tag n k ts) = short_none
short_if_integers op (node tag n k ts) b = short_none

operate_short : (op : ℕ) (a b : Term) → ShortOnly (operate op a b)
unfolding operate
operate_short op a b =
    either (eqb op op_equal) _ _ (short_some (truth (same_term a b)) (short_truth (same_term a b)))
    (either (eqb op op_unequal) _ _ (short_some (truth (not (same_term a b))) (short_truth (not (same_term a b)))) (short_if_integers op a b))

never_long : (row : List ℕ) (i op : ℕ) (a b : Term) → LongIs row i (operate op a b) → ⊥
unfolding ShortOnly
never_long row i op a b l = true_not_false l.long (operate_short op a b l.term l.gives)

integer_words : (x : ℕ) → words (int x) ≡ integer_word ∷ x ∷ []
unfolding words
integer_words x = refl

node_word : (w : ℕ) → words (node (tag_of w) (n_of w) (k_of w) end) ≡ w ∷ []
unfolding words words_of
node_word w = ap (λ (j : ℕ). j ∷ []) (word_parts w)

module _ (c : List ℕ) (at : ℕ) (old : List ℕ) (r : Option Operand) (g : CalledAt c at r) where
  pub call_stuck : r ≡ None → (s : Next) → s ≡ Err Nothing → CallNext c at old old s
  unfolding CalledAt CallNext
  call_stuck e s es n k a b st va vb = next_none c at _ _ old s es (gives_stuck r e c c _ (g n k a b st va vb))

  module _ (v : Operand) (ev : r ≡ Some v) where
    pub call_long : ((w x : ℕ) → v ≡ Short w x → ⊥) → CallNext c at old old (Err Nothing)
    unfolding CalledAt CallNext Gives
    call_long d n k a b st va vb = absurd (go v d (subst (λ (z : Option Operand). Gives c c z (operate k a b)) ev (g n k a b st va vb)))
      where
        go : (z : Operand) → ((w x : ℕ) → z ≡ Short w x → ⊥) → Gives c c (Some z) (operate k a b) → ⊥
        go (Short w x) d l = d w x refl
        go (Here i) d l = never_long c i k a b l
        go (There i) d l = never_long c i k a b l

    module _ (w x : ℕ) (e : v ≡ Short w x) (new : List ℕ) (m : ℕ) (s : Next) (es : s ≡ fitted_of m (length old)) where
      pub call_integer : w ≡ integer_word → Puts c at (integer_word ∷ x ∷ []) old new m → CallNext c at old new s
      unfolding CalledAt CallNext Puts
      call_integer i p n k a b st va vb =
          let q = gives_short r w x (ev ∙ ap Some e) c c _ (g n k a b st va vb) in
          next_some c at _ (int x) _ old new s (q.gives ∙ ap some (short_is_integer w x i))
          (wrote_next _ old new m s (subst (λ (ws : List ℕ). Wrote (row_with c at (node tag_call n k (a then (b then end))) ws) 0 old new m) (sym (integer_words x)) (p _ st)) es)

      pub call_word : ¬ (w ≡ integer_word) → Puts c at (w ∷ []) old new m → CallNext c at old new s
      unfolding CalledAt CallNext Puts
      call_word i p n k a b st va vb =
          let q = gives_short r w x (ev ∙ ap Some e) c c _ (g n k a b st va vb) in
          next_some c at _ (node (tag_of w) (n_of w) (k_of w) end) _ old new s (q.gives ∙ ap some (short_is_node w x i))
          (wrote_next _ old new m s (subst (λ (ws : List ℕ). Wrote (row_with c at (node tag_call n k (a then (b then end))) ws) 0 old new m) (sym (node_word w)) (p _ st)) es)

-- ---- case
module _ (c : List ℕ) (at : ℕ) where
  pub cased_past : (r : Option ℕ) → length c ≤ at → CasedAt c at r
  unfolding CasedAt
  cased_past r h n k subject clauses s v i m = absurd (omega (arith, stands_within c at _ s))

  pub cased_is : (r : Option ℕ) (next nn : ℕ) → next ≡ at + 1 + passed (drop (at + 1) c) 1 → nn ≡ n_of (get_or c at 0) → ChoosesAt c next nn c (at + 1) r → CasedAt c at r
  unfolding CasedAt ChoosesAt
  cased_is r next nn en ek h n k subject clauses s v i m =
      let q = children_at c at tag_case n k (subject then clauses) s in
      h clauses q.rest subject (others_plain subject clauses q.plain) i (m ∙ sym (ek ∙ q.n_is)) (others_on c (at + 1) next subject clauses q.rest q.plain q.on en)
      (first_stands c (at + 1) subject clauses q.rest q.plain q.on) v

-- ---- a clause's body
two_skip : (c : List ℕ) (at r : ℕ) (t u : Term) (rest : List ℕ) → r ≡ at + passed (drop at c) 2 → Plain t → Plain u → drop at c ≡ words t ++ (words u ++ rest) → drop r c ≡ rest
two_skip c at r t u rest e p q d =
    let one = passed_term t (words u ++ rest) 1 (plain_whole t p) in
    let two = passed_term u rest 0 (plain_whole u q) in
    let z : r ≡ at + length (words t) + length (words u) = e ∙ ap (λ (l : List ℕ). at + passed l 2) d ∙ omega (arith, one, two, passed_none rest) in
    ap (λ (j : ℕ). drop j c) z ∙ past_term c (at + length (words t)) u rest (past_term c at t (words u ++ rest) d)

-- what the pattern bound, where the clause takes the value
found : (v env : List ℕ) (guard body taken : Term) (o : Maybe Bindings) (b : Bool) → Matched v env o b → body_under o guard body ≡ some taken
    → (bindings : Bindings) × (bind bindings body ≡ taken) × Bound v env bindings
unfolding Matched
found v env guard body taken o true m e = (m.0, held (guard_holds (bind m.0 guard)) (bind m.0 body) (sym (ap (λ (p : Maybe Bindings). body_under p guard body) m.1) ∙ e), m.2)
  where
    held : (h : Bool) (t : Term) → when_holds h t ≡ some taken → t ≡ taken
    held true t q = some_injective q
    held false t q = none_not_some q
found v env guard body taken o false m e = none_not_some (sym (ap (λ (p : Maybe Bindings). body_under p guard body) m) ∙ e)

pub chosen_clause : (c : List ℕ) (u : Term) (clauses : Terms) (r : Option ℕ) (i : ℕ) → r ≡ Some i → ChosenIs c u clauses r → Takes c i u clauses
unfolding ChosenIs
chosen_clause c u clauses r i e h = subst (ChosenIs c u clauses) e h

pub chosen_nothing : (c : List ℕ) (u : Term) (clauses : Terms) (r : Option ℕ) → r ≡ None → ChosenIs c u clauses r → first_clause u clauses ≡ none
unfolding ChosenIs
chosen_nothing c u clauses r e h = subst (ChosenIs c u clauses) e h

module _ (c : List ℕ) (at clause : ℕ) (v : List ℕ) (va : ℕ) (old : List ℕ) where
  pub clause_past : (r : ℕ) → length c ≤ clause → ClauseNext c at clause v va old old r
  unfolding ClauseNext
  clause_past r h t u cl body s s' i w y e = absurd (omega (arith, stands_within c clause cl s'))

  pub clause_written : (env new : List ℕ) (b : Bool) (place r : ℕ) → Matches c (clause + 1) v va 1 (replicate 64 0) env b → place ≡ clause + 1 + passed (drop (clause + 1) c) 2
      → PutsCopy c at c place v env old new r → ClauseNext c at clause v va old new r
  unfolding ClauseNext PutsCopy Puts
  clause_written env new b place r m ep p t u cl body s s' i w y e =
      let q = parts_at c clause cl i s' in
      let f = found v env i.guard i.body body (match i.pattern u unbound) b (matched_one c clause v va env b m cl u i s' w) (sym (takes_is u cl i) ∙ e) in
      let on = two_skip c (clause + 1) place i.pattern i.guard (words i.body ++ q.rest) ep q.plain_pattern q.plain_guard q.on_pattern in
      subst (λ (x : Term). Wrote (row_with c at t (words x)) 0 old new r) f.1 (p i.body f.0 (record { plain = q.plain_body; rest = q.rest; here = on }) f.2 t s)

-- ---- case and receive
module _ (c : List ℕ) (at : ℕ) (old : List ℕ) where
  pub case_clause : (r : Option ℕ) (i : ℕ) (new : List ℕ) (m : ℕ) (s : Next) → CasedAt c at r → r ≡ Some i → ClauseNext c at i c (at + 1) old new m → s ≡ fitted_of m (length old) → CaseNext c at old new s
  unfolding CasedAt CaseNext ClauseNext
  case_clause r i new m s g e h es n k subject clauses st v a z =
      let t = chosen_clause c subject clauses r i e (g n k subject clauses st v a z) in
      let q = children_at c at tag_case n k (subject then clauses) st in
      next_some c at _ t.body _ old new s t.first
      (wrote_next _ old new m s (h _ subject t.clause t.body st t.stands t.is_clause (first_stands c (at + 1) subject clauses q.rest q.plain q.on) v t.takes) es)

  pub case_nothing : (r : Option ℕ) → CasedAt c at r → r ≡ None → (s : Next) → s ≡ Err Nothing → CaseNext c at old old s
  unfolding CasedAt CaseNext
  case_nothing r g e s es n k subject clauses st v a z = next_none c at _ _ old s es (chosen_nothing c subject clauses r e (g n k subject clauses st v a z))

  module _ (v : List ℕ) where
    pub receive_past : length c ≤ at → ReceiveNext c at v old old (Err Nothing)
    unfolding ReceiveNext
    receive_past h n k clauses u s a z w y = absurd (omega (arith, stands_within c at _ s))

    module _ (r : Option ℕ) (nn : ℕ) (en : nn ≡ n_of (get_or c at 0)) (g : ChoosesAt c (at + 1) nn v 0 r) where
      receives : (n k : ℕ) (clauses : Terms) (u : Term) → Stands c at (node tag_receive n k clauses) → AreClauses clauses → count clauses ≡ n → Stands v 0 u → is_value u ≡ true → ChosenIs c u clauses r
      unfolding ChoosesAt
      receives n k clauses u s a z w y =
          let q = children_at c at tag_receive n k clauses s in
          g clauses q.rest u q.plain a (z ∙ sym (en ∙ q.n_is)) q.on w y

      pub receive_clause : (i : ℕ) (new : List ℕ) (m : ℕ) (s : Next) → r ≡ Some i → ClauseNext c at i v 0 old new m → s ≡ fitted_of m (length old) → ReceiveNext c at v old new s
      unfolding ReceiveNext ClauseNext
      receive_clause i new m s e h es n k clauses u st a z w y =
          let t = chosen_clause c u clauses r i e (receives n k clauses u st a z w y) in
          next_some c at _ t.body _ old new s t.first (wrote_next _ old new m s (h _ u t.clause t.body st t.stands t.is_clause w y t.takes) es)

      pub receive_nothing : r ≡ None → (s : Next) → s ≡ Err Nothing → ReceiveNext c at v old old s
      unfolding ReceiveNext
      receive_nothing e s es n k clauses u st a z w y = next_none c at _ _ old s es (chosen_nothing c u clauses r e (receives n k clauses u st a z w y))

-- ---- let
module _ (c : List ℕ) (at : ℕ) (old : List ℕ) where
  pub let_past : length c ≤ at → LetNext c at old old (Err Nothing)
  unfolding LetNext
  let_past h n k bound body s v l = absurd (omega (arith, stands_within c at _ s))

  module _ (x : ℕ) (ex : x ≡ k_of (get_or c at 0)) where
    pub let_high : 64 ≤ x → LetNext c at old old (Err Nothing)
    unfolding LetNext
    let_high h n k bound body s v l = absurd (omega (arith, (children_at c at tag_let n k (bound then (body then end)) s).k_is))

    pub let_written : x < 64 → (place m : ℕ) (new : List ℕ) (s : Next) → place ≡ at + 1 + passed (drop (at + 1) c) 1 → PutsCopy c at c place c (set (replicate 64 0) x (at + 2)) old new m → s ≡ fitted_of m (length old)
        → LetNext c at old new s
    unfolding LetNext PutsCopy Puts
    let_written h place m new s ep p es n k bound body st v l =
        let q = children_at c at tag_let n k (bound then (body then end)) st in
        let xk : x ≡ k = ex ∙ q.k_is in
        let sb = first_stands c (at + 1) bound (body then end) q.rest q.plain q.on in
        let sd = first_stands c place body end q.rest (others_plain bound (body then end) q.plain) (others_on c (at + 1) place bound (body then end) q.rest q.plain q.on ep) in
        let two : at + 1 + 1 ≡ at + 2 = omega arith in
        let bm = bound_more c (replicate 64 0) unbound x (at + 1) bound (nothing_bound c 64) h sb in
        let b : Bound c (set (replicate 64 0) x (at + 2)) (with k bound unbound) =
        subst (λ (j : ℕ). Bound c (set (replicate 64 0) x (at + 2)) (with j bound unbound)) xk (subst (λ (j : ℕ). Bound c (set (replicate 64 0) x j) (with x bound unbound)) two bm) in
        next_some c at _ (bind (with k bound unbound) body) _ old new s refl (wrote_next _ old new m s (p body (with k bound unbound) sd b _ st) es)
