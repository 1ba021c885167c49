-- Laws of what a control is about to do.
use Prim.Native.Nat.{ℕ, ◌+◌, ◌-◌, ◌<◌, ◌≤◌}
use mathlib.Core.Path.{◌≡◌, refl, sym, ap, ap₂, ◌∙◌, subst}
use mathlib.Core.Logic.{◌⊎◌, inl, inr}
use mathlib.Core.Bool.{true, false, cond}
use mathlib.Core.Option.{Option as Maybe, none, some}
use mathlib.Core.List.{List, [], ◌++◌, append-nil}
use native.Mathlib.Omega.{arith}
use lib.ListN.{length, get_or}
use Rattle.std.specs.Prelude.{Option, Some, None}
use Rattle.lists.proofs.Tests.{eqb_apart, true_or_false, cond_true, cond_false, choose_true, choose_false}
use Rattle.term.specs.Words.{tag_of, k_of, tag_pid, tag_call, tag_apply, tag_case, tag_let, tag_receive, tag_spawn, tag_send, tag_self, tag_check}
use Rattle.term.specs.Tree.{Term, Terms, int, node, end, ◌then◌, words, words_of, count, WholeAll}
use Rattle.term.specs.Read.{term_of, terms_of}
use Rattle.term.specs.Value.{is_value}
use Rattle.term.specs.Module.{body_of, function_of}
use Rattle.machine.specs.Operator.{operate, operate_on}
use Rattle.machine.specs.Match.{unbound, with}
use Rattle.machine.specs.Bind.{bind, parameters}
use Rattle.machine.specs.Clauses.{first_clause}
use Rattle.machine.specs.Place.{working}
use Rattle.machine.specs.Work.{Work, finished, stuck, to_send, next, seq_or, body_with, case_gives, let_gives, send_to, send_work, work_at, work_of, work}
use Rattle.row_laws.specs.Rows.{Stands, Plain}
use Rattle.copying.specs.Places.{place_of, place_among, Finds, PlaceIs}
use Rattle.step.specs.Steps.{CalledAt, CasedAt}
use Rattle.step.specs.Controls.{Pair, Applied, Redex, doing_of, doing_seq, CallDoing, CaseDoing, SendDoing, DoingAt, DoingOf}
use Rattle.operands.specs.declared.operand.Operand.{Operand}
use Rattle.step.specs.declared.work.Doing.{Doing}
use Rattle.step.specs.declared.work.Doing.TheVariants.{Finished, Stuck, Seq, Send, Receive, Spawn, Own, Check}
use Rattle.row_laws.proofs.RowTerms.{node_at, integer_at, plain_whole, stands_within, as_row, one_term, head_of}
use Rattle.operands.proofs.RowOperand.{gives_some, gives_stuck}
use Rattle.step.proofs.RowStep.{children_at, first_stands, chosen_clause, chosen_nothing}
use Rattle.step.proofs.RowSplit.{working_stands}

seq_some : (o : Maybe Term) (t : Term) → o ≡ some t → Seq ≡ doing_seq o
unfolding doing_seq
seq_some o t e = rw e

seq_none : (o : Maybe Term) → o ≡ none → Stuck ≡ doing_seq o
unfolding doing_seq
seq_none o e = rw e

stuck_is : Stuck ≡ doing_of stuck
unfolding doing_of
stuck_is = refl

-- ---- call, case and send
module _ (c : List ℕ) (at : ℕ) (r : Option Operand) (g : CalledAt c at r) where
  pub call_stuck : r ≡ None → CallDoing c at Stuck
  unfolding CalledAt CallDoing
  call_stuck e n k a b s va vb = seq_none _ (gives_stuck r e c c _ (g n k a b s va vb))

  pub call_goes : (v : Operand) → r ≡ Some v → CallDoing c at Seq
  unfolding CalledAt CallDoing
  call_goes v e n k a b s va vb = let q = gives_some r v e c c _ (g n k a b s va vb) in seq_some _ q.0 q.1

module _ (c : List ℕ) (at : ℕ) (r : Option ℕ) (g : CasedAt c at r) where
  pub case_goes : (i : ℕ) → r ≡ Some i → CaseDoing c at Seq
  unfolding CasedAt CaseDoing
  case_goes i e n k subject clauses s v a m = seq_some _ _ (chosen_clause c subject clauses r i e (g n k subject clauses s v a m)).first

  pub case_stuck : r ≡ None → CaseDoing c at Stuck
  unfolding CasedAt CaseDoing
  case_stuck e n k subject clauses s v a m = seq_none _ (chosen_nothing c subject clauses r e (g n k subject clauses s v a m))

send_pid : (whole v : Term) (tag n k : ℕ) (ts : Terms) → tag ≡ tag_pid → Send k ≡ doing_of (send_to whole (node tag n k ts) v)
unfolding send_to doing_of
send_pid whole v tag n k ts e = rw e

send_other : (whole v : Term) (tag n k : ℕ) (ts : Terms) → ¬ (tag ≡ tag_pid) → Stuck ≡ doing_of (send_to whole (node tag n k ts) v)
unfolding send_to
send_other whole v tag n k ts d = stuck_is ∙ ap doing_of (sym (choose_false (to_send k (words v) (next whole v)) stuck (eqb_apart tag tag_pid d)))

send_integer : (whole v : Term) (x : ℕ) → Stuck ≡ doing_of (send_to whole (int x) v)
unfolding send_to doing_of
send_integer whole v x = refl

module _ (c : List ℕ) (at : ℕ) where
  target_stands : (n k : ℕ) (target v : Term) → Stands c at (node tag_send n k (target then (v then end))) → Stands c (at + 1) target
  target_stands n k target v s = let q = children_at c at tag_send n k (target then (v then end)) s in first_stands c (at + 1) target (v then end) q.rest q.plain q.on

  pub sending_short : (r : Doing) → length c - at < 2 → SendDoing c at r
  unfolding SendDoing
  sending_short r h n k target v whole s = absurd (omega (arith, stands_within c (at + 1) target (target_stands n k target v s)))

  module _ (t : ℕ) (et : t ≡ tag_of (get_or c (at + 1) 0)) where
    pub sending_pid : t ≡ tag_pid → (j : ℕ) → j ≡ k_of (get_or c (at + 1) 0) → SendDoing c at (Send j)
    unfolding SendDoing
    sending_pid e j ej n k target v whole s = go target (target_stands n k target v s)
      where
        go : (u : Term) → Stands c (at + 1) u → Send j ≡ doing_of (send_to whole u v)
        go (int x) st = absurd (omega (arith, (integer_at c (at + 1) x end st.rest (as_row c (at + 1) (int x) st.rest st.here)).tag_is))
        go (node tag m i ts) st =
            let q = node_at c (at + 1) 1 _ tag m i ts end st.rest (head_of tag m i ts st.plain) (one_term (node tag m i ts)) (as_row c (at + 1) (node tag m i ts) st.rest st.here) refl in
            ap Send (ej ∙ q.k_is) ∙ send_pid whole v tag m i ts (sym q.tag_is ∙ sym et ∙ e)

    pub sending_other : ¬ (t ≡ tag_pid) → SendDoing c at Stuck
    unfolding SendDoing
    sending_other d n k target v whole s = go target (target_stands n k target v s)
      where
        go : (u : Term) → Stands c (at + 1) u → Stuck ≡ doing_of (send_to whole u v)
        go (int x) st = send_integer whole v x
        go (node tag m i ts) st =
            let q = node_at c (at + 1) 1 _ tag m i ts end st.rest (head_of tag m i ts st.plain) (one_term (node tag m i ts)) (as_row c (at + 1) (node tag m i ts) st.rest st.here) refl in
            send_other whole v tag m i ts (λ z. d (et ∙ q.tag_is ∙ z))

-- ---- what is done at the working place, by the tag
doing_seq_or : (whole : Term) (o : Maybe Term) → doing_of (seq_or whole o) ≡ doing_seq o
unfolding doing_of doing_seq seq_or
doing_seq_or whole none = refl
doing_seq_or whole (some t) = refl

module _ (functions : Terms) (whole : Term) (tag n k : ℕ) (ts : Terms) where
  pub work_call : tag ≡ tag_call → work_at functions whole (node tag n k ts) ≡ seq_or whole (operate_on k ts)
  unfolding work_at
  work_call e = rw e

  pub work_apply : tag ≡ tag_apply → work_at functions whole (node tag n k ts) ≡ seq_or whole (body_with ts (function_of functions k))
  unfolding work_at
  work_apply e = rw e

  pub work_case : tag ≡ tag_case → work_at functions whole (node tag n k ts) ≡ seq_or whole (case_gives ts)
  unfolding work_at
  work_case e = rw e

  pub work_let : tag ≡ tag_let → work_at functions whole (node tag n k ts) ≡ seq_or whole (let_gives k ts)
  unfolding work_at
  work_let e = rw e

  work_receive : tag ≡ tag_receive → Receive ≡ doing_of (work_at functions whole (node tag n k ts))
  unfolding work_at doing_of
  work_receive e = rw e

  work_spawn : tag ≡ tag_spawn → Spawn ≡ doing_of (work_at functions whole (node tag n k ts))
  unfolding work_at doing_of
  work_spawn e = rw e

  pub work_send : tag ≡ tag_send → work_at functions whole (node tag n k ts) ≡ send_work whole ts
  unfolding work_at
  work_send e = rw e

  work_self : tag ≡ tag_self → Own ≡ doing_of (work_at functions whole (node tag n k ts))
  unfolding work_at doing_of
  work_self e = rw e

  work_check : tag ≡ tag_check → Check k ≡ doing_of (work_at functions whole (node tag n k ts))
  unfolding work_at doing_of
  work_check e = rw e

  work_other : ¬ (tag ≡ tag_call) → ¬ (tag ≡ tag_apply) → ¬ (tag ≡ tag_case) → ¬ (tag ≡ tag_let) → ¬ (tag ≡ tag_receive) → ¬ (tag ≡ tag_spawn) → ¬ (tag ≡ tag_send) → ¬ (tag ≡ tag_self) → ¬ (tag ≡ tag_check)
      → work_at functions whole (node tag n k ts) ≡ stuck
  unfolding work_at
  work_other a b d e f g h i j =
      rw (eqb_apart tag tag_call a, eqb_apart tag tag_apply b, eqb_apart tag tag_case d, eqb_apart tag tag_let e, eqb_apart tag tag_receive f, eqb_apart tag tag_spawn g, eqb_apart tag tag_send h, eqb_apart tag tag_self i, eqb_apart tag tag_check j)

pub operate_two : (k : ℕ) (ts : Terms) (p : Pair ts) → operate_on k ts ≡ operate k p.one p.two
unfolding operate_on
operate_two k ts p = rw p.are

let_two : (k : ℕ) (ts : Terms) → Pair ts → (t : Term) × (let_gives k ts ≡ some t)
unfolding let_gives
let_two k ts p = (bind (with k p.one unbound) p.two, rw p.are)

pub apply_gives : (functions : Terms) (n k : ℕ) (vs : Terms) (a : Applied functions n k vs) → body_with vs (function_of functions k) ≡ some (bind (parameters 0 vs unbound) a.body)
unfolding body_with body_of
apply_gives functions n k vs a = rw a.function_is

pub case_two : (ts : Terms) (subject : Term) (clauses : Terms) → ts ≡ subject then clauses → case_gives ts ≡ first_clause subject clauses
unfolding case_gives
case_two ts subject clauses e = rw e

pub send_two : (whole : Term) (ts : Terms) (p : Pair ts) → send_work whole ts ≡ send_to whole p.one p.two
unfolding send_work
send_two whole ts p = rw p.are

module _ (c : List ℕ) (at : ℕ) where
  pub at_past : (r : Doing) → length c ≤ at → DoingAt c at r
  unfolding DoingAt
  at_past r h functions whole w s x = absurd (omega (arith, stands_within c at w s))

  pub stands_as : (functions : Terms) (w : Term) → Stands c at w → (x : Redex functions w) → Stands c at (node x.tag x.n x.k x.children)
  stands_as functions w s x = subst (Stands c at) x.is s

  head_is : (functions : Terms) (w : Term) → Stands c at w → (x : Redex functions w) → (tag_of (get_or c at 0) ≡ x.tag) × (k_of (get_or c at 0) ≡ x.k)
  head_is functions w s x =
      let st = stands_as functions w s x in
      let q = node_at c at 1 _ x.tag x.n x.k x.children end st.rest (head_of x.tag x.n x.k x.children st.plain) (one_term _) (as_row c at _ st.rest st.here) refl in
      (q.tag_is, q.k_is)

  module _ (t : ℕ) (et : t ≡ tag_of (get_or c at 0)) where
    pub tag_of_lem : (functions : Terms) (w : Term) → Stands c at w → (x : Redex functions w) → t ≡ x.tag
    tag_of_lem functions w s x = et ∙ (head_is functions w s x).0

    by : (functions : Terms) (whole w : Term) (x : Redex functions w) (r : Doing) → r ≡ doing_of (work_at functions whole (node x.tag x.n x.k x.children)) → r ≡ doing_of (work_at functions whole w)
    by functions whole w x r e = e ∙ sym (ap (λ (u : Term). doing_of (work_at functions whole u)) x.is)

    pub at_call : t ≡ tag_call → (r : Doing) → CallDoing c at r → DoingAt c at r
    unfolding DoingAt CallDoing
    at_call e r g functions whole w s x =
        let tg : x.tag ≡ tag_call = sym (tag_of_lem functions w s x) ∙ e in
        let p = x.of_call tg in
        let st : Stands c at (node tag_call x.n x.k (p.0.one then (p.0.two then end))) = subst (Stands c at) (ap₂ (λ (j : ℕ) (us : Terms). node j x.n x.k us) tg p.0.are) (stands_as functions w s x) in
        by functions whole w x r (g x.n x.k p.0.one p.0.two st p.1 p.2 ∙ ap doing_seq (sym (operate_two x.k x.children p.0)) ∙ sym (doing_seq_or whole (operate_on x.k x.children))
        ∙ ap doing_of (sym (work_call functions whole x.tag x.n x.k x.children tg)))

    at_apply : t ≡ tag_apply → DoingAt c at Seq
    unfolding DoingAt
    at_apply e functions whole w s x =
        let tg : x.tag ≡ tag_apply = sym (tag_of_lem functions w s x) ∙ e in
        let a = x.of_apply tg in
        by functions whole w x Seq (seq_some _ (bind (parameters 0 x.children unbound) a.body) (apply_gives functions x.n x.k x.children a) ∙ sym (doing_seq_or whole (body_with x.children (function_of functions x.k))) ∙ ap doing_of (sym (work_apply functions whole x.tag x.n x.k x.children tg)))

    pub at_case : t ≡ tag_case → (r : Doing) → CaseDoing c at r → DoingAt c at r
    unfolding DoingAt CaseDoing
    at_case e r g functions whole w s x =
        let tg : x.tag ≡ tag_case = sym (tag_of_lem functions w s x) ∙ e in
        let p = x.of_case tg in
        let st : Stands c at (node tag_case x.n x.k (p.0 then p.1)) = subst (Stands c at) (ap₂ (λ (j : ℕ) (us : Terms). node j x.n x.k us) tg p.2) (stands_as functions w s x) in
        by functions whole w x r (g x.n x.k p.0 p.1 st p.3 p.4 p.5 ∙ ap doing_seq (sym (case_two x.children p.0 p.1 p.2)) ∙ sym (doing_seq_or whole (case_gives x.children))
        ∙ ap doing_of (sym (work_case functions whole x.tag x.n x.k x.children tg)))

    at_let : t ≡ tag_let → DoingAt c at Seq
    unfolding DoingAt
    at_let e functions whole w s x =
        let tg : x.tag ≡ tag_let = sym (tag_of_lem functions w s x) ∙ e in
        let p = let_two x.k x.children (x.of_let tg).0 in
        by functions whole w x Seq (seq_some _ p.0 p.1 ∙ sym (doing_seq_or whole (let_gives x.k x.children)) ∙ ap doing_of (sym (work_let functions whole x.tag x.n x.k x.children tg)))

    pub at_seq : (t ≡ tag_apply) ⊎ (t ≡ tag_let) → DoingAt c at Seq
    at_seq (inl e) = at_apply e
    at_seq (inr e) = at_let e

    pub at_receive : t ≡ tag_receive → DoingAt c at Receive
    unfolding DoingAt
    at_receive e functions whole w s x = by functions whole w x Receive (work_receive functions whole x.tag x.n x.k x.children (sym (tag_of_lem functions w s x) ∙ e))

    pub at_spawn : t ≡ tag_spawn → DoingAt c at Spawn
    unfolding DoingAt
    at_spawn e functions whole w s x = by functions whole w x Spawn (work_spawn functions whole x.tag x.n x.k x.children (sym (tag_of_lem functions w s x) ∙ e))

    pub at_send : t ≡ tag_send → (r : Doing) → SendDoing c at r → DoingAt c at r
    unfolding DoingAt SendDoing
    at_send e r g functions whole w s x =
        let tg : x.tag ≡ tag_send = sym (tag_of_lem functions w s x) ∙ e in
        let p = x.of_send tg in
        let st : Stands c at (node tag_send x.n x.k (p.one then (p.two then end))) = subst (Stands c at) (ap₂ (λ (j : ℕ) (us : Terms). node j x.n x.k us) tg p.are) (stands_as functions w s x) in
        by functions whole w x r (g x.n x.k p.one p.two whole st ∙ ap doing_of (sym (send_two whole x.children p) ∙ sym (work_send functions whole x.tag x.n x.k x.children tg)))

    pub at_self : t ≡ tag_self → DoingAt c at Own
    unfolding DoingAt
    at_self e functions whole w s x = by functions whole w x Own (work_self functions whole x.tag x.n x.k x.children (sym (tag_of_lem functions w s x) ∙ e))

    pub at_check : t ≡ tag_check → (j : ℕ) → j ≡ k_of (get_or c at 0) → DoingAt c at (Check j)
    unfolding DoingAt
    at_check e j ej functions whole w s x =
        by functions whole w x (Check j) (ap Check (ej ∙ (head_is functions w s x).1) ∙ work_check functions whole x.tag x.n x.k x.children (sym (tag_of_lem functions w s x) ∙ e))

    pub at_other : ¬ (t ≡ tag_call) → ¬ ((t ≡ tag_apply) ⊎ (t ≡ tag_let)) → ¬ (t ≡ tag_case) → ¬ (t ≡ tag_receive) → ¬ (t ≡ tag_spawn) → ¬ (t ≡ tag_send) → ¬ (t ≡ tag_self) → ¬ (t ≡ tag_check) → DoingAt c at Stuck
    unfolding DoingAt
    at_other a b d f g h i j functions whole w s x =
        let q = tag_of_lem functions w s x in
        by functions whole w x Stuck (stuck_is ∙ ap doing_of (sym (work_other functions whole x.tag x.n x.k x.children
        (λ z. a (q ∙ z)) (λ z. b (inl (q ∙ z))) (λ z. d (q ∙ z)) (λ z. b (inr (q ∙ z))) (λ z. f (q ∙ z)) (λ z. g (q ∙ z)) (λ z. h (q ∙ z)) (λ z. i (q ∙ z)) (λ z. j (q ∙ z)))))

-- ---- a whole control
pub work_value : (functions : Terms) (t : Term) → is_value t ≡ true → work_of functions t ≡ finished
unfolding work_of
work_value functions t v = choose_true finished (work_at functions t (working t)) v

pub work_not : (functions : Terms) (t : Term) → is_value t ≡ false → work_of functions t ≡ work_at functions t (working t)
unfolding work_of
work_not functions t v = choose_false finished (work_at functions t (working t)) v

-- where `find` leads: past the end for a value, else to the working place
pub found_place : (c : List ℕ) (at : ℕ) (t : Term) → Finds c 0 1 (length c) at → words t ≡ c → Plain t → at ≡ cond (is_value t) (length c) (place_of t 0)
unfolding Finds place_among WholeAll count words_of
found_place c at t f e p = f (t then end) [] (plain_whole t p, tt) (omega arith) (sym e ∙ sym (append-nil (words t)) ∙ sym (append-nil (words t ++ [])))

finished_is : (w : Work) → w ≡ finished → Finished ≡ doing_of w
unfolding doing_of
finished_is w e = rw e

pub work_reads : (module' c : List ℕ) (t : Term) → term_of c ≡ t → work module' c ≡ work_of (terms_of module') t
unfolding work
work_reads module' c t e = ap (work_of (terms_of module')) e

module _ (c : List ℕ) where
  pub about_finished : PlaceIs c None → DoingOf c Finished
  unfolding DoingOf
  about_finished f module' t i = go (true_or_false (is_value t))
    where
      go : (is_value t ≡ true) ⊎ (is_value t ≡ false) → Finished ≡ doing_of (work module' c)
      go (inl v) = finished_is (work module' c) (work_reads module' c t i.read_as ∙ work_value (terms_of module') t v)
      go (inr v) =
          let p = found_place c f.0 t f.1 i.same_words i.plain ∙ cond_false (length c) (place_of t 0) v in
          absurd (omega (arith, p, f.2, stands_within c (place_of t 0) (working t) (working_stands t c i.same_words i.plain)))

  pub about_going : (at : ℕ) → PlaceIs c (Some at) → (r : Doing) → DoingAt c at r → DoingOf c r
  unfolding DoingOf DoingAt
  about_going at f r g module' t i = go (true_or_false (is_value t))
    where
      go : (is_value t ≡ true) ⊎ (is_value t ≡ false) → r ≡ doing_of (work module' c)
      go (inl v) = let p = found_place c at t f.0 i.same_words i.plain ∙ cond_true (length c) (place_of t 0) v in absurd (omega (arith, p, f.1))
      go (inr v) =
          let p = found_place c at t f.0 i.same_words i.plain ∙ cond_false (length c) (place_of t 0) v in
          let st : Stands c at (working t) = subst (λ (j : ℕ). Stands c j (working t)) (sym p) (working_stands t c i.same_words i.plain) in
          g (terms_of module') t (working t) st (i.redex v) ∙ ap doing_of (sym (work_not (terms_of module') t v) ∙ sym (work_reads module' c t i.read_as))
