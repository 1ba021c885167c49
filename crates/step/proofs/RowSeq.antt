-- Laws of a seq step of a whole control.
use Prim.Native.Nat.{ℕ}
use mathlib.Core.Path.{◌≡◌, refl, sym, ap, ap₂, ◌∙◌, subst}
use mathlib.Core.Logic.{◌⊎◌, inl, inr}
use mathlib.Core.Bool.{Bool, true, false, cond}
use mathlib.Core.Option.{Option, none, some}
use mathlib.Core.List.{List}
use native.Mathlib.Omega.{arith}
use lib.Dec.{eqb}
use lib.ListN.{length, get_or}
use Rattle.std.specs.Prelude.{None, Err}
use Rattle.lists.proofs.Tests.{true_or_false, cond_false, eqb_apart}
use Rattle.term.specs.Words.{tag_of, tag_pid, tag_call, tag_apply, tag_case, tag_let, tag_receive, tag_spawn, tag_send, tag_self, tag_check}
use Rattle.term.specs.Tree.{Term, Terms, int, node, end, ◌then◌, words}
use Rattle.term.specs.Read.{terms_of}
use Rattle.term.specs.Value.{is_value}
use Rattle.term.specs.Module.{function_of}
use Rattle.machine.specs.Operator.{operate}
use Rattle.machine.specs.Match.{unbound, with}
use Rattle.machine.specs.Bind.{bind, parameters}
use Rattle.machine.specs.Clauses.{first_clause}
use Rattle.machine.specs.Place.{working}
use Rattle.machine.specs.Work.{Work, finished, stuck, to_send, next, next_some, seq_or, let_gives, send_to, send_work, work_at, work}
use Rattle.row_laws.specs.Rows.{Stands}
use Rattle.copying.specs.Places.{Finds, PlaceIs}
use Rattle.copying.specs.Nexts.{row_with}
use Rattle.step.specs.Steps.{Next, NextIs, CallNext, CaseNext, LetNext, ApplyNext}
use Rattle.step.specs.Controls.{Pair, Redex, ControlIs}
use Rattle.step.specs.Becomes.{RowIs, SeqIs, SeqNext}
use Rattle.step.specs.declared.step.NoNext.TheVariants.{Nothing}
use Rattle.row_laws.proofs.RowTerms.{stands_within}
use Rattle.step.proofs.RowWork.{work_reads, work_not, work_value, work_call, work_apply, work_case, work_let, operate_two, case_two, apply_gives, tag_of_lem}
use Rattle.step.proofs.RowBecomes.{stands_there, row_is, as_row_is}

seq_row : (whole : Term) (o : Option Term) (old new : List ℕ) (r : Next) → RowIs (next_some whole o) old new r → SeqIs (seq_or whole o) old new r
unfolding RowIs SeqIs next_some seq_or
seq_row whole none old new r h = h
seq_row whole (some u) old new r h = h

as_seq : (c : List ℕ) (at : ℕ) (w whole : Term) (o : Option Term) (old new : List ℕ) (r : Next) → ((u : Term) → row_with c at w (words u) ≡ next whole u) → NextIs c at w o old new r → SeqIs (seq_or whole o) old new r
as_seq c at w whole o old new r e h = seq_row whole o old new r (as_row_is c at w whole o old new r e h)

-- where nothing was written, any work but a seq step is told rightly
quiet_either : (b : Bool) (w w' : Work) (old : List ℕ) → SeqIs w old old (Err Nothing) → SeqIs w' old old (Err Nothing) → SeqIs (cond b w w') old old (Err Nothing)
quiet_either true w w' old p q = p
quiet_either false w w' old p q = q

quiet_send_to : (whole target v : Term) (old : List ℕ) → SeqIs (send_to whole target v) old old (Err Nothing)
unfolding send_to SeqIs
quiet_send_to whole (int x) v old = (refl, refl)
quiet_send_to whole (node tag n k ts) v old = go (eqb tag tag_pid)
  where
    go : (b : Bool) → SeqIs (elim b [ true ↦ to_send k (words v) (next whole v) | false ↦ stuck ]) old old (Err Nothing)
    go true = tt
    go false = (refl, refl)

quiet_send : (whole : Term) (ts : Terms) (old : List ℕ) → SeqIs (send_work whole ts) old old (Err Nothing)
unfolding send_work SeqIs
quiet_send whole end old = (refl, refl)
quiet_send whole (t then end) old = (refl, refl)
quiet_send whole (t then (v then ts)) old = quiet_send_to whole t v old

quiet : (functions : Terms) (whole : Term) (tag n k : ℕ) (ts : Terms) (old : List ℕ) → ¬ (tag ≡ tag_call) → ¬ (tag ≡ tag_apply) → ¬ (tag ≡ tag_case) → ¬ (tag ≡ tag_let)
    → SeqIs (work_at functions whole (node tag n k ts)) old old (Err Nothing)
unfolding work_at SeqIs
quiet functions whole tag n k ts old a b d e =
    subst (λ (w : Work). SeqIs w old old (Err Nothing))
    (sym (cond_false _ _ (eqb_apart tag tag_call a) ∙ cond_false _ _ (eqb_apart tag tag_apply b) ∙ cond_false _ _ (eqb_apart tag tag_case d) ∙ cond_false _ _ (eqb_apart tag tag_let e)))
    (quiet_either (eqb tag tag_receive) _ _ old tt (quiet_either (eqb tag tag_spawn) _ _ old tt (quiet_either (eqb tag tag_send) _ _ old (quiet_send whole ts old)
    (quiet_either (eqb tag tag_self) _ _ old tt (quiet_either (eqb tag tag_check) _ _ old tt (refl, refl))))))

value_quiet : (old new : List ℕ) (r : Next) → SeqIs finished old new r
unfolding SeqIs
value_quiet old new r = tt

let_gives_lem : (k : ℕ) (ts : Terms) (p : Pair ts) → let_gives k ts ≡ some (bind (with k p.one unbound) p.two)
unfolding let_gives
let_gives_lem k ts p = rw p.are

module _ (module' c : List ℕ) (at : ℕ) (f : Finds c 0 1 (length c) at) (old : List ℕ) where
  -- it is enough to look at the working place of a control that is no value
  at_place : (new : List ℕ) (r : Next) (functions : Terms) (t : Term) → ControlIs (terms_of module') c t
      → ((y : is_value t ≡ false) (x : Redex (terms_of module') (working t)) → Stands c at (working t) → ((u : Term) → row_with c at (working t) (words u) ≡ next t u) → SeqIs (work_at (terms_of module') t (node x.tag x.n x.k x.children)) old new r)
      → SeqIs (work module' c) old new r
  at_place new r functions t i g = go (true_or_false (is_value t))
    where
      go : (is_value t ≡ true) ⊎ (is_value t ≡ false) → SeqIs (work module' c) old new r
      go (inl y) = subst (λ (w : Work). SeqIs w old new r) (sym (work_reads module' c t i.read_as ∙ work_value (terms_of module') t y)) (value_quiet old new r)
      go (inr y) =
          let x = i.redex y in
          subst (λ (w : Work). SeqIs w old new r) (sym (work_reads module' c t i.read_as ∙ work_not (terms_of module') t y ∙ ap (work_at (terms_of module') t) x.is))
          (g y x (stands_there c at f (terms_of module') t i y) (row_is c at f (terms_of module') t i y))

  module _ (g : ℕ) (eg : g ≡ tag_of (get_or c at 0)) where
    pub seq_call : g ≡ tag_call → (new : List ℕ) (r : Next) → CallNext c at old new r → SeqNext module' c old new r
    unfolding SeqNext CallNext
    seq_call e new r h functions t m i = at_place new r functions t i (λ y x s rows.
        let tg : x.tag ≡ tag_call = sym (tag_of_lem c at g eg (terms_of module') (working t) s x) ∙ e in
        let p = x.of_call tg in
        let w : working t ≡ node tag_call x.n x.k (p.0.one then (p.0.two then end)) = x.is ∙ ap₂ (λ (j : ℕ) (us : Terms). node j x.n x.k us) tg p.0.are in
        let q = h x.n x.k p.0.one p.0.two (subst (Stands c at) w s) p.1 p.2 in
        subst (λ (z : Work). SeqIs z old new r) (ap (seq_or t) (sym (operate_two x.k x.children p.0)) ∙ sym (work_call (terms_of module') t x.tag x.n x.k x.children tg))
        (as_seq c at _ t (operate x.k p.0.one p.0.two) old new r (λ u. ap (λ (z : Term). row_with c at z (words u)) (sym w) ∙ rows u) q))

    pub seq_apply : g ≡ tag_apply → (new : List ℕ) (r : Next) → ApplyNext module' c at old new r → SeqNext module' c old new r
    unfolding SeqNext ApplyNext
    seq_apply e new r h functions t m i = at_place new r functions t i (λ y x s rows.
        let tg : x.tag ≡ tag_apply = sym (tag_of_lem c at g eg (terms_of module') (working t) s x) ∙ e in
        let a = x.of_apply tg in
        let fe : function_of functions x.k ≡ some (node a.tag a.m a.j (a.body then end)) = ap (λ (fs : Terms). function_of fs x.k) (sym m.read_as) ∙ a.function_is in
        let w : working t ≡ node tag_apply x.n x.k x.children = x.is ∙ ap (λ (j : ℕ). node j x.n x.k x.children) tg in
        let q = h functions x.n x.k a.tag a.m a.j x.children a.body m (subst (Stands c at) w s) a.all a.few fe in
        subst (λ (z : Work). SeqIs z old new r) (ap (seq_or t) (sym (apply_gives (terms_of module') x.n x.k x.children a)) ∙ sym (work_apply (terms_of module') t x.tag x.n x.k x.children tg))
        (as_seq c at _ t (some (bind (parameters 0 x.children unbound) a.body)) old new r (λ u. ap (λ (z : Term). row_with c at z (words u)) (sym w) ∙ rows u) q))

    pub seq_case : g ≡ tag_case → (new : List ℕ) (r : Next) → CaseNext c at old new r → SeqNext module' c old new r
    unfolding SeqNext CaseNext
    seq_case e new r h functions t m i = at_place new r functions t i (λ y x s rows.
        let tg : x.tag ≡ tag_case = sym (tag_of_lem c at g eg (terms_of module') (working t) s x) ∙ e in
        let p = x.of_case tg in
        let w : working t ≡ node tag_case x.n x.k (p.0 then p.1) = x.is ∙ ap₂ (λ (j : ℕ) (us : Terms). node j x.n x.k us) tg p.2 in
        let q = h x.n x.k p.0 p.1 (subst (Stands c at) w s) p.3 p.4 p.5 in
        subst (λ (z : Work). SeqIs z old new r) (ap (seq_or t) (sym (case_two x.children p.0 p.1 p.2)) ∙ sym (work_case (terms_of module') t x.tag x.n x.k x.children tg))
        (as_seq c at _ t (first_clause p.0 p.1) old new r (λ u. ap (λ (z : Term). row_with c at z (words u)) (sym w) ∙ rows u) q))

    pub seq_let : g ≡ tag_let → (new : List ℕ) (r : Next) → LetNext c at old new r → SeqNext module' c old new r
    unfolding SeqNext LetNext
    seq_let e new r h functions t m i = at_place new r functions t i (λ y x s rows.
        let tg : x.tag ≡ tag_let = sym (tag_of_lem c at g eg (terms_of module') (working t) s x) ∙ e in
        let p = x.of_let tg in
        let w : working t ≡ node tag_let x.n x.k (p.0.one then (p.0.two then end)) = x.is ∙ ap₂ (λ (j : ℕ) (us : Terms). node j x.n x.k us) tg p.0.are in
        let q = h x.n x.k p.0.one p.0.two (subst (Stands c at) w s) p.1 p.2 in
        subst (λ (z : Work). SeqIs z old new r) (ap (seq_or t) (sym (let_gives_lem x.k x.children p.0)) ∙ sym (work_let (terms_of module') t x.tag x.n x.k x.children tg))
        (as_seq c at _ t (some (bind (with x.k p.0.one unbound) p.0.two)) old new r (λ u. ap (λ (z : Term). row_with c at z (words u)) (sym w) ∙ rows u) q))

    pub seq_other : ¬ (g ≡ tag_call) → ¬ (g ≡ tag_apply) → ¬ (g ≡ tag_case) → ¬ (g ≡ tag_let) → SeqNext module' c old old (Err Nothing)
    unfolding SeqNext
    seq_other a b d e functions t m i = at_place old (Err Nothing) functions t i (λ y x s rows.
        let q = tag_of_lem c at g eg (terms_of module') (working t) s x in
        quiet (terms_of module') t x.tag x.n x.k x.children old (λ z. a (q ∙ z)) (λ z. b (q ∙ z)) (λ z. d (q ∙ z)) (λ z. e (q ∙ z)))

pub seq_past : (module' c old : List ℕ) (r : Next) → PlaceIs c None → r ≡ Err Nothing → SeqNext module' c old old r
unfolding SeqNext
seq_past module' c old r p e functions t m i = subst (SeqIs (work module' c) old old) (sym e) (at_place module' c p.0 p.1 old old (Err Nothing) functions t i (λ y x s rows. absurd (omega (arith, p.2, stands_within c p.0 (working t) s))))
