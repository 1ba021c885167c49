-- What a control is about to do says what stands at its working place: a receive, a spawn or a send, and what comes of it.
use Prim.Native.Nat.{ℕ}
use mathlib.Core.Path.{◌≡◌, refl, sym, ap, ◌∙◌, subst}
use mathlib.Core.Logic.{◌⊎◌, inl, inr}
use mathlib.Core.Bool.{Bool, true, false, cond}
use mathlib.Core.Option.{Option, none, some}
use mathlib.Core.List.{List}
use lib.Dec.{eqb}
use Rattle.lists.proofs.Tests.{true_or_false, eqb-true}
use Rattle.term.specs.Words.{tag_pid, tag_call, tag_apply, tag_case, tag_let, tag_receive, tag_spawn, tag_send, tag_self, tag_check}
use Rattle.term.specs.Tree.{Term, Terms, int, node, end, ◌then◌, words}
use Rattle.term.specs.Read.{term_of, terms_of}
use Rattle.term.specs.Value.{is_value}
use Rattle.term.specs.Module.{function_of}
use Rattle.machine.specs.Operator.{operate_on}
use Rattle.machine.specs.Clauses.{first_clause}
use Rattle.machine.specs.Place.{working}
use Rattle.machine.specs.Work.{Work, finished, stuck, to_seq, to_send, to_receive, to_spawn, to_self, to_check, next, next_some, seq_or, body_with, case_gives, let_gives, send_to, send_work, work_at, work}
use Rattle.step.specs.Controls.{Pair, Redex, ControlIs}
use Rattle.step.proofs.RowWork.{work_reads, work_not, work_value}

-- a term of this tag is worked on
pub record At (functions : Terms) (t : Term) (tag : ℕ) : Type 0 where
  pub no_value : is_value t ≡ false
  pub redex : Redex functions (working t)
  pub tag_is : redex.tag ≡ tag

-- the second child of a pair
second : (us : Terms) (one two : Term) (ts : Terms) → us ≡ one then (two then ts) → (p : Pair us) → p.two ≡ two
second us one two ts i p = let e = p.are in cc

module _ (functions : Terms) (t : Term) where
  unfoldable pub Comes : Work → Type 0
  Comes finished = Unit {0}
  Comes stuck = Unit {0}
  Comes (to_seq row) = Unit {0}
  Comes (to_send target value row) = (x : At functions t tag_send) × ((p : Pair x.redex.children) → (words p.two ≡ value) × (next t p.two ≡ row))
  Comes (to_receive takes) = (x : At functions t tag_receive) × ((v : List ℕ) → takes v ≡ next_some t (first_clause (term_of v) x.redex.children))
  Comes (to_spawn child rows) = (x : At functions t tag_spawn) × (words (node tag_apply x.redex.n x.redex.k x.redex.children) ≡ child)
  Comes (to_self rows) = Unit {0}
  Comes (to_check number row) = Unit {0}

  either : (b : Bool) (w w' : Work) → (b ≡ true → Comes w) → Comes w' → Comes (cond b w w')
  either true w w' p q = p refl
  either false w w' p q = q

  of_seq : (o : Option Term) → Comes (seq_or t o)
  unfolding seq_or Comes
  of_seq none = tt
  of_seq (some u) = tt

  module _ (y : is_value t ≡ false) (x : Redex functions (working t)) where
    abbrev at : (tag : ℕ) → eqb x.tag tag ≡ true → At functions t tag
    at tag e = record { no_value = y; redex = x; tag_is = eqb-true x.tag tag e }

    to_target : eqb x.tag tag_send ≡ true → (target v : Term) → ((p : Pair x.children) → p.two ≡ v) → Comes (send_to t target v)
    unfolding send_to Comes
    to_target e (int i) v same = tt
    to_target e (node tag n k ts) v same = go (eqb tag tag_pid)
      where
        go : (b : Bool) → Comes (elim b [ true ↦ to_send k (words v) (next t v) | false ↦ stuck ])
        go true = (at tag_send e, λ p. (ap words (same p), ap (next t) (same p)))
        go false = tt

    of_send : eqb x.tag tag_send ≡ true → (us : Terms) → x.children ≡ us → Comes (send_work t us)
    unfolding send_work Comes
    of_send e end i = tt
    of_send e (target then end) i = tt
    of_send e (target then (v then ts)) i = to_target e target v (second x.children target v ts i)

    comes_at : Comes (work_at functions t (node x.tag x.n x.k x.children))
    unfolding work_at Comes
    comes_at =
        either (eqb x.tag tag_call) _ _ (λ e. of_seq (operate_on x.k x.children))
        (either (eqb x.tag tag_apply) _ _ (λ e. of_seq (body_with x.children (function_of functions x.k)))
        (either (eqb x.tag tag_case) _ _ (λ e. of_seq (case_gives x.children))
        (either (eqb x.tag tag_let) _ _ (λ e. of_seq (let_gives x.k x.children))
        (either (eqb x.tag tag_receive) _ _ (λ e. (at tag_receive e, λ v. refl))
        (either (eqb x.tag tag_spawn) _ _ (λ e. (at tag_spawn e, refl))
        (either (eqb x.tag tag_send) _ _ (λ e. of_send e x.children refl)
        (either (eqb x.tag tag_self) _ _ (λ e. tt)
        (either (eqb x.tag tag_check) _ _ (λ e. tt) tt))))))))

pub comes : (module' c : List ℕ) (t : Term) (w : Work) → ControlIs (terms_of module') c t → work module' c ≡ w → Comes (terms_of module') t w
unfolding Comes
comes module' c t w i e = go (true_or_false (is_value t))
  where
    go : (is_value t ≡ true) ⊎ (is_value t ≡ false) → Comes (terms_of module') t w
    go (inl y) = subst (Comes (terms_of module') t) (sym (work_value (terms_of module') t y) ∙ sym (work_reads module' c t i.read_as) ∙ e) tt
    go (inr y) =
        let x = i.redex y in
        subst (Comes (terms_of module') t) (ap (work_at (terms_of module') t) (sym x.is) ∙ sym (work_not (terms_of module') t y) ∙ sym (work_reads module' c t i.read_as) ∙ e) (comes_at (terms_of module') t y x)
