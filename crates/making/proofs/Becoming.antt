-- What a control becomes at a self, a spawn or a check: it has one word more in its working place.
use Prim.Native.Nat.{ℕ}
use mathlib.Core.Path.{◌≡◌, refl, sym, ◌∙◌, subst}
use mathlib.Core.Logic.{inl, inr}
use mathlib.Core.Bool.{Bool, true, false, cond}
use mathlib.Core.Option.{Option, none, some}
use mathlib.Core.List.{List, [], ◌∷◌}
use native.Mathlib.Omega.{arith}
use lib.Dec.{eqb}
use Rattle.lists.proofs.Tests.{true_or_false}
use Rattle.term.specs.Words.{word, tag_atom, tag_pid, tag_call, tag_apply, tag_case, tag_let, tag_receive, tag_spawn, tag_send, tag_self, tag_check}
use Rattle.term.specs.Tree.{Term, Terms, int, node, end, ◌then◌, words, words_of}
use Rattle.term.specs.Read.{term_of, terms_of}
use Rattle.term.specs.Module.{function_of}
use Rattle.term.specs.Value.{is_value}
use Rattle.machine.specs.Value.{atom, pid}
use Rattle.machine.specs.Operator.{operate_on}
use Rattle.machine.specs.Place.{working}
use Rattle.machine.specs.Work.{Work, finished, stuck, to_seq, to_send, to_receive, to_spawn, to_self, to_check, next, seq_or, body_with, case_gives, let_gives, send_to, send_work, work_at, work}
use Rattle.step.proofs.RowWork.{work_reads, work_not, work_value}

unfoldable OneWord : Term → Work → Type 0
OneWord whole finished = Unit {0}
OneWord whole stuck = Unit {0}
OneWord whole (to_seq row) = Unit {0}
OneWord whole (to_send target value row) = Unit {0}
OneWord whole (to_receive takes) = Unit {0}
OneWord whole (to_spawn child rows) = (q : ℕ) → rows q ≡ next whole (pid q)
OneWord whole (to_self rows) = (q : ℕ) → rows q ≡ next whole (pid q)
OneWord whole (to_check number row) = row ≡ next whole (atom number)

pub either : (P : Work → Type 0) (b : Bool) (w w' : Work) → P w → P w' → P (cond b w w')
either P true w w' x y = x
either P false w w' x y = y

seq_so : (whole : Term) (o : Option Term) → OneWord whole (seq_or whole o)
unfolding seq_or OneWord
seq_so whole none = tt
seq_so whole (some t) = tt

send_to_so : (whole target v : Term) → OneWord whole (send_to whole target v)
unfolding send_to OneWord
send_to_so whole (int x) v = tt
send_to_so whole (node tag n k ts) v = go (eqb tag tag_pid)
  where
    go : (b : Bool) → OneWord whole (elim b [ true ↦ to_send k (words v) (next whole v) | false ↦ stuck ])
    go true = tt
    go false = tt

send_so : (whole : Term) (ts : Terms) → OneWord whole (send_work whole ts)
unfolding send_work OneWord
send_so whole end = tt
send_so whole (t then end) = tt
send_so whole (t then (v then ts)) = send_to_so whole t v

at_so : (functions : Terms) (whole w : Term) → OneWord whole (work_at functions whole w)
unfolding work_at OneWord
at_so functions whole (int x) = tt
at_so functions whole (node tag n k ts) =
    either (OneWord whole) (eqb tag tag_call) _ _ (seq_so whole (operate_on k ts))
    (either (OneWord whole) (eqb tag tag_apply) _ _ (seq_so whole (body_with ts (function_of functions k)))
    (either (OneWord whole) (eqb tag tag_case) _ _ (seq_so whole (case_gives ts))
    (either (OneWord whole) (eqb tag tag_let) _ _ (seq_so whole (let_gives k ts))
    (either (OneWord whole) (eqb tag tag_receive) _ (cond (eqb tag tag_spawn) _ _) tt
    (either (OneWord whole) (eqb tag tag_spawn) _ _ (λ q. refl)
    (either (OneWord whole) (eqb tag tag_send) _ _ (send_so whole ts)
    (either (OneWord whole) (eqb tag tag_self) _ _ (λ q. refl)
    (either (OneWord whole) (eqb tag tag_check) _ _ refl tt))))))))

module _ (module' c : List ℕ) where
  -- a control that is a value is about to do nothing
  pub no_value : {w : Work} → work module' c ≡ w → ¬ (w ≡ finished) → is_value (term_of c) ≡ false
  no_value {w} e d = elim (true_or_false (is_value (term_of c))) [
    | inl y ↦ absurd (d (sym e ∙ work_reads module' c (term_of c) refl ∙ work_value (terms_of module') (term_of c) y))
    | inr y ↦ y
  ]

  work_so : {w : Work} → work module' c ≡ w → ¬ (w ≡ finished) → OneWord (term_of c) w
  work_so {w} e d =
      subst (OneWord (term_of c)) (sym (work_not (terms_of module') (term_of c) (no_value e d)) ∙ sym (work_reads module' c (term_of c) refl) ∙ e) (at_so (terms_of module') (term_of c) (working (term_of c)))

  pub self_becomes : (rows : ℕ → List ℕ) → work module' c ≡ to_self rows → (is_value (term_of c) ≡ false) × ((q : ℕ) → rows q ≡ next (term_of c) (pid q))
  unfolding OneWord
  self_becomes rows e =
      let d : ¬ (to_self rows ≡ finished) = λ x. (let z : ◌≡◌ {A = ℕ} 0 1 = cc in absurd (omega arith)) in
      (no_value e d, work_so e d)

  pub spawn_becomes : (first : List ℕ) (rows : ℕ → List ℕ) → work module' c ≡ to_spawn first rows → (is_value (term_of c) ≡ false) × ((q : ℕ) → rows q ≡ next (term_of c) (pid q))
  unfolding OneWord
  spawn_becomes first rows e =
      let d : ¬ (to_spawn first rows ≡ finished) = λ x. (let z : ◌≡◌ {A = ℕ} 0 1 = cc in absurd (omega arith)) in
      (no_value e d, work_so e d)

  pub check_becomes : (number : ℕ) (row : List ℕ) → work module' c ≡ to_check number row → (is_value (term_of c) ≡ false) × (row ≡ next (term_of c) (atom number))
  unfolding OneWord
  check_becomes number row e =
      let d : ¬ (to_check number row ≡ finished) = λ x. (let z : ◌≡◌ {A = ℕ} 0 1 = cc in absurd (omega arith)) in
      (no_value e d, work_so e d)

-- a pid and an atom are one word
pub pid_word : (q : ℕ) → words (pid q) ≡ word tag_pid 0 q ∷ []
unfolding words words_of
pid_word q = refl

pub atom_word : (k : ℕ) → words (atom k) ≡ word tag_atom 0 k ∷ []
unfolding words words_of
atom_word k = refl
