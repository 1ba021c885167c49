-- What a step makes of a good control, in a good module.
use Prim.Native.Nat.{ℕ, ◌<◌, ◌≤◌}
use mathlib.Core.Path.{◌≡◌, refl, sym, ap, subst}
use mathlib.Core.Logic.{◌⊎◌, inl, inr}
use mathlib.Core.Bool.{Bool, true, false, cond}
use mathlib.Core.Option.{Option, none, some}
use mathlib.Core.List.{List}
use native.Mathlib.Omega.{arith}
use lib.Dec.{eqb}
use lib.ListN.{length, replicate}
use Rattle.lists.proofs.Tests.{eqb-true, eqb_apart, true_or_false, none_not_some, some_injective, choose_true, choose_false}
use Rattle.term.specs.Words.{tag_integer, tag_pid, tag_call, tag_apply, tag_case, tag_let, tag_receive, tag_spawn, tag_send, tag_self, tag_check}
use Rattle.term.specs.Table.{table, row_of, tags_at, k_limit, spots_below, spot_expression, spot_value}
use Rattle.lists.specs.Lists.{member}
use Rattle.term.specs.Binding.{keeps_rule}
use Rattle.term.proofs.Keep.{Keeps, KeepsAll}
use Rattle.term.specs.Tree.{Term, Terms, int, node, end, ◌then◌, words, words_of}
use Rattle.term.specs.Read.{term_of, terms_of}
use Rattle.term.specs.Module.{arities_of, function_of, check_module}
use Rattle.term.specs.Control.{module_arities}
use Rattle.machine.specs.Value.{is_value, atom, pid}
use Rattle.machine.specs.Operator.{operate_on}
use Rattle.machine.specs.Clauses.{first_clause}
use Rattle.machine.specs.Place.{entered, working, ready, replaced}
use Rattle.machine.specs.Work.{Work, finished, stuck, to_seq, to_send, to_receive, to_spawn, to_self, to_check, next, next_some, seq_or, body_with, case_gives, let_gives, send_to, send_work, work_at, work_of, work}
use Rattle.machine.specs.Laws.{PidIn, PidAmong, Holds, Good, GoodValue, AfterSeq, AfterSend, AfterReceive, AfterPid, AsChild, WorkLaws}
use Rattle.machine.proofs.Sits.{Sits, SitAll}
use Rattle.machine.proofs.Right.{Right, value_right}
use Rattle.machine.proofs.PlaceLaws.{Ready, working_right, working_ready, working_pid, working_size, replaced_right, replaced_pid, replaced_size}
use Rattle.machine.proofs.OperatorLaws.{operator_plain, atom_plain, pid_value}
use Rattle.machine.proofs.ClauseLaws.{Body}
use Rattle.machine.proofs.RowLaws.{passes_term, term_passes}
use Rattle.machine.proofs.ControlLaws.{Control, good_right, right_good, holds_term}
use Rattle.machine.proofs.ModuleLaws.{GoodModule, good_module}
use Rattle.machine.proofs.StepLaws.{values_below, first_two, child_right, apply_body, case_body, let_body, receive_body}

-- what is promised of the work of a control
module _ (module' : List ℕ) (places : ℕ) (control : List ℕ) where
  unfoldable Fine : Work → Type 0
  Fine finished = Unit {0}
  Fine stuck = Unit {0}
  Fine (to_seq next) = AfterSeq module' places control next
  Fine (to_send target value next) = AfterSend module' places control target value next
  Fine (to_receive takes) = (value next : List ℕ) → GoodValue module' places value → takes value ≡ some next → AfterReceive module' places control value next
  Fine (to_spawn child next) = AsChild module' places control child × ((p : ℕ) → p < places → AfterPid module' places control (next p) p)
  Fine (to_self next) = (p : ℕ) → p < places → AfterPid module' places control (next p) p
  Fine (to_check number next) = AfterSeq module' places control next × (number ≤ 255)

  fine_either : (b : Bool) (x y : Work) → (b ≡ true → Fine x) → (b ≡ false → Fine y) → Fine (cond b x y)
  fine_either true x y f g = f refl
  fine_either false x y f g = g refl

module _ (module' : List ℕ) (places : ℕ) (some_place : eqb places 0 ≡ false) (few_places : places ≤ 65536) (good : GoodModule (terms_of module')) (control : List ℕ) (whole : Control places (arities_of (terms_of module')) control) where
  abbrev functions : Terms
  functions = terms_of module'

  abbrev arities : List ℕ
  arities = arities_of functions

  abbrev t : Term
  t = term_of control

  -- the whole with something right in the working place
  next_good : (new : Term) → Right places arities new → Good module' places (next t new)
  unfolding Good next module_arities
  next_good new r = right_good places arities few_places (replaced t new) (replaced_right places arities t new r whole.right)

  next_pids : (new : Term) → Right places arities new → (q : ℕ) → Holds (next t new) q → Holds control q ⊎ PidIn q new
  unfolding Holds next
  next_pids new r q h = replaced_pid q t new (holds_term places arities few_places (replaced t new) spot_expression q (replaced_right places arities t new r whole.right).sits h)

  after_seq : (new : Term) → Right places arities new → ((q : ℕ) → PidIn q new → PidIn q t) → AfterSeq module' places control (next t new)
  unfolding Holds
  after_seq new r f = record { good = next_good new r; pids = λ q h. elim (next_pids new r q h) [ inl a ↦ a | inr a ↦ f q a ] }

  same_length : length (words t) ≡ length control
  same_length = ap (λ (l : List ℕ). length l) whole.same_words

  after_pid : (p : ℕ) → p < places → AfterPid module' places control (next t (pid p)) p
  unfolding Holds PidIn PidAmong next words words_of
  after_pid p b =
      let r = value_right places arities (pid p) (pid_value places p b) in
      record {
        good = next_good (pid p) r;
        fits = (let s = replaced_size t (pid p) (omega arith) in let w : length (words t) ≡ length control = same_length in omega arith);
        pids = λ q h. elim (next_pids (pid p) r q h) [ inl a ↦ inl a | inr a ↦ elim a [ inl own ↦ inr (sym own.1) | inr among ↦ absurd among ] ];
      }

  fine_seq : (o : Option Term) → ((new : Term) → o ≡ some new → Body places arities (λ q. PidIn q t) new) → Fine module' places control (seq_or t o)
  unfolding Fine seq_or
  fine_seq none f = tt
  fine_seq (some new) f = let b = f new refl in after_seq new b.right b.pids

  -- a value in the working place, with its row
  value_row : (v : Term) → Sits places spot_value v → GoodValue module' places (words v)
  unfolding GoodValue
  value_row v h = term_passes places few_places v spot_value h

  -- a send of a value to a target that is one
  send_to_lem : (target v : Term) → Sits places spot_value target → Sits places spot_value v → ((q : ℕ) → PidIn q target → PidIn q t) → ((q : ℕ) → PidIn q v → PidIn q t) → Fine module' places control (send_to t target v)
  unfolding Fine send_to Holds PidIn Sits k_limit
  send_to_lem (int x) v h g f i = tt
  send_to_lem (node tag n k ts) v h g f i = elim (true_or_false (eqb tag tag_pid)) [
    | inl e ↦ subst (Fine module' places control) (sym (choose_true (to_send k (words v) (next t v)) stuck e)) (sent e)
    | inr e ↦ subst (Fine module' places control) (sym (choose_false (to_send k (words v) (next t v)) stuck e)) tt
  ]
    where
      sent : eqb tag tag_pid ≡ true → AfterSend module' places control k (words v) (next t v)
      sent e =
          let s = after_seq v (value_right places arities v g) i in
          record {
            good = s.good;
            good_value = value_row v g;
            pids = s.pids;
            value_pids = λ q p. i q (holds_term places arities few_places v spot_value q g p);
            target_pid = f k (inl (eqb-true tag tag_pid e, refl));
            target_place = rw e at h.0.k_below;
          }

  send_fine : (n : ℕ) (us : Terms) → SitAll places us (replicate n spot_value) → ((q : ℕ) → PidAmong q us → PidIn q t) → Fine module' places control (send_work t us)
  unfolding Fine send_work PidAmong
  send_fine n end h f = tt
  send_fine n (target then end) h f = tt
  send_fine n (target then (v then us)) h f =
      let two = first_two places n spot_value target v us h in
      send_to_lem target v two.0 two.1 (λ q p. f q (inl p)) (λ q p. f q (inr (inl p)))

  -- what is done at the working place, by its tag
  module _ (n k : ℕ) (ts : Terms) where
    abbrev place : ℕ → Term
    place tag = node tag n k ts

    at_call : Right places arities (place tag_call) → Fine module' places control (seq_or t (operate_on k ts))
    at_call r = fine_seq (operate_on k ts) (λ new e. let p = operator_plain places k ts new e in record { right = value_right places arities new p.value; pids = λ q i. absurd (p.no_pids q i) })

    module _ (within : (q : ℕ) → PidAmong q ts → PidIn q t) where
      body_within : (new : Term) → Body places arities (λ q. PidAmong q ts) new → Body places arities (λ q. PidIn q t) new
      body_within new b = record { right = b.right; pids = λ q i. within q (b.pids q i) }

      at_apply : Right places arities (place tag_apply) → ready ts (entered tag_apply ts) ≡ true → Fine module' places control (seq_or t (body_with ts (function_of functions k)))
      at_apply r h = fine_seq (body_with ts (function_of functions k)) (λ new e. body_within new (apply_body places few_places some_place functions good n k ts new r h e))

      at_case : Right places arities (place tag_case) → ready ts (entered tag_case ts) ≡ true → Fine module' places control (seq_or t (case_gives ts))
      at_case r h = fine_seq (case_gives ts) (λ new e. body_within new (case_body places few_places some_place functions good n k ts new r h e))

      at_let : Right places arities (place tag_let) → ready ts (entered tag_let ts) ≡ true → Fine module' places control (seq_or t (let_gives k ts))
      at_let r h = fine_seq (let_gives k ts) (λ new e. body_within new (let_body places few_places some_place functions good n k ts new r h e))

      taken : (value : List ℕ) (o : Option Term) (next : List ℕ) → ((new : Term) → o ≡ some new → Body places arities (λ q. PidAmong q ts ⊎ PidIn q (term_of value)) new) → next_some t o ≡ some next → AfterReceive module' places control value next
      unfolding next_some Holds
      taken value none row f e = none_not_some e
      taken value (some new) row f e =
          let b = f new refl in
          rw (← some_injective e) record {
            good = next_good new b.right;
            pids = λ q h. elim (next_pids new b.right q h) [ inl a ↦ inl a | inr a ↦ elim (b.pids q a) [ inl c ↦ inl (within q c) | inr c ↦ inr c ] ];
          }

      at_receive : Right places arities (place tag_receive) → Fine module' places control (to_receive (λ v. next_some t (first_clause (term_of v) ts)))
      unfolding Fine GoodValue
      at_receive r value row h e =
          let o = passes_term places spot_value value h in
          taken value (first_clause (term_of value) ts) row (λ new i. receive_body places few_places some_place functions good n k ts (term_of value) new r o.sits i) e

      at_spawn : Right places arities (place tag_spawn) → length (words (place tag_spawn)) ≤ length (words t) → Fine module' places control (to_spawn (words (node tag_apply n k ts)) (λ p. next t (pid p)))
      unfolding Fine words Holds Good module_arities PidIn
      at_spawn r b =
          let c = child_right places arities n k ts r in (
            record {
              good = right_good places arities few_places (node tag_apply n k ts) c;
              fits = (let w = same_length in omega arith);
              pids = λ q h. elim (holds_term places arities few_places (node tag_apply n k ts) spot_expression q c.sits h) [ inl own ↦ (let z : tag_apply ≡ tag_pid = own.0 in absurd (omega arith)) | inr among ↦ within q among ];
            },
            after_pid,
          )

      at_send : Right places arities (place tag_send) → ready ts (entered tag_send ts) ≡ true → Fine module' places control (send_work t ts)
      unfolding entered row_of table
      at_send r h = send_fine n ts (values_below places arities tag_send n k ts r h refl refl) within

      at_check : Right places arities (place tag_check) → Fine module' places control (to_check k (next t (atom k)))
      unfolding Fine Sits k_limit row_of table
      at_check r =
          let b : k < 256 = r.sits.0.k_below in
          let p = atom_plain places k b in
          (after_seq (atom k) (value_right places arities (atom k) p.value) (λ q i. absurd (p.no_pids q i)), omega arith)

  at_place : (w : Term) → Right places arities w → Ready w → ((q : ℕ) → PidIn q w → PidIn q t) → length (words w) ≤ length (words t) → Fine module' places control (work_at functions t w)
  unfolding work_at Fine Ready PidIn
  at_place (int x) r h f b = tt
  at_place (node tag n k ts) r h f b =
      let within : (q : ℕ) → PidAmong q ts → PidIn q t = λ q p. f q (inr p) in
      let either = fine_either module' places control in
      either (eqb tag tag_call) _ _ (λ e. at_call n k ts (rw (eqb-true tag tag_call e) at r)) λ _.
      either (eqb tag tag_apply) _ _ (λ e. at_apply n k ts within (rw (eqb-true tag tag_apply e) at r) (rw (eqb-true tag tag_apply e) at h.1)) λ _.
      either (eqb tag tag_case) _ _ (λ e. at_case n k ts within (rw (eqb-true tag tag_case e) at r) (rw (eqb-true tag tag_case e) at h.1)) λ _.
      either (eqb tag tag_let) _ _ (λ e. at_let n k ts within (rw (eqb-true tag tag_let e) at r) (rw (eqb-true tag tag_let e) at h.1)) λ _.
      either (eqb tag tag_receive) _ _ (λ e. at_receive n k ts within (rw (eqb-true tag tag_receive e) at r)) λ _.
      either (eqb tag tag_spawn) _ _ (λ e. at_spawn n k ts within (rw (eqb-true tag tag_spawn e) at r) (rw (eqb-true tag tag_spawn e) at b)) λ _.
      either (eqb tag tag_send) _ _ (λ e. at_send n k ts within (rw (eqb-true tag tag_send e) at r) (rw (eqb-true tag tag_send e) at h.1)) λ _.
      either (eqb tag tag_self) _ _ (λ e. after_pid) λ _.
      either (eqb tag tag_check) _ _ (λ e. at_check n k ts within (rw (eqb-true tag tag_check e) at r)) λ _. tt

  fine_work : Fine module' places control (work module' control)
  unfolding work work_of Fine
  fine_work = elim (true_or_false (is_value t)) [
    | inl e ↦ subst (Fine module' places control) (sym (choose_true finished (work_at functions t (working t)) e)) tt
    | inr e ↦ subst (Fine module' places control) (sym (choose_false finished (work_at functions t (working t)) e)) (
        at_place (working t) (working_right places arities t whole.right) (working_ready t e) (λ q p. working_pid q t p) (working_size t))
  ]

-- the first control, `apply 0()`
abbrev first_term : Term
first_term = node tag_apply 0 0 end

first_right : (places : ℕ) (functions : Terms) → GoodModule functions → Right places (arities_of functions) first_term
unfolding Sits SitAll Keeps KeepsAll keeps_rule tags_at member row_of table k_limit spots_below
first_right places functions good = record {
  sits = (record { no_integer = λ e. let z : tag_apply ≡ tag_integer = e in absurd (omega arith); tag_there = refl; least_n = omega arith; greatest_n = omega arith; k_below = omega arith }, tt);
  keeps = (good.first_named, tt);
}

module _ (module' : List ℕ) (places : ℕ) (checked : check_module module' ≡ none) (one_place : 1 ≤ places) (few_places : places ≤ 65536) where
  fine : (control : List ℕ) → Good module' places control → Fine module' places control (work module' control)
  unfolding Good module_arities
  fine control g =
      let good = good_module module' checked in
      fine_work module' places (eqb_apart places 0 (λ e. absurd (omega arith))) few_places good control (good_right places (arities_of (terms_of module')) few_places control g)

  -- the work of a good control, where it is known
  fine_as : {w : Work} (control : List ℕ) → Good module' places control → work module' control ≡ w → Fine module' places control w
  fine_as control g e = subst (Fine module' places control) e (fine control g)

  pub work_laws : WorkLaws module' places
  unfolding Fine Good Holds module_arities words words_of PidIn PidAmong
  work_laws =
      let good = good_module module' checked in
      let r = first_right places (terms_of module') good in
      record {
        first_good = right_good places (arities_of (terms_of module')) few_places first_term r;
        first_pids = λ q h. elim (holds_term places (arities_of (terms_of module')) few_places first_term spot_expression q r.sits h) [ inl own ↦ (let z : tag_apply ≡ tag_pid = own.0 in absurd (omega arith)) | inr among ↦ among ];
        seq = λ {control} g e. fine_as control g e;
        send = λ {control} g e. fine_as control g e;
        receive = λ {control} {value} {next} g v e t. fine_as control g e value next v t;
        spawn = λ {control} g e. (fine_as control g e).0;
        spawn_next = λ {control} p b g e. (fine_as control g e).1 p b;
        self = λ {control} p b g e. fine_as control g e p b;
        check = λ {control} g e. fine_as control g e;
      }
