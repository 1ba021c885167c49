-- Good modules and good controls are what the functions of this crate ask for; so is what a good control sends.
use Prim.Native.Nat.{ℕ, zero, suc, ◌≤◌}
use mathlib.Core.Path.{◌≡◌, refl}
use mathlib.Core.Bool.{true}
use mathlib.Core.Option.{none}
use mathlib.Core.List.{List}
use native.Mathlib.Omega.{arith}
use lib.ListN.{replicate}
use Rattle.term.specs.Table.{spot_function, spot_expression, spot_value}
use Rattle.term.specs.Read.{terms_of, term_of}
use Rattle.term.specs.Module.{arities_of, check_module}
use Rattle.term.specs.Control.{good_control, module_arities}
use Rattle.term.proofs.GoodLaws
use Rattle.machine.specs.Place.{working}
use Rattle.machine.specs.Work.{work, to_send}
use Rattle.machine.specs.Laws.{GoodValue, Good}
use Rattle.machine.proofs.SitLaws.{value_is, lift}
use Rattle.machine.proofs.Right.{Right}
use Rattle.machine.proofs.RowLaws.{passes_term}
use Rattle.machine.proofs.PlaceLaws.{working_right, working_ready}
use Rattle.machine.proofs.ModuleLaws.{good_module}
use Rattle.machine.proofs.FitLaws.{fit_sits_all}
use Rattle.machine.proofs.ControlLaws.{good_right, right_good}
use Rattle.machine.proofs.WorkLaws.{work_laws}
use Rattle.step.specs.Steps.{ModuleIs}
use Rattle.step.specs.Controls.{ControlIs}
use Rattle.step.specs.Becomes.{ValueIs}
use Rattle.step.proofs.PlainTerms.{sits_plain, sits_plain_all}
use Rattle.step.proofs.Redexes.{right_redex}

pub control_ready : (module' control : List ℕ) (places : ℕ) → check_module module' ≡ none → places ≤ 65536 → good_control places (module_arities module') control ≡ true → ControlIs (terms_of module') control (term_of control)
unfolding module_arities
control_ready module' control places checked few_places good =
    let arities = arities_of (terms_of module') in
    let c = good_right places arities few_places control good in
    record {
      same_words = c.same_words;
      read_as = refl;
      plain = sits_plain places few_places (term_of control) spot_expression c.right.sits;
      redex = λ e. right_redex places few_places (terms_of module') (good_module module' checked) (working (term_of control)) (working_right places arities (term_of control) c.right) (working_ready (term_of control) e);
    }

pub module_ready : (module' : List ℕ) → check_module module' ≡ none → ModuleIs module' (terms_of module')
module_ready module' checked =
    let f = (GoodLaws.good_module module' checked).functions in
    let spots = replicate (suc f.others) spot_function in
    record {
      same_words = rw f.read_as f.same_words;
      read_as = refl;
      plain = rw f.read_as (sits_plain_all 0 (omega arith) f.terms spots (fit_sits_all 0 f.terms spots f.fit));
    }

-- the pids of no places are those of one place: there are none
one_place : (module' control : List ℕ) → good_control 0 (module_arities module') control ≡ true → good_control 1 (module_arities module') control ≡ true
one_place module' control good =
    let arities = module_arities module' in
    let c = good_right 0 arities (omega arith) control good in
    let r : Right 1 arities (term_of control) = record { sits = lift 1 spot_expression (term_of control) c.right.sits; keeps = c.right.keeps } in
    rw c.same_words at (right_good 1 arities (omega arith) (term_of control) r)

-- a row that is one value
pub value_ready : (module' value : List ℕ) (places : ℕ) → places ≤ 65536 → GoodValue module' places value → ValueIs value (term_of value)
unfolding GoodValue
value_ready module' value places few_places h =
    let o = passes_term places spot_value value h in
    record { same_words = o.same_words; read_as = refl; plain = sits_plain places few_places (term_of value) spot_value o.sits; value = value_is places (term_of value) o.sits }

sent_among : (module' control : List ℕ) (places target : ℕ) (value next : List ℕ) → check_module module' ≡ none → 1 ≤ places → places ≤ 65536 → good_control places (module_arities module') control ≡ true → work module' control ≡ to_send target value next → ValueIs value (term_of value)
unfolding Good
sent_among module' control places target value next checked some_place few_places good sends =
    value_ready module' value places few_places ((work_laws module' places checked some_place few_places).send good sends).good_value

pub sent_ready : (module' control : List ℕ) (places target : ℕ) (value next : List ℕ) → check_module module' ≡ none → places ≤ 65536 → good_control places (module_arities module') control ≡ true → work module' control ≡ to_send target value next → ValueIs value (term_of value)
sent_ready module' control zero target value next checked few_places good sends = sent_among module' control 1 target value next checked (omega arith) (omega arith) (one_place module' control good) sends
sent_ready module' control (suc places) target value next checked few_places good sends = sent_among module' control (suc places) target value next checked (omega arith) few_places good sends
